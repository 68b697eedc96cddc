-- A group that has just begun has the invariant.
use Rattle.std.proofs.Common.{◌≡◌, ℕ, ◌<◌, ◌≤◌, [], refl, sym, arith, inl, inr, None, Some}
use Rattle.raft_model.specs.Group.{fresh_group, nothing_saved}
use Rattle.raft_model.specs.Replica.{fresh}
use Rattle.raft_safety.specs.History.{History}
use Rattle.raft_safety.specs.Replicas.{Stage, IsSound, Follows}
use Rattle.raft_safety.specs.Agreed.{BeginsKept}
use Rattle.raft_safety.specs.Invariant.{HasAnswer, IsHost, Secured}
use Rattle.raft_safety.proofs.Argument.Agreement.{agree_none}
use Rattle.raft_safety.proofs.Frame.Tables.{of_replicate}

-- the history of a group in which nothing has happened
abbrev nothing : History
nothing = record { vote = λ v t. 0; campaign = λ t c. []; floor = λ t c. 0; reigns = []; told = λ v t. 0; saving = λ v t. 0; answer = λ v t. 0; decided_in = λ k. 0; reach = λ k. 0 }

-- what a host of that group holds, at each of its stages
abbrev none : Stage
none = record { term = 0; vote = 0; commit = 0; front = 0; log = [] }

-- an empty log has no place
no_place : (k : ℕ) → 0 < k → k ≤ 0 → ⊥
no_place k a b = omega (arith, a, b)

-- what such a host holds is sound
first_sound : (v : ℕ) → IsSound nothing [] (λ v t. 0) v none
first_sound v = record {
  front = omega arith;
  commit = agree_none [] [];
  vote = λ some. absurd (some refl);
  matches = λ k a b. absurd (no_place k a b);
  terms = λ k a b. absurd (no_place k a b);
  keeps = λ R n c. absurd c.led;
  ahead = λ t l. refl;
}

-- and its stages follow each other
first_follows : Follows none none
first_follows = record { term = omega arith; vote = λ a b. refl; commit = omega arith; front = omega arith }

-- so the part of the invariant on one host holds of it
first_host : (Sec Ans : ℕ → ℕ → ℕ → Type 0) (v : ℕ) → IsHost nothing [] Sec Ans v nothing_saved fresh
first_host Sec Ans v = record {
  stands = record {
    saved = first_sound v;
    saving = first_sound v;
    now = first_sound v;
    first = first_follows;
    second = first_follows;
    later = λ t l. refl;
    taken = record { term = refl; vote = refl; commit = refl; front = refl; tail = inr (inl (omega arith)) };
    stable = omega arith;
    ends = omega arith;
    from = record { within = omega arith; same = refl };
    on_disk = record { within = omega arith; same = refl };
    candidate = λ e. absurd (cc);
    leader = λ e. absurd (cc);
  };
  held = tt;
  waiting = λ p e. absurd (cc);
  inbox = λ y is. absurd (let z : None ≡ Some y = is in (cc));
  covered = omega arith;
  based = (refl, refl, refl);
}

-- a group that has just begun has the invariant
pub first_kept : BeginsKept
first_kept number voters member = record {
  history = nothing;
  holds = record {
    tables = record { replicas = refl; saves = refl; up = refl };
    voters = member;
    common = record {
      reigns = λ R led. absurd led;
      later = tt;
      decided = λ k a b. absurd (no_place k a b);
      strict = λ k a b. absurd (no_place k a b);
      votes = λ v t c some e. absurd (some (sym e));
      campaigns = λ t c k m. inl (let e : k ≡ 0 = omega (arith, m) in rw e (omega arith));
      floored = λ t c. omega arith;
      floors = λ t c k a m e. absurd (no_place k a m);
      levels = λ v t. record { answer = omega arith; saving = omega arith };
      bounded = λ v t. inl refl;
    };
    hosts = λ v. rw (of_replicate 10 v nothing_saved) (rw (of_replicate 10 v fresh) (first_host (Secured (fresh_group number voters)) (HasAnswer []) v));
    wire = λ e on. absurd on;
  };
}
