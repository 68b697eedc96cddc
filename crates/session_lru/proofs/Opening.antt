-- How far a loop over the sessions of an image has come.
use Rattle.std.proofs.Common.{◌≡◌, ℕ, suc, ◌+◌, ◌-◌, ◌<◌, ◌≤◌, List, [], Ok, Err, length, drop, sym, ap, ◌∙◌, arith}
use Rattle.session_lru.specs.Table.{Table}
use Rattle.session_lru.specs.Section.{with_limit, read_sessions, read_section}
use Rattle.session_lru.proofs.Places.{ends, more}

pub record Opened (bytes : List ℕ) (limit count : ℕ) (t : Table) (at read : ℕ) : Type 0 where
  pub within : at ≤ length bytes
  pub limited : t.limit ≡ limit
  pub counted : length t.sessions ≡ read
  pub whole : read_section bytes ≡ with_limit limit (read_sessions (count - read) t.sessions at (drop at bytes))

pub none_opened : (bytes : List ℕ) (limit count : ℕ) (t : Table) → 8 ≤ length bytes → t ≡ record { limit = limit; sessions = [] }
    → read_section bytes ≡ with_limit limit (read_sessions count [] 8 (drop 8 bytes)) → Opened bytes limit count t 8 0
none_opened bytes limit count t h is e =
    let all : count ≡ count - 0 = omega arith in
    record {
      within = h;
      limited = ap (λ (x : Table). x.limit) is;
      counted = ap (λ (x : Table). length x.sessions) is;
      whole = e ∙ ap (λ (k : ℕ). with_limit limit (read_sessions k [] 8 (drop 8 bytes))) all
          ∙ ap (λ (x : Table). with_limit limit (read_sessions (count - 0) x.sessions 8 (drop 8 bytes))) (sym is);
    }

one_less : (count read : ℕ) → read < count → count - read ≡ suc (count - suc read)
one_less count read h = omega (arith, h)

pub one_opened : (bytes : List ℕ) (limit count : ℕ) (t u : Table) (at next read : ℕ) → Opened bytes limit count t at read → read < count
    → read_sessions (suc (count - suc read)) t.sessions at (drop at bytes) ≡ read_sessions (count - suc read) u.sessions next (drop next bytes)
    → next ≤ length bytes → u.limit ≡ t.limit → length u.sessions ≡ length t.sessions + 1 → Opened bytes limit count u next (suc read)
one_opened bytes limit count t u at next read o h e within same longer = record {
  within = within;
  limited = same ∙ o.limited;
  counted = (let c = o.counted in omega (arith, c, longer));
  whole = o.whole ∙ ap (λ (k : ℕ). with_limit limit (read_sessions k t.sessions at (drop at bytes))) (one_less count read h) ∙ ap (λ r. with_limit limit r) e;
}

pub not_opened : (bytes : List ℕ) (limit count : ℕ) (t : Table) (at read place : ℕ) → Opened bytes limit count t at read → read < count
    → read_sessions (suc (count - suc read)) t.sessions at (drop at bytes) ≡ Err place → read_section bytes ≡ Err place
not_opened bytes limit count t at read place o h e =
    o.whole ∙ ap (λ (k : ℕ). with_limit limit (read_sessions k t.sessions at (drop at bytes))) (one_less count read h) ∙ ap (λ r. with_limit limit r) e

pub goes_on : (bytes : List ℕ) (limit count : ℕ) (t : Table) (at read : ℕ) → Opened bytes limit count t at read → count ≤ read → at < length bytes → read_section bytes ≡ Err at
goes_on bytes limit count t at read o h l =
    let none : count - read ≡ 0 = omega (arith, h) in
    o.whole ∙ ap (λ (k : ℕ). with_limit limit (read_sessions k t.sessions at (drop at bytes))) none ∙ ap (λ r. with_limit limit r) (more t.sessions at bytes l)

pub all_opened : (bytes : List ℕ) (limit count : ℕ) (t : Table) (at read : ℕ) → Opened bytes limit count t at read → count ≤ read → length bytes ≤ at → read_section bytes ≡ Ok t
all_opened bytes limit count t at read o h l =
    let none : count - read ≡ 0 = omega (arith, h) in
    o.whole ∙ ap (λ (k : ℕ). with_limit limit (read_sessions k t.sessions at (drop at bytes))) none ∙ ap (λ r. with_limit limit r) (ends t.sessions at bytes l)
    ∙ ap (λ (k : ℕ). Ok (record { limit = k; sessions = t.sessions })) (sym o.limited)
