-- One group's part of a world, and what a run keeps of it, whatever the roster. What a line does to another group leaves the part alone.
use Rattle.std.proofs.Common.{◌≡◌, ◌⊎◌, ℕ, ◌<◌, List, length, subst, sym, inl, inr}
use Rattle.std.specs.List.{AllByRecursion}
use Rattle.std.proofs.lemmas.List.{length-set}
use Rattle.host_ids.specs.declared.entry.Key.{Key}
use Rattle.host_ids.specs.declared.proposal.Proposal.{Proposal}
use Rattle.host_ids.specs.declared.proposal.Proposal.TheVariants as proposals
use Rattle.object_model.specs.Desk.{Desk}
use Rattle.raft_model.specs.Replica.{no_key}
use Rattle.raft_model.specs.Group.{Group}
use Rattle.run_model.specs.World.{World, Node}
use Rattle.run_law.proofs.Basics.Lists.{all_map}
use Rattle.run_law.proofs.Requests.Serials.{more_contexts}
use Rattle.run_law.proofs.Requests.Book.{Book, IsNamed, AreAsked, more_asked, named_more, asked_more}
use Rattle.run_law.proofs.Desks.Fits.{Fits, foreign, foreign_fits, hosts_same}
use Rattle.run_law.proofs.Group.Law.{Given, IsGiven}

-- what a world has of one group: the group, how many sessions may stand in it, what each host keeps beside its replica, and the contexts of all requests, of whichever group
pub record Part : Type 0 where
  pub group : Group
  pub limit : ℕ
  pub nodes : List Node
  pub contexts : List (List (List ℕ))

-- the part of group 1, of which a world has none but this one
abbrev pub part_of : World → Part
part_of w = record { group = w.group; limit = w.limit; nodes = w.nodes; contexts = w.contexts }

-- a host's next serial is taken by a request of another group
pub record IsElsewhere (p q : Part) : Type 0 where
  pub host : ℕ
  pub context : List ℕ
  pub within : host < length p.contexts
  pub is : q ≡ record p { contexts = more_contexts host context p.contexts }

-- all that a line does to the part of a group of which it isn't: nothing, or it takes a serial
abbrev pub IsApart : Part → Part → Type 0
IsApart p q = (q ≡ p) ⊎ IsElsewhere p q

module _ (Kept : Group → Type 0) (Carries : Given → Group → Type 0) where
  -- the part of a group after the line that declares it, and a desk that fits
  pub record Runs (limit : ℕ) (p : Part) (d : Desk) : Type 0 where
    pub book : Book
    pub limit_is : p.limit ≡ limit
    pub contexts : length p.contexts ≡ 10
    pub nodes : length p.nodes ≡ 10
    pub voters : AllByRecursion (λ v. v < 10) p.group.voters
    pub kept : Kept p.group
    pub given : Given
    pub blank : IsGiven given no_key proposals.Blank
    pub named : AllByRecursion (λ x. IsNamed book x.0 x.1) given
    pub asks : AreAsked book p.group.asks
    pub carries : Carries given p.group
    pub fits : Fits limit book p.group.decided p.nodes p.contexts d

  -- a request of another group is written down at its host, and the desk fits as before
  foreign_runs : (limit : ℕ) (p : Part) (d : Desk) (h : ℕ) (context : List ℕ) → h < length p.contexts → Runs limit p d → Runs limit (record p { contexts = more_contexts h context p.contexts }) d
  foreign_runs limit p d h context few a =
      let room : h < length a.book = rw (hosts_same limit a.book p.group.decided p.nodes p.contexts d a.fits) few in
      record {
        book = more_asked h (foreign context) a.book;
        limit_is = a.limit_is;
        contexts = rw length-set a.contexts;
        nodes = a.nodes;
        voters = a.voters;
        kept = a.kept;
        given = a.given;
        blank = a.blank;
        named = all_map (λ (x : Key × Proposal). IsNamed a.book x.0 x.1) (λ (x : Key × Proposal). IsNamed (more_asked h (foreign context) a.book) x.0 x.1) a.given
            (λ x s. named_more h (foreign context) a.book x.0 x.1 room s) a.named;
        asks = asked_more h (foreign context) a.book p.group.asks room a.asks;
        carries = a.carries;
        fits = foreign_fits h limit context a.book p.group.decided p.nodes p.contexts d few a.fits;
      }

  -- a line of another group leaves the part alone: the same desk fits
  pub others_leave : (limit : ℕ) (p q : Part) (d : Desk) → IsApart p q → Runs limit p d → Runs limit q d
  others_leave limit p q d (inl same) a = subst (λ (r : Part). Runs limit r d) (sym same) a
  others_leave limit p q d (inr e) a = subst (λ (r : Part). Runs limit r d) (sym e.is) (foreign_runs limit p d e.host e.context e.within a)
