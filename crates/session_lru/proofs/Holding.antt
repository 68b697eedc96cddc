-- What a session holds, before and after a proposal.
use Rattle.std.proofs.Common.{◌≡◌, ℕ, ◌==◌, ◌<◌, List, [], ◌∷◌, Bool, true, false, cond, Option, Some, None, max, refl, sym, ap, ◌∙◌, subst, eqb-true, arith}
use Rattle.std.specs.Prelude.{◌&&◌, nat_lt, nat_eq}
use Rattle.std.specs.List.{AllByRecursion}
use Rattle.std.specs.Ordering.{nat_cmp, is_eq, match_ordering}
use Rattle.std.specs.declared.cmp.Ordering.{Ordering}
use Rattle.std.specs.declared.cmp.Ordering.TheVariants.{Less, Equal, Greater}
use Rattle.std.proofs.lemmas.Cmp.{ranked}
use Rattle.std.specs.BTreeMap.{insert_entry, is_at}
use Rattle.std.specs.Map.{lookup}
use Rattle.std.proofs.lemmas.Bool.Decides.{nat_tests}
use Rattle.std.proofs.lemmas.Map.Entries.{lookup-filter-keys}
use Rattle.host_ids.specs.declared.proposal.Proposal.{Proposal}
use Rattle.host_ids.specs.declared.proposal.Proposal.TheVariants as proposals
use Rattle.object_model.specs.Object.{after}
use Rattle.object_model.specs.Sequence.{has, client_of, stands, raised, raised_by, after_all, found_by, effect_of, does_act, verdict, state}
use Rattle.session_lru.specs.declared.session.Session.{Session}
use Rattle.session_lru.specs.Calls.{fresh, kept_reply, raised_to, with_reply}
use Rattle.session_lru.specs.Law.{Holds, replied}
use Rattle.session_lru.proofs.Lookups.{clients, or_left, or_right, same_client}

-- ---- another client's session

apart : (client c d : ℕ) → (c == client) ≡ false → d ≡ client → (d == c) ≡ false
apart client c d q e = grind (arith, nat_tests)

-- a proposal of one client leaves the responded value of another
raised_other : (client c : ℕ) (p : Proposal) (stood : Bool) (value : ℕ) → (c == client) ≡ false → (client_of p ≡ client) → raised_by c p stood value ≡ value
raised_other client c proposals.Blank stood value q e = refl
raised_other client c (proposals.Plain command) stood value q e = refl
raised_other client c (proposals.Session d series responded command) stood value q e = rw (apart client c d q e) refl
raised_other client c (proposals.Register d) stood value q e = rw (apart client c d q e) refl
raised_other client c (proposals.Close d) stood value q e = refl

-- and what it was replied
found_other : (client c series : ℕ) (p : Proposal) (acts : Bool) (reply : List ℕ) (found : Option (List ℕ)) → (c == client) ≡ false → (client_of p ≡ client) → found_by c series p acts reply found ≡ found
found_other client c series proposals.Blank acts reply found q e = refl
found_other client c series (proposals.Plain command) acts reply found q e = refl
found_other client c series (proposals.Session d t responded command) acts reply found q e = rw (apart client c d q e) refl
found_other client c series (proposals.Register d) acts reply found q e = rw (apart client c d q e) refl
found_other client c series (proposals.Close d) acts reply found q e = refl

-- the two facts of a proposal and a client by which it holds what it held
pub holds_on : (limit : ℕ) (p : Proposal) (h : List Proposal) (c : ℕ) (s : Session) → raised limit c (p ∷ h) ≡ raised limit c h → ((series : ℕ) → replied limit (p ∷ h) c series ≡ replied limit h c series) → Holds limit h c s → Holds limit (p ∷ h) c s
holds_on limit p h c s r f o = record {
  responded = o.responded ∙ sym r;
  replies = λ series. o.replies series ∙ ap (λ (x : Option (List ℕ)). cond (nat_lt s.responded series) x None) (sym (f series));
}

-- another client's session holds what it held
pub holds_other : (limit : ℕ) (p : Proposal) (h : List Proposal) (c : ℕ) (s : Session) → (c == client_of p) ≡ false → Holds limit h c s → Holds limit (p ∷ h) c s
unfolding raised after_all
holds_other limit p h c s q o =
    holds_on limit p h c s (raised_other (client_of p) c p (stands limit c h) (raised limit c h) q refl)
    (λ series. found_other (client_of p) c series p (does_act (verdict limit h p)) (effect_of p (after_all limit h).pairs).reply ((after_all limit h).found c series) q refl) o

-- all sessions of others hold what they held
pub all_others : (limit : ℕ) (p : Proposal) (h : List Proposal) (es : List (ℕ × Session)) → has (client_of p) (clients es) ≡ false → AllByRecursion (λ e. Holds limit h e.0 e.1) es → AllByRecursion (λ e. Holds limit (p ∷ h) e.0 e.1) es
all_others limit p h [] q o = tt
all_others limit p h (e ∷ es) q o =
    (holds_other limit p h e.0 e.1 (or_left (e.0 == client_of p) (has (client_of p) (clients es)) q) o.0, all_others limit p h es (or_right (e.0 == client_of p) (has (client_of p) (clients es)) q) o.1)

-- what all sessions hold, the one that is found holds
pub holds_found : (limit client : ℕ) (h : List Proposal) (es : List (ℕ × Session)) (s : Session) → lookup (nat_eq client) es ≡ Some s → AllByRecursion (λ e. Holds limit h e.0 e.1) es → Holds limit h client s
holds_found limit client h [] s l o = absurd cc
holds_found limit client h (e ∷ es) s l o = elim (nat_eq client e.0) as (λ b. nat_eq client e.0 ≡ b → cond b (Some e.1) (lookup (nat_eq client) es) ≡ Some s → Holds limit h client s) [
  | true ↦ λ q l. (let key : e.0 ≡ client = grind (arith, nat_tests) in let value : e.1 ≡ s = cc in subst (λ (c : ℕ). Holds limit h c s) key (subst (λ (x : Session). Holds limit h e.0 x) value o.0))
  | false ↦ λ q l. holds_found limit client h es s l o.1
] refl l

-- ---- kept replies

-- the order finds a key by its number
at_is : (k x : ℕ) (r : Ordering) → r ≡ nat_cmp k x → is_eq r ≡ (x == k)
at_is k x Less q = let l : k < x = ranked k x Less q in grind (arith, nat_tests)
at_is k x Equal q = let l : k ≡ x = ranked k x Equal q in grind (arith, nat_tests)
at_is k x Greater q = let l : x < k = ranked k x Greater q in grind (arith, nat_tests)

pub at_key : (k x : ℕ) → is_at (nat_cmp k) x ≡ (x == k)
at_key k x = at_is k x (nat_cmp k x) refl

module _ (series k : ℕ) (reply : List ℕ) where
  at_equal : (e : ℕ × List ℕ) (found : Option (List ℕ)) → series ≡ e.0 → cond (e.0 == k) (Some reply) found ≡ cond (series == k) (Some reply) (cond (e.0 == k) (Some e.1) found)
  at_equal e found q = rw q (elim (e.0 == k) as (λ b. cond b (Some reply) found ≡ cond b (Some reply) (cond b (Some e.1) found)) [ true ↦ refl | false ↦ refl ])

  at_greater : (e : ℕ × List ℕ) (found : Option (List ℕ)) → e.0 < series → cond (e.0 == k) (Some e.1) (cond (series == k) (Some reply) found) ≡ cond (series == k) (Some reply) (cond (e.0 == k) (Some e.1) found)
  at_greater e found l = elim (e.0 == k) as (λ b. (e.0 == k) ≡ b → cond b (Some e.1) (cond (series == k) (Some reply) found) ≡ cond (series == k) (Some reply) (cond b (Some e.1) found))
      [ true ↦ λ q. (let no : (series == k) ≡ false = grind (arith, nat_tests) in rw no refl) | false ↦ λ q. refl ] refl

  insert_by : (e : ℕ × List ℕ) (es : List (ℕ × List ℕ)) (r : Ordering) → r ≡ nat_cmp series e.0 → lookup (is_at (nat_cmp k)) (insert_entry nat_cmp es series reply) ≡ cond (series == k) (Some reply) (lookup (is_at (nat_cmp k)) es)
      → lookup (is_at (nat_cmp k)) (match_ordering r ((series, reply) ∷ e ∷ es) ((e.0, reply) ∷ es) (e ∷ insert_entry nat_cmp es series reply)) ≡ cond (series == k) (Some reply) (lookup (is_at (nat_cmp k)) (e ∷ es))
  insert_by e es Less q ih = rw (at_key k series) refl
  insert_by e es Equal q ih = rw (at_key k e.0) (at_equal e (lookup (is_at (nat_cmp k)) es) (ranked series e.0 Equal q))
  insert_by e es Greater q ih = rw (at_key k e.0, ih) (at_greater e (lookup (is_at (nat_cmp k)) es) (ranked series e.0 Greater q))

  -- an insert is found at its series, and elsewhere what was there
  pub kept_insert : (es : List (ℕ × List ℕ)) → lookup (is_at (nat_cmp k)) (insert_entry nat_cmp es series reply) ≡ cond (series == k) (Some reply) (lookup (is_at (nat_cmp k)) es)
  kept_insert [] = rw (at_key k series) refl
  kept_insert (e ∷ es) = insert_by e es (nat_cmp series e.0) refl (kept_insert es)

-- after a raise, the replies above the value are kept
pub kept_raised : (k responded : ℕ) (s : Session) → kept_reply k (raised_to responded s) ≡ cond (nat_lt (max s.responded responded) k) (kept_reply k s) None
kept_raised k responded s =
    lookup-filter-keys (is_at (nat_cmp k)) (λ x. nat_lt (max s.responded responded) x) (nat_lt (max s.responded responded) k)
    (λ x q. (let same : x ≡ k = eqb-true x k (sym (at_key k x) ∙ q) in ap (λ y. nat_lt (max s.responded responded) y) same)) s.replies

-- a value above the greater of two is above the first
both_tests : (a b k : ℕ) (found : Option (List ℕ)) → cond (nat_lt (max a b) k) (cond (nat_lt a k) found None) None ≡ cond (nat_lt (max a b) k) found None
both_tests a b k found = elim (nat_lt (max a b) k) as (λ v. nat_lt (max a b) k ≡ v → cond v (cond (nat_lt a k) found None) None ≡ cond v found None)
    [ true ↦ λ q. (let l : nat_lt a k ≡ true = grind (arith, nat_tests) in rw l refl) | false ↦ λ q. refl ] refl

-- ---- the client's own session

raised_own : (limit client series responded : ℕ) (command : List ℕ) (h : List Proposal) → stands limit client h ≡ true → raised limit client (proposals.Session client series responded command ∷ h) ≡ max (raised limit client h) responded
unfolding raised
raised_own limit client series responded command h st = rw (same_client client, st) refl

-- a command that doesn't act adds no reply
not_found : (client series k : ℕ) (acts : Bool) (reply : List ℕ) (found : Option (List ℕ)) → acts ≡ false → cond ((client == client) && (series == k) && acts) (Some reply) found ≡ found
not_found client series k acts reply found e = rw (same_client client, e) (elim (series == k) as (λ b. cond (b && false) (Some reply) found ≡ found) [ true ↦ refl | false ↦ refl ])

-- a session that a command touched, and that didn't act
pub holds_touched : (limit client series responded : ℕ) (command : List ℕ) (h : List Proposal) (s : Session) → stands limit client h ≡ true → does_act (verdict limit h (proposals.Session client series responded command)) ≡ false
    → Holds limit h client s → Holds limit (proposals.Session client series responded command ∷ h) client (raised_to responded s)
unfolding after_all
holds_touched limit client series responded command h s st na o = record {
  responded = ap (λ (x : ℕ). max x responded) o.responded ∙ sym (raised_own limit client series responded command h st);
  replies = λ k. (let p : Proposal = proposals.Session client series responded command in
      let same : replied limit (p ∷ h) client k ≡ replied limit h client k = not_found client series k (does_act (verdict limit h p)) (effect_of p (after_all limit h).pairs).reply ((after_all limit h).found client k) na in
      kept_raised k responded s ∙ ap (λ (x : Option (List ℕ)). cond (nat_lt (max s.responded responded) k) x None) (o.replies k) ∙ both_tests s.responded responded k (replied limit h client k)
      ∙ ap (λ (x : Option (List ℕ)). cond (nat_lt (max s.responded responded) k) x None) (sym same));
}

and_false : (b : Bool) → (b && false) ≡ false
and_false true = refl
and_false false = refl

nothing : (b : Bool) → ◌≡◌ {A = Option (List ℕ)} None (cond b None None)
nothing true = refl
nothing false = refl

-- a session that begins holds nothing
pub holds_fresh : (limit client : ℕ) (h : List Proposal) → stands limit client h ≡ false → Holds limit (proposals.Register client ∷ h) client fresh
unfolding raised after_all
holds_fresh limit client h st = record {
  responded = rw (same_client client, st) refl;
  replies = λ k. rw (same_client client, st) (nothing (nat_lt 0 k));
}

-- a register of the session's client that is taken leaves what it holds
pub nothing_begins : (limit client : ℕ) (h : List Proposal) (c : ℕ) (s : Session) → stands limit client h ≡ true → client ≡ c → Holds limit h c s → Holds limit (proposals.Register client ∷ h) c s
unfolding raised after_all
nothing_begins limit client h c s st same o =
    let own : stands limit c h ≡ true = subst (λ (x : ℕ). stands limit x h ≡ true) same st in
    holds_on limit (proposals.Register client) h c s (rw (own, and_false (client == c)) refl) (λ k. rw (st, and_false (client == c)) refl) o

-- ---- a session whose command acts, with its reply

-- a command that acts adds its reply
is_found : (client series k : ℕ) (acts : Bool) (reply : List ℕ) (found : Option (List ℕ)) → acts ≡ true → cond ((client == client) && (series == k) && acts) (Some reply) found ≡ cond (series == k) (Some reply) found
is_found client series k acts reply found e = rw (same_client client, e) (elim (series == k) as (λ b. cond (b && true) (Some reply) found ≡ cond b (Some reply) found) [ true ↦ refl | false ↦ refl ])

-- the kept replies of that session
with_new : (bound series k : ℕ) (reply : List ℕ) (found : Option (List ℕ)) → bound < series → cond (series == k) (Some reply) (cond (nat_lt bound k) found None) ≡ cond (nat_lt bound k) (cond (series == k) (Some reply) found) None
with_new bound series k reply found l = elim (series == k) as (λ b. (series == k) ≡ b → cond b (Some reply) (cond (nat_lt bound k) found None) ≡ cond (nat_lt bound k) (cond b (Some reply) found) None)
    [ true ↦ λ q. (let above : nat_lt bound k ≡ true = grind (arith, nat_tests) in rw above refl) | false ↦ λ q. refl ] refl

pub holds_kept : (limit client series responded : ℕ) (command reply : List ℕ) (h : List Proposal) (s : Session) → stands limit client h ≡ true → does_act (verdict limit h (proposals.Session client series responded command)) ≡ true
    → max s.responded responded < series → reply ≡ (after (state limit h) command).reply
    → Holds limit h client s → Holds limit (proposals.Session client series responded command ∷ h) client (with_reply series reply (raised_to responded s))
unfolding after_all
holds_kept limit client series responded command reply h s st acts above same_reply o = record {
  responded = ap (λ (x : ℕ). max x responded) o.responded ∙ sym (raised_own limit client series responded command h st);
  replies = λ k. (let p : Proposal = proposals.Session client series responded command in let m : ℕ = max s.responded responded in
      let is : replied limit (p ∷ h) client k ≡ cond (series == k) (Some reply) (replied limit h client k) =
      is_found client series k (does_act (verdict limit h p)) (after (state limit h) command).reply ((after_all limit h).found client k) acts
      ∙ ap (λ (x : List ℕ). cond (series == k) (Some x) (replied limit h client k)) (sym same_reply) in
      let before : kept_reply k (raised_to responded s) ≡ cond (nat_lt m k) (replied limit h client k) None =
      kept_raised k responded s ∙ ap (λ (x : Option (List ℕ)). cond (nat_lt m k) x None) (o.replies k) ∙ both_tests s.responded responded k (replied limit h client k) in
      kept_insert series k reply (raised_to responded s).replies ∙ ap (λ (x : Option (List ℕ)). cond (series == k) (Some reply) x) before
      ∙ with_new m series k reply (replied limit h client k) above ∙ ap (λ (x : Option (List ℕ)). cond (nat_lt m k) x None) (sym is));
}
