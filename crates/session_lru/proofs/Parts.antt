-- The tests of tables, sessions and replies, part by part.
use Rattle.std.proofs.Common.{◌≡◌, ℕ, ◌^◌, ◌<◌, ◌≤◌, List, ◌∷◌, Bool, true, false, length, refl}
use Rattle.std.specs.Prelude.{◌&&◌, not, nat_le, nat_lt}
use Rattle.std.specs.List.{list_all}
use Rattle.std.proofs.lemmas.Bool.{leb-true, ltb-true, le-leb, lt-ltb, and_from}
use Rattle.host_ids.specs.declared.proposal.TheConstants.{MOST_SERIES, MOST_SESSIONS}
use Rattle.session_lru.specs.declared.session.Session.{Session}
use Rattle.session_lru.specs.Table.{Table}
use Rattle.session_lru.specs.Section.{are_replies, is_session, all_differ, is_table}

pub and_left : (a b : Bool) → (a && b) ≡ true → a ≡ true
and_left true b e = refl
and_left false b e = absurd cc

pub and_right : (a b : Bool) → (a && b) ≡ true → b ≡ true
and_right true b e = e
and_right false b e = absurd cc

pub not_true : (b : Bool) → not b ≡ true → b ≡ false
not_true true e = absurd cc
not_true false e = refl

-- ---- a reply before others

pub record IsReply (before : ℕ) (e : ℕ × List ℕ) (es : List (ℕ × List ℕ)) : Type 0 where
  pub above : before < e.0
  pub most : e.0 ≤ MOST_SERIES
  pub short : length e.1 < 2 ^ 16
  pub rest : are_replies e.0 es ≡ true

pub reply_parts : (before : ℕ) (e : ℕ × List ℕ) (es : List (ℕ × List ℕ)) → are_replies before (e ∷ es) ≡ true → IsReply before e es
reply_parts before e es h =
    let three = and_left _ (are_replies e.0 es) h in
    let two = and_left _ (nat_lt (length e.1) (2 ^ 16)) three in
    record {
      above = ltb-true before e.0 (and_left _ (nat_le e.0 MOST_SERIES) two);
      most = leb-true e.0 MOST_SERIES (and_right (nat_lt before e.0) (nat_le e.0 MOST_SERIES) two);
      short = ltb-true (length e.1) (2 ^ 16) (and_right _ (nat_lt (length e.1) (2 ^ 16)) three);
      rest = and_right _ (are_replies e.0 es) h;
    }

pub reply_of_parts : (before : ℕ) (e : ℕ × List ℕ) (es : List (ℕ × List ℕ)) → IsReply before e es → are_replies before (e ∷ es) ≡ true
reply_of_parts before e es p =
    and_from _ _ (and_from _ _ (and_from _ _ (lt-ltb before e.0 p.above) (le-leb e.0 MOST_SERIES p.most)) (lt-ltb (length e.1) (2 ^ 16) p.short)) p.rest

-- ---- a session

pub record IsASession (e : ℕ × Session) : Type 0 where
  pub one : 1 ≤ e.0
  pub fits : e.0 < 2 ^ 64
  pub most : (e.1).responded ≤ MOST_SERIES
  pub replies : are_replies (e.1).responded (e.1).replies ≡ true
  pub few : length (e.1).replies < 2 ^ 32

pub session_parts : (e : ℕ × Session) → is_session e ≡ true → IsASession e
session_parts e h =
    let four = and_left _ (nat_lt (length (e.1).replies) (2 ^ 32)) h in
    let three = and_left _ (are_replies (e.1).responded (e.1).replies) four in
    let two = and_left _ (nat_le (e.1).responded MOST_SERIES) three in
    record {
      one = leb-true 1 e.0 (and_left _ (nat_lt e.0 (2 ^ 64)) two);
      fits = ltb-true e.0 (2 ^ 64) (and_right (nat_le 1 e.0) (nat_lt e.0 (2 ^ 64)) two);
      most = leb-true (e.1).responded MOST_SERIES (and_right _ (nat_le (e.1).responded MOST_SERIES) three);
      replies = and_right _ (are_replies (e.1).responded (e.1).replies) four;
      few = ltb-true (length (e.1).replies) (2 ^ 32) (and_right _ (nat_lt (length (e.1).replies) (2 ^ 32)) h);
    }

pub session_of_parts : (e : ℕ × Session) → IsASession e → is_session e ≡ true
session_of_parts e p =
    and_from _ _ (and_from _ _ (and_from _ _ (and_from _ _ (le-leb 1 e.0 p.one) (lt-ltb e.0 (2 ^ 64) p.fits)) (le-leb (e.1).responded MOST_SERIES p.most)) p.replies)
    (lt-ltb (length (e.1).replies) (2 ^ 32) p.few)

-- ---- a table

pub record IsATable (t : Table) : Type 0 where
  pub one : 1 ≤ t.limit
  pub most : t.limit ≤ MOST_SESSIONS
  pub within : length t.sessions ≤ t.limit
  pub sessions : list_all is_session t.sessions ≡ true
  pub differ : all_differ t.sessions ≡ true

pub table_parts : (t : Table) → is_table t ≡ true → IsATable t
table_parts t h =
    let four = and_left _ (all_differ t.sessions) h in
    let three = and_left _ (list_all is_session t.sessions) four in
    let two = and_left _ (nat_le (length t.sessions) t.limit) three in
    record {
      one = leb-true 1 t.limit (and_left _ (nat_le t.limit MOST_SESSIONS) two);
      most = leb-true t.limit MOST_SESSIONS (and_right (nat_le 1 t.limit) (nat_le t.limit MOST_SESSIONS) two);
      within = leb-true (length t.sessions) t.limit (and_right _ (nat_le (length t.sessions) t.limit) three);
      sessions = and_right _ (list_all is_session t.sessions) four;
      differ = and_right _ (all_differ t.sessions) h;
    }

pub table_of_parts : (t : Table) → IsATable t → is_table t ≡ true
table_of_parts t p =
    and_from _ _ (and_from _ _ (and_from _ _ (and_from _ _ (le-leb 1 t.limit p.one) (le-leb t.limit MOST_SESSIONS p.most)) (le-leb (length t.sessions) t.limit p.within)) p.sessions) p.differ
