-- Keys, proposals and entries are read exactly.
use Rattle.std.proofs.Common.{◌≡◌, ℕ, ◌^◌, ◌<◌, ◌≤◌, List, [], ◌++◌, Bool, true, false, not, ◌&&◌, ◌||◌, length, replicate, refl, sym, ap, ◌∙◌, subst, inl, inr, arith}
use Rattle.std.specs.Prelude.{◌==◌, nat_le, nat_lt, if◌then◌else◌}
use Rattle.std.proofs.lemmas.Bool.{le-leb, leb-true, lt-leb, leb-false, lt-ltb, ltb-true, eqb-true, eqb-false, eq-eqb, ne_eqb, and_from, and_parts, and_left, and_right, cases_eq, cases_lt, or_cases, or_right, or_left, not-true, not_from_false}
use Rattle.std.proofs.lemmas.List.{length-replicate, nil_from_length}
use Rattle.host_ids.specs.declared.entry.Entry.{Entry}
use Rattle.host_ids.specs.declared.entry.Key.{Key}
use Rattle.host_ids.specs.declared.proposal.Proposal.{Proposal}
use Rattle.host_ids.specs.declared.proposal.Proposal.TheVariants as proposals
use Rattle.host_ids.specs.declared.proposal.TheConstants.{MOST_COMMAND, MOST_SERIES}
use Rattle.wire_types.specs.Grammar.{is_blank, is_command, is_host, is_key, is_no_key, is_proposal, is_request, are_fit_numbers}
use Rattle.wire_codec.specs.declared.entry.TheConstants.{REGISTER, CLOSE}
use Rattle.wire_codec.specs.Reading.{number, number_bytes, text, both, Exact}
use Rattle.wire_codec.specs.Entry.{Sized, command_at, responded_at, series_at, greatest, key_bytes, key_of, least_of, most_of, key_at, client_of, series_of, responded_of, command_of, proposal_bytes, of_session, proposal_of, if_client, if_series, if_command, unless, proposal_at, entry_bytes, entry_of, entry_at, fits, IsEntryAt}
use Rattle.wire_codec.specs.laws.Joined.{is_made, are_both, is_text}
use Rattle.wire_codec.specs.laws.Numbers.{is_number}

abbrev pub Between : ℕ → ℕ → ℕ → Type 0
Between lo hi n = (lo ≤ n) × (n ≤ hi)

-- a number of eight bytes in a range
pub wide : (lo hi : ℕ) → lo ≤ hi → hi ≤ greatest → Exact (number 8 lo hi) (Between lo hi) (number_bytes 8)
wide lo hi le most = is_number 8 lo hi le (omega (arith, most))

least : (lo hi : ℕ) → lo ≤ hi → (n : ℕ) × Between lo hi n
least lo hi le = (lo, (omega arith, le))

-- ---- keys

by_host : (P : ℕ → Type 0) (host a b : ℕ) → P a → P b → P (if host == 0 then a else b)
by_host P host a b x y = by (host == 0)
  where
    by : (t : Bool) → P (if t then a else b)
    by true = x
    by false = y

most_fits : (host : ℕ) → most_of host ≤ greatest
most_fits host = by_host (λ n. n ≤ greatest) host 0 greatest (omega arith) (omega arith)

least_fits : (host : ℕ) → least_of host ≤ most_of host
least_fits host = by (host == 0)
  where
    by : (t : Bool) → (if t then 0 else 1) ≤ (if t then 0 else greatest)
    by true = omega arith
    by false = omega arith

module _ (lo : ℕ) (few : lo ≤ 9) where
  abbrev InStart : ℕ → ℕ × ℕ → Type 0
  InStart host p = Between (least_of host) (most_of host) p.0 × Between (least_of host) (most_of host) p.1

  abbrev pub IsKeyFrom : Key → Type 0
  IsKeyFrom key = Between lo 9 key.host × InStart key.host (key.start, key.serial)

  key_parts : Key → ℕ × (ℕ × ℕ)
  key_parts key = (key.host, (key.start, key.serial))

  abbrev RawKey : ℕ × (ℕ × ℕ) → Type 0
  RawKey p = Between lo 9 p.0 × InStart p.0 p.1

  start_and_serial : (host : ℕ) → Exact (both (number 8 (least_of host) (most_of host)) (λ start. number 8 (least_of host) (most_of host))) (InStart host) (λ p. number_bytes 8 p.0 ++ number_bytes 8 p.1)
  start_and_serial host =
      let one = wide (least_of host) (most_of host) (least_fits host) (most_fits host) in
      are_both (number 8 (least_of host) (most_of host)) (λ start. number 8 (least_of host) (most_of host)) (Between (least_of host) (most_of host)) (λ start. Between (least_of host) (most_of host))
      (number_bytes 8) (λ start. number_bytes 8) one (λ start g. one) (λ start g. least (least_of host) (most_of host) (least_fits host))

  pub some_key : (key : Key) × IsKeyFrom key
  some_key = (record { host = 9; start = 1; serial = 1 }, ((few, omega arith), ((omega arith, omega arith), (omega arith, omega arith))))

  pub is_key_at : Exact (key_at lo) IsKeyFrom key_bytes
  is_key_at =
      is_made key_of (λ key. (key.host, (key.start, key.serial))) (both (number 1 lo 9) (λ host. both (number 8 (least_of host) (most_of host)) (λ start. number 8 (least_of host) (most_of host)))) RawKey
      (λ p. number_bytes 1 p.0 ++ (number_bytes 8 p.1.0 ++ number_bytes 8 p.1.1)) IsKeyFrom key_bytes
      (record { good_part = λ key g. g; whole = λ key g. refl; spelt = λ key g. refl; good_whole = λ p g. g; parted = λ p g. refl })
      (are_both (number 1 lo 9) (λ host. both (number 8 (least_of host) (most_of host)) (λ start. number 8 (least_of host) (most_of host))) (Between lo 9) InStart (number_bytes 1)
      (λ host p. number_bytes 8 p.0 ++ number_bytes 8 p.1)
      (is_number 1 lo 9 few (omega arith)) (λ host g. start_and_serial host) (λ host g. ((least_of host, least_of host), ((omega arith, least_fits host), (omega arith, least_fits host)))))

-- ---- proposals

module _ (blank : Bool) where
  sizes : (series : ℕ) → (unless blank (if_command series 1) ≤ unless blank (if_command series MOST_COMMAND)) × (unless blank (if_command series MOST_COMMAND) ≤ MOST_COMMAND)
  sizes series = by blank (nat_le series MOST_SERIES)
    where
      by : (b t : Bool) → (unless b (if t then 1 else 0) ≤ unless b (if t then MOST_COMMAND else 0)) × (unless b (if t then MOST_COMMAND else 0) ≤ MOST_COMMAND)
      by true t = (omega arith, omega arith)
      by false true = (omega arith, omega arith)
      by false false = (omega arith, omega arith)

  series_range : (client : ℕ) → (if_client client 1 ≤ if_client client greatest) × (if_client client greatest ≤ greatest)
  series_range client = by (client == 0)
    where
      by : (t : Bool) → ((if t then 0 else 1) ≤ (if t then 0 else greatest)) × ((if t then 0 else greatest) ≤ greatest)
      by true = (omega arith, omega arith)
      by false = (omega arith, omega arith)

  responded_range : (series : ℕ) → if_series series MOST_SERIES ≤ greatest
  responded_range series = by (nat_le 1 series && nat_le series MOST_SERIES)
    where
      by : (t : Bool) → (if t then MOST_SERIES else 0) ≤ greatest
      by true = omega arith
      by false = omega arith

  client_range : unless blank greatest ≤ greatest
  client_range = by blank
    where
      by : (b : Bool) → unless b greatest ≤ greatest
      by true = omega arith
      by false = omega arith

  abbrev pub IsSized : ℕ → Sized → Type 0
  IsSized series p = Between (unless blank (if_command series 1)) (unless blank (if_command series MOST_COMMAND)) p.0 × (length p.1 ≡ p.0)

  abbrev pub AfterSeries : ℕ → ℕ × Sized → Type 0
  AfterSeries series p = Between 0 (if_series series MOST_SERIES) p.0 × IsSized series p.1

  abbrev pub AfterClient : ℕ → ℕ × (ℕ × Sized) → Type 0
  AfterClient client p = Between (if_client client 1) (if_client client greatest) p.0 × AfterSeries p.0 p.1

  abbrev pub RawProposal : ℕ × (ℕ × (ℕ × Sized)) → Type 0
  RawProposal p = Between 0 (unless blank greatest) p.0 × AfterClient p.0 p.1

  abbrev sized_bytes : Sized → List ℕ
  sized_bytes p = number_bytes 2 p.0 ++ p.1

  abbrev responded_bytes : ℕ × Sized → List ℕ
  responded_bytes p = number_bytes 8 p.0 ++ sized_bytes p.1

  abbrev series_bytes : ℕ × (ℕ × Sized) → List ℕ
  series_bytes p = number_bytes 8 p.0 ++ responded_bytes p.1

  abbrev raw_bytes : ℕ × (ℕ × (ℕ × Sized)) → List ℕ
  raw_bytes p = number_bytes 8 p.0 ++ series_bytes p.1

  some_text : (n : ℕ) → (l : List ℕ) × (length l ≡ n)
  some_text n = let zeros : ℕ = 0 in (replicate n zeros, length-replicate n zeros)

  is_command_at : (series : ℕ) → Exact (command_at blank series) (IsSized series) sized_bytes
  is_command_at series =
      let r = sizes series in
      are_both (number 2 (unless blank (if_command series 1)) (unless blank (if_command series MOST_COMMAND))) text (Between (unless blank (if_command series 1)) (unless blank
      (if_command series MOST_COMMAND))) (λ n l. length l ≡ n) (number_bytes 2) (λ n l. l)
      (is_number 2 (unless blank (if_command series 1)) (unless blank (if_command series MOST_COMMAND)) r.0 (omega (arith, r.1))) (λ n g. is_text n) (λ n g. some_text n)

  some_sized : (series : ℕ) → (p : Sized) × IsSized series p
  some_sized series =
      let l = some_text (unless blank (if_command series 1)) in
      let r = sizes series in
      ((unless blank (if_command series 1), l.0), ((omega arith, r.0), l.1))

  is_responded_at : (series : ℕ) → Exact (responded_at blank series) (AfterSeries series) responded_bytes
  is_responded_at series =
      are_both (number 8 0 (if_series series MOST_SERIES)) (λ responded. command_at blank series) (Between 0 (if_series series MOST_SERIES)) (λ responded. IsSized series) (number_bytes 8) (λ responded. sized_bytes)
      (wide 0 (if_series series MOST_SERIES) (omega arith) (responded_range series)) (λ responded g. is_command_at series) (λ responded g. some_sized series)

  some_after_series : (series : ℕ) → (p : ℕ × Sized) × AfterSeries series p
  some_after_series series = let p = some_sized series in ((0, p.0), ((omega arith, omega arith), p.1))

  is_series_at : (client : ℕ) → Exact (series_at blank client) (AfterClient client) series_bytes
  is_series_at client =
      let r = series_range client in
      are_both (number 8 (if_client client 1) (if_client client greatest)) (responded_at blank) (Between (if_client client 1) (if_client client greatest)) AfterSeries (number_bytes 8) (λ series. responded_bytes)
      (wide (if_client client 1) (if_client client greatest) r.0 r.1) (λ series g. is_responded_at series) (λ series g. some_after_series series)

  some_after_client : (client : ℕ) → (p : ℕ × (ℕ × Sized)) × AfterClient client p
  some_after_client client =
      let r = series_range client in
      let p = some_after_series (if_client client 1) in
      ((if_client client 1, p.0), ((omega arith, r.0), p.1))

  raw_exact : Exact (both (number 8 0 (unless blank greatest)) (series_at blank)) RawProposal raw_bytes
  raw_exact =
      are_both (number 8 0 (unless blank greatest)) (series_at blank) (Between 0 (unless blank greatest)) AfterClient (number_bytes 8) (λ client. series_bytes)
      (wide 0 (unless blank greatest) (omega arith) client_range) (λ client g. is_series_at client) (λ client g. some_after_client client)

abbrev pub parts : Proposal → ℕ × (ℕ × (ℕ × Sized))
parts p = (client_of p, (series_of p, (responded_of p, (length (command_of p), command_of p))))

-- a blank, or a proposal that is none, whose numbers fit
abbrev pub IsProposalAs : Bool → Proposal → Type 0
IsProposalAs true p = p ≡ proposals.Blank
IsProposalAs false p = (is_proposal p ≡ true) × (is_blank p ≡ false) × (client_of p < 2 ^ 64)

same_parts : (c c' s s' r r' z z' : ℕ) (t t' : List ℕ) → c ≡ c' → s ≡ s' → r ≡ r' → z ≡ z' → t ≡ t'
    → let q : ℕ × (ℕ × (ℕ × Sized)) = (c, (s, (r, (z, t)))) in let q' : ℕ × (ℕ × (ℕ × Sized)) = (c', (s', (r', (z', t')))) in q ≡ q'
same_parts c c' s s' r r' z z' t t' a b d e f = rw (a, b, d, e, f) refl

chosen : (b c : Bool) (x y : ℕ) → b ≡ c → (if b then x else y) ≡ (if c then x else y)
chosen b c x y e = ap (λ (t : Bool). if t then x else y) e

record Whole (as_blank : Bool) (q : ℕ × (ℕ × (ℕ × Sized))) : Type 0 where
  pub good : IsProposalAs as_blank (proposal_of as_blank q)
  pub parted : parts (proposal_of as_blank q) ≡ q

module _ (c s r z : ℕ) (t : List ℕ) where
  abbrev raw : ℕ × (ℕ × (ℕ × Sized))
  raw = (c, (s, (r, (z, t))))

  whole_blank : RawProposal true raw → Whole true raw
  whole_blank g =
      let no_client : c ≡ 0 = omega (arith, g.0.1) in
      let none = chosen (c == 0) true 0 greatest (eq-eqb c 0 no_client) in
      let no_series : s ≡ 0 = omega (arith, g.1.0.1, none) in
      let outside : (nat_le 1 s && nat_le s MOST_SERIES) ≡ false = and_left (nat_le 1 s) (nat_le s MOST_SERIES) (lt-leb 1 s (omega (arith, no_series))) in
      let nothing_responded = chosen (nat_le 1 s && nat_le s MOST_SERIES) false MOST_SERIES 0 outside in
      let no_response : r ≡ 0 = omega (arith, g.1.1.0.1, nothing_responded) in
      let no_size : z ≡ 0 = omega (arith, g.1.1.1.0.1) in
      let no_text : t ≡ [] = nil_from_length t (omega (arith, g.1.1.1.1, no_size)) in
      record { good = refl; parted = same_parts 0 c 0 s 0 r 0 z [] t (sym no_client) (sym no_series) (sym no_response) (sym no_size) (sym no_text) }

  module _ (g : RawProposal false raw) where
    sized_by : (b : Bool) → nat_le s MOST_SERIES ≡ b → ((if b then 1 else 0) ≤ z) × (z ≤ (if b then MOST_COMMAND else 0))
    sized_by b e =
        let low = chosen (nat_le s MOST_SERIES) b 1 0 e in
        let high = chosen (nat_le s MOST_SERIES) b MOST_COMMAND 0 e in
        (omega (arith, g.1.1.1.0.0, low), omega (arith, g.1.1.1.0.1, high))

    commands : nat_le s MOST_SERIES ≡ true → is_command t ≡ true
    commands e =
        let z_is = sized_by true e in
        and_from (nat_le 1 (length t)) (nat_le (length t) MOST_COMMAND) (le-leb 1 (length t) (omega (arith, z_is.0, g.1.1.1.1))) (le-leb (length t) MOST_COMMAND (omega (arith, z_is.1, g.1.1.1.1)))

    whole_plain : (c == 0) ≡ true → Whole false raw
    whole_plain e =
        let no_client = eqb-true c 0 e in
        let none = chosen (c == 0) true 0 greatest e in
        let no_series : s ≡ 0 = omega (arith, g.1.0.1, none) in
        let outside : (nat_le 1 s && nat_le s MOST_SERIES) ≡ false = and_left (nat_le 1 s) (nat_le s MOST_SERIES) (lt-leb 1 s (omega (arith, no_series))) in
        let nothing_responded = chosen (nat_le 1 s && nat_le s MOST_SERIES) false MOST_SERIES 0 outside in
        let no_response : r ≡ 0 = omega (arith, g.1.1.0.1, nothing_responded) in
        let is : proposal_of false raw ≡ proposals.Plain t = ap (λ (b : Bool). if b then proposals.Plain t else of_session c s r t) e in
        let good : IsProposalAs false (proposals.Plain t) = (commands (le-leb s MOST_SERIES (omega (arith, no_series))), refl, omega arith) in
        let parted : parts (proposals.Plain t) ≡ raw = same_parts 0 c 0 s 0 r (length t) z t t (sym no_client) (sym no_series) (sym no_response) g.1.1.1.1 refl in
        record { good = subst (IsProposalAs false) (sym is) good; parted = ap parts is ∙ parted }

    module _ (e : (c == 0) ≡ false) where
      client_there : 1 ≤ c
      client_there = elim (cases_lt c 1) [ inl l ↦ absurd (let same : c ≡ 0 = omega (arith, l) in eqb-false c 0 e same) | inr l ↦ l ]

      series_there : (1 ≤ s) × (s ≤ greatest)
      series_there = let low = chosen (c == 0) false 0 1 e in let high = chosen (c == 0) false 0 greatest e in (omega (arith, g.1.0.0, low), omega (arith, g.1.0.1, high))

      of_client : proposal_of false raw ≡ of_session c s r t
      of_client = ap (λ (b : Bool). if b then proposals.Plain t else of_session c s r t) e

      whole_session : nat_le s MOST_SERIES ≡ true → Whole false raw
      whole_session l =
          let inside : (nat_le 1 s && nat_le s MOST_SERIES) ≡ true = and_from (nat_le 1 s) (nat_le s MOST_SERIES) (le-leb 1 s series_there.0) l in
          let responding = chosen (nat_le 1 s && nat_le s MOST_SERIES) true MOST_SERIES 0 inside in
          let is : proposal_of false raw ≡ proposals.Session c s r t = of_client ∙ ap (λ (b : Bool). if b then proposals.Session c s r t else if s == REGISTER then proposals.Register c else proposals.Close c) l in
          let numbers : are_fit_numbers c s r ≡ true =
          and_from (nat_le 1 c && nat_le 1 s && nat_le s MOST_SERIES) (nat_le r MOST_SERIES) (and_from (nat_le 1 c && nat_le 1 s) (nat_le s MOST_SERIES) (and_from (nat_le 1 c) (nat_le 1 s)
          (le-leb 1 c client_there) (le-leb 1 s series_there.0)) l) (le-leb r MOST_SERIES (omega (arith, g.1.1.0.1, responding))) in
          let good : IsProposalAs false (proposals.Session c s r t) = (and_from (are_fit_numbers c s r) (is_command t) numbers (commands l), refl, omega (arith, g.0.1)) in
          let parted : parts (proposals.Session c s r t) ≡ raw = same_parts c c s s r r (length t) z t t refl refl refl g.1.1.1.1 refl in
          record { good = subst (IsProposalAs false) (sym is) good; parted = ap parts is ∙ parted }

      module _ (l : nat_le s MOST_SERIES ≡ false) where
        no_text_there : (z ≡ 0) × (t ≡ [])
        no_text_there = let z_is = sized_by false l in (omega (arith, z_is.1), nil_from_length t (omega (arith, z_is.1, g.1.1.1.1)))

        no_response_there : r ≡ 0
        no_response_there =
            let outside : (nat_le 1 s && nat_le s MOST_SERIES) ≡ false = and_right (nat_le 1 s) (nat_le s MOST_SERIES) l in
            let nothing_responded = chosen (nat_le 1 s && nat_le s MOST_SERIES) false MOST_SERIES 0 outside in
            omega (arith, g.1.1.0.1, nothing_responded)

        after_sessions : of_session c s r t ≡ (if s == REGISTER then proposals.Register c else proposals.Close c)
        after_sessions = ap (λ (b : Bool). if b then proposals.Session c s r t else if s == REGISTER then proposals.Register c else proposals.Close c) l

        whole_register : (s == REGISTER) ≡ true → Whole false raw
        whole_register x =
            let is : proposal_of false raw ≡ proposals.Register c = of_client ∙ after_sessions ∙ ap (λ (b : Bool). if b then proposals.Register c else proposals.Close c) x in
            let good : IsProposalAs false (proposals.Register c) = (le-leb 1 c client_there, refl, omega (arith, g.0.1)) in
            let parted : parts (proposals.Register c) ≡ raw = same_parts c c REGISTER s 0 r 0 z [] t refl (sym (eqb-true s REGISTER x)) (sym no_response_there) (sym no_text_there.0) (sym no_text_there.1) in
            record { good = subst (IsProposalAs false) (sym is) good; parted = ap parts is ∙ parted }

        whole_close : (s == REGISTER) ≡ false → Whole false raw
        whole_close x =
            let is : proposal_of false raw ≡ proposals.Close c = of_client ∙ after_sessions ∙ ap (λ (b : Bool). if b then proposals.Register c else proposals.Close c) x in
            let other = eqb-false s REGISTER x in
            let above = leb-false s MOST_SERIES l in
            let closes : CLOSE ≡ s = elim (cases_eq s REGISTER) [
              | inl same ↦ absurd (other same)
              | inr differs ↦ (elim (cases_lt s CLOSE) [
                | inl under ↦ absurd (differs (omega
                    (arith, under, above)))
                | inr over ↦ omega (arith, over, series_there.1)
              ])
            ] in
            let good : IsProposalAs false (proposals.Close c) = (le-leb 1 c client_there, refl, omega (arith, g.0.1)) in
            let parted : parts (proposals.Close c) ≡ raw = same_parts c c CLOSE s 0 r 0 z [] t refl closes (sym no_response_there) (sym no_text_there.0) (sym no_text_there.1) in
            record { good = subst (IsProposalAs false) (sym is) good; parted = ap parts is ∙ parted }

    by_series : (c == 0) ≡ false → (b : Bool) → nat_le s MOST_SERIES ≡ b → (d : Bool) → (s == REGISTER) ≡ d → Whole false raw
    by_series e true l d x = whole_session e l
    by_series e false l true x = whole_register e l x
    by_series e false l false x = whole_close e l x

    by_client : (b : Bool) → (c == 0) ≡ b → Whole false raw
    by_client true e = whole_plain e
    by_client false e = by_series e (nat_le s MOST_SERIES) refl (s == REGISTER) refl

whole_proposal : (blank : Bool) (q : ℕ × (ℕ × (ℕ × Sized))) → RawProposal blank q → Whole blank q
whole_proposal true q g = whole_blank q.0 q.1.0 q.1.1.0 q.1.1.1.0 q.1.1.1.1 g
whole_proposal false q g = by_client q.0 q.1.0 q.1.1.0 q.1.1.1.0 q.1.1.1.1 g (q.0 == 0) refl

record Parted (as_blank : Bool) (p : Proposal) : Type 0 where
  pub raw_good : RawProposal as_blank (parts p)
  pub joined : proposal_of as_blank (parts p) ≡ p

parted_blank : Parted true proposals.Blank
parted_blank = record { raw_good = ((omega arith, omega arith), ((omega arith, omega arith), ((omega arith, omega arith), ((omega arith, omega arith), refl)))); joined = refl }

command_sizes : (command : List ℕ) → is_command command ≡ true → (1 ≤ length command) × (length command ≤ MOST_COMMAND)
command_sizes command e = let p = and_parts (nat_le 1 (length command)) (nat_le (length command) MOST_COMMAND) e in (leb-true 1 (length command) p.0, leb-true (length command) MOST_COMMAND p.1)

parted_plain : (command : List ℕ) → is_command command ≡ true → Parted false (proposals.Plain command)
parted_plain command e =
    let size = command_sizes command e in
    record { raw_good = ((omega arith, omega arith), ((omega arith, omega arith), ((omega arith, omega arith), (size, refl)))); joined = refl }

-- a client is no zero
client_is : (client : ℕ) → nat_le 1 client ≡ true → (client == 0) ≡ false
client_is client e = let l = leb-true 1 client e in ne_eqb client 0 (λ z. omega (arith, l, z))

parted_session : (client series responded : ℕ) (command : List ℕ) → are_fit_numbers client series responded ≡ true → is_command command ≡ true → client < 2 ^ 64
    → Parted false (proposals.Session client series responded command)
parted_session client series responded command f e fit =
    let last = and_parts (nat_le 1 client && nat_le 1 series && nat_le series MOST_SERIES) (nat_le responded MOST_SERIES) f in
    let mid = and_parts (nat_le 1 client && nat_le 1 series) (nat_le series MOST_SERIES) last.0 in
    let first = and_parts (nat_le 1 client) (nat_le 1 series) mid.0 in
    let there = client_is client first.0 in
    let size = command_sizes command e in
    let inside : (nat_le 1 series && nat_le series MOST_SERIES) ≡ true = and_from (nat_le 1 series) (nat_le series MOST_SERIES) first.1 mid.1 in
    let least_series = chosen (client == 0) false 0 1 there in
    let most_series = chosen (client == 0) false 0 greatest there in
    let most_responded = chosen (nat_le 1 series && nat_le series MOST_SERIES) true MOST_SERIES 0 inside in
    let least_size = chosen (nat_le series MOST_SERIES) true 1 0 mid.1 in
    let most_size = chosen (nat_le series MOST_SERIES) true MOST_COMMAND 0 mid.1 in
    let low = leb-true 1 series first.1 in
    let high = leb-true series MOST_SERIES mid.1 in
    let answered = leb-true responded MOST_SERIES last.1 in
    record {
      raw_good = (
        (omega arith, omega (arith, fit)),
        (
          (omega (arith, least_series, low), omega (arith, most_series, high)),
          (
            (omega arith, omega (arith, most_responded, answered)),
            (
              (
                omega
                    (arith, least_size, size.0),
                omega (arith, most_size, size.1),
              ),
              refl,
            ),
          ),
        ),
      );
      joined = ap (λ (b : Bool). if b then proposals.Plain command else of_session client series responded command) there
          ∙ ap (λ (b : Bool). if b then proposals.Session client series responded command else if series == REGISTER then proposals.Register client else proposals.Close client) mid.1;
    }

parted_register : (client : ℕ) → nat_le 1 client ≡ true → client < 2 ^ 64 → Parted false (proposals.Register client)
parted_register client e fit =
    let there = client_is client e in
    let least_series = chosen (client == 0) false 0 1 there in
    let most_series = chosen (client == 0) false 0 greatest there in
    record {
      raw_good = ((omega arith, omega (arith, fit)), ((omega (arith, least_series), omega (arith, most_series)), ((omega arith, omega arith), ((omega arith, omega arith), refl))));
      joined = ap (λ
          (b : Bool). if b then proposals.Plain [] else proposals.Register client) there;
    }

parted_close : (client : ℕ) → nat_le 1 client ≡ true → client < 2 ^ 64 → Parted false (proposals.Close client)
parted_close client e fit =
    let there = client_is client e in
    let least_series = chosen (client == 0) false 0 1 there in
    let most_series = chosen (client == 0) false 0 greatest there in
    record {
      raw_good = ((omega arith, omega (arith, fit)), ((omega (arith, least_series), omega (arith, most_series)), ((omega arith, omega arith), ((omega arith, omega arith), refl))));
      joined = ap (λ
          (b : Bool). if b then proposals.Plain [] else proposals.Close client) there;
    }

parted : (blank : Bool) (p : Proposal) → IsProposalAs blank p → Parted blank p
parted true p g = subst (λ (x : Proposal). Parted true x) (sym g) parted_blank
parted false proposals.Blank g = absurd (let no : true ≡ false = g.1 in cc)
parted false (proposals.Plain command) g = parted_plain command g.0
parted false (proposals.Session client series responded command) g =
    let p = and_parts (are_fit_numbers client series responded) (is_command command) g.0 in
    parted_session client series responded command p.0 p.1 g.2
parted false (proposals.Register client) g = parted_register client g.0 g.2
parted false (proposals.Close client) g = parted_close client g.0 g.2

pub is_proposal_at : (blank : Bool) → Exact (proposal_at blank) (IsProposalAs blank) proposal_bytes
is_proposal_at blank =
    is_made (proposal_of blank) parts (both (number 8 0 (unless blank greatest)) (series_at blank)) (RawProposal blank) (raw_bytes blank) (IsProposalAs blank) proposal_bytes
    (record {
      good_part = λ p g. (parted blank p g).raw_good;
      whole = λ p g. (parted blank p g).joined;
      spelt = λ p g. refl;
      good_whole = λ q g. (whole_proposal blank q g).good;
      parted = λ q g. (whole_proposal blank q g).parted;
    })
    (raw_exact blank)

pub some_proposal : (blank : Bool) → (p : Proposal) × IsProposalAs blank p
some_proposal true = (proposals.Blank, refl)
some_proposal false = (proposals.Register 1, (refl, refl, omega arith))

-- ---- entries

abbrev pub RawEntry : ℕ × (Key × Proposal) → Type 0
RawEntry p = Between 1 greatest p.0 × (IsKeyFrom 0 (omega arith) p.1.0 × IsProposalAs (p.1.0.host == 0) p.1.1)

abbrev entry_parts : Entry → ℕ × (Key × Proposal)
entry_parts e = (e.term, (e.key, e.proposal))

-- what fits, one number at a time
record Fitting (e : Entry) : Type 0 where
  pub term_fits : e.term < 2 ^ 64
  pub start_fits : e.key.start < 2 ^ 64
  pub serial_fits : e.key.serial < 2 ^ 64
  pub client_fits : client_of e.proposal < 2 ^ 64

fitting : (e : Entry) → fits e ≡ true → Fitting e
fitting e f =
    let c = and_parts (nat_lt e.term (2 ^ 64) && nat_lt e.key.start (2 ^ 64) && nat_lt e.key.serial (2 ^ 64)) (nat_lt (client_of e.proposal) (2 ^ 64)) f in
    let b = and_parts (nat_lt e.term (2 ^ 64) && nat_lt e.key.start (2 ^ 64)) (nat_lt e.key.serial (2 ^ 64)) c.0 in
    let a = and_parts (nat_lt e.term (2 ^ 64)) (nat_lt e.key.start (2 ^ 64)) b.0 in
    record { term_fits = ltb-true e.term (2 ^ 64) a.0; start_fits = ltb-true e.key.start (2 ^ 64) a.1; serial_fits = ltb-true e.key.serial (2 ^ 64) b.1; client_fits = ltb-true (client_of e.proposal) (2 ^ 64) c.1 }

from_fitting : (e : Entry) → Fitting e → fits e ≡ true
from_fitting e f =
    and_from (nat_lt e.term (2 ^ 64) && nat_lt e.key.start (2 ^ 64) && nat_lt e.key.serial (2 ^ 64)) (nat_lt (client_of e.proposal) (2 ^ 64))
    (and_from (nat_lt e.term (2 ^ 64) && nat_lt e.key.start (2 ^ 64)) (nat_lt e.key.serial (2 ^ 64))
    (and_from (nat_lt e.term (2 ^ 64)) (nat_lt e.key.start (2 ^ 64)) (lt-ltb e.term (2 ^ 64) f.term_fits) (lt-ltb e.key.start (2 ^ 64) f.start_fits)) (lt-ltb e.key.serial (2 ^ 64) f.serial_fits))
    (lt-ltb (client_of e.proposal) (2 ^ 64) f.client_fits)

-- ---- from an entry to its parts

module _ (index : ℕ) (e : Entry) (g : IsEntryAt index e) where
  forms : ((is_blank e.proposal && is_no_key e.key) || is_request e.key e.proposal) ≡ true
  forms = (and_parts (nat_le 1 e.term) ((is_blank e.proposal && is_no_key e.key) || is_request e.key e.proposal) g.well_formed).1

  term_there : 1 ≤ e.term
  term_there = leb-true 1 e.term (and_parts (nat_le 1 e.term) ((is_blank e.proposal && is_no_key e.key) || is_request e.key e.proposal) g.well_formed).0

  f : Fitting e
  f = fitting e g.fitting

  blank_parts : (is_blank e.proposal && is_no_key e.key) ≡ true → IsKeyFrom 0 (omega arith) e.key × IsProposalAs (e.key.host == 0) e.proposal
  blank_parts b =
      let p = and_parts (is_blank e.proposal) (is_no_key e.key) b in
      let c = and_parts ((e.key.host == 0) && (e.key.start == 0)) (e.key.serial == 0) p.1 in
      let a = and_parts (e.key.host == 0) (e.key.start == 0) c.0 in
      let host = eqb-true e.key.host 0 a.0 in
      let start = eqb-true e.key.start 0 a.1 in
      let serial = eqb-true e.key.serial 0 c.1 in
      let low = chosen (e.key.host == 0) true 0 1 a.0 in
      let high = chosen (e.key.host == 0) true 0 greatest a.0 in (
        ((omega arith, omega (arith, host)), ((omega (arith, low), omega (arith, start)), (omega (arith, low), omega (arith, serial)))),
        subst (λ (x : Bool). IsProposalAs x e.proposal) (sym a.0) (only_blank e.proposal p.0),
      )
    where
      only_blank : (p : Proposal) → is_blank p ≡ true → p ≡ proposals.Blank
      only_blank proposals.Blank b = refl
      only_blank (proposals.Plain command) b = absurd cc
      only_blank (proposals.Session client series responded command) b = absurd cc
      only_blank (proposals.Register client) b = absurd cc
      only_blank (proposals.Close client) b = absurd cc

  request_parts : is_request e.key e.proposal ≡ true → IsKeyFrom 0 (omega arith) e.key × IsProposalAs (e.key.host == 0) e.proposal
  request_parts r =
      let c = and_parts (is_key e.key && is_proposal e.proposal) (not (is_blank e.proposal)) r in
      let b = and_parts (is_key e.key) (is_proposal e.proposal) c.0 in
      let k = and_parts (is_host e.key.host && nat_le 1 e.key.start) (nat_le 1 e.key.serial) b.0 in
      let j = and_parts (is_host e.key.host) (nat_le 1 e.key.start) k.0 in
      let h = and_parts (nat_le 1 e.key.host) (nat_le e.key.host 9) j.0 in
      let one = leb-true 1 e.key.host h.0 in
      let nine = leb-true e.key.host 9 h.1 in
      let start = leb-true 1 e.key.start j.1 in
      let serial = leb-true 1 e.key.serial k.1 in
      let there : (e.key.host == 0) ≡ false = ne_eqb e.key.host 0 (λ z. omega (arith, one, z)) in
      let low = chosen (e.key.host == 0) false 0 1 there in
      let high = chosen (e.key.host == 0) false 0 greatest there in (
        ((omega arith, nine), ((omega (arith, low, start), omega (arith, high, f.start_fits)), (omega (arith, low, serial), omega (arith, high, f.serial_fits)))),
        subst (λ (x : Bool). IsProposalAs x e.proposal) (sym there) (b.1, not-true (is_blank e.proposal) c.1, f.client_fits),
      )

  raw_entry : RawEntry (entry_parts e)
  raw_entry =
      ((term_there, omega (arith, f.term_fits)), elim (or_cases (is_blank e.proposal && is_no_key e.key) (is_request e.key e.proposal) forms) [ inl b ↦ blank_parts b | inr r ↦ request_parts r ])

  entry_joined : entry_of index (entry_parts e) ≡ e
  entry_joined = let same = g.numbered in subst (λ (i : ℕ). entry_of i (entry_parts e) ≡ e) same refl

-- ---- from parts to an entry

module _ (index term : ℕ) (key : Key) (p : Proposal) (g : RawEntry (term, (key, p))) where
  abbrev entry : Entry
  entry = record { index = index; term = term; key = key; proposal = p }

  is_of_blank : (key.host == 0) ≡ true → IsEntryAt index entry
  is_of_blank e =
      let blank : p ≡ proposals.Blank = subst (λ (x : Bool). IsProposalAs x p) e g.1.1 in
      let high = chosen (key.host == 0) true 0 greatest e in
      let start : key.start ≡ 0 = omega (arith, high, g.1.0.1.0.1) in
      let serial : key.serial ≡ 0 = omega (arith, high, g.1.0.1.1.1) in
      let no_key : is_no_key key ≡ true = and_from ((key.host == 0) && (key.start == 0)) (key.serial == 0) (and_from (key.host == 0) (key.start == 0) e (eq-eqb key.start 0 start)) (eq-eqb key.serial 0 serial) in
      let blanks : is_blank p ≡ true = ap is_blank blank in
      let no_client : client_of p ≡ 0 = ap client_of blank in
      record {
        numbered = refl;
        well_formed = and_from (nat_le 1 term) ((is_blank p && is_no_key key) || is_request key p) (le-leb 1 term g.0.0) (or_left (is_blank p && is_no_key key) (is_request key p) (and_from (is_blank p)
            (is_no_key key) blanks no_key));
        fitting = from_fitting entry (record { term_fits = omega (arith, g.0.1); start_fits = omega (arith, start); serial_fits = omega (arith, serial); client_fits = omega (arith, no_client) });
      }

  is_of_request : (key.host == 0) ≡ false → IsEntryAt index entry
  is_of_request e =
      let q : IsProposalAs false p = subst (λ (x : Bool). IsProposalAs x p) e g.1.1 in
      let low = chosen (key.host == 0) false 0 1 e in
      let high = chosen (key.host == 0) false 0 greatest e in
      let one : 1 ≤ key.host = elim (cases_lt key.host 1) [ inl l ↦ absurd (let same : key.host ≡ 0 = omega (arith, l) in eqb-false key.host 0 e same) | inr l ↦ l ] in
      let keyed : is_key key ≡ true =
      and_from (is_host key.host && nat_le 1 key.start) (nat_le 1 key.serial) (and_from (is_host key.host) (nat_le 1 key.start) (and_from (nat_le 1 key.host) (nat_le key.host 9) (le-leb 1 key.host one)
      (le-leb key.host 9 g.1.0.0.1)) (le-leb 1 key.start (omega (arith, low, g.1.0.1.0.0)))) (le-leb 1 key.serial (omega (arith, low, g.1.0.1.1.0))) in
      let request : is_request key p ≡ true = and_from (is_key key && is_proposal p) (not (is_blank p)) (and_from (is_key key) (is_proposal p) keyed q.0) (not_from_false (is_blank p) q.1) in
      record {
        numbered = refl;
        well_formed = and_from (nat_le 1 term) ((is_blank p && is_no_key key) || is_request key p) (le-leb 1 term g.0.0) (or_right (is_blank p && is_no_key key) (is_request key p) request);
        fitting = from_fitting entry (record { term_fits = omega (arith, g.0.1); start_fits = omega (arith, high, g.1.0.1.0.1); serial_fits = omega (arith, high, g.1.0.1.1.1); client_fits = q.2 });
      }

  is_entry_of : (b : Bool) → (key.host == 0) ≡ b → IsEntryAt index entry
  is_entry_of true e = is_of_blank e
  is_entry_of false e = is_of_request e

-- entries are read exactly
pub is_entry_at : (index : ℕ) → Exact (entry_at index) (IsEntryAt index) entry_bytes
unfolding entry_at
is_entry_at index =
    is_made (entry_of index) entry_parts (both (number 8 1 greatest) (λ term. both (key_at 0) (λ key. proposal_at (key.host == 0)))) RawEntry (λ p. number_bytes 8 p.0 ++
    (key_bytes p.1.0 ++ proposal_bytes p.1.1)) (IsEntryAt index) entry_bytes
    (record {
      good_part = λ e g. raw_entry index e g;
      whole = λ e g. entry_joined index e g;
      spelt = λ e g. refl;
      good_whole = λ q g. is_entry_of index q.0 q.1.0 q.1.1 g (q.1.0.host == 0) refl;
      parted = λ q g. refl;
    })
    (are_both (number 8 1 greatest) (λ term. both (key_at 0) (λ key. proposal_at (key.host == 0))) (Between 1 greatest) (λ term p. IsKeyFrom 0 (omega arith) p.0
    × IsProposalAs (p.0.host == 0) p.1) (number_bytes 8) (λ term p. key_bytes p.0 ++ proposal_bytes p.1)
    (wide 1 greatest (omega arith) (omega arith))
    (λ term g. are_both (key_at 0) (λ key. proposal_at (key.host == 0)) (IsKeyFrom 0 (omega arith)) (λ key p. IsProposalAs (key.host == 0) p) key_bytes (λ key p. proposal_bytes p) (is_key_at 0
    (omega arith)) (λ key h. is_proposal_at (key.host == 0)) (λ key h. some_proposal (key.host == 0)))
    (λ term g. let k = some_key 0 (omega arith) in let p = some_proposal (k.0.host == 0) in ((k.0, p.0), (k.1, p.1))))

pub some_entry : (index : ℕ) → (e : Entry) × IsEntryAt index e
some_entry index = (record { index = index; term = 1; key = record { host = 0; start = 0; serial = 0 }; proposal = proposals.Blank }, record { numbered = refl; well_formed = refl; fitting = refl })
