-- What an entry's reading says, and the parts of what is written.
use Rattle.std.proofs.Common.{◌≡◌, ℕ, ◌+◌, ◌-◌, ◌≤◌, List, ◌++◌, Result, Ok, Err, IfOk, length, drop, sym, ap, ◌∙◌, append_assoc}
use Rattle.host_ids.specs.declared.entry.Entry.{Entry}
use Rattle.wire_codec.specs.declared.fault.DecodeFault.{DecodeFault}
use Rattle.wire_codec.specs.Reading.{AreBytes, Stands, NoneStands, IsLongestFront}
use Rattle.wire_codec.specs.Entry.{IsEntryAt, entry_bytes, entry_at}
use Rattle.wire_codec.specs.laws.Entries.{is_entry_at}
use Rattle.wire_codec.specs.laws.Numbers.{ok_parts}
use Rattle.wire_codec.specs.laws.Refusals.{none_stands, is_longest, goes_on}

pub five_parts : (old a b c d e : List ℕ) → old ++ a ++ b ++ c ++ d ++ e ≡ old ++ (a ++ (b ++ (c ++ (d ++ e))))
five_parts old a b c d e =
    append_assoc (old ++ a ++ b ++ c) d e ∙ append_assoc (old ++ a ++ b) c (d ++ e) ∙ append_assoc (old ++ a) b (c ++ (d ++ e)) ∙ append_assoc old a (b ++ (c ++ (d ++ e)))

module _ (index : ℕ) (bytes : List ℕ) (at : ℕ) (y : AreBytes bytes) (h : at ≤ length bytes) where
  pub entry_stands : (r : Result (Entry × ℕ) DecodeFault) → IfOk r (λ x. entry_at index bytes at ≡ Ok x) → IfOk r (λ x. Stands (IsEntryAt index) entry_bytes bytes at x.0 x.1)
  entry_stands (Ok x) e = (is_entry_at index).spells x.0 bytes at x.1 y h e
  entry_stands (Err fault) e = tt

  pub entry_back : (r : Result (Entry × ℕ) DecodeFault) → IfOk r (λ x. entry_at index bytes at ≡ Ok x) → (e : Entry) (rest : List ℕ) → IsEntryAt index e → drop at bytes ≡ entry_bytes e ++ rest → IfOk r (λ x. (x.0 ≡ e) × (x.1 ≡ at + length (entry_bytes e)))
  entry_back (Ok x) o e rest g s = ok_parts x.0 e x.1 (at + length (entry_bytes e)) (sym o ∙ (is_entry_at index).back e bytes rest at g h s)
  entry_back (Err fault) o e rest g s = tt

  module _ (place : ℕ) (e : entry_at index bytes at ≡ Err place) where
    pub no_entry : NoneStands (IsEntryAt index) entry_bytes (drop at bytes)
    no_entry = none_stands (entry_at index) (IsEntryAt index) entry_bytes (is_entry_at index) bytes at place y h e

    pub longest_front : (at ≤ place) × IsLongestFront (IsEntryAt index) entry_bytes (drop at bytes) (place - at)
    longest_front = (goes_on (entry_at index) (IsEntryAt index) entry_bytes (is_entry_at index) bytes at place y h e, is_longest (entry_at index) (IsEntryAt index) entry_bytes (is_entry_at index) bytes at place y h e)

pub joined : (old a b c d e o1 o2 o3 o4 o5 : List ℕ) → o1 ≡ old ++ a → o2 ≡ o1 ++ b → o3 ≡ o2 ++ c → o4 ≡ o3 ++ d → o5 ≡ o4 ++ e → o5 ≡ old ++ (a ++ (b ++ (c ++ (d ++ e))))
joined old a b c d e o1 o2 o3 o4 o5 p q r s t = t ∙ ap (λ (l : List ℕ). l ++ e) (s ∙ ap (λ (l : List ℕ). l ++ d) (r ∙ ap (λ (l : List ℕ). l ++ c) (q ∙ ap (λ (l : List ℕ). l ++ b) p))) ∙ five_parts old a b c d e
