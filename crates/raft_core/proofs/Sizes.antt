-- Few entries with short commands have few bytes.
use Rattle.std.proofs.Common.{◌≡◌, ◌≤◌, ◌*◌, ◌^◌, ℕ, List, [], ◌∷◌, false, length, drop, refl, arith}
use Rattle.std.specs.Prelude.{nat_le}
use Rattle.std.specs.List.{All}
use Rattle.std.proofs.lemmas.List.Elements.{All-drop, All-tail, All-head, All-weaker}
use Rattle.host_ids.specs.declared.entry.Entry.{Entry}
use Rattle.host_ids.specs.declared.proposal.Proposal.{Proposal}
use Rattle.host_ids.specs.declared.proposal.Proposal.TheVariants.{Blank, Plain, Session, Register, Close}
use Rattle.log_view.specs.Tallies.{command_length}
use Rattle.raft_model.specs.Saving.{payload, bytes_of}

payload_length : (p : Proposal) → length (payload p) ≡ command_length p
payload_length Blank = refl
payload_length (Plain command) = refl
payload_length (Session client series responded command) = refl
payload_length (Register client) = refl
payload_length (Close client) = refl

abbrev IsShort : Entry → Type 0
IsShort e = command_length e.proposal ≤ 512

bytes_bounded : (es : List Entry) → All IsShort es → bytes_of es ≤ 563 * length es
bytes_bounded [] a = omega arith
bytes_bounded (e ∷ es) a =
    let h = bytes_bounded es (All-tail IsShort e es a) in
    let one : command_length e.proposal ≤ 512 = All-head IsShort e es a in
    let p = payload_length e.proposal in
    omega (arith, h, one, p)

shorter : (longest : ℕ) → longest ≤ 512 → (e : Entry) → command_length e.proposal ≤ longest → IsShort e
shorter longest l e h = omega (arith, l, h)

pub few_are_small : (longest from : ℕ) (es : List Entry) → All (λ (e : Entry). command_length e.proposal ≤ longest) es → longest ≤ 512 → length (drop from es) ≤ 3800000 → nat_le (2 ^ 31) (bytes_of (drop from es)) ≡ false
few_are_small longest from es a l n =
    let h = bytes_bounded (drop from es) (All-drop IsShort from es (All-weaker (λ (e : Entry). command_length e.proposal ≤ longest) IsShort (shorter longest l) es a)) in
    grind (arith, h, n)
