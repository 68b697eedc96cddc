-- Confirming reads one by one from the front, as long as the first is answered, is confirming those that are answered.
use Rattle.std.proofs.Common.{◌≡◌, ◌∙◌, List, [], ◌∷◌, ◌++◌, Bool, true, false, suc, refl, arith, sym, subst, ap, if◌then◌else◌}
use Rattle.std.proofs.lemmas.List.{append_assoc, append-nil}
use Rattle.std.specs.Prelude.{◌==◌}
use Rattle.std.specs.List.{All}
use Rattle.wire_types.specs.declared.envelope.Body.TheVariants as bodies
use Rattle.read_index.specs.declared.reads.OpenRead.{OpenRead}
use Rattle.raft_model.specs.declared.note.Note.{Note}
use Rattle.raft_model.specs.declared.note.Note.TheVariants as notes
use Rattle.raft_model.specs.declared.state.State.{State as Replica}
use Rattle.roster.specs.Roster.{Seat}
use Rattle.raft_model.specs.Replica.{Row, sent_in}
use Rattle.raft_model.specs.Reading.{is_answered, confirmed, confirm, waits_on}
use Rattle.raft_core.specs.Confirming.{waits, confirm_from}

abbrev told : Bool → Seat → OpenRead → Row → Row
told b s read w =
    if b then record w { notes = w.notes ++ notes.Confirmed s.me read.key read.index ∷ [] }
    else record w { replica = sent_in 0 s read.origin (bodies.ReadAnswer read.key read.index) w.replica }

same_told : (b : Bool) (s : Seat) (read : OpenRead) (more : List OpenRead) (r : Replica) (ns : List Note)
    → (let w = told b s read (record { replica = waits more r; notes = ns }) in confirm_from s w.replica w.notes) ≡ confirm s more (told b s read (record { replica = waits [] r; notes = ns }))
same_told true s read more r ns = refl
same_told false s read more r ns = refl

-- what is left to confirm after the first of the reads was
pub goes_on : (s : Seat) (read : OpenRead) (r q : Replica) (x : Row) (ns : List Note)
    → r.reads.waiting ≡ read ∷ q.reads.waiting
    → q ≡ waits q.reads.waiting r
    → is_answered s r read ≡ true
    → x ≡ confirmed s read (record { replica = q; notes = ns })
    → confirm_from s x.replica x.notes ≡ confirm_from s r ns
goes_on s read r q x ns front rest there e =
    let w : Row = record { replica = waits [] r; notes = ns } in
    let first : confirm_from s r ns ≡ confirm s (read ∷ q.reads.waiting) w = ap (λ rs. confirm s rs w) front in
    let after : confirm s (read ∷ q.reads.waiting) w ≡ confirm s q.reads.waiting (confirmed s read w) =
    ap (λ b. if b then confirm s q.reads.waiting (confirmed s read w) else confirm s q.reads.waiting (record w { replica = waits_on read w.replica })) there in
    let told_on : (let y = confirmed s read (record { replica = q; notes = ns }) in confirm_from s y.replica y.notes) ≡ confirm s q.reads.waiting (confirmed s read w) =
    subst (λ p. (let y = confirmed s read (record { replica = p; notes = ns }) in confirm_from s y.replica y.notes) ≡ confirm s q.reads.waiting (confirmed s read w)) (sym rest)
    (same_told (read.origin == s.me) s read q.reads.waiting r ns) in
    subst (λ y. confirm_from s y.replica y.notes ≡ confirm_from s r ns) (sym e) (told_on ∙ sym (first ∙ after))

none_kept : (s : Seat) (rs : List OpenRead) (w : Row) → All (λ read. is_answered s w.replica read ≡ false) rs → confirm s rs w ≡ record w { replica = waits (w.replica.reads.waiting ++ rs) w.replica }
none_kept s [] w n = ap (λ rs. record w { replica = waits rs w.replica }) (sym (append-nil w.replica.reads.waiting))
none_kept s (read ∷ more) w n =
    let on : Row = record w { replica = waits_on read w.replica } in
    let stays : confirm s (read ∷ more) w ≡ confirm s more on = ap (λ b. if b then confirm s more (confirmed s read w) else confirm s more on) (n 0 read (omega arith)) in
    let rest : confirm s more on ≡ record w { replica = waits ((w.replica.reads.waiting ++ read ∷ []) ++ more) w.replica } = none_kept s more on (λ k d h. n (suc k) d (omega (arith, h))) in
    stays ∙ rest ∙ ap (λ rs. record w { replica = waits rs w.replica }) (append_assoc w.replica.reads.waiting (read ∷ []) more)

-- where none of the reads is answered, nothing is left to do
pub none_left : (s : Seat) (r : Replica) (ns : List Note) → All (λ read. is_answered s r read ≡ false) r.reads.waiting → confirm_from s r ns ≡ record { replica = r; notes = ns }
none_left s r ns n = none_kept s r.reads.waiting (record { replica = waits [] r; notes = ns }) n
