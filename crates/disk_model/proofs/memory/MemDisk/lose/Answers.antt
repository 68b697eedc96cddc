use Rattle.std.proofs.Common.{◌≡◌, List, [], true, false, ap, refl, sym, subst, ◌∙◌, true≢false}
use Rattle.disk_model.specs.Files.{Files, each, lost, file_at, now_of, IsStill}
use Rattle.disk_model.specs.Plain.{are_plain}
use Rattle.disk_model.specs.Plan.{all_damaged, is_damaging}
use Rattle.disk_model.specs.declared.damage.Damage.{Damage}
use Rattle.disk_model.proofs.Plain.{plain_each, to_plain}
use Rattle.disk_model.proofs.memory.MemDisk.lose.Goals as goal

pub damage_all-requires : goal.damage_all-requires
damage_all-requires c = ap are_plain c.lose_all.ensures.files ∙ to_plain (each (lost c.args.choice) c.args.self.now.files.entries) (plain_each (lost c.args.choice) c.args.self.now.files.entries (λ s. refl))

undamaged : (c : goal.In_ok-damage_all) → c.args.self.now.damages.items ≡ [] → c.damage_all.new.files.entries ≡ c.lose_all.new.files.entries
undamaged c none = c.in_ok-damage_all.ensures.ok ∙ ap (λ (ds : List Damage). all_damaged c.saturating_add-self.result ds c.lose_all.new.files.entries) (c.as_slice.ensures.value ∙ none)

damaging : (c : goal.After-from_residual) → c.args.self.now.damages.items ≡ [] → true ≡ false
damaging c none = sym c.in_err-damage_all.ensures.err ∙ ap (λ (ds : List Damage). is_damaging c.saturating_add-self.result ds) (c.as_slice.ensures.value ∙ none)

pub returns-clause-left : goal.returns-clause-left
returns-clause-left c none f = ap (λ (es : Files). now_of (file_at f es)) (undamaged c none) ∙ c.lose_all.ensures.at f

pub returns-clause-still : goal.returns-clause-still
returns-clause-still c none f = subst (λ (es : Files). IsStill (file_at f es)) (sym (undamaged c none)) (c.lose_all.ensures.still f)

pub returns-in_err-damage_all-clause-left : goal.returns-in_err-damage_all-clause-left
returns-in_err-damage_all-clause-left c none = absurd (true≢false (damaging c none))

pub returns-in_err-damage_all-clause-still : goal.returns-in_err-damage_all-clause-still
returns-in_err-damage_all-clause-still c none = absurd (true≢false (damaging c none))
