-- Worked outputs are legal, by computation.
use Rattle.std.proofs.Common.{◌≡◌, refl}
use Rattle.std.specs.Prelude.{true}
use Rattle.std.specs.Fmt.{digits}
use Rattle.object_model.specs.Words.{number_on}
use Rattle.object_model.specs.Command.{command_of, query_of}
use Rattle.object_model.specs.Object.{after, answer}
use Rattle.object_model.specs.Sequence.{standing, raised, after_all}
use Rattle.object_model.specs.Mark.{entries}
use Rattle.object_model.specs.Decision.{legal, each_good}
use Rattle.object_model.specs.Rows.{evicting, responding}

pub evicting_legal : legal 2 (entries evicting) evicting ≡ true
unfolding digits number_on command_of query_of after answer standing raised after_all each_good
evicting_legal = refl

pub responding_legal : legal 4096 (entries responding) responding ≡ true
unfolding digits number_on command_of query_of after answer standing raised after_all each_good
responding_legal = refl
