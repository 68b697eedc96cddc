-- The worked scripts print their outputs, by computation.
use Rattle.std.proofs.Common.{◌≡◌, refl}
use Rattle.std.specs.Fmt.{digits}
use Rattle.object_model.specs.Words.{number_on}
use Rattle.object_model.specs.Command.{command_of, query_of}
use Rattle.object_model.specs.Object.{after, answer}
use Rattle.script_text.specs.Script.{read_line}
use Rattle.script_text.specs.Print.{print_line}
use Rattle.raft_model.specs.Step.{row}
use Rattle.raft_model.specs.Group.{act}
use Rattle.run_model.specs.Run.{output_of, run, turn, settle, save_each, deliver_each, apply_each, reached, applied, answered, confirmed, stale, proposes, asks, register, call, again, completed, close, read_asked, reads, deliver, show, lose, event_step, declare, group, grouped, settles}
use Rattle.run_model.specs.Rows.{script, printed, settling, settled, alone, alone_printed, showing, showing_printed, handing_on, handing_on_printed, twice, twice_printed, ahead, ahead_printed}

pub script_printed : output_of script ≡ printed
unfolding digits number_on command_of query_of after answer read_line print_line output_of run turn settle save_each deliver_each apply_each reached applied answered act row proposes asks register call again completed close confirmed read_asked reads stale deliver show lose event_step declare group grouped settles
script_printed = refl

pub settling_printed : output_of settling ≡ settled
unfolding digits number_on command_of query_of after answer read_line print_line output_of run turn settle save_each deliver_each apply_each reached applied answered act row proposes asks register call again completed close confirmed read_asked reads stale deliver show lose event_step declare group grouped settles
settling_printed = refl

pub alone_is_printed : output_of alone ≡ alone_printed
unfolding digits number_on command_of query_of after answer read_line print_line output_of run turn settle save_each deliver_each apply_each reached applied answered act row proposes asks register call again completed close confirmed read_asked reads stale deliver show lose event_step declare group grouped settles
alone_is_printed = refl

pub showing_is_printed : output_of showing ≡ showing_printed
unfolding digits number_on command_of query_of after answer read_line print_line output_of run turn settle save_each deliver_each apply_each reached applied answered act row proposes asks register call again completed close confirmed read_asked reads stale deliver show lose event_step declare group grouped settles
showing_is_printed = refl

pub handing_on_is_printed : output_of handing_on ≡ handing_on_printed
unfolding digits number_on command_of query_of after answer read_line print_line output_of run turn settle save_each deliver_each apply_each reached applied answered act row proposes asks register call again completed close confirmed read_asked reads stale deliver show lose event_step declare group grouped settles
handing_on_is_printed = refl

pub twice_is_printed : output_of twice ≡ twice_printed
unfolding digits number_on command_of query_of after answer read_line print_line output_of run turn settle save_each deliver_each apply_each reached applied answered act row proposes asks register call again completed close confirmed read_asked reads stale deliver show lose event_step declare group grouped settles
twice_is_printed = refl

pub ahead_is_printed : output_of ahead ≡ ahead_printed
unfolding digits number_on command_of query_of after answer read_line print_line output_of run turn settle save_each deliver_each apply_each reached applied answered act row proposes asks register call again completed close confirmed read_asked reads stale deliver show lose event_step declare group grouped settles
ahead_is_printed = refl
