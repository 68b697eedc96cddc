-- The worked and drawn runs give what is stated of them, by computation.
use Rattle.std.proofs.Common.{◌≡◌, refl}
use Rattle.raft_model.specs.Step.{row}
use Rattle.raft_model.specs.Group.{act, run}
use Rattle.raft_runs.specs.Runs.{digests}
use Rattle.raft_runs.specs.Followed as followed
use Rattle.raft_runs.specs.Minority as minority
use Rattle.raft_runs.specs.Repeated as repeated
use Rattle.raft_runs.specs.Deposed as deposed
use Rattle.raft_runs.specs.Lagging as lagging
use Rattle.raft_runs.specs.Crashed as crashed
use Rattle.raft_runs.specs.Installed as installed
use Rattle.raft_runs.specs.DrawnThree as drawn_three
use Rattle.raft_runs.specs.DrawnFive as drawn_five
use Rattle.raft_runs.specs.DrawnApart as drawn_apart

pub followed_notes : (run followed.events_of followed.begun).notes ≡ followed.notes_of
unfolding run act row
followed_notes = refl

pub followed_decided : (run followed.events_of followed.begun).group.decided ≡ followed.decided_of
unfolding run act row
followed_decided = refl

pub followed_replicas : digests (run followed.events_of followed.begun).group ≡ followed.replicas_of
unfolding run act row
followed_replicas = refl

pub followed_sent : (run followed.events_of followed.begun).group.wire ≡ followed.wire_of
unfolding run act row
followed_sent = refl

pub minority_notes : (run minority.events_of minority.begun).notes ≡ minority.notes_of
unfolding run act row
minority_notes = refl

pub minority_decided : (run minority.events_of minority.begun).group.decided ≡ minority.decided_of
unfolding run act row
minority_decided = refl

pub minority_replicas : digests (run minority.events_of minority.begun).group ≡ minority.replicas_of
unfolding run act row
minority_replicas = refl

pub minority_sent : (run minority.events_of minority.begun).group.wire ≡ minority.wire_of
unfolding run act row
minority_sent = refl

pub repeated_notes : (run repeated.events_of repeated.begun).notes ≡ repeated.notes_of
unfolding run act row
repeated_notes = refl

pub repeated_decided : (run repeated.events_of repeated.begun).group.decided ≡ repeated.decided_of
unfolding run act row
repeated_decided = refl

pub repeated_replicas : digests (run repeated.events_of repeated.begun).group ≡ repeated.replicas_of
unfolding run act row
repeated_replicas = refl

pub repeated_sent : (run repeated.events_of repeated.begun).group.wire ≡ repeated.wire_of
unfolding run act row
repeated_sent = refl

pub deposed_notes : (run deposed.events_of deposed.begun).notes ≡ deposed.notes_of
unfolding run act row
deposed_notes = refl

pub deposed_decided : (run deposed.events_of deposed.begun).group.decided ≡ deposed.decided_of
unfolding run act row
deposed_decided = refl

pub deposed_replicas : digests (run deposed.events_of deposed.begun).group ≡ deposed.replicas_of
unfolding run act row
deposed_replicas = refl

pub deposed_sent : (run deposed.events_of deposed.begun).group.wire ≡ deposed.wire_of
unfolding run act row
deposed_sent = refl

pub lagging_notes : (run lagging.events_of lagging.begun).notes ≡ lagging.notes_of
unfolding run act row
lagging_notes = refl

pub lagging_decided : (run lagging.events_of lagging.begun).group.decided ≡ lagging.decided_of
unfolding run act row
lagging_decided = refl

pub lagging_replicas : digests (run lagging.events_of lagging.begun).group ≡ lagging.replicas_of
unfolding run act row
lagging_replicas = refl

pub lagging_sent : (run lagging.events_of lagging.begun).group.wire ≡ lagging.wire_of
unfolding run act row
lagging_sent = refl

pub crashed_notes : (run crashed.events_of crashed.begun).notes ≡ crashed.notes_of
unfolding run act row
crashed_notes = refl

pub crashed_decided : (run crashed.events_of crashed.begun).group.decided ≡ crashed.decided_of
unfolding run act row
crashed_decided = refl

pub crashed_replicas : digests (run crashed.events_of crashed.begun).group ≡ crashed.replicas_of
unfolding run act row
crashed_replicas = refl

pub crashed_sent : (run crashed.events_of crashed.begun).group.wire ≡ crashed.wire_of
unfolding run act row
crashed_sent = refl

pub installed_notes : (run installed.events_of installed.begun).notes ≡ installed.notes_of
unfolding run act row
installed_notes = refl

pub installed_decided : (run installed.events_of installed.begun).group.decided ≡ installed.decided_of
unfolding run act row
installed_decided = refl

pub installed_replicas : digests (run installed.events_of installed.begun).group ≡ installed.replicas_of
unfolding run act row
installed_replicas = refl

pub installed_sent : (run installed.events_of installed.begun).group.wire ≡ installed.wire_of
unfolding run act row
installed_sent = refl

pub drawn_three_notes : (run drawn_three.events_of drawn_three.begun).notes ≡ drawn_three.notes_of
unfolding run act row
drawn_three_notes = refl

pub drawn_three_decided : (run drawn_three.events_of drawn_three.begun).group.decided ≡ drawn_three.decided_of
unfolding run act row
drawn_three_decided = refl

pub drawn_three_replicas : digests (run drawn_three.events_of drawn_three.begun).group ≡ drawn_three.replicas_of
unfolding run act row
drawn_three_replicas = refl

pub drawn_three_sent : (run drawn_three.events_of drawn_three.begun).group.wire ≡ drawn_three.wire_of
unfolding run act row
drawn_three_sent = refl

pub drawn_five_notes : (run drawn_five.events_of drawn_five.begun).notes ≡ drawn_five.notes_of
unfolding run act row
drawn_five_notes = refl

pub drawn_five_decided : (run drawn_five.events_of drawn_five.begun).group.decided ≡ drawn_five.decided_of
unfolding run act row
drawn_five_decided = refl

pub drawn_five_replicas : digests (run drawn_five.events_of drawn_five.begun).group ≡ drawn_five.replicas_of
unfolding run act row
drawn_five_replicas = refl

pub drawn_five_sent : (run drawn_five.events_of drawn_five.begun).group.wire ≡ drawn_five.wire_of
unfolding run act row
drawn_five_sent = refl

pub drawn_apart_notes : (run drawn_apart.events_of drawn_apart.begun).notes ≡ drawn_apart.notes_of
unfolding run act row
drawn_apart_notes = refl

pub drawn_apart_decided : (run drawn_apart.events_of drawn_apart.begun).group.decided ≡ drawn_apart.decided_of
unfolding run act row
drawn_apart_decided = refl

pub drawn_apart_replicas : digests (run drawn_apart.events_of drawn_apart.begun).group ≡ drawn_apart.replicas_of
unfolding run act row
drawn_apart_replicas = refl

pub drawn_apart_sent : (run drawn_apart.events_of drawn_apart.begun).group.wire ≡ drawn_apart.wire_of
unfolding run act row
drawn_apart_sent = refl
