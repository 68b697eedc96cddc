-- What each step does is done by each line of a script.
use Rattle.std.proofs.Common.{◌≡◌, ◌≤◌, ℕ, zero, suc, ◌+◌, ◌==◌, List, [], ◌∷◌, ◌++◌, Bool, true, false, Option, Some, None, length, refl, sym, subst, arith}
use Rattle.std.specs.Prelude.{is_some, nat_lt, not, unwrap_or, codes, slice_set, if◌then◌else◌}
use Rattle.std.specs.List.{AllByRecursion, list_any}
use Rattle.std.proofs.lemmas.Bool.{cond_both, eq-eqb, or_left, or_right}
use Rattle.host_ids.specs.declared.proposal.Proposal.{Proposal}
use Rattle.host_ids.specs.declared.proposal.Proposal.TheVariants as proposals
use Rattle.wire_types.specs.declared.envelope.Envelope.{Envelope}
use Rattle.raft_model.specs.declared.event.LaneEvent.TheVariants as events
use Rattle.raft_model.specs.Group.{is_member, envelope_at}
use Rattle.run_model.specs.declared.client.ClientSession.{ClientSession}
use Rattle.script_text.specs.declared.limit.Limit.{Limit}
use Rattle.script_text.specs.declared.script.ScriptLine.{ScriptLine}
use Rattle.script_text.specs.declared.script.ScriptLine.TheVariants as script_lines
use Rattle.script_text.specs.declared.script.HostEvent.{HostEvent}
use Rattle.script_text.specs.declared.script.HostEvent.TheVariants as host_events
use Rattle.script_text.specs.declared.told.Told.{Told}
use Rattle.script_text.specs.declared.line.Line.{Line}
use Rattle.script_text.specs.declared.refusal.Refusal.{Refusal}
use Rattle.script_text.specs.declared.refusal.Refusal.TheVariants as refusals
use Rattle.script_text.specs.Print.{refusal_number}
use Rattle.host_ids.specs.declared.proposal.TheConstants.{MOST_COMMAND}
use Rattle.script_text.specs.declared.line.Line.TheVariants as lines
use Rattle.run_model.specs.World.{World, is_declared, node_at}
use Rattle.script_text.specs.declared.limit.TheConstants.{MOST_APPLIED, MOST_ROUNDS}
use Rattle.host_ids.specs.declared.proposal.TheConstants.{MOST_SESSIONS}
use Rattle.run_model.specs.Run
use Rattle.run_model.specs.Run.{RunStep, Turn, settle, save_each, deliver_each, apply_each, turn, reached, is_used, next_key, again, asks, call, close, completed, declare, deliver, event_step, group}
use Rattle.run_model.specs.Run.{lose, reads, register, settles, show, stale}
use Rattle.run_model.specs.Marks.{line_marks}
use Rattle.run_law.proofs.Basics.Lists.{all_map}
use Rattle.run_law.proofs.Scripts.Rosters.{IsGood, IsPositive}
use Rattle.run_law.proofs.Group.Law.{AreHosts}
use Rattle.run_law.proofs.Scripts.Voters.{save_tried_same, apply_tried_same}

-- of the lines between two worlds
abbrev pub Between : Type 1
Between = World → List Told → World → Type 0

-- a line without marks
abbrev pub IsMute : Line → Type 0
IsMute line = (g : ℕ) → line_marks g (codes "-") line ≡ []

-- it is done by each step, and by what comes one after the other
pub record IsDone (P : Between) : Type 0 where
  pub nothing : (w : World) → P w [] w
  pub next : (u v w : World) (a b : List Told) → P u a v → P v b w → P u (a ++ b) w
  pub mute : (w : World) (line : Line) → IsMute line → P w (Run.bare line ∷ []) w
  pub declared : (w : World) (hosts : List Bool) → P w [] (record w { declared = hosts })
  pub clients : (w : World) (clients : List (List ℕ × ClientSession)) → P w [] (record w { clients = clients })
  pub settled : (w : World) (number : ℕ) → P w [] (record w { settled = number })
  pub grouped : (w : World) (roster : List ℕ) (limit : ℕ) → Run.has_group w ≡ false → AreHosts roster → 1 ≤ limit → P w [] (Run.grouped roster limit w)
  pub event : (w : World) (host : ℕ) (event : HostEvent) → is_member w.group host ≡ true → P w (Run.event_step host event w).told (Run.event_step host event w).world
  pub deliver : (w : World) (e : Envelope) (number : ℕ) → envelope_at w.group.wire number ≡ Some e → P w (Run.core e.to (events.Deliver number) w).told (Run.core e.to (events.Deliver number) w).world
  pub propose : (w : World) (host : ℕ) (context : List ℕ) (p : Proposal) → is_member w.group host ≡ true → is_used w context ≡ false
      → P w (Run.proposes host context p w).told (Run.proposes host context p w).world
  pub read : (w : World) (host : ℕ) (context query : List ℕ) → is_member w.group host ≡ true → is_used w context ≡ false
      → P w (Run.read_asked host (next_key w host) context query w).told (Run.read_asked host (next_key w host) context query w).world
  pub stale : (w : World) (host : ℕ) (query : List ℕ) → is_member w.group host ≡ true → P w (Run.bare (Run.stale_answer host query (node_at w host).cell) ∷ []) w

-- each of these hosts is one of the voters
abbrev Members : List ℕ → List ℕ → Type 0
Members voters hosts = AllByRecursion (λ v. list_any (λ u. u == v) voters ≡ true) hosts

-- each voter is one of the voters
members_all : (voters : List ℕ) → Members voters voters
members_all [] = tt
members_all (v ∷ vs) = (
  or_left (v == v) _ (eq-eqb v v refl),
  all_map (λ x. list_any (λ u. u == x) vs ≡ true) (λ x. list_any (λ u. u == x) (v ∷ vs) ≡ true) vs (λ x e. or_right (v == x) _ e) (members_all vs),
)

-- a test whose contrary fails passes
true_from_not : (b : Bool) → not b ≡ false → b ≡ true
true_from_not true e = refl
true_from_not false e = absurd cc

-- a group's limit is at least 1, where its own is, or where it has none of its own
positive_by : (limit : Option ℕ) → IsPositive limit → 1 ≤ unwrap_or limit MOST_SESSIONS
positive_by None k = omega arith
positive_by (Some limit) k = k

module _ (P : Between) (h : IsDone P) where
  -- ---- requests

  -- it is done by a step
  abbrev Stepped : World → RunStep → Type 0
  Stepped w s = P w s.told s.world

  -- it is done by a refusal
  refused : (w : World) (r : Refusal) → Stepped w (Run.refuses w r)
  refused w r = h.mute w (lines.Refused (refusal_number r)) (λ g. refl)

  -- it is done by a step that may be refused, if it is where the step isn't refused
  unless : (w : World) (b : Bool) (r : Refusal) (s : RunStep) → (b ≡ false → Stepped w s) → Stepped w (Run.unless b r w s)
  unless w b r s p = cond_both b (Run.refuses w r) s (Stepped w) (λ _. refused w r) p

  -- it is done by a step at a replica, if it is where the host is a voter
  at_replica : (w : World) (host : ℕ) (s : RunStep) → (is_member w.group host ≡ true → Stepped w s) → Stepped w (Run.at_replica host w s)
  at_replica w host s p = unless w _ refusals.NotDeclared _ (λ _. unless w (not (is_member w.group host)) refusals.NoReplica s (λ e. p (true_from_not (is_member w.group host) e)))

  -- it is done by a request, if it is where the host is a voter and the context unused
  at_request : (w : World) (host : ℕ) (context : List ℕ) (s : RunStep) → (is_member w.group host ≡ true → is_used w context ≡ false → Stepped w s) → Stepped w (Run.at_request host context w s)
  at_request w host context s p =
      let used : Option Refusal = if is_used w context then Some refusals.ContextUsed else None in
      cond_both (not (is_declared w host)) (Some refusals.NotDeclared) (if not (is_member w.group host) then Some refusals.NoReplica else used) (λ (o : Option Refusal). Stepped w (Run.refused_by o w s))
      (λ _. refused w refusals.NotDeclared)
      (λ _. cond_both (not (is_member w.group host)) (Some refusals.NoReplica) used (λ (o : Option Refusal). Stepped w (Run.refused_by o w s))
      (λ _. refused w refusals.NoReplica)
      (λ m. cond_both (is_used w context) (Some refusals.ContextUsed) None (λ (o : Option Refusal). Stepped w (Run.refused_by o w s))
      (λ _. refused w refusals.ContextUsed)
      (λ unused. p (true_from_not (is_member w.group host) m) unused)))

  -- a proposal after a change of a client's session
  client_proposes : (w : World) (host : ℕ) (context name : List ℕ) (s : ClientSession) (p : Proposal) → is_member w.group host ≡ true → is_used w context ≡ false
      → Stepped w (Run.proposes host context p (Run.with_client name s w))
  client_proposes w host context name s p member unused =
      let v = Run.with_client name s w in
      let step = Run.proposes host context p v in
      h.next w v step.world [] step.told (h.clients w v.clients) (h.propose v host context p member unused)

  -- it is done by a command that is asked
  asks_done : (w : World) (host : ℕ) (context command : List ℕ) (p : Proposal) → Stepped w (Run.asks host context command p w)
  unfolding asks
  asks_done w host context command p =
      at_request w host context _
      (λ member unused. unless w (nat_lt MOST_COMMAND (length command)) refusals.LongCommand _ (λ _. h.propose w host context p member unused))

  -- it is done by a read that is asked
  reads_done : (w : World) (host : ℕ) (context query : List ℕ) → Stepped w (Run.reads host context query w)
  unfolding reads
  reads_done w host context query = at_request w host context _ (λ member unused. h.read w host context query member unused)

  -- it is done by a query that is answered from what a host has applied
  stale_done : (w : World) (host : ℕ) (query : List ℕ) → Stepped w (Run.stale host query w)
  unfolding stale
  stale_done w host query = at_replica w host _ (λ member. h.stale w host query member)

  -- it is done by a session that is registered
  register_done : (w : World) (host : ℕ) (context name : List ℕ) (client : ℕ) → Stepped w (Run.register host context name client w)
  unfolding register
  register_done w host context name client =
      at_request w host context _
      (λ member unused. unless w (is_some (Run.client_at w name)) refusals.SessionName _ (λ _. client_proposes w host context name (Run.new_client client) (proposals.Register client) member unused))

  -- it is done by a request of a session, if it is where the session is known, the host a voter and the context unused
  of_client : (w : World) (host : ℕ) (context : List ℕ) (o : Option ClientSession) (next : ClientSession → RunStep)
      → ((s : ClientSession) → is_member w.group host ≡ true → is_used w context ≡ false → Stepped w (next s)) → Stepped w (Run.of_client o host context w next)
  of_client w host context None next p = unless w _ refusals.NotDeclared _ (λ _. unless w (is_used w context) refusals.ContextUsed _ (λ _. refused w refusals.SessionName))
  of_client w host context (Some s) next p = at_request w host context _ (λ member unused. p s member unused)

  -- it is done by a session's command
  call_done : (w : World) (host : ℕ) (context name command : List ℕ) → Stepped w (Run.call host context name command w)
  unfolding call
  call_done w host context name command =
      of_client w host context (Run.client_at w name) _
      (λ s member unused. unless w (is_some s.outstanding) refusals.Outstanding _
      (λ _. unless w (nat_lt MOST_COMMAND (length command)) refusals.LongCommand _ (λ _. client_proposes w host context name (record s { outstanding = Some command }) (Run.command_of_client s command) member unused)))

  -- it is done by a session's outstanding command that is asked again, or by the refusal where none is outstanding
  repeats_done : (w : World) (host : ℕ) (context : List ℕ) (s : ClientSession) (o : Option (List ℕ)) → is_member w.group host ≡ true → is_used w context ≡ false
      → Stepped w (Run.repeats o host context s w)
  repeats_done w host context s None member unused = refused w refusals.Outstanding
  repeats_done w host context s (Some command) member unused = h.propose w host context (Run.command_of_client s command) member unused

  -- it is done by a session's command that is asked again
  again_done : (w : World) (host : ℕ) (context name : List ℕ) → Stepped w (Run.again host context name w)
  unfolding again
  again_done w host context name = of_client w host context (Run.client_at w name) _ (λ s member unused. repeats_done w host context s s.outstanding member unused)

  -- it is done by a command that is completed, whether its session is known or not
  completed_by : (w : World) (name : List ℕ) (o : Option ClientSession) → Stepped w (Run.completed_by o name w)
  completed_by w name None = refused w refusals.SessionName
  completed_by w name (Some s) = unless w (not (is_some s.outstanding)) refusals.Outstanding _ (λ _. h.clients w (Run.with_client name (Run.next_series s) w).clients)

  -- it is done by a session that is closed
  close_done : (w : World) (host : ℕ) (context name : List ℕ) → Stepped w (Run.close host context name w)
  unfolding close
  close_done w host context name =
      of_client w host context (Run.client_at w name) _ (λ s member unused. unless w (is_some s.outstanding) refusals.Outstanding _ (λ _. h.propose w host context (proposals.Close s.client) member unused))

  -- ---- envelopes

  -- it is done by an envelope that arrives, or isn't there
  arrives_done : (w : World) (number : ℕ) (o : Option Envelope) → envelope_at w.group.wire number ≡ o → Stepped w (Run.arrives o number w)
  arrives_done w number None e = refused w refusals.NoEnvelope
  arrives_done w number (Some x) e = h.deliver w x number e

  -- it is done by a delivery
  deliver_done : (w : World) (number : ℕ) → Stepped w (Run.deliver number w)
  unfolding deliver
  deliver_done w number = unless w _ refusals.NoReplica _ (λ _. arrives_done w number (envelope_at w.group.wire number) refl)

  -- it is done by an envelope that is shown, or isn't there
  shown_by : (w : World) (number : ℕ) (o : Option Envelope) → Stepped w (Run.shown_by o number w)
  shown_by w number None = refused w refusals.NoEnvelope
  shown_by w number (Some e) = h.mute w (lines.Wire 1 number e.from e.to (Run.kind_of e.body) e.term) (λ g. refl)

  -- it is done by a line that shows an envelope
  show_done : (w : World) (number : ℕ) → Stepped w (Run.show number w)
  unfolding show
  show_done w number = unless w _ refusals.NoReplica _ (λ _. shown_by w number (envelope_at w.group.wire number))

  -- it is done by a line that loses what was sent so far
  lose_done : (w : World) → Stepped w (Run.lose w)
  unfolding lose
  lose_done w = unless w _ refusals.NoReplica _ (λ _. h.settled w (length w.group.wire))

  -- it is done by the next delivery of a settle
  next_done : (w : World) → Stepped w (Run.deliver_next w)
  next_done w =
      let v : World = record w { settled = w.settled + 1 } in
      let s = Run.arrives (envelope_at w.group.wire (w.settled + 1)) (w.settled + 1) v in
      h.next w v s.world [] s.told (h.settled w (w.settled + 1)) (arrives_done v (w.settled + 1) (envelope_at w.group.wire (w.settled + 1)) refl)

  -- ---- a settle

  -- it is done by what a line comes to
  abbrev Turned : World → Turn → Type 0
  Turned w t = P w t.told t.world

  -- it is done by a step before which a limit may be reached, if it is by the step
  tried_by : (w : World) (s : RunStep) (o : Option Limit) → P w s.told s.world → Turned w (Run.tried_by o w s)
  tried_by w s None p = p
  tried_by w s (Some limit) p = h.nothing w

  -- it is done by one turn and the next, if it is by each, or by the first alone where a limit was reached in it
  then_by : (w : World) (t : Turn) (next : World → Turn) (o : Option Limit) → Turned w t → Turned t.world (next t.world) → Turned w (Run.then_by o t next)
  then_by w t next None p q = h.next w t.world (next t.world).world t.told (next t.world).told p q
  then_by w t next (Some limit) p q = p

  -- it is done by what is done only where there is something to do
  where_busy : (w : World) (next : World → Turn) (b : Bool) → Turned w (next w) → Turned w (Run.where_busy b w next)
  where_busy w next false p = h.nothing w
  where_busy w next true p = p

  -- it is done by a save of a settle at a voter's host
  save_turned : (host size : ℕ) (w : World) → is_member w.group host ≡ true → Turned w (Run.save_tried host size w)
  unfolding event_step
  save_turned host size w m = where_busy w _ (Run.is_unsaved w host) (tried_by w (Run.save host w) (reached w size) (h.event w host (host_events.Save 1) m))

  -- it is done by an apply of a settle at a voter's host
  apply_turned : (host size : ℕ) (w : World) → is_member w.group host ≡ true → Turned w (Run.apply_tried host size w)
  unfolding event_step
  apply_turned host size w m = where_busy w _ (Run.is_ripe w host) (tried_by w (Run.apply host MOST_APPLIED w) (reached w size) (h.event w host (host_events.Apply 1 MOST_APPLIED) m))

  -- it is done by saves at some voters' hosts
  saves_turned : (hosts : List ℕ) (size : ℕ) (w : World) → Members w.group.voters hosts → Turned w (save_each hosts size w)
  unfolding save_each
  saves_turned [] size w m = h.nothing w
  saves_turned (host ∷ hosts) size w m =
      let t = Run.save_tried host size w in
      then_by w t (λ v. save_each hosts size v) t.full (save_turned host size w m.0)
      (saves_turned hosts size t.world (subst (λ (vs : List ℕ). Members vs hosts) (sym (save_tried_same host size w)) m.1))

  -- it is done by applies at some voters' hosts
  applies_turned : (hosts : List ℕ) (size : ℕ) (w : World) → Members w.group.voters hosts → Turned w (apply_each hosts size w)
  unfolding apply_each
  applies_turned [] size w m = h.nothing w
  applies_turned (host ∷ hosts) size w m =
      let t = Run.apply_tried host size w in
      then_by w t (λ v. apply_each hosts size v) t.full (apply_turned host size w m.0)
      (applies_turned hosts size t.world (subst (λ (vs : List ℕ). Members vs hosts) (sym (apply_tried_same host size w)) m.1))

  -- it is done by a number of deliveries
  delivers_turned : (count size : ℕ) (w : World) → Turned w (deliver_each count size w)
  unfolding deliver_each
  delivers_turned zero size w = h.nothing w
  delivers_turned (suc count) size w =
      let t = Run.tried size w (Run.deliver_next w) in
      then_by w t (λ v. deliver_each count size v) t.full (tried_by w (Run.deliver_next w) (reached w size) (next_done w)) (delivers_turned count size t.world)

  -- the deliveries and applies of a round
  rest_turned : (size : ℕ) (w : World) → Turned w (Run.then_turn (deliver_each (Run.unsettled w) size w) (λ u. apply_each u.group.voters size u))
  rest_turned size w =
      let t = deliver_each (Run.unsettled w) size w in
      then_by w t (λ u. apply_each u.group.voters size u) t.full (delivers_turned (Run.unsettled w) size w) (applies_turned t.world.group.voters size t.world (members_all t.world.group.voters))

  -- it is done by a round
  round_turned : (size : ℕ) (w : World) → Turned w (Run.round size w)
  round_turned size w =
      let t = save_each w.group.voters size w in
      then_by w t (λ v. Run.then_turn (deliver_each (Run.unsettled v) size v) (λ u. apply_each u.group.voters size u)) t.full (saves_turned w.group.voters size w (members_all w.group.voters))
      (rest_turned size t.world)

  -- it is done by a number of rounds, or fewer
  settle_turned : (rounds size : ℕ) (w : World) → Turned w (settle rounds size w)
  unfolding settle
  settle_turned zero size w = h.nothing w
  settle_turned (suc rounds) size w =
      let t = Run.round size w in
      where_busy w _ (Run.is_busy w) (then_by w t (λ u. settle rounds size u) t.full (round_turned size w) (settle_turned rounds size t.world))

  -- it is done by a settle
  settles_turned : (size : ℕ) (w : World) → Turned w (Run.settles size w)
  unfolding settles
  settles_turned size w =
      cond_both (Run.has_group w) (settle MOST_ROUNDS size w) (Run.whole (Run.refuses w refusals.NoReplica)) (Turned w) (λ _. settle_turned MOST_ROUNDS size w) (λ _. refused w refusals.NoReplica)

  -- ---- lines

  -- it is done by a line that declares a host
  declare_done : (w : World) (host : ℕ) → Stepped w (Run.declare host w)
  unfolding declare
  declare_done w host =
      let v : World = record w { declared = slice_set w.declared host true } in
      unless w _ refusals.Declared _ (λ _. h.next w v v [] (Run.bare (lines.Started host 1) ∷ []) (h.declared w v.declared) (h.mute v (lines.Started host 1) (λ g. refl)))

  -- it is done by a line that declares a group, if its voters are hosts and its own limit is positive
  group_done : (w : World) (roster : List ℕ) (limit : Option ℕ) → AreHosts roster → IsPositive limit → Stepped w (Run.group roster limit w)
  unfolding group
  group_done w roster limit r l = unless w _ refusals.NotDeclared _ (λ _. unless w (Run.has_group w) refusals.Declared _ (λ e. h.grouped w roster (unwrap_or limit MOST_SESSIONS) e r (positive_by limit l)))

  -- it is done by each good line
  pub turn_turned : (said : ScriptLine) (size : ℕ) (w : World) → IsGood said → P w (turn said size w).told (turn said size w).world
  unfolding turn settles completed
  turn_turned script_lines.Skipped size w k = h.nothing w
  turn_turned script_lines.End size w k = h.nothing w
  turn_turned (script_lines.Host host) size w k = declare_done w host
  turn_turned (script_lines.Group number kind roster limit) size w k = group_done w roster limit k.0 k.1
  turn_turned (script_lines.Event host event) size w k = at_replica w host _ (λ member. h.event w host event member)
  turn_turned (script_lines.Deliver number envelope) size w k = deliver_done w envelope
  turn_turned (script_lines.Ask host number context command) size w k = asks_done w host context command (proposals.Plain command)
  turn_turned (script_lines.Read host number context query) size w k = reads_done w host context query
  turn_turned (script_lines.Stale host number query) size w k = stale_done w host query
  turn_turned (script_lines.Register host number context session client) size w k = register_done w host context session client
  turn_turned (script_lines.Call host context session command) size w k = call_done w host context session command
  turn_turned (script_lines.Again host context session) size w k = again_done w host context session
  turn_turned (script_lines.Completed session) size w k = completed_by w session (Run.client_at w session)
  turn_turned (script_lines.Close host context session) size w k = close_done w host context session
  turn_turned (script_lines.Raw host number context client series responded command) size w k = asks_done w host context command (proposals.Session client series responded command)
  turn_turned (script_lines.Settle number) size w k = settles_turned size w
  turn_turned (script_lines.Lose number) size w k = lose_done w
  turn_turned (script_lines.Wire number envelope) size w k = show_done w envelope
