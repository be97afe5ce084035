-- After an event, the agent and its ports are as the definitions give them for the new past.
use Rattle.std.proofs.Common.{◌≡◌, ℕ, ◌+◌, ◌-◌, Bool, true, false, List, [], ◌∷◌, length, Option, Some, None, refl, ap, sym, ◌∙◌, subst, arith}
use Rattle.std.specs.Prelude.{if◌then◌else◌, option_and_then, IfSome}
use Rattle.std.specs.List.{cons_option}
use Rattle.lldp_pdu.specs.Msap.{MsapId}
use Rattle.lldp_pdu.specs.Lldpdu.{extent, ttl_of, msap_of}
use Rattle.lldp_table.specs.Events.{Call, learn, forget, purge, tick as tick_call, set_limit, learned, events_of, aged_out, answer}
use Rattle.lldp_table.specs.Contents.{Contents}
use Rattle.lldp_table.specs.Code.Steps.{table_after, after_tick, learn_answer}
use Rattle.lldp_table.specs.Standing.{table_of, IsPossible, Stands as TableStands}
use Rattle.lldp_table.specs.declared.learned.Learned.{Learned}
use Rattle.lldp_table.proofs.Standing.Calls.{carries as table_carries, events-more, learn_answers}
use Rattle.lldp_table.proofs.Live.LastStored.{aged_out-count}
use Rattle.lldp_transmit.specs.declared.event.Cause.{Cause}
use Rattle.lldp_transmit.specs.declared.event.Mark.{Mark}
use Rattle.lldp_transmit.specs.History.{Settings, History}
use Rattle.lldp_transmit.specs.Code.Machine.{Machine, stepped}
use Rattle.lldp_transmit.specs.Moments.{moments, is_up}
use Rattle.lldp_transmit.specs.Standing.{AreSettings, machine_of}
use Rattle.lldp_transmit.proofs.Standing.{carries as machine_carries, marks as machine_marks, stands_left as machine_left}
use Rattle.lldp_engine.specs.declared.port.status.Status.{Status}
use Rattle.lldp_engine.specs.declared.port.counters.Counters.{Counters}
use Rattle.lldp_engine.specs.Options.{Options, InRange}
use Rattle.lldp_engine.specs.Event.{Event, HasOctets}
use Rattle.lldp_engine.specs.Event as agent
use Rattle.lldp_engine.specs.Heard.{Heard, refused, leaves, tells, heard_by}
use Rattle.lldp_engine.specs.Counters.{counters_of}
use Rattle.lldp_engine.specs.AgentState.{PortState, AgentState, Allows}
use Rattle.lldp_engine.specs.Past.{Past, with_event, configuration_after, interval_after, happened, port_past, ports_after, agent_of, AreAllowed, sent_from, marks_of}
use Rattle.lldp_engine.specs.Standing.{Stands}
use Rattle.lldp_engine.specs.Code.Step.{ports_step, marks_step, agent_after, agent_marks}
use Rattle.lldp_engine.specs.Port.Event.{PortEvent, tick, frame, status, limit}
use Rattle.lldp_engine.specs.Port.Effects.{call_of, heard_at, call_at, cause_at, cause_of_answer, cause_of_heard, status_then}
use Rattle.lldp_engine.specs.Port.Past.{Happened, status_after, up_after, calls_after, table_events_after, settings_of, caused_at, causes_after, mark_after, counters_after, port_after}
use Rattle.lldp_engine.specs.Code.Counting.{with_heard, with_aged_out, with_event_counted, with_mark}
use Rattle.lldp_engine.specs.Code.PortStep.{with_call, port_mark, port_step}
use Rattle.lldp_engine.proofs.OnePort.Counters.{counted_refused, counted_leaves, counted_tells, counted_second, counted_purged, counted_limit, counted_mark}
use Rattle.lldp_engine.proofs.OnePort.Allowed.{port_table, AreTaken, allowed_taken, table_stands}
use Rattle.lldp_engine.proofs.OnePort.Rights.{links_are}
use Rattle.std.proofs.lemmas.Grind.{common_steps}
use Rattle.lldp_engine.specs.Code.Whose.{whose}
use Rattle.lldp_engine.proofs.OnePort.Heard.{of_port_is}

-- ## The table of a port

-- Applying one more possible call to a table gives the table of all the calls.
table_called : (opened : ℕ) (calls : List Call) (call : Call) → TableStands opened calls (table_of opened calls) → IsPossible (table_of opened calls) call → table_after (table_of opened calls) call ≡ table_of opened (call ∷ calls)
table_called opened calls call h t = (table_carries (table_of opened calls) opened calls call h t).is

table_with_call : (opened : ℕ) (calls : List Call) (call : Option Call) → TableStands opened calls (table_of opened calls) → IfSome call (IsPossible (table_of opened calls)) → with_call (table_of opened calls) call ≡ table_of opened (cons_option call calls)
table_with_call opened calls None h t = refl
table_with_call opened calls (Some call) h t = table_called opened calls call h t

-- ## The counters of a port

-- A tick shortens the table by the number of neighbors that age out.
aged : (opened : ℕ) (calls : List Call) (new : Contents) → new ≡ table_of opened (tick_call ∷ calls) → length (table_of opened calls).neighbors - length new.neighbors ≡ aged_out (events_of opened calls)
aged opened calls new h = grind (arith, common_steps, events-more, aged_out-count)

module _ (opened : ℕ) (calls : List Call) (heard : List Heard) (marks : List Mark) (s : TableStands opened calls (table_of opened calls)) where
  -- The code counts a heard LLDPDU, if there is one, as the definition does.
  one_counted : (h : Option Heard) → with_heard (learn_answer (table_of opened calls)) (counters_of heard (events_of opened calls) marks) h
      ≡ counters_of (cons_option h heard) (events_of opened (cons_option (option_and_then call_of h) calls)) marks
  one_counted None = refl
  one_counted (Some refused) = counted_refused heard (events_of opened calls) marks
  one_counted (Some (leaves msap)) = counted_leaves heard (events_of opened calls) marks msap ∙ ap (λ es. counters_of (leaves msap ∷ heard) es marks) (sym (events-more opened (forget msap) calls))
  one_counted (Some (tells pdu)) =
      let call = learn (msap_of pdu) (ttl_of pdu) (extent pdu) in
      counted_tells heard (events_of opened calls) marks pdu (learn_answer (table_of opened calls) (msap_of pdu))
      ∙ ap (λ (a : Learned). counters_of (tells pdu ∷ heard) (learned (msap_of pdu) (ttl_of pdu) (extent pdu) a ∷ events_of opened calls) marks) (learn_answers (table_of opened calls) opened calls (msap_of pdu) s)
      ∙ ap (λ es. counters_of (tells pdu ∷ heard) es marks) (sym (events-more opened call calls))

  second_counted : with_aged_out (counters_of heard (events_of opened calls) marks) (length (table_of opened calls).neighbors - length (after_tick (table_of opened calls)).neighbors)
      ≡ counters_of heard (events_of opened (tick_call ∷ calls)) marks
  second_counted =
      let after : after_tick (table_of opened calls) ≡ table_of opened (tick_call ∷ calls) = table_called opened calls tick_call s tt in
      counted_second heard (events_of opened calls) marks _ (aged opened calls (after_tick (table_of opened calls)) after) ∙ ap (λ es. counters_of heard es marks) (sym (events-more opened tick_call calls))

  purge_counted : (b : Bool) → counters_of heard (events_of opened calls) marks ≡ counters_of heard (events_of opened (cons_option (if b then Some purge else None) calls)) marks
  purge_counted true = counted_purged heard (events_of opened calls) marks ∙ ap (λ es. counters_of heard es marks) (sym (events-more opened purge calls))
  purge_counted false = refl

  event_counted : (event : PortEvent) (given : Status) (up : Bool) → with_event_counted event given up (table_of opened calls) (counters_of heard (events_of opened calls) marks)
      ≡ counters_of (cons_option (heard_at event given up) heard) (events_of opened (cons_option (call_at event given up) calls)) marks
  event_counted tick given up = second_counted
  event_counted (frame octets) given up = one_counted (heard_by given up octets)
  event_counted (status next) given up = purge_counted _
  event_counted (limit n) given up = counted_limit heard (events_of opened calls) marks n ∙ ap (λ es. counters_of heard es marks) (sym (events-more opened (set_limit n) calls))
  event_counted event given up = refl

-- ## The transmit machine of a port

-- If two tables answer the same, a heard LLDPDU has the same cause with both.
heard_same : (a b : MsapId → Learned) (h : Option Heard) → ((name : MsapId) → a name ≡ b name) → cause_of_heard a h ≡ cause_of_heard b h
heard_same a b (Some (tells pdu)) e = ap cause_of_answer (e (msap_of pdu))
heard_same a b h e = refl

cause_same : (event : PortEvent) (given : Status) (up : Bool) (a b : MsapId → Learned) → ((name : MsapId) → a name ≡ b name) → cause_at event given up a ≡ cause_at event given up b
cause_same (frame octets) given up a b e = heard_same a b (heard_by given up octets) e
cause_same event given up a b e = refl

up_of : (s : Settings) (h : History) → (machine_of s h).up ≡ is_up (moments s h)
unfolding machine_of
up_of s h = refl

pub up_is : (o : Options) (past : List Happened) → (machine_of (settings_of o) (causes_after o past)).up ≡ up_after past
up_is o past = up_of (settings_of o) (causes_after o past) ∙ links_are o past

pub settings_in_range : (o : Options) → InRange o → AreSettings (settings_of o)
settings_in_range o r = grind (arith, common_steps)

-- ## A port

port_by : (name : List ℕ) (given : Status) (table table' : Contents) (machine machine' : Machine) (counters counters' : Counters) → table ≡ table' → machine ≡ machine' → counters ≡ counters'
    → (let p : PortState = record { name = name; status = given; table = table; machine = machine; counters = counters } in p)
    ≡ (let q : PortState = record { name = name; status = given; table = table'; machine = machine'; counters = counters' } in q)
port_by name given table table' machine machine' counters counters' a b c = rw (a, b, c) refl

module _ (o : Options) (past : List Happened) (now : Happened) (r : InRange o) (taken : AreTaken o (now ∷ past)) where
  abbrev given : Status
  given = status_after o past

  abbrev up : Bool
  up = up_after past

  abbrev table : Contents
  table = port_table o past

  abbrev answers : MsapId → Learned
  answers name = answer o.max_neighbors name (table_events_after o past)

  abbrev machine : Machine
  machine = machine_of (settings_of o) (causes_after o past)

  stands : TableStands o.max_neighbors (calls_after o past) table
  stands = table_stands o past r taken.1

  cause_is : cause_at now.event given machine.up (learn_answer table) ≡ cause_at now.event given up answers
  cause_is =
      ap (λ (u : Bool). cause_at now.event given u (learn_answer table)) (up_is o past)
      ∙ cause_same now.event given up (learn_answer table) answers (λ name. learn_answers table o.max_neighbors (calls_after o past) name stands)

  machine_is_next : (stepped machine (cause_at now.event given machine.up (learn_answer table)) now.interval).0 ≡ machine_of (settings_of o) (causes_after o (now ∷ past))
  machine_is_next =
      let e = caused_at o now past in
      ap (λ (c : Cause). (stepped machine c now.interval).0) cause_is
      ∙ (machine_carries (settings_of o) (causes_after o past) machine e (machine_left (settings_of o) (causes_after o past) (settings_in_range o r))).is

  mark_is : (stepped machine (cause_at now.event given machine.up (learn_answer table)) now.interval).1 ≡ mark_after o (now ∷ past)
  mark_is =
      ap (λ (c : Cause). (stepped machine c now.interval).1) cause_is
      ∙ machine_marks (settings_of o) (causes_after o past) machine (caused_at o now past) (machine_left (settings_of o) (causes_after o past) (settings_in_range o r))

  table_is_next : with_call table (call_at now.event given machine.up) ≡ port_table o (now ∷ past)
  table_is_next = ap (λ (u : Bool). with_call table (call_at now.event given u)) (up_is o past) ∙ table_with_call o.max_neighbors (calls_after o past) (call_at now.event given up) stands taken.0

  counted_is : with_mark (with_event_counted now.event given machine.up table (counters_after o past)) (stepped machine (cause_at now.event given machine.up (learn_answer table)) now.interval).1
      ≡ counters_after o (now ∷ past)
  counted_is = grind (arith, common_steps, event_counted, stands, up_is, mark_is, counted_mark)

  pub port_carried : (name : List ℕ) → port_step now.event now.interval (port_after o past name) ≡ port_after o (now ∷ past) name
  unfolding port_after
  port_carried name = port_by name (status_then now.event given) _ _ _ _ _ _ table_is_next machine_is_next counted_is

  pub port_marked : (name : List ℕ) → port_mark now.event now.interval (port_after o past name) ≡ mark_after o (now ∷ past)
  unfolding port_after
  port_marked name = mark_is

-- ## An agent

-- The configuration has the tx-interval that was last set.
pub interval_is : (o : Options) (events : List Event) → (configuration_after o events).interval ≡ interval_after events
interval_is o [] = refl
interval_is o (agent.set (agent.interval seconds) ∷ events) = refl
interval_is o (agent.set (agent.hostname text) ∷ events) = interval_is o events
interval_is o (agent.set (agent.description text) ∷ events) = interval_is o events
interval_is o (agent.set (agent.hold times) ∷ events) = interval_is o events
interval_is o (agent.set (agent.limit neighbors) ∷ events) = interval_is o events
interval_is o (agent.set (agent.status _ _) ∷ events) = interval_is o events
interval_is o (agent.set agent.update ∷ events) = interval_is o events
interval_is o (agent.tick ∷ events) = interval_is o events
interval_is o (agent.frame port octets ∷ events) = interval_is o events
interval_is o (agent.link _ _ ∷ events) = interval_is o events

ports_carried : (o : Options) (events : List Event) (event : Event) (i : ℕ) (names : List (List ℕ)) → i + length names ≡ length o.names → InRange o → AreAllowed o (event ∷ events)
    → ports_step (whose event) (interval_after (event ∷ events)) i (ports_after o events i names) ≡ ports_after o (event ∷ events) i names
ports_carried o events event i [] l r h = refl
ports_carried o events event i (name ∷ names) l r h =
    let one = port_carried o (port_past i events) (happened i event events) r (allowed_taken o i (event ∷ events) (omega arith) h) name in
    let others = ports_carried o events event (i + 1) names (omega arith) r h in
    rw (of_port_is i event, one, others) refl

marks_carried : (o : Options) (events : List Event) (event : Event) (i : ℕ) (names : List (List ℕ)) → i + length names ≡ length o.names → InRange o → AreAllowed o (event ∷ events)
    → marks_step (whose event) (interval_after (event ∷ events)) i (ports_after o events i names) ≡ sent_from o (event ∷ events) i names
marks_carried o events event i [] l r h = refl
marks_carried o events event i (name ∷ names) l r h =
    let one = port_marked o (port_past i events) (happened i event events) r (allowed_taken o i (event ∷ events) (omega arith) h) name in
    let others = marks_carried o events event (i + 1) names (omega arith) r h in
    rw (of_port_is i event, one, others) refl

agent_carried : (past : Past) (event : Event) → InRange past.options → AreAllowed past.options (event ∷ past.events) → agent_after event (agent_of past) ≡ agent_of (with_event past event)
unfolding agent_of
agent_carried past event r h = grind (arith, common_steps, ports_carried, interval_is)

agent_marked : (past : Past) (event : Event) → InRange past.options → AreAllowed past.options (event ∷ past.events) → agent_marks event (agent_of past) ≡ marks_of (with_event past event)
unfolding agent_of
agent_marked past event r h =
    ap (λ n. marks_step (whose event) n 0 (ports_after past.options past.events 0 past.options.names)) (interval_is past.options (event ∷ past.events))
    ∙ marks_carried past.options past.events event 0 past.options.names (omega arith) r h

pub allowed_more : (past : Past) (event : Event) (agent : AgentState) → Stands past agent → Allows agent event → HasOctets event → AreAllowed past.options (event ∷ past.events)
allowed_more past event agent h a octets = (subst (λ (x : AgentState). Allows x event) h.is a, octets, h.allowed)

pub carries : (past : Past) (event : Event) (agent : AgentState) → Stands past agent → Allows agent event → HasOctets event → Stands (with_event past event) (agent_after event agent)
carries past event agent h a octets = grind (arith, common_steps, allowed_more, agent_carried)

pub marks_carry : (past : Past) (event : Event) (agent : AgentState) → Stands past agent → Allows agent event → HasOctets event → agent_marks event agent ≡ marks_of (with_event past event)
marks_carry past event agent h a octets = ap (agent_marks event) h.is ∙ agent_marked past event h.in_range (allowed_more past event agent h a octets)

pub ruleset steps_carry_standing = (marks_carry, carries)
