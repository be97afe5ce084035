-- The ports of the agent with a given past, and how one more event changes them.
use Rattle.std.proofs.Common.{◌≡◌, ℕ, zero, suc, ◌+◌, Bool, List, [], ◌∷◌, Option, Some, None, refl, ap, sym, ◌∙◌, arith, add-zero}
use Rattle.std.specs.Prelude.{slice_get}
use Rattle.std.specs.List.{cons_option}
use Rattle.std.specs.Option.{option_map}
use Rattle.lldp_pdu.specs.Msap.{MsapId}
use Rattle.lldp_table.specs.Events.{Call, events_of, answer}
use Rattle.lldp_table.specs.Contents.{Contents}
use Rattle.lldp_table.specs.Standing.{table_of}
use Rattle.lldp_table.specs.declared.learned.Learned.{Learned}
use Rattle.lldp_transmit.specs.declared.event.Cause.{Cause}
use Rattle.lldp_transmit.specs.declared.event.Cause.TheVariants.{Nothing}
use Rattle.lldp_transmit.specs.declared.event.Mark.{Mark}
use Rattle.lldp_transmit.specs.declared.event.Mark.TheVariants.{Quiet}
use Rattle.lldp_transmit.specs.History.{Settings, History, event as caused}
use Rattle.lldp_transmit.specs.Standing.{AreSettings, machine_of}
use Rattle.lldp_transmit.specs.Moments.{mark_at}
use Rattle.lldp_transmit.proofs.Standing.{carries as machine_carries, marks as machine_marks, stands_left as machine_left}
use Rattle.lldp_engine.specs.declared.port.status.Status.{Status}
use Rattle.lldp_engine.specs.Options.{Options, InRange}
use Rattle.lldp_engine.specs.Event.{Event}
use Rattle.lldp_engine.specs.AgentState.{PortState}
use Rattle.lldp_engine.specs.Heard.{Heard}
use Rattle.lldp_engine.specs.Counters.{counters_of}
use Rattle.lldp_engine.specs.Past.{Past, with_event, happened, past_of, ports_after, port_past, agent_of}
use Rattle.lldp_engine.specs.Laws.PortAt.{port_at, table_at}
use Rattle.lldp_engine.specs.Port.Effects.{status_then, heard_at, call_at, cause_at}
use Rattle.lldp_engine.specs.Port.Past.{Happened, status_after, up_after, heard_after, calls_after, table_events_after, settings_of, causes_after, marks_after, mark_after, counters_after, port_after}
use Rattle.lldp_engine.proofs.OnePort.Allowed.{port_table}
use Rattle.lldp_engine.proofs.OnePort.Counters.{counted_mark}
use Rattle.lldp_engine.proofs.Standing.Carrying.{settings_in_range}

-- ## Port i

at_place : (o : Options) (events : List Event) (s i : ℕ) (names : List (List ℕ)) → slice_get (ports_after o events s names) i ≡ option_map (port_after o (port_past (s + i) events)) (slice_get names i)
at_place o events s i [] = refl
at_place o events s zero (name ∷ names) = ap (λ k. Some (port_after o (port_past k events) name)) (sym (add-zero s))
at_place o events s (suc i) (name ∷ names) =
    let place : s + 1 + i ≡ s + suc i = omega arith in
    at_place o events (s + 1) i names ∙ ap (λ k. option_map (port_after o (port_past k events)) (slice_get names i)) place

-- Port i is the port that the definitions give for its past and its name.
pub port_at_is : (past : Past) (i : ℕ) → port_at past i ≡ option_map (port_after past.options (past_of past i)) (slice_get past.options.names i)
unfolding agent_of
port_at_is past i =
    let place : 0 + i ≡ i = omega arith in
    at_place past.options past.events 0 i past.options.names ∙ ap (λ k. option_map (port_after past.options (port_past k past.events)) (slice_get past.options.names i)) place

map_agree : {X Y : Type 0} (f g : X → Y) (o : Option X) → ((x : X) → f x ≡ g x) → option_map f o ≡ option_map g o
map_agree f g None h = refl
map_agree f g (Some x) h = ap Some (h x)

pub map_twice : {X Y Z : Type 0} (f : X → Y) (g : Y → Z) (o : Option X) → option_map g (option_map f o) ≡ option_map (λ x. g (f x)) o
map_twice f g None = refl
map_twice f g (Some x) = refl

-- If the definitions give the same port before and after the event, port i does not change.
pub port_at_same : (past : Past) (event : Event) (i : ℕ)
    → ((name : List ℕ) → port_after past.options (happened i event past.events ∷ past_of past i) name ≡ port_after past.options (past_of past i) name)
    → port_at (with_event past event) i ≡ port_at past i
port_at_same past event i h = port_at_is (with_event past event) i ∙ map_agree _ _ (slice_get past.options.names i) h ∙ sym (port_at_is past i)

-- ## The table of port i

table_after : (o : Options) (past : List Happened) (name : List ℕ) → (port_after o past name).table ≡ port_table o past
unfolding port_after
table_after o past name = refl

-- A function of port i's table can be computed from the options and the past of port i.
pub of_table : {X : Type 0} (f : Contents → X) (past : Past) (i : ℕ) → option_map (λ port. f port.table) (port_at past i) ≡ option_map (λ name. f (port_table past.options (past_of past i))) (slice_get past.options.names i)
of_table f past i =
    ap (option_map (λ (port : PortState). f port.table)) (port_at_is past i)
    ∙ map_twice (port_after past.options (past_of past i)) (λ (port : PortState). f port.table) (slice_get past.options.names i)
    ∙ map_agree _ _ (slice_get past.options.names i) (λ name. ap f (table_after past.options (past_of past i) name))

-- For port i, an equation f (table after an event) ≡ h (g (table before it)) also holds for the
-- tables that `port_at` finds.
pub of_table_after : {X Y : Type 0} (f : Contents → X) (g : Contents → Y) (h : Y → X) (past : Past) (event : Event) (i : ℕ)
    → f (port_table past.options (happened i event past.events ∷ past_of past i)) ≡ h (g (port_table past.options (past_of past i)))
    → option_map (λ port. f port.table) (port_at (with_event past event) i) ≡ option_map h (option_map (λ port. g port.table) (port_at past i))
of_table_after f g h past event i e =
    of_table f (with_event past event) i
    ∙ map_agree _ _ (slice_get past.options.names i) (λ name. e)
    ∙ sym (map_twice (λ (name : List ℕ). g (port_table past.options (past_of past i))) h (slice_get past.options.names i))
    ∙ ap (option_map h) (sym (of_table g past i))

-- If the event makes no call on the table of port i, the table does not change.
pub table_same : (past : Past) (event : Event) (i : ℕ)
    → call_at (happened i event past.events).event (status_after past.options (past_of past i)) (up_after (past_of past i)) ≡ None
    → table_at (with_event past event) i ≡ table_at past i
table_same past event i e =
    of_table (λ table. table) (with_event past event) i
    ∙ ap (λ (c : Option Call). option_map (λ (name : List ℕ). table_of past.options.max_neighbors (cons_option c (calls_after past.options (past_of past i)))) (slice_get past.options.names i)) e
    ∙ sym (of_table (λ table. table) past i)

-- ## An event that does not affect a port

quiet_mark : (s : Settings) (h : History) (n : ℕ) → AreSettings s → mark_at s (caused Nothing n ∷ h) ≡ Quiet
quiet_mark s h n r = sym (machine_marks s h (machine_of s h) (caused Nothing n) (machine_left s h r))

same_machine : (s : Settings) (h : History) (n : ℕ) → AreSettings s → machine_of s (caused Nothing n ∷ h) ≡ machine_of s h
same_machine s h n r = sym (machine_carries s h (machine_of s h) (caused Nothing n) (machine_left s h r)).is

module _ (o : Options) (past : List Happened) (now : Happened) (r : InRange o) where
  abbrev given : Status
  given = status_after o past

  abbrev up : Bool
  up = up_after past

  abbrev pub answers : MsapId → Learned
  answers name = answer o.max_neighbors name (table_events_after o past)

  -- The status stays, no LLDPDU is heard, the table is not called, and the cause is Nothing.
  pub record IsNothing : Type 0 where
    pub status : status_then now.event given ≡ given
    pub heard : heard_at now.event given up ≡ None
    pub call : call_at now.event given up ≡ None
    pub cause : cause_at now.event given up answers ≡ Nothing

  pub nothing_sent : cause_at now.event given up answers ≡ Nothing → mark_after o (now ∷ past) ≡ Quiet
  nothing_sent e = ap (λ (c : Cause). mark_at (settings_of o) (caused c now.interval ∷ causes_after o past)) e ∙ quiet_mark (settings_of o) (causes_after o past) now.interval (settings_in_range o r)

  counters_same : IsNothing → counters_after o (now ∷ past) ≡ counters_after o past
  counters_same n =
      ap (λ (h : Option Heard). counters_of (cons_option h (heard_after o past)) (table_events_after o (now ∷ past)) (marks_after o (now ∷ past))) n.heard
      ∙ ap (λ (c : Option Call). counters_of (heard_after o past) (events_of o.max_neighbors (cons_option c (calls_after o past))) (marks_after o (now ∷ past))) n.call
      ∙ ap (λ (m : Mark). counters_of (heard_after o past) (table_events_after o past) (m ∷ marks_after o past)) (nothing_sent n.cause)
      ∙ sym (counted_mark (heard_after o past) (table_events_after o past) (marks_after o past) Quiet)

  machine_same : IsNothing → machine_of (settings_of o) (causes_after o (now ∷ past)) ≡ machine_of (settings_of o) (causes_after o past)
  machine_same n = ap (λ (c : Cause). machine_of (settings_of o) (caused c now.interval ∷ causes_after o past)) n.cause ∙ same_machine (settings_of o) (causes_after o past) now.interval (settings_in_range o r)

  pub port_same : IsNothing → (name : List ℕ) → port_after o (now ∷ past) name ≡ port_after o past name
  unfolding port_after
  port_same n name = rw (n.status, ap (λ (c : Option Call). table_of o.max_neighbors (cons_option c (calls_after o past))) n.call, machine_same n, counters_same n) refl
