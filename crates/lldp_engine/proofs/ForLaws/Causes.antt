-- What an event means to the transmit machine of a port.
use Rattle.std.proofs.Common.{◌≡◌, ◌≢◌, ℕ, ◌+◌, ◌≤◌, Bool, true, false, ◌⊎◌, inl, inr, List, [], ◌∷◌, length, Option, Some, None, ap, sym, ◌∙◌, subst, arith}
use Rattle.std.specs.Prelude.{◌==◌, if◌then◌else◌, slice_get}
use Rattle.std.specs.Option.{option_map}
use Rattle.lldp_pdu.specs.Msap.{MsapId}
use Rattle.lldp_pdu.specs.Lldpdu.{msap_of}
use Rattle.lldp_transmit.specs.declared.event.Cause.{Cause}
use Rattle.lldp_transmit.specs.declared.event.Cause.TheVariants.{Change, Neighbor, Nothing}
use Rattle.lldp_transmit.specs.History.{History, event as caused}
use Rattle.lldp_table.specs.Events.{Call, Neighbor as Held, events_of, answer, neighbors}
use Rattle.lldp_table.specs.declared.learned.Learned.{Learned}
use Rattle.lldp_table.specs.declared.learned.Learned.TheVariants.{New, Refreshed, Dropped}
use Rattle.lldp_engine.specs.declared.port.status.Status.{Status}
use Rattle.lldp_engine.specs.Status.{transmits}
use Rattle.lldp_engine.specs.Event.{Event, frame, link, set, status, interval}
use Rattle.lldp_engine.specs.Past.{Past, with_event, happened, past_of}
use Rattle.lldp_engine.specs.Laws.PortAt.{neighbors_at}
use Rattle.lldp_engine.specs.Heard.{Heard, tells, heard_by}
use Rattle.lldp_engine.specs.Laws.CauseOf.{causes_at, IsFor}
use Rattle.lldp_engine.specs.Laws.LastSet.{IsLastSet}
use Rattle.lldp_engine.specs.Port.Event as own
use Rattle.lldp_engine.specs.Port.Event.{PortEvent}
use Rattle.lldp_engine.specs.Port.Effects.{cause_of_answer, cause_of_heard, cause_of_right, cause_of_link, cause_at}
use Rattle.lldp_engine.specs.Port.Past.{Happened, status_after, up_after, calls_after, table_events_after, caused_at}
use Rattle.lldp_engine.proofs.ForLaws.LastSet.{configuration_is_last}
use Rattle.lldp_engine.proofs.Standing.Carrying.{interval_is}
use Rattle.lldp_engine.proofs.AllPorts.EachPort.{own_or_nothing}
use Rattle.lldp_engine.proofs.OnePort.Allowed.{port_table}
use Rattle.lldp_engine.proofs.ForLaws.PortAt.{of_table}
use Rattle.lldp_engine.proofs.ForLaws.Deaf.{own_happened, heard_now}
use Rattle.lldp_engine.proofs.ForLaws.Held.{held_after, IsGain, gains}

-- ## What an event means to a port

-- what the event means to the transmit machine of port i, after this past
abbrev pub cause_now : Past → Event → ℕ → Cause
cause_now past event i = (caused_at past.options (happened i event past.events) (past_of past i)).cause

pub is_for : (past : Past) (event : Event) (i : ℕ) (cause : Cause) → cause_now past event i ≡ cause → IsFor past event i cause
is_for past event i cause e =
    record {
      seconds = (happened i event past.events).interval;
      is = ap (λ (c : Cause). caused c (happened i event past.events).interval ∷ causes_at past i) e;
      last = subst (λ (n : ℕ). IsLastSet (λ given. set (interval given)) 30 (event ∷ past.events) n) (interval_is past.options (event ∷ past.events))
          (configuration_is_last past.options (event ∷ past.events)).by_interval;
    }

abbrev first_cause : History → Cause
first_cause [] = Nothing
first_cause (e ∷ h) = e.cause

-- whether the table of port i would add, refresh or drop a neighbor with this MSAP identifier
abbrev pub answers_now : Past → ℕ → MsapId → Learned
answers_now past i name = answer past.options.max_neighbors name (table_events_after past.options (past_of past i))

-- ## Events that are not local changes

abbrev IsNoChange : Cause → Type 0
IsNoChange Change = ⊥
IsNoChange cause = Unit {0}

no_change : (past : Past) (event : Event) (i : ℕ) → IsNoChange (cause_now past event i) → ¬ (IsFor past event i Change)
no_change past event i n h = subst IsNoChange (ap first_cause h.is) n

right_is_no_change : (before after : Bool) → IsNoChange (cause_of_right before after)
right_is_no_change true false = tt
right_is_no_change false true = tt
right_is_no_change true true = tt
right_is_no_change false false = tt

link_is_no_change : (before after : Bool) → IsNoChange (cause_of_link before after)
link_is_no_change true false = tt
link_is_no_change false true = tt
link_is_no_change true true = tt
link_is_no_change false false = tt

answer_is_no_change : (a : Learned) → IsNoChange (cause_of_answer a)
answer_is_no_change New = tt
answer_is_no_change Refreshed = tt
answer_is_no_change Dropped = tt

heard_is_no_change : (answers : MsapId → Learned) (h : Option Heard) → IsNoChange (cause_of_heard answers h)
heard_is_no_change answers (Some (tells pdu)) = answer_is_no_change (answers (msap_of pdu))
heard_is_no_change answers other = tt

-- If an event of a port is not a local change for that port, it is not one for any port.
module _ (event : PortEvent) (n : (given : Status) (up : Bool) (answers : MsapId → Learned) → IsNoChange (cause_at event given up answers)) where
  own_no_change : (past : Past) (i port : ℕ) → IsNoChange (cause_at (if port == i then event else own.nothing) (status_after past.options (past_of past i)) (up_after (past_of past i)) (answers_now past i))
  own_no_change past i port =
      own_or_nothing (λ (e : PortEvent). IsNoChange (cause_at e (status_after past.options (past_of past i)) (up_after (past_of past i)) (answers_now past i))) (port == i) event (n _ _ (answers_now past i)) tt

pub status_is_no_change : (past : Past) (i port : ℕ) (given : Status) → ¬ (IsFor past (set (status port given)) i Change)
status_is_no_change past i port given = no_change past (set (status port given)) i (own_no_change (own.status given) (λ before up answers. right_is_no_change (transmits before) (transmits given)) past i port)

pub link_event_is_no_change : (past : Past) (i port : ℕ) (up : Bool) → ¬ (IsFor past (link port up) i Change)
link_event_is_no_change past i port up = no_change past (link port up) i (own_no_change (own.link up) (λ given before answers. link_is_no_change before up) past i port)

pub frame_is_no_change : (past : Past) (i port : ℕ) (octets : List ℕ) → ¬ (IsFor past (frame port octets) i Change)
frame_is_no_change past i port octets = no_change past (frame port octets) i (own_no_change (own.frame octets) (λ given up answers. heard_is_no_change answers (heard_by given up octets)) past i port)

-- ## New neighbors

known : {X Y : Type 0} (x y : X) (o : Option Y) → option_map (λ (z : Y). x) o ≡ Some y → x ≡ y
known x y None e = cc
known x y (Some z) e = cc

module _ (past : Past) (i : ℕ) (octets : List ℕ) (before after : List Held) (was : neighbors_at past i ≡ Some before) (is : neighbors_at (with_event past (frame i octets)) i ≡ Some after) where
  abbrev calls : List Call
  calls = calls_after past.options (past_of past i)

  abbrev heard : Option Heard
  heard = heard_now past i octets

  before_is : before ≡ neighbors (events_of past.options.max_neighbors calls)
  before_is = sym (known _ before (slice_get past.options.names i) (sym (of_table (λ table. table.neighbors) past i) ∙ was))

  after_is : after ≡ held_after past.options.max_neighbors calls heard
  after_is =
      sym (known _ after (slice_get past.options.names i) (sym (of_table (λ table. table.neighbors) (with_event past (frame i octets)) i) ∙ is))
      ∙ ap (λ (now : Happened). (port_table past.options (now ∷ past_of past i)).neighbors) (own_happened (own.frame octets) i (happened i (frame i octets) past.events).interval)

  cause_is : cause_now past (frame i octets) i ≡ cause_of_heard (answers_now past i) heard
  cause_is = ap (λ (now : Happened). (caused_at past.options now (past_of past i)).cause) (own_happened (own.frame octets) i (happened i (frame i octets) past.events).interval)

  gain : IsGain past.options.max_neighbors calls (cause_now past (frame i octets) i) after
  gain = subst (λ (held : List Held). IsGain past.options.max_neighbors calls (cause_now past (frame i octets) i) held) (sym after_is)
      (subst (λ (c : Cause). IsGain past.options.max_neighbors calls c (held_after past.options.max_neighbors calls heard)) (sym cause_is)
      (gains past.options.max_neighbors calls (status_after past.options (past_of past i)) (up_after (past_of past i)) octets))

  by_gain : IsGain past.options.max_neighbors calls (cause_now past (frame i octets) i) after
      → ((length after ≡ 1 + length before) × (cause_now past (frame i octets) i ≡ Neighbor)) ⊎ ((length after ≤ length before) × (cause_now past (frame i octets) i ≡ Nothing))
  by_gain g = rw before_is g

  pub one_more_is_new : length after ≡ 1 + length before → IsFor past (frame i octets) i Neighbor
  one_more_is_new more = elim (by_gain gain) [ inl g ↦ is_for past (frame i octets) i Neighbor g.1 | inr n ↦ absurd (omega arith) ]

  pub others_are_nothing : length after ≢ 1 + length before → IsFor past (frame i octets) i Nothing
  others_are_nothing other = elim (by_gain gain) [ inl g ↦ absurd (other g.0) | inr n ↦ is_for past (frame i octets) i Nothing n.1 ]

pub ruleset new_neighbors_are_one_more = (one_more_is_new, others_are_nothing)

pub ruleset statuses_links_and_frames_are_no_changes = (status_is_no_change, link_event_is_no_change, frame_is_no_change)
