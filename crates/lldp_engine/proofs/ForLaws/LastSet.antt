-- A value computed event by event equals the value set by the last event that sets it.
use Rattle.std.proofs.Common.{◌≡◌, ℕ, ◌⊎◌, inl, inr, Bool, true, false, List, [], ◌∷◌, ◌++◌, refl, ap, sym, ◌∙◌}
use Rattle.std.specs.Prelude.{◌==◌}
use Rattle.std.proofs.lemmas.Bool.Decides.{eqb_tells}
use Rattle.lldp_engine.specs.declared.port.status.Status.{Status as PortStatus}
use Rattle.lldp_engine.specs.Options.{Options}
use Rattle.lldp_engine.specs.Event.{Event, frame, link, set, hostname, description, interval, hold, limit, status}
use Rattle.lldp_engine.specs.Configuration.{Configuration, configuration_at_opening, configured}
use Rattle.lldp_engine.specs.Past.{configuration_after, port_past}
use Rattle.lldp_engine.specs.Port.Event as own
use Rattle.lldp_engine.specs.Port.Effects.{status_then, up_then}
use Rattle.lldp_engine.specs.Port.Past.{status_after, up_after}
use Rattle.lldp_engine.specs.Laws.LastSet.{NoneSets, IsLastSet, IsLastStatus, IsLastLink, without_commands, IsLastConfiguration}
use Rattle.lldp_engine.proofs.AllPorts.EachPort.{own_or_nothing}

-- An event either sets the value, whatever the earlier events were, or leaves it unchanged.
abbrev SetsOrLeaves : {X : Type 0} → (X → Event) → (List Event → X) → Event → Type 0
SetsOrLeaves make value_after event =
    ((x : _) × (event ≡ make x) × ((events : List Event) → value_after (event ∷ events) ≡ x))
    ⊎ (((x : _) → event ≡ make x → ⊥) × ((events : List Event) → value_after (event ∷ events) ≡ value_after events))

module _ {X : Type 0} (make : X → Event) (value_after : List Event → X) (same : (x y : X) → make x ≡ make y → x ≡ y) (each : (event : Event) → SetsOrLeaves make value_after event) where
  none_of_nil : (later earlier : List Event) (x : X) → [] ≡ later ++ make x ∷ earlier → ⊥
  none_of_nil [] earlier x e = cc
  none_of_nil (event ∷ later) earlier x e = cc

  none_of_more : (event : Event) (events : List Event) → ((x : X) → event ≡ make x → ⊥) → NoneSets make events
      → (later earlier : List Event) (x : X) → event ∷ events ≡ later ++ make x ∷ earlier → ⊥
  none_of_more event events n none [] earlier x e = n x cc
  none_of_more event events n none (first ∷ later) earlier x e = none later earlier x cc

  none_of_fewer : (event : Event) (events : List Event) → NoneSets make (event ∷ events) → NoneSets make events
  none_of_fewer event events none = λ later earlier x e. none (event ∷ later) earlier x (ap (λ l. event ∷ l) e)

  more_set : (event : Event) (events : List Event) → SetsOrLeaves make value_after event → IsLastSet make (value_after []) events (value_after events)
      → IsLastSet make (value_after []) (event ∷ events) (value_after (event ∷ events))
  more_set event events (inl sets) h = inl ([], events, ap (λ e. e ∷ events) (sets.1 ∙ ap make (sym (sets.2 events))), none_of_nil)
  more_set event events (inr leaves) (inl h) =
      inl (event ∷ h.0, h.1, ap (λ l. event ∷ l) h.2 ∙ ap (λ (x : X). event ∷ (h.0 ++ make x ∷ h.1)) (sym (leaves.1 events)), none_of_more event h.0 leaves.0 h.3)
  more_set event events (inr leaves) (inr h) = inr (none_of_more event events leaves.0 h.0, leaves.1 events ∙ h.1)

  pub last_is_set : (events : List Event) → IsLastSet make (value_after []) events (value_after events)
  last_is_set [] = inr (none_of_nil, refl)
  last_is_set (event ∷ events) = more_set event events (each event) (last_is_set events)

  set_is_same : (event : Event) (events : List Event) (x : X) → SetsOrLeaves make value_after event → (later earlier : List Event) → event ∷ events ≡ later ++ make x ∷ earlier
      → NoneSets make later → (IsLastSet make (value_after []) events x → x ≡ value_after events) → x ≡ value_after (event ∷ events)
  set_is_same event events x (inl sets) [] earlier e none before =
      let here : event ≡ make x = cc in same x sets.0 (sym here ∙ sets.1) ∙ sym (sets.2 events)
  set_is_same event events x (inl sets) (first ∷ later) earlier e none before =
      let here : first ≡ make sets.0 = cc in absurd (none [] later sets.0 (ap (λ f. f ∷ later) here))
  set_is_same event events x (inr leaves) [] earlier e none before = absurd (leaves.0 x cc)
  set_is_same event events x (inr leaves) (first ∷ later) earlier e none before =
      before (inl (later, earlier, cc, none_of_fewer first later none)) ∙ sym (leaves.1 events)

  first_is_same : (event : Event) (events : List Event) (x : X) → SetsOrLeaves make value_after event → NoneSets make (event ∷ events) → x ≡ value_after []
      → (IsLastSet make (value_after []) events x → x ≡ value_after events) → x ≡ value_after (event ∷ events)
  first_is_same event events x (inl sets) none e before = absurd (none [] events sets.0 (ap (λ f. f ∷ events) sets.1))
  first_is_same event events x (inr leaves) none e before = before (inr (none_of_fewer event events none, e)) ∙ sym (leaves.1 events)

  pub set_is_last : (events : List Event) (x : X) → IsLastSet make (value_after []) events x → x ≡ value_after events
  set_is_last [] x (inl h) = absurd (none_of_nil h.0 h.1 x h.2)
  set_is_last [] x (inr h) = h.1
  set_is_last (event ∷ events) x (inl h) = set_is_same event events x (each event) h.0 h.1 h.2 h.3 (set_is_last events x)
  set_is_last (event ∷ events) x (inr h) = first_is_same event events x (each event) h.0 h.1 (set_is_last events x)

-- ## The status of port i

abbrev status_at : Options → ℕ → List Event → PortStatus
status_at o i events = status_after o (port_past i events)

abbrev LeavesStatus : PortStatus → own.PortEvent → Type 0
LeavesStatus before event = status_then event before ≡ before

status_case : (o : Options) (i port : ℕ) (given : PortStatus) → (((port == i) ≡ true) × (port ≡ i)) ⊎ (((port == i) ≡ false) × (port ≡ i → ⊥))
    → SetsOrLeaves (λ s. set (status i s)) (status_at o i) (set (status port given))
status_case o i port given (inl h) = inl (given, ap (λ p. set (status p given)) h.1, λ events. rw h.0 refl)
status_case o i port given (inr h) = inr (λ x e. h.1 cc, λ events. rw h.0 refl)

status_each : (o : Options) (i : ℕ) (event : Event) → SetsOrLeaves (λ s. set (status i s)) (status_at o i) event
status_each o i (set (status port given)) = status_case o i port given (eqb_tells port i)
status_each o i (frame port octets) = inr (λ x e. cc, λ events. own_or_nothing (LeavesStatus (status_at o i events)) (port == i) (own.frame octets) refl refl)
status_each o i (link port up) = inr (λ x e. cc, λ events. own_or_nothing (LeavesStatus (status_at o i events)) (port == i) (own.link up) refl refl)
status_each o i event = inr (λ x e. cc, λ events. refl)

pub status_is_last : (o : Options) (i : ℕ) (events : List Event) → IsLastStatus o i events (status_at o i events)
status_is_last o i events = last_is_set (λ s. set (status i s)) (status_at o i) (λ x y e. cc) (status_each o i) events

pub last_is_status : (o : Options) (i : ℕ) (events : List Event) (s : PortStatus) → IsLastStatus o i events s → s ≡ status_at o i events
last_is_status o i events s h = set_is_last (λ s. set (status i s)) (status_at o i) (λ x y e. cc) (status_each o i) events s h

-- ## The link of port i

abbrev up_at : Options → ℕ → List Event → Bool
up_at o i events = up_after (port_past i events)

abbrev LeavesLink : Bool → own.PortEvent → Type 0
LeavesLink before event = up_then event before ≡ before

link_case : (o : Options) (i port : ℕ) (up : Bool) → (((port == i) ≡ true) × (port ≡ i)) ⊎ (((port == i) ≡ false) × (port ≡ i → ⊥)) → SetsOrLeaves (link i) (up_at o i) (link port up)
link_case o i port up (inl h) = inl (up, ap (λ p. link p up) h.1, λ events. rw h.0 refl)
link_case o i port up (inr h) = inr (λ x e. h.1 cc, λ events. rw h.0 refl)

link_each : (o : Options) (i : ℕ) (event : Event) → SetsOrLeaves (link i) (up_at o i) event
link_each o i (link port up) = link_case o i port up (eqb_tells port i)
link_each o i (frame port octets) = inr (λ x e. cc, λ events. own_or_nothing (LeavesLink (up_at o i events)) (port == i) (own.frame octets) refl refl)
link_each o i (set (status port given)) = inr (λ x e. cc, λ events. own_or_nothing (LeavesLink (up_at o i events)) (port == i) (own.status given) refl refl)
link_each o i event = inr (λ x e. cc, λ events. refl)

pub link_is_last : (o : Options) (i : ℕ) (events : List Event) → IsLastLink i events (up_at o i events)
link_is_last o i events = last_is_set (link i) (up_at o i) (λ x y e. cc) (link_each o i) events

pub last_is_link : (o : Options) (i : ℕ) (events : List Event) (up : Bool) → IsLastLink i events up → up ≡ up_at o i events
last_is_link o i events up h = set_is_last (link i) (up_at o i) (λ x y e. cc) (link_each o i) events up h

-- ## The configuration

hostname_each : (o : Options) (event : Event) → SetsOrLeaves (λ text. set (hostname text)) (λ events. (configuration_after o events).hostname) event
hostname_each o (set (hostname text)) = inl (text, refl, λ events. refl)
hostname_each o event = inr (λ x e. cc, λ events. refl)

description_each : (o : Options) (event : Event) → SetsOrLeaves (λ text. set (description text)) (λ events. (configuration_after o events).description) event
description_each o (set (description text)) = inl (text, refl, λ events. refl)
description_each o event = inr (λ x e. cc, λ events. refl)

interval_each : (o : Options) (event : Event) → SetsOrLeaves (λ seconds. set (interval seconds)) (λ events. (configuration_after o events).interval) event
interval_each o (set (interval seconds)) = inl (seconds, refl, λ events. refl)
interval_each o event = inr (λ x e. cc, λ events. refl)

hold_each : (o : Options) (event : Event) → SetsOrLeaves (λ times. set (hold times)) (λ events. (configuration_after o events).hold) event
hold_each o (set (hold times)) = inl (times, refl, λ events. refl)
hold_each o event = inr (λ x e. cc, λ events. refl)

limit_each : (o : Options) (event : Event) → SetsOrLeaves (λ neighbors. set (limit neighbors)) (λ events. (configuration_after o events).limit) event
limit_each o (set (limit neighbors)) = inl (neighbors, refl, λ events. refl)
limit_each o event = inr (λ x e. cc, λ events. refl)

others_stay : (o : Options) (event : Event) (c : Configuration) → without_commands o (configured event c) ≡ without_commands o c
others_stay o (set (hostname text)) c = refl
others_stay o event c = refl

others_are : (o : Options) (events : List Event) → without_commands o (configuration_after o events) ≡ configuration_at_opening o
others_are o [] = refl
others_are o (event ∷ events) = others_stay o event (configuration_after o events) ∙ others_are o events

pub configuration_is_last : (o : Options) (events : List Event) → IsLastConfiguration o events (configuration_after o events)
configuration_is_last o events = record {
  by_hostname = last_is_set (λ text. set (hostname text)) (λ events. (configuration_after o events).hostname) (λ x y e. cc) (hostname_each o) events;
  by_description = last_is_set (λ text. set (description text)) (λ events. (configuration_after o events).description) (λ x y e. cc) (description_each o) events;
  by_interval = last_is_set (λ seconds. set (interval seconds)) (λ events. (configuration_after o events).interval) (λ x y e. cc) (interval_each o) events;
  by_hold = last_is_set (λ times. set (hold times)) (λ events. (configuration_after o events).hold) (λ x y e. cc) (hold_each o) events;
  by_limit = last_is_set (λ neighbors. set (limit neighbors)) (λ events. (configuration_after o events).limit) (λ x y e. cc) (limit_each o) events;
  others = others_are o events;
}
