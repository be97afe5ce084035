-- The last value that an event set, defined by positions in the list of events. A position splits
-- the events into the later ones (newest first), the event there, and the earlier ones.
use Rattle.std.specs.Prelude.{◌≡◌, ◌⊎◌, ℕ, Bool, true, List, ◌∷◌, ◌++◌, codes}
use Rattle.lldp_engine.specs.declared.port.status.Status.{Status as PortStatus}
use Rattle.lldp_engine.specs.Options.{Options}
use Rattle.lldp_engine.specs.Status.{status_at_opening}
use Rattle.lldp_engine.specs.Event.{Event, link, set, hostname, description, interval, hold, limit, status}
use Rattle.lldp_engine.specs.Configuration.{Configuration, configuration_at_opening}
use Rattle.lldp_engine.specs.Ranges.{first_interval}

-- None of these events sets the value; `make value` is the event that sets it to `value`.
abbrev pub NoneSets : {X : Type 0} → (X → Event) → List Event → Type 0
NoneSets make events = (later earlier : List Event) (value : _) → events ≡ later ++ make value ∷ earlier → ⊥

-- The value is what the last event made by `make` set it to, or `first` if there is none.
abbrev pub IsLastSet : {X : Type 0} → (X → Event) → X → List Event → X → Type 0
IsLastSet make first events value =
    ((later earlier : List Event) × (events ≡ later ++ make value ∷ earlier) × NoneSets make later)
    ⊎ (NoneSets make events × (value ≡ first))

-- Port i has this status: the last that a command set, or else the status at opening.
abbrev pub IsLastStatus : Options → ℕ → List Event → PortStatus → Type 0
IsLastStatus o i events value = IsLastSet (λ given. set (status i given)) (status_at_opening o) events value

-- The link of port i is as its last link event says, and up if there is none.
abbrev pub IsLastLink : ℕ → List Event → Bool → Type 0
IsLastLink i events value = IsLastSet (link i) true events value

-- Undoes all commands: the values that commands can set are again those at opening.
abbrev pub without_commands : Options → Configuration → Configuration
without_commands o c =
    let first = configuration_at_opening o in
    record c {
      hostname = first.hostname;
      description = first.description;
      interval = first.interval;
      hold = first.hold;
      limit = first.limit;
    }

-- Each part that commands can set has the value set last; the other parts are as at opening.
pub record IsLastConfiguration (o : Options) (events : List Event) (c : Configuration) : Type 0 where
  pub by_hostname : IsLastSet (λ text. set (hostname text)) o.hostname events c.hostname
  pub by_description : IsLastSet (λ text. set (description text)) (codes "lldpa") events c.description
  pub by_interval : IsLastSet (λ seconds. set (interval seconds)) first_interval events c.interval
  pub by_hold : IsLastSet (λ times. set (hold times)) 4 events c.hold
  pub by_limit : IsLastSet (λ neighbors. set (limit neighbors)) o.max_neighbors events c.limit
  pub others : without_commands o c ≡ configuration_at_opening o
