-- What the values that callers pass and get mean.
use Rattle.std.specs.Prelude.{◌≡◌, ℕ, ◌<◌, ◌==◌, ◌↔◌, Bool, true, false, if◌then◌else◌, List, [], ◌∷◌, Option, Some, None, codes}
use Rattle.std.specs.List.{Contains}
use Rattle.lldp_pdu.specs.declared.fields.Msap.{Msap}
use Rattle.lldp_pdu.specs.Fault.{fault_of}
use Rattle.lldp_pdu.specs.Lldpdu.{ttl_of, msap_of}
use Rattle.lldp_table.specs.declared.learned.Outcome.{Outcome}
use Rattle.lldp_table.specs.declared.learned.Outcome.TheVariants.{Added, Changed, Repeated, NoRoom}
use Rattle.lldp_table.specs.Events.{Neighbor}
use Rattle.lldp_table.specs.Contents.{Contents}
use Rattle.lldp_engine.specs.declared.agent.event.Event.{Event}
use Rattle.lldp_engine.specs.declared.agent.event.Event.TheVariants.{Tick, Frame, Link, Set}
use Rattle.lldp_engine.specs.declared.agent.event.Setting.TheVariants as setting
use Rattle.lldp_engine.specs.declared.agent.told.Told.{Told}
use Rattle.lldp_engine.specs.declared.agent.told.Told.TheVariants as told
use Rattle.lldp_engine.specs.declared.command.Command.{Command}
use Rattle.lldp_engine.specs.declared.command.Command.TheVariants as command
use Rattle.lldp_engine.specs.declared.command.Show.TheVariants.{Neighbors, Statistics, Chassis, Configuration}
use Rattle.lldp_engine.specs.Configuration.{Configuration as Configured}
use Rattle.lldp_engine.specs.Port.Event.{PortEvent, tick, frame, link, status, limit, change, nothing}
use Rattle.lldp_engine.specs.Laws.OnlyForms.{word_of}

-- ## Events

-- Returns the configuration after an event: five settings each set their own part of it.
abbrev pub set_by : Event → Configured → Configured
set_by (Set (setting.Hostname text)) c = record c { hostname = text.now }
set_by (Set (setting.Description text)) c = record c { description = text.now }
set_by (Set (setting.Interval seconds)) c = record c { interval = seconds }
set_by (Set (setting.Hold times)) c = record c { hold = times }
set_by (Set (setting.Limit neighbors)) c = record c { limit = neighbors }
set_by event c = c

-- Returns what an event is for port i.
abbrev pub comes_to : ℕ → Event → PortEvent
comes_to i Tick = tick
comes_to i (Frame port octets) = if port == i then frame octets.now else nothing
comes_to i (Link port up) = if port == i then link up else nothing
comes_to i (Set (setting.Status port given)) = if port == i then status given else nothing
comes_to i (Set (setting.Limit neighbors)) = limit neighbors
comes_to i (Set other) = change

-- ## Commands

-- Returns the words of a command, given the word of its number or of its port.
abbrev pub words_for : List ℕ → Command → List (List ℕ)
words_for word (command.Show Neighbors) = codes "show" ∷ codes "neighbors" ∷ []
words_for word (command.Show Statistics) = codes "show" ∷ codes "statistics" ∷ []
words_for word (command.Show Chassis) = codes "show" ∷ codes "chassis" ∷ []
words_for word (command.Show Configuration) = codes "show" ∷ codes "configuration" ∷ []
words_for word (command.Set (setting.Hostname text)) = codes "configure" ∷ codes "system" ∷ codes "hostname" ∷ text.now ∷ []
words_for word (command.Set (setting.Description text)) = codes "configure" ∷ codes "system" ∷ codes "description" ∷ text.now ∷ []
words_for word (command.Set (setting.Interval n)) = codes "configure" ∷ codes "lldp" ∷ codes "tx-interval" ∷ word ∷ []
words_for word (command.Set (setting.Hold n)) = codes "configure" ∷ codes "lldp" ∷ codes "tx-hold" ∷ word ∷ []
words_for word (command.Set (setting.Limit n)) = codes "configure" ∷ codes "lldp" ∷ codes "max-neighbors" ∷ word ∷ []
words_for word (command.Set (setting.Status port given)) =
    codes "configure" ∷ codes "ports" ∷ word ∷ codes "lldp" ∷ codes "status" ∷ word_of given ∷ []
words_for word (command.Set setting.Update) = codes "update" ∷ []

-- ## What a step tells

-- The name is that of the LLDPDU: its Chassis ID and its Port ID.
pub record Names (octets : List ℕ) (name : Msap) : Type 0 where
  pub chassis : name.chassis.now ≡ (msap_of octets).chassis
  pub port : name.port.now ≡ (msap_of octets).port

-- A neighbor with the name of the LLDPDU is held.
abbrev pub Holds : Contents → List ℕ → Type 0
Holds table octets = (neighbor : Neighbor) × Contains table.neighbors neighbor × (neighbor.msap ≡ msap_of octets)

-- The outcome tells whether the neighbor that the LLDPDU names was held, and is held afterwards.
abbrev pub IsOutcome : List ℕ → Contents → Contents → Outcome → Type 0
IsOutcome octets before after Added = (Holds before octets → ⊥) × Holds after octets
IsOutcome octets before after Changed = Holds before octets × Holds after octets
IsOutcome octets before after Repeated = Holds before octets × Holds after octets
IsOutcome octets before after NoRoom = Holds after octets → ⊥

-- What is told is true of the port, which hears frames or not, of the frame's LLDPDU, if it has one,
-- and of the port's table before and after the frame.
abbrev pub IsTrueOf : Bool → Option (List ℕ) → Contents → Contents → Told → Type 0
IsTrueOf hears pdu before after told.Nothing = ⊥
IsTrueOf hears pdu before after told.Deaf = hears ≡ false
IsTrueOf hears pdu before after told.NotLldp = (hears ≡ true) × (pdu ≡ None)
IsTrueOf hears pdu before after (told.Refused fault) =
    (octets : List ℕ) × (hears ≡ true) × (pdu ≡ Some octets) × (fault_of octets ≡ Some fault)
IsTrueOf hears pdu before after (told.Stored name outcome) =
    (octets : List ℕ) × (hears ≡ true) × (pdu ≡ Some octets) × (fault_of octets ≡ None) × (0 < ttl_of octets)
    × Names octets name × IsOutcome octets before after outcome
IsTrueOf hears pdu before after (told.Left name held) =
    (octets : List ℕ) × (hears ≡ true) × (pdu ≡ Some octets) × (fault_of octets ≡ None) × (ttl_of octets ≡ 0)
    × Names octets name × ((held ≡ true) ↔ Holds before octets)
