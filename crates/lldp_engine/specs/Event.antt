-- The events of an agent as plain data, and how those of the Rust code become plain data.
use Rattle.std.specs.Prelude.{◌≡◌, ℕ, ◌≤◌, Bool, true, List}
use Rattle.lldp_text.specs.Text.{is_text}
use Rattle.lldp_pdu.specs.Tlv.{AreOctets}
use Rattle.lldp_engine.specs.declared.agent.event.Event.{Event as CodeEvent}
use Rattle.lldp_engine.specs.declared.agent.event.Event.TheVariants.{Tick, Frame, Link, Set}
use Rattle.lldp_engine.specs.declared.agent.event.Setting.{Setting as CodeSetting}
use Rattle.lldp_engine.specs.declared.agent.event.Setting.TheVariants as variant
use Rattle.lldp_engine.specs.declared.port.status.Status.{Status}
use Rattle.lldp_engine.specs.Ranges.{most_interval, most_hold}

-- The changes that a command can make.
pub data Setting : Type 0 where
  hostname : (text : List ℕ) → Setting
  description : (text : List ℕ) → Setting
  interval : (seconds : ℕ) → Setting
  hold : (times : ℕ) → Setting
  limit : (neighbors : ℕ) → Setting
  status : (port : ℕ) (given : Status) → Setting
  update : Setting

-- Holds if the number is in range or the text is valid. Limits and statuses are not checked here.
abbrev pub IsInRange : Setting → Type 0
IsInRange (hostname text) = is_text text ≡ true
IsInRange (description text) = is_text text ≡ true
IsInRange (interval seconds) = (1 ≤ seconds) × (seconds ≤ most_interval)
IsInRange (hold times) = (1 ≤ times) × (times ≤ most_hold)
IsInRange setting = Unit {0}

-- A second has passed; a port received octets; the link of a port came up or went down; a command
-- was accepted.
pub data Event : Type 0 where
  tick : Event
  frame : (port : ℕ) (octets : List ℕ) → Event
  link : (port : ℕ) (up : Bool) → Event
  set : (setting : Setting) → Event

-- Holds if received octets are numbers below 256, as in every event of the Rust code.
abbrev pub HasOctets : Event → Type 0
HasOctets (frame port octets) = AreOctets octets
HasOctets event = Unit {0}

-- Returns a `Setting` of the Rust code as plain data.
abbrev pub setting_of : CodeSetting → Setting
setting_of (variant.Hostname text) = hostname text.now
setting_of (variant.Description text) = description text.now
setting_of (variant.Interval seconds) = interval seconds
setting_of (variant.Hold times) = hold times
setting_of (variant.Limit neighbors) = limit neighbors
setting_of (variant.Status port given) = status port given
setting_of variant.Update = update

-- Returns an `Event` of the Rust code as plain data.
abbrev pub event_of : CodeEvent → Event
event_of Tick = tick
event_of (Frame port octets) = frame port octets.now
event_of (Link port up) = link port up
event_of (Set setting) = set (setting_of setting)
