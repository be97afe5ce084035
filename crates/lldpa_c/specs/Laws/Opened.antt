-- Which options `lldpa_open` reads, and the agent that it opens.
use Rattle.std.specs.Prelude.{◌+◌, ◌≡◌, ℕ, ◌<◌, ◌≤◌, true, false, [], ◌∷◌, length, map, take, Some, slice_get}
use Rattle.std.specs.List.{All}
use Rattle.std.specs.Str.{IsAscii}
use Rattle.lldp_engine.specs.AgentState.{AgentState, names_of}
use Rattle.lldp_engine.specs.Past.{configuration_after}
use Rattle.lldpa_c.specs.declared.holder.LldpaAgent.{LldpaAgent}
use Rattle.lldpa_c.specs.declared.options.LldpaOptions.{LldpaOptions}
use Rattle.lldpa_c.specs.declared.options.LldpaText.{LldpaText}
use Rattle.lldpa_c.specs.Opening.{asked, IsRead, Opens}
use Rattle.lldpa_c.specs.Ticks.{neighbors_held}
use Rattle.lldp_table.specs.Ranges.{most_neighbors}
use Rattle.lldp_transmit.specs.Ranges.{most_credit_max, most_fast_init, most_reinit}
use Rattle.lldp_engine.specs.Ranges.{most_ports}

-- the four numbers in their ranges, and the number of a role
pub record AreInRange (o : LldpaOptions) : Type 0 where
  pub role : o.role ≤ 2
  pub max_neighbors : (1 ≤ o.max_neighbors) × (o.max_neighbors ≤ most_neighbors)
  pub credit_max : (1 ≤ o.credit_max) × (o.credit_max ≤ most_credit_max)
  pub fast_init : (1 ≤ o.fast_init) × (o.fast_init ≤ most_fast_init)
  pub reinit : (1 ≤ o.reinit) × (o.reinit ≤ most_reinit)

-- Options are read if their numbers are in range and their texts are ASCII, and only if their
-- numbers are in range. They are not read if the hostname or one of the first 65 names is the octet
-- 255, which is not UTF-8.
pub record AreOptions (o : LldpaOptions) : Type 0 where
  pub read : AreInRange o → All (λ text. IsAscii text.octets.now) o.ports.now → IsAscii o.hostname.octets.now → IsRead o
  pub range : IsRead o → AreInRange o
  pub hostname : o.hostname.octets.now ≡ 255 ∷ [] → ¬ (IsRead o)
  pub names : (i : ℕ) (text : LldpaText) → slice_get (take (most_ports + 1) o.ports.now) i ≡ Some text → text.octets.now ≡ 255 ∷ [] → ¬ (IsRead o)
  pub agent : (agent : AgentState) → Opens o agent →
      (names_of agent ≡ map (λ text. text.octets.now) o.ports.now) × (agent.configuration ≡ configuration_after (asked o) [])
      × (neighbors_held agent ≡ 0)

-- the numbers are in range, and the texts are ASCII
abbrev pub AreRead : LldpaOptions → Type 0
AreRead o = AreInRange o × All (λ text. IsAscii text.octets.now) o.ports.now × IsAscii o.hostname.octets.now

-- An open handle is told first, then a number out of range or a hostname that is not UTF-8, then that
-- there is no port or that there are over 64: also if what comes later is wrong too. Only an answer of 0
-- changes the handle.
pub record OpensInOrder (o : LldpaOptions) (before : LldpaAgent) (answer : ℕ) (after : LldpaAgent) : Type 0 where
  pub again : before.is_open ≡ true → (answer ≡ 104) × (after.is_open ≡ true) × (after.held.agent ≡ before.held.agent)
  pub range : before.is_open ≡ false → ¬ (AreInRange o) → (answer ≡ 100) × (after.is_open ≡ false)
  pub text : before.is_open ≡ false → o.hostname.octets.now ≡ 255 ∷ [] → (answer ≡ 100) × (after.is_open ≡ false)
  pub none : before.is_open ≡ false → AreRead o → o.ports.now ≡ [] → (answer ≡ 22) × (after.is_open ≡ false)
  pub many : before.is_open ≡ false → AreRead o → most_ports < length o.ports.now → (answer ≡ 23) × (after.is_open ≡ false)
  pub success : answer ≡ 0 → (before.is_open ≡ false) × (after.is_open ≡ true) × (names_of after.held.agent ≡ map (λ text. text.octets.now) o.ports.now)
