-- The checks that options must pass to open an agent, and the agent that they open.
use Rattle.std.specs.Prelude.{◌≡◌, ◌≢◌, ℕ, ◌<◌, ◌≤◌, ◌⊎◌, true, false, List, length, map, codes}
use Rattle.std.specs.List.{All, AllByRecursion, AllPass, AllPairs}
use Rattle.lldp_engine.specs.declared.agent.open_fault.OpenFault.{OpenFault}
use Rattle.lldp_engine.specs.declared.agent.open_fault.OpenFault.TheVariants.{Memory, NoPorts, TooManyPorts, PortName, SamePort, Text}
use Rattle.lldp_engine.specs.declared.agent.options.Options.{Options as CodeOptions}
use Rattle.lldp_engine.specs.declared.port.status.Status.TheVariants.{RxAndTx, RxOnly}
use Rattle.lldp_engine.specs.Options.{Options, is_name_octet}
use Rattle.lldp_engine.specs.Configuration.{Configuration}
use Rattle.lldp_engine.specs.AgentState.{AgentState, PortState, names_of}
use Rattle.lldp_engine.specs.FixedNumbers.{number_of_refusal}
use Rattle.lldp_pdu.specs.Range.{most_text}
use Rattle.lldp_engine.specs.Ranges.{first_interval, most_ports, most_name}

-- A port's name: 1 to 15 octets, each of them allowed in names.
pub record IsName (name : List ℕ) : Type 0 where
  pub some : 1 ≤ length name
  pub short : length name ≤ most_name
  pub octets : AllPass is_name_octet name

-- A text: at most 255 octets, each from the space (32) to the tilde (126).
pub record IsText (text : List ℕ) : Type 0 where
  pub short : length text ≤ most_text
  pub octets : All (λ octet. (32 ≤ octet) × (octet ≤ 126)) text

-- The options pass the check for this fault: at least one port; at most 64; each has a valid name;
-- no two names are equal; the hostname is a text. Lack of memory is not a check.
abbrev pub Passes : Options → OpenFault → Type 0
Passes o Memory = Unit {0}
Passes o NoPorts = 1 ≤ length o.names
Passes o TooManyPorts = length o.names ≤ most_ports
Passes o PortName = All IsName o.names
Passes o SamePort = AllPairs (λ name other. name ≢ other) o.names
Passes o Text = IsText o.hostname

-- The options fail the check for this fault, and pass each check with a smaller number.
pub record IsFirstFault (o : Options) (fault : OpenFault) : Type 0 where
  pub fails : Passes o fault → ⊥
  pub first : (other : OpenFault) → number_of_refusal other < number_of_refusal fault → Passes o other

-- Opening is refused with the fault of the first check that fails; with Memory if none fails.
abbrev pub Refuses : Options → OpenFault → Type 0
Refuses o fault = IsFirstFault o fault ⊎ ((fault ≡ Memory) × ((other : OpenFault) → Passes o other))

-- Each part has the value of its option. The last four have no option of their own: `lldpa`, a
-- tx-interval of 30, a tx-hold of 4, and the greatest limit that is allowed.
pub record IsConfiguredBy (o : CodeOptions) (c : Configuration) : Type 0 where
  pub mac : c.mac ≡ o.mac
  pub role : c.role ≡ o.role
  pub management : c.management ≡ o.management
  pub credit_max : c.credit_max ≡ o.credit_max
  pub fast_init : c.fast_init ≡ o.fast_init
  pub reinit : c.reinit ≡ o.reinit
  pub capacity : c.capacity ≡ o.max_neighbors
  pub hostname : c.hostname ≡ o.hostname.now
  pub description : c.description ≡ codes "lldpa"
  pub interval : c.interval ≡ first_interval
  pub hold : c.hold ≡ 4
  pub limit : c.limit ≡ o.max_neighbors

-- A port is RxAndTx, or RxOnly if the options ask for that. Its machine has the options'
-- credit_max, fast_init and reinit.
pub record IsPortOf (o : CodeOptions) (port : PortState) : Type 0 where
  pub both : o.receive_only ≡ false → port.status ≡ RxAndTx
  pub receives : o.receive_only ≡ true → port.status ≡ RxOnly
  pub credit_max : port.machine.credit_max ≡ o.credit_max
  pub fast_init : port.machine.fast_init ≡ o.fast_init
  pub reinit : port.machine.reinit ≡ o.reinit

-- The agent's configuration, port names and ports are those that the options give.
pub record OpensWith (o : CodeOptions) (agent : AgentState) : Type 0 where
  pub configuration : IsConfiguredBy o agent.configuration
  pub names : names_of agent ≡ map (λ name. name.now) o.ports.now
  pub ports : AllByRecursion (IsPortOf o) agent.ports
