-- The options of an agent as plain data, and which options are refused.
use Rattle.std.specs.Prelude.{◌≡◌, ℕ, ◌≤◌, ◌==◌, ◌&&◌, ◌||◌, not, nat_le, nat_lt, Bool, false, List, [], ◌∷◌, length, map, Option, Some, None}
use Rattle.std.specs.List.{list_any, list_all}
use Rattle.std.specs.Str.{bytes_eq}
use Rattle.lldp_pdu.specs.Check.{Check, first_fault}
use Rattle.lldp_text.specs.Text.{is_text}
use Rattle.lldp_engine.specs.declared.agent.options.Options.{Options as CodeOptions}
use Rattle.lldp_engine.specs.declared.agent.options.Role.{Role}
use Rattle.lldp_engine.specs.declared.agent.open_fault.OpenFault.{OpenFault}
use Rattle.lldp_engine.specs.declared.agent.open_fault.OpenFault.TheVariants.{Memory, NoPorts, TooManyPorts, PortName, SamePort, Text}
use Rattle.lldp_engine.specs.Ranges.{most_ports, most_name}
use Rattle.lldp_table.specs.Ranges.{most_neighbors}
use Rattle.lldp_transmit.specs.Ranges.{most_credit_max, most_fast_init, most_reinit}

-- The options of an agent: the names of its ports in order, its identity, its role, four numbers
-- (limit of neighbors, txCreditMax, txFastInit, reinitDelay), and whether its ports begin as
-- RxOnly.
pub record Options : Type 0 where
  pub names : List (List ℕ)
  pub mac : List ℕ
  pub hostname : List ℕ
  pub management : Option (List ℕ)
  pub role : Role
  pub max_neighbors : ℕ
  pub credit_max : ℕ
  pub fast_init : ℕ
  pub reinit : ℕ
  pub receive_only : Bool

-- Returns `Options` of the Rust code as plain data.
abbrev pub options_of : CodeOptions → Options
options_of o =
    record {
      names = map (λ name. name.now) o.ports.now;
      mac = o.mac;
      hostname = o.hostname.now;
      management = o.management;
      role = o.role;
      max_neighbors = o.max_neighbors;
      credit_max = o.credit_max;
      fast_init = o.fast_init;
      reinit = o.reinit;
      receive_only = o.receive_only;
    }

-- The four numbers are in their ranges.
pub record InRange (o : Options) : Type 0 where
  pub neighbors : (1 ≤ o.max_neighbors) × (o.max_neighbors ≤ most_neighbors)
  pub credit : (1 ≤ o.credit_max) × (o.credit_max ≤ most_credit_max)
  pub fast : (1 ≤ o.fast_init) × (o.fast_init ≤ most_fast_init)
  pub wait : (1 ≤ o.reinit) × (o.reinit ≤ most_reinit)

-- True for a letter, a digit, `-`, `_`, `/` and `:`.
abbrev pub is_name_octet : ℕ → Bool
is_name_octet c =
    (nat_le 97 c && nat_le c 122) || (nat_le 65 c && nat_le c 90) || (nat_le 47 c && nat_le c 58)
    || c == 45 || c == 95

-- True if the name has 1 to 15 octets, all of them allowed in names.
abbrev pub is_port_name : List ℕ → Bool
is_port_name name = nat_lt 0 (length name) && (nat_le (length name) most_name && list_all is_name_octet name)

-- True if some name occurs twice.
abbrev pub has_same : List (List ℕ) → Bool
has_same [] = false
has_same (name ∷ names) = list_any (λ other. bytes_eq other name) names || has_same names

-- Returns the checks in their order. Each check is over the whole list of ports.
abbrev pub checks : Options → List (Check OpenFault)
checks o =
    record { fails = length o.names == 0; fault = NoPorts }
    ∷ record { fails = nat_lt most_ports (length o.names); fault = TooManyPorts }
    ∷ record { fails = not (list_all is_port_name o.names); fault = PortName }
    ∷ record { fails = has_same o.names; fault = SamePort }
    ∷ record { fails = not (is_text o.hostname); fault = Text }
    ∷ []

-- Returns the fault of the first check that fails, if any.
abbrev pub fault_of : Options → Option OpenFault
fault_of o = first_fault (checks o)

-- Opening fails with the fault of the first check that fails, and with Memory only if none does.
abbrev pub IsRefusal : Options → OpenFault → Type 0
IsRefusal o Memory = fault_of o ≡ None
IsRefusal o fault = fault_of o ≡ Some fault
