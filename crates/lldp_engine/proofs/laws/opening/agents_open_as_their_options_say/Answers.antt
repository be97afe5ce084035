use Rattle.std.proofs.Common.{◌≡◌, ℕ, ◌+◌, Bool, true, false, List, [], ◌∷◌, map, refl, ap}
use Rattle.std.specs.Prelude.{if◌then◌else◌}
use Rattle.std.specs.List.{AllByRecursion}
use Rattle.lldp_transmit.specs.Standing.{machine_of}
use Rattle.lldp_engine.specs.declared.port.status.Status.{Status}
use Rattle.lldp_engine.specs.declared.port.status.Status.TheVariants.{RxAndTx, RxOnly}
use Rattle.lldp_engine.specs.declared.agent.options.Options.{Options as CodeOptions}
use Rattle.lldp_engine.specs.Options.{Options, options_of}
use Rattle.lldp_engine.specs.Past.{opened, ports_after, agent_of}
use Rattle.lldp_engine.specs.Port.Past.{port_after}
use Rattle.lldp_engine.specs.Laws.Opening.{IsPortOf, OpensWith}
use Rattle.lldp_engine.proofs.laws.opening.agents_open_as_their_options_say.Goals as goal

by_option : (b c : Bool) (x y : Status) → b ≡ c → (if b then x else y) ≡ (if c then x else y)
by_option b c x y e = ap (λ d. if d then x else y) e

port_of : (o : CodeOptions) (name : List ℕ) → IsPortOf o (port_after (options_of o) [] name)
unfolding port_after machine_of
port_of o name = record {
  both = by_option o.receive_only false RxOnly RxAndTx;
  receives = by_option o.receive_only true RxOnly RxAndTx;
  credit_max = refl;
  fast_init = refl;
  reinit = refl;
}

ports_of : (o : CodeOptions) (i : ℕ) (names : List (List ℕ)) → AllByRecursion (IsPortOf o) (ports_after (options_of o) [] i names)
ports_of o i [] = tt
ports_of o i (name ∷ names) = (port_of o name, ports_of o (i + 1) names)

names_are : (o : Options) (i : ℕ) (names : List (List ℕ)) → map (λ port. port.name) (ports_after o [] i names) ≡ names
unfolding port_after
names_are o i [] = refl
names_are o i (name ∷ names) = ap (λ rest. name ∷ rest) (names_are o (i + 1) names)

opens_with : (o : CodeOptions) → OpensWith o (agent_of (opened (options_of o)))
unfolding agent_of
opens_with o = record {
  configuration = record {
    mac = refl;
    role = refl;
    management = refl;
    credit_max = refl;
    fast_init = refl;
    reinit = refl;
    capacity = refl;
    hostname = refl;
    description = refl;
    interval = refl;
    hold = refl;
    limit = refl;
  };
  names = names_are (options_of o) 0 (options_of o).names;
  ports = ports_of o 0 (options_of o).names;
}

pub returns : goal.returns
returns c = opens_with
