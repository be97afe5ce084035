use Rattle.std.proofs.Common.{◌≡◌, drop, map}
use Rattle.lldp_engine.specs.Place.{place_from}
use Rattle.lldp_engine.proofs.agent.ports.find_place.Given as goal

abbrev pub invariant-loop-i : goal.invariant-loop-i
invariant-loop-i g l = place_from l.i (map (λ p. p.name) (drop l.i l.ports)) l.name ≡ place_from 0 (map (λ p. p.name) l.ports) l.name
