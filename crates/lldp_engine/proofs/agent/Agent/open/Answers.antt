use Rattle.std.proofs.Common.{◌≡◌, length, arith}
use Rattle.std.proofs.lemmas.List.{length-map}
use Rattle.lldp_engine.specs.Options.{options_of}
use Rattle.lldp_engine.proofs.Standing.Opened.{opened_stands}
use Rattle.lldp_engine.proofs.AllPorts.Sound.{opened_are_sound}
use Rattle.lldp_engine.proofs.agent.Agent.open.Goals as goal

pub returns-clause-opened : goal.returns-clause-opened
returns-clause-opened g c =
    let o = options_of c.args.options.now in
    opened_stands o _ c.requires c.open.ensures c.in_ok-ports.ensures

pub invariant_of-result : goal.invariant_of-result
invariant_of-result g c =
    let o = options_of c.args.options.now in
    let number : length o.names ≡ length c.args.options.now.ports.now = simp length-map in
    (rw c.open.ensures (opened_are_sound o _ c.requires c.in_ok-ports.ensures c.in_default.ensures.names (omega (arith, number, c.in_default.ensures.few))), λ some. absurd (omega (arith, some)))
