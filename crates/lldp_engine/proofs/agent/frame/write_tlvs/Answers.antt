use Rattle.std.proofs.Common.{◌≡◌, rules}
use Rattle.lldp_transmit.specs.declared.event.Mark.TheVariants.{Ordinary}
use Rattle.lldp_engine.proofs.Frames.Puts.{can_tell}
use Rattle.lldp_engine.proofs.agent.frame.write_tlvs.Goals as goal

pub returns-in-Ordinary-clause-can : goal.returns-in-Ordinary-clause-can
returns-in-Ordinary-clause-can c =
    let at : c.args.mark ≡ Ordinary = search rules in
    rw at (can_tell c.args.configuration.now c.args.name.now c.requires.some c.requires.short c.write_mandatory.ensures.mac c.write_optional.ensures.short)
