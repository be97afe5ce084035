use Rattle.lldp_engine.proofs.Frames.Past.{frame_reads}
use Rattle.lldp_engine.proofs.agent.Agent.write_frame.Goals as goal

pub returns-clause-past : goal.returns-clause-past
returns-clause-past g c = λ past h name named.
    frame_reads past c.args.self.now c.configuration.result.now _ c.port_name.result.now name _ c.args.mark h c.configuration.ensures.value (c.port_name.ensures.past past h) named c.write_frame.ensures.octets
