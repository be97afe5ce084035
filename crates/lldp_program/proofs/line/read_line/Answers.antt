use Rattle.lldp_program.proofs.line.read_line.Goals as goal

pub returns-then-eq-clause-allowed : goal.returns-then-eq-clause-allowed
returns-then-eq-clause-allowed c = c.read_tick.ensures.allowed c.args.agent.now
