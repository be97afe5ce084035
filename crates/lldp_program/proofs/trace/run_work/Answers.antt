use Rattle.std.proofs.Common.{rules}
use Rattle.lldp_program.proofs.Runs.Joined.{nothing_runs, show_runs, fault_runs}
use Rattle.lldp_program.proofs.trace.run_work.Goals as goal

pub returns-in-Ok-Skip : goal.returns-in-Ok-Skip
returns-in-Ok-Skip g c = nothing_runs _ _ _ tt (λ past. search rules)

pub returns-in-Ok-Command-Show : goal.returns-in-Ok-Command-Show
returns-in-Ok-Command-Show g c = show_runs _ _ _ _ _ _ (search rules) c.write_show.ensures

pub returns-in-Err : goal.returns-in-Err
returns-in-Err g c = fault_runs _ c.in-Err.fault _ _ _ _ _ (search rules) c.text.ensures.text c.write_line.ensures
