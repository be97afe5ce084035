use Rattle.std.proofs.Common.{◌≡◌, ap, length, refl, rules}
use Rattle.lldp_program.specs.Trace.Items.{items_of_lines}
use Rattle.lldp_program.proofs.Lines.Pieces.{no_last_line}
use Rattle.lldp_program.proofs.Runs.Joined.{nothing_runs}
use Rattle.lldp_program.proofs.trace.Run.rest.Goals as goal

pub returns-then-is_empty : goal.returns-then-is_empty
returns-then-is_empty g c =
    let empty : length c.args.rest.now ≡ 0 = search rules in
    record { agent = refl; items_run = nothing_runs _ _ _ tt (λ past. ap (items_of_lines past) (no_last_line c.args.rest.now empty)) }
