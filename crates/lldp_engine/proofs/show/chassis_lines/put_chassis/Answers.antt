use Rattle.lldp_engine.proofs.Lines.Taken.{takes_line}
use Rattle.lldp_engine.proofs.show.chassis_lines.put_chassis.Goals as goal

pub returns : goal.returns
returns g c =
    rw (← c.c.view_is) (
    takes_line _ _ _ _ _ _ c.put_line.ensures (
    takes_line _ _ _ _ _ _ (rw c.as_slice.ensures.value at c.put_line-2.ensures) (
    takes_line _ _ _ _ _ _ (rw c.as_slice-2.ensures.value at c.put_line-3.ensures) (
    takes_line _ _ _ _ _ _ (rw c.text_of_role.ensures.value at c.put_line-4.ensures)
    c.put_management.ensures))))
