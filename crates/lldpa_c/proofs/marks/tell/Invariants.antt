use Rattle.std.proofs.Common.{◌≡◌, map, take, length}
use Rattle.lldpa_c.specs.Marks.{numbered}
use Rattle.lldpa_c.proofs.marks.tell.Given as goal

-- the frames so far are written
abbrev pub invariant-loop-i : goal.invariant-loop-i
invariant-loop-i l = (take l.i l.items ≡ map numbered (take l.i l.all)) × (length l.items ≡ 64)
