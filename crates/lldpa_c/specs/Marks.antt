-- The frames to send, in the struct for C.
use Rattle.std.specs.Prelude.{◌≡◌, ℕ, List, length, map, take}
use Rattle.lldp_transmit.specs.declared.event.Mark.{Mark}
use Rattle.lldpa_c.specs.declared.marks.LldpaMark.{LldpaMark}
use Rattle.lldpa_c.specs.declared.marks.LldpaMarks.{LldpaMarks}
use Rattle.lldpa_c.specs.Machine.{mark_number}

-- a port and the number of its mark
abbrev pub numbered : ℕ × Mark → LldpaMark
numbered x = record { port = x.0; mark = mark_number x.1 }

-- The frames to send are the first `count` items of the struct.
pub record TellsMarks (sent : List (ℕ × Mark)) (told : LldpaMarks) : Type 0 where
  pub count : told.count ≡ length sent
  pub items : take told.count told.items ≡ map numbered sent
