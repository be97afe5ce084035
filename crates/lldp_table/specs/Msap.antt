-- When two MSAP identifiers identify the same neighbor.
use Rattle.std.specs.Prelude.{Bool, ◌&&◌}
use Rattle.std.specs.Str.{bytes_eq}
use Rattle.lldp_pdu.specs.Msap.{MsapId}

-- the same Chassis ID and the same Port ID, subtypes included
abbrev pub same_msap : MsapId → MsapId → Bool
same_msap a b = bytes_eq a.chassis b.chassis && bytes_eq a.port b.port
