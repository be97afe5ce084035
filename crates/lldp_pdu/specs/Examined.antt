-- The result of examining a sound LLDPDU.
use Rattle.std.specs.Prelude.{◌≡◌, ℕ, ◌<◌, ◌≤◌, List, length}
use Rattle.lldp_pdu.specs.declared.examination.Examined.{Examined}
use Rattle.lldp_pdu.specs.declared.examination.Examined.TheVariants.{Shutdown, Info}
use Rattle.lldp_pdu.specs.Lldpdu.{ttl_of, msap_of}
use Rattle.lldp_pdu.specs.Info.{info_of}
use Rattle.lldp_pdu.specs.View.{msap_view}

-- the result is Shutdown with the MSAP identifier if the TTL is 0, and otherwise the contents
abbrev pub Answers : List ℕ → Examined → Type 0
Answers octets (Shutdown msap) = (ttl_of octets ≡ 0) × (msap_view msap ≡ msap_of octets)
Answers octets (Info info) = (0 < ttl_of octets) × (info ≡ info_of octets)

-- the extent of an Info is no longer than the octets that were examined
abbrev pub IsWithin : List ℕ → Examined → Type 0
IsWithin octets (Shutdown msap) = Unit {0}
IsWithin octets (Info info) = length info.octets ≤ length octets
