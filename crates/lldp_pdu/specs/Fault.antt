-- The checks that every sound LLDPDU passes (IEEE 802.1AB-2009, 8.2 and 9.2.7.7).
use Rattle.std.specs.Prelude.{ℕ, Bool, not, ◌&&◌, List, [], ◌∷◌, length, Option, nat_le, nat_lt, ◌==◌}
use Rattle.std.specs.List.{list_any}
use Rattle.lldp_pdu.specs.declared.fault.PduFault.{PduFault}
use Rattle.lldp_pdu.specs.declared.fault.PduFault.TheVariants.{Truncated, NoChassis, ChassisLength, NoPort, PortLength, NoTtl, TtlLength, Repeated}
use Rattle.lldp_pdu.specs.Check.{Check, first_fault}
use Rattle.lldp_pdu.specs.Range.{is_between, most_identifier}
use Rattle.lldp_pdu.specs.Tlv.{TlvUnit}
use Rattle.lldp_pdu.specs.TlvType.{chassis_id_type, port_id_type, time_to_live_type}
use Rattle.lldp_pdu.specs.Cut.{cut}
use Rattle.lldp_pdu.specs.Lldpdu.{tlv_at, ttl_of, later_tlvs}

-- the TLV is a Chassis ID, a Port ID or a Time To Live
abbrev pub is_mandatory : TlvUnit → Bool
is_mandatory u = is_between chassis_id_type u.kind time_to_live_type

-- the checks in order, given the TLVs of the cut, the TTL, and the TLVs after the mandatory ones
abbrev pub checks : List TlvUnit → ℕ → List TlvUnit → List (Check PduFault)
checks us ttl later =
    record { fails = nat_le (length us) 0; fault = Truncated }
    ∷ record { fails = not ((tlv_at us 0).kind == chassis_id_type); fault = NoChassis }
    ∷ record { fails = not (is_between 2 (length (tlv_at us 0).body) most_identifier); fault = ChassisLength }
    ∷ record { fails = nat_le (length us) 1; fault = Truncated }
    ∷ record { fails = not ((tlv_at us 1).kind == port_id_type); fault = NoPort }
    ∷ record { fails = not (is_between 2 (length (tlv_at us 1).body) most_identifier); fault = PortLength }
    ∷ record { fails = nat_le (length us) 2; fault = Truncated }
    ∷ record { fails = not ((tlv_at us 2).kind == time_to_live_type); fault = NoTtl }
    ∷ record { fails = nat_lt (length (tlv_at us 2).body) 2; fault = TtlLength }
    ∷ record { fails = nat_lt 0 ttl && list_any is_mandatory later; fault = Repeated }
    ∷ []

-- The fault of the first check that fails. An LLDPDU without a fault is sound.
unfoldable pub fault_of : List ℕ → Option PduFault
fault_of octets = first_fault (checks (cut octets).tlvs (ttl_of octets) (later_tlvs octets))
