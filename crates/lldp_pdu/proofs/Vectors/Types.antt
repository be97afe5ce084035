-- The numbers of the TLV types.
use Rattle.std.proofs.Common.{◌≡◌, [], ◌∷◌, refl}
use Rattle.lldp_pdu.specs.TlvType.{end_of_lldpdu_type, chassis_id_type, port_id_type, time_to_live_type, port_description_type, system_name_type, system_description_type, system_capabilities_type, management_address_type, first_reserved_type, organizationally_specific_type}

mandatory : end_of_lldpdu_type ∷ chassis_id_type ∷ port_id_type ∷ time_to_live_type ∷ [] ≡ 0 ∷ 1 ∷ 2 ∷ 3 ∷ []
mandatory = refl

described : port_description_type ∷ system_name_type ∷ system_description_type ∷ system_capabilities_type ∷ [] ≡ 4 ∷ 5 ∷ 6 ∷ 7 ∷ []
described = refl

others : management_address_type ∷ first_reserved_type ∷ organizationally_specific_type ∷ [] ≡ 8 ∷ 9 ∷ 127 ∷ []
others = refl
