-- The TLV types of the basic set (IEEE 802.1AB-2009, table 8-1).
use Rattle.std.specs.Prelude.{ℕ}

abbrev pub end_of_lldpdu_type : ℕ
end_of_lldpdu_type = 0

abbrev pub chassis_id_type : ℕ
chassis_id_type = 1

abbrev pub port_id_type : ℕ
port_id_type = 2

abbrev pub time_to_live_type : ℕ
time_to_live_type = 3

abbrev pub port_description_type : ℕ
port_description_type = 4

abbrev pub system_name_type : ℕ
system_name_type = 5

abbrev pub system_description_type : ℕ
system_description_type = 6

abbrev pub system_capabilities_type : ℕ
system_capabilities_type = 7

abbrev pub management_address_type : ℕ
management_address_type = 8

-- the first of the reserved types, 9 to 126
abbrev pub first_reserved_type : ℕ
first_reserved_type = 9

abbrev pub organizationally_specific_type : ℕ
organizationally_specific_type = 127
