-- Texts of TLVs and escaped texts, as `show neighbors` writes them.
use Rattle.std.specs.Prelude.{ℕ, ◌&&◌, ◌==◌, not, nat_le, nat_lt, Bool, List, [], ◌∷◌, ◌++◌, length, codes, Option, Some, None, is_none, if◌then◌else◌}
use Rattle.lldp_pdu.specs.Check.{Check}
use Rattle.lldp_pdu.specs.Range.{is_between, most_body}
use Rattle.lldp_pdu.specs.WellFormed.{is_well_formed}
use Rattle.lldp_text.specs.Identifier.{chassis_text, port_text}
use Rattle.lldp_text.specs.KeptTlv.{tlv_text}
use Rattle.lldp_text.specs.Text.{escaped}
use Rattle.lldpa_c.specs.declared.answer.TheConstants.{OUT_OF_RANGE, NO_ROOM}
use Rattle.lldpa_c.specs.Answer.{is_over}

-- A TLV can be written if its type is 1 to 127 but not 3 (Time To Live), and its body is well
-- formed for the type and has at most 511 octets.
abbrev pub may_write : ℕ → List ℕ → Bool
may_write kind body =
    is_between 1 kind 127 && not (kind == 3) && nat_le (length body) most_body && is_well_formed (record { kind = kind; body = body })

-- the text of a TLV in a line of `show neighbors`, without the prefix `lldp.PORT.N.`
abbrev pub value_of : ℕ → List ℕ → List ℕ
value_of kind body =
    if kind == 1 then codes "chassis." ++ chassis_text body
    else if kind == 2 then codes "port." ++ port_text body
    else tlv_text (record { kind = kind; body = body })

-- the text of a TLV, if the TLV can be written
abbrev pub tlv_value : ℕ → List ℕ → Option (List ℕ)
tlv_value kind body = if may_write kind body then Some (value_of kind body) else None

-- A TLV is not written if `may_write` is false, or if its text does not fit in this many octets.
abbrev pub value_checks : ℕ → List ℕ → ℕ → List (Check ℕ)
value_checks kind body room =
    record { fails = is_none (tlv_value kind body); fault = OUT_OF_RANGE }
    ∷ record { fails = is_over room (tlv_value kind body); fault = NO_ROOM }
    ∷ []

-- A text is not escaped if it is over 511 octets, or if the result does not fit in this buffer.
abbrev pub escape_checks : List ℕ → ℕ → List (Check ℕ)
escape_checks text room =
    record { fails = nat_lt most_body (length text); fault = OUT_OF_RANGE }
    ∷ record { fails = is_over room (Some (escaped text)); fault = NO_ROOM }
    ∷ []
