-- The value after the key of a shown line.
use Rattle.std.specs.Prelude.{ℕ, ◌≤◌, List, ◌++◌, length, codes, decimal}
use Rattle.std.specs.Borrow.{Bor}
use Rattle.lldp_pdu.specs.Msap.{IsIdentifier}
use Rattle.lldp_pdu.specs.Kept.{IsKeptTlv}
use Rattle.lldp_pdu.specs.View.{tlv_view}
use Rattle.lldp_engine.specs.declared.show.line.Value.{Value}
use Rattle.lldp_engine.specs.declared.show.line.Value.TheVariants as value
use Rattle.lldp_text.specs.Addresses.{ipv4_text, mac_text}
use Rattle.lldp_text.specs.Identifier.{chassis_text, port_text}
use Rattle.lldp_text.specs.KeptTlv.{tlv_text}
use Rattle.lldp_pdu.specs.Range.{most_text}
use Rattle.lldp_text.specs.Text.{escaped}
use Rattle.lldp_pdu.specs.Tlv.{TlvUnit}

-- Returns the text of a value.
abbrev pub value_text : Value → List ℕ
value_text (value.Number n) = decimal n
value_text (value.Word text) = text.now
value_text (value.Text text) = escaped text.now
value_text (value.Mac octets) = mac_text octets.now
value_text (value.OwnAddress octets) = ipv4_text octets.now ++ codes ",1,0,"
value_text (value.Chassis id) = chassis_text id.now
value_text (value.Port id) = port_text id.now
value_text (value.Kept tlv) = tlv_text (tlv_view tlv)

-- Holds if the value fits in a line.
abbrev pub FitsLine : Value → Type 0
FitsLine (value.Word text) = length text.now ≤ most_text
FitsLine (value.Text text) = length text.now ≤ most_text
FitsLine (value.Chassis id) = IsIdentifier id.now
FitsLine (value.Port id) = IsIdentifier id.now
FitsLine (value.Kept tlv) = IsKeptTlv (tlv_view tlv)
FitsLine _ = Unit {0}

-- Returns a key and its number as plain data.
abbrev pub plain_number : Bor (List ℕ) × ℕ → List ℕ × ℕ
plain_number number = (number.0.now, number.1)

-- Returns the line of a number: its start, its key, and the number in decimal.
abbrev pub number_line : List ℕ → List ℕ × ℕ → List ℕ
number_line front number = front ++ (number.0 ++ decimal number.1)

-- Returns the line of a kept TLV: this key, and then the text of the TLV.
abbrev pub kept_line : List ℕ → TlvUnit → List ℕ
kept_line key tlv = key ++ tlv_text tlv
