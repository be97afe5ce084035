-- The System Capabilities TLV (IEEE 802.1AB-2009, 8.5.8).
use Rattle.std.specs.Prelude.{ℕ, ◌+◌, ◌*◌, ◌&&◌, List, length, Option, Some, None, ◌==◌, slice_index, bit_and, if◌then◌else◌}
use Rattle.lldp_pdu.specs.declared.fields.Caps.{Caps}

-- the available bits and the enabled bits, two octets each, most significant first
abbrev pub caps_fields : List ℕ → Caps
caps_fields body = record {
  available = 256 * slice_index body 0 + slice_index body 1;
  enabled = 256 * slice_index body 2 + slice_index body 3;
}

-- the fields, if the body has four octets and every enabled bit is available
abbrev pub caps_of : List ℕ → Option Caps
caps_of body =
    if (length body == 4)
    && (bit_and (caps_fields body).enabled (caps_fields body).available == (caps_fields body).enabled)
    then Some (caps_fields body) else None
