-- Ranges of numbers, and the most octets of an LLDPDU and of its parts. A law ties the constants of the code to these.
use Rattle.std.specs.Prelude.{ℕ, Bool, ◌&&◌, nat_le}

-- least ≤ n ≤ greatest
abbrev pub is_between : ℕ → ℕ → ℕ → Bool
is_between least n greatest = nat_le least n && nat_le n greatest

-- the most octets of an LLDPDU
abbrev pub most_octets : ℕ
most_octets = 1500

-- the most octets of a TLV's body
abbrev pub most_body : ℕ
most_body = 511

-- the most octets of the body of a Chassis ID or a Port ID
abbrev pub most_identifier : ℕ
most_identifier = 256

-- the most octets of a text: a description or a name
abbrev pub most_text : ℕ
most_text = 255

-- the most octets of a management address
abbrev pub most_address : ℕ
most_address = 31

-- the most octets of the OID of a management address
abbrev pub most_oid : ℕ
most_oid = 128
