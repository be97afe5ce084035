-- A TLV and its encoding (IEEE 802.1AB-2009, 8.4).
use Rattle.std.specs.Prelude.{◌≡◌, ℕ, ◌+◌, ◌*◌, ◌<◌, List, ◌++◌, length}
use Rattle.std.specs.List.{flat_map, AllByRecursion}
use Rattle.std.specs.Int.{w16, to_be_bytes}

-- a TLV: its type, and the octets of its body (the standard's information string)
pub record TlvUnit : Type 0 where
  pub kind : ℕ
  pub body : List ℕ

-- the type fits in 7 bits, and the length of the body in 9 bits
pub record IsTlv (u : TlvUnit) : Type 0 where
  pub kind : u.kind < 128
  pub body : length u.body < 512

-- the octets of a TLV: 7 bits of type and 9 bits of length, most significant first, then the body
abbrev pub spelling : TlvUnit → List ℕ
spelling u = to_be_bytes w16 (512 * u.kind + length u.body) ++ u.body

-- the encodings of some TLVs, joined
abbrev pub spellings : List TlvUnit → List ℕ
spellings us = flat_map spelling us

-- the octets begin with a complete TLV
abbrev pub BeginsTlv : List ℕ → Type 0
BeginsTlv octets = (u : TlvUnit) × (others : List ℕ) × IsTlv u × (octets ≡ spelling u ++ others)

-- each number is below 256
abbrev pub AreOctets : List ℕ → Type 0
AreOctets octets = AllByRecursion (λ octet. octet < 256) octets
