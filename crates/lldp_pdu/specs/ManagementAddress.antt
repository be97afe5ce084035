-- The Management Address TLV (IEEE 802.1AB-2009, 8.5.9).
use Rattle.std.specs.Prelude.{◌≡◌, ℕ, ◌+◌, ◌-◌, ◌<◌, ◌≤◌, ◌^◌, ◌&&◌, List, ◌∷◌, ◌++◌, length, take, drop, Option, Some, None, nat_le, ◌==◌, slice_index, if◌then◌else◌}
use Rattle.std.specs.Int.{w32, from_be_bytes, to_be_bytes}
use Rattle.lldp_pdu.specs.Range.{is_between, most_address, most_oid}

-- a management address: family, address, interface numbering subtype, interface number and OID
pub record Address : Type 0 where
  pub family : ℕ
  pub address : List ℕ
  pub numbering : ℕ
  pub interface : ℕ
  pub oid : List ℕ

-- ---- the encoding of a management address

-- in order: m, the number of octets of family and address together; the family; the address; the
-- interface numbering subtype; the interface number, four octets, most significant first; the
-- number of octets of the OID; the OID
abbrev pub address_spelling : Address → List ℕ
address_spelling a =
    (length a.address + 1) ∷ a.family ∷ a.address ++ a.numbering ∷ to_be_bytes w32 a.interface ++ length a.oid ∷ a.oid

-- The address has 1 to 31 octets, the interface number 32 bits, and the OID at most 128 octets.
pub record IsAddress (a : Address) : Type 0 where
  pub least : 1 ≤ length a.address
  pub greatest : length a.address ≤ most_address
  pub interface : a.interface < 2 ^ 32
  pub oid : length a.oid ≤ most_oid

-- the body encodes this address, which is in range
pub record IsSpelled (body : List ℕ) (a : Address) : Type 0 where
  pub address : IsAddress a
  pub octets : body ≡ address_spelling a

-- ---- the fields, decoded from the octets (see the law `management_addresses_are_spelled`)

-- the fields, if the family and the address have m octets together
abbrev pub address_fields : List ℕ → ℕ → Address
address_fields body m =
    record {
      family = slice_index body 1;
      address = take (m - 1) (drop 2 body);
      numbering = slice_index body (m + 1);
      interface = from_be_bytes w32 (take 4 (drop (m + 2) body));
      oid = drop (m + 7) body;
    }

-- The fields, if m is 2 to 32, o is at most 128, and the body has m + o + 7 octets.
abbrev pub address_of : List ℕ → Option Address
address_of body =
    let m = slice_index body 0 in
    let o = slice_index body (m + 6) in
    if is_between 2 m (most_address + 1) && nat_le o most_oid && (length body == m + o + 7)
    then Some (address_fields body m) else None
