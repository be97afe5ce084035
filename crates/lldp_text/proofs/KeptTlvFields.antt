-- Properties of the bodies of kept TLVs.
use Rattle.std.proofs.Common.{◌≡◌, ℕ, ◌≤◌, Bool, true, cond, leb, eqb, List, length, Some, None, is_some, refl, arith}
use Rattle.std.proofs.lemmas.Bool.{and_parts, leb-true, eqb-true}
use Rattle.std.proofs.lemmas.List.{length-drop, length-take}
use Rattle.lldp_pdu.specs.Kept.{IsKeptTlv}
use Rattle.lldp_pdu.specs.WellFormed.{is_well_formed}
use Rattle.lldp_pdu.specs.Capabilities.{caps_of, caps_fields}
use Rattle.lldp_text.specs.KeptTlv.{HasAddress}
use Rattle.std.proofs.lemmas.Grind.{common_steps}

-- a description has at most 255 octets
pub description_short : (body : List ℕ) → IsKeptTlv (record { kind = 4; body = body }) → length body ≤ 255
unfolding is_well_formed
description_short body h = leb-true (length body) 255 h.well_formed

pub name_short : (body : List ℕ) → IsKeptTlv (record { kind = 5; body = body }) → length body ≤ 255
unfolding is_well_formed
name_short body h = leb-true (length body) 255 h.well_formed

pub system_short : (body : List ℕ) → IsKeptTlv (record { kind = 6; body = body }) → length body ≤ 255
unfolding is_well_formed
system_short body h = leb-true (length body) 255 h.well_formed

pub organizational_least : (body : List ℕ) → IsKeptTlv (record { kind = 127; body = body }) → 4 ≤ length body
unfolding is_well_formed
organizational_least body h = leb-true 4 (length body) h.well_formed

some_where : {A : Type 0} (b : Bool) (a : A) → is_some (cond b (Some a) None) ≡ true → b ≡ true
some_where b a h = grind (arith, common_steps)

pub capabilities_are : (body : List ℕ) → IsKeptTlv (record { kind = 7; body = body }) → caps_of body ≡ Some (caps_fields body)
unfolding is_well_formed
capabilities_are body h = rw (some_where _ (caps_fields body) h.well_formed) refl

pub address_is : (body : List ℕ) → IsKeptTlv (record { kind = 8; body = body }) → HasAddress body
unfolding is_well_formed
address_is body h = grind (arith, common_steps, leb, eqb, some_where, and_parts, leb-true, eqb-true, length-take, length-drop)
