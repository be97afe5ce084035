-- An LLDPDU under construction.
use Rattle.std.specs.Prelude.{◌≡◌, ℕ, ◌+◌, ◌<◌, ◌≤◌, ◌^◌, Bool, true, false, not, ◌&&◌, ◌||◌, List, [], ◌∷◌, ◌++◌, length, Option, None, nat_lt, ◌==◌}
use Rattle.std.specs.List.{list_any}
use Rattle.std.specs.Int.{w16, to_be_bytes}
use Rattle.lldp_pdu.specs.declared.fault.BuildFault.{BuildFault}
use Rattle.lldp_pdu.specs.declared.fault.BuildFault.TheVariants.{Full, Kind, Body}
use Rattle.lldp_pdu.specs.Check.{Check, first_fault}
use Rattle.lldp_pdu.specs.Tlv.{TlvUnit, spelling, spellings}
use Rattle.lldp_pdu.specs.TlvType.{end_of_lldpdu_type, chassis_id_type, port_id_type, time_to_live_type, port_description_type, organizationally_specific_type}
use Rattle.lldp_pdu.specs.Range.{is_between, most_body, most_octets}
use Rattle.lldp_pdu.specs.WellFormed.{is_well_formed}
use Rattle.lldp_pdu.specs.Msap.{MsapId, IsIdentifier}
use Rattle.lldp_pdu.specs.Fault.{fault_of}
use Rattle.lldp_pdu.specs.Lldpdu.{msap_of, ttl_of}
use Rattle.lldp_pdu.specs.Kept.{is_single, count_unrecognized}
use Rattle.lldp_pdu.specs.Info.{LldpInfo, info_of}

-- a draft: the MSAP identifier and the TTL given to `begin`, and the TLVs added with `put`
pub record Draft : Type 0 where
  pub msap : MsapId
  pub ttl : ℕ
  pub tlvs : List TlvUnit

-- all TLVs of a draft, the mandatory ones first
abbrev pub all_tlvs : Draft → List TlvUnit
all_tlvs d =
    record { kind = chassis_id_type; body = d.msap.chassis }
    ∷ record { kind = port_id_type; body = d.msap.port }
    ∷ record { kind = time_to_live_type; body = to_be_bytes w16 d.ttl }
    ∷ d.tlvs

-- the End Of LLDPDU TLV (IEEE 802.1AB-2009, 8.5.1)
abbrev pub end_of_lldpdu : TlvUnit
end_of_lldpdu = record { kind = end_of_lldpdu_type; body = [] }

-- the octets of the finished LLDPDU
abbrev pub lldpdu_octets : Draft → List ℕ
lldpdu_octets d = spellings (all_tlvs d) ++ spelling end_of_lldpdu

-- the draft with one more TLV at the end
abbrev pub with_tlv : Draft → TlvUnit → Draft
with_tlv d u = record { msap = d.msap; ttl = d.ttl; tlvs = d.tlvs ++ u ∷ [] }

-- a TLV of this type is in the list
abbrev pub was_put : ℕ → List TlvUnit → Bool
was_put kind us = list_any (λ u. u.kind == kind) us

-- the checks that `put` makes on a TLV, in order
abbrev pub put_checks : Draft → TlvUnit → List (Check BuildFault)
put_checks d u =
    record {
      fails = not (is_between port_description_type u.kind organizationally_specific_type) || (d.ttl == 0)
          || (is_single u.kind && was_put u.kind d.tlvs);
      fault = Kind;
    }
    ∷ record { fails = nat_lt most_body (length u.body) || not (is_well_formed u); fault = Body }
    ∷ record { fails = nat_lt most_octets (length (lldpdu_octets (with_tlv d u))); fault = Full }
    ∷ []

-- the fault of the first check that fails, if any
unfoldable pub put_fault : Draft → TlvUnit → Option BuildFault
put_fault d u = first_fault (put_checks d u)

-- the TLV passes every check (the law `checked_tlvs_are_put`)
pub record CanPut (d : Draft) (u : TlvUnit) : Type 0 where
  pub least : port_description_type ≤ u.kind
  pub greatest : u.kind ≤ organizationally_specific_type
  pub lives : 0 < d.ttl
  pub new : (is_single u.kind && was_put u.kind d.tlvs) ≡ false
  pub short : length u.body ≤ most_body
  pub well_formed : is_well_formed u ≡ true
  pub room : length (spellings (all_tlvs d)) + length u.body + 4 ≤ most_octets

-- each of these TLVs can be put after those before it
abbrev pub CanPutEach : Draft → List TlvUnit → Type 0
CanPutEach d [] = Unit {0}
CanPutEach d (u ∷ us) = CanPut d u × CanPutEach (with_tlv d u) us

-- A builder can build the draft: identifiers and TTL are in range, and each TLV can be put in turn.
pub record CanBuild (d : Draft) : Type 0 where
  pub chassis : IsIdentifier d.msap.chassis
  pub port : IsIdentifier d.msap.port
  pub ttl : d.ttl < 2 ^ 16
  pub puts : CanPutEach (record { msap = d.msap; ttl = d.ttl; tlvs = [] }) d.tlvs

-- the contents of the finished LLDPDU
abbrev pub info_of_draft : Draft → LldpInfo
info_of_draft d =
    record {
      msap = d.msap;
      ttl = d.ttl;
      octets = spellings (all_tlvs d);
      kept = d.tlvs;
      discarded = 0;
      unrecognized = count_unrecognized d.tlvs;
    }

-- The LLDPDU is sound, and examining it returns the contents of the draft.
pub record IsReadBack (d : Draft) (lldpdu : List ℕ) : Type 0 where
  pub sound : fault_of lldpdu ≡ None
  pub msap : msap_of lldpdu ≡ d.msap
  pub ttl : ttl_of lldpdu ≡ d.ttl
  pub info : info_of lldpdu ≡ info_of_draft d
