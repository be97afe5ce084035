-- Examining a frame returns the content that it was built from.
use Rattle.std.proofs.Common.{◌≡◌, ℕ, List, ◌++◌, length, refl, ap, ◌∙◌, append_assoc}
use Rattle.lldp_pdu.specs.Frame.{nearest_bridge, lldp_ethertype, lldpdu_of}
use Rattle.lldp_pdu.specs.Info.{LldpInfo}
use Rattle.lldp_pdu.specs.Tlv.{spelling, spellings}
use Rattle.lldp_pdu.specs.Draft.{Draft, CanBuild, IsReadBack, all_tlvs, end_of_lldpdu, lldpdu_octets}
use Rattle.lldp_pdu.proofs.Framing.{has_lldpdu}
use Rattle.lldp_pdu.proofs.Drafts.{built, built_short, finished}
use Rattle.lldp_engine.specs.Frames.{SaysBack}

-- A frame is its Ethernet header, its TLVs and the End Of LLDPDU TLV, in this order.
pub framed : (draft : Draft) (source head tlvs octets : List ℕ) → head ≡ nearest_bridge ++ source ++ lldp_ethertype → tlvs ≡ head ++ spellings (all_tlvs draft) → octets ≡ tlvs ++ spelling end_of_lldpdu
    → octets ≡ nearest_bridge ++ source ++ lldp_ethertype ++ lldpdu_octets draft
framed draft source head tlvs octets h t e =
    let all = spellings (all_tlvs draft) in
    let end = spelling end_of_lldpdu in
    e ∙ ap (λ (x : List ℕ). x ++ end) (t ∙ ap (λ (x : List ℕ). x ++ all) h)
    ∙ append_assoc (nearest_bridge ++ source ++ lldp_ethertype) all end

pub says_back : (draft : Draft) (source octets : List ℕ) → CanBuild draft → length source ≡ 6 → octets ≡ nearest_bridge ++ source ++ lldp_ethertype ++ lldpdu_octets draft → SaysBack draft octets
says_back draft source octets can six framed =
    let told : IsReadBack draft (lldpdu_octets draft) = finished draft (lldpdu_octets draft) (built draft can).0 refl in
    record {
      lldpdu = lldpdu_octets draft;
      has = ap lldpdu_of framed ∙ has_lldpdu source (lldpdu_octets draft) six (built_short draft can);
      sound = told.sound;
      msap = told.msap;
      ttl = told.ttl;
      kept = ap (λ (info : LldpInfo). info.kept) told.info;
      none_discarded = ap (λ (info : LldpInfo). info.discarded) told.info;
    }
