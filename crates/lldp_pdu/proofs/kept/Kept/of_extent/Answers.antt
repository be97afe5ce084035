use Rattle.std.proofs.Common.{◌≡◌, ℕ, ◌+◌, ◌*◌, ◌≤◌, List, length, drop, ◌∙◌, sym, subst, arith}
use Rattle.std.proofs.lemmas.List.{drop-drop}
use Rattle.lldp_pdu.specs.Tlv.{AreOctets}
use Rattle.lldp_pdu.specs.Cut.{cut}
use Rattle.lldp_pdu.specs.Lldpdu.{extent, later_tlvs}
use Rattle.lldp_pdu.specs.Kept.{kept_of}
use Rattle.lldp_pdu.specs.Info.{IsInfo, info_of}
use Rattle.lldp_pdu.proofs.Keeping.{kept_seen-none}
use Rattle.lldp_pdu.proofs.Cuts.{AreOctets-from_index}
use Rattle.lldp_pdu.proofs.Telling.{cut_extent, kept_tlvs_of, tells_itself}
use Rattle.lldp_pdu.proofs.kept.Kept.of_extent.Goals as goal
use Rattle.std.proofs.lemmas.Grind.{common_steps}

-- the later TLVs are all those after the first three, since an extent has no End Of LLDPDU
later : (octets : List ℕ) → AreOctets octets → extent octets ≡ octets → drop 1 (drop 1 (drop 1 (cut octets).tlvs)) ≡ later_tlvs octets
unfolding later_tlvs
later octets fits whole = grind (arith, common_steps, drop-drop, cut_extent, fits)

fits : (c : goal.After-of) → AreOctets c.args.octets.now
fits c = AreOctets-from_index c.args.octets.now (λ i. omega (arith, c.type_inv.octets i))

told : (c : goal.After-of) → IsInfo (info_of c.args.octets.now)
told c = (tells_itself c.args.octets.now (fits c) c.requires.sound c.requires.lives).0

pub returns-clause-value : goal.returns-clause-value
returns-clause-value c =
    rw (c.of.ensures, c.behind_first-3.ensures, c.behind_first-2.ensures, c.behind_first.ensures, later _ (fits c) c.requires.whole)
    (kept_seen-none _ ∙ sym (kept_tlvs_of _))

pub returns-clause-each : goal.returns-clause-each
returns-clause-each c = (told c).kept

pub returns-clause-few : goal.returns-clause-few
returns-clause-few c = subst (λ (os : List ℕ). 12 + 2 * length (kept_of c.args.octets.now) ≤ length os) c.requires.whole (told c).few
