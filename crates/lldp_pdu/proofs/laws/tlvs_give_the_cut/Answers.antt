use Rattle.std.proofs.Common.{◌≡◌, ℕ, List, [], ◌∷◌, map, None, sym, ap, ◌∙◌}
use Rattle.std.specs.Iterator.{YieldsThen}
use Rattle.lldp_pdu.specs.declared.tlv.Tlv.{Tlv}
use Rattle.lldp_pdu.specs.Tlv.{TlvUnit}
use Rattle.lldp_pdu.specs.Cut.{Cut, cut}
use Rattle.lldp_pdu.specs.View.{tlv_view, GivesFirstTlv}
use Rattle.lldp_pdu.proofs.laws.tlvs_give_the_cut.Goals as goal

tlvs : (octets left : List ℕ) (given : List Tlv) → YieldsThen GivesFirstTlv octets given None left → map tlv_view given ≡ (cut octets).tlvs
tlvs octets left [] y = sym (ap (λ (c : Cut). c.tlvs) (ap cut y.1 ∙ y.2.0))
tlvs octets left (t ∷ given) y = ap (λ (us : List TlvUnit). tlv_view t ∷ us) (tlvs y.1.0 left given (y.0, y.1.2, y.2)) ∙ sym (ap (λ (c : Cut). c.tlvs) y.1.1.0)

rest : (octets left : List ℕ) (given : List Tlv) → YieldsThen GivesFirstTlv octets given None left → left ≡ (cut octets).rest
rest octets left [] y = y.2.1 ∙ sym (ap (λ (c : Cut). c.rest) (ap cut y.1 ∙ y.2.0))
rest octets left (t ∷ given) y = rest y.1.0 left given (y.0, y.1.2, y.2) ∙ sym (ap (λ (c : Cut). c.rest) y.1.1.0)

pub returns-clause-tlvs : goal.returns-clause-tlvs
returns-clause-tlvs c = tlvs

pub returns-clause-rest : goal.returns-clause-rest
returns-clause-rest c = rest
