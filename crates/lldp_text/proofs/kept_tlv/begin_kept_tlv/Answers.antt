use Rattle.std.proofs.Common.{◌≡◌, ℕ, List, arith, refl, ap, sym, subst, ◌∙◌, ◌++◌}
use Rattle.lldp_pdu.specs.Tlv.{TlvUnit}
use Rattle.lldp_pdu.specs.Kept.{IsKeptTlv}
use Rattle.lldp_text.specs.KeptTlv.{tlv_text}
use Rattle.lldp_text.proofs.KeptTlvFields.{description_short, name_short, system_short, organizational_least, capabilities_are, address_is}
use Rattle.lldp_text.proofs.TextJoined.{nothing_more}
use Rattle.lldp_text.proofs.kept_tlv.begin_kept_tlv.Goals as goal
use Rattle.std.proofs.lemmas.Grind.{common_steps}

abbrev unit : List ℕ → ℕ → TlvUnit
unit body kind = record { kind = kind; body = body }

at_kind : (body : List ℕ) (k n : ℕ) → k ≡ n → IsKeptTlv (unit body k) → IsKeptTlv (unit body n)
at_kind body k n e h = subst (λ (i : ℕ). IsKeptTlv (unit body i)) e h

written : (body old new value : List ℕ) (k n : ℕ) → k ≡ n → new ≡ old ++ value → tlv_text (unit body n) ≡ value → new ≡ old ++ tlv_text (unit body k)
written body old new value k n e a t = a ∙ ap (λ v. old ++ v) (sym t ∙ ap (λ (i : ℕ). tlv_text (unit body i)) (sym e))

pub write_system_capabilities-requires-clause-well_formed : goal.write_system_capabilities-requires-clause-well_formed
write_system_capabilities-requires-clause-well_formed g c = capabilities_are c.args.tlv.body.now (at_kind _ _ 7 c.in-7.is c.requires.kept)

pub begin_management-requires-clause-well_formed : goal.begin_management-requires-clause-well_formed
begin_management-requires-clause-well_formed g c = address_is c.args.tlv.body.now (at_kind _ _ 8 c.in-8.is c.requires.kept)

pub begin_organizational-requires-clause-least : goal.begin_organizational-requires-clause-least
begin_organizational-requires-clause-least g c = organizational_least c.args.tlv.body.now (at_kind _ _ 127 c.in-127.is c.requires.kept)

pub returns-in-4-clause-whole : goal.returns-in-4-clause-whole
returns-in-4-clause-whole g c = grind (arith, common_steps, description_short, at_kind)

pub returns-in-5-clause-value : goal.returns-in-5-clause-value
returns-in-5-clause-value g c = written c.args.tlv.body.now _ _ _ _ 5 c.in-5.is c.begin_text-in-5.ensures.value refl

pub returns-in-5-clause-whole : goal.returns-in-5-clause-whole
returns-in-5-clause-whole g c = grind (arith, common_steps, name_short, at_kind)

pub returns-in-6-clause-whole : goal.returns-in-6-clause-whole
returns-in-6-clause-whole g c = grind (arith, common_steps, system_short, at_kind)

pub returns-in-7-clause-value : goal.returns-in-7-clause-value
returns-in-7-clause-value g c =
    written c.args.tlv.body.now _ _ _ _ 7 c.in-7.is (nothing_more _ ∙ c.write_system_capabilities.ensures.value) refl
