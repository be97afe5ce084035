use Rattle.std.proofs.Common.{◌≡◌, ℕ, List, [], ◌++◌, ◌-◌, length, take, sym, ap, ◌∙◌, arith}
use Rattle.std.specs.Prelude.{codes, drop}
use Rattle.std.proofs.lemmas.List.{take_rest}
use Rattle.hex.specs.Hex.{encode_lower}
use Rattle.lldp_text.specs.Addresses.{mac_text}
use Rattle.lldp_text.specs.Identifier.{identifier_text}
use Rattle.lldp_text.specs.declared.identifier.IdentifierKind.{IdentifierKind}
use Rattle.lldp_text.specs.declared.identifier.IdentifierKind.TheVariants.{Mac}
use Rattle.lldp_text.proofs.TextJoined.{behind, nothing_more}
use Rattle.lldp_text.proofs.identifier.begin_identifier.Goals as goal
use Rattle.std.proofs.lemmas.Grind.{common_steps}

is_mac : (kind : IdentifierKind) (body : List ℕ) → kind ≡ Mac → length body ≡ 7 → identifier_text kind body ≡ codes "mac=" ++ mac_text (drop 1 body)
is_mac kind body k e = grind (arith, common_steps)

mac_whole : (kind : IdentifierKind) (body old mid new : List ℕ) → kind ≡ Mac → length body ≡ 7 → mid ≡ old ++ codes "mac="
    → new ≡ mid ++ mac_text (take (length body - 1) (drop 1 body)) → new ++ encode_lower [] ≡ old ++ identifier_text kind body
mac_whole kind body old mid new k e a b =
    nothing_more new ∙ behind old mid new (codes "mac=") _ _ a b (ap mac_text (take_rest body 1)) ∙ ap (λ x. old ++ x) (sym (is_mac kind body k e))

pub returns-then-identifier-eq6-clause-value : goal.returns-then-identifier-eq6-clause-value
returns-then-identifier-eq6-clause-value g c =
    mac_whole c.args.kind c.args.body.now _ _ _ c.in-Mac.is (omega arith) c.text.ensures c.write_mac.ensures.value
