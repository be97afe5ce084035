use Rattle.std.proofs.Common.{◌≡◌, ℕ, ◌-◌, ◌<◌, List, ◌∷◌, length, sym, ap, ◌∙◌, arith}
use Rattle.lldp_pdu.specs.Tlv.{TlvUnit}
use Rattle.lldp_pdu.specs.Code.Seen.{kept_seen}
use Rattle.lldp_pdu.proofs.Cuts.{AreOctets-from_index}
use Rattle.lldpa_c.specs.Walk.{GivesKept}
use Rattle.lldpa_c.proofs.Walking.{gives_within, from_place, begins_whole}
use Rattle.lldpa_c.proofs.kept.lldpa_next_kept.Goals as goal

pub returns-in_default-clause-begun : goal.returns-in_default-clause-begun
returns-in_default-clause-begun c e n m = begins_whole _ c.args.walk.now (AreOctets-from_index _ (λ i. omega (arith, c.type_inv.extent i))) e n m

pub returns-clause-begun : goal.returns-clause-begun
returns-clause-begun c e n m = begins_whole _ c.args.walk.now (AreOctets-from_index _ (λ i. omega (arith, c.type_inv.extent i))) e n m

pub returns-clause-given : goal.returns-clause-given
returns-clause-given c =
    let octets = c.args.extent.now in
    let body = c.in-Some.found.tlv.body.now in
    let others = c.in-Some.found.rest.now in
    let met = c.in-Some.found.seen.types in
    let g : GivesKept octets body others = gives_within octets _ body others c.rest_from-rest.ensures.place c.in-Some.ensures.place in
    let some : 0 < length octets - length others = omega (arith, g.within) in
    let left = from_place octets others (length octets - length others) some g.behind in
    record {
      given = λ _.
          ap (kept_seen c.args.walk.now.met) (sym c.rest_from-rest.ensures.tlvs)
          ∙ c.in-Some.ensures.some
          ∙ ap (λ (x : List ℕ × List TlvUnit). record { kind = c.in-Some.found.tlv.kind; body = x.0 } ∷ kept_seen met x.1) (pair (sym g.held) (sym left));
      within = λ _. omega (arith, g.within);
      ended = λ no. absurd cc;
      kept = λ no. absurd cc;
    }
  where
    pair : {a b : List ℕ} {us vs : List TlvUnit} → a ≡ b → us ≡ vs → ◌≡◌ {A = List ℕ × List TlvUnit} (a, us) (b, vs)
    pair p q = cc
