use Rattle.std.proofs.Common.{◌≡◌, ℕ, ◌+◌, ◌<◌, ◌≤◌, Bool, true, false, eqb, List, [], ◌∷◌, length, map, drop, get_or, set, refl, sym, ap, ◌∙◌, arith}
use Rattle.std.proofs.lemmas.List.{drop_more, drop-map, get_or-drop, drop-drop, get_or-set_same, get_or-set_other, drop_all, drop-set-lt}
use Rattle.std.proofs.lemmas.Bool.{eqb-true, eqb-false}
use Rattle.lldp_pdu.specs.Tlv.{TlvUnit}
use Rattle.lldp_pdu.specs.Draft.{Draft, put_fault}
use Rattle.lldpa_c.specs.declared.build.LldpaTlv.{LldpaTlv}
use Rattle.lldpa_c.specs.Building.{tlv_of, fault_number, put_unless, put_all, put_faults}
use Rattle.lldpa_c.proofs.build.put_each.Goals as goal

-- the TLVs from index i on are TLV i, and the TLVs from index i + 1 on
units_more : (ts : List LldpaTlv) (i : ℕ) (d : LldpaTlv) → i < length ts → drop i (map tlv_of ts) ≡ tlv_of (get_or ts i d) ∷ drop (i + 1) (map tlv_of ts)
units_more ts i d h = drop-map tlv_of i ts ∙ ap (map tlv_of) (drop_more ts i d h) ∙ ap (λ (us : List TlvUnit). tlv_of (get_or ts i d) ∷ us) (sym (drop-map tlv_of (i + 1) ts))

-- if `xs` from index i on is x and ys, then element i is x, and `xs` from i + 1 on is ys
rest_tells : (xs ys : List ℕ) (i x : ℕ) → x ∷ ys ≡ drop i xs → (get_or xs i 0 ≡ x) × (drop (i + 1) xs ≡ ys)
rest_tells xs ys i x h = (
  ap (λ (n : ℕ). get_or xs n 0) (omega arith) ∙ sym (get_or-drop i xs 0 0) ∙ ap (λ (zs : List ℕ). get_or zs 0 0) (sym h),
  sym (drop-drop 1 i xs) ∙ ap (drop 1) (sym h),
)

record Step (d : Draft) (all : List TlvUnit) (i : ℕ) (b : Draft) (faults : List ℕ) : Type 0 where
  put : put_all b (drop i all) ≡ put_all d all
  left : put_faults b (drop i all) ≡ drop i (put_faults d all)
  told : (k : ℕ) → k < i → get_or faults k 0 ≡ get_or (put_faults d all) k 0

on : (d b b' : Draft) (all : List TlvUnit) (u : TlvUnit) (i f : ℕ) (faults : List ℕ) → i < length faults → drop i all ≡ u ∷ drop (i + 1) all
    → b' ≡ put_all b (u ∷ []) → f ≡ fault_number (put_fault b u) → Step d all i b faults → Step d all (i + 1) b' (set faults i f)
on d b b' all u i f faults within more is told s =
    let rest = drop (i + 1) all in
    let left : fault_number (put_fault b u) ∷ put_faults (put_unless (put_fault b u) b u) rest ≡ drop i (put_faults d all) =
    ap (put_faults b) (sym more) ∙ s.left in
    let tells = rest_tells (put_faults d all) _ i _ left in
    record {
      put = ap (λ (x : Draft). put_all x rest) is ∙ ap (put_all b) (sym more) ∙ s.put;
      left = ap (λ (x : Draft). put_faults x rest) is ∙ sym tells.1;
      told = λ k h. at k h (eqb k i) refl tells.0;
    }
  where
    at : (k : ℕ) → k < i + 1 → (same : Bool) → eqb k i ≡ same → get_or (put_faults d all) i 0 ≡ fault_number (put_fault b u) → get_or (set faults i f) k 0 ≡ get_or (put_faults d all) k 0
    at k h true e t =
        let same : k ≡ i = eqb-true k i e in
        ap (λ (n : ℕ). get_or (set faults i f) n 0) same ∙ get_or-set_same faults i f 0 within ∙ told ∙ sym t ∙ ap (λ (n : ℕ). get_or (put_faults d all) n 0) (sym same)
    at k h false e t = get_or-set_other faults i k f 0 (eqb-false k i e) ∙ s.told k (omega (arith, h, eqb-false k i e))

pub loop-i-init : goal.loop-i-init
loop-i-init c = (refl, refl, λ k h. absurd (omega (arith, h)), refl)

pub loop-i-preserved : goal.loop-i-preserved
loop-i-preserved c =
    let inv = c.loop-i.invariant in
    let within : c.loop-i.i < length c.loop-i.faults = omega (arith, c.loop-i-test.true, c.loop-i.auto.faults, c.requires) in
    let s : Step c.args.builder.now (map tlv_of c.args.tlvs.now) c.loop-i.i c.loop-i.builder c.loop-i.faults = record { put = inv.0; left = inv.1; told = inv.2 } in
    let n = on _ _ c.put_one.new.builder _ _ _ c.put_one.result _ within (units_more c.args.tlvs.now c.loop-i.i _ c.loop-i-test.true) c.put_one.ensures.put c.put_one.ensures.fault s in
    (n.put, n.left, n.told, drop-set-lt _ c.loop-i.faults c.loop-i.i _ c.loop-i-test.true ∙ inv.3)

at_end : (ts : List LldpaTlv) (i : ℕ) → length ts ≤ i → drop i (map tlv_of ts) ≡ []
at_end ts i h = drop-map tlv_of i ts ∙ ap (map tlv_of) (drop_all i ts h)

pub returns-clause-put : goal.returns-clause-put
returns-clause-put c =
    let inv = c.loop-i.invariant in
    ap (put_all c.loop-i.builder) (sym (at_end c.args.tlvs.now c.loop-i.i c.loop-i-test.false)) ∙ inv.0

pub returns-clause-faults : goal.returns-clause-faults
returns-clause-faults c k h = let inv = c.loop-i.invariant in inv.2 k (omega (arith, h, c.loop-i-test.false))
