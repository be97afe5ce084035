use Rattle.std.proofs.Common.{◌≡◌, ℕ, zero, suc, ◌+◌, ◌<◌, List, [], ◌∷◌, ◌++◌, length, map, take, drop, replicate, set, refl, sym, ap, ◌∙◌, arith, Some}
use Rattle.std.specs.Prelude.{slice_get}
use Rattle.std.specs.Option.{option_map}
use Rattle.std.proofs.lemmas.Grind.{take-set_at}
use Rattle.std.proofs.lemmas.List.{length-set, drop-set-lt, drop-drop}
use Rattle.lldp_engine.specs.declared.port.status.Status.{Status}
use Rattle.lldp_engine.specs.AgentState.{PortState}
use Rattle.lldpa_c.specs.Settings.{status_number}
use Rattle.lldpa_c.proofs.settings.statuses.Goals as goal

abbrev numbers : List PortState → List ℕ
numbers ports = map (λ (port : PortState). status_number port.status) ports

next_told : (ports : List PortState) (i : ℕ) (s : Status) → option_map (λ (p : PortState). p.status) (slice_get ports i) ≡ Some s
    → numbers (take (suc i) ports) ≡ numbers (take i ports) ++ status_number s ∷ []
next_told [] i s h = absurd cc
next_told (p ∷ ports) zero s h =
    let same : p.status ≡ s = cc in
    ap (λ (x : Status). status_number x ∷ []) same
next_told (p ∷ ports) (suc i) s h = ap (λ (xs : List ℕ). status_number p.status ∷ xs) (next_told ports i s h)

one_more : (items : List ℕ) (ports : List PortState) (i n : ℕ) (s : Status) → i < length items → n ≡ status_number s
    → option_map (λ (p : PortState). p.status) (slice_get ports i) ≡ Some s → take i items ≡ numbers (take i ports) → take (i + 1) (set items i n) ≡ numbers (take (i + 1) ports)
one_more items ports i n s lt e h told =
    let more : i + 1 ≡ suc i = omega arith in
    take-set_at items i (i + 1) n refl lt ∙ ap (λ (xs : List ℕ). xs ++ n ∷ []) told ∙ ap (λ (m : ℕ). numbers (take i ports) ++ m ∷ []) e ∙ sym (next_told ports i s h)
    ∙ ap (λ (m : ℕ). numbers (take m ports)) (sym more)

-- after element i is written, the elements after it are still 0
others_stay : (items : List ℕ) (i n : ℕ) → drop i items ≡ drop i (replicate 64 0) → drop (i + 1) (set items i n) ≡ drop (i + 1) (replicate 64 0)
others_stay items i n behind =
    drop-set-lt (i + 1) items i n (omega arith) ∙ sym (drop-drop 1 i items) ∙ ap (drop 1) behind ∙ drop-drop 1 i (replicate 64 0)

pub loop-port-preserved : goal.loop-port-preserved
loop-port-preserved c =
    let l = c.loop-port in
    record {
      told = one_more l.statuses c.args.agent.now.ports l.port c.status_number.result c.status.result (omega (arith, l.invariant.room, c.loop-port-test.true, c.ports-port-end.ensures.few)) c.status_number.ensures c.status.ensures.value l.invariant.told;
      others = others_stay l.statuses l.port _ l.invariant.others;
      room = length-set l.statuses l.port _ ∙ l.invariant.room;
    }
