-- The value that `closed` returns owns nothing through its pointer.
use Rattle.lldpa_c.proofs.ByHand.{refl, sym, subst, false, List, [], ◌∷◌, ◌++◌, Ura, T, Val, has_ty, WT, vstruct, vcons, vnil, SProp, ent, emp, id⊢, ftrue, Memory, Routine, WpFn, Tables, Logic, Fun, tables, tables_of, WpFn-mono, Item, ‵, raw, ◌⊛◌, ◌$◌, ◌∵◌, !, qed, by, move, drop, use1, join, split, fsplit, fjoin, fpack, feq_l, feq_i, suffices, done, agg, no_more, and_then, returns, enter, alloc_all, pass_all, free_all, look_at, get, sets, yes, owns, Valss, Ptr, RawPtr, block_ptr, null_ptr, ptr_val, type_at, plain, nothing, triple_of, entered, says, Stays, stay_dropped, walk_of, ends_at, Goes-dropped, walk_Meets, handle_tells, Fits, α, box_ty, box_typed}
use denote.Memory.{lone}
use denote.Struct.Struct.{within}
use denote.Struct.Owning.{shape}
use Rattle.std.proofs.Common.{Fits-lit}
use Rattle.std_alloc.proofs.ResultValues.{and_tt}
use Rattle.std_heap.specs.contracts.Global as Heap
use Rattle.lldpa_c.proofs.AsBox.{E}
use Rattle.std.proofs.Common.{None}
use Rattle.lldp_engine.specs.AgentState.{AgentState}
use Rattle.lldp_engine.specs.declared.agent.options.Role.TheVariants.{Station}
use Rattle.lldpa_c.specs.contracts.handle.Held as Held
use Rattle.lldpa_c.specs.contracts.handle.Held.closed as F
use Rattle.lldpa_c.specs.contracts.handle.Held.closed.Key.{name as #self}
use Rattle.lldpa_c.proofs.handle.Held.closed.Statement as stated
use Rattle.lldpa_c.proofs.handle.Held.closed.Code as code

abbrev Ptrs : denote.Signature.Slot 0
Ptrs = plain (λ _. RawPtr)

abbrev Heaps : denote.Signature.Slot 0
Heaps = plain (λ _. Heap.the_row)

abbrev stayed : Stays (F.ended).signature.params (F.ended).kept
stayed = (stay_dropped Ptrs yes, (stay_dropped Heaps yes, tt))

-- a placeholder for the agent that a closed handle does not have
abbrev nobody : AgentState
nobody = record {
  configuration = record { mac = []; role = Station; management = None; credit_max = 0; fast_init = 0; reinit = 0; capacity = 0; hostname = []; description = []; interval = 0; hold = 0; limit = 0 };
  ports = [];
}

abbrev two : Val → Val → Val
two v w = vstruct (vcons v (vcons w vnil))

ptr_typed : (p : Ptr) → T (has_ty (lone RawPtr.mir) (ptr_val p)) × WT (ptr_val p)
ptr_typed (block_ptr b o) = (tt, tt)
ptr_typed null_ptr = (tt, Fits-lit tt)

typed : (p : Ptr) (hv : Val) → Fits E.al hv → T (has_ty (box_ty E) (two (ptr_val p) hv)) × WT (two (ptr_val p) hv)
typed (block_ptr b o) hv fa = box_typed E hv b o fa
typed null_ptr hv fa = (and_tt (has_ty (α E.al) hv) fa.0, (Fits-lit tt, (fa.1, tt)))

module _ {M : Type 1} {𝓤 : Ura M} (𝓛 : Logic 𝓤) (at_mem : Memory → SProp 𝓤) (run : Routine → Fun 𝓤) (𝓣 : Tables 𝓤 𝓛.H) where
  open 𝓛 use {H}

  walk : (z : (walk_of 𝓛 F.ended stayed (F.clauses 𝓛 at_mem run)).Ghost)
      → ent 𝓤 ((walk_of 𝓛 F.ended stayed (F.clauses 𝓛 at_mem run)).pre z) (WpFn 𝓤 H 𝓣.C 𝓣.Λ code.function (z.0.4.0 ++ (z.0.4.1.0 ++ [])) ((walk_of 𝓛 F.ended stayed (F.clauses 𝓛 at_mem run)).post z))
  walk z =
      let Post = (walk_of 𝓛 F.ended stayed (F.clauses 𝓛 at_mem run)).post z in
      let p = z.0.3.0 in let a = z.0.3.1.0 in let vs = z.0.4.0 in let us = z.0.4.1.0 in
      let To = type_at (F.signature).result tt in
      let made : To.Denot = record { ptr = p; alloc = a; owned = false; agent = nobody } in
      qed 𝓛 ((‵ ftrue ⊛ ‵ (owns (RawPtr ∷ Heap.the_row ∷ []) (p, (a, tt)) (vs, (us, tt)))) ∷ raw (emp 𝓤) ∷ []) ∵ split ! $ drop ! $ fsplit ! $ feq_l ! (λ ev. fsplit ! $
      handle_tells E.al ! a us (λ hv ea fa.
      let Γ : List (Item 𝓤) = ‵ (Heap.the_row.own_val a (hv ∷ [])) ∷ ‵ ftrue ∷ raw (emp 𝓤) ∷ [] in
      by ! (subst (λ (ws : List Val). ent 𝓤 (types.Kit.⋆ 𝓛 Γ) (WpFn 𝓤 H 𝓣.C 𝓣.Λ code.function (vs ++ (ws ++ [])) Post)) (sym ea)
      (subst (λ (ws : List Val). ent 𝓤 (types.Kit.⋆ 𝓛 Γ) (WpFn 𝓤 H 𝓣.C 𝓣.Λ code.function (ws ++ (hv ∷ [])) Post)) (sym ev)
      (qed 𝓛 Γ ∵ enter ! 𝓣.C 𝓣.Λ code.function (ptr_val p ∷ hv ∷ []) _ $ alloc_all ! (λ ls. pass_all ! refl (ptr_typed p, (fa, tt)) $
      sets ! (agg ! (and_then ! (get ! refl) (and_then ! (get ! refl) (no_more !)))) refl (typed p hv fa) $ returns ! (look_at ! 0 refl) $ free_all ! refl $
      nothing ! $ move ! (1 ∷ 0 ∷ []) $ fjoin ! $ feq_i ! (List Val) (ptr_val p ∷ []) (ptr_val p ∷ []) refl $ fjoin ! $ feq_i ! (List Val) (two (ptr_val p) hv ∷ []) (two (ptr_val p) hv ∷ []) refl $ fjoin ! $
      fpack ! (Valss (RawPtr ∷ Heap.the_row ∷ [])) (within (shape Held.the_type) (p, ((Heap.the_type).to a, tt)) (two (ptr_val p) hv ∷ [])) (ptr_val p ∷ [], (hv ∷ [], tt)) $ nothing ! $ move ! (1 ∷ 0 ∷ []) $ fjoin ! $ use1 𝓛 (‵ (To.own_val made (two (ptr_val p) hv ∷ []))) (id⊢ 𝓤 _) $ move ! (1 ∷ 2 ∷ []) $ drop ! $ drop ! $
      suffices ! _ (ends_at 𝓛 F.ended stayed (F.clauses 𝓛 at_mem run) z (two (ptr_val p) hv) made (tt, (tt, tt)) (tt, (tt, tt))) $ says ! refl $ nothing ! $ nothing ! $ fjoin ! $ nothing ! $ fjoin ! $ join ! $ nothing ! $ join ! $ done !))))))

pub closed_spec : {M : Type 1} → stated.statement M
unfolding tables_of
closed_spec 𝓤 𝓛 𝓜 𝓡 wired =
    let 𝓣 : Tables 𝓤 𝓛.H = tables_of 𝓤 𝓛.H 𝓜 (tables 𝓤 𝓛.H 𝓜 𝓡 𝓡.env) in
    entered 𝓤 𝓛.H (triple_of 𝓛 F.signature (F.spec 𝓛 𝓜.mem 𝓡.returns)) 𝓣.C 𝓣.Λ #self code.function (code.unfolded 𝓤 𝓛.H 𝓜 𝓡 wired)
    (walk_Meets 𝓛 F.ended stayed (Goes-dropped 𝓛 0 Ptrs yes (λ κs x f. refl), (Goes-dropped 𝓛 0 Heaps yes (λ κs x f. refl), tt)) (F.clauses 𝓛 𝓜.mem 𝓡.returns) (WpFn 𝓤 𝓛.H 𝓣.C 𝓣.Λ code.function) (WpFn-mono 𝓤 𝓛.H 𝓛.laws 𝓣 code.function)
    (walk 𝓛 𝓜.mem 𝓡.returns 𝓣))
