-- `of` splits a box, and the handle owns what the box owned.
use Rattle.lldpa_c.proofs.ByHand.{◌≡◌, refl, sym, subst, ap, ◌∙◌, true, List, [], ◌∷◌, ◌++◌, Ura, Args, Dict, a_type, dcons, dnil, Val, vstruct, of_list, SProp, ent, emp, id⊢, never, fst∗, ftrue, fsep, flft, ◌⊑◌, Memory, Routine, WpFn, Tables, Logic, sem, Fun, fact, tables, tables_of, fm_of, WpFn-mono, Item, ‵, raw, ◌⊛◌, some, later, ◌$◌, ◌∵◌, !, qed, by, move, drop, use1, join, split, split3, pick, rewrite, fsplit, fjoin, fpick, feq_l, suffices, await, done, whole, sub, agg, stop, fld, no_more, and_then, of_opd, returns, enter, alloc_all, pass_all, free_all, look_at, get, get_in, sets, lands_as, yes, Ptr, RawPtr, block_ptr, null_ptr, ptr_val, in_a_block, type_at, heard, nothing, only, calls_at, triple_of, Triple, Contract, entered, Stays, stay_dropped, walk_of, ends_at, Goes-dropped, walk_Meets, token, handle_tells, box_owns, D, τ, R, P, B, word, box_typed, box_out, box_in}
use types.Kit.{use0, keep, show}
use mir.Syntax.{impl, method, no_args, tcons, tnil}
use mir.Raw.{raw as bare}
use base.Fraction.{full_share}
use base.Logic.{sep, via, emp∗, comm∗}
use prog.Model.{Model}
use prog.Wired.{Wired}
use contract.BorrowLft.{⊑_static}
use contract.Monad.{fact_i}
use contract.Running.{Running}
use denote.Param.{bounded, layout}
use denote.Param.Glue.{Met, spent, signature as spends}
use denote.Param.NoDrop.{glues}
use denote.Struct.Tuple.{Tuple}
use denote.Triple.Carry.{beside}
use denote.Triple.Spec.{Spec}
use denote.Triple.Table.{run_framed, widened}
use types.Tokens.{lft_new}
use Rattle.std.specs.contracts.alloc.Allocator.TheBound.{Met as Allocates}
use Rattle.std_heap.proofs.GlobalAllocator.TheImpl.Met as heap_met
use Rattle.std_alloc.specs.contracts.boxed.Box.into_raw_with_allocator as Ra
use Rattle.std_alloc.proofs.boxed.Box.into_raw_with_allocator.Symbol as raw_sym
use Rattle.std_alloc.proofs.boxed.Box.into_raw_with_allocator.Met as raw_met
use Rattle.lldpa_c.specs.contracts.lldp_engine++agent++Agent+Destruct.drop as dropped
use Rattle.lldpa_c.proofs.lldp_engine++agent++Agent+Destruct.drop.Symbol as drop_sym
use Rattle.lldpa_c.proofs.lldp_engine++agent++Agent+Destruct.drop.Met as drop_met
unfoldable use Rattle.lldpa_c.proofs.Destruct++none.drop.Code.{code as no_drop}
use Rattle.lldpa_c.proofs.AsBox.{E, FromBox as From}
use Rattle.lldpa_c.specs.contracts.handle.Held.of as F
use Rattle.lldpa_c.specs.contracts.handle.Held.of.Key.{name as #self}
use Rattle.lldpa_c.proofs.handle.Held.of.Statement as stated
use Rattle.lldpa_c.proofs.handle.Held.of.Code as code

-- what a call passes for the drop of an agent
abbrev agent_drop : Dict
agent_drop = impl ("lldpa_c::lldp_engine++agent++Agent+Destruct::drop" ∷ []) (tcons (layout E.al.row) tnil) (dcons E.al.d (dcons E.al.drops dnil))

abbrev args : Args
args = bounded (a_type ∷ a_type ∷ []) (E.row, (E.al.row, tt)) (dcons E.al.d (dcons E.al.drops (dcons agent_drop dnil)))

abbrev stayed : Stays (F.ended).signature.params (F.ended).kept
stayed = (stay_dropped From yes, tt)

module _ {M : Type 1} {𝓤 : Ura M} (𝓛 : Logic 𝓤) (at_mem : Memory → SProp 𝓤) (run : Routine → Fun 𝓤) (𝓣 : Tables 𝓤 𝓛.H) where
  open 𝓛 use {H}

  abbrev Opens : Contract 𝓤
  Opens = triple_of 𝓛 (Ra.signature E.row E.al.row E.al.g E.al.d E.al.drops agent_drop) (Ra.spec E.row E.al.row E.al.g E.al.d E.al.drops agent_drop 𝓛 at_mem run)

  walk : Triple 𝓤 (𝓣.C (raw_sym.name args)) Opens → (z : (walk_of 𝓛 F.ended stayed (F.clauses 𝓛 at_mem run)).Ghost)
      → ent 𝓤 ((walk_of 𝓛 F.ended stayed (F.clauses 𝓛 at_mem run)).pre z) (WpFn 𝓤 H 𝓣.C 𝓣.Λ code.function (z.0.4.0 ++ []) ((walk_of 𝓛 F.ended stayed (F.clauses 𝓛 at_mem run)).post z))
  walk kn z =
      let Post = (walk_of 𝓛 F.ended stayed (F.clauses 𝓛 at_mem run)).post z in
      let v : D E = record { ptr = z.0.3.0.ptr; alloc = z.0.3.0.alloc; value = z.0.3.0.value } in let a = v.alloc in
      let To = type_at (F.signature).result tt in
      qed 𝓛 ((‵ ftrue ⊛ ‵ (fsep ((B E).own_val v z.0.4.0) ftrue)) ∷ raw (emp 𝓤) ∷ []) ∵ split ! $ drop ! $ fsplit ! $
      box_out E ! v z.0.4.0 (λ b o hv e ws fa. box_in E ! v b o v.value e refl $ move ! (1 ∷ 2 ∷ []) $ drop ! $ drop ! $
      let w = word E hv b o in
      let Γ : List (Item 𝓤) = ‵ ((B E).own_val v (w ∷ [])) ∷ [] in
      by ! (subst (λ (us : List Val). ent 𝓤 (types.Kit.⋆ 𝓛 Γ) (WpFn 𝓤 H 𝓣.C 𝓣.Λ code.function (us ++ []) Post)) (sym ws)
      (qed 𝓛 Γ ∵ enter ! 𝓣.C 𝓣.Λ code.function (w ∷ []) _ $ alloc_all ! (λ ls. pass_all ! refl (box_typed E hv b o fa, tt) $ sets ! (of_opd ! (get ! refl)) refl (box_typed E hv b o fa) $
      lft_new ! tt (λ α. lft_new ! tt (λ β.
      let ts : Item 𝓤 = ‵ (flft (α ∷ []) full_share) ⊛ ‵ (flft (β ∷ []) full_share) ⊛ ‵ ftrue in
      let y : Opens.Ghost = (((α ∷ [], (β ∷ [], tt)), (full_share, (full_share, tt)), tt, (v, tt), (w ∷ [], tt)), tt) in
      -- the context, in order: the tokens, the box
      nothing ! $ move ! (3 ∷ 0 ∷ []) $ fjoin ! $ nothing ! $ move ! (2 ∷ 0 ∷ []) $ join ! $ move ! (2 ∷ 0 ∷ []) $ join ! $ join ! $
      nothing ! $ use0 𝓛 (raw (fact 𝓤 ((β ∷ []) ⊑ E.al.row.lives))) (fact_i 𝓤 _ (emp 𝓤) (⊑_static (β ∷ []))) $ join ! $
      use0 𝓛 (raw (fact 𝓤 ((α ∷ []) ⊑ E.row.lives))) (fact_i 𝓤 _ (emp 𝓤) (⊑_static (α ∷ []))) $ join ! $
      move ! (1 ∷ 0 ∷ []) $ join ! $ use1 𝓛 (raw (Opens.pre y)) (id⊢ 𝓤 _) $
      calls_at ! (fm_of 𝓤 H 𝓛.laws 𝓣) Opens kn y (and_then ! (get ! refl) (no_more !)) (λ u.
      use1 𝓛 (later (some (λ (r : Ptr × E.al.row.Denot). (ts ⊛ ‵ ((Tuple (RawPtr ∷ P E ∷ [])).own_val r (u ∷ []))) ⊛ some (λ (_ : (Unit {0} × (Unit {0} × Unit {0})) × Unit {0}). ‵ (fsep (fsep ftrue (fsep ftrue ftrue)) ftrue) ⊛ (raw (fact 𝓤 (r.1 ≡ a)) ⊛ ‵ (box_owns (token E.al a) (R E) r.0 v.value)))))) (id⊢ 𝓤 _) $
      await ! tt $ pick ! (λ r. split ! $ move ! (1 ∷ []) $ pick ! (λ _. split3 ! $ drop ! $ heard ! (r.1 ≡ a) (λ ea.
      in_a_block ! r.0 (λ p. box_owns (token E.al a) (R E) p v.value) (fst∗ 𝓤 (never 𝓤) (sem 𝓛 (token E.al a (bare (τ E)) null_ptr))) (λ b' o' e'.
      move ! (1 ∷ []) $ split ! $ move ! (1 ∷ []) $ fpick ! (λ vss. fsplit ! $ feq_l ! (λ eu. fsplit ! $ feq_l ! (λ ep. fsplit ! $ rewrite ! 0 (λ (s : E.al.row.Denot). ‵ (E.al.row.own_val s vss.1.0)) ea refl $ handle_tells E.al ! a vss.1.0 (λ hw eh fw.
      let d : D E = record { ptr = block_ptr b' o'; alloc = a; value = v.value } in
      let made : To.Denot = record { ptr = block_ptr b' o'; alloc = a; owned = true; agent = v.value } in
      lands_as ! (ap only (eu ∙ (λ j. vstruct (of_list ((ep ∙ ap (λ (p : Ptr). ptr_val p ∷ []) e') j ++ (eh j ++ []))) ∷ []))) refl (box_typed E hw b' o' fw) $
      sets ! (of_opd ! (get_in ! (fld ! refl (stop !)) (sub ! 0 refl (whole !)))) refl (tt, tt) $ sets ! (of_opd ! (get_in ! (fld ! refl (stop !)) (sub ! 1 refl (whole !)))) refl fw $ sets ! (of_opd ! (get ! refl)) refl (tt, tt) $
      sets ! (agg ! (and_then ! (get ! refl) (and_then ! (get ! refl) (no_more !)))) refl (box_typed E hw b' o' fw) $ returns ! (look_at ! 0 refl) $ free_all ! refl $
      -- the context, in order: the allocator, true, the tokens, the value with its token
      move ! (3 ∷ []) $ fsplit ! $ box_in E ! d b' o' v.value refl refl $ use1 𝓛 (‵ (To.own_val made (word E hw b' o' ∷ []))) (id⊢ 𝓤 _) $ move ! (1 ∷ 2 ∷ []) $ drop ! $ drop ! $
      suffices ! _ (ends_at 𝓛 F.ended stayed (F.clauses 𝓛 at_mem run) z (word E hw b' o') made (tt, tt) (tt, tt)) $
      use0 𝓛 (raw (fact 𝓤 (v.value ≡ v.value))) (fact_i 𝓤 _ (emp 𝓤) refl) $ use0 𝓛 (raw (fact 𝓤 (true ≡ true))) (fact_i 𝓤 _ (emp 𝓤) refl) $ join ! $ move ! (1 ∷ []) $
      nothing ! $ nothing ! $ fjoin ! $ join ! $ nothing ! $ join ! $ done !)))))))))))))))

module _ {M : Type 1} (𝓤 : Ura M) (𝓛 : Logic 𝓤) (𝓜 : Model 𝓤 𝓛.H) (𝓡 : Running 𝓤 𝓛.H 𝓜) (wired : Wired 𝓡.env code.code) where
  allocator : Allocates 𝓛 𝓜 𝓡 𝓡.env E.al.row E.al.g E.al.d
  allocator = heap_met.passed 𝓡.env (code.calls-std_heap::GlobalAllocator::allocate 𝓡.env wired) (code.calls-std_heap::GlobalAllocator::deallocate 𝓡.env wired) (code.calls-std_heap::GlobalAllocator::grow 𝓡.env wired) (code.calls-std_heap::GlobalAllocator::shrink 𝓡.env wired) M 𝓤 𝓛 𝓜 𝓡

  handles : Met 𝓛 𝓜 𝓡 𝓡.env E.al.row E.al.drops
  unfolding no_drop
  handles = glues "lldpa_c::Destruct++none::drop" 𝓡.env (code.calls-lldpa_c::Destruct++none::drop 𝓡.env wired) E.al.row E.al.laws M 𝓤 𝓛 𝓜 𝓡

  abbrev said : Spec 𝓤 (spends E.row)
  said κs a = let c = dropped.spec E.al.row E.al.g E.al.d E.al.drops 𝓛 𝓜.mem 𝓡.returns κs a in record { ghost = c.ghost; requires = c.requires; ensures = c.ensures }

  agents : Met 𝓛 𝓜 𝓡 𝓡.env E.row agent_drop
  agents =
      let k = method agent_drop 0 no_args in let k' = drop_sym.name (bounded (a_type ∷ []) (E.al.row, tt) (dcons E.al.d (dcons E.al.drops dnil))) in
      beside 𝓛 (spends E.row) (𝓡.run (𝓡.env k)) (run_framed 𝓤 𝓛.H 𝓜 𝓡 (𝓡.env k)) said (spent 𝓛 E.row) (λ κs a x. x) (λ κs a x. emp 𝓤)
      (λ κs a x. via 𝓤 (sep 𝓤 (emp 𝓤) ((said κs a).requires x)) (emp∗ 𝓤 ((said κs a).requires x)) (comm∗ 𝓤 (emp 𝓤) ((said κs a).requires x)))
      (λ κs a x r. qed 𝓛 (raw ((said κs a).ensures x r) ∷ raw (emp 𝓤) ∷ []) ∵ keep ! [] $ show ! (λ (ws : Unit {0} × Unit {0}). sep 𝓤 (sem 𝓛 (fsep ftrue ftrue)) (emp 𝓤)) (tt, tt) $ nothing ! $ nothing ! $ nothing ! $ join ! $ done !)
      (widened 𝓤 𝓛.H (triple_of 𝓛 (spends E.row) said) 𝓜 𝓡 𝓡.env (𝓡.env k') (𝓡.env k) (drop_sym.as_method 𝓡.env (code.calls-lldpa_c::lldp_engine++agent++Agent+Destruct::drop 𝓡.env wired) k refl)
      (drop_met.met 𝓤 𝓛 𝓜 𝓡 (code.calls-lldpa_c::lldp_engine++agent++Agent+Destruct::drop 𝓡.env wired) E.al.row E.al.laws E.al.g E.al.d E.al.drops allocator handles))

pub of_spec : {M : Type 1} → stated.statement M
unfolding tables_of
of_spec 𝓤 𝓛 𝓜 𝓡 wired =
    let 𝓣 : Tables 𝓤 𝓛.H = tables_of 𝓤 𝓛.H 𝓜 (tables 𝓤 𝓛.H 𝓜 𝓡 𝓡.env) in
    entered 𝓤 𝓛.H (triple_of 𝓛 F.signature (F.spec 𝓛 𝓜.mem 𝓡.returns)) 𝓣.C 𝓣.Λ #self code.function (code.unfolded 𝓤 𝓛.H 𝓜 𝓡 wired)
    (walk_Meets 𝓛 F.ended stayed (Goes-dropped 𝓛 0 From yes (λ κs x f. refl), tt) (F.clauses 𝓛 𝓜.mem 𝓡.returns) (WpFn 𝓤 𝓛.H 𝓣.C 𝓣.Λ code.function) (WpFn-mono 𝓤 𝓛.H 𝓛.laws 𝓣 code.function)
    (walk 𝓛 𝓜.mem 𝓡.returns 𝓣 (raw_met.met 𝓤 𝓛 𝓜 𝓡 (code.calls-std_alloc::boxed::Box::into_raw_with_allocator 𝓡.env wired) E.row E.al.row E.laws E.al.laws E.al.g E.al.d E.al.drops agent_drop (allocator 𝓤 𝓛 𝓜 𝓡 wired) (handles 𝓤 𝓛 𝓜 𝓡 wired) (agents 𝓤 𝓛 𝓜 𝓡 wired))))
