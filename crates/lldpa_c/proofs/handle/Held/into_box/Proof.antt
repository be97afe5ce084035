-- `into_box` passes what the handle owns to `Box::from_raw`.
use Rattle.lldpa_c.proofs.ByHand.{◌≡◌, refl, sym, subst, ap, Bool, true, List, [], ◌∷◌, ◌++◌, T, Ura, Val, vptr, has_ty, WT, SProp, ent, emp, id⊢, ftrue, fsep, flft, ◌⊑◌, Memory, Routine, WpFn, Tables, Logic, Fun, fact, tables, tables_of, fm_of, WpFn-mono, Item, at_ret, ‵, raw, ◌⊛◌, some, later, ◌$◌, ◌∵◌, !, qed, by, move, drop, use1, join, split, split3, pick, rewrite, fsplit, fjoin, feq_i, suffices, await, done, whole, sub, stop, fld, no_more, and_then, of_opd, returns, enter, first, blocks, exec, alloc_all, pass_all, free_all, look_at, get, get_in, sets, lands_last, env, yes, block_ptr, heard, nothing, only, calls_at_last, triple_of, Triple, Contract, entered, says, Stays, stay_dropped, walk_of, ends_at, Goes-dropped, walk_Meets, token, box_owns, D, R, P, B, args, box_ty, word, box_typed, box_out, box_in}
use types.Kit.{use0}
use base.Fraction.{full_share}
use contract.BorrowLft.{⊑_static}
use contract.Monad.{fact_i}
use denote.Param.NoDrop.{glues}
use types.Tokens.{lft_new}
use Rattle.std_heap.proofs.GlobalAllocator.TheImpl.Met as heap_met
use Rattle.std_alloc.specs.contracts.boxed.Box.from_raw as Fr
use Rattle.std_alloc.proofs.boxed.Box.from_raw.Symbol as raw_sym
use Rattle.std_alloc.proofs.boxed.Box.from_raw.Met as raw_met
use Rattle.lldpa_c.proofs.AsBox.{E, FromHeld as From}
use Rattle.lldpa_c.specs.contracts.handle.Held as Held
use Rattle.lldpa_c.specs.contracts.handle.Held.into_box as F
use Rattle.lldpa_c.specs.contracts.handle.Held.into_box.Key.{name as #self}
use Rattle.lldpa_c.proofs.handle.Held.into_box.Statement as stated
use Rattle.lldpa_c.proofs.handle.Held.into_box.Code as code
unfoldable use Rattle.lldpa_c.proofs.Destruct++none.drop.Code.{code as no_drop}

abbrev stayed : Stays (F.ended).signature.params (F.ended).kept
stayed = (stay_dropped From yes, tt)

module _ {M : Type 1} {𝓤 : Ura M} (𝓛 : Logic 𝓤) (at_mem : Memory → SProp 𝓤) (run : Routine → Fun 𝓤) (𝓣 : Tables 𝓤 𝓛.H) where
  open 𝓛 use {H}

  abbrev Shuts : Contract 𝓤
  Shuts = triple_of 𝓛 (Fr.signature E.row E.al.row E.al.g E.al.d E.al.drops) (Fr.spec E.row E.al.row E.al.g E.al.d E.al.drops 𝓛 at_mem run)

  walk : Triple 𝓤 (𝓣.C (raw_sym.name (args E))) Shuts → (z : (walk_of 𝓛 F.ended stayed (F.clauses 𝓛 at_mem run)).Ghost)
      → ent 𝓤 ((walk_of 𝓛 F.ended stayed (F.clauses 𝓛 at_mem run)).pre z) (WpFn 𝓤 H 𝓣.C 𝓣.Λ code.function (z.0.4.0 ++ []) ((walk_of 𝓛 F.ended stayed (F.clauses 𝓛 at_mem run)).post z))
  walk kn z =
      let Post = (walk_of 𝓛 F.ended stayed (F.clauses 𝓛 at_mem run)).post z in
      let a = z.0.3.0.alloc in let x = z.0.3.0.agent in
      let v : D E = record { ptr = z.0.3.0.ptr; alloc = a; value = x } in
      qed 𝓛 ((‵ ftrue ⊛ ‵ (fsep (Held.the_row.own_val z.0.3.0 z.0.4.0) ftrue)) ∷ raw (fact 𝓤 (z.0.3.0.owned ≡ true)) ∷ []) ∵ move ! (1 ∷ []) $ heard ! (z.0.3.0.owned ≡ true) (λ owns. split ! $ drop ! $ fsplit ! $
      rewrite ! 0 (λ (o : Bool). ‵ (Held.the_row.own_val (record { ptr = v.ptr; alloc = a; owned = o; agent = x }) z.0.4.0)) owns refl $ use1 𝓛 (‵ ((B E).own_val v z.0.4.0)) (id⊢ 𝓤 _) $
      box_out E ! v z.0.4.0 (λ b o hv e ws fa. fjoin ! $
      let w = word E hv b o in
      let Γ : List (Item 𝓤) = ‵ (box_owns (token E.al a) (R E) (block_ptr b o) x) ∷ ‵ ((P E).own_val a (hv ∷ [])) ∷ ‵ ftrue ∷ [] in
      by ! (subst (λ (us : List Val). ent 𝓤 (types.Kit.⋆ 𝓛 Γ) (WpFn 𝓤 H 𝓣.C 𝓣.Λ code.function (us ++ []) Post)) (sym ws)
      (qed 𝓛 Γ ∵ enter ! 𝓣.C 𝓣.Λ code.function (w ∷ []) _ $ alloc_all ! (λ ls. pass_all ! refl (box_typed E hv b o fa, tt) $
      sets ! (of_opd ! (get_in ! (fld ! refl (stop !)) (sub ! 0 refl (whole !)))) refl (tt, tt) $ sets ! (of_opd ! (get_in ! (fld ! refl (stop !)) (sub ! 1 refl (whole !)))) refl fa $
      sets ! (of_opd ! (get ! refl)) refl (tt, tt) $ first ! $ blocks ! $
      lft_new ! tt (λ α. lft_new ! tt (λ β.
      let ts : Item 𝓤 = ‵ (flft (α ∷ []) full_share) ⊛ ‵ (flft (β ∷ []) full_share) ⊛ ‵ ftrue in
      let y : Shuts.Ghost = (((α ∷ [], (β ∷ [], tt)), (full_share, (full_share, tt)), tt, (a, (block_ptr b o, tt)), (hv ∷ [], (vptr b o ∷ [], tt))), x) in
      -- the context, in order: the tokens, what the box owns, the allocator, true
      move ! (2 ∷ []) $ use0 𝓛 (raw (fact 𝓤 ((β ∷ []) ⊑ E.al.row.lives))) (fact_i 𝓤 _ (emp 𝓤) (⊑_static (β ∷ []))) $ join ! $
      use0 𝓛 (raw (fact 𝓤 ((α ∷ []) ⊑ E.row.lives))) (fact_i 𝓤 _ (emp 𝓤) (⊑_static (α ∷ []))) $ join ! $
      nothing ! $ move ! (2 ∷ 0 ∷ []) $ join ! $ move ! (2 ∷ 0 ∷ []) $ join ! $
      move ! (3 ∷ []) $ feq_i ! (List Val) (vptr b o ∷ []) (vptr b o ∷ []) refl $ fjoin ! $ move ! (3 ∷ 0 ∷ []) $ fjoin ! $ move ! (1 ∷ 0 ∷ []) $ join ! $ join ! $ use1 𝓛 (raw (Shuts.pre y)) (id⊢ 𝓤 _) $
      calls_at_last ! (fm_of 𝓤 H 𝓛.laws 𝓣) Shuts kn y (and_then ! (get ! refl) (and_then ! (get ! refl) (no_more !))) (λ u.
      use1 𝓛 (later (some (λ (r : D E). (ts ⊛ ‵ ((B E).own_val r (u ∷ []))) ⊛ some (λ (_ : Unit {0} × (Unit {0} × Unit {0})). ‵ (fsep ftrue (fsep ftrue ftrue)) ⊛ (raw (fact 𝓤 (r.value ≡ x)) ⊛ raw (fact 𝓤 (r.alloc ≡ a))))))) (id⊢ 𝓤 _) $
      await ! tt $ pick ! (λ r. split ! $ move ! (1 ∷ []) $ pick ! (λ _. split3 ! $ drop ! $ heard ! (r.value ≡ x) (λ same. drop ! $ split ! $ drop ! $
      box_out E ! r (u ∷ []) (λ b' o' hw e' wu fw. box_in E ! r b' o' r.value e' refl $ rewrite ! 0 (λ (us : List Val). ‵ ((B E).own_val r us)) (sym wu) refl $
      let typed : T (has_ty (box_ty E) u) × WT u = subst (λ (s : Val). T (has_ty (box_ty E) s) × WT s) (sym (ap only wu)) (box_typed E hw b' o' fw) in
      lands_last ! refl typed $ exec ! 𝓣.C 𝓣.Λ (env (code.function).locals ls) code.Mir.t-5 (at_ret (env (code.function).locals ls) Post) $
      sets ! (of_opd ! (get ! refl)) refl typed $ returns ! (look_at ! 0 refl) $ free_all ! refl $
      suffices ! _ (ends_at 𝓛 F.ended stayed (F.clauses 𝓛 at_mem run) z u r (tt, tt) (tt, tt)) $ says ! same $
      nothing ! $ nothing ! $ fjoin ! $ join ! $ nothing ! $ join ! $ done !))))))))))))

pub into_box_spec : {M : Type 1} → stated.statement M
unfolding tables_of no_drop
into_box_spec {M} 𝓤 𝓛 𝓜 𝓡 wired =
    let 𝓣 : Tables 𝓤 𝓛.H = tables_of 𝓤 𝓛.H 𝓜 (tables 𝓤 𝓛.H 𝓜 𝓡 𝓡.env) in
    let γ = 𝓡.env in
    let allocator = heap_met.passed γ (code.calls-std_heap::GlobalAllocator::allocate γ wired) (code.calls-std_heap::GlobalAllocator::deallocate γ wired) (code.calls-std_heap::GlobalAllocator::grow γ wired) (code.calls-std_heap::GlobalAllocator::shrink γ wired) M 𝓤 𝓛 𝓜 𝓡 in
    let handles = glues "lldpa_c::Destruct++none::drop" γ (code.calls-lldpa_c::Destruct++none::drop γ wired) E.al.row E.al.laws M 𝓤 𝓛 𝓜 𝓡 in
    entered 𝓤 𝓛.H (triple_of 𝓛 F.signature (F.spec 𝓛 𝓜.mem 𝓡.returns)) 𝓣.C 𝓣.Λ #self code.function (code.unfolded 𝓤 𝓛.H 𝓜 𝓡 wired)
    (walk_Meets 𝓛 F.ended stayed (Goes-dropped 𝓛 0 From yes (λ κs x f. refl), tt) (F.clauses 𝓛 𝓜.mem 𝓡.returns) (WpFn 𝓤 𝓛.H 𝓣.C 𝓣.Λ code.function) (WpFn-mono 𝓤 𝓛.H 𝓛.laws 𝓣 code.function)
    (walk 𝓛 𝓜.mem 𝓡.returns 𝓣 (raw_met.met 𝓤 𝓛 𝓜 𝓡 (code.calls-std_alloc::boxed::Box::from_raw γ wired) E.row E.al.row E.laws E.al.laws E.al.g E.al.d E.al.drops allocator handles)))
