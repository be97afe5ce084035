-- Re-exports the names that the hand-written proofs about the handle use.
pub use mathlib.Core.Path.{◌≡◌, refl, sym, subst, ap, ◌∙◌}
pub use mathlib.Core.List.{List, [], ◌∷◌, ◌++◌}
pub use lib.Dec.{T}
pub use seplogic.Ra.Ura.{Ura}
pub use mir.Syntax.{Fn, Body, place, copy, assign, rv_opd, seq, return, Args, Dict, a_type, dcons, dnil}
pub use mir.MapTy.{inst_fn}
pub use mir.Val.{Val, vptr, has_ty, WT, vstruct, of_list, vcons, vnil}
pub use base.Logic.{SProp, ent, id⊢, never, fst∗, emp}
pub use base.Fml.{ftrue, fsep, flft}
pub use contract.BorrowLft.{◌⊑◌}
pub use prog.Memory.{Memory}
pub use prog.Routine.{Routine}
pub use prog.Wp.{WpFn, Tables}
pub use types.Logic.{Logic, sem}
pub use contract.Monad.{Fun, fact}
pub use contract.Running.{tables}
unfoldable pub use contract.Running.{tables_of}
pub use sound.WpLaws.{fm_of, WpFn-mono}
pub use types.Kit.{Item, at_ret, ‵, raw, ◌⊛◌, some, later, ◌$◌, ◌∵◌, !, qed, by, move, drop, use1, join, split, split3, pick, rewrite, fsplit, fjoin, feq_i, suffices, await, done, fpick, feq_l, fpack}
pub use types.Part.{whole, sub, agg}
pub use types.Run.{stop, fld, no_more, and_then, of_opd, returns, enter, first, blocks, exec}
pub use types.ByLocal.{alloc_all, pass_all, free_all, look_at, get, get_in, sets, lands_last, env, lands_as}
pub use denote.RattleType.{RattleType, owns, Valss}
pub use denote.Exit.{no, yes}
pub use denote.RawPtr.{block_ptr, Ptr, RawPtr, null_ptr, ptr_val, in_a_block}
pub use denote.Signature.{plain, type_at}
pub use denote.Steps.{heard, nothing, only}
pub use denote.Triple.Call.{calls_at_last, calls_at}
pub use denote.Triple.Clauses.{Ended, Clauses}
pub use denote.Triple.Spec.{triple_of}
pub use denote.Triple.Statement.{Triple, Contract}
pub use denote.Triple.Table.{entered}
pub use denote.Triple.Walked.{says, Stays, stay_dropped, walk_of, ends_at, walk_Meets, Goes-dropped}
pub use Rattle.std.proofs.alloc.Calls.{token, Goes-blank, handle_tells, Fits, α}
pub use Rattle.std_alloc.specs.Box.Ownership.{box_owns}
pub use Rattle.std_alloc.proofs.BoxSteps.Form.{Bx, D, R, P, B, args, box_ty, word, box_typed, τ}
pub use Rattle.std_alloc.proofs.BoxSteps.Steps.{box_out, box_in}
pub use mathlib.Core.Bool.{Bool, true, false}
