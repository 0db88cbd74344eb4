-- What the proofs by hand cite of the logic.
pub use Rattle.std.proofs.Common.{◌≡◌, ℕ, ◌≤◌, ◌<◌, ◌+◌, ◌*◌, ◌^◌, List, [], ◌∷◌, ◌++◌, Option, None, Some, refl, sym, ap, ◌∙◌, lit<, w64, arith, length, get_or, set, zero, suc}
pub use Rattle.std.proofs.raw_atomic.Walks.{proved}
pub use base.Fraction.{full_share}
pub use base.Logic.{id⊢, ent, sep, never}
pub use base.Fml.{Fml, ftrue, fsep, feq, fex, fat, froom, flft}
pub use mir.Syntax.{named}
pub use mir.Val.{Val, vunit, vint}
pub use contract.Monad.{fact}
pub use contract.Running.{tables}
pub use types.Logic.{Logic, sem}
pub use seplogic.Ra.Ura.{Ura}
pub use types.Kit.{‵, raw, ◌⊛◌, some, later, prop, at_ret, ◌$◌, ◌∵◌, !, qed, done, move, keep, drop, use0, use1, use2, split, join, fsplit, fsplit3, fjoin, fpick, fpack, feq_i, feq_l, flt_i, flt_l, pick, await, rewrite, regoal, suffices, frame, group}
pub use types.Run.{enter, init, of_opd, lit, unit_lit, bin, addr, load, look, stop, fld, no_more, and_then, assigns_last, first, blocks, exec, returns}
pub use types.ByLocal.{alloc_all, pass_all, free_all, look_at, get, through, sets, sets_last, lands_as, env}
pub use types.Part.{whole, sub, look_in}
pub use denote.Builtin.{unit, usize}
pub use denote.Exit.{yes}
pub use denote.Laws.{shows}
pub use denote.Memory.{cell_at, part_at}
pub use denote.Plain.{uint_Makes, uint_vals, uint_Tells}
pub use denote.RattleType.{RattleType}
pub use denote.RawPtr.{Ptr, RawPtr, block_ptr, null_ptr, lies_at, in_a_block, rawptr_vals}
pub use denote.Ref.{MutRef, mut_vals, mut_Tells}
pub use denote.Signature.{plain}
pub use denote.Steps.{nothing, owned, opens, closes, heard, peeks, only}
pub use denote.Triple.Call.{calls_at}
pub use denote.Triple.Clauses.{lasts}
pub use denote.Triple.Spec.{triple_of}
pub use denote.Triple.Walked.{Stays, walk_of, says, stay_dropped, Goes-dropped, stay_ref, Goes-ref, ends_at}
pub use denote.Triple.Table.{framed}
