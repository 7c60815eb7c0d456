pub use Rattle.std.proofs.Common.{◌≡◌, ℕ, ◌≤◌, List, [], ◌∷◌, ◌++◌, length, refl, sym, ap, ◌∙◌, lit<, w64, MutBor, arith}
pub use Rattle.std.proofs.raw_atomic.Walks.{proved}
pub use base.Fraction.{full_share}
pub use base.Logic.{id⊢}
pub use base.Fml.{ftrue, fat, flft, fres, flent, Lft}
pub use mir.Syntax.{named}
pub use mir.Val.{Val, vunit, vint, vptr}
pub use contract.Monad.{fact}
pub use contract.Running.{tables}
pub use types.Kit.{‵, raw, ◌⊛◌, some, later, prop, ◌$◌, ◌∵◌, !, qed, done, move, keep, drop, use1, use2, use3, split, join, fsplit, fjoin, feq_i, feq_l, pick, await, rewrite, regoal, suffices, frame, group, show, by}
pub use types.Tokens.{lft_new, lft_end}
pub use types.Run.{enter, of_opd, addr, stop, no_more, and_then, returns}
pub use types.ByLocal.{alloc_all, pass_all, free_all, look_at, get, through, sets, lands_as}
pub use types.SemTy.{Body}
pub use denote.Builtin.{u64}
pub use denote.Exit.{yes}
pub use denote.Laws.{Is, shows}
pub use denote.Plain.{uint_vals, uint_Tells, uint_Makes, uint_Lawful}
pub use denote.RawPtr.{Ptr, RawPtr, block_ptr, lies_at, in_a_block, rawptr_vals, rawptr_Tells}
pub use denote.Ref.{MutRef, mut_vals}
pub use denote.Memory.{mem}
pub use denote.Lend.{lends_ref, ref_back}
pub use denote.Signature.{plain}
pub use denote.Steps.{nothing, owned, peeks, heard, only}
pub use denote.Triple.Call.{calls_at}
pub use denote.Triple.Clauses.{Lasts, lasts, ensured}
pub use denote.Triple.Entry.{on_entry}
pub use denote.Triple.Spec.{triple_of}
pub use denote.Triple.Walked.{Stays, walk_of, says, stay_dropped, Goes-dropped, ends_at}
pub use denote.Triple.Table.{framed}
pub use types.Kit.{fpick}
pub use types.Tokens.{lent_back}
pub use denote.Slice.{ShrSlice, shr_slice_vals, shr_slice_Tells, shr_slice_Lawful, MutSlice, mut_slice_vals, mut_slice_Tells, mut_slice_Lawful, slice_val}
pub use denote.Builtin.{u8}
pub use denote.Triple.Walked.{gave_slice, Goes-gave_slice, on_exit}
pub use mir.Syntax.{w32}
pub use denote.Builtin.{u32}
pub use denote.Builtin.{i64}
pub use denote.Signed.{sint_Lawful}
pub use Rattle.std.proofs.Common.{ℤ}
