-- Which refusal comes, by the tests of a move in their order.
use Rattle.std.proofs.Common.{◌≡◌, Bool, true, false, List, cond, Option, Some, None, refl, inl, inr}
use Rattle.std.specs.Prelude.{◌⊎◌}
use Rattle.std.specs.List.{list_any}
use Rattle.ids.specs.declared.member.Member.{Member}
use Rattle.subcomputation.specs.Subs.{SubOf}
use Rattle.departure.specs.Offers.{is_last_hop, is_too_big}
use Rattle.departure.specs.Freezing.{lacks_heir, refusal, wholes}
use Rattle.departure.specs.declared.freezing.FreezeError.{FreezeError}
use Rattle.departure.specs.declared.freezing.FreezeError.TheVariants as error
use Rattle.departure.specs.declared.freezing.Move.{Move}

module _ (m : Move) (members : List Member) (subs : List SubOf) where
  pub is_pending : (pending : Bool) → pending ≡ true → refusal m pending members subs ≡ Some error.Pending
  is_pending pending is = rw is refl

  pub has_no_heir : (pending : Bool) → pending ≡ false → lacks_heir m members ≡ true
      → refusal m pending members subs ≡ Some error.NoHeir
  has_no_heir pending a b = rw (a, b) refl

  pub is_spent : (pending : Bool) → pending ≡ false → lacks_heir m members ≡ false → list_any is_last_hop subs ≡ true
      → refusal m pending members subs ≡ Some error.HopSpent
  is_spent pending a b c = rw (a, b, c) refl

  pub is_big : (pending : Bool) → pending ≡ false → lacks_heir m members ≡ false → list_any is_last_hop subs ≡ false
      → list_any is_too_big (wholes m subs) ≡ true → refusal m pending members subs ≡ Some error.TooBig
  is_big pending a b c d = rw (a, b, c, d) refl

  pub may_go : (pending : Bool) → pending ≡ false → lacks_heir m members ≡ false → list_any is_last_hop subs ≡ false
      → list_any is_too_big (wholes m subs) ≡ false → refusal m pending members subs ≡ None
  may_go pending a b c d = rw (a, b, c, d) refl

  by_size : (big : Bool) → (cond {A = Option FreezeError} big (Some error.TooBig) None ≡ None)
      ⊎ (cond {A = Option FreezeError} big (Some error.TooBig) None ≡ Some error.TooBig)
  by_size true = inr refl
  by_size false = inl refl

  -- where memory is refused the sizes alone may be in the way
  pub may_lack_memory : (pending : Bool) → pending ≡ false → lacks_heir m members ≡ false
      → list_any is_last_hop subs ≡ false
      → (refusal m pending members subs ≡ None) ⊎ (refusal m pending members subs ≡ Some error.TooBig)
  may_lack_memory pending a b c = rw (a, b, c) (by_size (list_any is_too_big (wholes m subs)))
