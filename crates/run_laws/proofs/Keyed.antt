-- What is found by a number in a list of items by number that changed.
use Rattle.std.proofs.Common.{◌≡◌, ℕ, false, cond, not, List, [], ◌∷◌, None, refl, sym, ◌∙◌, arith, Ordering, Less, Equal, Greater}
use Rattle.std.specs.Ordering.{is_eq, match_ordering, nat_cmp}
use Rattle.ids.specs.Keyed as keyed

equal_numbers : (a b : ℕ) → nat_cmp a b ≡ Equal → a ≡ b
equal_numbers a b e = grind (arith, e)

module _ {X : Type 0} (key : X → ℕ) where
  is_not : (k j : ℕ) → (k ≡ j → ⊥) → is_eq (nat_cmp k j) ≡ false
  is_not k j other = by_order (nat_cmp k j) refl
    where
      by_order : (o : Ordering) → nat_cmp k j ≡ o → is_eq o ≡ false
      by_order Less f = refl
      by_order Equal f = absurd (other (equal_numbers k j f))
      by_order Greater f = refl

  pub others : (k : ℕ) (x : X) (xs : List X) → (k ≡ key x → ⊥)
      → keyed.item_at key nat_cmp k (keyed.put key nat_cmp x xs) ≡ keyed.item_at key nat_cmp k xs
  others k x [] other = rw (is_not k (key x) other) refl
  others k x (y ∷ ys) other = by_order (nat_cmp (key x) (key y)) refl (others k x ys other)
    where
      by_order : (o : Ordering) → nat_cmp (key x) (key y) ≡ o
          → keyed.item_at key nat_cmp k (keyed.put key nat_cmp x ys) ≡ keyed.item_at key nat_cmp k ys
          → keyed.item_at key nat_cmp k (match_ordering o (x ∷ y ∷ ys) (x ∷ ys) (y ∷ keyed.put key nat_cmp x ys))
          ≡ keyed.item_at key nat_cmp k (y ∷ ys)
      by_order Less f ih = rw (is_not k (key x) other) refl
      by_order Equal f ih = rw (
        is_not k (key x) other,
        is_not k (key y) (λ same. other (same ∙ sym (equal_numbers (key x) (key y) f))),
      ) refl
      by_order Greater f ih = rw ih refl

  pub gone : (k j : ℕ) (xs : List X) → (k ≡ j → ⊥)
      → keyed.item_at key nat_cmp k (keyed.without key nat_cmp j xs) ≡ keyed.item_at key nat_cmp k xs
  gone k j [] other = refl
  gone k j (y ∷ ys) other = by_order (nat_cmp j (key y)) refl (gone k j ys other)
    where
      by_order : (o : Ordering) → nat_cmp j (key y) ≡ o
          → keyed.item_at key nat_cmp k (keyed.without key nat_cmp j ys) ≡ keyed.item_at key nat_cmp k ys
          → keyed.item_at key nat_cmp k (cond (not (is_eq o)) (y ∷ keyed.without key nat_cmp j ys)
          (keyed.without key nat_cmp j ys)) ≡ keyed.item_at key nat_cmp k (y ∷ ys)
      by_order Less f ih = rw ih refl
      by_order Equal f ih = rw (is_not k (key y) (λ same. other (same ∙ sym (equal_numbers j (key y) f)))) ih
      by_order Greater f ih = rw ih refl

  pub none : (k : ℕ) (xs : List X) → keyed.item_at key nat_cmp k (keyed.without key nat_cmp k xs) ≡ None
  none k [] = refl
  none k (y ∷ ys) = by_order (nat_cmp k (key y)) refl (none k ys)
    where
      by_order : (o : Ordering) → nat_cmp k (key y) ≡ o
          → keyed.item_at key nat_cmp k (keyed.without key nat_cmp k ys) ≡ None
          → keyed.item_at key nat_cmp k (cond (not (is_eq o)) (y ∷ keyed.without key nat_cmp k ys)
          (keyed.without key nat_cmp k ys)) ≡ None
      by_order Less f ih = rw f ih
      by_order Equal f ih = ih
      by_order Greater f ih = rw f ih
