-- Items that stand by rising name, in parts: those below a name, the one that has it, and those
-- above.
use Rattle.std.proofs.Common.{◌≡◌, suc, List, [], ◌∷◌, ◌++◌, map, length, cond, not, Some, None, refl, ap, ◌∙◌, Less, Equal, Greater, take, drop}
use Rattle.std.specs.List.{AllByRecursion, insert, remove}
use Rattle.std.specs.List.Sorted.{IsStrictlySortedBy}
use Rattle.std.specs.Ordering.{is_eq, match_ordering, ordering_reverse}
use Rattle.ids.specs.Named.{Name, name_cmp, item_in, put_in, without_in}
use Rattle.ids.specs.Ordered.{AreInOrder}
use Rattle.ids.proofs.NameOrder.{equal_to_itself, names_total}

-- the parts of what holds of all
module _ {X : Type 0} (P : X → Type 0) where
  pub of_front : (b a : List X) → AllByRecursion P (b ++ a) → AllByRecursion P b
  of_front [] a h = tt
  of_front (x ∷ b) a h = (h.0, of_front b a h.1)

  pub of_back : (b a : List X) → AllByRecursion P (b ++ a) → AllByRecursion P a
  of_back [] a h = h
  of_back (x ∷ b) a h = of_back b a h.1

  pub of_both : (b a : List X) → AllByRecursion P b → AllByRecursion P a → AllByRecursion P (b ++ a)
  of_both [] a h k = k
  of_both (x ∷ b) a h k = (h.0, of_both b a h.1 k)

module _ {X : Type 0} where
  take_front : (b a : List X) → take (length b) (b ++ a) ≡ b
  take_front [] a = refl
  take_front (x ∷ b) a = ap (λ ys. x ∷ ys) (take_front b a)

  drop_front : (b a : List X) → drop (length b) (b ++ a) ≡ a
  drop_front [] a = refl
  drop_front (x ∷ b) a = drop_front b a

  drop_one : (b : List X) (x : X) (a : List X) → drop (suc (length b)) (b ++ x ∷ a) ≡ a
  drop_one [] x a = refl
  drop_one (y ∷ b) x a = drop_one b x a

  pub insert_between : (b a : List X) (x : X) → insert (b ++ a) (length b) x ≡ b ++ x ∷ a
  insert_between b a x = ap (λ ys. ys ++ x ∷ drop (length b) (b ++ a)) (take_front b a)
      ∙ ap (λ ys. b ++ x ∷ ys) (drop_front b a)

  pub remove_between : (b : List X) (x : X) (a : List X) → remove (b ++ x ∷ a) (length b) ≡ b ++ a
  remove_between b x a = ap (λ ys. ys ++ drop (suc (length b)) (b ++ x ∷ a)) (take_front b (x ∷ a))
      ∙ ap (λ ys. b ++ ys) (drop_one b x a)

module _ {X : Type 0} (name : X → Name) where
  abbrev pub Below : Name → List X → Type 0
  Below n xs = AllByRecursion (λ x. name_cmp (name x) n ≡ Less) xs

  abbrev pub Above : Name → List X → Type 0
  Above n xs = AllByRecursion (λ x. name_cmp n (name x) ≡ Less) xs

  greater : (n : Name) (x : X) → name_cmp (name x) n ≡ Less → name_cmp n (name x) ≡ Greater
  greater n x less = names_total.antisymm n (name x) ∙ ap ordering_reverse less

  equal : (n : Name) (x : X) → name x ≡ n → name_cmp n (name x) ≡ Equal
  equal n x is = ap (name_cmp n) is ∙ equal_to_itself n

  module _ (n : Name) where
    pub found_at : (b : List X) (x : X) (a : List X) → Below n b → name x ≡ n → item_in name n (b ++ x ∷ a) ≡ Some x
    found_at [] x a h is = ap (λ r. cond (is_eq r) (Some x) (item_in name n a)) (equal n x is)
    found_at (y ∷ b) x a h is = ap (λ r. cond (is_eq r) (Some y) (item_in name n (b ++ x ∷ a))) (greater n y h.0)
        ∙ found_at b x a h.1 is

    pub none_at : (b a : List X) → Below n b → Above n a → item_in name n (b ++ a) ≡ None
    none_at [] [] h k = refl
    none_at [] (x ∷ a) h k = ap (λ r. cond (is_eq r) (Some x) (item_in name n a)) k.0 ∙ none_at [] a tt k.1
    none_at (y ∷ b) a h k = ap (λ r. cond (is_eq r) (Some y) (item_in name n (b ++ a))) (greater n y h.0)
        ∙ none_at b a h.1 k

    stays_above : (a : List X) → Above n a → without_in name n a ≡ a
    stays_above [] k = refl
    stays_above (x ∷ a) k = ap (λ r. cond (not (is_eq r)) (x ∷ without_in name n a) (without_in name n a)) k.0
        ∙ ap (λ ys. x ∷ ys) (stays_above a k.1)

    pub without_at : (b : List X) (x : X) (a : List X) → Below n b → name x ≡ n → Above n a
        → without_in name n (b ++ x ∷ a) ≡ b ++ a
    without_at [] x a h is k = ap (λ r. cond (not (is_eq r)) (x ∷ without_in name n a) (without_in name n a))
        (equal n x is) ∙ stays_above a k
    without_at (y ∷ b) x a h is k =
        ap (λ r. cond (not (is_eq r)) (y ∷ without_in name n (b ++ x ∷ a)) (without_in name n (b ++ x ∷ a)))
        (greater n y h.0)
        ∙ ap (λ ys. y ∷ ys) (without_at b x a h.1 is k)

    pub without_none : (b a : List X) → Below n b → Above n a → without_in name n (b ++ a) ≡ b ++ a
    without_none [] a h k = stays_above a k
    without_none (y ∷ b) a h k =
        ap (λ r. cond (not (is_eq r)) (y ∷ without_in name n (b ++ a)) (without_in name n (b ++ a))) (greater n y h.0)
        ∙ ap (λ ys. y ∷ ys) (without_none b a h.1 k)

  module _ (x : X) where
    pub put_over : (b : List X) (y : X) (a : List X) → Below (name x) b → name y ≡ name x
        → put_in name x (b ++ y ∷ a) ≡ b ++ x ∷ a
    put_over [] y a h is = ap (λ r. match_ordering r (x ∷ y ∷ a) (x ∷ a) (y ∷ put_in name x a)) (equal (name x) y is)
    put_over (z ∷ b) y a h is =
        ap (λ r. match_ordering r (x ∷ z ∷ (b ++ y ∷ a)) (x ∷ (b ++ y ∷ a)) (z ∷ put_in name x (b ++ y ∷ a)))
        (greater (name x) z h.0)
        ∙ ap (λ ys. z ∷ ys) (put_over b y a h.1 is)

    pub put_between : (b a : List X) → Below (name x) b → Above (name x) a → put_in name x (b ++ a) ≡ b ++ x ∷ a
    put_between [] [] h k = refl
    put_between [] (y ∷ a) h k = ap (λ r. match_ordering r (x ∷ y ∷ a) (x ∷ a) (y ∷ put_in name x a)) k.0
    put_between (z ∷ b) a h k =
        ap (λ r. match_ordering r (x ∷ z ∷ (b ++ a)) (x ∷ (b ++ a)) (z ∷ put_in name x (b ++ a)))
        (greater (name x) z h.0)
        ∙ ap (λ ys. z ∷ ys) (put_between b a h.1 k)

  -- what holds of the names of items, and of the items' names
  pub of_names : (P : Name → Type 0) (xs : List X) → AllByRecursion P (map name xs)
      → AllByRecursion (λ x. P (name x)) xs
  of_names P [] h = tt
  of_names P (x ∷ xs) h = (h.0, of_names P xs h.1)

  to_names : (P : Name → Type 0) (xs : List X) → AllByRecursion (λ x. P (name x)) xs → AllByRecursion P (map name xs)
  to_names P [] h = tt
  to_names P (x ∷ xs) h = (h.0, to_names P xs h.1)

  with_one : (P : Name → Type 0) (b : List X) (x : X) (a : List X) → AllByRecursion P (map name (b ++ a)) → P (name x)
      → AllByRecursion P (map name (b ++ x ∷ a))
  with_one P [] x a h k = (k, h)
  with_one P (y ∷ b) x a h k = (h.0, with_one P b x a h.1 k)

  less_one : (P : Name → Type 0) (b : List X) (x : X) (a : List X) → AllByRecursion P (map name (b ++ x ∷ a))
      → AllByRecursion P (map name (b ++ a))
  less_one P [] x a h = h.1
  less_one P (y ∷ b) x a h = (h.0, less_one P b x a h.1)

  pub rising_with : (b : List X) (x : X) (a : List X) → AreInOrder name (b ++ a) → Below (name x) b → Above (name x) a
      → AreInOrder name (b ++ x ∷ a)
  unfolding IsStrictlySortedBy
  rising_with [] x a r h k = (to_names (λ m. name_cmp (name x) m ≡ Less) a k, r)
  rising_with (y ∷ b) x a r h k = (
    with_one (λ m. name_cmp (name y) m ≡ Less) b x a r.0 h.0,
    rising_with b x a r.1 h.1 k,
  )

  pub rising_without : (b : List X) (x : X) (a : List X) → AreInOrder name (b ++ x ∷ a) → AreInOrder name (b ++ a)
  unfolding IsStrictlySortedBy
  rising_without [] x a r = r.1
  rising_without (y ∷ b) x a r = (less_one (λ m. name_cmp (name y) m ≡ Less) b x a r.0, rising_without b x a r.1)
