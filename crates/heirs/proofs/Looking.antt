-- What is said of a worker, by looking through members one after another, and whether these stand
-- in order.
use Rattle.std.proofs.Common.{◌≡◌, ℕ, ◌+◌, ◌<◌, ◌≤◌, ◌==◌, ◌↔◌, nat_lt, Bool, true, false, List, ◌∷◌, map, length, drop, cond, get_or, Some, None, IsTrue, refl, sym, ap, ◌∙◌, arith, Less, Equal, Greater}
use Rattle.std.specs.List.{IsAllAdjacentAnswer}
use Rattle.std.specs.Ordering.{is_eq, nat_cmp, ordering_then}
use Rattle.std.proofs.lemmas.Bool.{false≢true}
use Rattle.std.proofs.lemmas.List.{drop_all, drop_more, get_or-map, length-map}
use Rattle.std.proofs.lemmas.Map.Keys.{Less-from_sorted, sorted_from_all_adjacent}
use Rattle.ids.specs.Members.{status_in}
use Rattle.ids.specs.Named.{Name, name_cmp, item_in}
use Rattle.ids.specs.Naming.{name_of_member}
use Rattle.ids.specs.Options.{◌>>=◌}
use Rattle.ids.specs.Ordered.{AreInOrder}
use Rattle.ids.specs.declared.member.Member.{Member}
use Rattle.ids.specs.declared.member.Status.TheVariants.{Live}
use Rattle.ids.proofs.NameOrder.{names_total}
use Rattle.heirs.proofs.Tables.{apart, equal_to_itself}

-- of the first member that is the worker
said_by : (i : ℕ) (m : Member) (ms : List Member) (t : Bool) → is_eq (name_cmp (i, 0) (name_of_member m)) ≡ t
    → status_in i (m ∷ ms) ≡ cond t (Some m.status) (status_in i ms)
said_by i m ms t is = ap (λ b. cond b (Some m) (item_in name_of_member (i, 0) ms) >>= (λ x. Some x.status)) is
    ∙ by_test t
  where
    by_test : (b : Bool) → (cond b (Some m) (item_in name_of_member (i, 0) ms) >>= (λ x. Some x.status))
        ≡ cond b (Some m.status) (status_in i ms)
    by_test true = refl
    by_test false = refl

said_here : (i : ℕ) (m : Member) (ms : List Member) → m.incarnation ≡ i → status_in i (m ∷ ms) ≡ Some m.status
said_here i m ms same =
    let named : name_cmp (i, 0) (name_of_member m) ≡ Equal =
    ap (λ (n : ℕ). name_cmp (i, 0) (n, 0)) same ∙ equal_to_itself (i, 0) in
    said_by i m ms true (ap is_eq named)

-- of another one nothing is said
said_later : (i : ℕ) (m : Member) (ms : List Member) → (m.incarnation ≡ i → ⊥) → status_in i (m ∷ ms) ≡ status_in i ms
said_later i m ms other = said_by i m ms false
    (apart (i, 0) (name_of_member m) (λ is. other (sym (ap (λ (n : Name). n.0) is))))

-- ---- after so many members that aren't the worker
module _ (i : ℕ) (ms : List Member) (at : ℕ) (rest : status_in i (drop at ms) ≡ status_in i ms) where
  module _ (m : Member) (within : at < length ms) (next : m ≡ get_or ms at m) where
    split : drop at ms ≡ m ∷ drop (at + 1) ms
    split = drop_more ms at m within ∙ ap (λ (x : Member). x ∷ drop (at + 1) ms) (sym next)

    -- the next is the worker
    pub said_at : m.incarnation ≡ i → Some m.status ≡ status_in i ms
    said_at same = sym (said_here i m (drop (at + 1) ms) same) ∙ ap (status_in i) (sym split) ∙ rest

    -- the next isn't either
    pub said_behind : (m.incarnation ≡ i → ⊥) → status_in i (drop (at + 1) ms) ≡ status_in i ms
    said_behind other = sym (said_later i m (drop (at + 1) ms) other) ∙ ap (status_in i) (sym split) ∙ rest

  -- there is no next one
  pub said_nowhere : length ms ≤ at → None ≡ status_in i ms
  said_nowhere all = ap (status_in i) (sym (drop_all at ms all)) ∙ rest

-- ---- in order
less_named : (a b : ℕ) → nat_lt a b ≡ true → name_cmp (a, 0) (b, 0) ≡ Less
less_named a b is = ap (λ t. ordering_then (cond t Less (cond (a == b) Equal Greater)) (nat_cmp 0 0)) is

less_again : (a b : ℕ) → name_cmp (a, 0) (b, 0) ≡ Less → nat_lt a b ≡ true
less_again a b named = by_test (nat_lt a b) (a == b) named
  where
    by_test : (t u : Bool) → ordering_then (cond t Less (cond u Equal Greater)) (nat_cmp 0 0) ≡ Less → t ≡ true
    by_test true u is = refl
    by_test false true is = cc
    by_test false false is = cc

-- whether each member stands below the next
abbrev pub below : Member → Member → Bool
below x y = nat_lt x.incarnation y.incarnation

-- a member of no list
some_member : Member
some_member = record { incarnation = 0; status = Live }

module _ (ms : List Member) where
  -- two neighbours, by their names
  names_at : (k : ℕ) (d : Member) → k + 1 < length ms
      → name_cmp (get_or (map name_of_member ms) k (0, 0)) (get_or (map name_of_member ms) (k + 1) (0, 0))
      ≡ name_cmp (name_of_member (get_or ms k d)) (name_of_member (get_or ms (k + 1) d))
  names_at k d within =
      let first : get_or (map name_of_member ms) k (0, 0) ≡ name_of_member (get_or ms k d) =
      get_or-map name_of_member ms k d (0, 0) (omega arith) in
      let second : get_or (map name_of_member ms) (k + 1) (0, 0) ≡ name_of_member (get_or ms (k + 1) d) =
      get_or-map name_of_member ms (k + 1) d (0, 0) within in
      ap (λ n. name_cmp n (get_or (map name_of_member ms) (k + 1) (0, 0))) first
      ∙ ap (λ n. name_cmp (name_of_member (get_or ms k d)) n) second

  -- where each does, all stand in order
  all_rise : ((k : ℕ) (d : Member) → k + 1 < length ms → true ≡ below (get_or ms k d) (get_or ms (k + 1) d))
      → AreInOrder name_of_member ms
  all_rise each = sorted_from_all_adjacent names_total (map name_of_member ms) (0, 0)
      (λ k within. at k (omega (arith, length-map ms name_of_member)))
    where
      at : (k : ℕ) → k + 1 < length ms → name_cmp (get_or (map name_of_member ms) k (0, 0))
          (get_or (map name_of_member ms) (k + 1) (0, 0)) ≡ Less
      at k within = names_at k some_member within ∙ less_named (get_or ms k some_member).incarnation
          (get_or ms (k + 1) some_member).incarnation (sym (each k some_member within))

  -- where one doesn't, they don't
  one_falls : (k : ℕ) → k + 1 < length ms → ((d : Member) → false ≡ below (get_or ms k d) (get_or ms (k + 1) d))
      → AreInOrder name_of_member ms → ⊥
  one_falls k within falls order =
      let more : k + 1 < length (map name_of_member ms) = omega (arith, length-map ms name_of_member) in
      let less : name_cmp (get_or (map name_of_member ms) k (0, 0)) (get_or (map name_of_member ms) (k + 1) (0, 0))
      ≡ Less = Less-from_sorted name_cmp (map name_of_member ms) k (k + 1) (0, 0) order (omega arith) more in
      let rises : below (get_or ms k some_member) (get_or ms (k + 1) some_member) ≡ true =
      less_again (get_or ms k some_member).incarnation (get_or ms (k + 1) some_member).incarnation
      (sym (names_at k some_member within) ∙ less) in
      false≢true (falls some_member ∙ rises)

  -- so the answer is right
  pub order_told : (r : Bool) → IsAllAdjacentAnswer (λ x y b. b ≡ below x y) ms r
      → IsTrue r ↔ AreInOrder name_of_member ms
  order_told true each = (λ is. all_rise each, λ order. refl)
  order_told false one = (λ is. absurd (false≢true is), λ order. absurd (one_falls one.0 one.1 one.2 order))
