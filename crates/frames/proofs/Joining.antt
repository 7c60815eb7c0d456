-- Frames that are numbered above all others stand behind these.
use Rattle.std.proofs.Common.{◌≡◌, ℕ, ◌+◌, ◌<◌, List, [], ◌∷◌, ◌++◌, map, arith, Less, sym, ap}
use Rattle.std.specs.List.{AllByRecursion}
use Rattle.std.specs.List.Sorted.{IsStrictlySortedBy}
use Rattle.std.specs.Ordering.{nat_cmp, ordering_then}
use Rattle.std.specs.Cmp.{nat_cmp_is}
use Rattle.ids.specs.Named.{Name, name_cmp}
use Rattle.ids.specs.Naming.{name_of_frame}
use Rattle.ids.specs.Ordered.{AreInOrder}
use Rattle.ids.specs.declared.work.Frame.{Frame}
use Rattle.frames.specs.Frames.{AreBelow, AreNumbered}

lower : (i k : ℕ) → i < k → name_cmp (i, 0) (k, 0) ≡ Less
lower i k less =
    let is : nat_cmp i k ≡ Less = sym (nat_cmp_is i k Less less) in
    ap (λ r. ordering_then r (nat_cmp 0 0)) is

-- frames numbered from k on are above a number below k
above : (i k : ℕ) (fs : List Frame) → i < k → AreNumbered k fs
    → AllByRecursion (λ (n : Name). name_cmp (i, 0) n ≡ Less) (map name_of_frame fs)
above i k [] less numbered = tt
above i k (f ∷ fs) less numbered = (
  let is =
      numbered.0 in lower i f.number (omega arith),
  above i (k + 1) fs (omega arith) numbered.1,
)

numbered_rise : (k : ℕ) (fs : List Frame) → AreNumbered k fs → AreInOrder name_of_frame fs
unfolding IsStrictlySortedBy
numbered_rise k [] numbered = tt
numbered_rise k (f ∷ fs) numbered = (
  let is =
      numbered.0 in above f.number (k + 1) fs (omega arith) numbered.1,
  numbered_rise (k + 1) fs numbered.1,
)

both : (P : Name → Type 0) (xs fs : List Frame) → AllByRecursion P (map name_of_frame xs)
    → AllByRecursion P (map name_of_frame fs) → AllByRecursion P (map name_of_frame (xs ++ fs))
both P [] fs h k = k
both P (x ∷ xs) fs h k = (h.0, both P xs fs h.1 k)

pub join_rises : (k : ℕ) (xs fs : List Frame) → AreInOrder name_of_frame xs → AreBelow k xs → AreNumbered k fs
    → AreInOrder name_of_frame (xs ++ fs)
unfolding IsStrictlySortedBy
join_rises k [] fs rises below numbered = numbered_rise k fs numbered
join_rises k (x ∷ xs) fs rises below numbered = (
  both (λ (n : Name). name_cmp (x.number, 0) n ≡ Less) xs fs rises.0 (above x.number k fs below.0 numbered),
  join_rises k xs fs rises.1 below.1 numbered,
)
