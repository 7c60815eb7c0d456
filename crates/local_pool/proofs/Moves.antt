-- Each step keeps the rule.
use Rattle.std.proofs.Common.{◌≡◌, ℕ, ◌+◌, ◌-◌, ◌^◌, ◌<◌, List, [], ◌∷◌, ◌++◌, length, length-append, set, flat_map, sum_by, sym, refl, ap, ◌∙◌, arith}
use Rattle.std.proofs.lemmas.List.Sums.{sum_by-append}
use mathlib.Core.Option.{some, some-ne-none}
use lib.ListN.{get_elem?}
use Rattle.crossbeam_deque.specs.Tasks as tasks
use Rattle.crossbeam_deque.proofs.Lists.{set_else}
use Rattle.local_pool.specs.declared.law.Hand.{Hand}
use Rattle.local_pool.specs.Items.{SameItems}
use Rattle.local_pool.specs.Hands.{hand, Accounted, Offers, Takes, FoundEmpty}
use Rattle.local_pool.proofs.Totals.{total-set, total_flat, total-snoc, le_total, total_alone, each-set, each-snoc}

module _ {T : Type 0} where
  abbrev pub may_offer : Hand T → Type 0
  may_offer v = v.owners ≡ 0 → v.offered ≡ []

  abbrev pub may_take : Hand T → Type 0
  may_take v = v.parts ≡ 0 → v.taken ≡ []

  abbrev pub may_empty : Hand T → Type 0
  may_empty v = v.never_empty ≡ 0

  -- a pool at its start
  pub begins : Accounted {T = T} [] (hand 0 1 1025 [] [] ∷ [])
  begins = record {
    may_be_empty = each-snoc may_empty [] (hand 0 1 1025 [] []) (λ i v e. absurd (some-ne-none v (sym e))) refl;
    owners = refl;
    parts = refl;
    offer = each-snoc may_offer [] (hand 0 1 1025 [] []) (λ i v e. absurd (some-ne-none v (sym e))) (λ _. refl);
    take = each-snoc may_take [] (hand 0 1 1025 [] []) (λ i v e. absurd (some-ne-none v (sym e))) (λ _. refl);
    bounded = omega arith;
    counted = refl;
    balanced = λ weight. refl;
  }

  -- the owner has offered all that was offered
  offered_all : (items : List T) (views : List (Hand T)) (seat : ℕ) (v : Hand T) → Accounted items views
      → get_elem? views seat ≡ some v → v.owners ≡ 1
      → sum_by (λ u. length u.offered) views ≡ length v.offered
  offered_all items views seat v kept at owner =
      let all = kept.owners in
      total_alone (λ u. u.owners) (λ u. length u.offered) views seat v
      (λ j u there none. ap length (kept.offer j u there none)) at (omega arith)

  offered_weight : (items : List T) (views : List (Hand T)) (seat : ℕ) (v : Hand T) → Accounted items views
      → get_elem? views seat ≡ some v → v.owners ≡ 1 → (weight : T → ℕ)
      → sum_by (λ u. sum_by weight u.offered) views ≡ sum_by weight v.offered
  offered_weight items views seat v kept at owner weight =
      let all = kept.owners in
      total_alone (λ u. u.owners) (λ u. sum_by weight u.offered) views seat v
      (λ j u there none. ap (sum_by weight) (kept.offer j u there none)) at (omega arith)

  pub offers : (seat : ℕ) (v : Hand T) (x : T) → v.owners ≡ 1 → 0 < v.parts → length v.offered < 2 ^ 64 - 1
      → tasks.Pushes Accounted seat v (x ∷ []) (Offers v (x ∷ []))
  offers seat v x owner some_part room items views kept at =
      let w : Hand T = hand v.never_empty v.owners v.parts (v.offered ++ x ∷ []) v.taken in
      let long = length-append v.offered (x ∷ []) in
      let more = length-append items (x ∷ []) in
      let mine = offered_all items views seat v kept at owner in
      let lengths = total-set (λ u. length u.offered) views seat v w at in
      let takes = total-set (λ u. length u.taken) views seat v w at in (
        w,
        record {
          may_be_empty = each-set may_empty views seat w kept.may_be_empty (kept.may_be_empty seat v at);
          owners = (let t = total-set (λ u. u.owners) views seat v w at in let p = kept.owners in omega arith);
          parts = (let t = total-set (λ u. u.parts) views seat v w at in let p = kept.parts in omega arith);
          offer = each-set may_offer views seat w kept.offer (λ none. absurd (omega arith));
          take = each-set may_take views seat w kept.take (λ none. absurd (omega arith));
          bounded = omega arith;
          counted = (let p = kept.counted in omega arith);
          balanced = λ weight.
              let t = total-set (λ u. sum_by weight u.offered) views seat v w at in
              let u = total-set (λ u. sum_by weight u.taken) views seat v w at in
              let a = sum_by-append weight v.offered (x ∷ []) in
              let b = sum_by-append weight items (x ∷ []) in
              let p = kept.balanced weight in
              omega arith;
        },
        refl,
      )

  pub takes : (seat : ℕ) (v : Hand T) → 0 < v.parts → tasks.Takes Accounted seat v 1 (Takes v)
  takes seat v some_part xs items views _ _ kept at =
      let w : Hand T = hand v.never_empty v.owners v.parts v.offered (v.taken ++ xs) in
      let long = length-append v.taken xs in
      let more = length-append xs items in
      let offer_lengths = total-set (λ u. length u.offered) views seat v w at in
      let take_lengths = total-set (λ u. length u.taken) views seat v w at in
      let counted = kept.counted in
      let bounded = kept.bounded in
      let mine = le_total (λ u. length u.taken) views seat v at in (
        w,
        record {
          may_be_empty = each-set may_empty views seat w kept.may_be_empty (kept.may_be_empty seat v at);
          owners = (let t = total-set (λ u. u.owners) views seat v w at in let p = kept.owners in omega arith);
          parts = (let t = total-set (λ u. u.parts) views seat v w at in let p = kept.parts in omega arith);
          offer = each-set may_offer views seat w kept.offer (kept.offer seat v at);
          take = each-set may_take views seat w kept.take (λ none. absurd (omega arith));
          bounded = omega arith;
          counted = omega arith;
          balanced = λ weight.
              let t = total-set (λ u. sum_by weight u.offered) views seat v w at in
              let u = total-set (λ u. sum_by weight u.taken) views seat v w at in
              let a = sum_by-append weight v.taken xs in
              let b = sum_by-append weight xs items in
              let p = kept.balanced weight in
              omega arith;
        },
        (
          refl,
          omega arith,
          λ owner. (
            (let all = offered_all (xs ++ items) views seat v kept at owner in omega arith),
            λ weight.
                let all = offered_weight (xs ++ items) views seat v kept at owner weight in
                let part = le_total (λ u. sum_by weight u.taken) views seat v at in
                let a = sum_by-append weight v.taken xs in
                let b = sum_by-append weight xs items in
                let p = kept.balanced weight in
                omega arith,
          ),
        ),
      )

  pub finds : (seat : ℕ) (v : Hand T) → tasks.Finds Accounted seat v (FoundEmpty v)
  finds seat v views kept at = (views, seat, kept, at)

  pub finds_few : (seat few : ℕ) (v : Hand T) → few ≡ 0 → tasks.FindsFew Accounted few seat v (FoundEmpty v)
  finds_few seat few v zero [] views short kept at = (views, seat, kept, at)
  finds_few seat few v zero (x ∷ xs) views short kept at = absurd (omega arith)

  pub deals : (seat : ℕ) (v : Hand T) → 1 < v.parts
      → tasks.Forks Accounted seat v (hand v.never_empty v.owners (v.parts - 1) v.offered v.taken)
      (hand v.never_empty 0 1 [] [])
  deals seat v parts items views kept at =
      let l : Hand T = hand v.never_empty v.owners (v.parts - 1) v.offered v.taken in
      let r : Hand T = hand v.never_empty 0 1 [] [] in
      let less : List (Hand T) = set views seat l in
      let step : (f : Hand T → ℕ) → sum_by f (less ++ r ∷ []) + f v ≡ sum_by f views + f l + f r = λ f. let t =
      total-set f views seat v l at in let u = total-snoc f less r in omega arith in
      record {
        may_be_empty = each-snoc may_empty less r
            (each-set may_empty views seat l kept.may_be_empty (kept.may_be_empty seat v at))
            (kept.may_be_empty seat v at);
        owners = (let t = step (λ u. u.owners) in let p = kept.owners in omega arith);
        parts = (let t = step (λ u. u.parts) in let p = kept.parts in omega arith);
        offer = each-snoc may_offer less r (each-set may_offer views seat l kept.offer (kept.offer seat v at))
            (λ _. refl);
        take = each-snoc may_take less r (each-set may_take views seat l kept.take (λ none. absurd (omega arith)))
            (λ _. refl);
        bounded = (let t = step (λ u. length u.offered) in let p = kept.bounded in omega arith);
        counted = (let t = step (λ u. length u.offered) in let u = step (λ u. length u.taken) in let p =
            kept.counted in omega arith);
        balanced = λ weight. let t = step (λ u. sum_by weight u.offered) in let u =
            step (λ u. sum_by weight u.taken) in let p = kept.balanced weight in omega arith;
      }

  pub gathers : (seat : ℕ) (v : Hand T) (other : ℕ) (w : Hand T)
      → tasks.Merges Accounted seat v other w
      (hand v.never_empty (v.owners + w.owners) (v.parts + w.parts) (v.offered ++ w.offered) (v.taken ++ w.taken))
      (hand 0 0 0 [] [])
  gathers seat v other w items views kept at apart there =
      let all : Hand T = hand v.never_empty (v.owners + w.owners) (v.parts + w.parts) (v.offered ++ w.offered)
      (v.taken ++ w.taken) in
      let spent : Hand T = hand 0 0 0 [] [] in
      let more : List (Hand T) = set views seat all in
      let was : get_elem? views other ≡ some w = sym (set_else views seat other all apart) ∙ there in
      let step : (f : Hand T → ℕ) → sum_by f (set more other spent) + f v + f w ≡ sum_by f views + f all + f spent =
      λ f. let t = total-set f views seat v all at in let u = total-set f more other w spent there in omega arith in
      record {
        may_be_empty = each-set may_empty more other spent
            (each-set may_empty views seat all kept.may_be_empty (kept.may_be_empty seat v at)) refl;
        owners = (let t = step (λ u. u.owners) in let p = kept.owners in omega arith);
        parts = (let t = step (λ u. u.parts) in let p = kept.parts in omega arith);
        offer = each-set may_offer more other spent
            (each-set may_offer views seat all kept.offer
            (λ none. both_empty v.offered w.offered (kept.offer seat v at (omega arith))
            (kept.offer other w was (omega arith)))) (λ _. refl);
        take = each-set may_take more other spent
            (each-set may_take views seat all kept.take
            (λ none. both_empty v.taken w.taken (kept.take seat v at (omega arith))
            (kept.take other w was (omega arith)))) (λ _. refl);
        bounded = (let t = step (λ u. length u.offered) in let a = length-append v.offered w.offered in let p =
            kept.bounded in omega arith);
        counted = (let t = step (λ u. length u.offered) in let u = step (λ u. length u.taken) in let a =
            length-append v.offered w.offered in let b = length-append v.taken w.taken in let p =
            kept.counted in omega arith);
        balanced = λ weight.
            let t = step (λ u. sum_by weight u.offered) in
            let u = step (λ u. sum_by weight u.taken) in
            let a = sum_by-append weight v.offered w.offered in
            let b = sum_by-append weight v.taken w.taken in
            let p = kept.balanced weight in
            omega arith;
      }
    where
      both_empty : (xs ys : List T) → xs ≡ [] → ys ≡ [] → xs ++ ys ≡ []
      both_empty xs ys e f = ap (λ l. l ++ ys) e ∙ f

  -- what the owner learns where the pool is empty, and what others than the owner took then
  pub handed : (v : Hand T) (workers : ℕ) → v.owners ≡ 1 → v.parts + workers ≡ 1025 → FoundEmpty v
      → (v.never_empty ≡ 0) × ((others : List T) × SameItems v.offered (v.taken ++ others))
      × (workers ≡ 0 → SameItems v.offered v.taken)
  handed v workers owner parts found =
      let views : List (Hand T) = found.0 in
      let seat : ℕ = found.1 in
      let kept : Accounted [] views = found.2 in
      let at : get_elem? views seat ≡ some v = found.3 in
      let blank : Hand T = hand 0 0 0 [] [] in
      let rest : List (Hand T) = set views seat blank in
      let offered : (weight : T → ℕ) → sum_by (λ u. sum_by weight u.offered) views ≡ sum_by weight v.offered =
      offered_weight [] views seat v kept at owner in
      let whole = kept.parts in (
        kept.may_be_empty seat v at,
        (
          flat_map (λ u. u.taken) rest,
          λ weight.
              let p = kept.balanced weight in
              let q = offered weight in
              let t = total-set (λ u. sum_by weight u.taken) views seat v blank at in
              let a = sum_by-append weight v.taken (flat_map (λ u. u.taken) rest) in
              let b = total_flat weight (λ u. u.taken) rest in
              omega arith,
        ),
        λ alone. λ weight.
            let p = kept.balanced weight in
            let q = offered weight in
            let t = total_alone (λ u. u.parts) (λ u. sum_by weight u.taken) views seat v
            (λ j u there none. ap (sum_by weight) (kept.take j u there none)) at (omega arith) in
            omega arith,
      )
