-- Each step on the queue of turns keeps its rule.
use Rattle.std.proofs.Common.{◌≡◌, ◌≢◌, ℕ, ◌+◌, ◌-◌, ◌<◌, All, List, [], ◌∷◌, ◌++◌, append_assoc, append-nil, length, length-append, set, sum_by, Option, None, Some, sym, refl, ap, ◌∙◌, subst, ⊎_elim, arith}
use Rattle.std.proofs.lemmas.List.Elements.{All-nil, All-head, All-tail, All-push}
use Rattle.std.proofs.lemmas.List.Sums.{sum_by-append}
use Rattle.std.proofs.lemmas.Option.{none-some}
use mathlib.Core.Option.{some, some-ne-none}
use lib.ListN.{get_elem?}
use Rattle.crossbeam_queue.specs.Fifo as fifo
use Rattle.crossbeam_queue.proofs.Lists.{at_set, set_else}
use Rattle.local_pool.specs.declared.lane.Lane.{Lane}
use Rattle.local_pool.specs.Items.{SameItems, numbered}
use Rattle.local_pool.specs.Lanes.{lane, Queued, Ruled, AllBelow, Marks, Puts, Takes, Found}
use Rattle.local_pool.proofs.Numbers.{late, sum_by-numbered_push, no_number_late, all_early, length-numbered_from}
use Rattle.local_pool.proofs.Totals.{total-set, total-snoc, le_total, total_alone, length_same, each-set, each-snoc}

-- what holds of all holds of each
all_middle : {D : Type 0} (P : D → Type 0) (xs : List D) (x : D) (ys : List D) → All P (xs ++ x ∷ ys) → P x
all_middle P [] x ys h = All-head P x ys h
all_middle P (y ∷ xs) x ys h = all_middle P xs x ys (All-tail P y (xs ++ x ∷ ys) h)

abbrev pub has : {D S : Type 0} → (D → S) → Option S → D → Type 0
has stamp_of mark turn = Some (stamp_of turn) ≡ mark

-- where there is no stamp yet, there is no turn
no_turn : {D S : Type 0} (stamp_of : D → S) (turns : List D) → All (has stamp_of None) turns → turns ≡ []
no_turn stamp_of [] alike = refl
no_turn stamp_of (x ∷ xs) alike = absurd (none-some (stamp_of x) (sym (All-head (has stamp_of None) x xs alike)))

module _ {D S : Type 0} where
  abbrev pub may_act : Lane D S → Type 0
  may_act v = v.parts ≡ 0 → (v.put ≡ []) × (v.taken ≡ [])

  abbrev may_have : Lane D S → Type 0
  may_have v = v.never ≡ 0

  abbrev pub knows : Option S → Lane D S → Type 0
  knows mark v = 0 < v.parts → v.stamp ≡ mark

  -- what a view has of the numbers is below their count
  below : (numbers : Lane D S → List (ℕ × D)) (all : List D) (views : List (Lane D S)) (seat : ℕ) (v : Lane D S)
      → get_elem? views seat ≡ some v
      → ((weight : ℕ × D → ℕ) → sum_by (λ u. sum_by weight (numbers u)) views ≡ sum_by weight (numbered all))
      → AllBelow (length all) (numbers v)
  below numbers all views seat v at counted =
      let weight : ℕ × D → ℕ = late (length all) in
      let part = le_total (λ u. sum_by weight (numbers u)) views seat v at in
      let whole = counted weight in
      let none = no_number_late all in
      all_early (length all) (numbers v) (omega arith)

module _ {D S : Type 0} {stamp_of : D → S} where
  -- a queue at its start
  pub begins : Ruled stamp_of [] (lane 0 1025 [] [] None ∷ [])
  begins = (
    record {
      gone = [];
      mark = None;
      parts = refl;
      act = each-snoc may_act [] (lane 0 1025 [] [] None) (λ i v e. absurd (some-ne-none v (sym e)))
          (λ _. (refl, refl));
      put = λ weight. refl;
      taken = λ weight. refl;
      known = each-snoc (knows None) [] (lane 0 1025 [] [] None) (λ i v e. absurd (some-ne-none v (sym e))) (λ _. refl);
      alike = All-nil (has stamp_of None);
    },
    each-snoc may_have [] (lane 0 1025 [] [] None) (λ i v e. absurd (some-ne-none v (sym e))) refl,
  )

  -- a pass with all parts put and took all that was put and taken
  whole_put : (items : List D) (views : List (Lane D S)) (seat : ℕ) (v : Lane D S) → Queued stamp_of items views
      → get_elem? views seat ≡ some v → v.parts ≡ 1025 → (weight : ℕ × D → ℕ)
      → sum_by (λ u. sum_by weight u.put) views ≡ sum_by weight v.put
  whole_put items views seat v kept at whole weight =
      let p = kept.parts in
      total_alone (λ u. u.parts) (λ u. sum_by weight u.put) views seat v
      (λ j u there none. ap (sum_by weight) (kept.act j u there none).0) at (omega arith)

  whole_taken : (items : List D) (views : List (Lane D S)) (seat : ℕ) (v : Lane D S) → Queued stamp_of items views
      → get_elem? views seat ≡ some v → v.parts ≡ 1025 → (weight : ℕ × D → ℕ)
      → sum_by (λ u. sum_by weight u.taken) views ≡ sum_by weight v.taken
  whole_taken items views seat v kept at whole weight =
      let p = kept.parts in
      total_alone (λ u. u.parts) (λ u. sum_by weight u.taken) views seat v
      (λ j u there none. ap (sum_by weight) (kept.act j u there none).1) at (omega arith)

  whole_lengths : (items : List D) (views : List (Lane D S)) (seat : ℕ) (v : Lane D S)
      (kept : Queued stamp_of items views) → get_elem? views seat ≡ some v → v.parts ≡ 1025
      → (length v.taken ≡ length kept.gone) × (length v.put ≡ length kept.gone + length items)
  whole_lengths items views seat v kept at whole =
      let all : List D = kept.gone ++ items in
      let long = length-append kept.gone items in
      let put = length_same v.put (numbered all) (λ weight. sym (whole_put items views seat v kept at whole weight)
      ∙ kept.put weight) in
      let taken = length_same v.taken (numbered kept.gone)
      (λ weight. sym (whole_taken items views seat v kept at whole weight) ∙ kept.taken weight) in
      let a = length-numbered_from 0 all in
      let b = length-numbered_from 0 kept.gone in
      (omega arith, omega arith)

  next_taken : (items : List D) (views : List (Lane D S)) (seat : ℕ) (v : Lane D S) (kept : Queued stamp_of items views)
      → get_elem? views seat ≡ some v → v.parts ≡ 1025 → 0 < length items
      → (length kept.gone ≡ length v.taken) × (length kept.gone < length v.put)
  next_taken items views seat v kept at whole some_left = let both =
      whole_lengths items views seat v kept at whole in (omega arith, omega arith)

  -- what a pass with all parts learns: the order of what it took, and how many turns are left
  pub learned : (v : Lane D S) (items : List D) → v.parts ≡ 1025 → Found stamp_of v items
      → ((gone : List D) × SameItems v.taken (numbered gone)) × (length v.put ≡ length v.taken + length items)
  learned v items whole found =
      let kept : Queued stamp_of items found.0 = found.2 in
      let both = whole_lengths items found.0 found.1 v kept found.3 whole in (
        (kept.gone, λ weight. sym (whole_taken items found.0 found.1 v kept found.3 whole weight) ∙ kept.taken weight),
        omega arith,
      )

  -- where none is left, all that was put is taken
  pub settled : (v : Lane D S) (items : List D) → v.parts ≡ 1025 → length items ≡ 0 → Found stamp_of v items
      → SameItems v.put v.taken
  settled v [] whole none found = λ weight.
      let kept : Queued stamp_of [] found.0 = found.2 in
      let put = whole_put [] found.0 found.1 v kept found.3 whole weight in
      let taken = whole_taken [] found.0 found.1 v kept found.3 whole weight in
      let p = kept.put weight in
      let q = kept.taken weight in
      let same = ap (λ l. sum_by weight (numbered l)) (append-nil kept.gone) in
      omega arith
  settled v (x ∷ xs) whole none found = absurd (omega arith)

  -- who has all parts is the only one who has any
  alone : (items : List D) (views : List (Lane D S)) (seat : ℕ) (v : Lane D S) → Queued stamp_of items views
      → get_elem? views seat ≡ some v → v.parts ≡ 1025
      → (j : ℕ) (u : Lane D S) → j ≢ seat → get_elem? views j ≡ some u → u.parts ≡ 0
  alone items views seat v kept at whole j u apart there =
      let none : Lane D S = lane 0 0 [] [] None in
      let t = total-set (λ (x : Lane D S). x.parts) views seat v none at in
      let l = le_total (λ (x : Lane D S). x.parts) (set views seat none) j u (set_else views seat j none apart
      ∙ there) in
      let p = kept.parts in
      omega arith

  pub marks : (room seat : ℕ) (v : Lane D S) (turn : D) → v.parts ≡ 1025 → v.stamp ≡ None
      → fifo.Pushes (Ruled stamp_of) room seat v turn (Marks stamp_of v turn)
  marks room seat v turn whole blank items views _ ruled at =
      let kept : Queued stamp_of items views = ruled.0 in
      let all : List D = kept.gone ++ items in
      let mark : Option S = Some (stamp_of turn) in
      let w : Lane D S = lane v.never v.parts (v.put ++ (0, turn) ∷ []) v.taken mark in
      let unmarked : kept.mark ≡ None = sym (kept.known seat v at (omega arith)) ∙ blank in
      let empty : all ≡ [] = no_turn stamp_of all (subst (λ m. All (has stamp_of m) all) unmarked kept.alike) in (
        w,
        (
          record {
            gone = kept.gone;
            mark = mark;
            parts = (let t = total-set (λ u. u.parts) views seat v w at in let p = kept.parts in omega arith);
            act = each-set may_act views seat w kept.act (λ none. absurd (omega arith));
            put = λ weight.
                let t = total-set (λ u. sum_by weight u.put) views seat v w at in
                let a = sum_by-append weight v.put ((0, turn) ∷ []) in
                let more = ap (λ l. sum_by weight (numbered l)) (append_assoc kept.gone items (turn ∷ [])) in
                let next = sum_by-numbered_push weight all turn in
                let first = ap (λ l. weight (length l, turn)) empty in
                let p = kept.put weight in
                omega arith;
            taken = λ weight. let t = total-set (λ u. sum_by weight u.taken) views seat v w at in let p =
                kept.taken weight in omega arith;
            known = λ j u e some_part. ⊎_elim (λ same. ap (λ (x : Lane D S). x.stamp) (sym same.1))
                (λ other. absurd (let n = alone items views seat v kept at whole j u other.0 other.1 in omega arith))
                (at_set views seat j w u e);
            alike = subst (λ l. All (has stamp_of mark) l) (append_assoc kept.gone items (turn ∷ []))
                (subst (λ l. All (has stamp_of mark) (l ++ turn ∷ [])) (sym empty)
                (All-push (has stamp_of mark) [] turn (All-nil (has stamp_of mark)) refl));
          },
          each-set may_have views seat w ruled.1 (ruled.1 seat v at),
        ),
        refl,
      )

  pub puts : (room seat : ℕ) (v : Lane D S) (turn : D) → 0 < v.parts → v.stamp ≡ Some (stamp_of turn)
      → fifo.Pushes (Ruled stamp_of) room seat v turn (Puts v turn)
  puts room seat v turn some_part same items views _ ruled at =
      let kept : Queued stamp_of items views = ruled.0 in
      let all : List D = kept.gone ++ items in
      let n : ℕ = length all in
      let w : Lane D S = lane v.never v.parts (v.put ++ (n, turn) ∷ []) v.taken v.stamp in
      let mark = kept.known seat v at some_part in (
        w,
        (
          record {
            gone = kept.gone;
            mark = kept.mark;
            parts = (let t = total-set (λ u. u.parts) views seat v w at in let p = kept.parts in omega arith);
            act = each-set may_act views seat w kept.act (λ none. absurd (omega arith));
            put = λ weight.
                let t = total-set (λ u. sum_by weight u.put) views seat v w at in
                let a = sum_by-append weight v.put ((n, turn) ∷ []) in
                let more = ap (λ l. sum_by weight (numbered l)) (append_assoc kept.gone items (turn ∷ [])) in
                let next = sum_by-numbered_push weight all turn in
                let p = kept.put weight in
                omega arith;
            taken = λ weight. let t = total-set (λ u. sum_by weight u.taken) views seat v w at in let p =
                kept.taken weight in omega arith;
            known = each-set (knows kept.mark) views seat w kept.known (λ _. mark);
            alike = subst (λ l. All (has stamp_of kept.mark) l) (append_assoc kept.gone items (turn ∷ []))
                (All-push (has stamp_of kept.mark) all turn kept.alike (sym same ∙ mark));
          },
          each-set may_have views seat w ruled.1 (ruled.1 seat v at),
        ),
        (n, refl, below (λ u. u.put) all views seat v at kept.put),
      )

  pub takes : (seat : ℕ) (v : Lane D S) → 0 < v.parts → fifo.Pops (Ruled stamp_of) seat v (Takes stamp_of v)
  takes seat v some_part turn items views ruled at =
      let kept : Queued stamp_of (turn ∷ items) views = ruled.0 in
      let n : ℕ = length kept.gone in
      let w : Lane D S = lane v.never v.parts v.put (v.taken ++ (n, turn) ∷ []) v.stamp in
      let mark = kept.known seat v at some_part in
      let is : has stamp_of kept.mark turn = all_middle (has stamp_of kept.mark) kept.gone turn items kept.alike in (
        w,
        (
          record {
            gone = kept.gone ++ turn ∷ [];
            mark = kept.mark;
            parts = (let t = total-set (λ u. u.parts) views seat v w at in let p = kept.parts in omega arith);
            act = each-set may_act views seat w kept.act (λ none. absurd (omega arith));
            put = λ weight.
                let t = total-set (λ u. sum_by weight u.put) views seat v w at in
                let same = ap (λ l. sum_by weight (numbered l)) (append_assoc kept.gone (turn ∷ []) items) in
                let p = kept.put weight in
                omega arith;
            taken = λ weight.
                let t = total-set (λ u. sum_by weight u.taken) views seat v w at in
                let a = sum_by-append weight v.taken ((n, turn) ∷ []) in
                let next = sum_by-numbered_push weight kept.gone turn in
                let p = kept.taken weight in
                omega arith;
            known = each-set (knows kept.mark) views seat w kept.known (λ _. mark);
            alike = subst (λ l. All (has stamp_of kept.mark) l)
                (sym (append_assoc kept.gone (turn ∷ []) items)) kept.alike;
          },
          each-set may_have views seat w ruled.1 (ruled.1 seat v at),
        ),
        (
          n,
          refl,
          below (λ u. u.taken) kept.gone views seat v at kept.taken,
          λ whole. next_taken (turn ∷ items) views seat v kept at whole (omega arith),
          mark ∙ sym is,
        ),
      )

  pub finds : (seat : ℕ) (v : Lane D S) → fifo.Learns (Ruled stamp_of) seat v (Found stamp_of v)
  finds seat v items views ruled at = (
    views,
    seat,
    ruled.0,
    at,
    λ never. let none =
        ruled.1 seat v at in absurd (omega arith),
  )

  pub deals : (seat : ℕ) (v : Lane D S) → 1 < v.parts
      → fifo.Forks (Ruled stamp_of) seat v (lane v.never (v.parts - 1) v.put v.taken v.stamp)
      (lane v.never 1 [] [] v.stamp)
  deals seat v parts items views ruled at =
      let kept : Queued stamp_of items views = ruled.0 in
      let l : Lane D S = lane v.never (v.parts - 1) v.put v.taken v.stamp in
      let r : Lane D S = lane v.never 1 [] [] v.stamp in
      let mark = kept.known seat v at (omega arith) in
      let less : List (Lane D S) = set views seat l in
      let step : (f : Lane D S → ℕ) → sum_by f (less ++ r ∷ []) + f v ≡ sum_by f views + f l + f r = λ f. let t =
      total-set f views seat v l at in let u = total-snoc f less r in omega arith in (
        record {
          gone = kept.gone;
          mark = kept.mark;
          parts = (let t = step (λ u. u.parts) in let p = kept.parts in omega arith);
          act = each-snoc may_act less r (each-set may_act views seat l kept.act (λ none. absurd (omega arith)))
              (λ _. (refl, refl));
          put = λ weight. let t = step (λ u. sum_by weight u.put) in let p = kept.put weight in omega arith;
          taken = λ weight. let t = step (λ u. sum_by weight u.taken) in let p = kept.taken weight in omega arith;
          known = each-snoc (knows kept.mark) less r (each-set (knows kept.mark) views seat l kept.known (λ _. mark))
              (λ _. mark);
          alike = kept.alike;
        },
        each-snoc may_have less r (each-set may_have views seat l ruled.1 (ruled.1 seat v at)) (ruled.1 seat v at),
      )

  pub gathers : (seat : ℕ) (v : Lane D S) (other : ℕ) (w : Lane D S) → 0 < v.parts
      → fifo.Merges (Ruled stamp_of) seat v other w
      (lane v.never (v.parts + w.parts) (v.put ++ w.put) (v.taken ++ w.taken) v.stamp) (lane 0 0 [] [] None)
  gathers seat v other w some_part items views ruled at apart there =
      let kept : Queued stamp_of items views = ruled.0 in
      let all : Lane D S = lane v.never (v.parts + w.parts) (v.put ++ w.put) (v.taken ++ w.taken) v.stamp in
      let spent : Lane D S = lane 0 0 [] [] None in
      let more : List (Lane D S) = set views seat all in
      let was : get_elem? views other ≡ some w = sym (set_else views seat other all apart) ∙ there in
      let step : (f : Lane D S → ℕ) → sum_by f (set more other spent) + f v + f w ≡ sum_by f views + f all + f spent =
      λ f. let t = total-set f views seat v all at in let u = total-set f more other w spent there in omega arith in (
        record {
          gone = kept.gone;
          mark = kept.mark;
          parts = (let t = step (λ u. u.parts) in let p = kept.parts in omega arith);
          act = each-set may_act more other spent
              (each-set may_act views seat all kept.act (λ none.
              let a = kept.act seat v at (omega arith) in
              let b = kept.act other w was (omega arith) in
              (both_empty v.put w.put a.0 b.0, both_empty v.taken w.taken a.1 b.1)))
              (λ _. (refl, refl));
          put = λ weight. let t = step (λ u. sum_by weight u.put) in let a = sum_by-append weight v.put w.put in let p =
              kept.put weight in omega arith;
          taken = λ weight. let t = step (λ u. sum_by weight u.taken) in let a =
              sum_by-append weight v.taken w.taken in let p = kept.taken weight in omega arith;
          known = each-set (knows kept.mark) more other spent
              (each-set (knows kept.mark) views seat all kept.known (λ _. kept.known seat v at some_part))
              (λ some_part. absurd (omega arith));
          alike = kept.alike;
        },
        each-set may_have more other spent (each-set may_have views seat all ruled.1 (ruled.1 seat v at)) refl,
      )
    where
      both_empty : (xs ys : List (ℕ × D)) → xs ≡ [] → ys ≡ [] → xs ++ ys ≡ []
      both_empty xs ys e f = ap (λ l. l ++ ys) e ∙ f
