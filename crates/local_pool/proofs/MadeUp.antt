-- Views that who doesn't look could make up. All that they lack is what a look tells of
-- `never_empty` and of `never`.
use Rattle.std.proofs.Common.{◌≡◌, ◌≢◌, ℕ, ◌+◌, ◌-◌, ◌^◌, ◌<◌, ◌≤◌, All, List, [], ◌∷◌, ◌++◌, append_assoc, append-nil, length, length-append, set, flat_map, sum_by, None, Some, sym, refl, ap, ◌∙◌, subst, arith}
use Rattle.std.proofs.lemmas.List.Elements.{All-append, All-push}
use Rattle.std.proofs.lemmas.List.Sums.{sum_by-append}
use mathlib.Core.Option.{some, some-ne-none}
use Rattle.local_pool.specs.declared.law.Hand.{Hand}
use Rattle.local_pool.specs.declared.lane.Lane.{Lane}
use Rattle.local_pool.specs.Hands.{hand, FoundEmpty}
use Rattle.local_pool.specs.Items.{numbered, numbered_from}
use Rattle.local_pool.specs.Lanes.{lane, Found}
use Rattle.local_pool.specs.Pools.{AllHandedOut, OwnerOf}
use Rattle.local_pool.proofs.Moves.{may_empty, may_offer, may_take}
use Rattle.local_pool.proofs.Numbers.{numbered_from-append, sum_by-numbered_push}
use Rattle.local_pool.proofs.Puts.{has, knows, may_act}
use Rattle.local_pool.proofs.Totals.{Each, each-snoc, total-set, total_flat}

-- what holds of two holds of each
both : {V : Type 0} (F : V → Type 0) (v w : V) → F v → F w → Each F (v ∷ w ∷ [])
both F v w a b = each-snoc F (v ∷ []) w (each-snoc F [] v (λ i u e. absurd (some-ne-none u (sym e))) a) b

module _ {T : Type 0} where
  -- a worker, and an owner that offered just what this worker took
  pub worker_fits : (n : ℕ) (t : List T) → n ≡ 0 → length t ≤ 2 ^ 64 - 1 → FoundEmpty (hand n 0 1 [] t)
  worker_fits n t none few =
      let o : Hand T = hand 0 1 1024 t [] in
      let w : Hand T = hand n 0 1 [] t in (
        o ∷ w ∷ [],
        1,
        record {
          may_be_empty = both may_empty o w refl none;
          owners = refl;
          parts = refl;
          offer = both may_offer o w (λ no_owner. absurd (omega arith)) (λ _. refl);
          take = both may_take o w (λ _. refl) (λ no_part. absurd (omega arith));
          bounded = omega arith;
          counted = omega arith;
          balanced = λ weight. omega arith;
        },
        refl,
      )

  -- an owner that took nothing, and workers that took all that it offered
  pub owner_fits : (o : OwnerOf T) → o.never_empty ≡ 0 → length o.taken ≡ 0 → 0 < o.workers → AllHandedOut o
  owner_fits o none nothing some_worker =
      let empty : (xs : List T) → length xs ≡ 0
      → xs ≡ [] = λ xs. elim xs as (λ l. length l ≡ 0
      → l ≡ []) [ [] ↦ λ _. refl | x ∷ rest ↦ λ e. absurd (omega arith) ] in (
        none,
        (o.offered, λ weight. ap (λ l. sum_by weight (l ++ o.offered)) (sym (empty o.taken nothing))),
        λ no_worker. absurd (omega arith),
      )

module _ {D S : Type 0} {stamp_of : D → S} where
  -- a pass, and one other with all that others put and took, and more
  refit : (v : Lane D S) (items left gone : List D) (put taken : List (ℕ × D)) (found : Found stamp_of v items)
      → v.parts ≡ 1
      → ((weight : ℕ × D → ℕ) → sum_by weight (numbered (gone ++ left))
      ≡ sum_by weight (numbered (found.2.gone ++ items)) + sum_by weight put)
      → ((weight : ℕ × D → ℕ) → sum_by weight (numbered gone)
      ≡ sum_by weight (numbered found.2.gone) + sum_by weight taken)
      → All (has stamp_of found.2.mark) (gone ++ left) → v.never ≢ length left + 1
      → Found stamp_of (lane v.never 1 v.put v.taken v.stamp) left
  refit v items left gone put taken found one puts takes alike never =
      let views : List (Lane D S) = found.0 in
      let seat : ℕ = found.1 in
      let kept = found.2 in
      let at = found.3 in
      let blank : Lane D S = lane 0 0 [] [] None in
      let rest : List (Lane D S) = set views seat blank in
      let w : Lane D S = lane v.never 1 v.put v.taken v.stamp in
      let o : Lane D S = lane 0 1024 (flat_map (λ (u : Lane D S). u.put) rest ++ put)
      (flat_map (λ (u : Lane D S). u.taken) rest ++ taken) v.stamp in
      let mark = kept.known seat v at (omega arith) in (
        w ∷ o ∷ [],
        0,
        record {
          gone = gone;
          mark = kept.mark;
          parts = omega arith;
          act = both may_act w o (λ none. absurd (omega arith)) (λ none. absurd (omega arith));
          put = λ weight.
              let t = total-set (λ (u : Lane D S). sum_by weight u.put) views seat v blank at in
              let a = sum_by-append weight (flat_map (λ (u : Lane D S). u.put) rest) put in
              let b = total_flat weight (λ (u : Lane D S). u.put) rest in
              let p = kept.put weight in
              let q = puts weight in
              omega arith;
          taken = λ weight.
              let t = total-set (λ (u : Lane D S). sum_by weight u.taken) views seat v blank at in
              let a = sum_by-append weight (flat_map (λ (u : Lane D S). u.taken) rest) taken in
              let b = total_flat weight (λ (u : Lane D S). u.taken) rest in
              let p = kept.taken weight in
              let q = takes weight in
              omega arith;
          known = both (knows kept.mark) w o (λ _. mark) (λ _. mark);
          alike = alike;
        },
        refl,
        never,
      )

  -- the other took all turns that were found
  pub none_left : (v : Lane D S) (items : List D) → v.parts ≡ 1 → v.never ≢ 1 → Found stamp_of v items
      → Found stamp_of (lane v.never 1 v.put v.taken v.stamp) []
  none_left v items one never found =
      let gone : List D = found.2.gone in
      let taken : List (ℕ × D) = numbered_from (0 + length gone) items in
      refit v items [] (gone ++ items) [] taken found one
      (λ weight. let same = ap (λ l. sum_by weight (numbered l)) (append-nil (gone ++ items)) in omega arith)
      (λ weight. ap (sum_by weight) (numbered_from-append 0 gone items) ∙ sum_by-append weight (numbered gone) taken)
      (subst (λ l. All (has stamp_of found.2.mark) l) (sym (append-nil (gone ++ items))) found.2.alike)
      (λ is. never (omega arith))

  -- the other put one turn more
  pub one_more : (v : Lane D S) (items : List D) (turn : D) → v.parts ≡ 1 → v.stamp ≡ Some (stamp_of turn)
      → v.never ≢ length items + 2 → Found stamp_of v items
      → Found stamp_of (lane v.never 1 v.put v.taken v.stamp) (items ++ turn ∷ [])
  one_more v items turn one same never found =
      let gone : List D = found.2.gone in
      let all : List D = gone ++ items in
      let mark = found.2.known found.1 v found.3 (omega arith) in
      let more = append_assoc gone items (turn ∷ []) in
      refit v items (items ++ turn ∷ []) gone ((length all, turn) ∷ []) [] found one
      (λ weight. let m = ap (λ l. sum_by weight (numbered l)) more in let next =
      sum_by-numbered_push weight all turn in omega arith)
      (λ weight. omega arith)
      (subst (λ l. All (has stamp_of found.2.mark) l) more
      (All-push (has stamp_of found.2.mark) all turn found.2.alike (sym same ∙ mark)))
      (λ is. never (let long = length-append items (turn ∷ []) in omega arith))

  -- the other took all turns that were found, and put others
  pub others_left : (v : Lane D S) (items left : List D) → v.parts ≡ 1 → All (has stamp_of v.stamp) left
      → v.never ≢ length left + 1 → Found stamp_of v items
      → Found stamp_of (lane v.never 1 v.put v.taken v.stamp) left
  others_left v items left one same never found =
      let gone : List D = found.2.gone in
      let all : List D = gone ++ items in
      let put : List (ℕ × D) = numbered_from (0 + length all) left in
      let taken : List (ℕ × D) = numbered_from (0 + length gone) items in
      let mark = found.2.known found.1 v found.3 (omega arith) in
      refit v items left all put taken found one
      (λ weight. ap (sum_by weight) (numbered_from-append 0 all left) ∙ sum_by-append weight (numbered all) put)
      (λ weight. ap (sum_by weight) (numbered_from-append 0 gone items) ∙ sum_by-append weight (numbered gone) taken)
      (All-append (has stamp_of found.2.mark) all left found.2.alike (subst (λ m. All (has stamp_of m) left) mark same))
      never
