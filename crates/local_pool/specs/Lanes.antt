-- The rule over the turns in a queue and the views of all its passes, and what a step does to the
-- view of the pass that takes it.
use Rattle.std.specs.Prelude.{◌≡◌, ◌≢◌, ℕ, ◌+◌, ◌<◌, All, List, [], ◌∷◌, ◌++◌, length, sum_by, Option, Some}
use mathlib.Core.Option.{some}
use lib.ListN.{get_elem?}
use Rattle.local_pool.specs.declared.lane.Lane.{Lane}
use Rattle.local_pool.specs.Items.{numbered}

-- all numbers of the list are below n
abbrev pub AllBelow : {D : Type 0} → ℕ → List (ℕ × D) → Type 0
AllBelow n xs = All (λ p. p.0 < n) xs

module _ {D S : Type 0} where
  abbrev pub lane : ℕ → ℕ → List (ℕ × D) → List (ℕ × D) → Option S → Lane D S
  lane never parts put taken stamp = record { never = never; parts = parts; put = put; taken = taken; stamp = stamp }

  -- who has no part has put nothing and taken nothing
  abbrev pub PartsAct : List (Lane D S) → Type 0
  PartsAct views = (seat : ℕ) (v : Lane D S) → get_elem? views seat ≡ some v → v.parts ≡ 0 → (v.put ≡ []) × (v.taken ≡ [])

  -- who has a part knows the stamp of the queue, or that it has none yet
  abbrev pub PartsKnow : Option S → List (Lane D S) → Type 0
  PartsKnow mark views = (seat : ℕ) (v : Lane D S) → get_elem? views seat ≡ some v → 0 < v.parts → v.stamp ≡ mark

  -- The queue may have any number of turns: `never` is 0 in each view, while n + 1 would stand for
  -- a number n of turns that it never has. It is there so that who says how many turns there were
  -- has to name a lesson of that very call by which there were just so many; of which queue, no
  -- clause says. For only this rule says that it is 0, and who finds n turns is told that it isn't
  -- n + 1, and no more: no invariant of a pass says anything of it. Without it, who finds some
  -- turns could make up other views, by which there were more, or none, and these would fit
  abbrev pub MayHaveAny : List (Lane D S) → Type 0
  MayHaveAny views = (seat : ℕ) (v : Lane D S) → get_elem? views seat ≡ some v → v.never ≡ 0

  -- the turn gets a number above all that this pass put, and goes to the end of what it put
  abbrev pub Puts : Lane D S → D → Lane D S → Type 0
  Puts v turn w = (number : ℕ) × (w ≡ lane v.never v.parts (v.put ++ (number, turn) ∷ []) v.taken v.stamp) × AllBelow number v.put

module _ {D S : Type 0} (stamp_of : D → S) where
  -- The turns that were put have one order, in which `gone` come first and then those in the queue.
  -- Each number of that order is put by one pass, and those of `gone` are taken by one pass. There
  -- are 1,025 parts, one for each pass, and the queue's. All turns have one stamp, the queue's,
  -- which it has from the first turn on
  pub record Queued (items : List D) (views : List (Lane D S)) : Type 0 where
    pub gone : List D
    pub mark : Option S
    pub parts : sum_by (λ v. v.parts) views ≡ 1025
    pub act : PartsAct views
    pub put : (weight : ℕ × D → ℕ) → sum_by (λ v. sum_by weight v.put) views ≡ sum_by weight (numbered (gone ++ items))
    pub taken : (weight : ℕ × D → ℕ) → sum_by (λ v. sum_by weight v.taken) views ≡ sum_by weight (numbered gone)
    pub known : PartsKnow mark views
    pub alike : All (λ turn. Some (stamp_of turn) ≡ mark) (gone ++ items)

  -- the whole rule
  abbrev pub Ruled : List D → List (Lane D S) → Type 0
  Ruled items views = Queued items views × MayHaveAny views

  -- the first turn that is put gets the number 0, and its stamp is the queue's
  abbrev pub Marks : Lane D S → D → Lane D S → Type 0
  Marks v turn w = w ≡ lane v.never v.parts (v.put ++ (0, turn) ∷ []) v.taken (Some (stamp_of turn))

  -- the turn has the stamp of the queue and a number above all that this pass took, and goes to the
  -- end of what it took. A pass with all parts takes the numbers in turn, no more than it put
  abbrev pub Takes : Lane D S → D → Lane D S → Type 0
  Takes v turn w = (number : ℕ) × (w ≡ lane v.never v.parts v.put (v.taken ++ (number, turn) ∷ []) v.stamp) × AllBelow number v.taken
      × (v.parts ≡ 1025 → (number ≡ length v.taken) × (number < length v.put)) × (v.stamp ≡ Some (stamp_of turn))

  -- at one moment the queue had these turns, and this pass found so many, as its `never` tells,
  -- which isn't one more
  abbrev pub Found : Lane D S → List D → Type 0
  Found v items = (views : List (Lane D S)) × (seat : ℕ) × Queued items views × (get_elem? views seat ≡ some v) × (v.never ≢ length items + 1)
