-- The rule over the tickets in a pool and the views of all its tokens, and what a step does to the
-- view of the token that takes it.
use Rattle.std.specs.Prelude.{◌≡◌, ℕ, ◌+◌, ◌-◌, ◌^◌, ◌≤◌, List, [], ◌++◌, length, sum_by}
use mathlib.Core.Option.{some}
use lib.ListN.{get_elem?}
use Rattle.local_pool.specs.declared.law.Hand.{Hand}
use Rattle.local_pool.specs.Items.{AtMost}

module _ {T : Type 0} where
  abbrev pub hand : ℕ → ℕ → ℕ → List T → List T → Hand T
  hand never_empty owners parts offered taken = record { never_empty = never_empty; owners = owners; parts = parts; offered = offered; taken = taken }

  -- who isn't the owner has offered nothing
  abbrev pub OwnerOffers : List (Hand T) → Type 0
  OwnerOffers views = (seat : ℕ) (v : Hand T) → get_elem? views seat ≡ some v → v.owners ≡ 0 → v.offered ≡ []

  -- who has no part has taken nothing
  abbrev pub PartsTake : List (Hand T) → Type 0
  PartsTake views = (seat : ℕ) (v : Hand T) → get_elem? views seat ≡ some v → v.parts ≡ 0 → v.taken ≡ []

  -- The pool may be found empty: `never_empty` is 0 in each view. It is there so that who just says
  -- that the pool was empty isn't proved, but by a lesson of its own. For only this rule says that
  -- it is 0, and only who finds the pool empty is told: no invariant of an owner or of a worker
  -- says it, and a clause does so only where it says that the pool was empty. Without it, who
  -- doesn't look could make up other views, which have taken all tickets, and these would fit
  abbrev pub MayBeEmpty : List (Hand T) → Type 0
  MayBeEmpty views = (seat : ℕ) (v : Hand T) → get_elem? views seat ≡ some v → v.never_empty ≡ 0

  -- what was offered is what was taken and what the pool has, however tickets are weighed. There is
  -- one owner, and there are 1,025 parts: one for each worker, and the owner's
  pub record Accounted (items : List T) (views : List (Hand T)) : Type 0 where
    pub may_be_empty : MayBeEmpty views
    pub owners : sum_by (λ v. v.owners) views ≡ 1
    pub parts : sum_by (λ v. v.parts) views ≡ 1025
    pub offer : OwnerOffers views
    pub take : PartsTake views
    pub bounded : sum_by (λ v. length v.offered) views ≤ 2 ^ 64 - 1
    pub counted : sum_by (λ v. length v.offered) views ≡ sum_by (λ v. length v.taken) views + length items
    pub balanced : (weight : T → ℕ) → sum_by (λ v. sum_by weight v.offered) views ≡ sum_by (λ v. sum_by weight v.taken) views + sum_by weight items

  abbrev pub Offers : Hand T → List T → Hand T → Type 0
  Offers v xs w = w ≡ hand v.never_empty v.owners v.parts (v.offered ++ xs) v.taken

  -- no more is taken than can be offered in all, and by the owner no ticket more often than it
  -- offered it
  abbrev pub Takes : Hand T → List T → Hand T → Type 0
  Takes v xs w = (w ≡ hand v.never_empty v.owners v.parts v.offered (v.taken ++ xs)) × (length w.taken ≤ 2 ^ 64 - 1)
      × (v.owners ≡ 1 → (length w.taken ≤ length w.offered) × AtMost w.taken w.offered)

  -- at one moment the pool had no ticket, and this token found it so, as its `never_empty` tells,
  -- which is 0
  abbrev pub FoundEmpty : Hand T → Type 0
  FoundEmpty v = (views : List (Hand T)) × (seat : ℕ) × Accounted [] views × (get_elem? views seat ≡ some v)
