-- Claims: actors, each with the entries that it has in a history.
use Rattle.std.specs.Prelude.{◌≡◌, ℕ, zero, suc, ◌+◌, ◌==◌, nat_lt, if◌then◌else◌, List, [], ◌∷◌, map, flat_map}
use Rattle.turn_lock.specs.Histories.{own}

-- what is claimed for an actor: its entries, the newest last
pub record ClaimOf (E : Type 0) : Type 0 where
  pub actor : ℕ
  pub entries : List E

-- how often an actor is among the actors below n: once or not at all
abbrev pub times_below : ℕ → ℕ → ℕ
times_below n a = if nat_lt a n then 1 else 0

module _ {E : Type 0} where
  abbrev pub claim : ℕ → List E → ClaimOf E
  claim actor entries = record { actor = actor; entries = entries }

  -- claims of so many actors, from a on, each with no entries
  abbrev pub empty_claims : ℕ → ℕ → List (ClaimOf E)
  empty_claims a zero = []
  empty_claims a (suc n) = claim a [] ∷ empty_claims (suc a) n

  -- how often an actor is claimed
  abbrev pub times_claimed : ℕ → List (ClaimOf E) → ℕ
  times_claimed a [] = 0
  times_claimed a (c ∷ cs) = (if c.actor == a then 1 else 0) + times_claimed a cs

  -- the entries that are claimed for an actor
  abbrev pub entries_in : List (ClaimOf E) → ℕ → List E
  entries_in claims a = flat_map (λ c. if c.actor == a then c.entries else []) claims

  -- the entries of the first claim
  abbrev pub first_entries : List (ClaimOf E) → List E
  first_entries [] = []
  first_entries (c ∷ cs) = c.entries

  -- the first claim alone, and the others
  abbrev pub first_of : List (ClaimOf E) → List (ClaimOf E)
  first_of [] = []
  first_of (c ∷ cs) = c ∷ []

  abbrev pub rest_of : List (ClaimOf E) → List (ClaimOf E)
  rest_of [] = []
  rest_of (c ∷ cs) = cs

module _ {E : Type 0} (actor_of : E → ℕ) where
  -- each claim has just its actor's own entries of the history
  abbrev pub AreOwn : List (ClaimOf E) → List E → Type 0
  AreOwn [] log = Unit {0}
  AreOwn (c ∷ cs) log = (own actor_of c.actor log ≡ c.entries) × AreOwn cs log

  -- the same actors, each with its own entries of this history
  abbrev pub updated : List E → List (ClaimOf E) → List (ClaimOf E)
  updated log claims = map (λ c. claim c.actor (own actor_of c.actor log)) claims
