-- Histories: lists of entries, the newest last, each of an actor.
use Rattle.std.specs.Prelude.{◌≡◌, ℕ, Bool, ◌==◌, All, List}
use Rattle.std.specs.List.{filter}

module _ {E : Type 0} (actor_of : E → ℕ) where
  -- whether an entry is this actor's
  abbrev pub is_of : ℕ → E → Bool
  is_of a e = actor_of e == a

  -- an actor's own entries of a history, in their order
  abbrev pub own : ℕ → List E → List E
  own a log = filter (is_of a) log

  -- each entry is this actor's
  abbrev pub AreOf : ℕ → List E → Type 0
  AreOf a entries = All (λ e. actor_of e ≡ a) entries
