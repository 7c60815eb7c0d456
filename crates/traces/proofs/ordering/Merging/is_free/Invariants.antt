use Rattle.std.proofs.Common.{◌≡◌, ◌≢◌, ◌<◌, ℕ, [], Some}
use Rattle.std.specs.List.{slice_get}
use Rattle.traces.specs.Merges.{ActorOf}
use Rattle.traces.proofs.ordering.Merging.is_free.Given as goal

-- none of the others before this one holds the seat
abbrev pub invariant-loop-b : goal.invariant-loop-b
invariant-loop-b l = (i : ℕ) (other : ActorOf) → i < l.b → i ≢ l.a → slice_get l.self.actors.items i ≡ Some other
    → other.stands ≡ Some l.seat → other.lines ≡ []
