-- What is known of the value once all seats are back.
use Rattle.std.proofs.Common.{◌≡◌, ℕ, ◌≤◌, List, length, Option, None, Some}
use mathlib.Core.Option.{some}
use lib.ListN.{get_elem?}
use Rattle.atomic_table.specs.Table.{Final, Seen}
use Rattle.turn_lock.specs.declared.law.SeatView.{SeatView}
use Rattle.turn_lock.specs.declared.law.Terms.{Terms}
use Rattle.turn_lock.specs.Views.{Accounted}
use Rattle.turn_lock.specs.Seats.{Tells}
use Rattle.turn_lock.proofs.Moves.{closes}
use Rattle.turn_lock.proofs.Tells.{tells}

pub closed : {D E A : Type 0} (history : D → List E) (actor_of : E → ℕ) (fixed_of : D
    → A) (terms : Terms A) (id : ℕ) (v : SeatView E A) (words : List ℕ) (slots : List (Option D)) (found : Option D)
    → v.taken ≡ None → terms.actors ≤ length v.claims
    → Final (Seen (Accounted history actor_of fixed_of terms) id v) words slots → get_elem? slots 0 ≡ some found
    → (back : D) × (found ≡ Some back) × (fixed_of back ≡ terms.fixed) × Tells actor_of v.claims (history back)
closed history actor_of fixed_of terms id v words slots found free whole final at =
    let t = closes history actor_of fixed_of terms id v words slots found free whole final at in
    (t.0, t.1, t.2, tells actor_of terms.actors v.claims (history t.0) t.3 t.4 t.5)
