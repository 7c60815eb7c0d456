use Rattle.std.proofs.Common.{◌≡◌, ◌∷◌, ◌++◌, List, [], length, map, ap, sym, ◌∙◌, rules, refl, arith}
use Rattle.std.proofs.lemmas.List.{append-nil}
use Rattle.chronicle.specs.Seats.{first_last, seat_of}
use Rattle.chronicle.proofs.Seats.{map-snoc}
use Rattle.chronicle.proofs.chronicle.by_place.Goals as goal

no_items : {X : Type 0} (xs : List X) → length xs ≡ 0 → xs ≡ []
no_items [] none = refl
no_items (x ∷ xs) none = absurd (omega (arith, none))

-- the seats of all that were yielded, and the first one behind them
pub returns : goal.returns
returns g c =
    let split : c.args.bare.items ≡ c.remove-first.result ∷ c.remove-first.new.self.items = search rules in
    let last : c.push-2.new.self.items ≡ c.loop-seat.seats.items ++ seat_of c.remove-first.result ∷ [] = search rules in
    let given : c.into_iter-seat-iterator.result.rest.items ≡ c.remove-first.new.self.items = search rules in
    let empty = no_items c.loop-seat.seat-iterator.rest.items (sym c.loop-seat.seat-iterator.rest.ok.0
    ∙ c.in-None.ensures.steps.0) in
    let all : c.loop-seat.yielded ≡ c.remove-first.new.self.items =
    sym (append-nil c.loop-seat.yielded) ∙ ap (λ l. c.loop-seat.yielded ++ l) (sym empty)
    ∙ c.loop-seat.invariant.rest ∙ given in
    last ∙ ap (λ l. l ++ seat_of c.remove-first.result ∷ []) (c.loop-seat.invariant.seats ∙ ap (map seat_of) all)
    ∙ sym (map-snoc c.remove-first.new.self.items c.remove-first.result)
    ∙ sym (ap (λ l. map seat_of (first_last l)) split)
