use Rattle.std.proofs.Common.{◌≡◌, ◌∙◌, arith, is_some, length, length-take-le, sym, subst, take, true, false}
use Rattle.saved_values.specs.Saved.{StandsAt, is_taken, known_by}
use Rattle.saved_values.proofs.Appending.{not_behind, not_twice, put_last, too_many}
use Rattle.saved_values.proofs.Values.{is_put}
use Rattle.saved_values.proofs.table.SavedTable.append.Goals as goal

pub returns-then-count-ge-MOST_SAVED-clause-refused : goal.returns-then-count-ge-MOST_SAVED-clause-refused
returns-then-count-ge-MOST_SAVED-clause-refused c _ =
    let values = c.self.inside.values in
    let long : length (take c.self.inside.count values) ≡ c.self.inside.count =
    length-take-le c.self.inside.count values (omega (arith, c.self.invariant.0, c.self.invariant.1)) in
    rw (← c.self.view_is) (too_many (take c.self.inside.count values) c.args.value
    (omega (arith, long, c.from-count.ensures, c.if-count-ge-MOST_SAVED.true)))

pub returns-in_default-clause-refused : goal.returns-in_default-clause-refused
returns-in_default-clause-refused c _ =
    let values = c.self.inside.values in
    let saved = subst (λ n. is_some (known_by (take n values) c.args.value.place)
    ≡ true) c.from-count.ensures c.in_default.ensures.saved in
    rw (← c.self.view_is) (not_twice (take c.self.inside.count values) c.args.value saved)

pub returns-then-at-count-clause-refused : goal.returns-then-at-count-clause-refused
returns-then-at-count-clause-refused c _ =
    let values = c.self.inside.values in
    let long : length (take c.self.inside.count values) ≡ c.self.inside.count =
    length-take-le c.self.inside.count values (omega (arith, c.self.invariant.0, c.self.invariant.1)) in
    let stands = subst (λ n. StandsAt c.args.value.place (take n values) c.in-Some.at) c.from-count.ensures
    c.in-Some.ensures.stands in
    rw (← c.self.view_is) (not_behind (take c.self.inside.count values) c.args.value c.in-Some.at stands
    (omega (arith, long, c.from-count.ensures, c.if-at-count.true)))

pub returns-clause-taken : goal.returns-clause-taken
returns-clause-taken c taken =
    let values = c.self.inside.values in
    let long : length (take c.self.inside.count values) ≡ c.self.inside.count =
    length-take-le c.self.inside.count values (omega (arith, c.self.invariant.0, c.self.invariant.1)) in
    let stands = subst (λ n. StandsAt c.args.value.place (take n values) c.in-Some.at) c.from-count.ensures
    c.in-Some.ensures.stands in
    c.put.ensures.put taken ∙ rw (← c.self.view_is)
    (put_last (take c.self.inside.count values) c.args.value c.in-Some.at stands
    (omega (arith, long, c.from-count.ensures, c.if-at-count.false))
    (omega (arith, stands.there, long, c.from-count.ensures, c.if-count-ge-MOST_SAVED.false)))

pub returns-clause-refused : goal.returns-clause-refused
returns-clause-refused c refused =
    let values = c.self.inside.values in
    let long : length (take c.self.inside.count values) ≡ c.self.inside.count =
    length-take-le c.self.inside.count values (omega (arith, c.self.invariant.0, c.self.invariant.1)) in
    let stands = subst (λ n. StandsAt c.args.value.place (take n values) c.in-Some.at) c.from-count.ensures
    c.in-Some.ensures.stands in
    let taken : true ≡ is_taken c.args.value (take c.self.inside.count values) =
    is_put c.args.value (take c.self.inside.count values) c.in-Some.at c.self.invariant.2.rising stands
    (omega (arith, stands.there, long, c.from-count.ensures, c.if-count-ge-MOST_SAVED.false)) in
    let told = rw (← c.self.view_is) at c.put.ensures.taken in
    let two : true ≡ false = taken ∙ sym told ∙ refused in
    cc
