use Rattle.std.proofs.Common.{◌∙◌, arith, ap, min, subst, take}
use Rattle.saved_values.specs.Saved.{StandsAt}
use Rattle.saved_values.proofs.Values.{is_dropped, is_last, is_put, put_into}
use Rattle.saved_values.proofs.table.SavedTable.put.Goals as goal

pub returns-then-at-ge-MOST_SAVED-clause-taken : goal.returns-then-at-ge-MOST_SAVED-clause-taken
returns-then-at-ge-MOST_SAVED-clause-taken c =
    let values = c.self.inside.values in
    let stands = subst (λ n. StandsAt c.args.value.place (take n values) c.in-Some.at) c.from-count.ensures
    c.in-Some.ensures.stands in
    rw (← c.self.view_is) (is_dropped c.args.value
    (take c.self.inside.count values) c.in-Some.at c.self.invariant.2 stands c.if-at-ge-MOST_SAVED.true)

pub returns-clause-taken : goal.returns-clause-taken
returns-clause-taken c =
    let values = c.self.inside.values in
    let stands = subst (λ n. StandsAt c.args.value.place (take n values) c.in-Some.at) c.from-count.ensures
    c.in-Some.ensures.stands in
    rw (← c.self.view_is) (is_put c.args.value
    (take c.self.inside.count values) c.in-Some.at c.self.invariant.2.rising stands c.if-at-ge-MOST_SAVED.false)

pub invariant_of-self : goal.invariant_of-self
invariant_of-self c =
    let values = c.self.inside.values in
    let stands = subst (λ n. StandsAt c.args.value.place (take n values) c.in-Some.at) c.from-count.ensures
    c.in-Some.ensures.stands in
    let last = is_last c.self.inside.count c.min-end.result (c.min-end.ensures
    ∙ ap (λ n. min n 63) c.from-count.ensures) in
    let put = put_into values c.rotate_right.new.self c.self.inside.count c.in-Some.at c.min-end.result c.args.value
    c.self.invariant.0 c.self.invariant.1 c.self.invariant.2 stands c.if-at-ge-MOST_SAVED.false last
    c.rotate_right.ensures.after c.rotate_right.ensures.len in
    (omega (arith, last.room), put.all, put.list)

pub returns-clause-put : goal.returns-clause-put
returns-clause-put c = λ _.
    let values = c.self.inside.values in
    let stands = subst (λ n. StandsAt c.args.value.place (take n values) c.in-Some.at) c.from-count.ensures
    c.in-Some.ensures.stands in
    let last = is_last c.self.inside.count c.min-end.result (c.min-end.ensures
    ∙ ap (λ n. min n 63) c.from-count.ensures) in
    let put = put_into values c.rotate_right.new.self c.self.inside.count c.in-Some.at c.min-end.result c.args.value
    c.self.invariant.0 c.self.invariant.1 c.self.invariant.2 stands c.if-at-ge-MOST_SAVED.false last
    c.rotate_right.ensures.after c.rotate_right.ensures.len in
    rw (← c.self.view_is) put.same
