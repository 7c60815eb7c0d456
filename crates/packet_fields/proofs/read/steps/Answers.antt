use Rattle.std.proofs.Common.{◌≡◌, ◌<◌, ◌≤◌, ℕ, List, true, false, sym, ◌∙◌, ap, subst, length, take, arith}
use Rattle.std.proofs.lemmas.List.{length-take}
use Rattle.packet_fields.proofs.Stepping.{all_steps, field_at_once, read_at_once, short_at_once}
use Rattle.packet_fields.proofs.read.steps.Goals as goal

pub returns-then-not-are_steps : goal.returns-then-not-are_steps
returns-then-not-are_steps c =
    let front = c.front-steps.ensures ∙ ap (λ (n : ℕ). take n c.args.input.now) c.from-count.ensures in
    field_at_once c.args.count c.args.input.now
    (subst (λ (bytes : List ℕ). all_steps bytes ≡ false) front (sym c.are_steps.ensures ∙ c.if-not-are_steps.true))

pub returns-then-steps-count : goal.returns-then-steps-count
returns-then-steps-count c =
    let front = c.front-steps.ensures ∙ ap (λ (n : ℕ). take n c.args.input.now) c.from-count.ensures in
    let long = ap (λ (bytes : List ℕ). length bytes) front in
    let short : length c.args.input.now < c.args.count =
    omega (arith, long, length-take c.args.count c.args.input.now) in
    short_at_once c.args.count c.args.input.now
    (subst (λ (bytes : List ℕ). all_steps bytes ≡ true) front (sym c.are_steps.ensures
    ∙ c.if-not-are_steps.false)) short

pub returns : goal.returns
returns c =
    let front = c.front-steps.ensures ∙ ap (λ (n : ℕ). take n c.args.input.now) c.from-count.ensures in
    let long = ap (λ (bytes : List ℕ). length bytes) front in
    let there : c.args.count ≤ length c.args.input.now =
    omega (arith, long, length-take c.args.count c.args.input.now) in
    rw (c.pass.ensures, c.from-count.ensures, front)
    (read_at_once c.args.count c.args.input.now
    (subst (λ (bytes : List ℕ). all_steps bytes ≡ true) front (sym c.are_steps.ensures
    ∙ c.if-not-are_steps.false)) there)
