use Rattle.std.proofs.Common.{◌≡◌, ◌+◌, ◌-◌, ◌<◌, ℕ, length, subst, sym, ◌∙◌, arith}
use Rattle.std.proofs.lemmas.Bool.{eqb-true}
use Rattle.heirs.proofs.Following.{IsOnTheWay, way_begins, way_circles, way_ends, way_goes_on, way_marked, way_out}
use Rattle.heirs.proofs.bearers.following.bearer_of.Goals as goal
use Rattle.heirs.proofs.bearers.following.bearer_of.Goals.{then-is_power_of_two, else-is_power_of_two}

pub loop-step-init : goal.loop-step-init
loop-step-init c = way_begins c.args.members.now c.args.worker (length c.args.members.now + 1 - 0) (omega arith)

pub returns-in-Ended : goal.returns-in-Ended
returns-in-Ended c =
    let members = c.args.members.now in
    let left : ℕ = length members + 1 - c.loop-step.step in
    let some : 0 < left = omega arith in
    way_ends members c.args.worker c.loop-step.mark c.loop-step.at left c.loop-step.invariant some c.in-Ended.bearer
    (sym c.in-Ended.ensures)

pub returns-then-eq : goal.returns-then-eq
returns-then-eq c =
    let members = c.args.members.now in
    let left : ℕ = length members + 1 - c.loop-step.step in
    let some : 0 < left = omega arith in
    let back : c.in-At.heir ≡ c.loop-step.mark =
    sym c.worker-heir.ensures ∙ eqb-true c.worker-heir.result c.loop-step.mark (sym c.eq.ensures ∙ c.if-eq.true) in
    way_circles members c.args.worker c.loop-step.mark c.loop-step.at left c.loop-step.invariant some c.in-At.heir
    (sym c.in-At.ensures) back

pub loop-step-preserved : goal.loop-step-preserved
loop-step-preserved c =
    let members = c.args.members.now in
    let worker = c.args.worker in
    let mark = c.loop-step.mark in
    let heir : ℕ = c.worker-heir.result in
    let left : ℕ = length members + 1 - c.loop-step.step in
    let less : ℕ = length members + 1 - (c.loop-step.step + 1) in
    let some : 0 < left = omega arith in
    let one : left - 1 ≡ less = omega arith in
    let on : IsOnTheWay members worker mark c.in-At.heir (left - 1) =
    way_goes_on members worker mark c.loop-step.at left c.loop-step.invariant some c.in-At.heir
    (sym c.in-At.ensures) in
    let now : IsOnTheWay members worker mark heir less =
    subst (λ n. IsOnTheWay members worker mark heir n) one
    (subst (λ i. IsOnTheWay members worker mark i (left - 1)) (sym c.worker-heir.ensures) on) in
    elim c.if-is_power_of_two.branch [
      | then-is_power_of_two w ↦ subst (λ m. IsOnTheWay members worker m heir less) (sym w.mark-is)
          (way_marked members worker mark heir less now)
      | else-is_power_of_two w ↦ subst (λ m. IsOnTheWay members worker m heir less) (sym w.mark-is) now
    ]

pub returns : goal.returns
returns c =
    let members = c.args.members.now in
    way_out members c.args.worker c.loop-step.mark c.loop-step.at
    (length members + 1 - c.loop-step.step) c.loop-step.invariant (omega arith)
