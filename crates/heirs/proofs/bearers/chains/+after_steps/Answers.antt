use Rattle.std.proofs.Common.{◌≡◌, ℕ, ◌+◌, ◌/◌, false, List, map, refl, sym, ap, ◌∙◌, arith}
use Rattle.std.specs.List.{list_any}
use Rattle.std.proofs.lemmas.Result.{IfOk-weaker}
use Rattle.ids.specs.Ordered.{AreInOrder}
use Rattle.heirs.specs.declared.bearers.chains.Chain.{Chain}
use Rattle.heirs.specs.Chains.{name_of_chain, reach_in, reach, gone_on, goes_on}
use Rattle.heirs.proofs.Reaching.{one_step, ended_steps, joined_steps, joined_order}
use Rattle.heirs.proofs.bearers.chains.+after_steps.Goals as goal

pub returns-then-half-eq0-clause-says : goal.returns-then-half-eq0-clause-says
returns-then-half-eq0-clause-says t c =
    let step : List Chain = c.args.step.now in
    let one : c.args.steps ≡ 1 = omega arith in
    IfOk-weaker c.guessed.result (λ all. all ≡ c.as_slice.result.now) (λ all. (i : ℕ)
    → reach_in all i ≡ reach c.args.steps step i)
    (λ all same i. ap (λ table. reach_in table i) (same ∙ c.as_slice.ensures) ∙ one_step step c.args.steps one i)
    c.guessed.ensures

pub returns-then-half-eq0-clause-order : goal.returns-then-half-eq0-clause-order
returns-then-half-eq0-clause-order t c =
    IfOk-weaker c.guessed.result (λ all. all ≡ c.as_slice.result.now) (AreInOrder name_of_chain)
    (λ all same. rw (same ∙ c.as_slice.ensures) c.requires.order)
    c.guessed.ensures

pub returns-then-not-any_goes_on-clause-says : goal.returns-then-not-any_goes_on-clause-says
returns-then-not-any_goes_on-clause-says t c =
    let none : list_any (λ c. goes_on c.reach) c.in_ok-chains.chains ≡ false =
    sym c.any_goes_on.ensures ∙ c.if-not-any_goes_on.true in
    ended_steps c.args.step.now c.in_ok-chains.chains (c.args.steps / 2) c.args.steps
    (omega arith) c.in_ok-chains.ensures.says none

pub returns-then-steps-eq0-clause-says : goal.returns-then-steps-eq0-clause-says
returns-then-steps-eq0-clause-says t c =
    let half : ℕ = c.args.steps / 2 in
    joined_steps c.args.step.now c.in_ok-chains.chains c.in_ok-chains.chains half half c.args.steps
    (omega arith) c.in_ok-chains.ensures.says c.in_ok-chains.ensures.says c.in_ok-twice.twice c.in_ok-twice.ensures

pub returns-then-steps-eq0-clause-order : goal.returns-then-steps-eq0-clause-order
returns-then-steps-eq0-clause-order t c =
    joined_order c.in_ok-chains.chains c.in_ok-chains.chains c.in_ok-twice.twice c.in_ok-twice.ensures
    c.in_ok-chains.ensures.order

pub returns-clause-says : goal.returns-clause-says
returns-clause-says t c =
    let half : ℕ = c.args.steps / 2 in
    let step : List Chain = c.args.step.now in
    let twice : List Chain = c.in_ok-twice.twice in
    let says : (i : ℕ) → reach_in twice i ≡ reach (half + half) step i =
    joined_steps step c.in_ok-chains.chains c.in_ok-chains.chains half half (half + half)
    (omega arith) c.in_ok-chains.ensures.says c.in_ok-chains.ensures.says twice c.in_ok-twice.ensures in
    IfOk-weaker c.joined-else-steps-eq0.result (λ longer. longer ≡ map (gone_on step) twice) (λ longer. (i : ℕ)
    → reach_in longer i ≡ reach c.args.steps step i)
    (λ longer is. joined_steps step twice step (half + half) 1 c.args.steps (omega arith) says
    (one_step step 1 refl) longer is)
    c.joined-else-steps-eq0.ensures

pub returns-clause-order : goal.returns-clause-order
returns-clause-order t c =
    let step : List Chain = c.args.step.now in
    let twice : List Chain = c.in_ok-twice.twice in
    let order : AreInOrder name_of_chain twice =
    joined_order c.in_ok-chains.chains c.in_ok-chains.chains twice c.in_ok-twice.ensures
    c.in_ok-chains.ensures.order in
    IfOk-weaker c.joined-else-steps-eq0.result (λ longer. longer ≡ map (gone_on step) twice) (AreInOrder name_of_chain)
    (λ longer is. joined_order twice step longer is order)
    c.joined-else-steps-eq0.ensures
