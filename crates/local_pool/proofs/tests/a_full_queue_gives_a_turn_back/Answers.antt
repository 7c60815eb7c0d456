use Rattle.std.proofs.Common.{rules, ◌≡◌, ℕ}
use Rattle.std.proofs.lemmas.List.Elements.{All-pop, All-push, All-weaker}
use Rattle.local_pool.specs.declared.tests.Turn.{Turn}
use Rattle.local_pool.specs.Turns.{IsBlankPassOf, PassOf}
use Rattle.local_pool.proofs.tests.a_full_queue_gives_a_turn_back.Goals as goal

pub close-requires-clause-own : goal.close-requires-clause-own
close-requires-clause-own g c =
    let Own : PassOf Turn ℕ → Type 0 = λ p. p.queue ≡ c.in_ok-queue.queue.queue in
    let dealt = All-weaker (IsBlankPassOf c.in_ok-queue.queue c.finished.result.job) Own
    (λ p blank. blank.0) c.in_ok-queue.passes.items c.in_ok-queue.ensures.passes.1 in
    let rest = (All-pop Own _ _ _ c.pop.ensures.items dealt).0 in
    let here : c.fill.new.pass.queue ≡ c.in_ok-queue.queue.queue = search rules in
    rw c.in_ok-push.ensures.items (All-push Own c.pop.new.self.items c.fill.new.pass rest here)
