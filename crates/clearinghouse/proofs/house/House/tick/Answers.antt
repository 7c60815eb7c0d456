use Rattle.std.proofs.Common.{◌≡◌, Option, None, subst, rules}
use Rattle.clearinghouse.specs.Meeting.{IsHouseOn, IsOpen, state_of}
use Rattle.clearinghouse.specs.declared.parts.Stop.{Stop}
use Rattle.clearinghouse.proofs.Standing.{moment_stands}
use Rattle.clearinghouse.proofs.house.House.tick.Goals as goal

pub invariant_of-self : goal.invariant_of-self
invariant_of-self g c =
    let h = c.self.inside in
    let stands : h.stop ≡ None = search rules in
    let before : IsOpen h.job.now h.store h.book =
    subst (λ (s : Option Stop). IsHouseOn (record { job = h.job.now; state = state_of h.book s; store = h.store })
    (state_of h.book s)) stands c.self.invariant in
    rw stands (moment_stands h.job.now h.store h.book before c.args.now c.in-Ok.sent c.pass.new.self c.in-Ok.ensures)
