use Rattle.std.proofs.Common.{◌≡◌, ap, rules, subst, sym, false}
use Rattle.world_steps.specs.Calls.{WorldOn}
use Rattle.world_steps.specs.First.{IsFirst}
use Rattle.world_steps.specs.World.{first_over}
use Rattle.chronicle.specs.Kept.{Reaches}
use Rattle.chronicle.proofs.Runs.{begins, begun_world}
use Rattle.chronicle.proofs.kept.Kept.new.Goals as goal

pub invariant_of-result : goal.invariant_of-result
invariant_of-result g c =
    let same : c.in-Ok.world.value ≡ c.in_ok-over.over = search rules in
    let first : Reaches c.in_ok-over.over.job
    (g.D.Disk.device c.args.first.disk) c.new-3.result.items c.in_ok-over.over.world false =
    begins c.args.first.job (g.D.Disk.device c.args.first.disk) _ _ (search rules) c.in_ok-over.ensures
    (search rules) in
    let over = subst (λ (w : WorldOn). Reaches w.job
    (g.D.Disk.device c.args.first.disk) c.new-3.result.items w.world false) (sym same) first in
    let seen : g.D.Disk.device c.args.first.disk ≡ g.D.Disk.device c.of-disk.result.value =
    ap g.D.Disk.device (search rules) in
    rw seen at over

pub returns-clause-world : goal.returns-clause-world
returns-clause-world g c =
    let same : c.in-Ok.world.value ≡ c.in_ok-over.over = search rules in
    subst (λ (w : WorldOn). IsFirst c.args.first.job (g.D.Disk.device c.args.first.disk)
    × (w.world ≡ first_over (g.D.Disk.device c.args.first.disk))) (sym same)
    (begun_world c.args.first.job (g.D.Disk.device c.args.first.disk) _ c.in_ok-over.ensures)
