use Rattle.std.proofs.Common.{◌≡◌, sym, ap, subst, ◌∙◌}
use Rattle.disk.specs.Device.{Device}
use Rattle.world_steps.specs.Runs.{CanBegin}
use Rattle.world_steps.specs.World.{WorldOf}
use Rattle.run_laws.proofs.Going.{run_sound}
use Rattle.run_laws.proofs.Recorded.{goes_on}
use Rattle.run_laws.proofs.runs.disks_go_on.Goals as goal

-- the world is cut from one in which the same Offers go whole, and which has the same disk
pub returns : goal.returns
returns c = λ job d entries worlds v ok can runs m unarmed.
    let s = run_sound job ok d entries worlds v can runs m in
    let disk : v.disk ≡ s.whole.disk = ap (λ (w : WorldOf). w.disk) s.from.cut in
    subst (λ (x : Device). CanBegin job x) (sym disk)
    (goes_on job s.whole s.tied (ap (λ (x : Device). x.arming) (sym disk) ∙ unarmed))
