use Rattle.std.proofs.Common.{rules, subst, sym}
use Rattle.disk.specs.Memory.{device_of}
use Rattle.disk.specs.Device.{stop_after}
use Rattle.world_steps.specs.First.{IsFirstWith}
use Rattle.world_steps.proofs.Meeting.{formatted_agree, formatted_can, formatted_first, formatted_for, formatted_still}
use Rattle.world_steps.proofs.first_disk.FirstDisk+MemDisk.formatted.Goals as goal

pub invariant_of-result : goal.invariant_of-result
invariant_of-result c =
    let calls = c.in-Ok.ensures.calls in
    let still = formatted_still (device_of c.new-disk.result) (device_of c.format.new.disk)
    (stop_after (device_of c.new-disk.result).arming) calls.0 c.new-disk.ensures calls.2 in
    subst (λ s. IsFirstWith c.args.job.now (device_of c.format.new.disk) s) (sym c.new.ensures)
    (formatted_first c.args.job.now (device_of c.format.new.disk) still
    (formatted_for c.args.job.now (device_of c.format.new.disk) c.number.result c.number.ensures still
    (formatted_can (device_of c.new-disk.result) (device_of c.format.new.disk)
    (stop_after (device_of c.new-disk.result).arming) calls.0 c.new-disk.ensures calls.2) c.in-Ok.ensures.left))

pub returns-in-Ok-clause-formatted : goal.returns-in-Ok-clause-formatted
returns-in-Ok-clause-formatted c =
    let calls = c.in-Ok.ensures.calls in
    let still = formatted_still (device_of c.new-disk.result) (device_of c.format.new.disk)
    (stop_after (device_of c.new-disk.result).arming) calls.0 c.new-disk.ensures calls.2 in (
      search rules,
      formatted_for c.args.job.now (device_of c.format.new.disk) c.number.result c.number.ensures still
          (formatted_can (device_of c.new-disk.result) (device_of c.format.new.disk)
          (stop_after (device_of c.new-disk.result).arming) calls.0 c.new-disk.ensures calls.2) c.in-Ok.ensures.left,
    )

pub returns-in-Ok-clause-agree : goal.returns-in-Ok-clause-agree
returns-in-Ok-clause-agree c =
    let calls = c.in-Ok.ensures.calls in
    let still = formatted_still (device_of c.new-disk.result) (device_of c.format.new.disk)
    (stop_after (device_of c.new-disk.result).arming) calls.0 c.new-disk.ensures calls.2 in
    formatted_agree c.args.job.now (device_of c.format.new.disk)
    (formatted_for c.args.job.now (device_of c.format.new.disk) c.number.result c.number.ensures still
    (formatted_can (device_of c.new-disk.result) (device_of c.format.new.disk)
    (stop_after (device_of c.new-disk.result).arming) calls.0 c.new-disk.ensures calls.2) c.in-Ok.ensures.left)
