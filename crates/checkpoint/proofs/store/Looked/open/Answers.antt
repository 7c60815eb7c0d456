use Rattle.std.proofs.Common.{[], ap, add-zero, refl, subst, sym}
use Rattle.disk.specs.File.{bytes_of}
use Rattle.checkpoint.specs.Commit.{is_new, is_old}
use Rattle.checkpoint.specs.Format.{IsNew, IsStore}
use Rattle.checkpoint.specs.Store.{IsHeld}
use Rattle.checkpoint.specs.declared.record.SlotId.{SlotId}
use Rattle.checkpoint.specs.declared.record.SlotId.TheVariants.{Small, Large}
use Rattle.checkpoint.proofs.Chains.{none_passed}
use Rattle.checkpoint.proofs.Moving.{held_moved, is_migration, kept_moved, kept_stopped}
use Rattle.checkpoint.proofs.Opened.{kept_new}
use Rattle.checkpoint.proofs.store.Looked.open.Goals as goal

pub returns-in-Large-clause-calls : goal.returns-in-Large-clause-calls
returns-in-Large-clause-calls g c =
    let s = c.self.inside in
    let d = g.D.Disk.device s.disk in
    let new : IsNew (bytes_of d.file) c.in-Large.second s.sequence s.current =
    subst (λ (x : SlotId). IsStore (bytes_of d.file) x s.sequence s.current) c.in-Large.is c.self.invariant.store in
    rw (← c.self.view_is) (
      [],
      is_new c.in-Large.second new refl refl,
      none_passed (g.D.Disk.planned s.disk) d,
      λ i. ap (g.D.Disk.planned s.disk) (sym (add-zero i)),
    )

pub returns-in-Large-clause-kept : goal.returns-in-Large-clause-kept
returns-in-Large-clause-kept g c =
    let s = c.self.inside in
    let d = g.D.Disk.device s.disk in
    let new : IsNew (bytes_of d.file) c.in-Large.second s.sequence s.current =
    subst (λ (x : SlotId). IsStore (bytes_of d.file) x s.sequence s.current) c.in-Large.is c.self.invariant.store in
    rw (← c.self.view_is) (λ keeps. kept_new d.file c.in-Large.second s.sequence s.sequence s.current s.current new
    keeps)

pub returns-then-sequence-clause-kept_back : goal.returns-then-sequence-clause-kept_back
returns-then-sequence-clause-kept_back g c =
    rw (← c.self.view_is) (λ keeps content left. (c.self.inside.sequence, (keeps.slot, keeps.each content left)))

pub invariant_of-result-in-Ok : goal.invariant_of-result-in-Ok
invariant_of-result-in-Ok g c _ =
    let s = c.self.inside in
    let d = g.D.Disk.device s.disk in
    let held : IsHeld (bytes_of d.file) (Small c.in-Small.second) s.sequence s.current s.gate =
    subst (λ (x : SlotId). IsHeld (bytes_of d.file) x s.sequence s.current s.gate) c.in-Small.is c.self.invariant in
    let made = c.in-Ok.ensures.ok in
    held_moved d c.in-Small.second s.gate s.sequence s.current made.0 made.1 held c.if-sequence.false made.2 made.3
    (g.D.Disk.planned s.disk) (g.D.Disk.device c.migrate.new.disk) made.4

pub returns-in-Ok-clause-opened : goal.returns-in-Ok-clause-opened
returns-in-Ok-clause-opened g c = (
  refl,
  rw (← c.self.view_is) refl,
  (Large _, (invariant_of-result-in-Ok g c refl).store),
)

pub returns-in-Ok-clause-calls : goal.returns-in-Ok-clause-calls
returns-in-Ok-clause-calls g c =
    let s = c.self.inside in
    let d = g.D.Disk.device s.disk in
    let held : IsHeld (bytes_of d.file) (Small c.in-Small.second) s.sequence s.current s.gate =
    subst (λ (x : SlotId). IsHeld (bytes_of d.file) x s.sequence s.current s.gate) c.in-Small.is c.self.invariant in
    let made = c.in-Ok.ensures.ok in
    let migration = is_migration d c.in-Small.second s.gate s.sequence s.current made.0 made.1 held c.if-sequence.false
    made.2 made.3 in
    rw (← c.self.view_is) (_, is_old c.in-Small.second _ migration refl refl, made.4, c.in-Ok.ensures.plan)

pub returns-in-Ok-clause-kept : goal.returns-in-Ok-clause-kept
returns-in-Ok-clause-kept g c =
    let s = c.self.inside in
    let d = g.D.Disk.device s.disk in
    let held : IsHeld (bytes_of d.file) (Small c.in-Small.second) s.sequence s.current s.gate =
    subst (λ (x : SlotId). IsHeld (bytes_of d.file) x s.sequence s.current s.gate) c.in-Small.is c.self.invariant in
    let made = c.in-Ok.ensures.ok in
    rw (← c.self.view_is) (λ keeps. kept_moved d c.in-Small.second s.gate s.sequence s.current made.0 made.1 held
    c.if-sequence.false made.2 made.3 (g.D.Disk.planned s.disk) (g.D.Disk.device c.migrate.new.disk) keeps made.4)

pub returns-in-Err-clause-kept_back : goal.returns-in-Err-clause-kept_back
returns-in-Err-clause-kept_back g c =
    let s = c.self.inside in
    let d = g.D.Disk.device s.disk in
    let held : IsHeld (bytes_of d.file) (Small c.in-Small.second) s.sequence s.current s.gate =
    subst (λ (x : SlotId). IsHeld (bytes_of d.file) x s.sequence s.current s.gate) c.in-Small.is c.self.invariant in
    let made = c.in-Err.ensures.err in
    rw (← c.self.view_is) (λ keeps. kept_stopped d c.in-Small.second s.gate s.sequence s.current made.0 made.1 held
    c.if-sequence.false made.2 made.3 (g.D.Disk.planned s.disk) (g.D.Disk.device c.migrate.new.disk) keeps made.4)

pub returns-in-Err-clause-stopped : goal.returns-in-Err-clause-stopped
returns-in-Err-clause-stopped g c =
    let s = c.self.inside in
    let d = g.D.Disk.device s.disk in
    let held : IsHeld (bytes_of d.file) (Small c.in-Small.second) s.sequence s.current s.gate =
    subst (λ (x : SlotId). IsHeld (bytes_of d.file) x s.sequence s.current s.gate) c.in-Small.is c.self.invariant in
    let made = c.in-Err.ensures.err in
    let migration = is_migration d c.in-Small.second s.gate s.sequence s.current made.0 made.1 held c.if-sequence.false
    made.2 made.3 in
    rw (← c.self.view_is) (λ _. (0, _, is_old c.in-Small.second _ migration refl refl, made.4))
