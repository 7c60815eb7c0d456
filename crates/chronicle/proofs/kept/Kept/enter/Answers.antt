use Rattle.std.proofs.Common.{◌≡◌, Some, rules, inl, inr, refl, subst, sym, true}
use Rattle.ids.specs.declared.outcome.Outcome.{Outcome}
use Rattle.serial_meaning.specs.Job.{meaning_of}
use Rattle.world_steps.specs.Agrees.{StoredAgree}
use Rattle.world_steps.specs.Calls.{WorldOn}
use Rattle.chronicle.specs.History.{outcome_told}
use Rattle.chronicle.specs.Kept.{Reaches}
use Rattle.chronicle.proofs.Runs.{lacks_memory, goes_on, tells_meaning}
use Rattle.chronicle.proofs.kept.Kept.enter.Goals as goal

pub invariant_of-self : goal.invariant_of-self
invariant_of-self g c =
    let here = subst (λ b. Reaches c.self.inside.world.value.job
    (g.D.Disk.device c.self.inside.first.value) c.self.inside.entries.items c.self.inside.world.value.world b)
    c.if-self.false c.self.invariant in
    lacks_memory c.self.inside.world.value.job
    (g.D.Disk.device c.self.inside.first.value) c.self.inside.entries.items c.reserve.new.self.items
    c.self.inside.world.value.world c.self.inside.world.value.world (search rules) (inl refl) here

pub invariant_of-self-in_default : goal.invariant_of-self-in_default
invariant_of-self-in_default g c =
    let on : WorldOn = c.deref_mut.result.now in
    let reached : Reaches on.job (g.D.Disk.device c.self.inside.first.value) c.self.inside.entries.items on.world
    c.self.inside.out_of_memory = subst
    (λ (w : WorldOn). Reaches w.job (g.D.Disk.device c.self.inside.first.value) c.self.inside.entries.items w.world
    c.self.inside.out_of_memory) (sym c.deref_mut.ensures.value) c.self.invariant in
    let here = subst (λ b. Reaches on.job
    (g.D.Disk.device c.self.inside.first.value) c.self.inside.entries.items on.world b) c.if-self.false reached in
    let s = c.in_default.ensures.out_of_memory in
    subst (λ j. Reaches j (g.D.Disk.device c.self.inside.first.value) c.reserve.new.self.items
    c.step_with.new.self.world true) (sym c.step_with.ensures.job)
    (lacks_memory on.job (g.D.Disk.device c.self.inside.first.value) c.self.inside.entries.items
    c.reserve.new.self.items on.world c.step_with.new.self.world (search rules)
    (inr (record {
      event = c.args.event;
      was_placed = on.is_placed;
      is_placed = c.step_with.new.self.is_placed;
      after = s.0;
      out_of_memory = s.1;
      left = s.2;
    })) here)

pub invariant_of-self-2 : goal.invariant_of-self-2
invariant_of-self-2 g c =
    let on : WorldOn = c.deref_mut.result.now in
    let reached : Reaches on.job (g.D.Disk.device c.self.inside.first.value) c.self.inside.entries.items on.world
    c.self.inside.out_of_memory = subst
    (λ (w : WorldOn). Reaches w.job (g.D.Disk.device c.self.inside.first.value) c.self.inside.entries.items w.world
    c.self.inside.out_of_memory) (sym c.deref_mut.ensures.value) c.self.invariant in
    let here = subst (λ b. Reaches on.job
    (g.D.Disk.device c.self.inside.first.value) c.self.inside.entries.items on.world b) c.if-self.false reached in
    let now = goes_on on.job (g.D.Disk.device c.self.inside.first.value) c.self.inside.entries.items
    c.push_reserved.new.self.items on.world c.step_with.new.self.world c.args.event c.in-Ok.told
    (search rules) c.in-Ok.ensures.step here in
    subst (λ j. Reaches j (g.D.Disk.device c.self.inside.first.value) c.push_reserved.new.self.items
    c.step_with.new.self.world c.self.inside.out_of_memory) (sym c.step_with.ensures.job)
    (subst (λ b. Reaches on.job (g.D.Disk.device c.self.inside.first.value) c.push_reserved.new.self.items
    c.step_with.new.self.world b) (sym c.if-self.false) now)

pub returns-clause-outcome : goal.returns-clause-outcome
returns-clause-outcome g c =
    let on : WorldOn = c.deref_mut.result.now in
    let reached : Reaches on.job (g.D.Disk.device c.self.inside.first.value) c.self.inside.entries.items on.world
    c.self.inside.out_of_memory = subst
    (λ (w : WorldOn). Reaches w.job (g.D.Disk.device c.self.inside.first.value) c.self.inside.entries.items w.world
    c.self.inside.out_of_memory) (sym c.deref_mut.ensures.value) c.self.invariant in
    let here = subst (λ b. Reaches on.job
    (g.D.Disk.device c.self.inside.first.value) c.self.inside.entries.items on.world b) c.if-self.false reached in
    let told = tells_meaning on.job (g.D.Disk.device c.self.inside.first.value) c.self.inside.entries.items on.world
    c.step_with.new.self.world c.args.event c.in-Ok.told c.in-Ok.ensures.step here in
    rw (← c.self.view_is) (subst (λ (w : WorldOn). StoredAgree w.job (g.D.Disk.device c.self.inside.first.value)
    → (o : Outcome) → outcome_told c.in-Ok.told ≡ Some o → o ≡ meaning_of w.job) c.deref_mut.ensures.value told)
