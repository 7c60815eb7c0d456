use Rattle.std.proofs.Common.{◌∙◌, ◌++◌, inl, inr, ℕ, ap, arith, rules, subst, sym}
use Rattle.disk.specs.File.{bytes_of}
use Rattle.checkpoint.specs.Calls.{Passed}
use Rattle.checkpoint.specs.Commit.{IsOpening, opening}
use Rattle.checkpoint.specs.Store.{KeepsContent, IsRefused}
use Rattle.checkpoint.specs.declared.record.CheckpointRecord.{CheckpointRecord}
use Rattle.checkpoint.specs.declared.record.StoreError.{StoreError}
use Rattle.checkpoint.specs.declared.record.StoreError.TheVariants.{Spent}
use Rattle.checkpoint.proofs.Chains.{passed_both, read_file, stop_later}
use Rattle.checkpoint.proofs.Results.{if_err_both, if_err_weaker, if_ok_both}
use Rattle.checkpoint.proofs.store.Store.open.Goals as goal

pub returns-in-Ok : goal.returns-in-Ok
returns-in-Ok g c =
    let plan = g.D.Disk.planned in
    let device = g.D.Disk.device in
    let looked = c.in-Ok.looked in
    let same = read_file (plan c.args.disk) (device c.args.disk) (device looked.disk) c.in-Ok.ensures.calls in
    record {
      opened = search rules;
      calls = if_ok_both c.open.result (λ s opened made. (
        looked.sequence,
        opening ++ made.0,
        subst (λ (r : CheckpointRecord). IsOpening (bytes_of (device c.args.disk).file) looked.sequence r s.sequence
            (opening ++ made.0)) (sym opened.1)
            (subst (λ f. IsOpening (bytes_of f) looked.sequence looked.«record» s.sequence (opening ++ made.0)) same
            made.1),
        passed_both opening made.0 (plan c.args.disk)
            (plan looked.disk) _ _ _ c.in-Ok.ensures.calls c.in-Ok.ensures.plan made.2,
        (λ i. made.3 i ∙ c.in-Ok.ensures.plan _ ∙ ap (plan c.args.disk) (omega arith)),
      )) c.open.ensures.opened c.open.ensures.calls;
      kept = if_ok_both c.open.result (λ s opened kept n r keeps. (let found =
          c.in-Ok.ensures.kept n r keeps in (kept found.0, opened.1 ∙ found.1))) c.open.ensures.opened c.open.ensures.kept;
      kept_back = if_err_weaker c.open.result (λ e back n r keeps. (let found =
          c.in-Ok.ensures.kept n r keeps in subst
          (λ (x : CheckpointRecord). KeepsContent (g.D.Disk.device e.1).file x) found.1 (back found.0)))
          c.open.ensures.kept_back;
      alone = search rules;
      refused = if_err_both c.open.result (λ e why spent other. elim why [
        | inl is ↦ (
            let said = spent is in
            let in_file : IsRefused Spent (bytes_of (device c.args.disk).file) looked.«record».job =
            subst (λ f. IsRefused Spent (bytes_of f) looked.«record».job) same said.0 in
            let of_job : IsRefused Spent (bytes_of (device c.args.disk).file) c.args.job =
            subst (λ (j : ℕ). IsRefused Spent (bytes_of (device c.args.disk).file) j) c.in-Ok.ensures.found.1 in_file
            in (
              subst (λ (x : StoreError). IsRefused x (bytes_of (device c.args.disk).file) c.args.job) (sym is) of_job,
              subst (λ d. Passed opening (plan c.args.disk) (device c.args.disk) (device d))
                  (sym said.1) c.in-Ok.ensures.calls,
            ))
        | inr is ↦ absurd (other is)
      ]) c.open.ensures.refused c.open.ensures.spent;
      stopped = if_err_weaker c.open.result (λ e stopped is. (let made = stopped is in inr (
        looked.sequence,
        made.0,
        looked.«record»,
        opening ++ made.1,
        subst (λ f. IsOpening (bytes_of f) looked.sequence looked.«record» made.0 (opening ++ made.1)) same made.2,
        stop_later opening made.1 (plan c.args.disk)
            (plan looked.disk) _ _ _ c.in-Ok.ensures.calls c.in-Ok.ensures.plan made.3,
      ))) c.open.ensures.stopped;
    }

pub returns-in-Err : goal.returns-in-Err
returns-in-Err g c = record {
  opened = search rules;
  calls = search rules;
  kept = search rules;
  kept_back = λ n r keeps content left. let kept =
      c.in-Err.ensures.kept_back n r keeps in (n, (kept.slot, kept.each content left));
  alone = search rules;
  refused = search rules;
  stopped = search rules;
}
