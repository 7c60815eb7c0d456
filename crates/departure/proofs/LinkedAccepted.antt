-- An Offer that fits is sound, and fits the program.
use Rattle.std.proofs.Common.{◌≡◌, ℕ, ◌&&◌, Bool, List, [], ◌∷◌, IsTrue, refl}
use Rattle.std.specs.List.{AllByRecursion, list_all}
use Rattle.ids.specs.declared.outcome.Progress.{Progress}
use Rattle.ids.specs.declared.outcome.Progress.TheVariants.{Active, Finished}
use Rattle.task_tree.specs.declared.tree.Program.{Program}
use Rattle.codec.specs.Table as table
use Rattle.codec.specs.declared.body.Offer.{Offer}
use Rattle.sub_rules.specs.Debts.{IsSound}
use Rattle.subcomputation.specs.Fitting.{Fits, frame_fits, is_foreign, is_linked, progress_fits, record_fits, task_fits}
use Rattle.subcomputation.specs.Subs.{SubOf}
use Rattle.departure.specs.Offers.{offered}
use Rattle.departure.proofs.LinkedCounts.{both}
use Rattle.departure.proofs.LinkedOffers.{said}
use Rattle.departure.proofs.LinkedSound.{finished_sound, linked_sound}

pub accepted_sound : (own : ℕ) (subs : List SubOf) (o : Offer) → IsTrue (table.offer.fits o)
    → IsTrue (progress_fits own subs (offered o).content o.progress) → IsSound (offered o).content
accepted_sound own subs o packet fits = by_progress o.progress refl fits
  where
    by_progress : (p : Progress) → o.progress ≡ p → IsTrue (progress_fits own subs (offered o).content p)
        → IsSound (offered o).content
    by_progress Active is linked =
        let fields = said o packet in
        let parts = both (is_linked (offered o).content) (list_all (is_foreign own subs) o.records) linked in
        linked_sound (offered o).content is fields.frames.below fields.records.below parts.0
    by_progress (Finished outcome) is linked =
        let nothing = (said o packet).finished outcome is in
        finished_sound (offered o).content outcome is nothing.frames nothing.records

all_pass : {A : Type 0} (test : A → Bool) (xs : List A) → IsTrue (list_all test xs)
    → AllByRecursion (λ x. IsTrue (test x)) xs
all_pass test [] pass = tt
all_pass test (x ∷ xs) pass = let parts = both (test x) (list_all test xs) pass in (parts.0, all_pass test xs parts.1)

pub accepted_fits : (p : Program) (o : Offer)
    → IsTrue (task_fits p o.task && list_all (frame_fits p) o.frames && list_all (record_fits p) o.records)
    → Fits p (offered o).content
accepted_fits p o pass =
    let parts = both (task_fits p o.task && list_all (frame_fits p) o.frames)
    (list_all (record_fits p) o.records) pass in
    let task = both (task_fits p o.task) (list_all (frame_fits p) o.frames) parts.0 in
    record {
      task = task.0;
      frames = all_pass (frame_fits p) o.frames task.1;
      records = all_pass (record_fits p) o.records parts.1;
    }
