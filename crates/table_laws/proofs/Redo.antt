-- Another end of the run: the kid's thief fails before it has finished, and the first worker redoes
-- the kid.
use Rattle.std.proofs.Common.{[], ◌∷◌, Some, None, refl, inl, inr}
use Rattle.table_laws.specs.Content.{Local, regrant}
use Rattle.table_laws.specs.View.{Sub, View}
use Rattle.table_laws.specs.Facts.{Live, Said}
use Rattle.table_laws.specs.Moves.{fail, alter}
use Rattle.table_laws.specs.Acts.{ReachedInTables, by_act, fails, alters}
use Rattle.table_laws.specs.Causes.{Cause, redoes}
use Rattle.table_laws.specs.Work.{ReadyInTables}
use Rattle.table_laws.proofs.SampleJob.{sample_job}
use Rattle.table_laws.proofs.SounderJoins.{cause_changes}
use Rattle.table_laws.proofs.Sample.{root, kid, turned, heard, heard_reached}

-- the record is a frame again
redone : (v : View) → Cause sample_job v 1 root (regrant turned 2 (Some kid)) turned None
redone v = redoes (record {
  fewer = λ n k e. cc;
  returns = λ n. refl;
  work = λ n. record { place = refl; thread = refl; slots = λ j. refl };
  next = refl;
  outcome = refl;
}) refl

unsaid : Said heard.leaves 2 → ⊥
unsaid said = said.sent

abbrev failed : View
failed = fail heard 2

abbrev pub redone_view : View
redone_view = alter failed 1 root (record { hop = 0; content = regrant turned 2 (Some kid) }) turned None [] (kid ∷ [])

pub redone_reached : ReachedInTables redone_view
redone_reached = by_act (by_act heard_reached (fails 2 (record { works = tt; worker = λ e. cc; unsaid = unsaid })))
    (alters 1 root (record { hop = 0; content = regrant turned 2 (Some kid) }) turned None [] (kid ∷ [])
    (record { member = refl; holds = refl })
    (cause_changes sample_job failed 1 root (regrant turned 2 (Some kid)) turned None (redone failed))
    (record {
      host = refl;
      task = refl;
      fewer = λ n k e. cc;
      keeps = λ n k e. cc;
      result_own = λ x m. absurd m;
      result_host = λ x m. absurd m;
      result_outcome = λ x m. absurd m;
      had = λ k. elim [ inl e ↦ rw e (record { number = 2; is = refl }) | inr m ↦ absurd m ];
      lost = λ k m r. let is =
          r.is in cc;
    }))

abbrev pub redone_sub : Sub
redone_sub = record { hop = 0; content = turned }

pub redone_holds : Live redone_view 1 root redone_sub
redone_holds = record { member = refl; holds = refl }

pub ready_again : ReadyInTables turned
ready_again = record { frame = 2; returns = Local 1 0; there = refl; unstolen = refl; full = λ j e. cc }
