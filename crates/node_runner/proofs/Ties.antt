-- What a run is begun with, and begun anew with.
use Rattle.std.proofs.Common.{◌≡◌, ◌==◌, Bool, true, List, [], ◌∷◌, length, ap, arith, eqb-true, refl, sym, subst, ◌∙◌}
use Rattle.disk.specs.Device.{Device}
use Rattle.saved_values.specs.declared.value.SavedValue.{SavedValue}
use Rattle.serial_meaning.specs.Job.{JobOf, meaning_of}
use Rattle.agreement_laws.specs.Agreement.{AllSavedAgree}
use Rattle.world_steps.specs.Agrees.{StoredAgree}
use Rattle.chronicle.specs.Seats.{ChronicleOf}
use Rattle.chronicle.specs.declared.kept.Entry.{Entry}
use Rattle.board.specs.Boards.{BoardOf}
use Rattle.node_runner.specs.Runs.{TakesOutcomesOf}

-- a board takes what the history of a chronicle tells
pub takes_outcomes : (c : ChronicleOf) (b : BoardOf) (job : JobOf) (d : Device) (saved : List SavedValue) → c.job ≡ job
    → c.first ≡ d → b.job ≡ job → b.saved ≡ saved → (AllSavedAgree job saved → StoredAgree job d) → TakesOutcomesOf c b
takes_outcomes c b job d saved its_job its_disk own own_saved agree o told all =
    let given : AllSavedAgree job saved =
    subst (λ (j : JobOf). AllSavedAgree j saved) own
    (subst (λ (s : List SavedValue). AllSavedAgree b.job s) own_saved all) in
    let stored : StoredAgree c.job c.first =
    subst (λ (j : JobOf). StoredAgree j c.first) (sym its_job)
    (subst (λ (x : Device). StoredAgree job x) (sym its_disk) (agree given)) in
    told stored ∙ ap meaning_of (its_job ∙ sym own)

-- no event was committed
none_shown : (shown : List Entry) → length shown ≡ 0 → shown ≡ []
none_shown [] none = refl
none_shown (e ∷ es) none = absurd (omega arith)

pub none_in : (empty : Bool) (shown entries : List Entry) → empty ≡ true → empty ≡ (length shown == 0) → shown ≡ entries
    → entries ≡ []
none_in empty shown entries true_is is same = sym same ∙ none_shown shown (eqb-true (length shown) 0 (sym is ∙ true_is))
