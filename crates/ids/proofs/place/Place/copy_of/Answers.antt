-- The steps were looked at one by one, and counted from the root on.
use Rattle.std.proofs.Common.{rules, ◌≡◌, ◌==◌, ◌≤◌, not, true, ℕ, length, nat_lt}
use Rattle.std.specs.List.{list_all, count_by}
use Rattle.ids.proofs.Places.{place_of}
use Rattle.ids.proofs.place.Place.copy_of.Goals as goal

pub invariant_of-result : goal.invariant_of-result
invariant_of-result c =
    let items : c.in_ok-from_slice.field-0.items ≡ c.args.steps.now = search rules in
    let test : list_all (λ step. nat_lt step 9) c.args.steps.now ≡ true = search rules in
    let short : length c.args.steps.now ≤ 1024 = search rules in
    let counted : c.to_kids-level.result ≡ count_by (λ (step : ℕ). not (step == 0)) c.args.steps.now = search rules in
    rw items (place_of c.args.steps.now c.to_kids-level.result short test counted)
