-- The steps were looked at one by one.
use Rattle.std.proofs.Common.{rules, ◌≡◌, ◌≤◌, ◌<◌, true, ℕ, length, nat_lt}
use Rattle.std.specs.List.{list_all}
use Rattle.std.proofs.lemmas.List.{length-reverse}
use Rattle.ids.proofs.Places.{All-reverse, steps_of}
use Rattle.ids.proofs.place.Place.of.Goals as goal

pub invariant_of-result : goal.invariant_of-result
invariant_of-result c =
    let items : c.into_vec.result.items ≡ c.args.steps = search rules in
    let test : list_all (λ step. nat_lt step 9) c.args.steps ≡ true = search rules in
    let short : length c.args.steps ≤ 1024 = search rules in
    rw items (record {
      short = rw (length-reverse c.args.steps) short;
      steps = All-reverse (λ (step : ℕ). step < 9) c.args.steps (steps_of c.args.steps test);
    })
