use Rattle.std.proofs.Common.{◌≡◌, Some, refl, sym, ◌∙◌, rules}
use Rattle.ids.specs.Naming.{name_of_frame}
use Rattle.ids.specs.Ordered.{AreInOrder}
use Rattle.sub_rules.specs.Changes.{given_away}
use Rattle.sub_rules.specs.Content.{ready_in}
use Rattle.sub_rules.specs.Updates.{opened_in, opening_of}
use Rattle.sub_rules.specs.declared.change.ContentGrant.{ContentGrant}
use Rattle.subcomputation.proofs.Fitting.{grant_fits}
use Rattle.subcomputation.proofs.Telling.{grant_tells, opening_gives}
use Rattle.subcomputation.proofs.sub.Sub.prepare_grant_out.Goals as goal

pub returns-in-Some-clause-ready : goal.returns-in-Some-clause-ready
returns-in-Some-clause-ready c =
    let content = c.args.self.now.content in
    let same : c.self.inside.content ≡ content = search rules in
    let frames : AreInOrder name_of_frame content.frames = search rules in
    let given : ContentGrant = record {
      after = opened_in c.in-Some.opening.opened content;
      task = c.in-Some.opening.task;
    } in
    let is = opening_gives content c.self.inside.content c.args.grant c.args.thief c.args.number c.in-Some.opening same
    (sym c.in-Some.is ∙ c.in_ok-opening.ensures.opening) in
    (grant_tells content content c.args.grant c.args.thief c.args.number given refl frames is).ready

pub returns-in-Some-clause-records : goal.returns-in-Some-clause-records
returns-in-Some-clause-records c =
    let content = c.args.self.now.content in
    let same : c.self.inside.content ≡ content = search rules in
    let frames : AreInOrder name_of_frame content.frames = search rules in
    let given : ContentGrant = record {
      after = opened_in c.in-Some.opening.opened content;
      task = c.in-Some.opening.task;
    } in
    let is = opening_gives content c.self.inside.content c.args.grant c.args.thief c.args.number c.in-Some.opening same
    (sym c.in-Some.is ∙ c.in_ok-opening.ensures.opening) in
    (grant_tells content content c.args.grant c.args.thief c.args.number given refl frames is).records

pub returns-in-Some-clause-fits : goal.returns-in-Some-clause-fits
returns-in-Some-clause-fits c = λ p fits.
    let content = c.args.self.now.content in
    let same : c.self.inside.content ≡ content = search rules in
    let given : ContentGrant = record {
      after = opened_in c.in-Some.opening.opened content;
      task = c.in-Some.opening.task;
    } in
    let is = opening_gives content c.self.inside.content c.args.grant c.args.thief c.args.number c.in-Some.opening same
    (sym c.in-Some.is ∙ c.in_ok-opening.ensures.opening) in
    (grant_fits p content content c.args.grant c.args.thief c.args.number given refl is fits).after

pub returns-in-Some-clause-task : goal.returns-in-Some-clause-task
returns-in-Some-clause-task c = λ p fits.
    let content = c.args.self.now.content in
    let same : c.self.inside.content ≡ content = search rules in
    let given : ContentGrant = record {
      after = opened_in c.in-Some.opening.opened content;
      task = c.in-Some.opening.task;
    } in
    let is = opening_gives content c.self.inside.content c.args.grant c.args.thief c.args.number c.in-Some.opening same
    (sym c.in-Some.is ∙ c.in_ok-opening.ensures.opening) in
    (grant_fits p content content c.args.grant c.args.thief c.args.number given refl is fits).task
