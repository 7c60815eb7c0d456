use Rattle.std.proofs.Common.{◌≡◌, Some, refl, rules}
use Rattle.ids.specs.Naming.{name_of_frame, name_of_record}
use Rattle.ids.specs.Ordered.{AreInOrder}
use Rattle.victim_records.specs.Records.{record_in}
use Rattle.sub_rules.specs.Debts.{IsSound}
use Rattle.sub_rules.specs.Changes.{done_again}
use Rattle.subcomputation.proofs.Fitting.{redo_fits}
use Rattle.subcomputation.proofs.Telling.{redo_tells}
use Rattle.subcomputation.proofs.sub.Sub.redone.Goals as goal

pub returns-in-Some-clause-ready : goal.returns-in-Some-clause-ready
returns-in-Some-clause-ready c =
    let frames : AreInOrder name_of_frame c.args.self.content.frames = search rules in
    let records : AreInOrder name_of_record c.args.self.content.records = search rules in
    let sound : IsSound c.args.self.content = search rules in
    let is : Some c.in-Some.again ≡ done_again c.args.self.content
    (record_in c.args.grant c.args.self.content.records) = search rules in
    (redo_tells c.args.self.content c.args.self.content c.args.grant c.in-Some.again refl sound frames records is).ready

pub returns-in-Some-clause-records : goal.returns-in-Some-clause-records
returns-in-Some-clause-records c =
    let frames : AreInOrder name_of_frame c.args.self.content.frames = search rules in
    let records : AreInOrder name_of_record c.args.self.content.records = search rules in
    let sound : IsSound c.args.self.content = search rules in
    let is : Some c.in-Some.again ≡ done_again c.args.self.content
    (record_in c.args.grant c.args.self.content.records) = search rules in
    (redo_tells c.args.self.content c.args.self.content c.args.grant c.in-Some.again refl sound frames records
    is).records

pub returns-in-Some-clause-fits : goal.returns-in-Some-clause-fits
returns-in-Some-clause-fits c = λ p fits.
    let is : Some c.in-Some.again ≡ done_again c.args.self.content
    (record_in c.args.grant c.args.self.content.records) = search rules in
    (redo_fits p c.args.self.content c.args.self.content c.args.grant c.in-Some.again refl is fits)
