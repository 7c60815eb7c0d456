use Rattle.std.proofs.Common.{◌≡◌, ◌<◌, Ok, Some, subst, rules}
use Rattle.ids.specs.Naming.{name_of_frame, name_of_record}
use Rattle.ids.specs.Ordered.{AreInOrder}
use Rattle.sub_rules.specs.declared.content.Content.{Content}
use Rattle.sub_rules.specs.Debts.{IsSound}
use Rattle.sub_rules.specs.Changes.{closed_in}
use Rattle.sub_rules.specs.Updates.{IsPreparedIn}
use Rattle.victim_records.specs.Records.{record_in}
use Rattle.subcomputation.proofs.Preparing.{result_answers, result_prepares}
use Rattle.subcomputation.proofs.sub.Sub.prepare_result.Goals as goal

pub returns-in-Some-clause-may : goal.returns-in-Some-clause-may
returns-in-Some-clause-may c =
    let same : c.self.inside.content ≡ c.args.self.now.content = search rules in
    let prepared : IsPreparedIn c.args.self.now.content
    (closed_in c.args.outcome c.args.self.now.content (record_in c.args.grant c.args.self.now.content.records))
    (Some c.in-Some.prepared) = rw c.in-Some.is at
    (subst (λ (content : Content). IsPreparedIn content
    (closed_in c.args.outcome content (record_in c.args.grant content.records)) c.in_ok-prepared.field-0) same
    c.in_ok-prepared.ensures) in
    let sound : IsSound c.args.self.now.content = search rules in
    let begun : 0 < c.args.self.now.content.next = search rules in
    let frames : AreInOrder name_of_frame c.args.self.now.content.frames = search rules in
    let records : AreInOrder name_of_record c.args.self.now.content.records = search rules in
    (result_prepares c.args.self.now c.args.grant c.args.outcome c.in-Some.prepared sound begun frames records
    prepared).may

pub returns-in-Some-clause-ready : goal.returns-in-Some-clause-ready
returns-in-Some-clause-ready c =
    let same : c.self.inside.content ≡ c.args.self.now.content = search rules in
    let prepared : IsPreparedIn c.args.self.now.content
    (closed_in c.args.outcome c.args.self.now.content (record_in c.args.grant c.args.self.now.content.records))
    (Some c.in-Some.prepared) = rw c.in-Some.is at
    (subst (λ (content : Content). IsPreparedIn content
    (closed_in c.args.outcome content (record_in c.args.grant content.records)) c.in_ok-prepared.field-0) same
    c.in_ok-prepared.ensures) in
    let sound : IsSound c.args.self.now.content = search rules in
    let begun : 0 < c.args.self.now.content.next = search rules in
    let frames : AreInOrder name_of_frame c.args.self.now.content.frames = search rules in
    let records : AreInOrder name_of_record c.args.self.now.content.records = search rules in
    (result_prepares c.args.self.now c.args.grant c.args.outcome c.in-Some.prepared sound begun frames records
    prepared).ready

pub returns-in-Some-clause-records : goal.returns-in-Some-clause-records
returns-in-Some-clause-records c =
    let same : c.self.inside.content ≡ c.args.self.now.content = search rules in
    let prepared : IsPreparedIn c.args.self.now.content
    (closed_in c.args.outcome c.args.self.now.content (record_in c.args.grant c.args.self.now.content.records))
    (Some c.in-Some.prepared) = rw c.in-Some.is at
    (subst (λ (content : Content). IsPreparedIn content
    (closed_in c.args.outcome content (record_in c.args.grant content.records)) c.in_ok-prepared.field-0) same
    c.in_ok-prepared.ensures) in
    let sound : IsSound c.args.self.now.content = search rules in
    let begun : 0 < c.args.self.now.content.next = search rules in
    let frames : AreInOrder name_of_frame c.args.self.now.content.frames = search rules in
    let records : AreInOrder name_of_record c.args.self.now.content.records = search rules in
    (result_prepares c.args.self.now c.args.grant c.args.outcome c.in-Some.prepared sound begun frames records
    prepared).records

pub returns-in-Some-clause-fits : goal.returns-in-Some-clause-fits
returns-in-Some-clause-fits c = λ p fits.
    let same : c.self.inside.content ≡ c.args.self.now.content = search rules in
    let prepared : IsPreparedIn c.args.self.now.content
    (closed_in c.args.outcome c.args.self.now.content (record_in c.args.grant c.args.self.now.content.records))
    (Some c.in-Some.prepared) = rw c.in-Some.is at
    (subst (λ (content : Content). IsPreparedIn content
    (closed_in c.args.outcome content (record_in c.args.grant content.records)) c.in_ok-prepared.field-0) same
    c.in_ok-prepared.ensures) in
    let sound : IsSound c.args.self.now.content = search rules in
    let begun : 0 < c.args.self.now.content.next = search rules in
    let frames : AreInOrder name_of_frame c.args.self.now.content.frames = search rules in
    let records : AreInOrder name_of_record c.args.self.now.content.records = search rules in
    (result_prepares c.args.self.now c.args.grant c.args.outcome c.in-Some.prepared sound begun frames records
    prepared).fits p fits tt
