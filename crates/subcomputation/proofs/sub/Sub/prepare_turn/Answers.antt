use Rattle.std.proofs.Common.{◌≡◌, ◌<◌, ℕ, ℤ, List, [], Ok, Some, subst, rules}
use Rattle.ids.specs.Naming.{name_of_frame}
use Rattle.ids.specs.Ordered.{AreInOrder}
use Rattle.sub_rules.specs.declared.content.Content.{Content}
use Rattle.sub_rules.specs.Debts.{IsSound}
use Rattle.sub_rules.specs.Carrying.{ended, exec_content}
use Rattle.sub_rules.specs.Updates.{IsPreparedFor}
use Rattle.saved_values.specs.Saved.{known_by}
use Rattle.subcomputation.proofs.Preparing.{exec_answers, exec_prepares}
use Rattle.task_tree.specs.declared.tree.Program.{Program}
use Rattle.kind_check.specs.declared.turn.Turn.{Turn}
use Rattle.body_eval.specs.Done.{DoneOf}
use Rattle.subcomputation.proofs.sub.Sub.prepare_turn.Goals as goal

-- an end, as a turn of a program without threads
none : Program
none = record { threads = []; length = 0 }

abbrev ends : ℕ → List ℤ → Turn → DoneOf
ends thread numbers turn = ended none thread numbers turn

pub returns-then-is_stale_for-clause-answer : goal.returns-then-is_stale_for-clause-answer
returns-then-is_stale_for-clause-answer c p = let stale =
    c.is_stale_for.ensures p c.args.turn.now in search (rules, stale)

pub returns-in_err-prepared-clause-answer : goal.returns-in_err-prepared-clause-answer
returns-in_err-prepared-clause-answer c p = let refused = c.in_err-prepared.ensures p in search (rules, refused)

pub returns-clause-answer : goal.returns-clause-answer
returns-clause-answer c p =
    let done : DoneOf = ended p c.args.thread c.args.numbers.now c.args.turn.now in
    let same : c.self.inside.content ≡ c.args.self.now.content = search rules in
    let prepared : IsPreparedFor c.args.self.now.content
    (exec_content (known_by c.args.self.now.saved) done c.args.number c.args.self.now.content)
    (Ok c.in_ok-prepared.prepared) = subst
    (λ (content : Content). IsPreparedFor content
    (exec_content (known_by c.args.self.now.saved) done c.args.number content) (Ok c.in_ok-prepared.prepared)) same
    (c.in_ok-prepared.ensures p) in
    exec_answers (known_by c.args.self.now.saved) c.args.self.now done c.args.number c.in_ok-prepared.prepared prepared

pub returns-clause-may : goal.returns-clause-may
returns-clause-may c =
    let same : c.self.inside.content ≡ c.args.self.now.content = search rules in
    let prepared : IsPreparedFor c.args.self.now.content
    (exec_content (known_by c.args.self.now.saved)
    (ends c.args.thread c.args.numbers.now c.args.turn.now) c.args.number c.args.self.now.content)
    (Ok c.in_ok-prepared.prepared) = subst
    (λ (content : Content). IsPreparedFor content
    (exec_content (known_by c.args.self.now.saved)
    (ends c.args.thread c.args.numbers.now c.args.turn.now) c.args.number content) (Ok c.in_ok-prepared.prepared))
    same (c.in_ok-prepared.ensures none) in
    let sound : IsSound c.args.self.now.content = search rules in
    let begun : 0 < c.args.self.now.content.next = search rules in
    let order : AreInOrder name_of_frame c.args.self.now.content.frames = search rules in
    (exec_prepares (known_by c.args.self.now.saved) c.args.self.now
    (ends c.args.thread c.args.numbers.now c.args.turn.now) c.args.number c.in_ok-prepared.prepared sound begun
    order prepared).may

pub returns-clause-ready : goal.returns-clause-ready
returns-clause-ready c =
    let same : c.self.inside.content ≡ c.args.self.now.content = search rules in
    let prepared : IsPreparedFor c.args.self.now.content
    (exec_content (known_by c.args.self.now.saved)
    (ends c.args.thread c.args.numbers.now c.args.turn.now) c.args.number c.args.self.now.content)
    (Ok c.in_ok-prepared.prepared) = subst
    (λ (content : Content). IsPreparedFor content
    (exec_content (known_by c.args.self.now.saved)
    (ends c.args.thread c.args.numbers.now c.args.turn.now) c.args.number content) (Ok c.in_ok-prepared.prepared))
    same (c.in_ok-prepared.ensures none) in
    let sound : IsSound c.args.self.now.content = search rules in
    let begun : 0 < c.args.self.now.content.next = search rules in
    let order : AreInOrder name_of_frame c.args.self.now.content.frames = search rules in
    (exec_prepares (known_by c.args.self.now.saved) c.args.self.now
    (ends c.args.thread c.args.numbers.now c.args.turn.now) c.args.number c.in_ok-prepared.prepared sound begun
    order prepared).ready

pub returns-clause-records : goal.returns-clause-records
returns-clause-records c =
    let same : c.self.inside.content ≡ c.args.self.now.content = search rules in
    let prepared : IsPreparedFor c.args.self.now.content
    (exec_content (known_by c.args.self.now.saved)
    (ends c.args.thread c.args.numbers.now c.args.turn.now) c.args.number c.args.self.now.content)
    (Ok c.in_ok-prepared.prepared) = subst
    (λ (content : Content). IsPreparedFor content
    (exec_content (known_by c.args.self.now.saved)
    (ends c.args.thread c.args.numbers.now c.args.turn.now) c.args.number content) (Ok c.in_ok-prepared.prepared))
    same (c.in_ok-prepared.ensures none) in
    let sound : IsSound c.args.self.now.content = search rules in
    let begun : 0 < c.args.self.now.content.next = search rules in
    let order : AreInOrder name_of_frame c.args.self.now.content.frames = search rules in
    (exec_prepares (known_by c.args.self.now.saved) c.args.self.now
    (ends c.args.thread c.args.numbers.now c.args.turn.now) c.args.number c.in_ok-prepared.prepared sound begun
    order prepared).records

pub returns-clause-fits : goal.returns-clause-fits
returns-clause-fits c = λ p fits turn.
    let same : c.self.inside.content ≡ c.args.self.now.content = search rules in
    let prepared : IsPreparedFor c.args.self.now.content
    (exec_content (known_by c.args.self.now.saved)
    (ends c.args.thread c.args.numbers.now c.args.turn.now) c.args.number c.args.self.now.content)
    (Ok c.in_ok-prepared.prepared) = subst
    (λ (content : Content). IsPreparedFor content
    (exec_content (known_by c.args.self.now.saved)
    (ends c.args.thread c.args.numbers.now c.args.turn.now) c.args.number content) (Ok c.in_ok-prepared.prepared))
    same (c.in_ok-prepared.ensures none) in
    let sound : IsSound c.args.self.now.content = search rules in
    let begun : 0 < c.args.self.now.content.next = search rules in
    let order : AreInOrder name_of_frame c.args.self.now.content.frames = search rules in
    (exec_prepares (known_by c.args.self.now.saved) c.args.self.now
    (ends c.args.thread c.args.numbers.now c.args.turn.now) c.args.number c.in_ok-prepared.prepared sound begun
    order prepared).fits p fits turn
