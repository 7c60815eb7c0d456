-- An operator joins what stands on its sides; parentheses hold an expression.
use Rattle.std.proofs.Common.{◌≡◌, ℕ, Some, rules, arith}
use Rattle.task_syntax.specs.declared.error.ParseError.{ParseError}
use Rattle.task_syntax.specs.Refusals.{first_refusal, leaf_refusal}
use Rattle.task_syntax.specs.Grammar.{grouped}
use Rattle.task_syntax.specs.Meeting.{MeetsExpr, no_operand, in_parentheses, unclosed, right}
use Rattle.task_syntax.proofs.Meeting.{failed, met_more, meets_deep, meets_high}
use Rattle.task_syntax.proofs.Reading.{begins_at, looser, infix_reads}
use Rattle.task_syntax.proofs.Refusals.{stops_above, stops_below}
use Rattle.task_syntax.proofs.reader.expressions.+expression.Goals as goal

pub expression-loop-op-init : goal.expression-loop-op-init
expression-loop-op-init t c = record {
  read = c.in_ok-left.ensures.read;
  stops = stops_above _ _ (omega arith);
  loose = search rules;
  shorter = search rules;
}

pub expression-loop-op-preserved : goal.expression-loop-op-preserved
expression-loop-op-preserved t c = record {
  read = rw c.level-tightest.ensures (infix_reads c.loop-op.invariant.read c.in-Some.ensures.some
      (rw (← c.level.ensures) c.in_ok-right.ensures.read) c.in_ok-left-2.ensures.joins);
  stops = rw (c.level-tightest.ensures, ← c.level.ensures) c.in_ok-right.ensures.stops;
  loose = search rules;
  shorter = search rules;
}

pub expression-returns-clause-read : goal.expression-returns-clause-read
expression-returns-clause-read t c = looser c.loop-op.invariant.loose c.loop-op.invariant.read

pub expression-returns-clause-stops : goal.expression-returns-clause-stops
expression-returns-clause-stops t c = stops_below _ _ _ c.loop-op.invariant.stops c.in_default.ensures.none

pub expression-returns-in_err-right-clause-met : goal.expression-returns-in_err-right-clause-met
expression-returns-in_err-right-clause-met t c =
    let op = c.in-Some.ensures.some in
    failed _ _ _ c.from_residual-in_err-right.ensures.1
    (λ m. right op.tight (looser op.loose c.loop-op.invariant.read) (begins_at op.begins)
    (rw (← c.level.ensures) (c.in_err-right.ensures.met m)))

pub expression-returns-in_err-left-2-clause-met : goal.expression-returns-in_err-left-2-clause-met
expression-returns-in_err-left-2-clause-met t c =
    failed _ _ _ c.from_residual-in_err-left-2.ensures.1 (λ m.
    let high = c.in_err-left-2.ensures.met m in
    meets_high high.0 c.level.ensures c.loop-op.invariant.read c.in-Some.ensures.some c.in_ok-right.ensures.read
    c.in_ok-right.ensures.stops high.1)

pub operand-returns-clause-read : goal.operand-returns-clause-read
operand-returns-clause-read t c = grouped
    (omega arith) c.in-Some.ensures.some c.in_ok-tree.ensures.read c.in_ok-rest.ensures.ok

pub operand-returns-in_default-clause-met : goal.operand-returns-in_default-clause-met
operand-returns-in_default-clause-met t c =
    let tokens = c.args.tokens.now in
    met_more (λ (e : ParseError). first_refusal leaf_refusal tokens ≡ Some e) (λ (e : ParseError). (level : ℕ)
    → MeetsExpr c.args.parens level tokens e)
    (λ e h level. no_operand c.in_default.ensures.none h) c.leaf.result c.leaf.ensures.met

pub operand-returns-then-parens-eq0-clause-met : goal.operand-returns-then-parens-eq0-clause-met
operand-returns-then-parens-eq0-clause-met t c =
    λ m level. meets_deep (omega arith) c.offset.ensures c.in-Some.ensures.some

pub operand-returns-in_err-tree-clause-met : goal.operand-returns-in_err-tree-clause-met
operand-returns-in_err-tree-clause-met t c =
    failed _ _ _ c.from_residual.ensures.1
    (λ m level. in_parentheses (omega arith) c.in-Some.ensures.some (c.in_err-tree.ensures.met m))

pub operand-returns-in_err-rest-clause-met : goal.operand-returns-in_err-rest-clause-met
operand-returns-in_err-rest-clause-met t c =
    failed _ _ _ c.from_residual-in_err-rest.ensures.1
    (λ m level. unclosed (omega arith) c.in-Some.ensures.some c.in_ok-tree.ensures.read c.in_ok-tree.ensures.stops
    c.in_err-rest.ensures.err)
