use Rattle.std.proofs.Common.{◌≤◌, length, List}
use Rattle.task_tokens.specs.declared.kinds.Token.{Token}
use Rattle.task_syntax.specs.declared.error.ParseError.{ParseError}
use Rattle.task_syntax.specs.Grammar.{Further, Many, IsExpr}
use Rattle.task_syntax.specs.Meeting.{further, a_value}
use Rattle.task_syntax.proofs.reader.statements.further_values.Given as goal

-- what is read or met from the rest on is read or met from the start on
abbrev pub invariant-loop-after : goal.invariant-loop-after
invariant-loop-after l = record {
  read : Many (Further IsExpr) l.tokens l.rest l.all;
  parts : (to : List Token) → (further a_value).reads l.rest to → (further a_value).reads l.tokens to;
  met : (e : ParseError) → (further a_value).meets l.rest e → (further a_value).meets l.tokens e;
  shorter : length l.rest ≤ length l.tokens;
}

abbrev pub decreases-loop-after : goal.decreases-loop-after
decreases-loop-after l = length l.rest
