use Rattle.std.proofs.Common.{◌≤◌, length, List}
use Rattle.task_tokens.specs.declared.kinds.Token.{Token}
use Rattle.task_syntax.specs.declared.error.ParseError.{ParseError}
use Rattle.task_syntax.specs.Grammar.{Many, IsLet}
use Rattle.task_syntax.specs.Meeting.{lets_part}
use Rattle.task_syntax.proofs.reader.statements.bindings.Given as goal

-- what is read or met from the rest on is read or met from the start on
abbrev pub invariant-loop-alloc : goal.invariant-loop-alloc
invariant-loop-alloc l = record {
  read : Many IsLet l.tokens l.rest l.all;
  parts : (to : List Token) → lets_part.reads l.rest to → lets_part.reads l.tokens to;
  met : (e : ParseError) → lets_part.meets l.rest e → lets_part.meets l.tokens e;
  shorter : length l.rest ≤ length l.tokens;
}

abbrev pub decreases-loop-alloc : goal.decreases-loop-alloc
decreases-loop-alloc l = length l.rest
