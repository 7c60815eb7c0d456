use Rattle.std.proofs.Common.{◌≤◌, length, List}
use Rattle.task_tokens.specs.declared.kinds.Token.{Token}
use Rattle.task_syntax.specs.declared.error.ParseError.{ParseError}
use Rattle.task_syntax.specs.Grammar.{Many, IsUse}
use Rattle.task_syntax.specs.Meeting.{uses_part}
use Rattle.task_syntax.proofs.reader.statements.uses.Given as goal

-- what is read or met from the rest on is read or met from the start on
abbrev pub invariant-loop-alloc : goal.invariant-loop-alloc
invariant-loop-alloc l = record {
  read : Many IsUse l.tokens l.rest l.all;
  parts : (to : List Token) → uses_part.reads l.rest to → uses_part.reads l.tokens to;
  met : (e : ParseError) → uses_part.meets l.rest e → uses_part.meets l.tokens e;
  shorter : length l.rest ≤ length l.tokens;
}

abbrev pub decreases-loop-alloc : goal.decreases-loop-alloc
decreases-loop-alloc l = length l.rest
