use Rattle.std.proofs.Common.{◌≤◌, length, List}
use Rattle.task_tokens.specs.declared.kinds.Token.{Token}
use Rattle.task_syntax.specs.declared.error.ParseError.{ParseError}
use Rattle.task_syntax.specs.Grammar.{Further, Many, IsName}
use Rattle.task_syntax.specs.Meeting.{further, a_name}
use Rattle.task_syntax.proofs.reader.threads.further_names.Given as goal

-- what is read or met from the rest on is read or met from the start on
abbrev pub invariant-loop-after : goal.invariant-loop-after
invariant-loop-after l = record {
  read : Many (Further IsName) l.tokens l.rest l.all;
  parts : (to : List Token) → (further a_name).reads l.rest to → (further a_name).reads l.tokens to;
  met : (e : ParseError) → (further a_name).meets l.rest e → (further a_name).meets l.tokens e;
  shorter : length l.rest ≤ length l.tokens;
}

abbrev pub decreases-loop-after : goal.decreases-loop-after
decreases-loop-after l = length l.rest
