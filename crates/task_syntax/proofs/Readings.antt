-- What the grammar reads, its parts read: behind a part stands what ends it.
use Rattle.std.proofs.Common.{◌≡◌, ℕ, ◌-◌, List, [], refl, arith}
use Rattle.task_tokens.specs.declared.kinds.Word.TheVariants as word
use Rattle.task_tokens.specs.declared.kinds.Sign.TheVariants as sign
use Rattle.task_tokens.specs.declared.kinds.TokenKind.{TokenKind}
use Rattle.task_tokens.specs.declared.kinds.TokenKind.TheVariants as kind
use Rattle.task_tokens.specs.declared.kinds.Token.{Token}
use Rattle.task_tree.specs.declared.tree.Name.{Name}
use Rattle.task_tree.specs.declared.tree.Expr.{Expr}
use Rattle.task_tree.specs.declared.tree.Let.{Let}
use Rattle.task_tree.specs.declared.tree.Argument.{Argument}
use Rattle.task_tree.specs.declared.tree.Use.{Use}
use Rattle.task_tree.specs.declared.tree.Block.{Block}
use Rattle.task_tree.specs.declared.tree.Thread.{Thread}
use Rattle.task_tree.specs.declared.tree.Program.{Program}
use Rattle.task_syntax.specs.Grammar.{Begins, IsMark, IsName, IsExpr, ReadsExpr, number, variable, grouped, infixed, Many, none, more, Further, further, IsLet, bound, IsArgument, hole, value, IsSend, send, spawn, IsUse, sent, spawned, IsNext, next, IsBlock, ends_in_if, ends_in_send, ends_in_next, IsThread, thread, IsProgram}
use Rattle.task_syntax.specs.Refusals.{Stands, stands, Stops}
use Rattle.task_syntax.specs.Meeting.{named, valued, both, one, other, done, again, UseStands, send_stands, spawn_stands, ended, a_name, a_value, let_part, lets_part, argument_part, send_part, use_part, uses_part, next_part, block_part, thread_part, threads_part, program_part}
use Rattle.task_syntax.specs.Meeting as part
use Rattle.task_syntax.proofs.Reading.{begins_at}
use Rattle.task_syntax.proofs.Meeting.{block_reads_parts}
use Rattle.task_syntax.proofs.Scanning.{same_first, stops_mark}

-- where one kind of token stands, no other kind stands
other_stands : {k j : TokenKind} {from to : List Token} → Begins k from to → (k ≡ j → ⊥) → Stands j from → ⊥
other_stands b n (stands c) = n (same_first (record { front = b.front }) (record { front = c.front }) refl).kinds

-- behind a part a comma follows, or a closing parenthesis
pub stops_further : {A : Type 0} {R : List Token → List Token → A
    → Type 0} {level : ℕ} {from to uo : List Token} {xs : List A} → Many (Further R) from to xs
    → IsMark sign.Close to uo → Stops level from
stops_further none b = stops_mark b
stops_further (more (further c r) q) b = stops_mark c

let_reads : {from to : List Token} {l : Let} → IsLet from to l → let_part.reads from to
let_reads (bound w n a v s) = both w (both (named n) (both a (both (valued v (stops_mark s)) s)))

pub let_stands : {from to : List Token} {l : Let} → IsLet from to l → Stands (kind.Keyword word.Let) from
let_stands (bound w n a v s) = stands w

lets_read : {from to : List Token} {ls : List Let} → Many IsLet from to ls → (Stands (kind.Keyword word.Let) to → ⊥)
    → lets_part.reads from to
lets_read none n = done n
lets_read (more l q) n = again (let_stands l) (let_reads l) (lets_read q n)

values_read : {from to uo : List Token} {es : List Expr} → Many (Further IsExpr) from to es → IsMark sign.Close to uo
    → (part.further a_value).reads from to
values_read none b = done (other_stands b (λ e. cc))
values_read (more (further c v) q) b = again (stands c) (both c (valued v (stops_further q b))) (values_read q b)

names_read : {from to uo : List Token} {ns : List Name} → Many (Further IsName) from to ns → IsMark sign.Close to uo
    → (part.further a_name).reads from to
names_read none b = done (other_stands b (λ e. cc))
names_read (more (further c n) q) b = again (stands c) (both c (named n)) (names_read q b)

-- no expression begins with a question mark
pub no_question : {parens level : ℕ} {from to : List Token} {e : Expr} → ReadsExpr parens level from to e
    → Stands (kind.Mark sign.Question) from → ⊥
no_question (number b) q = other_stands b (λ e. cc) q
no_question (variable b) q = other_stands (begins_at b) (λ e. cc) q
no_question (grouped p o r c) q = other_stands o (λ e. cc) q
no_question (infixed l a op b h) q = no_question a q

-- an argument, where no operator goes on behind it
argument_reads : {from to : List Token} {x : Argument} → IsArgument from to x → Stops 0 to → argument_part.reads from to
argument_reads (hole q n) s = one (stands q) (both q (named n))
argument_reads (value v) s = other (no_question v) (valued v s)

arguments_read : {from to uo : List Token} {xs : List Argument} → Many (Further IsArgument) from to xs
    → IsMark sign.Close to uo → (part.further argument_part).reads from to
arguments_read none b = done (other_stands b (λ e. cc))
arguments_read (more (further c x) q) b =
    again (stands c) (both c (argument_reads x (stops_further q b))) (arguments_read q b)

send_reads : {from to : List Token} {k : Name} {e : Expr} → IsSend from to k e → send_part.reads from to
send_reads (send w o n c v d s) = both w (both o (both (named n) (both c (both (valued v (stops_mark d)) (both d s)))))

pub send_begins : {from to : List Token} {k : Name} {e : Expr} → IsSend from to k e
    → Stands (kind.Keyword word.SendArgument) from
send_begins (send w o n c v d s) = stands w

use_reads : {from to : List Token} {u : Use} → IsUse from to u → use_part.reads from to
use_reads (sent (send w o n c v d s)) = other (other_stands w (λ e. cc)) (send_reads (send w o n c v d s))
use_reads (spawned (spawn w t o k vs d s)) =
    one (stands w) (both w (both (named t) (both o (both (named k) (both (values_read vs d) (both d s))))))

pub use_begins : {from to : List Token} {u : Use} → IsUse from to u → UseStands from
use_begins (sent s) = send_stands (send_begins s)
use_begins (spawned (spawn w t o k vs d s)) = spawn_stands (stands w)

uses_read : {from to : List Token} {us : List Use} → Many IsUse from to us → (UseStands to → ⊥)
    → uses_part.reads from to
uses_read none n = done n
uses_read (more u q) n = again (use_begins u) (use_reads u) (uses_read q n)

next_reads : {from to : List Token} {t k : Name} {xs : List Argument} → IsNext from to t k xs → next_part.reads from to
next_reads (next w t o k xs d s) = both w
    (both (named t) (both o (both (named k) (both (arguments_read xs d) (both d s)))))

-- behind the condition of an `if` a brace stands
pub block_stops : {deep level : ℕ} {from to : List Token} {b : Block} → IsBlock deep from to b → Stops level from
block_stops (ends_in_if d o ls i v yb e nb c) = stops_mark o
block_stops (ends_in_send d o ls s c) = stops_mark o
block_stops (ends_in_next d o ls n us c) = stops_mark o

-- no use of a hole begins with a closing brace
pub no_use : {from to : List Token} → IsMark sign.CloseBrace from to → UseStands from → ⊥
no_use b (send_stands s) = other_stands b (λ e. cc) s
no_use b (spawn_stands s) = other_stands b (λ e. cc) s

block_reads : {deep : ℕ} {from to : List Token} {b : Block} → IsBlock deep from to b → (block_part deep).reads from to
block_reads (ends_in_if {deep = deep} {inside = inside} d o ls i v yb e nb c) =
    block_reads_parts deep inside d (both o
    (both (lets_read ls (other_stands i (λ e. cc)))
    (both (one (stands i) (both i (both (valued v (block_stops yb))
    (both (block_reads yb) (both e (block_reads nb)))))) (begins_at c))))
block_reads (ends_in_send {deep = deep} d o ls (send w p n m v q s) c) =
    block_reads_parts deep (deep - 1) (omega (arith, d))
    (both o (both (lets_read ls (other_stands w (λ e. cc)))
    (both (other (other_stands w (λ e. cc)) (one (stands w) (send_reads (send w p n m v q s)))) (begins_at c))))
block_reads (ends_in_next {deep = deep} d o ls (next w t p k xs q s) us c) =
    block_reads_parts deep (deep - 1) (omega (arith, d))
    (both o (both (lets_read ls (other_stands w (λ e. cc)))
    (both (other (other_stands w (λ e. cc))
    (other (other_stands w (λ e. cc)) (both (next_reads (next w t p k xs q s))
    (uses_read us (no_use (begins_at c)))))) (begins_at c))))

thread_reads : {from to : List Token} {t : Thread} → IsThread from to t → thread_part.reads from to
thread_reads (thread w x o k ns d b) =
    both w (both (named x) (both o (both (named k) (both (names_read ns d) (both d (block_reads b))))))

pub thread_stands : {from to : List Token} {t : Thread} → IsThread from to t → Stands (kind.Keyword word.Thread) from
thread_stands (thread w x o k ns d b) = stands w

threads_read : {from to : List Token} {ts : List Thread} → Many IsThread from to ts
    → (Stands (kind.Keyword word.Thread) to → ⊥) → threads_part.reads from to
threads_read none n = done n
threads_read (more t q) n = again (thread_stands t) (thread_reads t) (threads_read q n)

-- what is a program, its part reads to the end
pub program_reads : {from : List Token} {p : Program} → IsProgram from p → program_part.reads from []
program_reads r = both (threads_read r.threads (other_stands (begins_at r.end) (λ e. cc))) (ended r.end refl)
