-- Tokens of the kinds that a tree is printed by are read as that tree, but for offsets.
use Rattle.std.proofs.Common.{◌≡◌, ℕ, ◌+◌, ◌≤◌, zero, suc, List, [], ◌∷◌, ◌++◌, refl, arith}
use Rattle.std.specs.List.{flat_map}
use Rattle.task_tokens.specs.declared.kinds.Word.TheVariants as word
use Rattle.task_tokens.specs.declared.kinds.Sign.TheVariants as sign
use Rattle.task_tokens.specs.declared.kinds.TokenKind.{TokenKind}
use Rattle.task_tokens.specs.declared.kinds.TokenKind.TheVariants as kind
use Rattle.task_tokens.specs.declared.kinds.Token.{Token}
use Rattle.task_tree.specs.declared.tree.Name.{Name}
use Rattle.task_tree.specs.declared.tree.Expr.{Expr}
use Rattle.task_tree.specs.declared.tree.Expr.TheVariants.{Number, Variable, Binary'}
use Rattle.task_tree.specs.declared.tree.Let.{Let}
use Rattle.task_tree.specs.declared.tree.Argument.{Argument}
use Rattle.task_tree.specs.declared.tree.Argument.TheVariants as argument
use Rattle.task_tree.specs.declared.tree.Given.TheVariants.{Sent, Spawned}
use Rattle.task_tree.specs.declared.tree.Use.{Use}
use Rattle.task_tree.specs.declared.tree.Block.{Block}
use Rattle.task_tree.specs.declared.tree.End.TheVariants.{If', Send, Next}
use Rattle.task_tree.specs.declared.tree.Thread.{Thread}
use Rattle.task_syntax.specs.Grammar.{Begins, BeginsAt, IsName, level_of, height_of, ReadsExpr, number, variable, grouped, infixed, IsExpr, Many, none, more, Further, further, IsLet, bound, IsArgument, hole, value, IsSend, send, spawn, IsUse, sent, spawned, IsNext, next, IsBlock, ends_in_if, ends_in_send, ends_in_next, IsThread, thread}
use Rattle.task_syntax.specs.Printed.{operand_kinds, expr_kinds, let_kinds, further_kinds, argument_kinds, parameter_kinds, call_end, send_kinds, use_kinds, next_kinds, end_kinds, block_kinds, thread_kinds}
use Rattle.task_tree.specs.Shapes.{EachSame, SameName, SameExpr, SameLet, SameArgument, SameUse, SameBlock, SameThread}

-- `from` is tokens of these kinds, and then `to`
abbrev pub Spells : (kinds : List TokenKind) → (from to : List Token) → Type 0
Spells [] from to = from ≡ to
Spells (k ∷ ks) from to = (m : List Token) × Begins k from m × Spells ks m to

-- a tree that is the same but for offsets, and is read
pub record Again {A : Type 0} (Same : A → A → Type 0) (Read : A → Type 0) (x : A) : Type 0 where
  pub tree : A
  pub read : Read tree
  pub same : Same x tree

-- the tokens of some kinds, and then those of others
pub split : (xs ys : List TokenKind) (from to : List Token) → Spells (xs ++ ys) from to
    → (m : List Token) × Spells xs from m × Spells ys m to
split [] ys from to s = (from, refl, s)
split (x ∷ xs) ys from to s = let r = split xs ys s.0 to s.2 in (r.0, (s.0, s.1, r.1), r.2)

-- one token
pub only : {k : TokenKind} {from to : List Token} → Spells (k ∷ []) from to → Begins k from to
only s = rw (← s.2) s.1

-- a name at the place of a token with its text
abbrev placed : Name → ℕ → Name
placed x at = record { text = x.text; offset = at }

named_again : {from to : List Token} (x : Name) (b : Begins (kind.Ident x.text) from to)
    → IsName from to (placed x b.at)
named_again x b = record { front = b.front }

-- an expression that is the same but for offsets, and is read
record AgainExpr (parens level : ℕ) (from to : List Token) (e : Expr) : Type 0 where
  tree : Expr
  read : ReadsExpr parens level from to tree
  same : SameExpr e tree
  high : height_of tree ≡ height_of e

operand_again : (e : Expr) (parens level : ℕ) (from to : List Token) → height_of e ≤ parens → height_of e ≤ 64
    → Spells (operand_kinds e) from to → AgainExpr parens level from to e
operand_again (Number n) parens level from to h l s =
    record { tree = Number n; read = number (only s); same = refl; high = refl }
operand_again (Variable x) parens level from to h l s = let b : Begins (kind.Ident x.text) from to =
    only s in record { tree = Variable (placed x b.at); read = variable (named_again x b); same = refl; high = refl }
operand_again (Binary' op p a q b) zero level from to h l s = absurd (omega arith)
operand_again (Binary' op p a q b) (suc inside) level from to h l s =
    let left = split (operand_kinds a) (kind.Infix op ∷ (operand_kinds b ++ (kind.Mark sign.Close ∷ []))) s.0 to s.2 in
    let right = split (operand_kinds b) (kind.Mark sign.Close ∷ []) left.2.0 to left.2.2 in
    let x = operand_again a inside (level_of op) s.0 left.0 (omega arith) (omega arith) left.1 in
    let y = operand_again b inside (level_of op + 1) left.2.0 right.0 (omega arith) (omega arith) right.1 in
    let low : height_of (Binary' op p x.tree q y.tree) ≤ 64 = omega (arith, x.high, y.high) in
    record {
      tree = Binary' op p x.tree q y.tree;
      read = grouped {e = Binary' op p x.tree q y.tree} (omega arith) s.1
          (infixed {a = x.tree} {b = y.tree} (omega arith) x.read left.2.1 y.read low) (only right.2);
      same = (refl, x.same, y.same);
      high = omega (arith, x.high, y.high);
    }

expr_again : (e : Expr) (from to : List Token) → height_of e ≤ 64 → Spells (expr_kinds e) from to
    → Again SameExpr (IsExpr from to) e
expr_again (Number n) from to l s = let x =
    operand_again (Number n) 64 0 from to l l s in record { tree = x.tree; read = x.read; same = x.same }
expr_again (Variable v) from to l s = let x =
    operand_again (Variable v) 64 0 from to l l s in record { tree = x.tree; read = x.read; same = x.same }
expr_again (Binary' op p a q b) from to l s =
    let left = split (operand_kinds a) (kind.Infix op ∷ operand_kinds b) from to s in
    let x = operand_again a 64 (level_of op) from left.0 (omega arith) (omega arith) left.1 in
    let y = operand_again b 64 (level_of op + 1) left.2.0 to (omega arith) (omega arith) left.2.2 in
    let low : height_of (Binary' op p x.tree q y.tree) ≤ 64 = omega (arith, x.high, y.high) in
    record {
      tree = Binary' op p x.tree q y.tree;
      read = infixed {a = x.tree} {b = y.tree} (omega arith) x.read left.2.1 y.read low;
      same = (refl, x.same, y.same);
    }

-- what is read has at most 64 levels
read_height : {parens level : ℕ} {from to : List Token} {e : Expr} → ReadsExpr parens level from to e → height_of e ≤ 64
read_height (number b) = omega arith
read_height (variable x) = omega arith
read_height (grouped p o r c) = read_height r
read_height (infixed l a op b low) = low

-- what reads one item again reads any number of them again
many_again : {A : Type 0} {R : List Token → List Token → A → Type 0} (kinds : A → List TokenKind) (Same : A → A
    → Type 0) → ((from to : List Token) (x : A) → R from to x → (f t : List Token) → Spells (kinds x) f t
    → Again Same (R f t) x) → {from to : List Token} {xs : List A} → Many R from to xs → (f t : List Token)
    → Spells (flat_map kinds xs) f t → Again (EachSame Same) (Many R f t) xs
many_again kinds Same one none f t s = record { tree = []; read = rw (← s) none; same = tt }
many_again kinds Same one (more {from = from} {m = m} {x = x} {xs = xs} r rs) f t s =
    let parts = split (kinds x) (flat_map kinds xs) f t s in
    let y = one from m x r f parts.0 parts.1 in
    let ys = many_again kinds Same one rs parts.0 t parts.2 in
    record { tree = y.tree ∷ ys.tree; read = more y.read ys.read; same = (y.same, ys.same) }

let_again : {from to : List Token} {l : Let} → IsLet from to l → (f t : List Token) → Spells (let_kinds l) f t
    → Again SameLet (IsLet f t) l
let_again (bound {x = x} {e = e} w n a r c) f t s =
    let parts = split (expr_kinds e) (kind.Mark sign.Semicolon ∷ []) s.2.2.0 t s.2.2.2 in
    let y = expr_again e s.2.2.0 parts.0 (read_height r) parts.1 in
    record {
      tree = record { name = placed x s.2.1.at; value = y.tree };
      read = bound s.1 (named_again x s.2.1) s.2.2.1 y.read (only parts.2);
      same = (refl, y.same);
    }

parameter_again : {from to : List Token} {x : Name} → Further IsName from to x → (f t : List Token)
    → Spells (parameter_kinds x) f t → Again SameName (Further IsName f t) x
parameter_again (further {x = x} c n) f t s =
    let b : Begins (kind.Ident x.text) s.0 t = only s.2 in
    record { tree = placed x b.at; read = further s.1 (named_again x b); same = refl }

value_again : {from to : List Token} {e : Expr} → Further IsExpr from to e → (f t : List Token)
    → Spells (further_kinds e) f t → Again SameExpr (Further IsExpr f t) e
value_again (further {x = e} c r) f t s =
    let y = expr_again e s.0 t (read_height r) s.2 in
    record { tree = y.tree; read = further s.1 y.read; same = y.same }

argument_again : {from to : List Token} {a : Argument} → Further IsArgument from to a → (f t : List Token)
    → Spells (argument_kinds a) f t → Again SameArgument (Further IsArgument f t) a
argument_again (further c (hole {x = x} q n)) f t s =
    let b : Begins (kind.Ident x.text) s.2.0 t = only s.2.2 in
    record { tree = argument.Hole (placed x b.at); read = further s.1 (hole s.2.1 (named_again x b)); same = refl }
argument_again (further c (value {e = e} r)) f t s =
    let y = expr_again e s.0 t (read_height r) s.2 in
    record { tree = argument.Value y.tree; read = further s.1 (value y.read); same = y.same }

-- the same of a `send_argument`
record AgainSend (from to : List Token) (k : Name) (e : Expr) : Type 0 where
  name : Name
  tree : Expr
  read : IsSend from to name tree
  same_name : SameName k name
  same : SameExpr e tree

send_again : {from to : List Token} {k : Name} {e : Expr} → IsSend from to k e → (f t : List Token)
    → Spells (send_kinds k e) f t → AgainSend f t k e
send_again (send {k = k} {x = e} w o n c r shut end) f t s =
    let parts = split (expr_kinds e) call_end s.2.2.2.0 t s.2.2.2.2 in
    let y = expr_again e s.2.2.2.0 parts.0 (read_height r) parts.1 in
    record {
      name = placed k s.2.2.1.at;
      tree = y.tree;
      read = send s.1 s.2.1 (named_again k s.2.2.1) s.2.2.2.1 y.read parts.2.1 (only parts.2.2);
      same_name = refl;
      same = y.same;
    }

use_again : {from to : List Token} {u : Use} → IsUse from to u → (f t : List Token) → Spells (use_kinds u) f t
    → Again SameUse (IsUse f t) u
use_again (sent q) f t s =
    let y = send_again q f t s in
    record { tree = record { hole = y.name; given = Sent y.tree }; read = sent y.read; same = (y.same_name, y.same) }
use_again (spawned (spawn {t = x} {k = k} {es = es} w n o h vs shut end)) f t s =
    let parts = split (flat_map further_kinds es) call_end s.2.2.2.0 t s.2.2.2.2 in
    let ys = many_again further_kinds SameExpr
    (λ from to e r f t s. value_again r f t s) vs s.2.2.2.0 parts.0 parts.1 in
    record {
      tree = record { hole = placed k s.2.2.2.1.at; given = Spawned (placed x s.2.1.at) ys.tree };
      read = spawned (spawn s.1 (named_again x s.2.1) s.2.2.1 (named_again k s.2.2.2.1) ys.read parts.2.1
          (only parts.2.2));
      same = (refl, (refl, ys.same));
    }

-- the same of a `spawn_next`
record AgainNext (from to : List Token) (x k : Name) (args : List Argument) : Type 0 where
  callee : Name
  name : Name
  tree : List Argument
  read : IsNext from to callee name tree
  same_callee : SameName x callee
  same_name : SameName k name
  same : EachSame SameArgument args tree

next_again : {from to : List Token} {x k : Name} {args : List Argument} → IsNext from to x k args → (f t : List Token)
    → Spells (next_kinds x k args) f t → AgainNext f t x k args
next_again (next {t = x} {k = k} {args = args} w n o c given shut end) f t s =
    let parts = split (flat_map argument_kinds args) call_end s.2.2.2.0 t s.2.2.2.2 in
    let ys = many_again argument_kinds SameArgument
    (λ from to a r f t s. argument_again r f t s) given s.2.2.2.0 parts.0 parts.1 in
    record {
      callee = placed x s.2.1.at;
      name = placed k s.2.2.2.1.at;
      tree = ys.tree;
      read = next s.1 (named_again x s.2.1) s.2.2.1 (named_again k s.2.2.2.1) ys.read parts.2.1 (only parts.2.2);
      same_callee = refl;
      same_name = refl;
      same = ys.same;
    }

lets_again : {from to : List Token} {ls : List Let} → Many IsLet from to ls → (f t : List Token)
    → Spells (flat_map let_kinds ls) f t → Again (EachSame SameLet) (Many IsLet f t) ls
lets_again ls f t s = many_again let_kinds SameLet (λ from to l r f t s. let_again r f t s) ls f t s

closed : {k : TokenKind} {from to : List Token} (b : Begins k from to) → BeginsAt k b.at from to
closed b = record { front = b.front }

block_again : {deep : ℕ} {from to : List Token} {b : Block} → IsBlock deep from to b → (f t : List Token)
    → Spells (block_kinds b) f t → Again SameBlock (IsBlock deep f t) b
block_again (ends_in_if {inside = inside} {ls = ls} {lets1 = lets1} {lets2 = lets2} {e1 = e1} {end1 = end1} {end2 =
    end2} {p = p} {q = q} d o lets i r then1 else1 otherwise shut) f t s =
    let first = split (flat_map let_kinds ls)
    (end_kinds (If' e1 p lets1 end1 0 q lets2 end2 0) ++ (kind.Mark sign.CloseBrace ∷ [])) s.0 t s.2 in
    let last = split (end_kinds (If' e1 p lets1 end1 0 q lets2 end2 0))
    (kind.Mark sign.CloseBrace ∷ []) first.0 t first.2 in
    let shut2 : Begins (kind.Mark sign.CloseBrace) last.0 t = only last.2 in
    let test = split (expr_kinds e1) (block_kinds (record { lets = lets1; end = end1; close = 0 })
    ++ (kind.Keyword word.Else ∷ block_kinds (record { lets = lets2; end = end2; close = 0 }))) last.1.0 last.0
    last.1.2 in
    let arms = split (block_kinds (record { lets = lets1; end = end1; close = 0 }))
    (kind.Keyword word.Else ∷ block_kinds (record { lets = lets2; end = end2; close = 0 })) test.0 last.0 test.2 in
    let ys = lets_again lets s.0 first.0 first.1 in
    let y = expr_again e1 last.1.0 test.0 (read_height r) test.1 in
    let x1 = block_again then1 test.0 arms.0 arms.1 in
    let x2 = block_again otherwise arms.2.0 last.0 arms.2.2 in
    record {
      tree = record {
        lets = ys.tree;
        end = If' y.tree p x1.tree.lets x1.tree.end x1.tree.close q x2.tree.lets x2.tree.end x2.tree.close;
        close = shut2.at;
      };
      read = ends_in_if d s.1 ys.read last.1.1 y.read x1.read arms.2.1 x2.read (closed shut2);
      same = (ys.same, (y.same, x1.same.0, x1.same.1, x2.same.0, x2.same.1));
    }
block_again (ends_in_send {ls = ls} {k = k} {e = e} d o lets m shut) f t s =
    let first = split (flat_map let_kinds ls) (send_kinds k e ++ (kind.Mark sign.CloseBrace ∷ [])) s.0 t s.2 in
    let last = split (send_kinds k e) (kind.Mark sign.CloseBrace ∷ []) first.0 t first.2 in
    let shut2 : Begins (kind.Mark sign.CloseBrace) last.0 t = only last.2 in
    let ys = lets_again lets s.0 first.0 first.1 in
    let y = send_again m first.0 last.0 last.1 in
    record {
      tree = record { lets = ys.tree; end = Send y.name y.tree; close = shut2.at };
      read = ends_in_send d s.1 ys.read y.read (closed shut2);
      same = (ys.same, (y.same_name, y.same));
    }
block_again (ends_in_next {ls = ls} {t = x} {k = k} {args = args} {uses = uses} d o lets n us shut) f t s =
    let first = split (flat_map let_kinds ls)
    ((next_kinds x k args ++ flat_map use_kinds uses) ++ (kind.Mark sign.CloseBrace ∷ [])) s.0 t s.2 in
    let last = split (next_kinds x k args ++ flat_map use_kinds uses)
    (kind.Mark sign.CloseBrace ∷ []) first.0 t first.2 in
    let shut2 : Begins (kind.Mark sign.CloseBrace) last.0 t = only last.2 in
    let calls = split (next_kinds x k args) (flat_map use_kinds uses) first.0 last.0 last.1 in
    let ys = lets_again lets s.0 first.0 first.1 in
    let y = next_again n first.0 calls.0 calls.1 in
    let vs = many_again use_kinds SameUse (λ from to u r f t s. use_again r f t s) us calls.0 last.0 calls.2 in
    record {
      tree = record { lets = ys.tree; end = Next y.callee y.name y.tree vs.tree; close = shut2.at };
      read = ends_in_next d s.1 ys.read y.read vs.read (closed shut2);
      same = (ys.same, (y.same_callee, y.same_name, y.same, vs.same));
    }

thread_again : {from to : List Token} {x : Thread} → IsThread from to x → (f t : List Token)
    → Spells (thread_kinds x) f t → Again SameThread (IsThread f t) x
thread_again (thread {x = x} {k = k} {ns = ns} {body = body} w n o c ps shut b) f t s =
    let parts = split (flat_map parameter_kinds ns) (kind.Mark sign.Close ∷ block_kinds body) s.2.2.2.0 t s.2.2.2.2 in
    let ys = many_again parameter_kinds SameName
    (λ from to x r f t s. parameter_again r f t s) ps s.2.2.2.0 parts.0 parts.1 in
    let y = block_again b parts.2.0 t parts.2.2 in
    record {
      tree = record {
        name = placed x s.2.1.at;
        continuation = placed k s.2.2.2.1.at;
        numbers = ys.tree;
        body = y.tree;
      };
      read = thread s.1 (named_again x s.2.1) s.2.2.1 (named_again k s.2.2.2.1) ys.read parts.2.1 y.read;
      same = (refl, refl, ys.same, y.same);
    }

-- tokens of the kinds that threads are printed by are read as these threads
pub threads_again : {from to : List Token} {xs : List Thread} → Many IsThread from to xs → (f t : List Token)
    → Spells (flat_map thread_kinds xs) f t → Again (EachSame SameThread) (Many IsThread f t) xs
threads_again xs f t s = many_again thread_kinds SameThread (λ from to x r f t s. thread_again r f t s) xs f t s
