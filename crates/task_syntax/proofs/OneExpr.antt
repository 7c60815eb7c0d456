-- An expression has one tree: a reader that keeps the tree so far, whose answer is the only one.
use Rattle.std.proofs.Common.{◌≡◌, ℕ, ℤ, ◌+◌, ◌<◌, ◌≤◌, List, refl, ap, sym, arith}
use Rattle.task_tokens.specs.declared.kinds.Sign.TheVariants as sign
use Rattle.task_tokens.specs.declared.kinds.Operator.{Operator}
use Rattle.task_tokens.specs.declared.kinds.TokenKind.{TokenKind}
use Rattle.task_tokens.specs.declared.kinds.TokenKind.TheVariants as kind
use Rattle.task_tokens.specs.declared.kinds.Token.{Token}
use Rattle.task_tree.specs.declared.tree.Name.{Name}
use Rattle.task_tree.specs.declared.tree.Expr.{Expr}
use Rattle.task_tree.specs.declared.tree.Expr.TheVariants.{Number, Variable, Binary'}
use Rattle.task_syntax.specs.Grammar.{Begins, IsMark, IsName, IsExpr, ReadsExpr, number, variable, grouped, infixed, level_of}
use Rattle.task_syntax.specs.Refusals.{Stops, IsInfix, LacksInfix}
use Rattle.task_tree.specs.Equal.{EqualExpr}
use Rattle.task_syntax.proofs.Reading.{begins_at}
use Rattle.task_syntax.proofs.Refusals.{level_of-lt}
use Rattle.task_syntax.proofs.Scanning.{same_first, begins_same, not_infix, same_operator, stops_mark}

-- two readings end at one place, and their trees are equal
pub record Agree {A : Type 0} (Equal : A → A → Type 0) (to uo : List Token) (x y : A) : Type 0 where
  pub rests : to ≡ uo
  pub equal : Equal x y

-- one kind of token stands first
pub one_kind : {k j : TokenKind} {from grom to uo : List Token} → Begins k from to → Begins j grom uo → from ≡ grom
    → k ≡ j
one_kind b c e = (same_first (record { front = b.front }) (record { front = c.front }) e).kinds

abbrev name_at : List ℕ → ℕ → Name
name_at t i = record { text = t; offset = i }

-- names of one text and one place are one
same_name : {t u : List ℕ} {i j : ℕ} → kind.Ident t ≡ kind.Ident u → i ≡ j → name_at t i ≡ name_at u j
same_name e f = cc

-- one name stands first
pub one_name : {from grom to uo : List Token} {x y : Name} → IsName from to x → IsName grom uo y → from ≡ grom
    → Agree ◌≡◌ to uo x y
one_name b c e = let s = same_first b c e in record { rests = s.rests; equal = same_name s.kinds s.places }

mutual
  -- a number, a name, or an expression in parentheses
  data Operand : (parens : ℕ) → (from to : List Token) → Expr → Type 0 where
    numeral : {parens : ℕ} {from to : List Token} {n : ℤ} → Begins (kind.Numeral n) from to
        → Operand parens from to (Number n)
    named : {parens : ℕ} {from to : List Token} {x : Name} → IsName from to x → Operand parens from to (Variable x)
    group : {parens inside : ℕ} {from a b to : List Token} {e : Expr} → IsMark sign.Open from a → Scan inside 0 a b e
        → IsMark sign.Close b to → Operand parens from to e

  -- an expression with no operator looser than a level
  data Scan : (parens level : ℕ) → (from to : List Token) → Expr → Type 0 where
    scan : {parens level : ℕ} {from m to : List Token} {a e : Expr} → Operand parens from m a
        → Climb parens level 8 m to a e → Scan parens level from to e

  -- behind the tree a, the operators of levels from `loosest` to `tightest`: they make it the tree
  -- e
  data Climb : (parens loosest tightest : ℕ) → (from to : List Token) → (a e : Expr) → Type 0 where
    stop : {parens loosest tightest : ℕ} {to : List Token} {e : Expr} → LacksInfix loosest tightest to
        → Climb parens loosest tightest to to e e
    on :
        {parens loosest tightest at : ℕ} {from m n to : List Token} {op : Operator} {p q : _} {a b e : Expr}
        → IsInfix loosest tightest op at from m → Scan parens (level_of op + 1) m n b
        → Climb parens loosest (level_of op) n to (Binary' op p a q b) e → Climb parens loosest tightest from to a e

-- an open parenthesis is no number and no name
open_number : {k : _} {from grom to uo : List Token} → IsMark sign.Open from to → Begins (kind.Numeral k) grom uo
    → from ≡ grom → ⊥
open_number o b e = let k = one_kind o b e in cc

open_name : {from grom to uo : List Token} {x : Name} → IsMark sign.Open from to → IsName grom uo x → from ≡ grom → ⊥
open_name o b e = let k = one_kind o (begins_at b) e in cc

number_name : {k : _} {from grom to uo : List Token} {x : Name} → Begins (kind.Numeral k) from to → IsName grom uo x
    → from ≡ grom → ⊥
number_name o b e = let k = one_kind o (begins_at b) e in cc

mutual
  one_operand : {parens qarens : ℕ} {from grom to uo : List Token} {a b : Expr} → Operand parens from to a
      → Operand qarens grom uo b → from ≡ grom → Agree EqualExpr to uo a b
  one_operand (numeral b) (numeral c) e = let k = one_kind b c e in record { rests = begins_same b c e; equal = cc }
  one_operand (numeral b) (named c) e = absurd (number_name b c e)
  one_operand (numeral b) (group o s d) e = absurd (open_number o b (sym e))
  one_operand (named b) (numeral c) e = absurd (number_name c b (sym e))
  one_operand (named b) (named c) e = let s = one_name b c e in record { rests = s.rests; equal = s.equal }
  one_operand (named b) (group o s d) e = absurd (open_name o b (sym e))
  one_operand (group o s d) (numeral c) e = absurd (open_number o c e)
  one_operand (group o s d) (named c) e = absurd (open_name o c e)
  one_operand (group o s d) (group p t c) e =
      let i = one_scan s t refl (begins_same o p e) in record { rests = begins_same d c i.rests; equal = i.equal }

  one_scan :
      {parens qarens level mevel : ℕ} {from grom to uo : List Token} {a b : Expr}
      → Scan parens level from to a → Scan qarens mevel grom uo b → level ≡ mevel → from ≡ grom
      → Agree EqualExpr to uo a b
  one_scan (scan o c) (scan p d) l e = let i = one_operand o p e in one_climb c d l refl i.rests i.equal

  one_climb :
      {parens qarens loosest moosest tightest vightest : ℕ} {from grom to uo : List Token} {a b x y : Expr}
      → Climb parens loosest tightest from to a x → Climb qarens moosest vightest grom uo b y → loosest ≡ moosest
      → tightest ≡ vightest → from ≡ grom → EqualExpr a b → Agree EqualExpr to uo x y
  one_climb (stop m) (stop n) l t e h = record { rests = e; equal = h }
  one_climb (stop m) (on i s c) l t e h = absurd (not_infix m i l t e)
  one_climb (on i s c) (stop n) l t e h = absurd (not_infix n i (sym l) (sym t) (sym e))
  one_climb (on i s c) (on j u d) l t e h =
      let w = same_first i.begins j.begins e in
      let v = same_operator w.kinds in
      let r = one_scan s u (ap (λ (x : Operator). level_of x + 1) v) w.rests in
      one_climb c d l (ap level_of v) r.rests (v, h, r.equal)

-- where what was read ends an operand of operators up to `top`: what the climb goes on to is
-- scanned from the start
record Climbs (parens level : ℕ) (from to : List Token) (a : Expr) : Type 0 where
  top : ℕ
  above : level ≤ top
  go : (loosest : ℕ) (end : List Token) (e : Expr) → loosest ≤ level → Stops (top + 1) to
      → Climb parens loosest top to end a e → Scan parens loosest from end e

-- where no operator goes on, what was read is all
finish : {parens level : ℕ} {from to : List Token} {a : Expr} → Climbs parens level from to a → Stops level to
    → Scan parens level from to a
finish k s =
    k.go _ _ _ (omega arith) (record { stops = λ op uo b. omega (arith, s.stops op uo b, k.above) })
    (stop (record { lacks = λ op uo b l t. absurd (omega (arith, s.stops op uo b, l)) }))

-- an operator stops a climb of tighter ones
stops_infix : {level : ℕ} {op : Operator} {from to : List Token} → Begins (kind.Infix op) from to → level_of op < level
    → Stops level from
stops_infix b h = record {
  stops = λ pp uo d. let same = ap level_of (same_operator (one_kind b d refl)) in omega (arith, same, h);
}

-- an operator goes on behind what was read
climb_on :
    {parens level loosest : ℕ} {from m n to end : List Token} {op : Operator} {p q : _} {a b e : Expr}
    → Climbs parens (level_of op) from m a → level ≤ level_of op → loosest ≤ level → Begins (kind.Infix op) m n
    → Scan parens (level_of op + 1) n to b
    → Climb parens loosest (level_of op) to end (Binary' op p a q b) e → Scan parens loosest from end e
climb_on k l h b sc c =
    k.go _ _ _ (omega (arith, h, l)) (stops_infix b (omega (arith, k.above)))
    (on (record { begins = record { front = b.front }; tight = omega (arith, h, l); loose = k.above }) sc c)

climbs : {parens level : ℕ} {from to : List Token} {e : Expr} → ReadsExpr parens level from to e → level ≤ 8
    → Climbs parens level from to e
climbs (number b) low = record {
  top = 8;
  above = low;
  go = λ loosest end e h s c. scan (numeral b) c;
}
climbs (variable b) low = record {
  top = 8;
  above = low;
  go = λ loosest end e h s c. scan (named b) c;
}
climbs (grouped p o i d) low =
    let inner = finish (climbs i (omega arith)) (stops_mark d) in
    record {
      top = 8;
      above = low;
      go = λ loosest end e h s c. scan (group o inner d) c;
    }
climbs (infixed {op = op} l a b i high) low =
    let left = climbs a (omega (arith, level_of-lt op)) in
    let side = climbs i (omega (arith, level_of-lt op)) in
    record {
      top = level_of op;
      above = l;
      go = λ loosest end e h s c. climb_on left l h b (finish side s) c;
    }

-- a whole expression has one end and one tree
pub one_expr : {from grom to uo : List Token} {x y : Expr} → IsExpr from to x → IsExpr grom uo y → Stops 0 to
    → Stops 0 uo → from ≡ grom → Agree EqualExpr to uo x y
one_expr r s t u e = one_scan (finish (climbs r (omega arith)) t) (finish (climbs s (omega arith)) u) refl e
