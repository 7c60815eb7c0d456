-- Expressions have one reading or one refusal: a reader without trees, whose answer is the only
-- one.
use Rattle.std.proofs.Common.{◌≡◌, ℕ, ◌+◌, ◌<◌, ◌≤◌, max, List, [], ◌∷◌, Some, None, refl, ap, sym, ◌∙◌, arith}
use Rattle.task_tokens.specs.declared.kinds.Sign.TheVariants as sign
use Rattle.task_tokens.specs.declared.kinds.Operator.{Operator}
use Rattle.task_tokens.specs.declared.kinds.TokenKind.{TokenKind}
use Rattle.task_tokens.specs.declared.kinds.TokenKind.TheVariants as kind
use Rattle.task_tokens.specs.declared.kinds.Token.{Token}
use Rattle.task_tree.specs.declared.tree.Expr.{Expr}
use Rattle.task_syntax.specs.declared.error.ParseError.{ParseError}
use Rattle.task_syntax.specs.declared.error.ParseError.TheVariants.{TooDeepNest}
use Rattle.task_syntax.specs.Grammar.{Begins, BeginsAt, IsMark, ReadsExpr, number, variable, grouped, infixed, height_of, level_of}
use Rattle.task_syntax.specs.Refusals.{Lacks, Misses, Stops, IsInfix, LacksInfix, first_refusal, leaf_refusal}
use Rattle.task_syntax.specs.Meeting.{MeetsExpr, no_operand, too_deep, in_parentheses, unclosed, right, too_high}
use Rattle.task_syntax.proofs.Reading.{begins_at}
use Rattle.task_syntax.proofs.Refusals.{level_of-lt}

-- the tokens behind what was read, and the levels of its tree; or a refusal
pub data Outcome : Type 0 where
  ends : List Token → ℕ → Outcome
  fails : ParseError → Outcome

-- what was read in parentheses is closed
pub data Closes (o r : Outcome) : Type 0 where
  close_failed : {e : ParseError} → o ≡ fails e → r ≡ fails e → Closes o r
  close_there : {m to : List Token} {h : ℕ} → o ≡ ends m h → IsMark sign.Close m to → r ≡ ends to h → Closes o r
  close_lacks : {m : List Token} {h : ℕ} {e : ParseError} → o ≡ ends m h → Misses (kind.Mark sign.Close) m e
      → r ≡ fails e → Closes o r

-- an operator at this place joins what has so many levels with what is behind it
pub data Joined (at h : ℕ) (o r : Outcome) : Type 0 where
  join_failed : {e : ParseError} → o ≡ fails e → r ≡ fails e → Joined at h o r
  join_fits : {m : List Token} {k : ℕ} → o ≡ ends m k → 1 + max h k ≤ 64 → r ≡ ends m (1 + max h k) → Joined at h o r
  join_high : {m : List Token} {k : ℕ} → o ≡ ends m k → 64 < 1 + max h k → r ≡ fails (TooDeepNest at) → Joined at h o r

mutual
  -- a number, a name, or an expression in parentheses
  pub data Operand : (parens : ℕ) → (from : List Token) → Outcome → Type 0 where
    bad : {parens : ℕ} {from : List Token} {r : Outcome} {e : ParseError} → Lacks (kind.Mark sign.Open) from
        → first_refusal leaf_refusal from ≡ Some e → r ≡ fails e → Operand parens from r
    leaf : {parens : ℕ} {from rest : List Token} {r : Outcome} {t : Token} → from ≡ t ∷ rest
        → first_refusal leaf_refusal from ≡ None → r ≡ ends rest 1 → Operand parens from r
    deep : {parens at : ℕ} {from to : List Token} {r : Outcome} → parens ≡ 0 → BeginsAt (kind.Mark sign.Open) at from to
        → r ≡ fails (TooDeepNest at) → Operand parens from r
    group : {parens inside : ℕ} {from a : List Token} {o r : Outcome} → parens ≡ inside + 1 → IsMark sign.Open from a
        → Scan inside 0 a o → Closes o r → Operand parens from r

  -- an expression with no operator looser than a level
  pub data Scan : (parens level : ℕ) → (from : List Token) → Outcome → Type 0 where
    scan : {parens level : ℕ} {from : List Token} {o r : Outcome} → Operand parens from o → Climb parens level 8 o r
        → Scan parens level from r

  -- the operators behind what was read, of levels from `loosest` to `tightest`
  pub data Climb : (parens loosest tightest : ℕ) → (o r : Outcome) → Type 0 where
    failed : {parens loosest tightest : ℕ} {o r : Outcome} {e : ParseError} → o ≡ fails e → r ≡ fails e
        → Climb parens loosest tightest o r
    stop : {parens loosest tightest h : ℕ} {o r : Outcome} {m : List Token} → o ≡ ends m h
        → LacksInfix loosest tightest m → r ≡ ends m h → Climb parens loosest tightest o r
    on : {parens loosest tightest at h : ℕ} {o i j r : Outcome} {m n : List Token} {op : Operator} → o ≡ ends m h
        → IsInfix loosest tightest op at m n → Scan parens (level_of op + 1) n i → Joined at h i j
        → Climb parens loosest (level_of op) j r → Climb parens loosest tightest o r

-- the parts of a first token
abbrev first_kind : List Token → TokenKind
first_kind [] = kind.End
first_kind (t ∷ ts) = t.kind

abbrev first_offset : List Token → ℕ
first_offset [] = 0
first_offset (t ∷ ts) = t.offset

abbrev behind_first : List Token → List Token
behind_first [] = []
behind_first (t ∷ ts) = ts

-- one token stands first
pub record SameFirst (k j : TokenKind) (at bt : ℕ) (to uo : List Token) : Type 0 where
  pub kinds : k ≡ j
  pub places : at ≡ bt
  pub rests : to ≡ uo

pub same_first : {k j : TokenKind} {at bt : ℕ} {from grom to uo : List Token} → BeginsAt k at from to
    → BeginsAt j bt grom uo → from ≡ grom → SameFirst k j at bt to uo
same_first b c e =
    let f = sym b.front ∙ (e ∙ c.front) in
    record { kinds = ap first_kind f; places = ap first_offset f; rests = ap behind_first f }

pub begins_same : {k j : TokenKind} {from grom to uo : List Token} → Begins k from to → Begins j grom uo → from ≡ grom
    → to ≡ uo
begins_same b c e =
    let f = sym b.front ∙ (e ∙ c.front) in ap behind_first f

-- what is lacking isn't there
pub not_there : {k : TokenKind} {from grom to : List Token} → Lacks k from → Begins k grom to → from ≡ grom → ⊥
not_there {to = to} l b e = l.lacks to (rw e b)

-- the parts of what was read
pub record SameEnds (m n : List Token) (h k : ℕ) : Type 0 where
  pub rests : m ≡ n
  pub heights : h ≡ k

pub same_ends : {o u : Outcome} {m n : List Token} {h k : ℕ} → o ≡ ends m h → u ≡ ends n k → o ≡ u → SameEnds m n h k
same_ends a b e = record { rests = cc; heights = cc }

-- an open parenthesis is no number and no name
pub open_refused : {from grom to : List Token} → IsMark sign.Open grom to → first_refusal leaf_refusal from ≡ None
    → from ≡ grom → ⊥
open_refused b f e =
    let g = sym f ∙ (ap (first_refusal leaf_refusal) e ∙ ap (first_refusal leaf_refusal) b.front) in cc

-- an operator is there or not
pub not_infix : {loosest moosest tightest vightest at : ℕ} {m n to : List Token} {op : Operator}
    → LacksInfix loosest tightest m → IsInfix moosest vightest op at n to → loosest ≡ moosest → tightest ≡ vightest
    → m ≡ n → ⊥
not_infix {to = to} {op = op} l i a b e =
    l.lacks op to (rw e (begins_at i.begins)) (omega (arith, a, i.tight)) (omega (arith, b, i.loose))

pub same_operator : {op pp : Operator} → kind.Infix op ≡ kind.Infix pp → op ≡ pp
same_operator e = cc

pub same_closes : {o u r s : Outcome} → Closes o r → Closes u s → o ≡ u → r ≡ s
same_closes (close_failed a b) (close_failed c d) e = cc
same_closes (close_failed a b) (close_there c m d) e = cc
same_closes (close_failed a b) (close_lacks c m d) e = cc
same_closes (close_there a m b) (close_failed c d) e = cc
same_closes (close_there a m b) (close_there c n d) e =
    let s = same_ends a c e in
    let t = begins_same m n s.rests in cc
same_closes (close_there a m b) (close_lacks c n d) e = absurd (not_there n.lacks m (sym (same_ends a c e).rests))
same_closes (close_lacks a m b) (close_failed c d) e = cc
same_closes (close_lacks a m b) (close_there c n d) e = absurd (not_there m.lacks n (same_ends a c e).rests)
same_closes (close_lacks a m b) (close_lacks c n d) e =
    let s = same_ends a c e in
    let t = m.is in
    let u = n.is in cc

pub same_joined : {at bt h k : ℕ} {o u r s : Outcome} → Joined at h o r → Joined bt k u s → at ≡ bt → h ≡ k → o ≡ u
    → r ≡ s
same_joined (join_failed a b) (join_failed c d) p q e = cc
same_joined (join_failed a b) (join_fits c f d) p q e = cc
same_joined (join_failed a b) (join_high c f d) p q e = cc
same_joined (join_fits a f b) (join_failed c d) p q e = cc
same_joined (join_fits a f b) (join_fits c g d) p q e = let s = same_ends a c e in cc
same_joined (join_fits a f b) (join_high c g d) p q e = let s = same_ends a c e in absurd (omega (arith, s.heights))
same_joined (join_high a f b) (join_failed c d) p q e = cc
same_joined (join_high a f b) (join_fits c g d) p q e = let s = same_ends a c e in absurd (omega (arith, s.heights))
same_joined (join_high a f b) (join_high c g d) p q e = cc

mutual
  pub same_operand : {parens qarens : ℕ} {from grom : List Token} {r s : Outcome} → Operand parens from r
      → Operand qarens grom s → parens ≡ qarens → from ≡ grom → r ≡ s
  same_operand (bad l f e) (bad m g d) p q = cc
  same_operand (bad l f e) (leaf t g d) p q = cc
  same_operand (bad l f e) (deep z b d) p q = absurd (not_there l (begins_at b) q)
  same_operand (bad l f e) (group z b i d) p q = absurd (not_there l b q)
  same_operand (leaf t f e) (bad m g d) p q = cc
  same_operand (leaf t f e) (leaf u g d) p q = cc
  same_operand (leaf t f e) (deep z b d) p q = absurd (open_refused (begins_at b) f q)
  same_operand (leaf t f e) (group z b i d) p q = absurd (open_refused b f q)
  same_operand (deep y a e) (bad m g d) p q = absurd (not_there m (begins_at a) (sym q))
  same_operand (deep y a e) (leaf u g d) p q = absurd (open_refused (begins_at a) g (sym q))
  same_operand (deep y a e) (deep z b d) p q = let s = same_first a b q in cc (s.places)
  same_operand (deep y a e) (group z b i d) p q = absurd (omega (arith, y, z, p))
  same_operand (group y a j e) (bad m g d) p q = absurd (not_there m a (sym q))
  same_operand (group y a j e) (leaf u g d) p q = absurd (open_refused a g (sym q))
  same_operand (group y a j e) (deep z b d) p q = absurd (omega (arith, y, z, p))
  same_operand (group y a j e) (group z b i d) p q =
      same_closes e d (same_scan j i (omega (arith, y, z, p)) refl (begins_same a b q))

  pub same_scan : {parens qarens level mevel : ℕ} {from grom : List Token} {r s : Outcome} → Scan parens level from r
      → Scan qarens mevel grom s → parens ≡ qarens → level ≡ mevel → from ≡ grom → r ≡ s
  same_scan (scan a c) (scan b d) p l q = same_climb c d p l refl (same_operand a b p q)

  pub same_climb : {parens qarens loosest moosest tightest vightest : ℕ} {o u r s : Outcome}
      → Climb parens loosest tightest o r → Climb qarens moosest vightest u s → parens ≡ qarens → loosest ≡ moosest
      → tightest ≡ vightest → o ≡ u → r ≡ s
  same_climb (failed a b) (failed c d) p l t e = cc
  same_climb (failed a b) (stop c n d) p l t e = cc
  same_climb (failed a b) (on c i j k d) p l t e = cc
  same_climb (stop a m b) (failed c d) p l t e = cc
  same_climb (stop a m b) (stop c n d) p l t e = cc
  same_climb (stop a m b) (on c i j k d) p l t e = absurd (not_infix m i l t (same_ends a c e).rests)
  same_climb (on a g f h b) (failed c d) p l t e = cc
  same_climb (on a g f h b) (stop c n d) p l t e = absurd (not_infix n g (sym l) (sym t) (sym (same_ends a c e).rests))
  same_climb (on a g f h b) (on c i j k d) p l t e =
      let s = same_ends a c e in
      let w = same_first g.begins i.begins s.rests in
      let v = same_operator w.kinds in
      same_climb b d p l (ap level_of v) (same_joined h k w.places s.heights
      (same_scan f j p (ap (λ (x : Operator). level_of x + 1) v) w.rests))

-- where what was read ends an operand of operators up to `top`: what the climb goes on to is
-- scanned from the start
pub record Climbs (parens level : ℕ) (from to : List Token) (h : ℕ) : Type 0 where
  pub top : ℕ
  pub above : level ≤ top
  pub go : (loosest : ℕ) (r : Outcome) → loosest ≤ level → Stops (top + 1) to → Climb parens loosest top (ends to h) r
      → Scan parens loosest from r

-- where no operator goes on, what was read is all
pub finish : {parens level : ℕ} {from to : List Token} {h : ℕ} → Climbs parens level from to h → Stops level to
    → Scan parens level from (ends to h)
finish k s =
    k.go _ _ (omega arith) (record { stops = λ op uo b. omega (arith, s.stops op uo b, k.above) })
    (stop refl (record { lacks = λ op uo b l t. absurd (omega (arith, s.stops op uo b, l)) }) refl)

-- an operator goes on behind what was read
pub climb_on : {parens level at h : ℕ} {from m n : List Token} {i j r : Outcome} {op : Operator}
    → Climbs parens (level_of op) from m h → level ≤ level_of op → BeginsAt (kind.Infix op) at m n
    → Scan parens (level_of op + 1) n i → Joined at h i j → Climb parens level (level_of op) j r
    → Scan parens level from r
climb_on {op = op} k l b sc jo c =
    let alone : (pp : Operator) (uo : List Token) → Begins (kind.Infix pp) _ uo
    → level_of pp < k.top + 1 = λ pp uo d.
    omega (arith, k.above, ap level_of (same_operator (same_first b (record { front = d.front }) refl).kinds)) in
    k.go _ _ l (record { stops = alone }) (on refl (record { begins = b; tight = l; loose = k.above }) sc jo c)

-- at a mark no operator goes on
pub stops_mark : {s : _} {level : ℕ} {from to : List Token} → IsMark s from to → Stops level from
stops_mark b = record {
  stops = λ op uo d. let w = (same_first (record { front = b.front }) (record { front = d.front }) refl).kinds in cc;
}

pub climbs : {parens level : ℕ} {from to : List Token} {e : Expr} → ReadsExpr parens level from to e → level ≤ 8
    → Climbs parens level from to (height_of e)
climbs (number b) low = record {
  top = 8;
  above = low;
  go = λ loosest r h s c. scan (leaf b.front (ap (first_refusal leaf_refusal) b.front) refl) c;
}
climbs (variable b) low = record {
  top = 8;
  above = low;
  go = λ loosest r h s c. scan (leaf b.front (ap (first_refusal leaf_refusal) b.front) refl) c;
}
climbs (grouped p o i d) low =
    let inner = finish (climbs i (omega arith)) (stops_mark d) in
    record {
      top = 8;
      above = low;
      go = λ loosest r h s c. scan (group p o inner (close_there refl d refl)) c;
    }
climbs (infixed {op = op} l a b i high) low =
    let left = climbs a (omega (arith, level_of-lt op)) in
    let side = climbs i (omega (arith, level_of-lt op)) in
    record {
      top = level_of op;
      above = l;
      go = λ loosest r h s c. climb_on left (omega (arith, h, l)) (record { front = b.front }) (finish side s)
          (join_fits refl high refl) c;
    }

-- what is met is what scanning gives
pub met_scan : {parens level : ℕ} {from : List Token} {e : ParseError} → MeetsExpr parens level from e
    → Scan parens level from (fails e)
met_scan (no_operand l f) = scan (bad l f refl) (failed refl refl)
met_scan (too_deep z b) = scan (deep z b refl) (failed refl refl)
met_scan (in_parentheses p o m) = scan (group p o (met_scan m) (close_failed refl refl)) (failed refl refl)
met_scan (unclosed p o i s m) = scan (group p o (finish (climbs i (omega arith)) s) (close_lacks refl m refl))
    (failed refl refl)
met_scan (right {op = op} l a b m) =
    climb_on (climbs a (omega (arith, level_of-lt op))) l (record { front = b.front }) (met_scan m)
    (join_failed refl refl) (failed refl refl)
met_scan (too_high {op = op} l a b i s h) =
    climb_on (climbs a (omega (arith, level_of-lt op))) l b (finish (climbs i (omega (arith, level_of-lt op))) s)
    (join_high refl h refl) (failed refl refl)
