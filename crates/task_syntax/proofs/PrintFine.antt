-- The tokens of a text, and what is read from them, are printed as they are read.
use Rattle.std.proofs.Common.{◌≡◌, ℕ, length, ◌+◌, ◌-◌, ◌^◌, zero, suc, Bool, true, false, cond, ◌&&◌, List, [], ◌∷◌, ◌++◌, pos, take, Option, Some, None, refl, ◌∙◌, arith}
use Rattle.std.specs.Prelude.{nat_eq, nat_lt, codes}
use Rattle.std.specs.List.{list_all, flat_map, prefix_len}
use Rattle.std.specs.Str.{bytes_eq}
use Rattle.std.specs.Char.{is_ascii_digit}
use Rattle.std.proofs.lemmas.Bool.{and_from, ltb-true}
use Rattle.task_tokens.specs.Tokens.{is_blank, begins_name, is_of, decimal, named, numbered, two_bytes, one_byte, Front, marked, sign_front, front_of, with_token, tokens}
use Rattle.task_tokens.specs.declared.kinds.Word.TheVariants as word
use Rattle.task_tokens.specs.declared.kinds.Sign.TheVariants as sign
use Rattle.task_tokens.specs.declared.kinds.Run.TheVariants as run
use Rattle.task_tokens.specs.declared.kinds.TokenKind.{TokenKind}
use Rattle.task_tokens.specs.declared.kinds.TokenKind.TheVariants.{Ident, LongIdent, Keyword, Numeral, LargeNumeral, Infix, Mark, Unknown, End}
use Rattle.task_tokens.specs.declared.kinds.Token.{Token}
use Rattle.task_tree.specs.declared.tree.Name.{Name}
use Rattle.task_tree.specs.declared.tree.Expr.{Expr}
use Rattle.task_tree.specs.declared.tree.Let.{Let}
use Rattle.task_tree.specs.declared.tree.Argument.{Argument}
use Rattle.task_tree.specs.declared.tree.Use.{Use}
use Rattle.task_tree.specs.declared.tree.Block.{Block}
use Rattle.task_tree.specs.declared.tree.Thread.{Thread}
use Rattle.task_syntax.specs.Grammar.{Begins, BeginsAt, IsName, ReadsExpr, number, variable, grouped, infixed, IsExpr, Many, none, more, Further, further, IsLet, bound, IsArgument, hole, value, IsSend, send, spawn, IsUse, sent, spawned, IsNext, next, IsBlock, ends_in_if, ends_in_send, ends_in_next, IsThread, thread}
use Rattle.task_syntax.specs.Printed.{operand_kinds, expr_kinds, let_kinds, further_kinds, argument_kinds, parameter_kinds, call_end, send_kinds, use_kinds, next_kinds, block_kinds, thread_kinds}
use Rattle.task_syntax.proofs.PrintTokens.{Spellable, is_name, name_spells, word_spells, sign_spells, operator_spells, number_spells}
use Rattle.task_syntax.proofs.PrintLines.{EachSpellable, each_append}

-- a name or a number is read as it is spelled
abbrev Fine : TokenKind → Type 0
Fine (Ident name) = Spellable (Ident name)
Fine LongIdent = Unit {0}
Fine (Keyword w) = Unit {0}
Fine (Numeral n) = Spellable (Numeral n)
Fine LargeNumeral = Unit {0}
Fine (Infix op) = Unit {0}
Fine (Mark s) = Unit {0}
Fine Unknown = Unit {0}
Fine End = Unit {0}

abbrev FineOption : Option TokenKind → Type 0
FineOption None = Unit {0}
FineOption (Some k) = Fine k

abbrev FineFront : Front → Type 0
FineFront f = FineOption f.token

abbrev pub EachFine : List Token → Type 0
EachFine [] = Unit {0}
EachFine (t ∷ ts) = Fine t.kind × EachFine ts

if_holds : {A : Type 0} (P : A → Type 0) (t : Bool) (x y : A) → (t ≡ true → P x) → P y → P (cond t x y)
if_holds P true x y p q = p refl
if_holds P false x y p q = q

named_by : (t1 t2 t3 t4 t5 t6 t7 t8 : Bool) (text : List ℕ) (k : TokenKind) → is_name text ≡ true → named text ≡ k
    → k ≡ cond t1 (Keyword word.Thread)
    (cond t2 (Keyword word.Let) (cond t3 (Keyword word.If)
    (cond t4 (Keyword word.Else) (cond t5 (Keyword word.Spawn)
    (cond t6 (Keyword word.SpawnNext) (cond t7 (Keyword word.SendArgument) (cond t8 LongIdent (Ident text))))))))
    → Fine k
named_by true t2 t3 t4 t5 t6 t7 t8 text k h n e = rw e tt
named_by false true t3 t4 t5 t6 t7 t8 text k h n e = rw e tt
named_by false false true t4 t5 t6 t7 t8 text k h n e = rw e tt
named_by false false false true t5 t6 t7 t8 text k h n e = rw e tt
named_by false false false false true t6 t7 t8 text k h n e = rw e tt
named_by false false false false false true t7 t8 text k h n e = rw e tt
named_by false false false false false false true t8 text k h n e = rw e tt
named_by false false false false false false false true text k h n e = rw e tt
named_by false false false false false false false false text k h n e = rw e (name_spells (Ident text) text h (n ∙ e))

named_fine : (text : List ℕ) → is_name text ≡ true → Fine (named text)
named_fine text h = named_by (bytes_eq text (codes "thread")) (bytes_eq text (codes "let")) (bytes_eq text (codes "if")) (bytes_eq text (codes "else")) (bytes_eq text (codes "spawn")) (bytes_eq text (codes "spawn_next")) (bytes_eq text (codes "send_argument")) (nat_lt 31 (length text)) text (named text) h refl refl

numbered_fine : (digits : List ℕ) → Fine (numbered digits)
numbered_fine digits = if_holds Fine (nat_lt (decimal 0 digits) (2 ^ 63))
    (Numeral (pos (decimal 0 digits))) LargeNumeral
    (λ h. number_spells (decimal 0 digits) (ltb-true (decimal 0 digits) (2 ^ 63) h)) tt

taken_cons : (p : ℕ → Bool) (x : ℕ) (xs : List ℕ) (t : Bool) → p x ≡ t → list_all p (take (prefix_len p xs) xs) ≡ true
    → list_all p (take (cond t (1 + prefix_len p xs) 0) (x ∷ xs)) ≡ true
taken_cons p x xs true e h =
    let n : 1 + prefix_len p xs ≡ suc (prefix_len p xs) = omega arith in
    rw n (and_from (p x) (list_all p (take (prefix_len p xs) xs)) e h)
taken_cons p x xs false e h = refl

taken_all : (p : ℕ → Bool) (xs : List ℕ) → list_all p (take (prefix_len p xs) xs) ≡ true
taken_all p [] = refl
taken_all p (x ∷ xs) = taken_cons p x xs (p x) refl (taken_all p xs)

-- the run of a name is a name
name_by : (b : ℕ) (bs : List ℕ) (t : Bool) → t ≡ true → begins_name b ≡ true
    → is_name (take (cond t (1 + prefix_len (is_of run.Name) bs) 0) (b ∷ bs)) ≡ true
name_by b bs true e h =
    let n : 1 + prefix_len (is_of run.Name) bs ≡ suc (prefix_len (is_of run.Name) bs) = omega arith in
    rw n (and_from (begins_name b) (list_all (is_of run.Name) (take (prefix_len (is_of run.Name) bs) bs)) h
    (taken_all (is_of run.Name) bs))
name_by b bs false e h = cc

name_taken : (b : ℕ) (bs : List ℕ) → begins_name b ≡ true
    → is_name (take (prefix_len (is_of run.Name) (b ∷ bs)) (b ∷ bs)) ≡ true
name_taken b bs h = name_by b bs (is_of run.Name b) (rw h refl) h

one_byte_fine : (b : ℕ) → Fine (one_byte b)
one_byte_fine b = if_holds Fine (nat_eq b 124) _ _ (λ h. tt)
    (if_holds Fine (nat_eq b 94) _ _ (λ h. tt)
    (if_holds Fine (nat_eq b 38) _ _ (λ h. tt)
    (if_holds Fine (nat_eq b 60) _ _ (λ h. tt)
    (if_holds Fine (nat_eq b 43) _ _ (λ h. tt)
    (if_holds Fine (nat_eq b 45) _ _ (λ h. tt)
    (if_holds Fine (nat_eq b 42) _ _ (λ h. tt)
    (if_holds Fine (nat_eq b 47) _ _ (λ h. tt)
    (if_holds Fine (nat_eq b 37) _ _ (λ h. tt)
    (if_holds Fine (nat_eq b 40) _ _ (λ h. tt)
    (if_holds Fine (nat_eq b 41) _ _ (λ h. tt)
    (if_holds Fine (nat_eq b 123) _ _ (λ h. tt)
    (if_holds Fine (nat_eq b 125) _ _ (λ h. tt)
    (if_holds Fine (nat_eq b 44) _ _ (λ h. tt)
    (if_holds Fine (nat_eq b 59) _ _ (λ h. tt)
    (if_holds Fine (nat_eq b 63) _ _ (λ h. tt) (if_holds Fine (nat_eq b 61) _ _ (λ h. tt) tt))))))))))))))))

two_bytes_fine : (a b : ℕ) → FineOption (two_bytes a b)
two_bytes_fine a b = if_holds FineOption (nat_eq a 61 && nat_eq b 61) _ _ (λ h. tt)
    (if_holds FineOption (nat_eq a 33 && nat_eq b 61) _ _ (λ h. tt)
    (if_holds FineOption (nat_eq a 60 && nat_eq b 61) _ _ (λ h. tt)
    (if_holds FineOption (nat_eq a 60 && nat_eq b 60) _ _ (λ h. tt)
    (if_holds FineOption (nat_eq a 62 && nat_eq b 62) _ _ (λ h. tt) tt))))

marked_fine : (a : ℕ) (o : Option TokenKind) → FineOption o → FineFront (marked a o)
marked_fine a None f = one_byte_fine a
marked_fine a (Some k) f = f

sign_fine : (a : ℕ) (bs : List ℕ) → FineFront (sign_front a bs)
sign_fine a [] = one_byte_fine a
sign_fine a (b ∷ rest) = if_holds FineFront (nat_eq a 47 && nat_eq b 47)
    (record { token = None; size = 2 + prefix_len (is_of run.Line) rest }) (marked a (two_bytes a b)) (λ h. tt)
    (marked_fine a (two_bytes a b) (two_bytes_fine a b))

front_fine : (text : List ℕ) → FineFront (front_of text)
front_fine [] = tt
front_fine (b ∷ bs) =
    let name = take (prefix_len (is_of run.Name) (b ∷ bs)) (b ∷ bs) in
    let digits = take (prefix_len (is_of run.Digits) (b ∷ bs)) (b ∷ bs) in
    let as_digits : Front = cond (is_ascii_digit b)
    (record { token = Some (numbered digits); size = prefix_len (is_of run.Digits) (b ∷ bs) }) (sign_front b bs) in
    let as_name : Front = cond (begins_name b)
    (record { token = Some (named name); size = prefix_len (is_of run.Name) (b ∷ bs) }) as_digits in
    let digits_fine : FineFront as_digits =
    if_holds FineFront (is_ascii_digit b)
    (record { token = Some (numbered digits); size = prefix_len (is_of run.Digits) (b ∷ bs) }) (sign_front b bs)
    (λ h. numbered_fine digits) (sign_fine b bs) in
    let name_fine : FineFront as_name =
    if_holds FineFront (begins_name b)
    (record { token = Some (named name); size = prefix_len (is_of run.Name) (b ∷ bs) }) as_digits
    (λ h. named_fine name (name_taken b bs h)) digits_fine in
    if_holds FineFront (is_blank b) (record { token = None; size = 1 }) as_name (λ h. tt) name_fine

with_fine : (at : ℕ) (o : Option TokenKind) (rest : List Token) → FineOption o → EachFine rest
    → EachFine (with_token at o rest)
with_fine at None rest f g = g
with_fine at (Some k) rest f g = (f, g)

-- the tokens of any text
pub tokens_fine : (at inside : ℕ) (text : List ℕ) → EachFine (tokens at inside text)
tokens_fine at inside [] = (tt, tt)
tokens_fine at (suc inside) (b ∷ bs) = tokens_fine (suc at) inside bs
tokens_fine at zero (b ∷ bs) = with_fine at (front_of (b ∷ bs)).token
    (tokens (suc at) ((front_of (b ∷ bs)).size - 1) bs) (front_fine (b ∷ bs))
    (tokens_fine (suc at) ((front_of (b ∷ bs)).size - 1) bs)

-- what is printed by these kinds was read, up to these tokens
record Fined (to : List Token) (kinds : List TokenKind) : Type 0 where
  pub each : EachSpellable kinds
  pub rest : EachFine to

begins_fine : {k : TokenKind} {from to : List Token} → Begins k from to → EachFine from → Fine k × EachFine to
begins_fine b g = rw b.front at g

name_fine : {x : Name} {from to : List Token} → IsName from to x → EachFine from → Fine (Ident x.text) × EachFine to
name_fine b g = rw b.front at g

close_fine : {k : TokenKind} {at : ℕ} {from to : List Token} → BeginsAt k at from to → EachFine from
    → Fine k × EachFine to
close_fine b g = rw b.front at g

-- the same of an expression, as an operand and as a whole
record FinedExpr (to : List Token) (e : Expr) : Type 0 where
  operand : EachSpellable (operand_kinds e)
  whole : EachSpellable (expr_kinds e)
  rest : EachFine to

expr_fine : {parens level : ℕ} {from to : List Token} {e : Expr} → ReadsExpr parens level from to e → EachFine from
    → FinedExpr to e
expr_fine (number b) g = let f = begins_fine b g in record { operand = (f.0, tt); whole = (f.0, tt); rest = f.1 }
expr_fine (variable n) g = let f = name_fine n g in record { operand = (f.0, tt); whole = (f.0, tt); rest = f.1 }
expr_fine (grouped p o r c) g =
    let x = expr_fine r (begins_fine o g).1 in
    record { operand = x.operand; whole = x.whole; rest = (begins_fine c x.rest).1 }
expr_fine (infixed {op = op} {a = a} {b = b} l left i right low) g =
    let x = expr_fine left g in
    let y = expr_fine right (begins_fine i x.rest).1 in
    record {
      operand = (
        sign_spells sign.Open,
        each_append (operand_kinds a)
            (Infix op ∷ (operand_kinds b ++ (Mark sign.Close ∷ []))) x.operand (
              operator_spells op,
              each_append (operand_kinds b) (Mark sign.Close ∷ []) y.operand
                  (sign_spells sign.Close, tt),
            ),
      );
      whole = each_append (operand_kinds a) (Infix op ∷ operand_kinds b) x.operand (operator_spells op, y.operand);
      rest = y.rest;
    }

many_fine : {A : Type 0} {R : List Token → List Token → A → Type 0} (kinds : A → List TokenKind)
    → ((from to : List Token) (x : A) → R from to x → EachFine from → Fined to (kinds x))
    → {from to : List Token} {xs : List A} → Many R from to xs → EachFine from → Fined to (flat_map kinds xs)
many_fine kinds one none g = record { each = tt; rest = g }
many_fine kinds one (more {from = from} {m = m} {x = x} {xs = xs} r rs) g =
    let y = one from m x r g in
    let ys = many_fine kinds one rs y.rest in
    record { each = each_append (kinds x) (flat_map kinds xs) y.each ys.each; rest = ys.rest }

let_fine : {from to : List Token} {l : Let} → IsLet from to l → EachFine from → Fined to (let_kinds l)
let_fine (bound {e = e} w n a r c) g =
    let x = name_fine n (begins_fine w g).1 in
    let y = expr_fine r (begins_fine a x.1).1 in
    record {
      each = (
        word_spells word.Let,
        (
          x.0,
          (
            sign_spells sign.Assign,
            each_append (expr_kinds e) (Mark sign.Semicolon ∷ []) y.whole
                (sign_spells sign.Semicolon, tt),
          ),
        ),
      );
      rest = (begins_fine c y.rest).1;
    }

parameter_fine : {from to : List Token} {x : Name} → Further IsName from to x → EachFine from
    → Fined to (parameter_kinds x)
parameter_fine (further c n) g =
    let x = name_fine n (begins_fine c g).1 in
    record { each = (sign_spells sign.Comma, (x.0, tt)); rest = x.1 }

value_fine : {from to : List Token} {e : Expr} → Further IsExpr from to e → EachFine from → Fined to (further_kinds e)
value_fine (further c r) g =
    let y = expr_fine r (begins_fine c g).1 in
    record { each = (sign_spells sign.Comma, y.whole); rest = y.rest }

argument_fine : {from to : List Token} {a : Argument} → Further IsArgument from to a → EachFine from
    → Fined to (argument_kinds a)
argument_fine (further c (hole q n)) g =
    let x = name_fine n (begins_fine q (begins_fine c g).1).1 in
    record { each = (sign_spells sign.Comma, (sign_spells sign.Question, (x.0, tt))); rest = x.1 }
argument_fine (further c (value r)) g =
    let y = expr_fine r (begins_fine c g).1 in
    record { each = (sign_spells sign.Comma, y.whole); rest = y.rest }

call_end_spells : EachSpellable call_end
call_end_spells = (sign_spells sign.Close, (sign_spells sign.Semicolon, tt))

send_fine : {from to : List Token} {k : Name} {e : Expr} → IsSend from to k e → EachFine from
    → Fined to (send_kinds k e)
send_fine (send {x = e} w o n c r shut end) g =
    let x = name_fine n (begins_fine o (begins_fine w g).1).1 in
    let y = expr_fine r (begins_fine c x.1).1 in
    record {
      each = (
        word_spells word.SendArgument,
        (
          sign_spells sign.Open,
          (
            x.0,
            (
              sign_spells sign.Comma,
              each_append (expr_kinds e) call_end y.whole call_end_spells,
            ),
          ),
        ),
      );
      rest = (begins_fine end (begins_fine shut y.rest).1).1;
    }

use_fine : {from to : List Token} {u : Use} → IsUse from to u → EachFine from → Fined to (use_kinds u)
use_fine (sent q) g = send_fine q g
use_fine (spawned (spawn {es = es} w n o h vs shut end)) g =
    let x = name_fine n (begins_fine w g).1 in
    let y = name_fine h (begins_fine o x.1).1 in
    let zs = many_fine further_kinds (λ from to e r g. value_fine r g) vs y.1 in
    record {
      each = (
        word_spells word.Spawn,
        (
          x.0,
          (sign_spells sign.Open, (y.0, each_append (flat_map further_kinds es) call_end zs.each call_end_spells)),
        ),
      );
      rest = (begins_fine end (begins_fine shut zs.rest).1).1;
    }

next_fine : {from to : List Token} {x k : Name} {args : List Argument} → IsNext from to x k args → EachFine from
    → Fined to (next_kinds x k args)
next_fine (next {args = args} w n o h vs shut end) g =
    let x = name_fine n (begins_fine w g).1 in
    let y = name_fine h (begins_fine o x.1).1 in
    let zs = many_fine argument_kinds (λ from to a r g. argument_fine r g) vs y.1 in
    record {
      each = (
        word_spells word.SpawnNext,
        (
          x.0,
          (
            sign_spells sign.Open,
            (
              y.0,
              each_append (flat_map argument_kinds args) call_end zs.each call_end_spells,
            ),
          ),
        ),
      );
      rest = (begins_fine end (begins_fine shut zs.rest).1).1;
    }

lets_fine : {from to : List Token} {ls : List Let} → Many IsLet from to ls → EachFine from
    → Fined to (flat_map let_kinds ls)
lets_fine ls g = many_fine let_kinds (λ from to l r g. let_fine r g) ls g

-- a block's braces around the rest of it
braced_spells : (ls end : List TokenKind) → EachSpellable ls → EachSpellable end
    → EachSpellable (Mark sign.OpenBrace ∷ (ls ++ (end ++ (Mark sign.CloseBrace ∷ []))))
braced_spells ls end l e = (
  sign_spells sign.OpenBrace,
  each_append ls (end ++ (Mark sign.CloseBrace ∷ [])) l
      (each_append end (Mark sign.CloseBrace ∷ []) e (sign_spells sign.CloseBrace, tt)),
)

block_fine : {deep : ℕ} {from to : List Token} {b : Block} → IsBlock deep from to b → EachFine from
    → Fined to (block_kinds b)
block_fine (ends_in_if {ls = ls} {lets1 = lets1} {lets2 = lets2} {e1 = e1} {end1 = end1} {end2 =
    end2} d o lets i r then1 else1 otherwise shut) g =
    let xs = lets_fine lets (begins_fine o g).1 in
    let y = expr_fine r (begins_fine i xs.rest).1 in
    let z1 = block_fine then1 y.rest in
    let z2 = block_fine otherwise (begins_fine else1 z1.rest).1 in
    let kinds1 = block_kinds (record { lets = lets1; end = end1; close = 0 }) in
    let kinds2 = block_kinds (record { lets = lets2; end = end2; close = 0 }) in
    let arms : EachSpellable (kinds1 ++ (Keyword word.Else ∷ kinds2)) =
    each_append kinds1 (Keyword word.Else ∷ kinds2) z1.each (word_spells word.Else, z2.each) in
    record {
      each = braced_spells (flat_map let_kinds ls)
          (Keyword word.If ∷ (expr_kinds e1 ++ (kinds1 ++ (Keyword word.Else ∷ kinds2)))) xs.each
          (word_spells word.If, each_append (expr_kinds e1) (kinds1 ++ (Keyword word.Else ∷ kinds2)) y.whole arms);
      rest = (close_fine shut z2.rest).1;
    }
block_fine (ends_in_send {ls = ls} {k = k} {e = e} d o lets m shut) g =
    let xs = lets_fine lets (begins_fine o g).1 in
    let y = send_fine m xs.rest in
    record {
      each = braced_spells (flat_map let_kinds ls) (send_kinds k e) xs.each y.each;
      rest = (close_fine shut y.rest).1;
    }
block_fine (ends_in_next {ls = ls} {t = t} {k = k} {args = args} {uses = uses} d o lets n us shut) g =
    let xs = lets_fine lets (begins_fine o g).1 in
    let y = next_fine n xs.rest in
    let zs = many_fine use_kinds (λ from to u r g. use_fine r g) us y.rest in
    let calls = each_append (next_kinds t k args) (flat_map use_kinds uses) y.each zs.each in
    record {
      each = braced_spells (flat_map let_kinds ls)
          (next_kinds t k args ++ flat_map use_kinds uses) xs.each calls;
      rest = (close_fine shut zs.rest).1;
    }

thread_fine : {from to : List Token} {t : Thread} → IsThread from to t → EachFine from → Fined to (thread_kinds t)
thread_fine (thread {ns = ns} {body = body} w n o c ps shut b) g =
    let x = name_fine n (begins_fine w g).1 in
    let y = name_fine c (begins_fine o x.1).1 in
    let zs = many_fine parameter_kinds (λ from to x r g. parameter_fine r g) ps y.1 in
    let block = block_fine b (begins_fine shut zs.rest).1 in
    record {
      each = (
        word_spells word.Thread,
        (
          x.0,
          (
            sign_spells sign.Open,
            (
              y.0,
              each_append (flat_map parameter_kinds ns)
                  (Mark sign.Close ∷ block_kinds body) zs.each (sign_spells sign.Close, block.each),
            ),
          ),
        ),
      );
      rest = block.rest;
    }

-- threads that were read are printed by kinds that are read as they are spelled
pub threads_fine : {from to : List Token} {ts : List Thread} → Many IsThread from to ts → EachFine from
    → EachSpellable (flat_map thread_kinds ts)
threads_fine ts g = (many_fine thread_kinds (λ from to t r g. thread_fine r g) ts g).each
