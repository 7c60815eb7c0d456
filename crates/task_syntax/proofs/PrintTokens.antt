-- A spelled token in front of a blank or LF is read as that token.
use Rattle.std.proofs.Common.{◌≡◌, ℕ, pos, ◌+◌, ◌-◌, ◌*◌, ◌/◌, ◌%◌, ◌^◌, ◌<◌, ◌≤◌, zero, suc, Bool, true, false, cond, ltb, ◌&&◌, List, [], ◌∷◌, ◌++◌, length, take, drop, Some, refl, ◌∙◌, ap, arith, add-zero, length-append}
use Rattle.std.specs.List.{list_all, prefix_len}
use Rattle.std.specs.Char.{is_ascii_digit}
use Rattle.std.specs.Fmt as fmt
use Rattle.std.proofs.lemmas.Bool.{and_parts, and_from, lt-ltb}
use Rattle.std.proofs.lemmas.Bool.Decides.{nat_tests}
use Rattle.std.proofs.lemmas.Fmt.{decimal_by_steps}
use Rattle.std.proofs.lemmas.List.Folds.{list_all-append}
use Rattle.std.proofs.Math.Seq.{take-append_seam, drop-append_seam}
use Rattle.task_tokens.specs.Tokens.{is_blank, begins_name, is_of, decimal, named, Front, front_of, with_token, tokens}
use Rattle.task_tokens.specs.declared.kinds.Word.{Word}
use Rattle.task_tokens.specs.declared.kinds.Word.TheVariants as word
use Rattle.task_tokens.specs.declared.kinds.Sign.{Sign}
use Rattle.task_tokens.specs.declared.kinds.Sign.TheVariants as sign
use Rattle.task_tokens.specs.declared.kinds.Operator.{Operator}
use Rattle.task_tokens.specs.declared.kinds.Operator.TheVariants as operator
use Rattle.task_tokens.specs.declared.kinds.Run.TheVariants as run
use Rattle.task_tokens.specs.declared.kinds.TokenKind.{TokenKind}
use Rattle.task_tokens.specs.declared.kinds.TokenKind.TheVariants.{Keyword, Numeral, Infix, Mark}
use Rattle.task_syntax.specs.Printed.{word_text, sign_text, operator_text, spelled}

-- a blank or LF, and then anything
pub data Gap : List ℕ → Type 0 where
  blank : {rest : List ℕ} → Gap (32 ∷ rest)
  line : {rest : List ℕ} → Gap (10 ∷ rest)

abbrev pub is_ascii : ℕ → Bool
is_ascii b = ltb b 128

-- the text of a token of this kind, in front of a blank or LF
pub record SpelledBy (k : TokenKind) (text : List ℕ) : Type 0 where
  pub some : 0 < length text
  pub front : (rest : List ℕ) → Gap rest → front_of (text ++ rest) ≡ record { token = Some k; size = length text }
  pub ascii : list_all is_ascii text ≡ true

-- the same, as the printer spells it
abbrev pub Spellable : TokenKind → Type 0
Spellable k = SpelledBy k (spelled k)

-- the bytes of a name
abbrev pub is_name : List ℕ → Bool
is_name [] = false
is_name (b ∷ bs) = begins_name b && list_all (is_of run.Name) bs

-- the bytes of a run, up to a gap
prefix_to_gap : (p : ℕ → Bool) (bs rest : List ℕ) → p 32 ≡ false → p 10 ≡ false → list_all p bs ≡ true → Gap rest
    → prefix_len p (bs ++ rest) ≡ length bs
prefix_to_gap p [] rest b l all blank = rw b refl
prefix_to_gap p [] rest b l all line = rw l refl
prefix_to_gap p (x ∷ xs) rest b l all g =
    let parts = and_parts (p x) (list_all p xs) all in
    rw (parts.0, prefix_to_gap p xs rest b l parts.1 g) (omega arith)

begins_no_blank : (b : ℕ) → begins_name b ≡ true → is_blank b ≡ false
begins_no_blank b h = grind (arith, nat_tests)

begins_ascii : (b : ℕ) → begins_name b ≡ true → is_ascii b ≡ true
begins_ascii b h = grind (arith, nat_tests)

name_ascii : (b : ℕ) → is_of run.Name b ≡ true → is_ascii b ≡ true
name_ascii b h = grind (arith, nat_tests)

digit_no_blank : (b : ℕ) → is_ascii_digit b ≡ true → is_blank b ≡ false
digit_no_blank b h = grind (arith, nat_tests)

digit_begins_no_name : (b : ℕ) → is_ascii_digit b ≡ true → begins_name b ≡ false
digit_begins_no_name b h = grind (arith, nat_tests)

digit_ascii : (b : ℕ) → is_ascii_digit b ≡ true → is_ascii b ≡ true
digit_ascii b h = grind (arith, nat_tests)

weaker_all : (p q : ℕ → Bool) (xs : List ℕ) → ((x : ℕ) → p x ≡ true → q x ≡ true) → list_all p xs ≡ true
    → list_all q xs ≡ true
weaker_all p q [] f h = refl
weaker_all p q (x ∷ xs) f h =
    let parts = and_parts (p x) (list_all p xs) h in
    and_from (q x) (list_all q xs) (f x parts.0) (weaker_all p q xs f parts.1)

second_arm : {A : Type 0} (t u : Bool) (x y z : A) → t ≡ false → u ≡ true → cond t x (cond u y z) ≡ y
second_arm t u x y z e f = rw (e, f) refl

-- what begins like a name
name_front : (b n : ℕ) (bs text : List ℕ) (k : TokenKind) → begins_name b ≡ true
    → prefix_len (is_of run.Name) (b ∷ bs) ≡ n → take n (b ∷ bs) ≡ text → named text ≡ k
    → front_of (b ∷ bs) ≡ record { token = Some k; size = n }
name_front b n bs text k begins size is name =
    let sized : ℕ → Front = λ m. record { token = Some (named (take m (b ∷ bs))); size = m } in
    let spelled : List ℕ → Front = λ t. record { token = Some (named t); size = n } in
    let known : TokenKind → Front = λ x. record { token = Some x; size = n } in
    second_arm (is_blank b) (begins_name b) _ (sized (prefix_len (is_of run.Name) (b ∷ bs))) _
    (begins_no_blank b begins) begins ∙ (ap sized size ∙ (ap spelled is ∙ ap known name))

-- a name, or a word
pub name_spells : (k : TokenKind) (text : List ℕ) → is_name text ≡ true → named text ≡ k → SpelledBy k text
name_spells k [] h n = cc
name_spells k (b ∷ bs) h n =
    let parts = and_parts (begins_name b) (list_all (is_of run.Name) bs) h in
    let first : is_of run.Name b ≡ true = rw parts.0 refl in
    let all : list_all (is_of run.Name) (b ∷ bs) ≡ true =
    and_from (is_of run.Name b) (list_all (is_of run.Name) bs) first parts.1 in
    record {
      some = omega arith;
      front = λ rest g.
          let size : prefix_len (is_of run.Name) ((b ∷ bs) ++ rest) ≡ length (b ∷ bs) =
          prefix_to_gap (is_of run.Name) (b ∷ bs) rest refl refl all g in
          let text : take (length (b ∷ bs)) ((b ∷ bs) ++ rest) ≡ b ∷ bs = take-append_seam (b ∷ bs) rest in
          name_front b (length (b ∷ bs)) (bs ++ rest) (b ∷ bs) k parts.0 size text n;
      ascii = weaker_all (is_of run.Name) is_ascii (b ∷ bs) name_ascii all;
    }

pub word_spells : (w : Word) → Spellable (Keyword w)
word_spells word.Thread = name_spells (Keyword word.Thread) (word_text word.Thread) refl refl
word_spells word.Let = name_spells (Keyword word.Let) (word_text word.Let) refl refl
word_spells word.If = name_spells (Keyword word.If) (word_text word.If) refl refl
word_spells word.Else = name_spells (Keyword word.Else) (word_text word.Else) refl refl
word_spells word.Spawn = name_spells (Keyword word.Spawn) (word_text word.Spawn) refl refl
word_spells word.SpawnNext = name_spells (Keyword word.SpawnNext) (word_text word.SpawnNext) refl refl
word_spells word.SendArgument = name_spells (Keyword word.SendArgument) (word_text word.SendArgument) refl refl

sign_front_spelled : (s : Sign) (rest : List ℕ) → Gap rest
    → front_of (sign_text s ++ rest) ≡ record { token = Some (Mark s); size = length (sign_text s) }
sign_front_spelled sign.Open rest blank = refl
sign_front_spelled sign.Open rest line = refl
sign_front_spelled sign.Close rest blank = refl
sign_front_spelled sign.Close rest line = refl
sign_front_spelled sign.OpenBrace rest blank = refl
sign_front_spelled sign.OpenBrace rest line = refl
sign_front_spelled sign.CloseBrace rest blank = refl
sign_front_spelled sign.CloseBrace rest line = refl
sign_front_spelled sign.Comma rest blank = refl
sign_front_spelled sign.Comma rest line = refl
sign_front_spelled sign.Semicolon rest blank = refl
sign_front_spelled sign.Semicolon rest line = refl
sign_front_spelled sign.Question rest blank = refl
sign_front_spelled sign.Question rest line = refl
sign_front_spelled sign.Assign rest blank = refl
sign_front_spelled sign.Assign rest line = refl

operator_front_spelled : (op : Operator) (rest : List ℕ) → Gap rest
    → front_of (operator_text op ++ rest) ≡ record { token = Some (Infix op); size = length (operator_text op) }
operator_front_spelled operator.Or rest blank = refl
operator_front_spelled operator.Or rest line = refl
operator_front_spelled operator.Xor rest blank = refl
operator_front_spelled operator.Xor rest line = refl
operator_front_spelled operator.And rest blank = refl
operator_front_spelled operator.And rest line = refl
operator_front_spelled operator.Equal rest blank = refl
operator_front_spelled operator.Equal rest line = refl
operator_front_spelled operator.NotEqual rest blank = refl
operator_front_spelled operator.NotEqual rest line = refl
operator_front_spelled operator.Less rest blank = refl
operator_front_spelled operator.Less rest line = refl
operator_front_spelled operator.AtMost rest blank = refl
operator_front_spelled operator.AtMost rest line = refl
operator_front_spelled operator.ShiftLeft rest blank = refl
operator_front_spelled operator.ShiftLeft rest line = refl
operator_front_spelled operator.ShiftRight rest blank = refl
operator_front_spelled operator.ShiftRight rest line = refl
operator_front_spelled operator.Add rest blank = refl
operator_front_spelled operator.Add rest line = refl
operator_front_spelled operator.Subtract rest blank = refl
operator_front_spelled operator.Subtract rest line = refl
operator_front_spelled operator.Multiply rest blank = refl
operator_front_spelled operator.Multiply rest line = refl
operator_front_spelled operator.Divide rest blank = refl
operator_front_spelled operator.Divide rest line = refl
operator_front_spelled operator.Remainder rest blank = refl
operator_front_spelled operator.Remainder rest line = refl

sign_plain : (s : Sign) → (0 < length (sign_text s)) × (list_all is_ascii (sign_text s) ≡ true)
sign_plain sign.Open = (omega arith, refl)
sign_plain sign.Close = (omega arith, refl)
sign_plain sign.OpenBrace = (omega arith, refl)
sign_plain sign.CloseBrace = (omega arith, refl)
sign_plain sign.Comma = (omega arith, refl)
sign_plain sign.Semicolon = (omega arith, refl)
sign_plain sign.Question = (omega arith, refl)
sign_plain sign.Assign = (omega arith, refl)

operator_plain : (op : Operator) → (0 < length (operator_text op)) × (list_all is_ascii (operator_text op) ≡ true)
operator_plain operator.Or = (omega arith, refl)
operator_plain operator.Xor = (omega arith, refl)
operator_plain operator.And = (omega arith, refl)
operator_plain operator.Equal = (omega arith, refl)
operator_plain operator.NotEqual = (omega arith, refl)
operator_plain operator.Less = (omega arith, refl)
operator_plain operator.AtMost = (omega arith, refl)
operator_plain operator.ShiftLeft = (omega arith, refl)
operator_plain operator.ShiftRight = (omega arith, refl)
operator_plain operator.Add = (omega arith, refl)
operator_plain operator.Subtract = (omega arith, refl)
operator_plain operator.Multiply = (omega arith, refl)
operator_plain operator.Divide = (omega arith, refl)
operator_plain operator.Remainder = (omega arith, refl)

pub sign_spells : (s : Sign) → Spellable (Mark s)
sign_spells s = record { some = (sign_plain s).0; front = sign_front_spelled s; ascii = (sign_plain s).1 }

pub operator_spells : (op : Operator) → Spellable (Infix op)
operator_spells op = record {
  some = (operator_plain op).0;
  front = operator_front_spelled op;
  ascii = (operator_plain op).1;
}

-- one more digit
decimal_end : (n : ℕ) (ds : List ℕ) (d : ℕ) → decimal n (ds ++ d ∷ []) ≡ 10 * decimal n ds + (d - 48)
decimal_end n [] d = refl
decimal_end n (x ∷ xs) d = decimal_end (10 * n + (x - 48)) xs d

-- these are digits that write n
record Writes (n : ℕ) (ds : List ℕ) : Type 0 where
  some : 0 < length ds
  all : list_all is_ascii_digit ds ≡ true
  writes : decimal 0 ds ≡ n

digit_below : (n : ℕ) → n < 10 → is_ascii_digit (48 + n) ≡ true
digit_below n h = grind (arith, nat_tests)

writes_one : (n : ℕ) → n < 10 → Writes n ((48 + n) ∷ [])
writes_one n h = record {
  some = omega arith;
  all = and_from (is_ascii_digit (48 + n)) true (digit_below n h) refl;
  writes = omega arith;
}

writes_more : (n : ℕ) (ds : List ℕ) → 10 ≤ n → Writes (n / 10) ds → Writes n (ds ++ ((48 + n % 10) ∷ []))
writes_more n ds h w = record {
  some = omega (arith, length-append ds ((48 + n % 10) ∷ []));
  all = rw (list_all-append is_ascii_digit ds ((48 + n % 10) ∷ []), w.all)
      (and_from (is_ascii_digit (48 + n % 10)) true (digit_below (n % 10) (omega arith)) refl);
  writes = omega (arith, decimal_end 0 ds (48 + n % 10), w.writes);
}

number_front : (m : ℕ) (ds rest : List ℕ) → m < 2 ^ 63 → Writes m ds → Gap rest
    → front_of (ds ++ rest) ≡ record { token = Some (Numeral (pos m)); size = length ds }
number_front m [] rest low w g = absurd (omega (arith, w.some))
number_front m (d ∷ ds) rest low w g =
    let first = (and_parts (is_ascii_digit d) (list_all is_ascii_digit ds) w.all).0 in
    let size : prefix_len (is_of run.Digits) ((d ∷ ds) ++ rest) ≡ length (d ∷ ds) =
    prefix_to_gap (is_of run.Digits) (d ∷ ds) rest refl refl w.all g in
    let text : take (length (d ∷ ds)) ((d ∷ ds) ++ rest) ≡ d ∷ ds = take-append_seam (d ∷ ds) rest in
    let value : decimal 0 (d ∷ ds) ≡ m = w.writes in
    let small : ltb m (2 ^ 63) ≡ true = lt-ltb m (2 ^ 63) low in
    rw (size, text, value, small, digit_no_blank d first, digit_begins_no_name d first, first) refl

pub number_spells : (m : ℕ) → m < 2 ^ 63 → Spellable (Numeral (pos m))
number_spells m low =
    let w : Writes m (fmt.decimal m) = decimal_by_steps Writes writes_one writes_more m (omega arith) in
    record {
      some = w.some;
      front = λ rest g. number_front m (fmt.decimal m) rest low w g;
      ascii = weaker_all is_ascii_digit is_ascii (fmt.decimal m) digit_ascii w.all;
    }

-- bytes that belong to what came before are skipped
tokens_inside : (at n : ℕ) (text : List ℕ) → n ≤ length text → tokens at n text ≡ tokens (at + n) 0 (drop n text)
tokens_inside at zero text h = rw add-zero
tokens_inside at (suc n) [] h = absurd (omega arith)
tokens_inside at (suc n) (b ∷ bs) h =
    let inside : n ≤ length bs = omega arith in
    let e : suc at + n ≡ at + suc n = omega arith in
    rw (← e) (tokens_inside (suc at) n bs inside)

-- a spelled token, and then what stands behind it
pub token_first : (k : TokenKind) (text rest : List ℕ) (at : ℕ) → SpelledBy k text → Gap rest
    → tokens at 0 (text ++ rest) ≡ record { kind = k; offset = at } ∷ tokens (at + length text) 0 rest
token_first k [] rest at s g = absurd (omega (arith, s.some))
token_first k (b ∷ bs) rest at s g =
    let front : front_of (b ∷ (bs ++ rest)) ≡ record { token = Some k; size = length (b ∷ bs) } = s.front rest g in
    let inside : length bs ≤ length (bs ++ rest) = omega (arith, length-append bs rest) in
    let skipped = tokens_inside (suc at) (length bs) (bs ++ rest) inside in
    let behind : drop (length bs) (bs ++ rest) ≡ rest = drop-append_seam bs rest in
    let e : suc at + length bs ≡ at + suc (length bs) = omega arith in
    let less : suc (length bs) - 1 ≡ length bs = omega arith in
    ap (λ f. with_token at f.token (tokens (suc at) (f.size - 1) (bs ++ rest))) front
    ∙ ap (λ x. record { kind = k; offset = at } ∷ x) (rw (less, skipped, behind, e) refl)
