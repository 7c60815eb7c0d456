-- The tokens of a text: blanks and comments separate them, and the longest token is taken.
use Rattle.std.specs.Prelude.{ℕ, pos, ◌+◌, ◌-◌, ◌*◌, ◌^◌, Bool, ◌&&◌, ◌||◌, not, if◌then◌else◌, List, [], ◌∷◌, length, take, Option, Some, None, nat_eq, nat_lt, nat_le, codes, zero, suc}
use Rattle.std.specs.List.{prefix_len}
use Rattle.std.specs.Str.{bytes_eq}
use Rattle.std.specs.Char.{is_ascii_digit}
use Rattle.task_tokens.specs.declared.kinds.Word.TheVariants as word
use Rattle.task_tokens.specs.declared.kinds.Sign.TheVariants as sign
use Rattle.task_tokens.specs.declared.kinds.Operator.TheVariants as operator
use Rattle.task_tokens.specs.declared.kinds.TokenKind.{TokenKind}
use Rattle.task_tokens.specs.declared.kinds.TokenKind.TheVariants.{Ident, LongIdent, Keyword, Numeral, LargeNumeral, Infix, Mark, Unknown, End}
use Rattle.task_tokens.specs.declared.kinds.Token.{Token}
use Rattle.task_tokens.specs.declared.kinds.Run.{Run}
use Rattle.task_tokens.specs.declared.kinds.Run.TheVariants.{Name, Digits, Line}

-- space, tab, LF, CR
abbrev pub is_blank : ℕ → Bool
is_blank b = nat_eq b 32 || nat_eq b 9 || nat_eq b 10 || nat_eq b 13

-- a letter or `_`
abbrev pub begins_name : ℕ → Bool
begins_name b = (nat_le 97 b && nat_le b 122) || (nat_le 65 b && nat_le b 90) || nat_eq b 95

-- the bytes of a name behind its first, of a number, of a comment: all but LF
abbrev pub is_of : Run → ℕ → Bool
is_of Name b = begins_name b || is_ascii_digit b
is_of Digits b = is_ascii_digit b
is_of Line b = not (nat_eq b 10)

-- the number that decimal digits write, behind those that wrote n
abbrev pub decimal : ℕ → List ℕ → ℕ
decimal n [] = n
decimal n (d ∷ ds) = decimal (10 * n + (d - 48)) ds

-- a word that is kept, else a name
abbrev pub named : List ℕ → TokenKind
named text =
    if bytes_eq text (codes "thread") then Keyword word.Thread
    else if bytes_eq text (codes "let") then Keyword word.Let
    else if bytes_eq text (codes "if") then Keyword word.If
    else if bytes_eq text (codes "else") then Keyword word.Else
    else if bytes_eq text (codes "spawn") then Keyword word.Spawn
    else if bytes_eq text (codes "spawn_next") then Keyword word.SpawnNext
    else if bytes_eq text (codes "send_argument") then Keyword word.SendArgument
    else if nat_lt 31 (length text) then LongIdent
    else Ident text

-- the number that digits write, up to 2^63 - 1
abbrev pub numbered : List ℕ → TokenKind
numbered digits = if nat_lt (decimal 0 digits) (2 ^ 63) then Numeral (pos (decimal 0 digits)) else LargeNumeral

-- the token of two bytes, if there is one
abbrev pub two_bytes : ℕ → ℕ → Option TokenKind
two_bytes a b =
    if nat_eq a 61 && nat_eq b 61 then Some (Infix operator.Equal)
    else if nat_eq a 33 && nat_eq b 61 then Some (Infix operator.NotEqual)
    else if nat_eq a 60 && nat_eq b 61 then Some (Infix operator.AtMost)
    else if nat_eq a 60 && nat_eq b 60 then Some (Infix operator.ShiftLeft)
    else if nat_eq a 62 && nat_eq b 62 then Some (Infix operator.ShiftRight)
    else None

-- the token of one byte
abbrev pub one_byte : ℕ → TokenKind
one_byte b =
    if nat_eq b 124 then Infix operator.Or
    else if nat_eq b 94 then Infix operator.Xor
    else if nat_eq b 38 then Infix operator.And
    else if nat_eq b 60 then Infix operator.Less
    else if nat_eq b 43 then Infix operator.Add
    else if nat_eq b 45 then Infix operator.Subtract
    else if nat_eq b 42 then Infix operator.Multiply
    else if nat_eq b 47 then Infix operator.Divide
    else if nat_eq b 37 then Infix operator.Remainder
    else if nat_eq b 40 then Mark sign.Open
    else if nat_eq b 41 then Mark sign.Close
    else if nat_eq b 123 then Mark sign.OpenBrace
    else if nat_eq b 125 then Mark sign.CloseBrace
    else if nat_eq b 44 then Mark sign.Comma
    else if nat_eq b 59 then Mark sign.Semicolon
    else if nat_eq b 63 then Mark sign.Question
    else if nat_eq b 61 then Mark sign.Assign
    else Unknown

-- what stands at the front of a text: a token, or none for what separates tokens, and how many
-- bytes it takes
pub record Front : Type 0 where
  pub token : Option TokenKind
  pub size : ℕ

-- a token of two bytes where there is one, else of one byte
abbrev pub marked : ℕ → Option TokenKind → Front
marked a (Some kind) = record { token = Some kind; size = 2 }
marked a None = record { token = Some (one_byte a); size = 1 }

-- what begins with neither a blank, a name nor a digit: `//` begins a comment
abbrev pub sign_front : ℕ → List ℕ → Front
sign_front a [] = record { token = Some (one_byte a); size = 1 }
sign_front a (b ∷ rest) = if nat_eq a 47 && nat_eq b 47 then record { token = None; size = 2 + prefix_len (is_of Line) rest } else marked a (two_bytes a b)

abbrev pub front_of : List ℕ → Front
front_of [] = record { token = None; size = 0 }
front_of (b ∷ bs) =
    if is_blank b then record { token = None; size = 1 }
    else if begins_name b then record { token = Some (named (take (prefix_len (is_of Name) (b ∷ bs)) (b ∷ bs))); size = prefix_len (is_of Name) (b ∷ bs) }
    else if is_ascii_digit b then record { token = Some (numbered (take (prefix_len (is_of Digits) (b ∷ bs)) (b ∷ bs))); size = prefix_len (is_of Digits) (b ∷ bs) }
    else sign_front b bs

-- a token in front of others, if there is one
abbrev pub with_token : ℕ → Option TokenKind → List Token → List Token
with_token at None rest = rest
with_token at (Some kind) rest = record { kind = kind; offset = at } ∷ rest

-- The tokens of a text that stands at the offset `at`, and whose first `inside` bytes belong to
-- what came before. A last token stands at the end.
abbrev pub tokens : (at inside : ℕ) → List ℕ → List Token
tokens at inside [] = record { kind = End; offset = at } ∷ []
tokens at (suc inside) (b ∷ bs) = tokens (suc at) inside bs
tokens at zero (b ∷ bs) = with_token at (front_of (b ∷ bs)).token (tokens (suc at) ((front_of (b ∷ bs)).size - 1) bs)
