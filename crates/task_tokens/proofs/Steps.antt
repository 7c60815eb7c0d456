-- The tokens of a text, a token or a separator at a time.
use Rattle.std.proofs.Common.{◌≡◌, ℕ, ◌+◌, ◌-◌, ◌<◌, ◌≤◌, suc, zero, List, [], ◌∷◌, ◌++◌, length, drop, Option, Some, arith, ap, append_assoc, add-zero}
use Rattle.std.proofs.lemmas.List.{drop-drop}
use Rattle.task_tokens.specs.Tokens.{tokens, front_of, with_token}
use Rattle.task_tokens.specs.declared.kinds.TokenKind.{TokenKind}
use Rattle.task_tokens.specs.declared.kinds.Token.{Token}

-- bytes that belong to what came before are skipped
tokens_inside : (at n : ℕ) (text : List ℕ) → n ≤ length text → tokens at n text ≡ tokens (at + n) 0 (drop n text)
tokens_inside at zero text h = rw add-zero
tokens_inside at (suc n) [] h = absurd (omega arith)
tokens_inside at (suc n) (b ∷ bs) h =
    let inside : n ≤ length bs = omega arith in
    let e : suc at + n ≡ at + suc n = omega arith in
    rw (← e) (tokens_inside (suc at) n bs inside)

-- the rest of what stands at the front
tokens_behind : (at size b : ℕ) (bs : List ℕ) → 0 < size → size ≤ length (b ∷ bs)
    → tokens (suc at) (size - 1) bs ≡ tokens (at + size) 0 (drop size (b ∷ bs))
tokens_behind at zero b bs some within = absurd (omega arith)
tokens_behind at (suc n) b bs some within =
    let inside : n ≤ length bs = omega arith in
    let less : suc n - 1 ≡ n = omega arith in
    let e : suc at + n ≡ at + suc n = omega arith in
    rw (less, ← e) (tokens_inside (suc at) n bs inside)

-- what stands at the front, and then the rest
tokens_front : (at : ℕ) (text : List ℕ) → 0 < (front_of text).size → (front_of text).size ≤ length text
    → tokens at 0 text ≡ with_token at (front_of text).token
    (tokens (at + (front_of text).size) 0 (drop (front_of text).size text))
tokens_front at [] some within = absurd (omega arith)
tokens_front at (b ∷ bs) some within =
    ap (with_token at (front_of (b ∷ bs)).token) (tokens_behind at (front_of (b ∷ bs)).size b bs some within)

-- the same, for the text from `at` on
pub tokens_step : (at size : ℕ) (token : Option TokenKind) (text : List ℕ) → token ≡ (front_of (drop at text)).token
    → size ≡ (front_of (drop at text)).size → 0 < size → size ≤ length (drop at text)
    → tokens at 0 (drop at text) ≡ with_token at token (tokens (at + size) 0 (drop (at + size) text))
tokens_step at size token text is_token is_size some within =
    rw (← drop-drop size at text, is_token, is_size)
    (tokens_front at (drop at text) (rw is_size at some) (rw is_size at within))

-- a token was put behind those before
pub kept_some : (before all ts rest whole : List Token) (at : ℕ) (kind : TokenKind) → before ++ ts ≡ whole
    → ts ≡ with_token at (Some kind) rest → all ≡ before ++ record { kind = kind; offset = at } ∷ []
    → all ++ rest ≡ whole
kept_some before all ts rest whole at kind was step now = rw (now, append_assoc, ← step) was

-- a separator was passed
pub kept_none : (before ts rest whole : List Token) → before ++ ts ≡ whole → ts ≡ rest → before ++ rest ≡ whole
kept_none before ts rest whole was step = rw (← step) was
