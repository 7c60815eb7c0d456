-- What a text becomes as tokens are written behind it.
use Rattle.std.specs.Prelude.{◌≡◌, ℕ, ◌<◌, List, ◌∷◌, ◌++◌, length, Option, Some, None, Result, Ok, Err}
use Rattle.std.specs.List.{flat_map}
use Rattle.task_tokens.specs.declared.kinds.TokenKind.{TokenKind}
use Rattle.task_syntax.specs.declared.error.PrintError.{PrintError}
use Rattle.task_syntax.specs.declared.error.PrintError.TheVariants.{TooLong, Memory}
use Rattle.task_syntax.specs.Printed.{spelled}

-- a text so far, or why there is none
abbrev pub Text : Type 0
Text = Result (List ℕ) PrintError

-- a text that may have been refused
abbrev pub text_of : Option PrintError → List ℕ → Text
text_of None text = Ok text
text_of (Some e) text = Err e

-- These bytes were written behind what stood before. They are refused as too long only where the
-- text would be over 65,536 bytes, and nothing is written behind a refusal.
abbrev pub Adds : (before after : Text) → (bytes : List ℕ) → Type 0
Adds (Ok text) (Ok more) bytes = more ≡ text ++ bytes
Adds (Ok text) (Err TooLong) bytes = 65536 < length (text ++ bytes)
Adds (Ok text) (Err Memory) bytes = Unit {0}
Adds (Err e) (Ok more) bytes = ⊥
Adds (Err e) (Err f) bytes = e ≡ f

-- how tokens are spelled, with a blank before each
abbrev pub spaced : List TokenKind → List ℕ
spaced kinds = flat_map (λ k. 32 ∷ spelled k) kinds

-- these tokens were written, with a blank before each
pub record Prints (before after : Text) (kinds : List TokenKind) : Type 0 where
  pub adds : Adds before after (spaced kinds)
