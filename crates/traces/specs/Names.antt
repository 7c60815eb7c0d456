-- The names of packets, and where a text tells them.
use Rattle.std.specs.Prelude.{ℕ, ◌&&◌, Bool, nat_eq, if◌then◌else◌, List, [], ◌∷◌, ◌++◌, Option, None, Some, codes, length, take}
use Rattle.std.specs.Str.{bytes_eq}
use Rattle.event_script.specs.Back.{plain}
use Rattle.event_script.specs.Words.{lines, words}
use Rattle.hex.specs.Hex.{encode_lower}
use Rattle.sha2.specs.Sha256.{sha256}

-- a packet's name: the first 128 bits of the SHA-256 of its bytes, as 32 digits
abbrev pub name_of : List ℕ → List ℕ
name_of packet = encode_lower (take 16 (sha256 packet))

-- the name that a word is: 32 bytes, none of them a space, a control or beyond ASCII
abbrev pub named : List ℕ → Option (List ℕ)
named word = if nat_eq (length word) 32 && plain word then Some word else None

-- the name in a line that begins with these words: a number sign, `sent` or `take`, the name, and
-- whatever stands behind it
unfoldable pub name_behind : List ℕ → List (List ℕ) → Option (List ℕ)
name_behind verb [] = None
name_behind verb (a ∷ []) = None
name_behind verb (a ∷ b ∷ []) = None
name_behind verb (a ∷ b ∷ name ∷ ws) = if bytes_eq a (codes "#") && bytes_eq b verb then named name else None

abbrev pub sent_in : List ℕ → Option (List ℕ)
sent_in line = name_behind (codes "sent") (words line)

abbrev pub taken_in : List ℕ → Option (List ℕ)
taken_in line = name_behind (codes "take") (words line)

-- the names of the packets that the lines of a text tell as sent, one after another
unfoldable pub with_name : Option (List ℕ) → List (List ℕ) → List (List ℕ)
with_name None names = names
with_name (Some name) names = name ∷ names

abbrev pub names_of_lines : List (List ℕ) → List (List ℕ)
names_of_lines [] = []
names_of_lines (line ∷ rest) = with_name (sent_in line) (names_of_lines rest)

abbrev pub names_in : List ℕ → List (List ℕ)
names_in text = names_of_lines (lines text)
