-- A line with its end is the first line of a text, and what is written of an event is one line.
use Rattle.std.proofs.Common.{◌≡◌, ℕ, zero, suc, ◌+◌, ◌/◌, ◌%◌, Bool, false, true, cond, not, ◌&&◌, ◌==◌, nat_eq, nat_lt, List, [], ◌∷◌, ◌++◌, refl, ap, ◌∙◌, arith, codes}
use Rattle.std.specs.Fmt.{decimal, digit_glyph, digits, digits_onto}
use Rattle.std.specs.List.{list_all, onto_first}
use Rattle.std.proofs.lemmas.Bool.Decides.{nat_tests}
use Rattle.std.proofs.lemmas.List.{append_assoc}
use Rattle.std.proofs.lemmas.List.Folds.{list_all-append}
use Rattle.event_script.specs.Words.{lines}
use Rattle.event_script.specs.Written.{ended, hex_code, house_words, node_words, pair_of, paired, spaced, words_of, written, written_asked, written_bytes}
use Rattle.event_script.specs.declared.event.Asked.{Asked}
use Rattle.event_script.specs.declared.event.Asked.TheVariants as whom
use Rattle.event_script.specs.declared.event.Event.{Event}
use Rattle.event_script.specs.declared.event.Event.TheVariants.{Start, AtNode, Crash, AtHouse, HouseCrash, Cut}
use Rattle.event_script.specs.declared.event.HouseEvent.{HouseEvent}
use Rattle.event_script.specs.declared.event.HouseEvent.TheVariants as house
use Rattle.event_script.specs.declared.event.NodeEvent.{NodeEvent}
use Rattle.event_script.specs.declared.event.NodeEvent.TheVariants as node
use Rattle.event_script.proofs.Spaced.{both, left_of, right_of}

-- a byte that ends no line, and bytes of one line
abbrev pub inner : ℕ → Bool
inner b = not (nat_eq b 10)

abbrev pub one_line : List ℕ → Bool
one_line line = list_all inner line

not_end : (b : ℕ) → inner b ≡ true → nat_eq b 10 ≡ false
not_end b h = grind (arith, nat_tests)

pub one_line-append : (v w : List ℕ) → one_line v ≡ true → one_line w ≡ true → one_line (v ++ w) ≡ true
one_line-append v w first second = rw (list_all-append inner v w) (both (one_line v) (one_line w) first second)

-- a line, and the lines behind it

cut_line : (w more : List ℕ) → one_line w ≡ true → lines (w ++ 10 ∷ more) ≡ w ∷ lines more
cut_line [] more h = refl
cut_line (b ∷ bs) more h =
    let here = not_end b (left_of (inner b) (one_line bs) h) in
    let rest = cut_line bs more (right_of (inner b) (one_line bs) h) in
    let cut : lines (b ∷ (bs ++ 10 ∷ more)) ≡ onto_first b (lines (bs ++ 10 ∷ more)) =
    ap (λ (v : Bool). cond v ([] ∷ lines (bs ++ 10 ∷ more)) (onto_first b (lines (bs ++ 10 ∷ more)))) here in
    cut ∙ ap (onto_first b) rest

pub ended_line : (line more : List ℕ) → one_line line ≡ true → lines (ended line ++ more) ≡ line ∷ lines more
ended_line line more one = ap lines (append_assoc line (10 ∷ []) more) ∙ cut_line line more one

-- what is written of an event is one line

inner_digit : (d : ℕ) → inner (digit_glyph false d) ≡ true
inner_digit d = elim (nat_lt d 10) as (λ (v : Bool). inner (cond v (48 + d) (87 + d))
    ≡ true) [ true ↦ grind (arith, nat_tests) | false ↦ grind (arith, nat_tests) ]

one_digits : (k n : ℕ) (behind : List ℕ) → one_line behind ≡ true → one_line (digits_onto k 10 false n behind) ≡ true
one_digits zero n behind h = h
one_digits (suc k) n behind h =
    let more : one_line (digit_glyph false (n % 10) ∷ behind) ≡ true =
    both (inner (digit_glyph false (n % 10))) (one_line behind) (inner_digit (n % 10)) h in
    elim (n / 10 == 0) as (λ (v : Bool). one_line
    (cond v (digit_glyph false (n % 10) ∷ behind)
    (digits_onto k 10 false (n / 10) (digit_glyph false (n % 10) ∷ behind))) ≡ true) [
      | true ↦ more
      | false ↦ one_digits k (n / 10) (digit_glyph false (n % 10) ∷ behind) more
    ]

one_number : (n : ℕ) → one_line (decimal n) ≡ true
unfolding digits
one_number n = one_digits 64 n [] refl

inner_hex : (d : ℕ) → inner (hex_code d) ≡ true
inner_hex d = elim (nat_lt d 10) as (λ (v : Bool). inner (cond v (48 + d) (87 + d))
    ≡ true) [ true ↦ grind (arith, nat_tests) | false ↦ grind (arith, nat_tests) ]

one_pairs : (bs : List ℕ) → one_line (paired bs) ≡ true
one_pairs [] = refl
one_pairs (b ∷ bs) = one_line-append (pair_of b) (paired bs)
    (both (inner (hex_code (b / 16))) (inner (hex_code (b % 16)) && true) (inner_hex (b / 16))
    (both (inner (hex_code (b % 16))) true (inner_hex (b % 16)) refl)) (one_pairs bs)

one_bytes : (bs : List ℕ) → one_line (written_bytes bs) ≡ true
one_bytes [] = refl
one_bytes (b ∷ bs) = one_pairs (b ∷ bs)

pub one_spaced : (ws : List (List ℕ)) → list_all one_line ws ≡ true → one_line (spaced ws) ≡ true
one_spaced [] h = refl
one_spaced (w ∷ []) h = left_of (one_line w) true h
one_spaced (w ∷ v ∷ ws) h = one_line-append w (32 ∷ spaced (v ∷ ws))
    (left_of (one_line w) (list_all one_line (v ∷ ws)) h)
    (one_spaced (v ∷ ws) (right_of (one_line w) (list_all one_line (v ∷ ws)) h))

-- words by their parts: a name, and what stands behind it
named : (name : List ℕ) (ws : List (List ℕ)) → one_line name ≡ true → list_all one_line ws ≡ true
    → list_all one_line (name ∷ ws) ≡ true
named name ws here rest = both (one_line name) (list_all one_line ws) here rest

numbered : (n : ℕ) (ws : List (List ℕ)) → list_all one_line ws ≡ true → list_all one_line (decimal n ∷ ws) ≡ true
numbered n ws rest = named (decimal n) ws (one_number n) rest

one_house : (e : HouseEvent) → list_all one_line (house_words e) ≡ true
one_house (house.Deliver i) = named (codes "house-deliver") (decimal i ∷ []) refl (numbered i [] refl)
one_house (house.Tick t) = named (codes "house-tick") (decimal t ∷ []) refl (numbered t [] refl)
one_house house.Restart = refl

one_asked : (v : Asked) → list_all one_line (written_asked v ∷ []) ≡ true
one_asked whom.House = refl
one_asked (whom.Worker n) = numbered n [] refl

one_node : (n : ℕ) (e : NodeEvent) → list_all one_line (node_words n e) ≡ true
one_node n (node.Deliver i) = named (codes "deliver") (decimal n ∷ decimal i ∷ []) refl (numbered n (decimal i ∷ []) (numbered i [] refl))
one_node n (node.Exec f) =
    named (codes "exec") (decimal n ∷ decimal f.minter ∷ decimal f.number ∷ decimal f.frame ∷ []) refl
    (numbered n (decimal f.minter ∷ decimal f.number ∷ decimal f.frame ∷ [])
    (numbered f.minter (decimal f.number ∷ decimal f.frame ∷ [])
    (numbered f.number (decimal f.frame ∷ []) (numbered f.frame [] refl))))
one_node n (node.Whole f t) =
    named (codes "whole") (decimal n ∷ decimal f.minter ∷ decimal f.number ∷ decimal f.frame ∷ decimal t ∷ []) refl
    (numbered n (decimal f.minter ∷ decimal f.number ∷ decimal f.frame ∷ decimal t ∷ [])
    (numbered f.minter (decimal f.number ∷ decimal f.frame ∷ decimal t ∷ [])
    (numbered f.number (decimal f.frame ∷ decimal t ∷ [])
    (numbered f.frame (decimal t ∷ []) (numbered t [] refl)))))
one_node n (node.Ask v) = named (codes "ask") (decimal n ∷ written_asked v ∷ []) refl (numbered n (written_asked v ∷ []) (one_asked v))
one_node n node.Resend = named (codes "resend") (decimal n ∷ []) refl (numbered n [] refl)
one_node n (node.Depart h) = named (codes "depart") (decimal n ∷ decimal h ∷ []) refl (numbered n (decimal h ∷ []) (numbered h [] refl))

one_words : (e : Event) → list_all one_line (words_of e) ≡ true
one_words (Start n w) = named (codes "start") (decimal n ∷ decimal w ∷ []) refl (numbered n (decimal w ∷ []) (numbered w [] refl))
one_words (AtNode n e) = one_node n e
one_words (Crash n) = named (codes "crash") (decimal n ∷ []) refl (numbered n [] refl)
one_words (AtHouse e) = one_house e
one_words HouseCrash = refl
one_words (Cut c) =
    named (codes "cut") (decimal c.calls ∷ written_bytes c.bytes ∷ house_words c.event) refl
    (numbered c.calls (written_bytes c.bytes ∷ house_words c.event)
    (named (written_bytes c.bytes) (house_words c.event) (one_bytes c.bytes) (one_house c.event)))

pub one_event : (e : Event) → one_line (written e) ≡ true
one_event e = one_spaced (words_of e) (one_words e)
