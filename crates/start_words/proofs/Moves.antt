-- Each step keeps the rule.
use Rattle.std.proofs.Common.{◌≡◌, ℕ, ◌+◌, ◌*◌, ◌%◌, ◌^◌, ◌<◌, ◌≤◌, List, [], ◌∷◌, ◌++◌, length, length-append, length-set, get_or, get_or-set_same, set, sym, refl, ap, ◌∙◌, subst, arith}
use mathlib.Core.Option.{none, some, some-injective, some-ne-none}
use lib.ListN.{get_elem?}
use Rattle.atomic_table.specs.Table.{State, Me, step, keeps, stepped, opening, Allows, Enters, Splits, Joins, Final, Seen}
use Rattle.atomic_table.proofs.Lists.{set_else}
use Rattle.start_words.specs.declared.law.Hand.{Hand}
use Rattle.start_words.specs.Numbers.{times_drawn, times_to, EachOnce}
use Rattle.start_words.specs.Hands.{hand, total, IsWithin, Drawn, Draws, Comes, kept_of, dealt, gathered}
use Rattle.start_words.proofs.Counts.{times-append, times_to-next, times_to-after, times_to-none, times_of_none}
use Rattle.start_words.proofs.Totals.{total-set, total-snoc, le_total, total_within, total_alone, within-set, within-snoc}

abbrev St : Type 0
St = State (Unit {0}) Hand

abbrev M : Type 0
M = Me (Unit {0}) Hand

-- a table at its start
pub opens : (pens : ℕ) → Drawn pens (opening (0 ∷ []) [] (hand pens []))
opens pens = record {
  one_word = refl;
  parts = omega arith;
  within = within-snoc [] (hand pens []) (λ i v e. absurd (some-ne-none v (sym e))) (omega arith);
  counted = refl;
  each_once = λ x. sym (times_to-none x);
}

-- the views change, and nothing that the rule counts
recounted : (pens : ℕ) (s : St) (views : List Hand) → Drawn pens s → IsWithin views
    → total (λ v. v.parts) views ≡ total (λ v. v.parts) s.views
    → total (λ v. length v.drawn) views ≡ total (λ v. length v.drawn) s.views
    → ((x : ℕ) → total (λ v. times_drawn x v.drawn) views ≡ total (λ v. times_drawn x v.drawn) s.views)
    → Drawn pens (record { words = s.words; homes = s.homes; views = views })
recounted pens s views kept within parts counted each = record {
  one_word = kept.one_word;
  parts = parts ∙ kept.parts;
  within = within;
  counted = counted ∙ kept.counted;
  each_once = λ x. each x ∙ kept.each_once x;
}

-- fewer numbers are drawn than a word can count
count_fits : (pens : ℕ) (s : St) → pens ≤ 1024 → Drawn pens s → get_or s.words 0 0 + 1 < 2 ^ 63
count_fits pens s few kept =
    let most = total_within s.views kept.within in
    let parts = kept.parts in
    let counted = kept.counted in
    omega arith

-- the pen that draws gets the next number
drawn_next : (pens : ℕ) (s : St) (id : ℕ) (me : M) → Drawn pens s → get_elem? s.views id ≡ some me.0
    → length me.0.drawn < me.0.parts * 2 ^ 32
    → Drawn pens (stepped s 0 (get_or s.words 0 0 + 1) id me.1
    (hand me.0.parts (me.0.drawn ++ (get_or s.words 0 0 + 1) ∷ [])) keeps)
drawn_next pens s id me kept at room =
    let n : ℕ = get_or s.words 0 0 in
    let drawn : List ℕ = me.0.drawn in
    let w : Hand = hand me.0.parts (drawn ++ (n + 1) ∷ []) in
    let long = length-append drawn ((n + 1) ∷ []) in
    let one = kept.one_word in
    let now : get_or (set s.words 0 (n + 1)) 0 0 ≡ n + 1 = get_or-set_same s.words 0 (n + 1) 0 (omega arith) in
    record {
      one_word = length-set s.words 0 (n + 1) ∙ kept.one_word;
      parts = (let t = total-set (λ v. v.parts) s.views id me.0 w at in let p = kept.parts in omega arith);
      within = within-set s.views id w kept.within (omega arith);
      counted = (let t = total-set (λ v. length v.drawn) s.views id me.0 w at in let p = kept.counted in omega arith);
      each_once = λ x.
          let t = total-set (λ v. times_drawn x v.drawn) s.views id me.0 w at in
          let more = times-append x drawn ((n + 1) ∷ []) in
          let next = times_to-next n x in
          let p = kept.each_once x in
          subst (λ (z : ℕ). total (λ v. times_drawn x v.drawn) (set s.views id w) ≡ times_to z x) (sym now)
          (omega arith);
    }

pub draws : (pens slots id : ℕ) (me : M) → pens ≤ 1024 → length me.0.drawn < me.0.parts * 2 ^ 32
    → Allows (Drawn pens) slots id me 0 (λ n. (n + 1) % 2 ^ 64) (Draws (step slots 0 1 0 none) me)
draws pens slots id me few room s kept _ at _ =
    let n : ℕ = get_or s.words 0 0 in
    let w : Hand = hand me.0.parts (me.0.drawn ++ (n + 1) ∷ []) in
    let fits : n + 1 < 2 ^ 63 = count_fits pens s few kept in
    let same : n + 1 ≡ (n + 1) % 2 ^ 64 = omega arith in
    let never = le_total (λ v. times_drawn (n + 1) v.drawn) s.views id me.0 at in
    let once = kept.each_once (n + 1) in
    let none_yet = times_to-after n in (
      w,
      keeps,
      tt,
      subst (λ (z : ℕ). Drawn pens (stepped s 0 z id me.1 w keeps)) same (drawn_next pens s id me kept at room),
      (refl, refl, omega arith, (omega arith, fits)),
    )

pub comes : (pens slots : ℕ) (first : M)
    → Enters (Drawn pens) slots 0 (λ n w. Comes (step slots 0 0 0 none) first n (w, []))
comes pens slots first s kept _ _ =
    let w : Hand = hand 0 [] in (
      w,
      recounted pens s (s.views ++ w ∷ []) kept (within-snoc s.views w kept.within (omega arith))
          (let t = total-snoc (λ v. v.parts) s.views w in omega arith)
          (let t = total-snoc (λ v. length v.drawn) s.views w in omega arith)
          (λ x. let t = total-snoc (λ v. times_drawn x v.drawn) s.views w in omega arith),
      refl,
    )

pub deals : (pens id : ℕ) (v : Hand) → 0 < v.parts → v.drawn ≡ [] → Splits (Drawn pens) id v (kept_of v) (dealt v)
deals pens id v some_part empty s kept at =
    let l : Hand = kept_of v in
    let r : Hand = dealt v in
    let views : List Hand = set s.views id l in
    let blank : length v.drawn ≡ 0 = ap length empty in
    recounted pens s (views ++ r ∷ []) kept
    (within-snoc views r (within-set s.views id l kept.within (omega arith)) (omega arith))
    (let t = total-set (λ u. u.parts) s.views id v l at in let u = total-snoc (λ u. u.parts) views r in omega arith)
    (let t = total-set (λ u. length u.drawn) s.views id v l at in let u =
    total-snoc (λ u. length u.drawn) views r in omega arith)
    (λ x. let t = total-set (λ u. times_drawn x u.drawn) s.views id v l at in let u =
    total-snoc (λ u. times_drawn x u.drawn) views r in omega arith)

pub gathers : (pens id : ℕ) (v : Hand) (other : ℕ) (w : Hand)
    → Joins (Drawn pens) id v other w (gathered v w) (hand 0 [])
gathers pens id v other w s kept at apart there =
    let all : Hand = gathered v w in
    let left : Hand = hand 0 [] in
    let views : List Hand = set s.views id all in
    let long = length-append v.drawn w.drawn in
    let mine = kept.within id v at in
    let theirs = kept.within other w (sym (set_else s.views id other all apart) ∙ there) in
    recounted pens s (set views other left) kept
    (within-set views other left (within-set s.views id all kept.within (omega arith)) (omega arith))
    (let t = total-set (λ u. u.parts) s.views id v all at in let u =
    total-set (λ u. u.parts) views other w left there in omega arith)
    (let t = total-set (λ u. length u.drawn) s.views id v all at in let u =
    total-set (λ u. length u.drawn) views other w left there in omega arith)
    (λ x.
    let t = total-set (λ u. times_drawn x u.drawn) s.views id v all at in
    let u = total-set (λ u. times_drawn x u.drawn) views other w left there in
    let both = times-append x v.drawn w.drawn in
    omega arith)

-- the view with all parts has drawn all numbers
pub drawn_alone : (pens : ℕ) (s : St) (id : ℕ) (v : Hand) → v.parts ≡ pens → Seen (Drawn pens) id v s
    → EachOnce (get_or s.words 0 0) v.drawn
drawn_alone pens s id v whole seen x =
    let kept = seen.0 in
    let parts = kept.parts in
    let none_else : (j : ℕ) (u : Hand) → get_elem? s.views j ≡ some u → u.parts ≡ 0
    → times_drawn x u.drawn ≡ 0 = λ j u there none. times_of_none x u.drawn (let h =
    kept.within j u there in omega arith) in
    sym (total_alone (λ u. times_drawn x u.drawn) s.views id v none_else seen.1 (omega arith)) ∙ kept.each_once x

-- the same of a table that was closed
pub closed_each_once : (pens : ℕ) (id : ℕ) (v : Hand) (words : List ℕ) (slots : List (Unit {0})) (n : ℕ)
    → v.parts ≡ pens
    → Final (Seen (Drawn pens) id v) words slots → get_elem? words 0 ≡ some n → EachOnce n v.drawn
closed_each_once pens id v words slots n whole final at x =
    let s = final.0 in
    let word : get_or s.words 0 0 ≡ n = ap (λ (l : List ℕ). get_or l 0 0) final.2 ∙ first_is words n at in
    subst (λ (z : ℕ). times_drawn x v.drawn ≡ times_to z x) word (drawn_alone pens s id v whole final.1 x)
  where
    first_is : (l : List ℕ) (m : ℕ) → get_elem? l 0 ≡ some m → get_or l 0 0 ≡ m
    first_is [] m e = absurd (some-ne-none m (sym e))
    first_is (y ∷ ys) m e = some-injective y m e
