-- Where the frames and records of a changed content come from.
use Rattle.std.proofs.Common.{◌≡◌, ℕ, ℤ, ◌<◌, ◌≤◌, List, ◌⊎◌, Option, Some, None, slice_get, refl, sym, ⊎_elim, arith, ◌∙◌}
use Rattle.ids.specs.Names.{Grant}
use Rattle.table_laws.specs.Content.{Return, Local, Empty, Content, Sound, Fill}
use Rattle.table_laws.specs.Meaning.{Part, Kid}
use Rattle.table_laws.specs.Causes.{Filled, Joined}
use Rattle.table_laws.proofs.Lists.{same_or, some_same}

pub either_side : (a b : ℕ) → (a < b) ⊎ (b ≤ a)
either_side a b = grind arith

-- who has an empty slot is there
pub record There (c : Content) (n : ℕ) : Type 0 where
  pub returns : Return
  pub is : c.returns n ≡ Some returns

pub there : (c : Content) → Sound c → (f j : ℕ) → c.slots f j ≡ Empty → There c f
there c s f j e = at (c.returns f) refl
  where
    at : (o : Option Return) → c.returns f ≡ o → There c f
    at None is = let bare = s.bare f j is in cc
    at (Some r) is = record { returns = r; is = is }

-- after a fill each number was there before, and isn't the one that is gone
pub filled_kept : {g : Grant} {c d : Content} {n f j : ℕ} {x : ℤ} {fill : Option Fill} → Filled g c d n f j x fill
    → (k : ℕ) (r : Return) → d.returns k ≡ Some r → (c.returns k ≡ Some r) × (k ≡ n → ⊥)
filled_kept {d = d} {n = n} change k r e = ⊎_elim
    (λ (is : k ≡ n). let gone = change.gone in let here : d.returns n ≡ Some r = rw is at e in absurd (cc))
    (λ other. (sym (change.kept k other) ∙ e, other))
    (same_or k n)

-- where number k of d, which returns to s, comes from, after frame n of c, which returned to r,
-- joined: it stays as it was; it is the successor; or it is the kid of a slot
pub data Made (c d : Content) (n : ℕ) (r : Return) (parts : List Part) (number : ℕ
    → ℕ) (k : ℕ) (s : Return) : Type 0 where
  stays : k < c.next → (k ≡ n → ⊥) → c.returns k ≡ Some s → Made c d n r parts number k s
  succeeds : k ≡ c.next → s ≡ r → Made c d n r parts number k s
  begins : (j hole t : ℕ) (own : List ℤ) → slice_get parts j ≡ Some (Kid hole t own) → k ≡ number j → s ≡ Local c.next j
      → Made c d n r parts number k s

pub made : {c d : Content} {n u : ℕ} {r : Return} {parts : List Part} (change : Joined c d n u r parts) (k : ℕ)
    (s : Return) → d.returns k ≡ Some s → Made c d n r parts change.number k s
made {c = c} {d = d} {n = n} {r = r} change k s e = ⊎_elim
    (λ less. ⊎_elim
    (λ (is : k ≡ n). let gone = change.gone in let here : d.returns n ≡ Some s = rw is at e in absurd (cc))
    (λ other. stays less other (sym (change.kept k less other).0 ∙ e))
    (same_or k n))
    (λ most. ⊎_elim
    (λ (is : k ≡ c.next). succeeds is (some_same (sym (rw is at e) ∙ change.successor)))
    (λ other. let x = change.only k s (omega (arith, most, other)) e in
    let kid = change.kid x.slot x.hole x.thread x.numbers x.part in
    begins x.slot x.hole x.thread x.numbers x.part x.is (some_same (sym (rw x.is at e) ∙ kid.returns)))
    (same_or k c.next))
    (either_side k c.next)
