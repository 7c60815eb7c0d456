-- A change that has its cause keeps a content sound, closes what it fills and nothing else: so it
-- is what a move asks.
use Rattle.std.proofs.Common.{◌≡◌, ℕ, ℤ, suc, zero, List, [], ◌∷◌, ◌⊎◌, Option, Some, None, refl, sym, inl, inr, ⊎_elim, ap, ◌∙◌}
use Rattle.ids.specs.Names.{Grant}
use Rattle.table_laws.specs.Tables.{put_at}
use Rattle.table_laws.specs.Content.{Return, Whole, Local, Absent, Empty, Full, given, Content, Debtor, Sound, IsFull, Closed, Fill, Changes}
use Rattle.table_laws.specs.Causes.{Ends, Filled}
use Rattle.table_laws.proofs.Lists.{same_or, some_same}
use Rattle.table_laws.proofs.Entries.{at_here, at_other}
use Rattle.table_laws.proofs.Made.{there, filled_kept}

-- no frame fits twice: returns to slots differ where the slots do
pub local_frame : (f j h l : ℕ) → Local f j ≡ Local h l → f ≡ h
local_frame f j h l e = cc

pub local_slot : (f j h l : ℕ) → Local f j ≡ Local h l → j ≡ l
local_slot f j h l e = cc

-- one slot, or another
slot_or : (a b f j : ℕ) → ((a ≡ f) × (b ≡ j)) ⊎ (a ≡ f → b ≡ j → ⊥)
slot_or a b f j = ⊎_elim (λ x. ⊎_elim (λ y. inl (x, y)) (λ y. inr (λ z. y)) (same_or b j)) (λ x. inr (λ y z. x y))
    (same_or a f)

-- numbers leave no slot empty
pub given_full : (numbers : List ℤ) (j : ℕ) → given numbers j ≡ Empty → ⊥
given_full [] j e = cc
given_full (v ∷ numbers) zero e = cc
given_full (v ∷ numbers) (suc j) e = given_full numbers j e

-- who has a debtor is active
pub active : (c : Content) → Sound c → (n : ℕ) (r : Return) → c.returns n ≡ Some r → c.outcome ≡ None
active c s n r e = at c.outcome refl
  where
    at : (o : Option (Option ℤ)) → c.outcome ≡ o → c.outcome ≡ None
    at None is = is
    at (Some o) is = let none = s.over o n is in cc

-- the end of all
pub ends_changes : (g : Grant) (c d : Content) (o : Option ℤ) (fill : Option Fill) → Ends c d o fill
    → Changes g c d fill
ends_changes g c d o fill end = record {
  sound = λ s. record {
    below = λ n r e. let none = end.none n in cc;
    debtor = λ f j e. let bare = end.bare f j in cc;
    one = λ n m r e. let none = end.none n in cc;
    empty = λ n f j e. let none = end.none n in cc;
    later = λ n f j e. let none = end.none n in cc;
    whole = λ e. let over = end.outcome in cc;
    over = λ x n e. end.none n;
    bare = λ n j e. end.bare n j;
  };
  closed = λ s f j a. record { old = rw end.next a.old; full = λ r e. let none = end.none f in cc };
  own = λ x e. let none = end.unfilled in cc;
  closes = λ s x e. let none = end.unfilled in cc;
  fresh = λ s x e. let none = end.unfilled in cc;
}

-- a value comes to a slot
module _ (g : Grant) (c d : Content) (n f j : ℕ) (x : ℤ) (fill : Option Fill) (change : Filled g c d n f j x fill)
    (owed : c.returns n ≡ Some (Local f j)) (full : (l : ℕ) → c.slots n l ≡ Empty → ⊥) where
  -- a slot that is empty was empty, and is neither the filled one nor of the number that is gone
  was_empty : (a b : ℕ) → d.slots a b ≡ Empty → (c.slots a b ≡ Empty) × (a ≡ f → b ≡ j → ⊥) × (a ≡ n → ⊥)
  was_empty a b e = ⊎_elim
      (λ (is : a ≡ n). let bare : d.slots a b ≡ Absent = rw is (change.bare b) in absurd (cc))
      (λ other. ⊎_elim
      (λ both. let now : put_at c.slots f j (Full x) a b ≡ Full x =
      rw (both.0, both.1) (at_here c.slots f j (Full x)) in let put = change.slots a b other in absurd (cc))
      (λ apart. (sym (at_other c.slots f j a b (Full x) apart) ∙ sym (change.slots a b other) ∙ e, apart, other))
      (slot_or a b f j))
      (same_or a n)

  -- a slot that was empty and isn't the filled one is empty
  still_empty : (a b : ℕ) → c.slots a b ≡ Empty → (a ≡ f → b ≡ j → ⊥) → d.slots a b ≡ Empty
  still_empty a b e apart = change.slots a b (λ is. full b (rw is at e)) ∙ at_other c.slots f j a b (Full x) apart ∙ e

  awaited : Sound c → c.slots f j ≡ Empty
  awaited s = s.empty n f j owed

  -- the debtor of another slot stays
  debtor_stays : (r : Return) → (r ≡ Local f j → ⊥) → Debtor c.returns r → Debtor d.returns r
  debtor_stays r other a = record {
    number = a.number;
    owes = change.kept a.number (λ is. other (some_same (sym (rw is at a.owes) ∙ owed))) ∙ a.owes;
  }

  fill_sound : Sound c → Sound d
  fill_sound s = record {
    below = λ k r e. rw change.next (s.below k r (filled_kept change k r e).0);
    debtor = λ a b e. let was = was_empty a b e in debtor_stays (Local a b)
        (λ is. was.1 (local_frame a b f j is) (local_slot a b f j is)) (s.debtor a b was.0);
    one = λ k l r e h. s.one k l r (filled_kept change k r e).0 (filled_kept change l r h).0;
    empty = λ k a b e. let old = filled_kept change k (Local a b) e in
        still_empty a b (s.empty k a b old.0) (λ p q. old.1 (s.one k n (Local f j) (rw (p, q) at old.0) owed));
    later = λ k a b e. s.later k a b (filled_kept change k (Local a b) e).0;
    whole = λ e. debtor_stays Whole (λ is. cc) (s.whole (active c s n (Local f j) owed));
    over = λ o k e. let goes_on = change.active in cc;
    bare = λ k l e. ⊎_elim
        (λ (is : k ≡ n). rw is (change.bare l))
        (λ other. let none = sym (change.kept k other) ∙ e in
        let bare = s.bare k l none in
        change.slots k l other ∙ at_other c.slots f j k l (Full x) (λ p q. let empty : c.slots k l ≡ Empty =
        rw (p, q) (awaited s) in cc) ∙ bare)
        (same_or k n);
  }

  -- what is full stays full
  full_stays : (a b : ℕ) → (a ≡ n → ⊥) → IsFull (c.slots a b) → IsFull (d.slots a b)
  full_stays a b other is = rw (change.slots a b other) (⊎_elim
      (λ both. rw (both.0, both.1, at_here c.slots f j (Full x)) tt)
      (λ apart. rw (at_other c.slots f j a b (Full x) apart) is)
      (slot_or a b f j))

  fill_closed : Sound c → (a b : ℕ) → Closed c a b → Closed d a b
  fill_closed s a b old = record {
    old = rw change.next old.old;
    full = λ r e. let was =
        filled_kept change a r e in full_stays a b was.1 (old.full r was.0);
  }

  closed_now : Sound c → Closed d f j
  closed_now s = record {
    old = let frame = there c s f j (awaited s) in rw change.next (s.below f frame.returns frame.is);
    full = λ r e. let was = filled_kept change f r e in rw (change.slots f j was.1, at_here c.slots f j (Full x)) tt;
  }

  pub fill_changes : Changes g c d fill
  fill_changes = record {
    sound = fill_sound;
    closed = fill_closed;
    own = λ y e. let is = some_same (sym change.is ∙ e) in ap (λ (z : Fill). z.grant) (sym is);
    closes = λ s y e. let is = some_same (sym change.is ∙ e) in rw (← is) (closed_now s);
    fresh = λ s y e. let is = some_same (sym change.is ∙ e) in rw (← is) (λ a. let frame =
        there c s f j (awaited s) in rw (awaited s) at (a.full frame.returns frame.is));
  }
