-- A join, a redo, and so each change that has its cause, is one of the kind that moves ask.
use Rattle.std.proofs.Common.{◌≡◌, ℕ, ℤ, ◌<◌, suc, zero, List, [], ◌∷◌, Option, Some, None, slice_get, refl, sym, inl, inr, ⊎_elim, arith, ◌∙◌}
use Rattle.ids.specs.Names.{Grant}
use Rattle.table_laws.specs.Content.{Full, Return, Whole, Local, Empty, given, Content, SameWork, Debtor, Sound, IsFull, Closed, Fill, Changes}
use Rattle.table_laws.specs.View.{View}
use Rattle.table_laws.specs.Meaning.{Part, Given, Kid, begun, Meaning}
use Rattle.table_laws.specs.Causes.{Ends, Filled, Arrives, Joined, Stays, Cause, sends, joins, is_deep, hears, hears_deep, redoes}
use Rattle.table_laws.proofs.Lists.{same_or}
use Rattle.table_laws.proofs.Entries.{at_other}
use Rattle.table_laws.proofs.Made.{either_side, there, Made, stays, succeeds, begins, made}
use Rattle.table_laws.proofs.Sounder.{local_frame, local_slot, given_full, active, ends_changes, fill_changes}

-- an empty slot of a new successor awaits a kid
record AwaitsKid (parts : List Part) (j : ℕ) : Type 0 where
  hole : ℕ
  thread : ℕ
  numbers : List ℤ
  part : slice_get parts j ≡ Some (Kid hole thread numbers)

awaits_kid : (parts : List Part) (j : ℕ) → begun parts j ≡ Empty → AwaitsKid parts j
awaits_kid [] j e = cc
awaits_kid (Given v ∷ parts) zero e = cc
awaits_kid (Kid hole t numbers ∷ parts) zero e = record { hole = hole; thread = t; numbers = numbers; part = refl }
awaits_kid (Given v ∷ parts) (suc j) e = let rest =
    awaits_kid parts j e in record { hole = rest.hole; thread = rest.thread; numbers = rest.numbers; part = rest.part }
awaits_kid (Kid hole t numbers ∷ parts) (suc j) e = let rest =
    awaits_kid parts j e in record { hole = rest.hole; thread = rest.thread; numbers = rest.numbers; part = rest.part }

-- and the slot that awaits one is empty
kid_empty : (parts : List Part) (j hole t : ℕ) (numbers : List ℤ) → slice_get parts j ≡ Some (Kid hole t numbers)
    → begun parts j ≡ Empty
kid_empty [] j hole t numbers e = cc
kid_empty (Given v ∷ parts) zero hole t numbers e = cc
kid_empty (Kid h u own ∷ parts) zero hole t numbers e = refl
kid_empty (Given v ∷ parts) (suc j) hole t numbers e = kid_empty parts j hole t numbers e
kid_empty (Kid h u own ∷ parts) (suc j) hole t numbers e = kid_empty parts j hole t numbers e

-- frame n joins
module _ (g : Grant) (c d : Content) (n u : ℕ) (r : Return) (parts : List Part) (change : Joined c d n u r parts)
    (owed : c.returns n ≡ Some r) (full : (l : ℕ) → c.slots n l ≡ Empty → ⊥) where
  -- the debtor of what an old frame awaits, or of the whole: it stays, or the successor stands in
  -- its place
  debtor_next : Sound c → (s : Return) → Debtor c.returns s → Debtor d.returns s
  debtor_next sound s a = ⊎_elim
      (λ (is : a.number ≡ n). record {
        number = c.next;
        owes = let own : c.returns n ≡ Some s =
            rw is at a.owes in change.successor ∙ sym owed ∙ own;
      })
      (λ other. record {
        number = a.number;
        owes = (change.kept a.number (sound.below a.number s a.owes) other).0 ∙ a.owes;
      })
      (same_or a.number n)

  -- the slots of an old frame that awaits something are as they were
  old_slots : Sound c → (a b : ℕ) → c.slots a b ≡ Empty → d.slots a b ≡ Empty
  old_slots s a b e = let frame = there c s a b e in
      (change.kept a (s.below a frame.returns frame.is) (λ is. full b (rw is at e))).1.slots b ∙ e

  -- who awaits something has a debtor
  debtor_of : Sound c → (a b : ℕ) (s : Return) → d.slots a b ≡ Empty → Made c d n r parts change.number a s
      → Debtor d.returns (Local a b)
  debtor_of sound a b s e (stays less other old) =
      debtor_next sound (Local a b) (sound.debtor a b (sym ((change.kept a less other).1.slots b) ∙ e))
  debtor_of sound a b s e (succeeds is to) =
      let kid = awaits_kid parts b (sym (change.slots b) ∙ rw is at e) in
      let at = change.kid b kid.hole kid.thread kid.numbers kid.part in
      record { number = change.number b; owes = rw is at.returns }
  debtor_of sound a b s e (begins j hole t own part is to) =
      let at = change.kid j hole t own part in
      absurd (given_full own b (sym (at.slots b) ∙ rw is at e))

  debtor_there : Sound c → (a b : ℕ) → d.slots a b ≡ Empty → Debtor d.returns (Local a b)
  debtor_there sound a b e = by (d.returns a) refl
    where
      by : (o : Option Return) → d.returns a ≡ o → Debtor d.returns (Local a b)
      by None is = let bare = change.bare a b is in absurd (cc)
      by (Some s) is = debtor_of sound a b s e (made change a s is)

  -- a kid's return is no old one
  not_old : Sound c → (k j : ℕ) → c.returns k ≡ Some (Local c.next j) → ⊥
  not_old sound k j e = let less = sound.below k (Local c.next j) e in let back =
      sound.later k c.next j e in omega (arith, less, back)

  one_of : Sound c → (k l : ℕ) (s : Return) → Made c d n r parts change.number k s
      → Made c d n r parts change.number l s → k ≡ l
  one_of sound k l s (stays less other old) (stays more too also) = sound.one k l s old also
  one_of sound k l s (stays less other old) (succeeds is to) = absurd (other (sound.one k n s old (rw to owed)))
  one_of sound k l s (stays less other old) (begins j hole t own part is to) = absurd (not_old sound k j (rw to at old))
  one_of sound k l s (succeeds is to) (stays less other old) = absurd (other (sound.one l n s old (rw to owed)))
  one_of sound k l s (succeeds is to) (succeeds also too) = is ∙ sym also
  one_of sound k l s (succeeds is to) (begins j hole t own part also too) =
      absurd (not_old sound n j (owed ∙ rw (← to, ← too) refl))
  one_of sound k l s (begins j hole t own part is to) (stays less other old) = absurd (not_old sound l j (rw to at old))
  one_of sound k l s (begins j hole t own part is to) (succeeds also too) =
      absurd (not_old sound n j (owed ∙ rw (← too, ← to) refl))
  one_of sound k l s (begins j hole t own part is to) (begins i hole2 t2 own2 part2 also too) =
      let slot : j ≡ i = local_slot c.next j c.next i (sym to ∙ too) in
      let last : l ≡ change.number j = rw slot also in
      is ∙ sym last

  empty_of : Sound c → (k a b : ℕ) → Made c d n r parts change.number k (Local a b) → d.slots a b ≡ Empty
  empty_of sound k a b (stays less other old) = old_slots sound a b (sound.empty k a b old)
  empty_of sound k a b (succeeds is to) = old_slots sound a b (sound.empty n a b (rw to owed))
  empty_of sound k a b (begins j hole t own part is to) =
      rw (local_frame a b c.next j to, local_slot a b c.next j to) (change.slots j ∙ kid_empty parts j hole t own part)

  later_of : Sound c → (k a b : ℕ) → Made c d n r parts change.number k (Local a b) → a < k
  later_of sound k a b (stays less other old) = sound.later k a b old
  later_of sound k a b (succeeds is to) =
      let old : c.returns n ≡ Some (Local a b) = rw to owed in
      let back = sound.later n a b old in let less = sound.below n (Local a b) old in omega (arith, back, less, is)
  later_of sound k a b (begins j hole t own part is to) = let above =
      (change.kid j hole t own part).above in rw (is, local_frame a b c.next j to) above

  below_of : Sound c → (k : ℕ) (s : Return) → Made c d n r parts change.number k s → k < d.next
  below_of sound k s (stays less other old) = let next = change.next in omega (arith, less, next)
  below_of sound k s (succeeds is to) = rw is change.next
  below_of sound k s (begins j hole t own part is to) = rw is (change.kid j hole t own part).below

  join_sound : Sound c → Sound d
  join_sound s = record {
    below = λ k q e. below_of s k q (made change k q e);
    debtor = debtor_there s;
    one = λ k l q e h. one_of s k l q (made change k q e) (made change l q h);
    empty = λ k a b e. empty_of s k a b (made change k (Local a b) e);
    later = λ k a b e. later_of s k a b (made change k (Local a b) e);
    whole = λ e. debtor_next s Whole (s.whole (active c s n r owed));
    over = λ o k e. let goes_on = change.active in cc;
    bare = change.bare;
  }

  closed_of : (a b : ℕ) (q : Return) → Closed c a b → Made c d n r parts change.number a q → IsFull (d.slots a b)
  closed_of a b q old (stays less other was) = rw ((change.kept a less other).1.slots b) (old.full q was)
  closed_of a b q old (succeeds is to) = let less = old.old in absurd (omega (arith, less, is))
  closed_of a b q old (begins j hole t own part is to) = let less = old.old in let above =
      (change.kid j hole t own part).above in absurd (omega (arith, less, above, is))

  pub join_changes : Changes g c d None
  join_changes = record {
    sound = join_sound;
    closed = λ s a b old. record {
      old = let less = old.old in let next =
          change.next in omega (arith, less, next);
      full = λ q e. closed_of a b q old (made change a q e);
    };
    own = λ x e. cc;
    closes = λ s x e. cc;
    fresh = λ s x e. cc;
  }

-- nothing happens to frames
stay_changes : (g : Grant) (c d : Content) → Stays c d → Changes g c d None
stay_changes g c d change = record {
  sound = λ s. record {
    below = λ n r e. rw change.next (s.below n r (was n r e));
    debtor = λ f j e. now (Local f j) (s.debtor f j (sym ((change.work f).slots j) ∙ e));
    one = λ n m r e h. s.one n m r (was n r e) (was m r h);
    empty = λ n f j e. (change.work f).slots j ∙ s.empty n f j (was n (Local f j) e);
    later = λ n f j e. s.later n f j (was n (Local f j) e);
    whole = λ e. now Whole (s.whole (sym change.outcome ∙ e));
    over = λ o n e. change.returns n ∙ s.over o n (sym change.outcome ∙ e);
    bare = λ n j e. (change.work n).slots j ∙ s.bare n j (sym (change.returns n) ∙ e);
  };
  closed = λ s f j a. record {
    old = rw change.next a.old;
    full = λ r e. rw ((change.work f).slots j) (a.full r (was f r e));
  };
  own = λ x e. cc;
  closes = λ s x e. cc;
  fresh = λ s x e. cc;
}
  where
    was : (n : ℕ) (r : Return) → d.returns n ≡ Some r → c.returns n ≡ Some r
    was n r e = sym (change.returns n) ∙ e

    now : (r : Return) → Debtor c.returns r → Debtor d.returns r
    now r a = record { number = a.number; owes = change.returns a.number ∙ a.owes }

-- a value comes to where it is awaited
arrive_changes : (g : Grant) (c d : Content) (n : ℕ) (r : Return) (x : ℤ) (fill : Option Fill)
    → Arrives g c d n r x fill → c.returns n ≡ Some r → ((l : ℕ) → c.slots n l ≡ Empty → ⊥) → Changes g c d fill
arrive_changes g c d n Whole x fill end e full = ends_changes g c d (Some x) fill end
arrive_changes g c d n (Local f j) x fill change e full = fill_changes g c d n f j x fill change e full

-- who holds numbers has no empty slot
holds_full : (c : Content) (n : ℕ) (numbers : List ℤ) → ((j : ℕ) → c.slots n j ≡ given numbers j) → (l : ℕ)
    → c.slots n l ≡ Empty → ⊥
holds_full c n numbers holds l e = given_full numbers l (sym (holds l) ∙ e)

-- whatever the cause
pub cause_changes : (m : Meaning) (v : View) (i : ℕ) (g : Grant) (c d : Content) (fill : Option Fill)
    → Cause m v i g c d fill → Changes g c d fill
cause_changes m v i g c d fill (sends n x from change) =
    arrive_changes g c d n from.frame.returns x fill change from.frame.there (holds_full c n from.numbers from.holds)
cause_changes m v i g c d fill (joins n u parts xs turn stand room change none) =
    rw none (join_changes g c d n u turn.frame.returns xs change turn.frame.there
    (holds_full c n turn.numbers turn.holds))
cause_changes m v i g c d fill (is_deep n u parts turn room change) = ends_changes g c d None fill change
cause_changes m v i g c d fill (hears n k r x numbers granted e holds told change) =
    arrive_changes g c d n r x fill change e (holds_full c n numbers holds)
cause_changes m v i g c d fill (hears_deep n k r granted e told change) = ends_changes g c d None fill change
cause_changes m v i g c d fill (redoes change none) = rw none (stay_changes g c d change)

-- a record that is there was there, and keeps its task
pub cause_records : (m : Meaning) (v : View) (i : ℕ) (g : Grant) (c d : Content) (fill : Option Fill)
    → Cause m v i g c d fill → (o : ℕ) (k : Grant) → d.granted o ≡ Some k → (c.granted o ≡ Some k) × SameWork c d o
cause_records m v i g c d fill cause o k e = by cause
  where
    ended : (x : Option ℤ) → Ends c d x fill → (c.granted o ≡ Some k) × SameWork c d o
    ended x end = let none = end.unrecorded o in absurd (cc)

    filled : (n f j : ℕ) (x : ℤ) → Filled g c d n f j x fill → (c.granted o ≡ Some k) × SameWork c d o
    filled n f j x change = ⊎_elim
        (λ (is : o ≡ n). let none : d.granted o ≡ None = rw is change.ungranted in absurd (cc))
        (λ other. let old = sym (change.granted o other) ∙ e in
        let apart : o ≡ f → ⊥ = λ is. let frame : c.granted o ≡ None = rw is change.frame in absurd (cc) in (
          old,
          record {
            place = change.places o;
            thread = change.threads o;
            slots = λ l. change.slots o l other ∙ at_other c.slots f j o l (Full x) (λ is too. apart is);
          },
        ))
        (same_or o n)

    arrived : (n : ℕ) (r : Return) (x : ℤ) → Arrives g c d n r x fill → (c.granted o ≡ Some k) × SameWork c d o
    arrived n Whole x end = ended (Some x) end
    arrived n (Local f j) x change = filled n f j x change

    joined : (n u : ℕ) (r : Return) (parts : List Part) → Joined c d n u r parts
        → (c.granted o ≡ Some k) × SameWork c d o
    joined n u r parts change = ⊎_elim
        (λ less. ⊎_elim
        (λ (is : o ≡ n). let none = change.ungranted o (inr is) in absurd (cc))
        (λ other. let old = change.kept o less other in (sym old.2 ∙ e, old.1))
        (same_or o n))
        (λ most. let none = change.ungranted o (inl most) in absurd (cc))
        (either_side o c.next)

    by : Cause m v i g c d fill → (c.granted o ≡ Some k) × SameWork c d o
    by (sends n x from change) = arrived n from.frame.returns x change
    by (joins n u parts xs turn stand room change none) = joined n u turn.frame.returns xs change
    by (is_deep n u parts turn room change) = ended None change
    by (hears n h r x numbers granted owed holds told change) = arrived n r x change
    by (hears_deep n h r granted owed told change) = ended None change
    by (redoes change none) = (change.fewer o k e, change.work o)
