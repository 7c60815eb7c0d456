-- Contents that agree with the serial meaning do so after each change that has its cause; so does
-- the fill.
use Rattle.std.proofs.Common.{◌≡◌, ℕ, ℤ, ◌<◌, suc, zero, List, [], ◌∷◌, length, ◌⊎◌, Option, Some, None, slice_get, refl, sym, inl, inr, ⊎_elim, arith, ap, ◌∙◌}
use Rattle.ids.specs.Names.{Grant}
use Rattle.table_laws.specs.Tables.{◌∈◌, put_at}
use Rattle.table_laws.specs.Content.{Return, Whole, Local, Slot, Full, given, Content, Sound, Fill}
use Rattle.table_laws.specs.View.{View}
use Rattle.table_laws.specs.Facts.{result_to}
use Rattle.table_laws.specs.Guards.{Begins}
use Rattle.table_laws.specs.Meaning.{Part, Given, Kid, begun, End, Joins, Meaning, SlotFits, FitsMeaning, Runs, Gives, IsSerial}
use Rattle.table_laws.specs.Causes.{TakesTurn, GivesNumber, Ends, Filled, Arrives, Joined, PartsStand, Stays, Cause, sends, joins, is_deep, hears, hears_deep, redoes}
use Rattle.table_laws.specs.Values.{TablesAgree, FillAgrees}
use Rattle.table_laws.proofs.Lists.{same_or, some_same}
use Rattle.table_laws.proofs.Made.{filled_kept, Made, stays, succeeds, begins, made, there}
use Rattle.table_laws.proofs.Sounder.{local_frame, local_slot}

-- the same place, thread and slots fit as well
pub fits_same : (m : Meaning) {p q : List ℕ} {t u : ℕ} {a b : ℕ → Slot} → q ≡ p → u ≡ t → ((j : ℕ) → b j ≡ a j)
    → FitsMeaning m p t a → FitsMeaning m q u b
fits_same m e f g x = record { thread = rw (e, f) x.thread; slots = λ j. rw (e, g j) (x.slots j) }

-- what a Grant begins with agrees where its task fits
pub begun_agrees : (m : Meaning) (c : Content) (i : ℕ) → Begins c i
    → FitsMeaning m c.task.place c.task.thread (λ j. given c.task.numbers j) → TablesAgree m c
begun_agrees m c i begun fits = record {
  root = fits;
  fits = λ n r e. rw ((begun.only n r e).0) (fits_same m begun.holds.place begun.holds.thread begun.holds.numbers fits);
  owes = λ n f j e. let whole = (begun.only n (Local f j) e).1 in cc;
  whole = λ n e. let is = (begun.only n Whole e).0 in rw (is, begun.holds.place) refl;
  over = λ o e. let active = begun.active in cc;
}

-- where the task of a frame or record has no value, the root task has none: from each debtor to the
-- frame that waits for it
no_value : (m : Meaning) → IsSerial m → (c : Content) → Sound c → TablesAgree m c → (fuel n : ℕ) (r : Return) → n < fuel
    → c.returns n ≡ Some r → m.value (c.place n) ≡ None → m.value c.task.place ≡ None
no_value m law c s a zero n r less e none = absurd (omega (arith, less))
no_value m law c s a (suc fuel) n Whole less e none = sym (a.whole n e) ∙ none
no_value m law c s a (suc fuel) n (Local f j) less e none =
    let lacks : m.slot (c.place f) j ≡ Some None = a.owes n f j e ∙ ap (λ (x : Option ℤ). Some x) none in
    let frame = there c s f j (s.empty n f j e) in
    let later = s.later n f j e in
    no_value m law c s a fuel f frame.returns (omega (arith, later, less)) frame.is (law.lacking (c.place f) j lacks)

-- a change after which a content agrees, and so does the fill
pub record AgreesAfter (m : Meaning) (d : Content) (fill : Option Fill) : Type 0 where
  pub content : TablesAgree m d
  pub filled : (x : Fill) → fill ≡ Some x → FillAgrees m x

ended : (m : Meaning) (c d : Content) (o : Option ℤ) (fill : Option Fill) → Ends c d o fill → d.task ≡ c.task
    → o ≡ m.value c.task.place → TablesAgree m c → AgreesAfter m d fill
ended m c d o fill end task is a = record {
  content = record {
    root = rw task a.root;
    fits = λ n r e. let none = end.none n in cc;
    owes = λ n f j e. let none = end.none n in cc;
    whole = λ n e. let none = end.none n in cc;
    over = λ x e. let one : o ≡ x = some_same (sym end.outcome ∙ e) in rw (← one, task) is;
  };
  filled = λ x e. let none = end.unfilled in cc;
}

-- a value comes to a slot
slot_filled : (m : Meaning) (g : Grant) (c d : Content) (n f j : ℕ) (x : ℤ) (fill : Option Fill)
    → Filled g c d n f j x fill → c.returns n ≡ Some (Local f j) → d.task ≡ c.task → m.value (c.place n) ≡ Some x
    → Sound c → TablesAgree m c → AgreesAfter m d fill
slot_filled m g c d n f j x fill change e task value s a = record {
  content = record {
    root = rw task a.root;
    fits = λ k r u. let old = filled_kept change k r u in let was = a.fits k r old.0 in
        record {
          thread = rw (change.places k, change.threads k) was.thread;
          slots = λ l. rw (change.places k, change.slots k l old.1) (slot k l was);
        };
    owes = λ k h l u.
        let old = (filled_kept change k (Local h l) u).0 in
        rw (change.places k, change.places h) (a.owes k h l old);
    whole = λ k u. let old = (filled_kept change k Whole u).0 in rw (change.places k, task) (a.whole k old);
    over = λ o u. let active = change.active in cc;
  };
  filled = λ y u. let is = some_same (sym change.is ∙ u) in rw (← is) gets;
}
  where
    gets : m.slot (c.place f) j ≡ Some (Some x)
    gets = a.owes n f j e ∙ ap (λ (y : Option ℤ). Some y) value

    at_slot : SlotFits (Some (Some x)) (put_at c.slots f j (Full x) f j)
    at_slot = let is : put_at c.slots f j (Full x) f j ≡ Full x = grind arith in rw is refl

    missed : (k l : ℕ) → ((k ≡ f → ⊥) ⊎ (l ≡ j → ⊥)) → put_at c.slots f j (Full x) k l ≡ c.slots k l
    missed k l (inl o) = grind (arith, o)
    missed k l (inr o) = grind (arith, o)

    slot : (k l : ℕ) → FitsMeaning m (c.place k) (c.thread k) (c.slots k)
        → SlotFits (m.slot (c.place k) l) (put_at c.slots f j (Full x) k l)
    slot k l was = ⊎_elim
        (λ (is : k ≡ f). ⊎_elim
        (λ (too : l ≡ j). rw (is, too, gets) at_slot)
        (λ other. rw (missed k l (inr other)) (was.slots l))
        (same_or l j))
        (λ other. rw (missed k l (inl other)) (was.slots l))
        (same_or k f)

-- a value comes to where it is awaited
arrived : (m : Meaning) (g : Grant) (c d : Content) (n : ℕ) (r : Return) (x : ℤ) (fill : Option Fill)
    → Arrives g c d n r x fill → c.returns n ≡ Some r → d.task ≡ c.task → m.value (c.place n) ≡ Some x → Sound c
    → TablesAgree m c → AgreesAfter m d fill
arrived m g c d n Whole x fill end e task value s a = ended m c d (Some x) fill end task (sym value ∙ a.whole n e) a
arrived m g c d n (Local f j) x fill change e task value s a = slot_filled m g c d n f j x fill change e task value s a

-- too deep is the end of the whole
sunk : (m : Meaning) → IsSerial m → (c d : Content) (n : ℕ) (r : Return) (fill : Option Fill) → Ends c d None fill
    → c.returns n ≡ Some r → d.task ≡ c.task → m.value (c.place n) ≡ None → Sound c → TablesAgree m c
    → AgreesAfter m d fill
sunk m law c d n r fill end e task none s a =
    ended m c d None fill end task (sym (no_value m law c s a (suc n) n r (omega arith) e none)) a

-- a frame that takes its turn runs the thread of its place
runs : (m : Meaning) (c : Content) (n : ℕ) (end : End) (turn : TakesTurn m c n end) → TablesAgree m c
    → Runs m (c.place n) (c.thread n) turn.numbers end
runs m c n end turn a = record {
  fits = fits_same m refl refl (λ j. sym (turn.holds j)) (a.fits n turn.frame.returns turn.frame.there);
  ends = turn.ends;
}

-- a frame that gives a number has the thread of its place
gives : (m : Meaning) (c : Content) (n : ℕ) (x : ℤ) (from : GivesNumber m c n x) → TablesAgree m c
    → Gives m (c.place n) (c.thread n) from.numbers x
gives m c n x from a = record {
  fits = fits_same m refl refl (λ j. sym (from.holds j)) (a.fits n from.frame.returns from.frame.there);
  gives = from.gives;
}

-- a kid that stands for a part is that part
stands_kid : (m : Meaning) (place : List ℕ) (parts xs : List Part) (j hole t : ℕ) (own : List ℤ)
    → PartsStand m place parts xs → slice_get xs j ≡ Some (Kid hole t own) → slice_get parts j ≡ Some (Kid hole t own)
stands_kid m place [] [] j hole t own stand at = cc
stands_kid m place [] (x ∷ xs) j hole t own stand at = absurd stand
stands_kid m place (part ∷ parts) [] j hole t own stand at = cc
stands_kid m place (part ∷ parts) (Given v ∷ xs) zero hole t own stand at = let other : Given v ≡ Kid hole t own =
    some_same at in cc
stands_kid m place (part ∷ parts) (Kid h u o ∷ xs) zero hole t own stand at = ap (λ (x : Part). Some x) stand.0 ∙ at
stands_kid m place (part ∷ parts) (x ∷ xs) (suc j) hole t own stand at =
    stands_kid m place parts xs j hole t own stand.1 at

-- the slot of a part that stands for another is as that one's, or has the value of its kid, which
-- the slot gets
data Stood (m : Meaning) (place : List ℕ) (parts xs : List Part) (j : ℕ) : Type 0 where
  alike : begun xs j ≡ begun parts j → Stood m place parts xs j
  known : (hole t : ℕ) (own : List ℤ) (v : ℤ) → slice_get parts j ≡ Some (Kid hole t own)
      → m.value (hole ∷ place) ≡ Some v → begun xs j ≡ Full v → Stood m place parts xs j

stands_slot : (m : Meaning) (place : List ℕ) (parts xs : List Part) (j : ℕ) → PartsStand m place parts xs
    → Stood m place parts xs j
stands_slot m place [] [] j stand = alike refl
stands_slot m place [] (x ∷ xs) j stand = absurd stand
stands_slot m place (part ∷ parts) [] j stand = absurd stand
stands_slot m place (Given w ∷ parts) (Given v ∷ xs) zero stand = alike (ap (λ (z : ℤ). Full z) (sym stand.0))
stands_slot m place (Kid h t o ∷ parts) (Given v ∷ xs) zero stand = known h t o v refl stand.0 refl
stands_slot m place (Given w ∷ parts) (Kid h t o ∷ xs) zero stand = let other : Given w ≡ Kid h t o = stand.0 in cc
stands_slot m place (Kid k u p ∷ parts) (Kid h t o ∷ xs) zero stand = alike refl
stands_slot m place (Given w ∷ parts) (Given v ∷ xs) (suc j) stand = later (stands_slot m place parts xs j stand.1)
  where
    later : Stood m place parts xs j → Stood m place (Given w ∷ parts) (Given v ∷ xs) (suc j)
    later (alike is) = alike is
    later (known hole t own x part value slot) = known hole t own x part value slot
stands_slot m place (Kid h t o ∷ parts) (Given v ∷ xs) (suc j) stand = later (stands_slot m place parts xs j stand.1)
  where
    later : Stood m place parts xs j → Stood m place (Kid h t o ∷ parts) (Given v ∷ xs) (suc j)
    later (alike is) = alike is
    later (known hole u own x part value slot) = known hole u own x part value slot
stands_slot m place (Given w ∷ parts) (Kid h t o ∷ xs) (suc j) stand = let other : Given w ≡ Kid h t o = stand.0 in cc
stands_slot m place (Kid k u p ∷ parts) (Kid h t o ∷ xs) (suc j) stand = later (stands_slot m place parts xs j stand.1)
  where
    later : Stood m place parts xs j → Stood m place (Kid k u p ∷ parts) (Kid h t o ∷ xs) (suc j)
    later (alike is) = alike is
    later (known hole t' own x part value slot) = known hole t' own x part value slot

-- so the successor of a join by parts that stand is the frame at its place
stands_fit : (m : Meaning) → IsSerial m → (place : List ℕ) (t u : ℕ) (numbers : List ℤ) (parts xs : List Part)
    → Runs m place t numbers (Joins u parts) → length place < 1024 → PartsStand m place parts xs
    → FitsMeaning m (0 ∷ place) u (λ j. begun xs j)
stands_fit m law place t u numbers parts xs run room stand =
    let own = law.successor place t u numbers parts run room in
    record { thread = own.thread; slots = λ j. slot j (own.slots j) (stands_slot m place parts xs j stand) }
  where
    slot : (j : ℕ) → SlotFits (m.slot (0 ∷ place) j) (begun parts j) → Stood m place parts xs j
        → SlotFits (m.slot (0 ∷ place) j) (begun xs j)
    slot j fits (alike is) = rw is fits
    slot j fits (known hole x own v part value is) =
        let gets : m.slot (0 ∷ place) j ≡ Some (Some v) =
        law.kid_value place t u numbers parts j hole x own run room part ∙ ap (λ (z : Option ℤ). Some z) value in
        rw (gets, is) refl

-- a frame joins
join : (m : Meaning) → IsSerial m → (c d : Content) (n u : ℕ) (r : Return) (numbers : List ℤ) (parts xs : List Part)
    → Joined c d n u r xs → c.returns n ≡ Some r → d.task ≡ c.task
    → Runs m (c.place n) (c.thread n) numbers (Joins u parts) → length (c.place n) < 1024
    → PartsStand m (c.place n) parts xs → Sound c → TablesAgree m c → TablesAgree m d
join m law c d n u r numbers parts xs change e task run room stand s a = record {
  root = rw task a.root;
  fits = λ k q x. fits k q (made change k q x);
  owes = λ k f j x. owes k f j (made change k (Local f j) x);
  whole = λ k x. rw task (whole k (made change k Whole x));
  over = λ o x. let active = change.active in cc;
}
  where
    next_value : m.value (c.place n) ≡ m.value (0 ∷ c.place n)
    next_value = law.joined (c.place n) (c.thread n) u numbers parts run room

    apart : {h l : ℕ} → Whole ≡ Local h l → ⊥
    apart x = cc

    fits : (k : ℕ) (q : Return) → Made c d n r xs change.number k q → FitsMeaning m (d.place k) (d.thread k) (d.slots k)
    fits k q (stays less other old) = let same =
        (change.kept k less other).1 in fits_same m same.place same.thread same.slots (a.fits k q old)
    fits k q (succeeds is to) = rw is (fits_same m change.place change.thread change.slots
        (stands_fit m law (c.place n) (c.thread n) u numbers parts xs run room stand))
    fits k q (begins j hole t own part is to) =
        let kid = change.kid j hole t own part in
        rw is (fits_same m kid.place kid.thread kid.slots
        (law.kid (c.place n) (c.thread n) u numbers parts j hole t own run room
        (stands_kid m (c.place n) parts xs j hole t own stand part)))

    owes : (k f j : ℕ) → Made c d n r xs change.number k (Local f j) → m.slot (d.place f) j ≡ Some (m.value (d.place k))
    owes k f j (stays less other old) =
        let back = s.later k f j old in
        rw (change.places k less, change.places f (omega (arith, less, back))) (a.owes k f j old)
    owes k f j (succeeds is to) =
        let old : c.returns n ≡ Some (Local f j) = rw to e in
        let less = s.below n (Local f j) old in let back = s.later n f j old in
        rw (is, change.place, ← next_value, change.places f (omega (arith, less, back))) (a.owes n f j old)
    owes k f j (begins l hole t own part is to) =
        let frame : f ≡ c.next = local_frame f j c.next l to in
        let slot : j ≡ l = local_slot f j c.next l to in
        rw (is, frame, slot, change.place, (change.kid l hole t own part).place)
        (law.kid_value (c.place n) (c.thread n) u numbers parts l hole t own run room
        (stands_kid m (c.place n) parts xs l hole t own stand part))

    whole : (k : ℕ) → Made c d n r xs change.number k Whole → m.value (d.place k) ≡ m.value c.task.place
    whole k (stays less other old) = rw (change.places k less) (a.whole k old)
    whole k (succeeds is to) = rw (is, change.place, ← next_value) (a.whole n (rw to e))
    whole k (begins j hole t own part is to) = absurd (apart to)

-- nothing happens to the values
stayed : (m : Meaning) (c d : Content) → Stays c d → d.task ≡ c.task → Sound c → TablesAgree m c → TablesAgree m d
stayed m c d change task s a = record {
  root = rw task a.root;
  fits = λ k r x. let same = change.work k in fits_same m same.place same.thread same.slots
      (a.fits k r (sym (change.returns k) ∙ x));
  owes = λ k f j x. rw ((change.work k).place, (change.work f).place) (a.owes k f j (sym (change.returns k) ∙ x));
  whole = λ k x. rw ((change.work k).place, task) (a.whole k (sym (change.returns k) ∙ x));
  over = λ o x. rw task (a.over o (sym change.outcome ∙ x));
}

-- whatever the cause, where Results that were heard tell their records' values
pub caused : (m : Meaning) → IsSerial m → (v : View) (i : ℕ) (g : Grant) (c d : Content) (fill : Option Fill)
    → Cause m v i g c d fill → d.task ≡ c.task
    → ((n : ℕ) (k : Grant) (o : Option ℤ) → c.granted n ≡ Some k → result_to k i o ∈ v.results
    → o ≡ m.value (c.place n)) → Sound c → TablesAgree m c → AgreesAfter m d fill
caused m law v i g c d fill (sends n x from change) task heard s a =
    let value = law.gives (c.place n) (c.thread n) from.numbers x (gives m c n x from a) in
    arrived m g c d n from.frame.returns x fill change from.frame.there task value s a
caused m law v i g c d fill (joins n u parts xs turn stand room change none) task heard s a = record {
  content = join m law c d n u turn.frame.returns turn.numbers parts xs change turn.frame.there task
      (runs m c n (Joins u parts) turn a) room stand s a;
  filled = λ x e. cc;
}
caused m law v i g c d fill (is_deep n u parts turn room change) task heard s a =
    let none = law.deep (c.place n) (c.thread n) u turn.numbers parts (runs m c n (Joins u parts) turn a) room in
    sunk m law c d n turn.frame.returns fill change turn.frame.there task none s a
caused m law v i g c d fill (hears n k r x numbers granted e holds told change) task heard s a =
    arrived m g c d n r x fill change e task (sym (heard n k (Some x) granted told)) s a
caused m law v i g c d fill (hears_deep n k r granted e told change) task heard s a =
    sunk m law c d n r fill change e task (sym (heard n k None granted told)) s a
caused m law v i g c d fill (redoes change none) task heard s a =
    record { content = stayed m c d change task s a; filled = λ x e. cc }
