-- The laws of the words that put formats together: what is read is spelled so, what is spelled is
-- read, a value has one spelling, and what can be written is spelled by what is written.
use Rattle.std.proofs.Common.{◌≡◌, ℕ, zero, suc, ◌+◌, ◌*◌, ◌%◌, ◌^◌, ◌<◌, ◌≤◌, Bool, true, false, cond, eqb, ltb, List, [], ◌∷◌, ◌++◌, length, take, drop, Option, Some, None, Result, Ok, Err, refl, sym, ap, subst, ◌∙◌, append_assoc, arith, inl, inr}
use Rattle.std.specs.List.{list_all}
use Rattle.std.proofs.Math.Seq.{take-append_seam}
use Rattle.std.proofs.lemmas.Bool.{and_from, and_parts, eq-eqb, eqb-true, le-ltb, lt-ltb, ltb-false, ltb-true, cases_lt}
use Rattle.std.proofs.lemmas.List.{drop_at, take-append-drop, length-append, length-take, length-take-le, get_or-drop, get_or-take, get_or_past}
use Rattle.std.proofs.lemmas.Nat.{be_bytes_2, be_bytes_4, be_bytes_8}
use Rattle.byteorder.specs.Endian.{big_bytes, big_number}
use Rattle.byteorder.specs.Numbers.{big_from-lt, big_from-take, big_number-reads_back, length-bytes_high_first}
use Rattle.packet_fields.specs.declared.fault.Fault.{Fault}
use Rattle.packet_fields.specs.declared.fault.Fault.TheVariants.{Short, Field}
use Rattle.packet_fields.specs.Format.{Format, IsBytes, OneSpelling, ◌>>=◌, checked, tagged_arm, cons, constant, followed, is_empty, items, listed, made, is_byte, never, nothing, number, of_part, plain, raw, tested, variant}

-- what a format is to keep
pub record Lawful {X : Type 0} (F : Format X) : Type 0 where
  -- what is read of bytes is spelled so, and bytes are left
  pub found : (from to : List ℕ) (x : X) → IsBytes from → F.read from ≡ Ok (x, to) → F.Spelled from to x × IsBytes to
  -- what is spelled is read
  pub only : (from to : List ℕ) (x : X) → F.Spelled from to x → F.read from ≡ Ok (x, to)
  -- a value has one spelling, which is what is written
  pub one : (from to : List ℕ) (x : X) → F.Spelled from to x → from ≡ F.write x ++ to
  -- what is written for what can be written spells it
  pub writes : (x : X) (to : List ℕ) → F.fits x ≡ true → F.Spelled (F.write x ++ to) to x
  -- what is spelled can be written
  pub fit : (from to : List ℕ) (x : X) → F.Spelled from to x → F.fits x ≡ true

-- ---- readings that did not fail

abbrev done : {A : Type 0} → A → Result A Fault
done x = Ok x

pub ok_is : {A : Type 0} (x y : A) → done x ≡ done y → x ≡ y
ok_is x y e = cc

-- the value of a step
pub bind_ok : {A B : Type 0} (r : Result A Fault) (f : A → Result B Fault) (y : B) → (r >>= f) ≡ Ok y
    → (x : A) × (r ≡ Ok x) × (f x ≡ Ok y)
bind_ok (Ok x) f y e = (x, refl, e)
bind_ok (Err d) f y e = absurd cc

-- which way a test went
pub guard_ok : {A : Type 0} (b : Bool) (d : Fault) (x y : A) → cond b (Err d) (Ok x) ≡ Ok y → (b ≡ false) × (x ≡ y)
guard_ok true d x y e = absurd cc
guard_ok false d x y e = (refl, cc)

pub test_ok : {A : Type 0} (b : Bool) (d : Fault) (x y : A) → cond b (Ok x) (Err d) ≡ Ok y → (b ≡ true) × (x ≡ y)
test_ok true d x y e = (refl, cc)
test_ok false d x y e = absurd cc

-- ---- bytes

pub IsBytes-drop : (n : ℕ) (bytes : List ℕ) → IsBytes bytes → IsBytes (drop n bytes)
IsBytes-drop n bytes h i = rw get_or-drop (h (n + i))

pub IsBytes-take : (n : ℕ) (bytes : List ℕ) → IsBytes bytes → IsBytes (take n bytes)
IsBytes-take n bytes h i =
    elim (cases_lt i n) [
      | inl lt ↦ rw (get_or-take n bytes i 0 lt) (h i)
      | inr le ↦ rw (get_or_past (take n bytes) i 0 (omega (arith, length-take n bytes))) (omega arith)
    ]

-- ---- numbers

-- what numbers of n bytes keep
pub record IsWide (n : ℕ) : Type 0 where
  -- the bytes of the number that was read are those that were read
  pub back : (bytes : List ℕ) → IsBytes bytes → n ≤ length bytes → big_bytes n (big_number n bytes) ≡ take n bytes
  -- the number of the bytes that were written is the one that was written
  pub again : (x : ℕ) (rest : List ℕ) → x < 256 ^ n → big_number n (big_bytes n x ++ rest) ≡ x
  pub below : (bytes : List ℕ) → IsBytes bytes → big_number n bytes < 256 ^ n
  pub len : (x : ℕ) → length (big_bytes n x) ≡ n

wide_of : (n : ℕ) → ((bytes : List ℕ) → IsBytes bytes → length bytes ≡ n → big_bytes n (big_number n bytes) ≡ bytes)
    → IsWide n
wide_of n h = record {
  back = λ bytes fits long.
      let same : big_number n (take n bytes) ≡ big_number n bytes = big_from-take 0 n n bytes (omega arith) in
      ap (big_bytes n) (sym same) ∙ h (take n bytes) (IsBytes-take n bytes fits) (omega (arith, length-take n bytes));
  again = λ x rest lt. big_number-reads_back n x rest lt;
  below = λ bytes fits. big_from-lt 0 n bytes fits;
  len = λ x. length-bytes_high_first n x;
}

one_byte : (bytes : List ℕ) → IsBytes bytes → length bytes ≡ 1 → big_bytes 1 (big_number 1 bytes) ≡ bytes
one_byte [] fits e = absurd (omega arith)
one_byte (b ∷ []) fits e =
    let lt : b < 256 = fits 0 in
    let same : (b * 256 ^ 0 + 0) % 256 ≡ b = omega arith in
    ap (λ (x : ℕ). x ∷ []) same
one_byte (b ∷ c ∷ bytes) fits e = absurd (omega arith)

pub wide1 : IsWide 1
wide1 = wide_of 1 one_byte

pub wide2 : IsWide 2
wide2 = wide_of 2 (λ bytes fits e. be_bytes_2 bytes (big_number 2 bytes) e fits (omega arith))

pub wide4 : IsWide 4
wide4 = wide_of 4 (λ bytes fits e. be_bytes_4 bytes (big_number 4 bytes) e fits (omega arith))

pub wide8 : IsWide 8
wide8 = wide_of 8 (λ bytes fits e. be_bytes_8 bytes (big_number 8 bytes) e fits (omega arith))

pub number_again : (n : ℕ) → IsWide n → (x : ℕ) (rest : List ℕ) → x < 256 ^ n
    → (number n).read (big_bytes n x ++ rest) ≡ Ok (x, rest)
number_again n wide x rest lt =
    let len = wide.len x in
    let long : ltb (length (big_bytes n x ++ rest)) n ≡ false =
    le-ltb _ _ (omega (arith, length-append (big_bytes n x) rest)) in
    rw (long, wide.again x rest lt, drop_at (big_bytes n x) rest n len) refl

pub number_lawful : (n : ℕ) → IsWide n → Lawful (number n)
number_lawful n wide = record {
  found = λ from to x bytes e.
      let g = guard_ok (ltb (length from) n) Short (big_number n from, drop n from) (x, to) e in
      let long : n ≤ length from = ltb-false _ _ g.0 in
      let parts : from ≡ big_bytes n (big_number n from) ++ drop n from =
      sym (take-append-drop n from) ∙ ap (λ (r : List ℕ). r ++ drop n from) (sym (wide.back from bytes long)) in
      subst (λ (q : ℕ × List ℕ). ((q.0 < 256 ^ n) × (from ≡ big_bytes n q.0 ++ q.1)) × IsBytes q.1) g.1
      ((wide.below from bytes, parts), IsBytes-drop n from bytes);
  only = λ from to x s. ap (number n).read s.1 ∙ number_again n wide x to s.0;
  one = λ from to x s. s.1;
  writes = λ x to f. (ltb-true x (256 ^ n) f, refl);
  fit = λ from to x s. lt-ltb x (256 ^ n) s.0;
}

-- ---- bytes as they are

-- bytes, one by one
pub all_bytes : (x : List ℕ) → IsBytes x → list_all is_byte x ≡ true
all_bytes [] h = refl
all_bytes (b ∷ x) h = and_from (ltb b 256) (list_all is_byte x) (lt-ltb b 256 (h 0)) (all_bytes x (λ i. h (suc i)))

pub each_byte : (x : List ℕ) → list_all is_byte x ≡ true → IsBytes x
each_byte [] e i = omega arith
each_byte (b ∷ x) e zero = ltb-true b 256 (and_parts (ltb b 256) (list_all is_byte x) e).0
each_byte (b ∷ x) e (suc i) = each_byte x (and_parts (ltb b 256) (list_all is_byte x) e).1 i

pub raw_again : (n : ℕ) (x rest : List ℕ) → length x ≡ n → (raw n).read (x ++ rest) ≡ Ok (x, rest)
raw_again n x rest len =
    let long : ltb (length (x ++ rest)) n ≡ false = le-ltb _ _ (omega (arith, length-append x rest)) in
    let front : take n (x ++ rest) ≡ x = ap (λ k. take k (x ++ rest)) (sym len) ∙ take-append_seam x rest in
    rw (long, front, drop_at x rest n len) refl

pub raw_lawful : (n : ℕ) → Lawful (raw n)
raw_lawful n = record {
  found = λ from to x bytes e.
      let g = guard_ok (ltb (length from) n) Short (take n from, drop n from) (x, to) e in
      let long : n ≤ length from = ltb-false _ _ g.0 in
      subst (λ (q : List ℕ × List ℕ). ((length q.0 ≡ n) × IsBytes q.0 × (from ≡ q.0 ++ q.1)) × IsBytes q.1) g.1 (
        (length-take-le n from long, IsBytes-take n from bytes, sym (take-append-drop n from)),
        IsBytes-drop n from bytes,
      );
  only = λ from to x s. ap (raw n).read s.2 ∙ raw_again n x to s.0;
  one = λ from to x s. s.2;
  writes = λ x to f. let h = and_parts (eqb (length x) n)
      (list_all is_byte x) f in (eqb-true (length x) n h.0, each_byte x h.1, refl);
  fit = λ from to x s. and_from (eqb (length x) n) (list_all is_byte x) (eq-eqb (length x) n s.0) (all_bytes x s.1);
}

pub raw_length : (n : ℕ) (from to x : List ℕ) → (raw n).Spelled from to x → length x ≡ n
raw_length n from to x s = s.0

-- ---- one format after another

pub tested_lawful : {X : Type 0} (fault : Fault) (F : Format X) (test : X → Bool) → Lawful F
    → Lawful (tested fault F test)
tested_lawful {X = X} fault F test law = record {
  found = λ from to x bytes e.
      let b = bind_ok (F.read from) (λ y. cond (test y.0) (Ok y) (Err fault)) (x, to) e in
      let g = test_ok (test b.0.0) fault b.0 (x, to) b.2 in
      let s = law.found from b.0.1 b.0.0 bytes b.1 in
      subst (λ (q : X × List ℕ). (F.Spelled from q.1 q.0 × (test q.0 ≡ true)) × IsBytes q.1) g.1 ((s.0, g.0), s.1);
  only = λ from to x s. rw (law.only from to x s.0, s.1) refl;
  one = λ from to x s. law.one from to x s.0;
  writes = λ x to f. let h = and_parts (F.fits x) (test x) f in (law.writes x to h.0, h.1);
  fit = λ from to x s. and_from (F.fits x) (test x) (law.fit from to x s.0) s.1;
}

pub checked_lawful : {X : Type 0} (F : Format X) (test : X → Bool) → Lawful F → Lawful (checked F test)
checked_lawful F test law = tested_lawful Field F test law

pub followed_lawful : {X Y : Type 0} (F : Format X) (G : X → Format Y) → Lawful F → ((x : X) → Lawful (G x))
    → Lawful (followed F G)
followed_lawful {X = X} {Y = Y} F G law laws = record {
  found = λ from to p bytes e.
      let b = bind_ok (F.read from) (λ x. (G x.0).read x.1 >>= λ y. Ok ((x.0, y.0), y.1)) (p, to) e in
      let c = bind_ok ((G b.0.0).read b.0.1) (λ y. Ok ((b.0.0, y.0), y.1)) (p, to) b.2 in
      let s = law.found from b.0.1 b.0.0 bytes b.1 in
      let t = (laws b.0.0).found b.0.1 c.0.1 c.0.0 s.1 c.1 in
      let read : (X × Y) × List ℕ = ((b.0.0, c.0.0), c.0.1) in
      subst (λ (q : (X × Y) × List ℕ). ((m : List ℕ) × F.Spelled from m q.0.0 × (G q.0.0).Spelled m q.1 q.0.1)
      × IsBytes q.1) (ok_is read (p, to) c.2) ((b.0.1, s.0, t.0), t.1);
  only = λ from to p s. rw (law.only from s.0 p.0 s.1, (laws p.0).only s.0 to p.1 s.2) refl;
  one = λ from to p s. law.one from s.0 p.0 s.1 ∙ ap (λ (r : List ℕ). F.write p.0 ++ r) ((laws p.0).one s.0 to p.1 s.2)
      ∙ sym (append_assoc (F.write p.0) ((G p.0).write p.1) to);
  writes = λ p to f.
      let h = and_parts (F.fits p.0) ((G p.0).fits p.1) f in
      let m : List ℕ = (G p.0).write p.1 ++ to in (
        m,
        subst (λ (r : List ℕ). F.Spelled r m p.0) (sym (append_assoc (F.write p.0) ((G p.0).write p.1) to))
            (law.writes p.0 m h.0),
        (laws p.0).writes p.1 to h.1,
      );
  fit = λ from to p s. and_from (F.fits p.0) ((G p.0).fits p.1) (law.fit from s.0 p.0 s.1)
      ((laws p.0).fit s.0 to p.1 s.2);
}

-- parts and make are to be each other's way back: make at every value, parts at what is spelled
pub made_lawful : {X Y : Type 0} (F : Format X) (make : X → Y) (parts : Y → X) → Lawful F
    → ((y : Y) → make (parts y) ≡ y) → ((from to : List ℕ) (x : X) → F.Spelled from to x → parts (make x) ≡ x)
    → Lawful (made F make parts)
made_lawful {X = X} {Y = Y} F make parts law again back = record {
  found = λ from to y bytes e.
      let b = bind_ok (F.read from) (λ x. Ok (make x.0, x.1)) (y, to) e in
      let s = law.found from b.0.1 b.0.0 bytes b.1 in
      let read : Y × List ℕ = (make b.0.0, b.0.1) in
      let spelled : F.Spelled from b.0.1 (parts (make b.0.0)) =
      subst (λ (x : X). F.Spelled from b.0.1 x) (sym (back from b.0.1 b.0.0 s.0)) s.0 in
      subst (λ (q : Y × List ℕ). F.Spelled from q.1 (parts q.0) × IsBytes q.1) (ok_is read (y, to) b.2) (spelled, s.1);
  only = λ from to y s. rw (law.only from to (parts y) s, again y) refl;
  one = λ from to y s. law.one from to (parts y) s;
  writes = λ y to f. law.writes (parts y) to f;
  fit = λ from to y s. law.fit from to (parts y) s;
}

-- ---- variants and tags

part_writes : {X Y : Type 0} (F : Format X) (make : X → Y) → Lawful F → (o : Option X) (y : Y) (to : List ℕ)
    → ((x : X) → o ≡ Some x → make x ≡ y) → of_part false F.fits o ≡ true
    → (x : X) × F.Spelled (of_part [] F.write o ++ to) to x × (make x ≡ y)
part_writes F make law None y to whole f = absurd cc
part_writes F make law (Some x) y to whole f = (x, law.writes x to f, whole x refl)

-- part is to find what make was given, and nothing else
pub variant_lawful : {X Y : Type 0} (F : Format X) (make : X → Y) (part : Y → Option X) → Lawful F
    → ((x : X) → part (make x) ≡ Some x) → ((x : X) (y : Y) → part y ≡ Some x → make x ≡ y)
    → Lawful (variant F make part)
variant_lawful {X = X} {Y = Y} F make part law back whole = record {
  found = λ from to y bytes e.
      let b = bind_ok (F.read from) (λ x. Ok (make x.0, x.1)) (y, to) e in
      let s = law.found from b.0.1 b.0.0 bytes b.1 in
      let read : Y × List ℕ = (make b.0.0, b.0.1) in
      subst (λ (q : Y × List ℕ). ((x : X) × F.Spelled from q.1 x × (make x ≡ q.0)) × IsBytes q.1)
      (ok_is read (y, to) b.2) ((b.0.0, s.0, refl), s.1);
  only = λ from to y s. rw (law.only from to s.0 s.1, s.2) refl;
  one = λ from to y s. law.one from to s.0 s.1
      ∙ ap (λ (o : Option X). of_part [] F.write o ++ to) (sym (ap part (sym s.2) ∙ back s.0));
  writes = λ y to f. part_writes F make law (part y) y to (λ x e. whole x y e) f;
  fit = λ from to y s. ap (of_part false F.fits) (ap part (sym s.2) ∙ back s.0) ∙ law.fit from to s.0 s.1;
}

pub constant_lawful : (fault : Fault) (n v : ℕ) → IsWide n → Lawful (constant fault n v)
constant_lawful fault n v wide =
    made_lawful (tested fault (number n) (λ x. eqb x v)) (λ x. tt) (λ u. v)
    (tested_lawful fault (number n) (λ x. eqb x v) (number_lawful n wide))
    (λ u. refl)
    (λ from to x s. sym (eqb-true x v s.1))

pub nothing_lawful : {Y : Type 0} (y : Y) (test : Y → Bool) → test y ≡ true → ((x : Y) → test x ≡ true → x ≡ y)
    → Lawful (nothing y test)
nothing_lawful {Y = Y} y test passes same = record {
  found = λ from to x bytes e. subst (λ (q : Y × List ℕ). ((from ≡ q.1) × (q.0 ≡ y)) × IsBytes q.1)
      (ok_is (y, from) (x, to) e) ((refl, refl), bytes);
  only = λ from to x s. rw (s.0, s.1) refl;
  one = λ from to x s. s.0;
  writes = λ x to f. (refl, same x f);
  fit = λ from to x s. ap test s.1 ∙ passes;
}

pub never_lawful : {Y : Type 0} (fault : Fault) → Lawful (never {Y = Y} fault)
never_lawful fault = record {
  found = λ from to x bytes e. absurd cc;
  only = λ from to x s. absurd s;
  one = λ from to x s. absurd s;
  writes = λ x to f. absurd cc;
  fit = λ from to x s. absurd s;
}

-- what an arm spells is to have its tag
pub chosen_lawful : {T Y : Type 0} (F : Format T) (arm : T → Format Y) (tag : Y → T) → Lawful F
    → ((t : T) → Lawful (arm t)) → ((t : T) (from to : List ℕ) (y : Y) → (arm t).Spelled from to y → tag y ≡ t)
    → Lawful (tagged_arm F arm tag)
chosen_lawful {T = T} {Y = Y} F arm tag law laws tags = record {
  found = λ from to y bytes e.
      let b = bind_ok (F.read from) (λ t. (arm t.0).read t.1) (y, to) e in
      let s = law.found from b.0.1 b.0.0 bytes b.1 in
      let u = (laws b.0.0).found b.0.1 to y s.1 b.2 in
      let t-is : tag y ≡ b.0.0 = tags b.0.0 b.0.1 to y u.0 in
      (subst (λ (t : T). (m : List ℕ) × F.Spelled from m t × (arm t).Spelled m to y) (sym t-is) (b.0.1, s.0, u.0), u.1);
  only = λ from to y s. rw (law.only from s.0 (tag y) s.1) ((laws (tag y)).only s.0 to y s.2);
  one = λ from to y s. law.one from s.0 (tag y) s.1
      ∙ ap (λ (r : List ℕ). F.write (tag y) ++ r) ((laws (tag y)).one s.0 to y s.2)
      ∙ sym (append_assoc (F.write (tag y)) ((arm (tag y)).write y) to);
  writes = λ y to f.
      let h = and_parts (F.fits (tag y)) ((arm (tag y)).fits y) f in
      let m : List ℕ = (arm (tag y)).write y ++ to in (
        m,
        subst (λ (r : List ℕ). F.Spelled r m (tag y))
            (sym (append_assoc (F.write (tag y)) ((arm (tag y)).write y) to)) (law.writes (tag y) m h.0),
        (laws (tag y)).writes y to h.1,
      );
  fit = λ from to y s. and_from (F.fits (tag y)) ((arm (tag y)).fits y) (law.fit from s.0 (tag y) s.1)
      ((laws (tag y)).fit s.0 to y s.2);
}

-- ---- lists

cons_only : {X : Type 0} (F : Format X) (G : X → Format (List X)) → Lawful F → ((x : X) → Lawful (G x))
    → (from to : List ℕ) (xs : List X) → (cons F G).Spelled from to xs → (cons F G).read from ≡ Ok (xs, to)
cons_only F G law laws from to [] s = absurd s
cons_only F G law laws from to (x ∷ xs) s = rw (law.only from s.0 x s.1, (laws x).only s.0 to xs s.2) refl

cons_one : {X : Type 0} (F : Format X) (G : X → Format (List X)) → Lawful F → ((x : X) → Lawful (G x))
    → (from to : List ℕ) (xs : List X) → (cons F G).Spelled from to xs → from ≡ (cons F G).write xs ++ to
cons_one F G law laws from to [] s = absurd s
cons_one F G law laws from to (x ∷ xs) s =
    law.one from s.0 x s.1 ∙ ap (λ (r : List ℕ). F.write x ++ r) ((laws x).one s.0 to xs s.2)
    ∙ sym (append_assoc (F.write x) ((G x).write xs) to)

cons_writes : {X : Type 0} (F : Format X) (G : X → Format (List X)) → Lawful F → ((x : X) → Lawful (G x))
    → (xs : List X) (to : List ℕ) → (cons F G).fits xs ≡ true → (cons F G).Spelled ((cons F G).write xs ++ to) to xs
cons_writes F G law laws [] to f = absurd cc
cons_writes F G law laws (x ∷ xs) to f =
    let h = and_parts (F.fits x) ((G x).fits xs) f in
    let m : List ℕ = (G x).write xs ++ to in (
      m,
      subst (λ (r : List ℕ). F.Spelled r m x) (sym (append_assoc (F.write x) ((G x).write xs) to))
          (law.writes x m h.0),
      (laws x).writes xs to h.1,
    )

cons_fit : {X : Type 0} (F : Format X) (G : X → Format (List X)) → Lawful F → ((x : X) → Lawful (G x))
    → (from to : List ℕ) (xs : List X) → (cons F G).Spelled from to xs → (cons F G).fits xs ≡ true
cons_fit F G law laws from to [] s = absurd s
cons_fit F G law laws from to (x ∷ xs) s =
    and_from (F.fits x) ((G x).fits xs) (law.fit from s.0 x s.1) ((laws x).fit s.0 to xs s.2)

pub cons_lawful : {X : Type 0} (F : Format X) (G : X → Format (List X)) → Lawful F → ((x : X) → Lawful (G x))
    → Lawful (cons F G)
cons_lawful {X = X} F G law laws = record {
  found = λ from to xs bytes e.
      let b = bind_ok (F.read from) (λ x. (G x.0).read x.1 >>= λ y. Ok (x.0 ∷ y.0, y.1)) (xs, to) e in
      let c = bind_ok ((G b.0.0).read b.0.1) (λ y. Ok (b.0.0 ∷ y.0, y.1)) (xs, to) b.2 in
      let s = law.found from b.0.1 b.0.0 bytes b.1 in
      let t = (laws b.0.0).found b.0.1 c.0.1 c.0.0 s.1 c.1 in
      let read : List X × List ℕ = (b.0.0 ∷ c.0.0, c.0.1) in
      subst (λ (q : List X × List ℕ). (cons F G).Spelled from q.1 q.0 × IsBytes q.1) (ok_is read (xs, to) c.2)
      ((b.0.1, s.0, t.0), t.1);
  only = λ from to xs s. cons_only F G law laws from to xs s;
  one = λ from to xs s. cons_one F G law laws from to xs s;
  writes = λ xs to f. cons_writes F G law laws xs to f;
  fit = λ from to xs s. cons_fit F G law laws from to xs s;
}

pub empty_is : {X : Type 0} (xs : List X) → is_empty xs ≡ true → xs ≡ []
empty_is [] e = refl
empty_is (x ∷ xs) e = absurd cc

pub items_lawful : {K X : Type 0} (key : X → K) (F : Option K → Format X) → ((last : Option K) → Lawful (F last))
    → (last : Option K) (n : ℕ) → Lawful (items key F last n)
items_lawful key F laws last zero = nothing_lawful [] is_empty refl (λ xs e. empty_is xs e)
items_lawful key F laws last (suc n) =
    cons_lawful (F last) (λ x. items key F (Some (key x)) n) (laws last) (λ x. items_lawful key F laws (Some (key x)) n)

pub plain_lawful : {X : Type 0} (F : Format X) → Lawful F → (n : ℕ) → Lawful (plain F n)
plain_lawful F law zero = nothing_lawful [] is_empty refl (λ xs e. empty_is xs e)
plain_lawful F law (suc n) = cons_lawful F (λ x. plain F n) law (λ x. plain_lawful F law n)

pub items_length : {K X : Type 0} (key : X → K) (F : Option K
    → Format X) (last : Option K) (n : ℕ) (from to : List ℕ) (xs : List X) → (items key F last n).Spelled from to xs
    → length xs ≡ n
items_length key F last zero from to xs s = ap length s.1
items_length key F last (suc n) from to [] s = absurd s
items_length key F last (suc n) from to (x ∷ xs) s = ap suc (items_length key F (Some (key x)) n s.0 to xs s.2)

pub plain_length : {X : Type 0} (F : Format X) (n : ℕ) (from to : List ℕ) (xs : List X) → (plain F n).Spelled from to xs
    → length xs ≡ n
plain_length F zero from to xs s = ap length s.1
plain_length F (suc n) from to [] s = absurd s
plain_length F (suc n) from to (x ∷ xs) s = ap suc (plain_length F n s.0 to xs s.2)

-- the list is to be as long as its count says
pub listed_lawful : {X : Type 0} (n : ℕ) (allowed : ℕ → Bool) (F : ℕ → Format (List X)) → IsWide n
    → ((count : ℕ) → Lawful (F count)) → ((count : ℕ) (from to : List ℕ) (xs : List X) → (F count).Spelled from to xs
    → length xs ≡ count) → Lawful (listed n allowed F)
listed_lawful {X = X} n allowed F wide laws long =
    made_lawful (followed (checked (number n) allowed) F) (λ p. p.1) (λ xs. (length xs, xs))
    (followed_lawful (checked (number n) allowed) F (checked_lawful (number n) allowed (number_lawful n wide)) laws)
    (λ xs. refl)
    (λ from to p s. ap (λ (k : ℕ). let q : ℕ × List X = (k, p.1) in q) (long p.0 s.0 to p.1 s.2))

-- ---- what the laws say of spellings

pub one_spelling_of : {X : Type 0} (F : Format X) → Lawful F → OneSpelling F
one_spelling_of {X = X} F law = record {
  spelling = λ a b to x s t. law.one a to x s ∙ sym (law.one b to x t);
  value = λ from a b x y s t.
      let p = ok_is (x, a) (y, b) (sym (law.only from a x s) ∙ law.only from b y t) in
      (ap (λ (q : X × List ℕ). q.0) p, ap (λ (q : X × List ℕ). q.1) p);
  fit = λ from to x s. law.fit from to x s;
  written = λ x to f. law.writes x to f;
  read = λ from to x s. law.only from to x s;
  found = λ from to x bytes e. (law.found from to x bytes e).0;
}
