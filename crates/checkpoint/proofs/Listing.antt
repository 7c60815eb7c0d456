-- Saved values in bytes.
use Rattle.std.proofs.Common.{◌≡◌, ◌<◌, ◌≤◌, ◌+◌, ◌-◌, ◌*◌, ◌^◌, ◌++◌, ℕ, ℤ, zero, suc, Bool, true, false, cond, not, IsTrue, List, [], ◌∷◌, length, take, drop, get_or, replicate, reverse, Some, None, refl, sym, ap, subst, ◌∙◌, arith, append_assoc, length-append, length-take-le}
use Rattle.std.specs.Int.{w64, cast_signed}
use Rattle.std.specs.List.{splice}
use Rattle.std.proofs.lemmas.List.{append-nil, drop-append-le, drop-drop, drop-replicate, drop-take, drop_at, length-drop, length-replicate, length-reverse, replicate-append-replicate, reverse-reverse, length-take, take-append-drop, take-append-le, take-take, take_all, take_at}
use borrow.Rule.Slice.PartMut.{put_mid}
use Rattle.byteorder.specs.Endian.{big_bytes, big_from}
use Rattle.byteorder.specs.Numbers.{big_number-reads_back}
use Rattle.saved_values.specs.Places.{is_saved_place}
use Rattle.saved_values.specs.Saved.{IsSavedList}
use Rattle.saved_values.specs.declared.value.SavedValue.{SavedValue}
use Rattle.saved_values.proofs.Values.{rise_take}
use Rattle.checkpoint.specs.Format.{SpellsEntries, SpellsEntry}
use Rattle.checkpoint.proofs.Moved.{moved}
use Rattle.checkpoint.proofs.Splices.{splice_of}

-- # One of them is written

pub entry_built : (k n : ℕ) (steps part v b : List ℕ) → n ≡ k → part ≡ steps → length steps ≡ k → k ≤ 23 → length v ≡ 8
    → b ≡ splice (put_mid 1 n (k ∷ replicate 31 0) part) 24 32 v → b ≡ k ∷ (steps ++ (replicate (23 - k) 0 ++ v))
entry_built k n steps part v b same is long few eight built =
    let zeros : List ℕ = replicate (23 - k) 0 in
    let front : List ℕ = k ∷ (steps ++ zeros) in
    let both : replicate (31 - k) 0 ≡ zeros ++ replicate 8 0 =
    (let e : 31 - k ≡ 23 - k + 8 = omega (arith, few) in ap (λ m. replicate m 0) e
    ∙ sym (replicate-append-replicate (23 - k) 8 0)) in
    let rest : drop n (replicate 31 0) ≡ zeros ++ replicate 8 0 =
    ap (λ m. drop m (replicate 31 0)) same ∙ drop-replicate k 31 0 ∙ both in
    let shape : put_mid 1 n (k ∷ replicate 31 0) part ≡ front ++ (replicate 8 0 ++ []) =
    ap (λ (l : List ℕ). k ∷ (l ++ drop n (replicate 31 0))) is ∙ ap (λ (l : List ℕ). k ∷ (steps ++ l)) rest
    ∙ ap (λ (l : List ℕ). k ∷ l) (sym (append_assoc steps zeros (replicate 8 0)))
    ∙ ap (λ (l : List ℕ). front ++ l) (sym (append-nil (replicate 8 0))) in
    let begins : length front ≡ 24 = (let size = length-append steps zeros in let some =
    length-replicate {A = ℕ} (23 - k) 0 in omega (arith, size, some, long, few)) in
    built ∙ ap (λ (l : List ℕ). splice l 24 32 v) shape
    ∙ splice_of front (replicate 8 0) [] v 24 32 begins (omega (arith, begins))
    ∙ ap (λ (l : List ℕ). front ++ l) (append-nil v) ∙ ap (λ (l : List ℕ). k ∷ l) (append_assoc steps zeros v)

pub built_size : (k : ℕ) (steps v b : List ℕ) → length steps ≡ k → k ≤ 23 → length v ≡ 8
    → b ≡ k ∷ (steps ++ (replicate (23 - k) 0 ++ v)) → length b ≡ 32
built_size k steps v b long few eight is =
    let one = length-append steps (replicate (23 - k) 0 ++ v) in
    let two = length-append (replicate (23 - k) 0) v in
    let three = length-replicate {A = ℕ} (23 - k) 0 in
    let size = ap (λ (l : List ℕ). length l) is in
    omega (arith, one, two, three, size, long, few, eight)

-- one byte further
over : (k n : ℕ) (bytes : List ℕ) → drop (1 + k) (n ∷ bytes) ≡ drop k bytes
over k n bytes = let e : 1 + k ≡ suc k = omega arith in ap (λ m. drop m (n ∷ bytes)) e

pub built_spells : (place : List ℕ) (z : ℤ) (bits : ℕ) (b : List ℕ) → IsTrue (is_saved_place place) → length place ≤ 23
    → bits < 2 ^ 64 → cast_signed w64 bits ≡ z
    → b ≡ length place ∷ (reverse place ++ (replicate (23 - length place) 0 ++ big_bytes 8 bits))
    → SpellsEntry b (record { place = place; value = z })
built_spells place z bits b kid few fits value is =
    let k = length place in
    let zeros : List ℕ = replicate (23 - k) 0 in
    let v : List ℕ = big_bytes 8 bits in
    let long : length (reverse place) ≡ k = length-reverse place in
    let behind : drop k (reverse place ++ (zeros ++ v)) ≡ zeros ++ v = drop_at (reverse place) (zeros ++ v) k long in
    let front : List ℕ = k ∷ (reverse place ++ zeros) in
    let begins : length front ≡ 24 = (let size = length-append (reverse place) zeros in let some =
    length-replicate {A = ℕ} (23 - k) 0 in omega (arith, size, some, long, few)) in
    let whole : k ∷ (reverse place ++ (zeros ++ v)) ≡ front ++ v =
    ap (λ (l : List ℕ). k ∷ l) (sym (append_assoc (reverse place) zeros v)) in
    let last : drop 24 (k ∷ (reverse place ++ (zeros ++ v))) ≡ v =
    ap (λ (l : List ℕ). drop 24 l) whole ∙ drop_at front v 24 begins in
    let number : big_from 24 8 (k ∷ (reverse place ++ (zeros ++ v))) ≡ bits =
    sym (moved 24 8 (k ∷ (reverse place ++ (zeros ++ v)))) ∙ ap (λ (l : List ℕ). big_from 0 8 l) last
    ∙ big_number-reads_back 8 bits [] fits in
    subst (λ (l : List ℕ). SpellsEntry l (record { place = place; value = z })) (sym is) (record {
      length_at = refl;
      place = kid;
      steps = take_at (reverse place) (zeros ++ v) k long;
      unused = ap (λ (l : List ℕ). take (23 - k) l) (over k k (reverse place ++ (zeros ++ v)) ∙ behind)
          ∙ take_at zeros v (23 - k) (length-replicate {A = ℕ} (23 - k) 0);
      value_at = ap (cast_signed w64) number ∙ value;
    })

-- # All of them

thirty_two : (n : ℕ) → 32 * suc n ≡ 32 + 32 * n
thirty_two n = omega arith

further : (n : ℕ) (bytes : List ℕ) → drop (32 * suc n) bytes ≡ drop (32 * n) (drop 32 bytes)
further n bytes = ap (λ m. drop m bytes) (thirty_two n) ∙ sym (drop-drop (32 * n) 32 bytes)

-- one more behind them
pub entries_more : (bytes : List ℕ) (saved : List SavedValue) (x : SavedValue) → SpellsEntries bytes saved
    → SpellsEntry (take 32 (drop (32 * length saved) bytes)) x → SpellsEntries bytes (saved ++ x ∷ [])
entries_more bytes [] x all one = (one, tt)
entries_more bytes (y ∷ saved) x all one = (
  all.0,
  entries_more (drop 32 bytes) saved x all.1
      (subst (λ (l : List ℕ). SpellsEntry (take 32 l) x) (further (length saved) bytes) one),
)

-- no more bytes are read than theirs
pub entries_same : (a b : List ℕ) (saved : List SavedValue) → take (32 * length saved) a ≡ take (32 * length saved) b
    → SpellsEntries a saved → SpellsEntries b saved
entries_same a b [] same all = tt
entries_same a b (x ∷ saved) same all =
    let n = length saved in
    let more : take (32 + 32 * n) a ≡ take (32 + 32 * n) b =
    ap (λ m. take m a) (sym (thirty_two n)) ∙ same ∙ ap (λ m. take m b) (thirty_two n) in
    let first : take 32 a ≡ take 32 b = sym (less a) ∙ ap (λ (l : List ℕ). take 32 l) more ∙ less b in
    let rest : take (32 * n) (drop 32 a) ≡ take (32 * n) (drop 32 b) =
    sym (drop-take 32 (32 * n) a) ∙ ap (λ (l : List ℕ). drop 32 l) more ∙ drop-take 32 (32 * n) b in
    (subst (λ (l : List ℕ). SpellsEntry l x) first all.0, entries_same (drop 32 a) (drop 32 b) saved rest all.1)
  where
    less : (l : List ℕ) → take 32 (take (32 + 32 * length saved) l) ≡ take 32 l
    less l = take-take 32 (32 + 32 * length saved) l (omega arith)

-- what is known of a body into which some are written
pub record IsWritten (body first : List ℕ) (saved : List SavedValue) : Type 0 where
  pub size : length body ≡ 2111
  pub fields : take 63 body ≡ take 63 first
  pub entries : SpellsEntries (drop 63 body) saved
  pub unused : drop (63 + 32 * length saved) body ≡ replicate (32 * (64 - length saved)) 0

pub none_written : (body : List ℕ) → length body ≡ 2111 → drop 63 body ≡ replicate 2048 0 → IsWritten body body []
none_written body size zeros = record { size = size; fields = refl; entries = tt; unused = zeros }

one_more : (body first entry part : List ℕ) (saved : List SavedValue) (x : SavedValue) (n : ℕ) → n ≡ 32
    → IsWritten body first saved → length saved < 64 → part ≡ entry → length entry ≡ 32 → SpellsEntry entry x
    → IsWritten (put_mid (63 + 32 * length saved) n body part) first (saved ++ x ∷ [])
one_more body first entry part saved x n width is room same long spells =
    let i = length saved in
    let at = 63 + 32 * i in
    let front : List ℕ = take at body in
    let behind : List ℕ = drop n (drop at body) in
    let size = is.size in
    let begins : length front ≡ at = length-take-le at body (omega (arith, size, room)) in
    let shape : put_mid at n body part ≡ front ++ (entry ++ behind) =
    ap (λ (l : List ℕ). front ++ (l ++ behind)) same in
    let new : List ℕ = front ++ (entry ++ behind) in
    let more : length (saved ++ x ∷ []) ≡ i + 1 = length-append saved (x ∷ []) in
    let fields : take 63 new ≡ take 63 first =
    take-append-le 63 front (entry ++ behind) (omega (arith, begins)) ∙ take-take 63 at body (omega arith)
    ∙ is.fields in
    let rest : drop 63 new ≡ drop 63 front ++ (entry ++ behind) =
    drop-append-le 63 front (entry ++ behind) (omega (arith, begins)) in
    let mine : drop 63 front ≡ take (32 * i) (drop 63 body) = drop-take 63 (32 * i) body in
    let short : length (drop 63 front) ≡ 32 * i = (let less = length-drop 63 front in omega (arith, less, begins)) in
    let old : SpellsEntries (drop 63 new) saved =
    entries_same (drop 63 body) (drop 63 new) saved (sym mine
    ∙ sym (take_at (drop 63 front) (entry ++ behind) (32 * i) short)
    ∙ ap (λ (l : List ℕ). take (32 * i) l) (sym rest)) is.entries in
    let there : take 32 (drop (32 * i) (drop 63 new)) ≡ entry =
    ap (λ (l : List ℕ). take 32 (drop (32 * i) l)) rest
    ∙ ap (λ (l : List ℕ). take 32 l) (drop_at (drop 63 front) (entry ++ behind) (32 * i) short)
    ∙ take_at entry behind 32 long in
    let entries : SpellsEntries (drop 63 new) (saved ++ x ∷ []) =
    entries_more (drop 63 new) saved x old (subst (λ (l : List ℕ). SpellsEntry l x) (sym there) spells) in
    let left : behind ≡ replicate (32 * (64 - (i + 1))) 0 =
    ap (λ (l : List ℕ). drop n l) is.unused ∙ drop-replicate n (32 * (64 - i)) 0
    ∙ (let e : 32 * (64 - i) - n ≡ 32 * (64 - (i + 1)) = omega (arith, width, room) in ap (λ m. replicate m 0) e) in
    let over : drop (63 + 32 * (i + 1)) new ≡ behind = (
    let e : 63 + 32 * (i + 1) ≡ at + 32 = omega arith in
    ap (λ m. drop m new) e ∙ sym (drop-drop 32 at new)
    ∙ ap (λ (l : List ℕ). drop 32 l) (drop_at front (entry ++ behind) at begins) ∙ drop_at entry behind 32 long) in
    let unused : drop (63 + 32 * length (saved ++ x ∷ [])) new ≡ replicate (32 * (64 - length (saved ++ x ∷ []))) 0 =
    ap (λ m. drop (63 + 32 * m) new) more ∙ over ∙ left ∙ ap (λ m. replicate (32 * (64 - m)) 0) (sym more) in
    let total : length new ≡ 2111 = (
    let a = length-append front (entry ++ behind) in
    let b = length-append entry behind in
    let c = ap (λ (l : List ℕ). length l) left in
    let d = length-replicate {A = ℕ} (32 * (64 - (i + 1))) 0 in
    omega (arith, a, b, c, d, begins, long, room)) in
    subst (λ (l : List ℕ). IsWritten l first (saved ++ x ∷ [])) (sym shape)
    (record { size = total; fields = fields; entries = entries; unused = unused })

take_next : {X : Type 0} (i : ℕ) (xs rest : List X) (x : X) → i < length xs → drop i xs ≡ x ∷ rest
    → take (i + 1) xs ≡ take i xs ++ x ∷ []
take_next i xs rest x less is =
    let long : length (take i xs) ≡ i = length-take-le i xs (omega (arith, less)) in
    let more = length-append (take i xs) (x ∷ []) in
    ap (λ l. take (i + 1) l) (sym (take-append-drop i xs) ∙ ap (λ l. take i xs ++ l) is
    ∙ sym (append_assoc (take i xs) (x ∷ []) rest))
    ∙ take_at (take i xs ++ x ∷ []) rest (i + 1) (omega (arith, long, more))

pub one_written : (body first entry part : List ℕ) (values rest : List SavedValue) (x : SavedValue) (i n : ℕ) → n ≡ 32
    → i < length values → length values ≤ 64 → drop i values ≡ x ∷ rest → IsWritten body first (take i values)
    → part ≡ entry → length entry ≡ 32 → SpellsEntry entry x
    → IsWritten (put_mid (63 + 32 * i) n body part) first (take (i + 1) values)
one_written body first entry part values rest x i n width less few here is same long spells =
    let count : length (take i values) ≡ i = length-take-le i values (omega (arith, less)) in
    let next : take (i + 1) values ≡ take i values ++ x ∷ [] = take_next i values rest x less here in
    subst (λ (l : List SavedValue). IsWritten (put_mid (63 + 32 * i) n body part) first l) (sym next)
    (subst (λ k. IsWritten (put_mid (63 + 32 * k) n body part) first (take i values ++ x ∷ [])) count
    (one_more body first entry part (take i values) x n width is
    (omega (arith, count, less, few)) same long spells))

-- # What is read

-- zeros in place of steps that aren't there
abbrev pub zeros_from : ℕ → List ℕ
zeros_from len = take (23 - len) (drop len (replicate 23 0))

zeros_are : (len : ℕ) → zeros_from len ≡ replicate (23 - len) 0
zeros_are len = ap (λ (l : List ℕ). take (23 - len) l) (drop-replicate len 23 0)
    ∙ take_all (23 - len) (replicate (23 - len) 0) (let size =
    length-replicate {A = ℕ} (23 - len) 0 in omega (arith, size))

pub not_unused : (entry : List ℕ) (len : ℕ) (x : SavedValue) → len ≡ get_or entry 0 0
    → (take (24 - (1 + len)) (drop (1 + len) entry) ≡ zeros_from len → ⊥) → SpellsEntry entry x → ⊥
not_unused entry len x first differs is =
    let k : len ≡ length x.place = first ∙ is.length_at in
    let left : 24 - (1 + len) ≡ 23 - len = omega arith in
    let unused : take (23 - len) (drop (1 + len) entry) ≡ replicate (23 - len) 0 =
    subst (λ n. take (23 - n) (drop (1 + n) entry) ≡ replicate (23 - n) 0) (sym k) is.unused in
    differs (ap (λ n. take n (drop (1 + len) entry)) left ∙ unused ∙ sym (zeros_are len))

pub no_kid : (entry : List ℕ) (len : ℕ) (x : SavedValue) → len ≡ get_or entry 0 0
    → is_saved_place (reverse (take (len + 1 - 1) (drop 1 entry))) ≡ false → SpellsEntry entry x → ⊥
no_kid entry len x first none is =
    let k : len + 1 - 1 ≡ length x.place = (let e : len + 1 - 1 ≡ len = omega arith in e ∙ first ∙ is.length_at) in
    let place : reverse (take (len + 1 - 1) (drop 1 entry)) ≡ x.place =
    ap (λ n. reverse (take n (drop 1 entry))) k ∙ ap reverse is.steps ∙ reverse-reverse x.place in
    let no : is_saved_place x.place ≡ false = ap is_saved_place (sym place) ∙ none in
    let two : false ≡ true = sym no ∙ is.place in
    cc

chosen : {X : Type 0} (b : Bool) (p q : X) → Some p ≡ cond b (Some q) None → (b ≡ true) × (p ≡ q)
chosen true p q is = (refl, cc)
chosen false p q is = cc

pub not_chosen : {X : Type 0} (b : Bool) (q : X) → None ≡ cond b (Some q) None → b ≡ false
not_chosen true q is = cc
not_chosen false q is = refl

pub not_false : (b r : Bool) → r ≡ not b → r ≡ false → b ≡ true
not_false true r told e = refl
not_false false r told e = let two : true ≡ false = sym told ∙ e in cc

pub entry_read : (entry : List ℕ) (len : ℕ) (place : List ℕ) (v : ℤ) → len ≡ get_or entry 0 0 → len ≤ 23
    → length entry ≡ 32 → take (24 - (1 + len)) (drop (1 + len) entry) ≡ zeros_from len
    → Some place ≡ cond (is_saved_place (reverse (take (len + 1 - 1) (drop 1 entry))))
    (Some (reverse (take (len + 1 - 1) (drop 1 entry)))) None → cast_signed w64 (big_from 24 8 entry) ≡ v
    → SpellsEntry entry (record { place = place; value = v })
entry_read entry len place v first few size zeros steps value =
    let e : len + 1 - 1 ≡ len = omega arith in
    let given = chosen (is_saved_place (reverse (take (len + 1 - 1) (drop 1 entry)))) place
    (reverse (take (len + 1 - 1) (drop 1 entry))) steps in
    let is : place ≡ reverse (take len (drop 1 entry)) = given.1 ∙ ap (λ n. reverse (take n (drop 1 entry))) e in
    let rest = length-drop 1 entry in
    let k : length place ≡ len = ap length is ∙ length-reverse (take len (drop 1 entry))
    ∙ length-take-le len (drop 1 entry) (omega (arith, rest, size, few)) in
    let left : 24 - (1 + len) ≡ 23 - len = omega arith in
    let unused : take (23 - len) (drop (1 + len) entry) ≡ replicate (23 - len) 0 =
    ap (λ n. take n (drop (1 + len) entry)) (sym left) ∙ zeros ∙ zeros_are len in
    record {
      length_at = sym first ∙ sym k;
      place = ap is_saved_place given.1 ∙ given.0;
      steps = ap (λ n. take n (drop 1 entry)) k ∙ sym (ap reverse is ∙ reverse-reverse (take len (drop 1 entry)));
      unused = subst (λ n. take (23 - n) (drop (1 + n) entry) ≡ replicate (23 - n) 0) (sym k) unused;
      value_at = value;
    }

-- an entry says one thing
pub one_entry : (entry : List ℕ) (x y : SavedValue) → SpellsEntry entry x → SpellsEntry entry y → x ≡ y
one_entry entry x y a b =
    let k : length x.place ≡ length y.place = sym a.length_at ∙ b.length_at in
    let steps : reverse x.place ≡ reverse y.place = sym a.steps ∙ ap (λ n. take n (drop 1 entry)) k ∙ b.steps in
    let place : x.place ≡ y.place = sym (reverse-reverse x.place) ∙ ap reverse steps ∙ reverse-reverse y.place in
    let value : x.value ≡ y.value = sym a.value_at ∙ b.value_at in
    ap (λ (p : List ℕ). record { place = p; value = x.value }) place
    ∙ ap (λ (v : ℤ). record { place = y.place; value = v }) value

-- as many say the same
pub first_entries : (bytes : List ℕ) (saved all : List SavedValue) → SpellsEntries bytes saved → SpellsEntries bytes all
    → length saved ≤ length all → saved ≡ take (length saved) all
first_entries bytes [] all a b few = refl
first_entries bytes (x ∷ saved) [] a b few = absurd (omega (arith, few))
first_entries bytes (x ∷ saved) (y ∷ all) a b few =
    ap (λ (z : SavedValue). z ∷ saved) (one_entry (take 32 bytes) x y a.0 b.0)
    ∙ ap (λ (l : List SavedValue). y ∷ l) (first_entries (drop 32 bytes) saved all a.1 b.1 (omega (arith, few)))

pub one_list : (bytes : List ℕ) (a b : List SavedValue) → length a ≡ length b → SpellsEntries bytes a
    → SpellsEntries bytes b → a ≡ b
one_list bytes a b same x y = first_entries bytes a b x y (omega (arith, same))
    ∙ take_all (length a) b (omega (arith, same))

entry_at : (i : ℕ) (bytes : List ℕ) (all : List SavedValue) → SpellsEntries bytes all → i < length all
    → (x : SavedValue) × SpellsEntry (take 32 (drop (32 * i) bytes)) x
entry_at i bytes [] spells less = absurd (omega (arith, less))
entry_at zero bytes (x ∷ all) spells less = (x, spells.0)
entry_at (suc i) bytes (x ∷ all) spells less =
    let rest = entry_at i (drop 32 bytes) all spells.1 (omega (arith, less)) in
    (rest.0, subst (λ (l : List ℕ). SpellsEntry (take 32 l) rest.0) (sym (further i bytes)) rest.1)

-- where one says nothing
pub none_at : (i n : ℕ) (bytes : List ℕ) (all : List SavedValue) → n ≡ 32 → i < length all
    → ((x : SavedValue) → SpellsEntry (take n (drop (32 * i) bytes)) x → ⊥) → SpellsEntries bytes all → ⊥
none_at i n bytes all width less nothing spells =
    let one = entry_at i bytes all spells less in
    nothing one.0 (subst (λ m. SpellsEntry (take m (drop (32 * i) bytes)) one.0) (sym width) one.1)

list_take : (n : ℕ) (saved : List SavedValue) → IsSavedList saved → IsSavedList (take n saved)
list_take n saved list = record {
  few = (let less = length-take n saved in omega (arith, less, list.few));
  rising = rise_take n saved list.rising;
}

-- where the next one doesn't stand behind the others
pub entry_as : (bytes : List ℕ) (saved : List SavedValue) (x : SavedValue) (i n : ℕ) → n ≡ 32 → length saved ≡ i
    → SpellsEntry (take n (drop (32 * i) bytes)) x → SpellsEntry (take 32 (drop (32 * length saved) bytes)) x
entry_as bytes saved x i n width count spells =
    subst (λ k. SpellsEntry (take 32 (drop (32 * k) bytes)) x) (sym count)
    (subst (λ m. SpellsEntry (take m (drop (32 * i) bytes)) x) width spells)

pub not_rising : (bytes : List ℕ) (saved all : List SavedValue) (x : SavedValue) → SpellsEntries bytes saved
    → SpellsEntry (take 32 (drop (32 * length saved) bytes)) x → (IsSavedList (saved ++ x ∷ []) → ⊥)
    → length saved < length all → SpellsEntries bytes all → IsSavedList all → ⊥
not_rising bytes saved all x a one refused less b list =
    let more : length (saved ++ x ∷ []) ≡ length saved + 1 = length-append saved (x ∷ []) in
    let front : saved ++ x ∷ [] ≡ take (length (saved ++ x ∷ [])) all =
    first_entries bytes (saved ++ x ∷ []) all (entries_more bytes saved x a one) b (omega (arith, more, less)) in
    refused (subst IsSavedList (sym front) (list_take (length (saved ++ x ∷ [])) all list))
