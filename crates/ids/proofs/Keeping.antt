-- Items in a slab, each with an entry for its name and key, as the list of the items.
use Rattle.std.proofs.Common.{◌≡◌, ◌≢◌, ℕ, zero, suc, ◌+◌, Bool, true, MutBor, List, [], ◌∷◌, ◌++◌, map, length, Option, Some, None, is_some, cond, refl, sym, ap, subst, ◌∙◌, Less, arith, length-append, get_or}
use Rattle.std.specs.Option.{IsSome, IsSomeAnd, option_map}
use Rattle.std.specs.List.{AllByRecursion, cons_option, insert, remove, count_by}
use Rattle.std.specs.List.Sorted.{IsStrictlySortedBy}
use Rattle.std.proofs.lemmas.List.Elements.{filter_map-append}
use Rattle.std.proofs.lemmas.List.Sums.{sum_by-set, sum_by-cons}
use Rattle.slab.specs.Slab.{Slab, get, slab_len, ContainsKey, Updates, with_value, RetainsFrom}
use Rattle.slab.proofs.SlabLemmas.{Updates-with_value, ContainsKey-within}
use Rattle.ids.specs.declared.sorted_map.Entry.{Entry}
use Rattle.ids.specs.Named.{Name, name_cmp, item_in, put_in, without_in}
use Rattle.ids.specs.Ordered.{AreInOrder}
use Rattle.ids.specs.Stored.{items_at, AreHeld, AreNamed, IsFilled, IsStored, AreBelow, AreAbove, IsFound, IsMissing}
use Rattle.ids.proofs.NameOrder.{equal_to_itself}
use Rattle.ids.proofs.Halving.{name_of}
use Rattle.ids.proofs.Parts as parts

abbrev Apart : ℕ → List Entry → Type 0
Apart key es = AllByRecursion (λ (e : Entry). e.key ≢ key) es

module _ {X : Type 0} where
  -- an entry with an item at its key
  pub items_cons : (s : Slab X) (e : Entry) (es : List Entry) (x : X) → get s e.key ≡ Some x
      → items_at s (e ∷ es) ≡ x ∷ items_at s es
  items_cons s e es x is = ap (λ o. cons_option o (items_at s es)) is

  pub items_append : (s : Slab X) (b a : List Entry) → items_at s (b ++ a) ≡ items_at s b ++ items_at s a
  items_append s b a = filter_map-append (λ (e : Entry). get s e.key) b a

  pub items_split : (s : Slab X) (b : List Entry) (e : Entry) (a : List Entry) (x : X) → get s e.key ≡ Some x
      → items_at s (b ++ e ∷ a) ≡ items_at s b ++ x ∷ items_at s a
  items_split s b e a x is = items_append s b (e ∷ a) ∙ ap (λ ys. items_at s b ++ ys) (items_cons s e a x is)

  abbrev one : Option X → ℕ
  one o = cond (is_some o) 1 0

  one_more : (o : Option X) (xs : List X) (n : ℕ) → IsSome o → length xs ≡ n → length (cons_option o xs) ≡ n + 1
  one_more None xs n some h = absurd (cc)
  one_more (Some x) xs n some h = omega arith

  -- there are as many items as entries
  pub items_length : (s : Slab X) (es : List Entry) → AreHeld s es → length (items_at s es) ≡ length es
  items_length s [] h = refl
  items_length s (e ∷ es) h = let more =
      one_more (get s e.key) (items_at s es) (length es) h.0 (items_length s es h.1) in omega arith

  abbrev Agree : Slab X → Slab X → List Entry → Type 0
  Agree s t es = AllByRecursion (λ (e : Entry). get t e.key ≡ get s e.key) es

module _ {X : Type 0} (name : X → Name) where
  held_one : (o : Option X) (n : Name) → IsSomeAnd o (λ x. name x ≡ n) → IsSome o
  held_one None n h = absurd h
  held_one (Some x) n h = refl

  pub held : (s : Slab X) (es : List Entry) → AreNamed name s es → AreHeld s es
  held s [] h = tt
  held s (e ∷ es) h = (held_one (get s e.key) e.name h.0, held s es h.1)

  names_one : (P : Name → Type 0) (o : Option X) (n : Name) (xs : List X) → IsSomeAnd o (λ x. name x ≡ n) → P n
      → AllByRecursion (λ x. P (name x)) xs → AllByRecursion (λ x. P (name x)) (cons_option o xs)
  names_one P None n xs h p rest = absurd h
  names_one P (Some x) n xs h p rest = (rw h p, rest)

  -- what holds of the names of entries holds of the items'
  pub names_all : (P : Name → Type 0) (s : Slab X) (es : List Entry) → AreNamed name s es
      → AllByRecursion (λ (e : Entry). P e.name) es → AllByRecursion (λ x. P (name x)) (items_at s es)
  names_all P s [] h p = tt
  names_all P s (e ∷ es) h p = names_one P (get s e.key) e.name (items_at s es) h.0 p.0 (names_all P s es h.1 p.1)

  list_one : (o : Option X) (n : Name) (xs : List X) (ns : List Name) → IsSomeAnd o (λ x. name x ≡ n) → map name xs ≡ ns
      → map name (cons_option o xs) ≡ n ∷ ns
  list_one None n xs ns h rest = absurd h
  list_one (Some x) n xs ns h rest = ap (λ m. m ∷ map name xs) h ∙ ap (λ ms. n ∷ ms) rest

  pub names_are : (s : Slab X) (es : List Entry) → AreNamed name s es → map name (items_at s es) ≡ map name_of es
  names_are s [] h = refl
  names_are s (e ∷ es) h = list_one (get s e.key) e.name (items_at s es) (map name_of es) h.0 (names_are s es h.1)

  -- the items stand by rising name
  pub items_rise : (s : Slab X) (es : List Entry) → IsStored name s es → AreInOrder name (items_at s es)
  items_rise s es stored = rw (names_are s es stored.named) stored.rising

  -- slabs that agree at the keys of entries
  same_items : (s t : Slab X) (es : List Entry) → Agree s t es → items_at t es ≡ items_at s es
  same_items s t [] h = refl
  same_items s t (e ∷ es) h = ap (λ o. cons_option o (items_at t es)) h.0
      ∙ ap (cons_option (get s e.key)) (same_items s t es h.1)

  same_named : (s t : Slab X) (es : List Entry) → Agree s t es → AreNamed name s es → AreNamed name t es
  same_named s t [] h k = tt
  same_named s t (e ∷ es) h k = (rw h.0 k.0, same_named s t es h.1 k.1)

  agree : (s t : Slab X) (key : ℕ) (slot : Option X) → Updates s t key slot → (es : List Entry) → Apart key es
      → Agree s t es
  agree s t key slot u [] h = tt
  agree s t key slot u (e ∷ es) h = (u.others e.key h.0, agree s t key slot u es h.1)

  -- entries of other names have other keys
  apart_one : (s : Slab X) (key : ℕ) (x : X) (e : Entry) → get s key ≡ Some x → (name x ≡ e.name → ⊥)
      → IsSomeAnd (get s e.key) (λ y. name y ≡ e.name) → e.key ≢ key
  apart_one s key x e is other h same =
      let at : get s e.key ≡ Some x = ap (get s) same ∙ is in
      other (rw at at h)

  apart_below : (s : Slab X) (key : ℕ) (x : X) (n : Name) → get s key ≡ Some x → name x ≡ n → (es : List Entry)
      → AreNamed name s es → AreBelow n es → Apart key es
  apart_below s key x n is named [] h k = tt
  apart_below s key x n is named (e ∷ es) h k = (
    apart_one s key x e is (λ same. let equal = equal_to_itself n in let less : name_cmp n n ≡ Less =
        ap (λ m. name_cmp m n) (sym named ∙ same) ∙ k.0 in cc) h.0,
    apart_below s key x n is named es h.1 k.1,
  )

  apart_above : (s : Slab X) (key : ℕ) (x : X) (n : Name) → get s key ≡ Some x → name x ≡ n → (es : List Entry)
      → AreNamed name s es → AreAbove n es → Apart key es
  apart_above s key x n is named [] h k = tt
  apart_above s key x n is named (e ∷ es) h k = (
    apart_one s key x e is (λ same. let equal = equal_to_itself n in let less : name_cmp n n ≡ Less =
        ap (λ m. name_cmp n m) (sym named ∙ same) ∙ k.0 in cc) h.0,
    apart_above s key x n is named es h.1 k.1,
  )

  vacant_one : (s : Slab X) (key : ℕ) (e : Entry) → get s key ≡ None → IsSomeAnd (get s e.key) (λ y. name y ≡ e.name)
      → e.key ≢ key
  vacant_one s key e is h same =
      let at : get s e.key ≡ None = ap (get s) same ∙ is in
      rw at at h

  apart_vacant : (s : Slab X) (key : ℕ) → get s key ≡ None → (es : List Entry) → AreNamed name s es → Apart key es
  apart_vacant s key is [] h = tt
  apart_vacant s key is (e ∷ es) h = (vacant_one s key e is h.0, apart_vacant s key is es h.1)

  -- the item of an entry
  pub record IsItem (s : Slab X) (es : List Entry) (n : Name) (key : ℕ) : Type 0 where
    pub x : X
    pub is : get s key ≡ Some x
    pub named : name x ≡ n
    pub found : item_in name n (items_at s es) ≡ Some x

  some_item : (o : Option X) (n : Name) → IsSomeAnd o (λ x. name x ≡ n) → (x : X) × (o ≡ Some x) × (name x ≡ n)
  some_item None n h = absurd h
  some_item (Some x) n h = (x, refl, h)

  module _ (n : Name) (s : Slab X) (es : List Entry) (place key : ℕ) (stored : IsStored name s es)
      (f : IsFound n es place key) where
    pub item_of : IsItem s es n key
    item_of =
        let all : AreNamed name s (f.before ++ f.entry ∷ f.after) = rw f.parts at stored.named in
        let back = parts.of_back (λ (e : Entry). IsSomeAnd (get s e.key) (λ x. name x ≡ e.name)) f.before
        (f.entry ∷ f.after) all in
        let front = parts.of_front (λ (e : Entry). IsSomeAnd (get s e.key) (λ x. name x ≡ e.name)) f.before
        (f.entry ∷ f.after) all in
        let item = some_item (get s f.entry.key) f.entry.name back.0 in
        let named : name item.0 ≡ n = item.2 ∙ f.name_is in
        record {
          x = item.0;
          is = ap (get s) (sym f.key_is) ∙ item.1;
          named = named;
          found = ap (item_in name n) (ap (items_at s) f.parts ∙ items_split s f.before f.entry f.after item.0 item.1)
              ∙ parts.found_at name n (items_at s f.before) item.0 (items_at s f.after)
              (names_all (λ m. name_cmp m n ≡ Less) s f.before front f.below) named;
        }

  pub missing : (n : Name) (s : Slab X) (es : List Entry) (place : ℕ) → IsStored name s es → IsMissing n es place
      → item_in name n (items_at s es) ≡ None
  missing n s es place stored f =
      let all : AreNamed name s (f.before ++ f.after) = rw f.parts at stored.named in
      let back = parts.of_back (λ (e : Entry). IsSomeAnd (get s e.key) (λ x. name x ≡ e.name)) f.before f.after all in
      let front = parts.of_front (λ (e : Entry). IsSomeAnd (get s e.key) (λ x. name x ≡ e.name)) f.before f.after all in
      ap (item_in name n) (ap (items_at s) f.parts ∙ items_append s f.before f.after)
      ∙ parts.none_at name n (items_at s f.before) (items_at s f.after)
      (names_all (λ m. name_cmp m n ≡ Less) s f.before front f.below)
      (names_all (λ m. name_cmp n m ≡ Less) s f.after back f.above)

  pub missing_stays : (n : Name) (s : Slab X) (es : List Entry) (place : ℕ) → IsStored name s es → IsMissing n es place
      → without_in name n (items_at s es) ≡ items_at s es
  missing_stays n s es place stored f =
      let all : AreNamed name s (f.before ++ f.after) = rw f.parts at stored.named in
      let back = parts.of_back (λ (e : Entry). IsSomeAnd (get s e.key) (λ x. name x ≡ e.name)) f.before f.after all in
      let front = parts.of_front (λ (e : Entry). IsSomeAnd (get s e.key) (λ x. name x ≡ e.name)) f.before f.after all in
      let split : items_at s es ≡ items_at s f.before ++ items_at s f.after =
      ap (items_at s) f.parts ∙ items_append s f.before f.after in
      ap (without_in name n) split
      ∙ parts.without_none name n (items_at s f.before) (items_at s f.after)
      (names_all (λ m. name_cmp m n ≡ Less) s f.before front f.below)
      (names_all (λ m. name_cmp n m ≡ Less) s f.after back f.above)
      ∙ sym split

  -- a slab and its entries are seen as a list
  pub record Keeps (s : Slab X) (es : List Entry) (xs : List X) : Type 0 where
    pub stored : IsStored name s es
    pub list : items_at s es ≡ xs

  len_with_value : (s : Slab X) (key : ℕ) (x y : X) → get s key ≡ Some x → slab_len (with_value s key y) ≡ slab_len s
  len_with_value s key x y is =
      let holds : ContainsKey s key = rw is refl in
      let within = ContainsKey-within s key holds in
      let sums = sum_by-set one s.slots key (Some y) None within in
      let counted : one (get s key) ≡ 1 = ap one is in
      omega arith

  agree_slots : (s t : Slab X) (es : List Entry) → t.slots ≡ s.slots → Agree s t es
  agree_slots s t [] slots = tt
  agree_slots s t (e ∷ es) slots = (ap (λ os. get_or os e.key None) slots, agree_slots s t es slots)

  -- room for more
  pub after_room : (s t : Slab X) (es : List Entry) → t.slots ≡ s.slots → IsStored name s es
      → Keeps t es (items_at s es)
  after_room s t es slots stored =
      let same = agree_slots s t es slots in
      record {
        stored = record {
          rising = stored.rising;
          named = same_named s t es same stored.named;
          whole = ap (count_by is_some) slots ∙ stored.whole;
        };
        list = same_items s t es same;
      }

  -- an item in the place of one of the same name
  pub after_over : (n : Name) (s : Slab X) (es : List Entry) (place key : ℕ) (y : X) → IsStored name s es
      → IsFound n es place key → name y ≡ n → Keeps (with_value s key y) es (put_in name y (items_at s es))
  after_over n s es place key y stored f named =
      let all : AreNamed name s (f.before ++ f.entry ∷ f.after) = rw f.parts at stored.named in
      let back = parts.of_back (λ (e : Entry). IsSomeAnd (get s e.key) (λ x. name x ≡ e.name)) f.before
      (f.entry ∷ f.after) all in
      let front = parts.of_front (λ (e : Entry). IsSomeAnd (get s e.key) (λ x. name x ≡ e.name)) f.before
      (f.entry ∷ f.after) all in
      let item = item_of n s es place key stored f in
      let holds : ContainsKey s key = rw item.is refl in
      let t = with_value s key y in
      let u : Updates s t key (Some y) = Updates-with_value s key y holds in
      let agree_front = agree s t key (Some y) u f.before
      (apart_below s key item.x n item.is item.named f.before front f.below) in
      let agree_back = agree s t key (Some y) u f.after
      (apart_above s key item.x n item.is item.named f.after back.1 f.above) in
      let here : get t f.entry.key ≡ Some y = ap (get t) f.key_is ∙ u.changed in
      let was : get s f.entry.key ≡ Some item.x = ap (get s) f.key_is ∙ item.is in
      let own : IsSomeAnd (get t f.entry.key) (λ x. name x ≡ f.entry.name) = rw here (named ∙ sym f.name_is) in
      let below : AllByRecursion (λ x. name_cmp (name x) (name y) ≡ Less) (items_at s f.before) =
      rw named (names_all (λ m. name_cmp m n ≡ Less) s f.before front f.below) in
      record {
        stored = record {
          rising = stored.rising;
          named = rw f.parts (parts.of_both (λ (e : Entry). IsSomeAnd (get t e.key) (λ x. name x ≡ e.name)) f.before
              (f.entry ∷ f.after) (same_named s t f.before agree_front front)
              (own, same_named s t f.after agree_back back.1));
          whole = len_with_value s key item.x y item.is ∙ stored.whole;
        };
        list = ap (items_at t) f.parts
            ∙ items_split t f.before f.entry f.after y here
            ∙ ap (λ ys. ys ++ y ∷ items_at t f.after) (same_items s t f.before agree_front)
            ∙ ap (λ ys. items_at s f.before ++ y ∷ ys) (same_items s t f.after agree_back)
            ∙ sym (parts.put_over name y (items_at s f.before) item.x (items_at s f.after) below (item.named
            ∙ sym named))
            ∙ ap (put_in name y) (sym (ap (items_at s) f.parts ∙ items_split s f.before f.entry f.after item.x was));
      }

  -- an item of a name that is missing
  pub after_put : (n : Name) (s t : Slab X) (es : List Entry) (place key : ℕ) (y : X) → IsStored name s es
      → IsMissing n es place → name y ≡ n → get s key ≡ None → Updates s t key (Some y) → slab_len t ≡ slab_len s + 1
      → Keeps t (insert es place (record { name = n; key = key })) (put_in name y (items_at s es))
  after_put n s t es place key y stored f named vacant u more =
      let e : Entry = record { name = n; key = key } in
      let all : AreNamed name s (f.before ++ f.after) = rw f.parts at stored.named in
      let back = parts.of_back (λ (e : Entry). IsSomeAnd (get s e.key) (λ x. name x ≡ e.name)) f.before f.after all in
      let front = parts.of_front (λ (e : Entry). IsSomeAnd (get s e.key) (λ x. name x ≡ e.name)) f.before f.after all in
      let agree_front = agree s t key (Some y) u f.before (apart_vacant s key vacant f.before front) in
      let agree_back = agree s t key (Some y) u f.after (apart_vacant s key vacant f.after back) in
      let own : IsSomeAnd (get t key) (λ x. name x ≡ n) = rw u.changed named in
      let rises : AreInOrder name_of (f.before ++ f.after) = rw f.parts at stored.rising in
      let inserted : insert es place e ≡ f.before ++ e ∷ f.after =
      ap (λ ys. insert ys place e) f.parts ∙ ap (λ k. insert (f.before ++ f.after) k e) (sym f.at)
      ∙ parts.insert_between f.before f.after e in
      let below : AllByRecursion (λ x. name_cmp (name x) (name y) ≡ Less) (items_at s f.before) =
      rw named (names_all (λ m. name_cmp m n ≡ Less) s f.before front f.below) in
      let above : AllByRecursion (λ x. name_cmp (name y) (name x) ≡ Less) (items_at s f.after) =
      rw named (names_all (λ m. name_cmp n m ≡ Less) s f.after back f.above) in
      let count : length (f.before ++ e ∷ f.after) ≡ length es + 1 = let a =
      length-append f.before (e ∷ f.after) in let b = length-append f.before f.after in let c =
      ap length f.parts in omega arith in
      record {
        stored = record {
          rising = rw inserted (parts.rising_with name_of f.before e f.after rises f.below f.above);
          named = rw inserted (parts.of_both (λ (e : Entry). IsSomeAnd (get t e.key) (λ x. name x ≡ e.name)) f.before
              (e ∷ f.after) (same_named s t f.before agree_front front) (own, same_named s t f.after agree_back back));
          whole = rw inserted (let w = stored.whole in omega arith);
        };
        list = ap (items_at t) inserted
            ∙ items_split t f.before e f.after y u.changed
            ∙ ap (λ ys. ys ++ y ∷ items_at t f.after) (same_items s t f.before agree_front)
            ∙ ap (λ ys. items_at s f.before ++ y ∷ ys) (same_items s t f.after agree_back)
            ∙ sym (parts.put_between name y (items_at s f.before) (items_at s f.after) below above)
            ∙ ap (put_in name y) (sym (ap (items_at s) f.parts ∙ items_append s f.before f.after));
      }

  -- an item behind the others
  pub record Pushes (s : Slab X) (es : List Entry) (xs : List X) : Type 0 where
    pub filled : IsFilled name s es
    pub list : items_at s es ≡ xs

  pub after_push : (n : Name) (s t : Slab X) (es : List Entry) (key : ℕ) (y : X) → IsFilled name s es → name y ≡ n
      → get s key ≡ None → Updates s t key (Some y) → slab_len t ≡ slab_len s + 1
      → Pushes t (es ++ record { name = n; key = key } ∷ []) (items_at s es ++ y ∷ [])
  after_push n s t es key y filled named vacant u more =
      let e : Entry = record { name = n; key = key } in
      let same = agree s t key (Some y) u es (apart_vacant s key vacant es filled.named) in
      let own : IsSomeAnd (get t key) (λ x. name x ≡ n) = rw u.changed named in
      record {
        filled = record {
          named = parts.of_both (λ (e : Entry). IsSomeAnd (get t e.key) (λ x. name x ≡ e.name)) es (e ∷ [])
              (same_named s t es same filled.named) (own, tt);
          whole = let w = filled.whole in let l = length-append es (e ∷ []) in omega arith;
        };
        list = items_split t es e [] y u.changed ∙ ap (λ ys. ys ++ y ∷ []) (same_items s t es same);
      }

  -- items that stand by rising name have entries that do
  pub stored_from : (s : Slab X) (es : List Entry) (xs : List X) → IsFilled name s es → items_at s es ≡ xs
      → AreInOrder name xs → IsStored name s es
  stored_from s es xs filled list rises =
      let rising : AreInOrder name (items_at s es) = rw list rises in
      record { rising = rw (names_are s es filled.named) at rising; named = filled.named; whole = filled.whole }

  -- an item taken away
  pub after_take : (n : Name) (s t : Slab X) (es : List Entry) (place key : ℕ) → IsStored name s es
      → IsFound n es place key → Updates s t key None → slab_len t + 1 ≡ slab_len s
      → Keeps t (remove es place) (without_in name n (items_at s es))
  after_take n s t es place key stored f u less =
      let all : AreNamed name s (f.before ++ f.entry ∷ f.after) = rw f.parts at stored.named in
      let back = parts.of_back (λ (e : Entry). IsSomeAnd (get s e.key) (λ x. name x ≡ e.name)) f.before
      (f.entry ∷ f.after) all in
      let front = parts.of_front (λ (e : Entry). IsSomeAnd (get s e.key) (λ x. name x ≡ e.name)) f.before
      (f.entry ∷ f.after) all in
      let item = item_of n s es place key stored f in
      let agree_front = agree s t key None u f.before
      (apart_below s key item.x n item.is item.named f.before front f.below) in
      let agree_back = agree s t key None u f.after
      (apart_above s key item.x n item.is item.named f.after back.1 f.above) in
      let was : get s f.entry.key ≡ Some item.x = ap (get s) f.key_is ∙ item.is in
      let rises : AreInOrder name_of (f.before ++ f.entry ∷ f.after) = rw f.parts at stored.rising in
      let removed : remove es place ≡ f.before ++ f.after =
      ap (λ ys. remove ys place) f.parts ∙ ap (λ k. remove (f.before ++ f.entry ∷ f.after) k) (sym f.at)
      ∙ parts.remove_between f.before f.entry f.after in
      let count : length (f.before ++ f.after) + 1 ≡ length es = let a =
      length-append f.before (f.entry ∷ f.after) in let b = length-append f.before f.after in let c =
      ap length f.parts in omega arith in
      record {
        stored = record {
          rising = rw removed (parts.rising_without name_of f.before f.entry f.after rises);
          named = rw removed (parts.of_both
              (λ (e : Entry). IsSomeAnd (get t e.key) (λ x. name x ≡ e.name)) f.before f.after
              (same_named s t f.before agree_front front) (same_named s t f.after agree_back back.1));
          whole = rw removed (let w = stored.whole in omega arith);
        };
        list = ap (items_at t) removed
            ∙ items_append t f.before f.after
            ∙ ap (λ ys. ys ++ items_at t f.after) (same_items s t f.before agree_front)
            ∙ ap (λ ys. items_at s f.before ++ ys) (same_items s t f.after agree_back)
            ∙ sym (parts.without_at name n (items_at s f.before) item.x (items_at s f.after)
            (names_all (λ m. name_cmp m n ≡ Less) s f.before front f.below) item.named
            (names_all (λ m. name_cmp n m ≡ Less) s f.after back.1 f.above))
            ∙ ap (without_in name n) (sym (ap (items_at s) f.parts
            ∙ items_split s f.before f.entry f.after item.x was));
      }

-- an empty slab, and no entries
pub empty : {X : Type 0} (name : X → Name) (s : Slab X) (es : List Entry) → s.slots ≡ [] → es ≡ [] → IsStored name s es
unfolding IsStrictlySortedBy
empty name s es slots none = record { rising = rw none tt; named = rw none tt; whole = rw (none, slots) refl }

-- all items changed
module _ {X : Type 0} (name : X → Name) (change : X → X) (keeps : (x : X) → name (change x) ≡ name x) where
  slot_changed : (slots : List (Option X)) (key : ℕ)
      → get_or (map (option_map change) slots) key None ≡ option_map change (get_or slots key None)
  slot_changed [] key = refl
  slot_changed (o ∷ slots) zero = refl
  slot_changed (o ∷ slots) (suc key) = slot_changed slots key

  some_changed : (o : Option X) → one (option_map change o) ≡ one o
  some_changed None = refl
  some_changed (Some x) = refl

  count_changed : (slots : List (Option X)) → count_by is_some (map (option_map change) slots) ≡ count_by is_some slots
  count_changed [] = refl
  count_changed (o ∷ slots) =
      let same = some_changed o in
      let a = sum_by-cons one (option_map change o) (map (option_map change) slots) in
      let b = sum_by-cons one o slots in
      let rest = count_changed slots in
      omega arith

  name_changed : (o : Option X) (n : Name) → IsSomeAnd o (λ x. name x ≡ n)
      → IsSomeAnd (option_map change o) (λ x. name x ≡ n)
  name_changed None n h = absurd h
  name_changed (Some x) n h = keeps x ∙ h

  list_changed : (o : Option X) (xs : List X)
      → cons_option (option_map change o) (map change xs) ≡ map change (cons_option o xs)
  list_changed None xs = refl
  list_changed (Some x) xs = refl

  module _ (s t : Slab X) (slots : t.slots ≡ map (option_map change) s.slots) where
    at_key : (key : ℕ) → get t key ≡ option_map change (get s key)
    at_key key = ap (λ os. get_or os key None) slots ∙ slot_changed s.slots key

    named_changed : (es : List Entry) → AreNamed name s es → AreNamed name t es
    named_changed [] h = tt
    named_changed (e ∷ es) h = (rw (at_key e.key) (name_changed (get s e.key) e.name h.0), named_changed es h.1)

    items_changed : (es : List Entry) → items_at t es ≡ map change (items_at s es)
    items_changed [] = refl
    items_changed (e ∷ es) = ap (λ o. cons_option o (items_at t es)) (at_key e.key)
        ∙ ap (cons_option (option_map change (get s e.key))) (items_changed es)
        ∙ list_changed (get s e.key) (items_at s es)

    pub after_all : (es : List Entry) → IsStored name s es → Keeps name t es (map change (items_at s es))
    after_all es stored = record {
      stored = record {
        rising = stored.rising;
        named = named_changed es stored.named;
        whole = ap (count_by is_some) slots ∙ count_changed s.slots ∙ stored.whole;
      };
      list = items_changed es;
    }

-- a slab of which all items were kept, and each was changed by one closure, which stays as it was
module _ {X F : Type 0} (step : F → ℕ → MutBor X → Bool → MutBor X → F → Type 0) (change : X → X) (f : F)
    (each : (key : ℕ) (shown : MutBor X) (keep : Bool) (left : MutBor X) (next : F) → step f key shown keep left next
    → (keep ≡ true) × (left.now ≡ change shown.now) × (next ≡ f)) where
  pub all_retained : (key : ℕ) (slots kept : List (Option X)) → RetainsFrom step f key slots kept
      → kept ≡ map (option_map change) slots
  all_retained key [] kept r = r
  all_retained key (None ∷ rest) kept r = r.1 ∙ ap (λ ys. None ∷ ys) (all_retained (key + 1) rest r.0 r.2)
  all_retained key (Some old ∷ rest) kept r =
      let called = r.3 in
      let what = each key called.shown r.0 called.left r.2 called.called in
      let new : r.1 ≡ change old = sym called.leaves ∙ what.1 ∙ ap change called.shows in
      r.5
      ∙ ap (λ b. cond b (Some r.1) None ∷ r.4) what.0
      ∙ ap (λ x. Some x ∷ r.4) new
      ∙ ap (λ ys. Some (change old) ∷ ys)
      (all_retained (key + 1) rest r.4 (subst (λ g. RetainsFrom step g (key + 1) rest r.4) what.2 r.6))
