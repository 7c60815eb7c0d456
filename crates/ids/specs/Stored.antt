-- How items are kept: in a slab, with an entry for the name and the key of each. The entries stand
-- by rising name.
use Rattle.std.specs.Prelude.{◌≡◌, ℕ, List, ◌∷◌, ◌++◌, length, IsSomeAnd}
use Rattle.std.specs.List.{AllByRecursion, filter_map}
use Rattle.std.specs.declared.cmp.Ordering.TheVariants.{Less}
use Rattle.slab.specs.Slab.{Slab, get, slab_len, ContainsKey}
use Rattle.ids.specs.declared.sorted_map.Entry.{Entry}
use Rattle.ids.specs.Named.{Name, name_cmp}
use Rattle.ids.specs.Ordered.{AreInOrder}

-- the items at the keys of entries
abbrev pub items_at : {X : Type 0} → Slab X → List Entry → List X
items_at s es = filter_map (λ (e : Entry). get s e.key) es

-- each entry has an item at its key
abbrev pub AreHeld : {X : Type 0} → Slab X → List Entry → Type 0
AreHeld s es = AllByRecursion (λ (e : Entry). ContainsKey s e.key) es

-- and it has the entry's name
abbrev pub AreNamed : {X : Type 0} → (X → Name) → Slab X → List Entry → Type 0
AreNamed name s es = AllByRecursion (λ (e : Entry). IsSomeAnd (get s e.key) (λ x. name x ≡ e.name)) es

-- the entries of a slab's items in any order, and no other item is there
pub record IsFilled {X : Type 0} (name : X → Name) (s : Slab X) (es : List Entry) : Type 0 where
  pub named : AreNamed name s es
  pub whole : slab_len s ≡ length es

-- the same by rising name
pub record IsStored {X : Type 0} (name : X → Name) (s : Slab X) (es : List Entry) : Type 0 where
  pub rising : AreInOrder (λ (e : Entry). e.name) es
  pub named : AreNamed name s es
  pub whole : slab_len s ≡ length es

-- entries whose names are below one, and above it
abbrev pub AreBelow : Name → List Entry → Type 0
AreBelow n es = AllByRecursion (λ (e : Entry). name_cmp e.name n ≡ Less) es

abbrev pub AreAbove : Name → List Entry → Type 0
AreAbove n es = AllByRecursion (λ (e : Entry). name_cmp n e.name ≡ Less) es

-- the entry of a name stands at a place and has a key
pub record IsFound (n : Name) (es : List Entry) (place key : ℕ) : Type 0 where
  pub before : List Entry
  pub entry : Entry
  pub after : List Entry
  pub parts : es ≡ before ++ entry ∷ after
  pub at : length before ≡ place
  pub key_is : entry.key ≡ key
  pub name_is : entry.name ≡ n
  pub below : AreBelow n before
  pub above : AreAbove n after

-- no entry has a name; one would stand at a place
pub record IsMissing (n : Name) (es : List Entry) (place : ℕ) : Type 0 where
  pub before : List Entry
  pub after : List Entry
  pub parts : es ≡ before ++ after
  pub at : length before ≡ place
  pub below : AreBelow n before
  pub above : AreAbove n after
