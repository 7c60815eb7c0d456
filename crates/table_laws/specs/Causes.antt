-- Why the content of a live sub changes, and how: what goes, what is made, and that all else stays.
use Rattle.std.specs.Prelude.{◌≡◌, ◌<◌, ◌≤◌, ℕ, ℤ, List, [], ◌∷◌, length, ◌⊎◌, Option, Some, None, slice_get}
use Rattle.ids.specs.Names.{Grant}
use Rattle.table_laws.specs.Tables.{◌∈◌, put_at}
use Rattle.table_laws.specs.Content.{Return, Whole, Local, Absent, Full, given, Content, SameWork, Fill}
use Rattle.table_laws.specs.View.{View}
use Rattle.table_laws.specs.Facts.{result_to}
use Rattle.table_laws.specs.Guards.{IsFrame}
use Rattle.table_laws.specs.Meaning.{Part, Given, Kid, begun, End, Joins, Meaning}

-- frame n, which holds numbers in all its slots, takes its turn on them, which ends so
pub record TakesTurn (m : Meaning) (c : Content) (n : ℕ) (end : End) : Type 0 where
  pub frame : IsFrame c n
  pub numbers : List ℤ
  pub holds : (j : ℕ) → c.slots n j ≡ given numbers j
  pub ends : m.ends (c.thread n) numbers ≡ Some end

-- frame n, which holds numbers in all its slots, gives a number on them: its turn sends it, or what
-- comes of its turn does
pub record GivesNumber (m : Meaning) (c : Content) (n : ℕ) (x : ℤ) : Type 0 where
  pub frame : IsFrame c n
  pub numbers : List ℤ
  pub holds : (j : ℕ) → c.slots n j ≡ given numbers j
  pub gives : m.gives (c.place n) (c.thread n) numbers ≡ Some x

-- c came to an end with that outcome, and nothing is left of it
pub record Ends (c d : Content) (o : Option ℤ) (fill : Option Fill) : Type 0 where
  pub outcome : d.outcome ≡ Some o
  pub none : (n : ℕ) → d.returns n ≡ None
  pub unrecorded : (n : ℕ) → d.granted n ≡ None
  pub bare : (n j : ℕ) → d.slots n j ≡ Absent
  pub next : d.next ≡ c.next
  pub unfilled : fill ≡ None

-- the value of number n filled slot j of f, which is a frame, and n is gone; all else stays
pub record Filled (g : Grant) (c d : Content) (n f j : ℕ) (x : ℤ) (fill : Option Fill) : Type 0 where
  pub frame : c.granted f ≡ None
  pub gone : d.returns n ≡ None
  pub ungranted : d.granted n ≡ None
  pub bare : (l : ℕ) → d.slots n l ≡ Absent
  pub kept : (k : ℕ) → (k ≡ n → ⊥) → d.returns k ≡ c.returns k
  pub granted : (k : ℕ) → (k ≡ n → ⊥) → d.granted k ≡ c.granted k
  pub slots : (k l : ℕ) → (k ≡ n → ⊥) → d.slots k l ≡ put_at c.slots f j (Full x) k l
  pub places : (k : ℕ) → d.place k ≡ c.place k
  pub threads : (k : ℕ) → d.thread k ≡ c.thread k
  pub next : d.next ≡ c.next
  pub active : d.outcome ≡ None
  pub is : fill ≡ Some (record { grant = g; frame = f; slot = j; place = c.place f; value = x })

-- the value of number n, which returned to r, came to where it is awaited: it is the outcome, or
-- fills a slot
abbrev pub Arrives : Grant → Content → Content → ℕ → Return → ℤ → Option Fill → Type 0
Arrives g c d n Whole x fill = Ends c d (Some x) fill
Arrives g c d n (Local f j) x fill = Filled g c d n f j x fill

-- number k is the kid of slot j of the successor of frame n: of thread t on numbers, at the place
-- of its hole
pub record KidAt (c d : Content) (n k j hole t : ℕ) (numbers : List ℤ) : Type 0 where
  pub above : c.next < k
  pub below : k < d.next
  pub returns : d.returns k ≡ Some (Local c.next j)
  pub place : d.place k ≡ hole ∷ c.place n
  pub thread : d.thread k ≡ t
  pub slots : (l : ℕ) → d.slots k l ≡ given numbers l

-- a number that a slot gave to its kid
pub record KidNumber (parts : List Part) (number : ℕ → ℕ) (k : ℕ) : Type 0 where
  pub slot : ℕ
  pub hole : ℕ
  pub thread : ℕ
  pub numbers : List ℤ
  pub part : slice_get parts slot ≡ Some (Kid hole thread numbers)
  pub is : k ≡ number slot

-- frame n, which returned to r, joined thread u: it is gone, the successor has the next number and
-- returns to r, and each slot that awaits a kid has one under a later number; all else stays
pub record Joined (c d : Content) (n u : ℕ) (r : Return) (parts : List Part) : Type 0 where
  pub gone : d.returns n ≡ None
  pub kept : (k : ℕ) → k < c.next → (k ≡ n → ⊥) → (d.returns k ≡ c.returns k) × SameWork c d k × (d.granted k ≡ c.granted k)
  pub ungranted : (k : ℕ) → (c.next ≤ k) ⊎ (k ≡ n) → d.granted k ≡ None
  pub places : (k : ℕ) → k < c.next → d.place k ≡ c.place k
  pub successor : d.returns c.next ≡ Some r
  pub place : d.place c.next ≡ 0 ∷ c.place n
  pub thread : d.thread c.next ≡ u
  pub slots : (j : ℕ) → d.slots c.next j ≡ begun parts j
  pub number : ℕ → ℕ
  pub kid : (j hole t : ℕ) (numbers : List ℤ) → slice_get parts j ≡ Some (Kid hole t numbers) → KidAt c d n (number j) j hole t numbers
  pub only : (k : ℕ) (s : Return) → c.next < k → d.returns k ≡ Some s → KidNumber parts number k
  pub bare : (k l : ℕ) → d.returns k ≡ None → d.slots k l ≡ Absent
  pub next : c.next < d.next
  pub active : d.outcome ≡ None

-- a part stands for another of a join at a place: it has the same kid or number, or the value of
-- that kid, which was known
abbrev pub IsValueOf : Meaning → List ℕ → ℤ → Part → Type 0
IsValueOf m place v (Given x) = x ≡ v
IsValueOf m place v (Kid hole t numbers) = m.value (hole ∷ place) ≡ Some v

abbrev pub PartStands : Meaning → List ℕ → Part → Part → Type 0
PartStands m place part (Given v) = IsValueOf m place v part
PartStands m place part (Kid hole t numbers) = part ≡ Kid hole t numbers

abbrev pub PartsStand : Meaning → List ℕ → List Part → List Part → Type 0
PartsStand m place [] [] = Unit {0}
PartsStand m place [] (x ∷ xs) = ⊥
PartsStand m place (part ∷ parts) [] = ⊥
PartsStand m place (part ∷ parts) (x ∷ xs) = PartStands m place part x × PartsStand m place parts xs

-- nothing changes, except that records may be frames again
pub record Stays (c d : Content) : Type 0 where
  pub fewer : (n : ℕ) (k : Grant) → d.granted n ≡ Some k → c.granted n ≡ Some k
  pub returns : (n : ℕ) → d.returns n ≡ c.returns n
  pub work : (n : ℕ) → SameWork c d n
  pub next : d.next ≡ c.next
  pub outcome : d.outcome ≡ c.outcome

-- why the content of a sub of g at i changes from c to d, with a fill perhaps
pub data Cause (m : Meaning) (v : View) (i : ℕ) (g : Grant) (c d : Content) (fill : Option Fill) : Type 0 where
  -- frame n gives a number; it joins, where values of its kids may be known; at a place of 1,024
  -- steps that is too deep
  sends : (n : ℕ) (x : ℤ) (from : GivesNumber m c n x) → Arrives g c d n from.frame.returns x fill → Cause m v i g c d fill
  joins : (n u : ℕ) (parts xs : List Part) (turn : TakesTurn m c n (Joins u parts)) → PartsStand m (c.place n) parts xs → length (c.place n) < 1024 → Joined c d n u turn.frame.returns xs → fill ≡ None → Cause m v i g c d fill
  is_deep : (n u : ℕ) (parts : List Part) → TakesTurn m c n (Joins u parts) → 1024 ≤ length (c.place n) → Ends c d None fill → Cause m v i g c d fill
  -- the Result of record n's grant came, with a number or too deep
  hears : (n : ℕ) (k : Grant) (r : Return) (x : ℤ) (numbers : List ℤ) → c.granted n ≡ Some k → c.returns n ≡ Some r → ((j : ℕ) → c.slots n j ≡ given numbers j) → result_to k i (Some x) ∈ v.results → Arrives g c d n r x fill → Cause m v i g c d fill
  hears_deep : (n : ℕ) (k : Grant) (r : Return) → c.granted n ≡ Some k → c.returns n ≡ Some r → result_to k i None ∈ v.results → Ends c d None fill → Cause m v i g c d fill
  -- a record is a frame again, or nothing happens, except that a Result is sent again
  redoes : Stays c d → fill ≡ None → Cause m v i g c d fill
