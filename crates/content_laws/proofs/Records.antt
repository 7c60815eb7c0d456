-- The records of a content that is shown, by number, by grant and in lists of grants.
use Rattle.std.proofs.Common.{◌≡◌, ◌≢◌, ℕ, cond, not, List, [], ◌∷◌, map, ◌⊎◌, Option, Some, None, inl, inr, refl, sym, ap, ◌∙◌, Bool, true, false, Ordering, Less, Equal, Greater}
use Rattle.std.specs.List.{AllByRecursion}
use Rattle.std.specs.Ordering.{is_eq}
use Rattle.std.proofs.lemmas.Map.Keys.{sorted_head, sorted_tail}
use Rattle.ids.specs.Names.{Grant}
use Rattle.ids.specs.Named.{Name, name_cmp}
use Rattle.ids.specs.Naming.{name_of_grant, name_of_record}
use Rattle.ids.specs.Ordered.{AreInOrder}
use Rattle.ids.specs.declared.work.Frame.{Frame}
use Rattle.ids.specs.declared.work.Record.{Record}
use Rattle.ids.proofs.NameOrder.{exact_names}
use Rattle.frames.specs.Frames.{frame_in}
use Rattle.victim_records.specs.Records.{record_in, without_record}
use Rattle.sub_rules.specs.declared.content.Content.{Content}
use Rattle.sub_rules.proofs.Sums.{all_found, found_name, equal_to_itself}
use Rattle.sub_rules.proofs.Departures.{frame_number}
use Rattle.table_laws.specs.Tables.{◌∈◌}
use Rattle.table_laws.specs.Content.{Content as Tables}
use Rattle.table_laws.specs.Facts.{RecordOf}
use Rattle.table_laws.proofs.Lists.{same_or, some_same, none_some}
use Rattle.content_laws.specs.Shown.{ShowsNothing, Shows}
use Rattle.content_laws.specs.Moved.{IsKept, grants_of_records}
use Rattle.content_laws.proofs.Apart.{own_grant}

-- what holds of the names of items holds of an item's
pub of_names : {X : Type 0} (name : X → Name) (P : Name → Type 0) (xs : List X) → AllByRecursion P (map name xs)
    → AllByRecursion (λ x. P (name x)) xs
of_names name P [] h = tt
of_names name P (x ∷ xs) h = (h.0, of_names name P xs h.1)

-- less is not equal
less_unequal : {o : Ordering} → o ≡ Less → o ≡ Equal → ⊥
less_unequal less equal = cc

-- what is found behind an item of a list in order is found in the list
later_found : (g : Grant) (x y : Record) (records : List Record) → AreInOrder name_of_record (x ∷ records)
    → record_in g records ≡ Some y → record_in g (x ∷ records) ≡ Some y
later_found g x y records order there = by_order (name_cmp (name_of_grant g) (name_of_record x)) refl
  where
    above : name_cmp (name_of_record x) (name_of_record y) ≡ Less
    above = all_found name_of_record (λ z. name_cmp (name_of_record x) (name_of_record z) ≡ Less)
        (name_of_grant g) y records (of_names name_of_record (λ n. name_cmp (name_of_record x) n ≡ Less) records
        (sorted_head name_cmp (name_of_record x) (map name_of_record records) order)) there

    by_order : (r : Ordering) → name_cmp (name_of_grant g) (name_of_record x) ≡ r
        → cond (is_eq r) (Some x) (record_in g records) ≡ Some y
    by_order Less is = there
    by_order Greater is = there
    by_order Equal is =
        let same : name_of_record x ≡ name_of_record y =
        sym (exact_names (name_of_grant g) (name_of_record x) is)
        ∙ found_name name_of_record (name_of_grant g) y records there in
        absurd (less_unequal above (ap (name_cmp (name_of_record x)) (sym same) ∙ equal_to_itself (name_of_record x)))

-- the first is found
first_found : (x : Record) (records : List Record) → record_in x.grant (x ∷ records) ≡ Some x
first_found x records = ap (λ r. cond (is_eq r) (Some x) (record_in x.grant records))
    (equal_to_itself (name_of_record x))

-- a record of a grant that is one of a list's is found
pub record ListedRecord (records : List Record) (g : Grant) : Type 0 where
  pub listed : Record
  pub there : record_in g records ≡ Some listed

-- it is found
pub grant_listed : (g : Grant) (records : List Record) → AreInOrder name_of_record records
    → g ∈ grants_of_records records → ListedRecord records g
grant_listed g [] order listed = absurd listed
grant_listed g (x ∷ records) order (inl same) =
    record { listed = x; there = ap (λ (k : Grant). record_in k (x ∷ records)) same ∙ first_found x records }
grant_listed g (x ∷ records) order (inr listed) =
    let rest = grant_listed g records (sorted_tail name_cmp (name_of_record x) (map name_of_record records) order)
    listed in
    record { listed = rest.listed; there = later_found g x rest.listed records order rest.there }

-- a record with a number
pub record Stolen (records : List Record) (n : ℕ) : Type 0 where
  pub grant : Grant
  pub record_is : Record
  pub there : record_in grant records ≡ Some record_is
  pub number : record_is.frame ≡ n

-- no record has the number
abbrev pub NoneStolen : List Record → ℕ → Type 0
NoneStolen records n = (g : Grant) (x : Record) → record_in g records ≡ Some x → x.frame ≡ n → ⊥

-- one record more, whose number may be this one
one_more : (n : ℕ) (x : Record) (records : List Record) → AreInOrder name_of_record (x ∷ records)
    → (x.frame ≡ n) ⊎ (x.frame ≢ n) → (Stolen records n) ⊎ (NoneStolen records n)
    → (Stolen (x ∷ records) n) ⊎ (NoneStolen (x ∷ records) n)
one_more n x records order (inl same) rest =
    inl (record { grant = x.grant; record_is = x; there = first_found x records; number = same })
one_more n x records order (inr other) (inl s) =
    inl (record {
      grant = s.grant;
      record_is = s.record_is;
      there = later_found s.grant x s.record_is records order s.there;
      number = s.number;
    })
one_more n x records order (inr other) (inr none) =
    inr (λ g y there. by_test g y (is_eq (name_cmp (name_of_grant g) (name_of_record x))) there)
  where
    by_test : (g : Grant) (y : Record) (b : Bool) → cond b (Some x) (record_in g records) ≡ Some y → y.frame ≡ n → ⊥
    by_test g y true there same = let is : x ≡ y = some_same there in other (ap (λ (z : Record). z.frame) is ∙ same)
    by_test g y false there same = none g y there same

-- a number is a record's, or that of none
pub stolen_or : (n : ℕ) (records : List Record) → AreInOrder name_of_record records
    → (Stolen records n) ⊎ (NoneStolen records n)
stolen_or n [] order = inr (λ g x there same. none_some refl there)
stolen_or n (x ∷ records) order = one_more n x records order (same_or x.frame n)
    (stolen_or n records (sorted_tail name_cmp (name_of_record x) (map name_of_record records) order))

-- the number of a grant that tables show is that of its record
pub granted_there : (t : Tables) (c : Content) (n : ℕ) (k : Grant) → IsKept c → Shows t c → t.granted n ≡ Some k
    → (r : Record) × (record_in k c.records ≡ Some r) × (r.frame ≡ n)
granted_there t c n k kept shows at = by_frame (frame_in n c.frames) refl
  where
    by_record : frame_in n c.frames ≡ None → (Stolen c.records n) ⊎ (NoneStolen c.records n)
        → (r : Record) × (record_in k c.records ≡ Some r) × (r.frame ≡ n)
    by_record none (inl s) =
        let shown = shows.records s.grant s.record_is s.there in
        let grant : s.record_is.grant ≡ k = some_same (sym (rw s.number at shown.stolen) ∙ at) in
        let name : name_of_grant s.grant ≡ name_of_grant k =
        found_name name_of_record (name_of_grant s.grant) s.record_is c.records s.there ∙ ap name_of_grant grant in
        (s.record_is, rw name at s.there, s.number)
    by_record none (inr unstolen) = absurd
        (none_some (shows.unused n (record { frame = none; record_of = unstolen })).unstolen at)

    by_frame : (o : Option Frame) → frame_in n c.frames ≡ o
        → (r : Record) × (record_in k c.records ≡ Some r) × (r.frame ≡ n)
    by_frame (Some f) is = absurd (none_some (shows.frames n f is).unstolen (rw (frame_number n f c.frames is) at at))
    by_frame None is = by_record is (stolen_or n c.records kept.records)

-- a record that is found is that of tables
pub record_shown : (t : Tables) (c : Content) (g : Grant) (r : Record) → Shows t c → record_in g c.records ≡ Some r
    → RecordOf t g
record_shown t c g r shows there =
    let grant = own_grant g r c.records there in
    record { number = r.frame; is = rw grant (shows.records g r there).stolen }

-- and the other way round
pub record_there : (t : Tables) (c : Content) (g : Grant) → IsKept c → Shows t c → RecordOf t g
    → (r : Record) × (record_in g c.records ≡ Some r)
record_there t c g kept shows at = let r = granted_there t c at.number g kept shows at.is in (r.0, r.1)

-- where tables have nothing that returns, they show nothing
pub returns_bare : (t : Tables) (c : Content) → IsKept c → Shows t c → (n : ℕ) → t.returns n ≡ None → ShowsNothing t n
returns_bare t c kept shows n none = by_frame (frame_in n c.frames) refl
  where
    by_record : frame_in n c.frames ≡ None → (Stolen c.records n) ⊎ (NoneStolen c.records n) → ShowsNothing t n
    by_record no_frame (inl s) = absurd
        (none_some none (rw s.number at (shows.records s.grant s.record_is s.there).returns))
    by_record no_frame (inr unstolen) = shows.unused n (record { frame = no_frame; record_of = unstolen })

    by_frame : (o : Option Frame) → frame_in n c.frames ≡ o → ShowsNothing t n
    by_frame (Some f) is =
        let number : f.number ≡ n = sym (frame_number n f c.frames is) in
        absurd (none_some none (rw number at (shows.frames n f is).returns))
    by_frame None is = by_record is (stolen_or n c.records kept.records)

-- the grants of a content's records are those of its tables
pub listed_shown : (t : Tables) (c : Content) (k : Grant) → IsKept c → Shows t c → k ∈ grants_of_records c.records
    → RecordOf t k
listed_shown t c k kept shows listed = let x =
    grant_listed k c.records kept.records listed in record_shown t c k x.listed shows x.there

-- what is left of a list was in it
pub left_listed : (g k : Grant) (records : List Record) → k ∈ grants_of_records (without_record g records)
    → k ∈ grants_of_records records
left_listed g k [] listed = listed
left_listed g k (x ∷ records) listed =
    by_test (left_listed g k records) (not (is_eq (name_cmp (name_of_grant g) (name_of_record x)))) listed
  where
    by_test : (k ∈ grants_of_records (without_record g records) → k ∈ grants_of_records records) → (b : Bool)
        → k ∈ grants_of_records (cond b (x ∷ without_record g records) (without_record g records))
        → k ∈ grants_of_records (x ∷ records)
    by_test rest true (inl same) = inl same
    by_test rest true (inr at) = inr (rest at)
    by_test rest false at = inr (rest at)
