-- The hosts of the records of the subcomputations that are left.
use Rattle.std.proofs.Common.{◌≡◌, ℕ, Bool, true, false, List, [], ◌∷◌, ◌++◌, cond, map, Option, Some, None, is_some, option_map, refl, sym, ap, subst, ◌∙◌, append-nil, Less, Equal}
use Rattle.std.specs.List.{AllByRecursion, find, flat_map}
use Rattle.std.specs.List.Sorted.{IsStrictlySortedBy}
use Rattle.std.specs.Option.{option_or}
use Rattle.std.proofs.lemmas.Grind.{flat_map-append}
use Rattle.std.proofs.lemmas.List.Concat.{flat_map-cons}
use Rattle.std.proofs.lemmas.List.Folds.{flat_map-map}
use Rattle.std.proofs.lemmas.Map.Keys.{sorted_head}
use Rattle.ids.specs.Members.{resolve}
use Rattle.ids.specs.Named.{Name, item_in, name_cmp, put_in}
use Rattle.ids.specs.Names.{Grant}
use Rattle.ids.specs.Naming.{name_of_grant, name_of_record}
use Rattle.ids.specs.Ordered.{AreInOrder}
use Rattle.ids.specs.declared.member.Member.{Member}
use Rattle.ids.specs.declared.work.Record.{Record}
use Rattle.victim_records.specs.Records.{record_in}
use Rattle.subcomputation.specs.Subs.{SubOf, grants_of_subs, has_record, host_in, name_of_sub, sub_in}
use Rattle.subcomputation.specs.Recovering.{for_each, ordered, record_grants, settle_sub, their_records}
use Rattle.subcomputation.proofs.Others.{equal_to_itself, put_other}
use Rattle.ids.proofs.Replacing.{put_is_found}
use Rattle.recovery.specs.declared.plan.Hosted.{Hosted}
use Rattle.recovery.proofs.Orders.{all_both, all_there, by_names, first_found, item_append, item_map, later_found, named, names_of, none_later, order_later, put_order, same_items}
use Rattle.recovery.proofs.Standing.{same_grant}
use Rattle.recovery.proofs.Settling.{IsLeft, left_by, left_of, left_of_all, waiting}

-- its name is that of its record
abbrev pub name_of_hosted : Hosted → Name
name_of_hosted h = name_of_grant h.grant

-- a record's grant, with its host if it has one
abbrev pub hosted_by : Grant → Option SubOf → Option Hosted
hosted_by g o = option_map (λ (s : SubOf). (record { grant = g; host = s.grant })) o

-- the same, by whether a subcomputation has the record
abbrev pub hosted_if : Grant → SubOf → Option Hosted
hosted_if g s = cond (has_record g s) (Some (record { grant = g; host = s.grant })) None

-- ---- one subcomputation after another
or_assoc : {A : Type 0} (a b c : Option A) → option_or (option_or a b) c ≡ option_or a (option_or b c)
or_assoc None b c = refl
or_assoc (Some x) b c = refl

-- nothing is added
or_none : {A : Type 0} (a : Option A) → option_or a None ≡ a
or_none None = refl
or_none (Some x) = refl

-- one more subcomputation may have the record
one_more : (g : Grant) (s : SubOf) (b : Bool) (o : Option SubOf)
    → option_or (cond b (Some (record { grant = g; host = s.grant })) None) (hosted_by g o)
    ≡ hosted_by g (cond b (Some s) o)
one_more g s true o = refl
one_more g s false o = refl

-- the hosts listed so far and those to come are all
abbrev pub IsListing : List Member → List SubOf → List SubOf → List Hosted → Type 0
IsListing members subs rest hosts =
    (g : Grant) → option_or (item_in name_of_hosted (name_of_grant g) hosts)
    (hosted_by g (host_in g (flat_map (left_by members) rest)))
    ≡ hosted_by g (host_in g (flat_map (left_by members) subs))

-- what is left of the first, and of the others
by_left : (members : List Member) (s : SubOf) (rest : List SubOf) (o : Option ℕ) → resolve members s.content.parent ≡ o
    → flat_map (left_by members) (s ∷ rest) ≡ left_of s o ++ flat_map (left_by members) rest
by_left members s rest o is = flat_map-cons (left_by members) s rest
    ∙ ap (λ p. left_of s p ++ flat_map (left_by members) rest) is

-- a subcomputation that goes hosts nothing
pub lists_none : (members : List Member) (subs : List SubOf) (s : SubOf) (rest : List SubOf) (hosts : List Hosted)
    → resolve members s.content.parent ≡ None → IsListing members subs (s ∷ rest) hosts
    → IsListing members subs rest hosts
lists_none members subs s rest hosts is listing =
    λ g. sym (ap (λ xs. option_or (item_in name_of_hosted (name_of_grant g) hosts) (hosted_by g (host_in g xs)))
    (by_left members s rest None is)) ∙ listing g

-- one that stays hosts what has no host yet
pub lists_one : (members : List Member) (subs : List SubOf) (s : SubOf) (rest : List SubOf) (before after : List Hosted)
    (host : ℕ) → resolve members s.content.parent ≡ Some host
    → ((g : Grant) → item_in name_of_hosted (name_of_grant g) after
    ≡ option_or (item_in name_of_hosted (name_of_grant g) before) (hosted_if g s))
    → IsListing members subs (s ∷ rest) before → IsListing members subs rest after
lists_one members subs s rest before after host is more listing =
    λ g.
    let others : List SubOf = flat_map (left_by members) rest in
    ap (λ o. option_or o (hosted_by g (host_in g others))) (more g)
    ∙ or_assoc (item_in name_of_hosted (name_of_grant g) before) (hosted_if g s) (hosted_by g (host_in g others))
    ∙ ap (λ o. option_or (item_in name_of_hosted (name_of_grant g) before) o)
    (one_more g (waiting host s) (has_record g s) (host_in g others))
    ∙ sym (ap (λ xs. option_or (item_in name_of_hosted (name_of_grant g) before) (hosted_by g (host_in g xs)))
    (by_left members s rest (Some host) is))
    ∙ listing g

-- ---- one record after another
-- the hosts listed so far, and a subcomputation for the records to come
abbrev pub IsAdding : SubOf → List Hosted → List Record → List Hosted → Type 0
IsAdding s first rest hosts =
    (g : Grant) → option_or (item_in name_of_hosted (name_of_grant g) hosts)
    (cond (is_some (record_in g rest)) (Some (record { grant = g; host = s.grant })) None)
    ≡ option_or (item_in name_of_hosted (name_of_grant g) first) (hosted_if g s)

-- a record whose grant has no host yet
pub adds_one : (s : SubOf) (first : List Hosted) (x : Record) (rest : List Record) (before : List Hosted)
    → item_in name_of_hosted (name_of_record x) before ≡ None → IsAdding s first (x ∷ rest) before
    → IsAdding s first rest (put_in name_of_hosted (record { grant = x.grant; host = s.grant }) before)
adds_one s first x rest before none adding =
    λ g.
    let mine : Hosted = record { grant = x.grant; host = s.grant } in
    let last : Option Hosted = cond (is_some (record_in g rest)) (Some (record { grant = g; host = s.grant })) None in
    by_names (name_of_grant g) (name_of_record x)
    (λ here.
    let is : g ≡ x.grant = same_grant g x.grant here in
    let now : item_in name_of_hosted (name_of_grant g) (put_in name_of_hosted mine before)
    ≡ Some (record { grant = g; host = s.grant }) =
    ap (λ n. item_in name_of_hosted n (put_in name_of_hosted mine before)) here
    ∙ put_is_found name_of_hosted mine before ∙ ap (λ k. Some (record { grant = k; host = s.grant })) (sym is) in
    let was : item_in name_of_hosted (name_of_grant g) before ≡ None =
    ap (λ n. item_in name_of_hosted n before) here ∙ none in
    let found : record_in g (x ∷ rest) ≡ Some x =
    ap (λ n. item_in name_of_record n (x ∷ rest)) here ∙ first_found name_of_record x rest in
    ap (λ o. option_or o last) now
    ∙ sym (ap (λ o. option_or o (cond (is_some (record_in g (x ∷ rest)))
    (Some (record { grant = g; host = s.grant })) None)) was
    ∙ ap (λ o. cond (is_some o) (Some (record { grant = g; host = s.grant })) None) found)
    ∙ adding g)
    (λ other.
    ap (λ o. option_or o last) (put_other name_of_hosted (name_of_grant g) mine before other)
    ∙ sym (ap (λ o. option_or (item_in name_of_hosted (name_of_grant g) before)
    (cond (is_some o) (Some (record { grant = g; host = s.grant })) None))
    (later_found name_of_record (name_of_grant g) x rest other))
    ∙ adding g)

-- a record whose grant has one
pub adds_none : (s : SubOf) (first : List Hosted) (x : Record) (rest : List Record) (before : List Hosted) (h : Hosted)
    → item_in name_of_hosted (name_of_record x) before ≡ Some h → IsAdding s first (x ∷ rest) before
    → IsAdding s first rest before
adds_none s first x rest before h some adding =
    λ g.
    let mine : Hosted = record { grant = g; host = s.grant } in
    by_names (name_of_grant g) (name_of_record x)
    (λ here.
    let was : item_in name_of_hosted (name_of_grant g) before ≡ Some h =
    ap (λ n. item_in name_of_hosted n before) here ∙ some in
    ap (λ o. option_or o (cond (is_some (record_in g rest)) (Some mine) None)) was
    ∙ sym (ap (λ o. option_or o (cond (is_some (record_in g (x ∷ rest))) (Some mine) None)) was)
    ∙ adding g)
    (λ other.
    sym (ap (λ o. option_or (item_in name_of_hosted (name_of_grant g) before) (cond (is_some o) (Some mine) None))
    (later_found name_of_record (name_of_grant g) x rest other))
    ∙ adding g)

-- ---- the grants of all records
abbrev pub grants_in : SubOf → List Grant
grants_in s = map (λ r. r.grant) s.content.records

-- grants stand in order
pub ordered_order : (gs : List Grant) → AreInOrder name_of_grant [] → AreInOrder name_of_grant (ordered gs)
ordered_order [] none = none
ordered_order (g ∷ gs) none = put_order name_of_grant g (ordered gs) (ordered_order gs none)

-- the same grants are among them
ordered_has : (n : Name) (gs : List Grant) → item_in name_of_grant n (ordered gs) ≡ item_in name_of_grant n gs
ordered_has n [] = refl
ordered_has n (g ∷ gs) =
    by_names n (name_of_grant g)
    (λ here. ap (λ k. item_in name_of_grant k (put_in name_of_grant g (ordered gs))) here
    ∙ put_is_found name_of_grant g (ordered gs)
    ∙ sym (ap (λ k. item_in name_of_grant k (g ∷ gs)) here ∙ first_found name_of_grant g gs))
    (λ other. put_other name_of_grant n g (ordered gs) other ∙ ordered_has n gs
    ∙ sym (later_found name_of_grant n g gs other))

-- a grant among those of records
grant_of_record : (g : Grant) (records : List Record)
    → item_in name_of_grant (name_of_grant g) (map (λ (r : Record). r.grant) records)
    ≡ cond (is_some (record_in g records)) (Some g) None
grant_of_record g records = item_map name_of_grant (λ (r : Record). r.grant) (name_of_grant g) records
    ∙ by_record (record_in g records) refl
  where
    by_record : (o : Option Record) → record_in g records ≡ o
        → option_map (λ (r : Record). r.grant) o ≡ cond (is_some o) (Some g) None
    by_record None is = refl
    by_record (Some r) is = ap Some (sym (same_grant g r.grant (named name_of_record (name_of_grant g) r records is)))

-- a grant among those of the records of all of them
grant_in_all : (g : Grant) (left : List SubOf)
    → item_in name_of_grant (name_of_grant g) (flat_map grants_in left) ≡ option_map (λ (s : SubOf). g) (host_in g left)
grant_in_all g [] = refl
grant_in_all g (s ∷ left) =
    ap (λ gs. item_in name_of_grant (name_of_grant g) gs) (flat_map-cons grants_in s left)
    ∙ item_append name_of_grant (name_of_grant g) (grants_in s) (flat_map grants_in left)
    ∙ ap (λ o. option_or o (item_in name_of_grant (name_of_grant g) (flat_map grants_in left)))
    (grant_of_record g s.content.records)
    ∙ by_test (grant_in_all g left) (has_record g s)
  where
    by_test : item_in name_of_grant (name_of_grant g) (flat_map grants_in left)
        ≡ option_map (λ (s : SubOf). g) (host_in g left) → (b : Bool)
        → option_or (cond b (Some g) None) (item_in name_of_grant (name_of_grant g) (flat_map grants_in left))
        ≡ option_map (λ (s : SubOf). g) (cond b (Some s) (host_in g left))
    by_test rest true = refl
    by_test rest false = rest

-- ---- the records of each that is left
kept_later : (s : SubOf) (o : Option ℕ) (n : Name) (xs : List SubOf) → (n ≡ name_of_sub s → ⊥)
    → item_in name_of_sub n (left_of s o ++ xs) ≡ item_in name_of_sub n xs
kept_later s None n xs other = refl
kept_later s (Some host) n xs other = later_found name_of_sub n (waiting host s) xs other

-- a name that none of them has is not among those left
none_kept : (members : List Member) (n : Name) (subs : List SubOf) → item_in name_of_sub n subs ≡ None
    → item_in name_of_sub n (flat_map (left_by members) subs) ≡ None
none_kept members n [] none = refl
none_kept members n (s ∷ rest) none =
    let kept = none_kept members n rest in
    ap (item_in name_of_sub n) (flat_map-cons (left_by members) s rest)
    ∙ by_names n (name_of_sub s)
    (λ here.
    let some : item_in name_of_sub n (s ∷ rest) ≡ Some s =
    ap (λ k. item_in name_of_sub k (s ∷ rest)) here ∙ first_found name_of_sub s rest in
    cc)
    (λ other.
    kept_later s (resolve members s.content.parent) n (flat_map (left_by members) rest) other
    ∙ kept (sym (later_found name_of_sub n s rest other) ∙ none))

-- the records of one by its name are those of what is left of it
own_records : (s : SubOf) (o : Option ℕ) (xs : List SubOf) → sub_in s.grant xs ≡ None
    → record_grants (sub_in s.grant (left_of s o ++ xs)) ≡ flat_map grants_in (left_of s o)
own_records s None xs none = ap record_grants none
own_records s (Some host) xs none = ap record_grants (first_found name_of_sub (waiting host s) xs)
    ∙ sym (append-nil (grants_in s))

-- names in order differ
pub apart_by_order : (m n : Name) → name_cmp m n ≡ Less → n ≡ m → ⊥
apart_by_order m n less same =
    let equal : name_cmp m m ≡ Equal = equal_to_itself m in
    let wrong : name_cmp m m ≡ Less = ap (name_cmp m) (sym same) ∙ less in
    cc

-- the same of each of them
each_kept : (members : List Member) (subs : List SubOf) → AreInOrder name_of_sub subs
    → AllByRecursion (λ s. record_grants (sub_in s.grant (flat_map (left_by members) subs))
    ≡ flat_map grants_in (left_by members s)) subs
each_kept members [] order = tt
each_kept members (s ∷ rest) order =
    let others : List SubOf = flat_map (left_by members) rest in
    let all : flat_map (left_by members) (s ∷ rest) ≡ left_by members s ++ others =
    flat_map-cons (left_by members) s rest in
    let none : sub_in s.grant others ≡ None =
    none_kept members (name_of_sub s) rest (none_later name_of_sub s rest order) in (
      ap (λ xs. record_grants (sub_in s.grant xs)) all ∙ own_records s (resolve members s.content.parent) others none,
      all_both (λ t. name_cmp (name_of_sub s) (name_of_sub t) ≡ Less)
          (λ t. record_grants (sub_in t.grant others) ≡ flat_map grants_in (left_by members t))
          (λ t. record_grants (sub_in t.grant (flat_map (left_by members) (s ∷ rest)))
          ≡ flat_map grants_in (left_by members t))
          (λ t less kept.
          ap (λ xs. record_grants (sub_in t.grant xs)) all
          ∙ ap record_grants (kept_later s (resolve members s.content.parent) (name_of_sub t) others
          (apart_by_order (name_of_sub s) (name_of_sub t) less))
          ∙ kept)
          rest (names_of name_of_sub (λ k. name_cmp (name_of_sub s) k ≡ Less) rest
          (sorted_head name_cmp (name_of_sub s) (map name_of_sub rest) order))
          (each_kept members rest (order_later name_of_sub s rest order)),
    )

-- lists that agree item by item
each_flat : {A B : Type 0} (f h : A → List B) (xs : List A) → AllByRecursion (λ x. f x ≡ h x) xs
    → flat_map f xs ≡ flat_map h xs
each_flat f h [] all = refl
each_flat f h (x ∷ xs) all =
    flat_map-cons f x xs ∙ ap (λ ys. ys ++ flat_map f xs) all.0 ∙ ap (λ ys. h x ++ ys) (each_flat f h xs all.1)
    ∙ sym (flat_map-cons h x xs)

-- lists of lists of lists
flat_twice : {A B C : Type 0} (f : B → List C) (h : A → List B) (xs : List A)
    → flat_map f (flat_map h xs) ≡ flat_map (λ x. flat_map f (h x)) xs
flat_twice f h [] = refl
flat_twice f h (x ∷ xs) =
    ap (flat_map f) (flat_map-cons h x xs)
    ∙ flat_map-append f (h x) (flat_map h xs)
    ∙ ap (λ ys. flat_map f (h x) ++ ys) (flat_twice f h xs)
    ∙ sym (flat_map-cons (λ y. flat_map f (h y)) x xs)

-- the records by the grants of all are the records of those that are left
all_records : (members : List Member) (subs left : List SubOf) → AreInOrder name_of_sub subs
    → left ≡ flat_map (left_by members) subs
    → flat_map (λ g. record_grants (sub_in g left)) (grants_of_subs subs) ≡ flat_map grants_in left
all_records members subs left order is =
    flat_map-map (λ g. record_grants (sub_in g left)) (λ (s : SubOf). s.grant) subs
    ∙ ap (λ xs. flat_map (λ (s : SubOf). record_grants (sub_in s.grant xs)) subs) is
    ∙ each_flat (λ (s : SubOf). record_grants (sub_in s.grant (flat_map (left_by members) subs)))
    (λ s. flat_map grants_in (left_by members s)) subs (each_kept members subs order)
    ∙ sym (flat_twice grants_in (left_by members) subs)
    ∙ sym (ap (flat_map grants_in) is)

-- ---- the hosts are those of the grants of all records, and each is the host of its record
hosts_in_order : (hosts : List Hosted) → AreInOrder name_of_hosted hosts
    → AreInOrder name_of_grant (map (λ (h : Hosted). h.grant) hosts)
hosts_in_order hosts order = subst (λ ns. IsStrictlySortedBy name_cmp ns) (map_twice hosts) order
  where
    map_twice : (xs : List Hosted) → map name_of_hosted xs ≡ map name_of_grant (map (λ (h : Hosted). h.grant) xs)
    map_twice [] = refl
    map_twice (x ∷ xs) = ap (λ ns. name_of_hosted x ∷ ns) (map_twice xs)

-- the hosts are those of all records
pub hosts_are_all : (members : List Member) (subs : List SubOf) (hosts : List Hosted) → AreInOrder name_of_sub subs
    → AreInOrder name_of_hosted hosts → AreInOrder name_of_grant [] → IsListing members subs [] hosts
    → map (λ (h : Hosted). h.grant) hosts
    ≡ their_records (grants_of_subs subs) (for_each (settle_sub members) (grants_of_subs subs) subs).subs
hosts_are_all members subs hosts order sorted none listing =
    let left : List SubOf = (for_each (settle_sub members) (grants_of_subs subs) subs).subs in
    let is : IsLeft members [] subs left = left_of_all members subs order in
    let all : flat_map (λ g. record_grants (sub_in g left)) (grants_of_subs subs) ≡ flat_map grants_in left =
    all_records members subs left order is.list in
    let grants : List Grant = flat_map (λ g. record_grants (sub_in g left)) (grants_of_subs subs) in
    same_items name_of_grant (map (λ (h : Hosted). h.grant) hosts) (ordered grants) (hosts_in_order hosts sorted)
    (ordered_order grants none)
    (λ n.
    let g : Grant = record { minter = n.0; number = n.1 } in
    item_map name_of_grant (λ (h : Hosted). h.grant) n hosts
    ∙ ap (option_map (λ (h : Hosted). h.grant)) (sym (or_none (item_in name_of_hosted n hosts)) ∙ listing g)
    ∙ twice g (host_in g (flat_map (left_by members) subs))
    ∙ ap (λ xs. option_map (λ (s : SubOf). g) (host_in g xs)) (sym is.list)
    ∙ sym (ordered_has n grants ∙ ap (item_in name_of_grant n) all ∙ grant_in_all g left))
  where
    twice : (g : Grant) (o : Option SubOf)
        → option_map (λ (h : Hosted). h.grant) (hosted_by g o) ≡ option_map (λ (s : SubOf). g) o
    twice g None = refl
    twice g (Some s) = refl

-- the host of a record is known by its grant
abbrev pub IsHosted : List SubOf → Hosted → Type 0
IsHosted left h = option_map (λ (s : SubOf). s.grant) (host_in h.grant left) ≡ Some h.host

-- each of them has its record
pub hosts_host : (members : List Member) (subs : List SubOf) (hosts : List Hosted) → AreInOrder name_of_sub subs
    → AreInOrder name_of_hosted hosts → IsListing members subs [] hosts
    → AllByRecursion (IsHosted (for_each (settle_sub members) (grants_of_subs subs) subs).subs) hosts
hosts_host members subs hosts order sorted listing =
    let left : List SubOf = (for_each (settle_sub members) (grants_of_subs subs) subs).subs in
    let is : IsLeft members [] subs left = left_of_all members subs order in
    all_both (λ h. item_in name_of_hosted (name_of_hosted h) hosts ≡ Some h) (λ h. Unit {0}) (IsHosted left)
    (λ h there u.
    by_host h (host_in h.grant left)
    (sym there ∙ sym (or_none (item_in name_of_hosted (name_of_hosted h) hosts)) ∙ listing h.grant
    ∙ ap (λ xs. hosted_by h.grant (host_in h.grant xs)) (sym is.list)))
    hosts (all_there name_of_hosted hosts sorted) (nothing hosts)
  where
    by_host : (h : Hosted) (o : Option SubOf) → Some h ≡ hosted_by h.grant o
        → option_map (λ (s : SubOf). s.grant) o ≡ Some h.host
    by_host h None is = cc
    by_host h (Some s) is = let same : h ≡ record { grant = h.grant; host = s.grant } =
        cc in ap (λ k. Some k.host) (sym same)

    nothing : (xs : List Hosted) → AllByRecursion (λ h. Unit {0}) xs
    nothing [] = tt
    nothing (x ∷ xs) = (tt, nothing xs)
