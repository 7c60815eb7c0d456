-- Each record is settled by its holder, at its host.
use Rattle.std.proofs.Common.{◌≡◌, ℕ, Bool, true, false, List, [], ◌∷◌, ◌++◌, cond, map, Option, Some, None, Result, Ok, Err, OnOk, IsSome, is_some, option_map, refl, sym, ap, subst, ◌∙◌, append-nil, Ordering, Less, Equal, Greater}
use Rattle.std.specs.List.{AllByRecursion, find}
use Rattle.std.specs.Ordering.{match_ordering}
use Rattle.std.proofs.lemmas.Map.Keys.{sorted_head}
use Rattle.ids.specs.Members.{resolve}
use Rattle.ids.specs.Named.{Name, changed_of, item_in, name_cmp, put_in, without_in}
use Rattle.ids.specs.Names.{Grant}
use Rattle.ids.specs.Naming.{name_of_grant, name_of_record}
use Rattle.ids.specs.Ordered.{AreInOrder}
use Rattle.ids.specs.declared.member.Member.{Member}
use Rattle.ids.specs.declared.work.Record.{Record}
use Rattle.ids.proofs.NameOrder.{exact_names}
use Rattle.victim_records.specs.Records.{put_record, record_in, renamed, with_holder, without_record}
use Rattle.sub_rules.specs.Changes.{frame_of, readied, redone, with_thief}
use Rattle.subcomputation.specs.Subs.{SubOf, has_record, host_in, name_of_sub, put_sub, sub_in, with_content}
use Rattle.subcomputation.specs.declared.sub.ReadiedOf.{ReadiedOf}
use Rattle.subcomputation.specs.Recovering.{Recovery, ◌then◌, for_each, for_some, record_settled, settle_record, settled}
use Rattle.subcomputation.proofs.Others.{equal_to_itself, found_by, put_other, without_other}
use Rattle.recovery.specs.Plans.{AreHeld, carried, carried_out, stop_of}
use Rattle.recovery.specs.declared.plan.Draft.{Draft}
use Rattle.recovery.specs.declared.plan.Hosted.{Hosted}
use Rattle.recovery.specs.declared.plan.Settled.TheVariants.{Stays}
use Rattle.recovery.specs.declared.plan.Stopped.{Stopped}
use Rattle.recovery.proofs.Hosting.{IsHosted, apart_by_order, name_of_hosted}
use Rattle.recovery.proofs.Orders.{all_both, first_found, later_found, named, names_of, none_before, order_later, put_again}
use Rattle.recovery.proofs.Standing.{Follows, IsKept, IsStep, carried_out_order, follows_more, follows_none, held_where_stands, name_of_settled, same_grant, step_anew, step_none, then_assoc, then_none}

-- ---- one record
pub settles_none : (members : List Member) (g : Grant) (s : SubOf) (subs : List SubOf) → host_in g subs ≡ Some s
    → record_in g s.content.records ≡ None → settle_record members g subs ≡ settled subs
unfolding for_some
settles_none members g s subs there none =
    ap (λ o. for_some o (λ t. for_some (record_in g t.content.records)
    (λ r. record_settled t r (resolve members r.holder))) subs) there
    ∙ ap (λ o. for_some o (λ r. record_settled s r (resolve members r.holder)) subs) none

-- a record that is there is settled by its holder
pub settles_record : (members : List Member) (g : Grant) (s : SubOf) (r : Record) (subs : List SubOf)
    → host_in g subs ≡ Some s → record_in g s.content.records ≡ Some r
    → settle_record members g subs ≡ record_settled s r (resolve members r.holder) subs
unfolding for_some
settles_record members g s r subs there some =
    ap (λ o. for_some o (λ t. for_some (record_in g t.content.records)
    (λ x. record_settled t x (resolve members x.holder))) subs) there
    ∙ ap (λ o. for_some o (λ x. record_settled s x (resolve members x.holder)) subs) some

-- the host that is known by its grant
pub record Hosts (subs : List SubOf) (h : Hosted) : Type 0 where
  pub host : SubOf
  pub there : host_in h.grant subs ≡ Some host
  pub stands : sub_in h.host subs ≡ Some host
  pub grant : h.host ≡ host.grant

-- such a host stands under its grant
pub host_of : (subs : List SubOf) (h : Hosted) → AreInOrder name_of_sub subs → IsHosted subs h → Hosts subs h
host_of subs h order hosted = by_host (host_in h.grant subs) refl hosted
  where
    by_host : (o : Option SubOf) → host_in h.grant subs ≡ o → option_map (λ (s : SubOf). s.grant) o ≡ Some h.host
        → Hosts subs h
    by_host None is at = cc
    by_host (Some s) is at =
        let same : h.host ≡ s.grant = cc in
        record {
          host = s;
          there = is;
          stands = ap (λ g. sub_in g subs) same ∙ found_by name_of_sub (has_record h.grant) s subs order is;
          grant = same;
        }

-- the record has the grant
record_grant : (g : Grant) (records : List Record) (r : Record) → record_in g records ≡ Some r → g ≡ r.grant
record_grant g records r there = same_grant g r.grant (named name_of_record (name_of_grant g) r records there)

-- a holder that stays changes nothing
same_holder : (g : Grant) (s : SubOf) (r : Record) → AreInOrder name_of_record s.content.records
    → record_in g s.content.records ≡ Some r → with_content s (with_thief r.grant r.holder s.content) ≡ s
same_holder g s r order there =
    let is : g ≡ r.grant = record_grant g s.content.records r there in
    let own : record_in r.grant s.content.records ≡ Some r = ap (λ k. record_in k s.content.records) (sym is) ∙ there in
    let records : renamed r.grant r.holder s.content.records ≡ s.content.records =
    ap (changed_of name_of_record (with_holder r.holder) s.content.records) own
    ∙ put_again name_of_record r s.content.records order own in
    ap (λ rs. with_content s (record s.content { records = rs })) records

module _ (members : List Member) (subs : List SubOf) (d e : Draft) (h : Hosted)
    (order : AreInOrder name_of_settled d.settled) (sorted : AreInOrder name_of_sub subs)
    (held : AreHeld d.settled subs) (known : Hosts (carried_out d.settled subs) h) where
  -- the host was held
  keeps_host : IsSome (sub_in known.host.grant subs)
  keeps_host = held_where_stands known.host.grant known.host d.settled subs order held
      (ap (λ g. sub_in g (carried_out d.settled subs)) (sym known.grant) ∙ known.stands)

  -- no record is there
  pub recording_none : record_in h.grant known.host.content.records ≡ None → e ≡ d
      → IsStep subs d e (settle_record members h.grant (carried_out d.settled subs))
  recording_none none same =
      subst (λ r. IsStep subs d e r) (sym
      (settles_none members h.grant known.host (carried_out d.settled subs) known.there none))
      (step_none subs d e held same)

  -- its frame is ready again
  pub recording_again : (r : Record) → record_in h.grant known.host.content.records ≡ Some r
      → resolve members r.holder ≡ None → e.settled
      ≡ put_in name_of_settled (Stays (with_content known.host (redone r known.host.content)))
      (without_in name_of_settled (name_of_grant h.host) d.settled)
      → e.stopped ≡ d.stopped ++ record { grant = h.grant; holder = r.holder } ∷ []
      → e.again ≡ d.again ++ record { grant = h.host; frame = readied (frame_of r) } ∷ []
      → IsStep subs d e (settle_record members h.grant (carried_out d.settled subs))
  recording_again r there dead put stopped again =
      let left : List SubOf = carried_out d.settled subs in
      let part : settle_record members h.grant left ≡ record_settled known.host r None left =
      settles_record members h.grant known.host r left known.there there
      ∙ ap (λ o. record_settled known.host r o left) dead in
      let stop : e.stopped ≡ d.stopped ++ map stop_of (r ∷ []) =
      stopped ∙ ap (λ g. d.stopped ++ record { grant = g; holder = r.holder } ∷ [])
      (record_grant h.grant known.host.content.records r there) in
      let ready : e.again ≡ d.again ++ record { grant = known.host.grant; frame = readied (frame_of r) } ∷ [] =
      again ∙ ap (λ g. d.again ++ record { grant = g; frame = readied (frame_of r) } ∷ []) known.grant in
      subst (λ p. IsStep subs d e p) (sym part)
      (step_anew subs d e (Stays (with_content known.host (redone r known.host.content))) (name_of_grant h.host)
      (r ∷ []) (record { grant = known.host.grant; frame = readied (frame_of r) } ∷ [])
      (ap name_of_grant known.grant) order sorted held keeps_host put stop ready)

  -- another holds it
  pub recording_heir : (r : Record) (heir : ℕ) → record_in h.grant known.host.content.records ≡ Some r
      → resolve members r.holder ≡ Some heir
      → e.settled ≡ put_in name_of_settled
      (Stays (with_content known.host (with_thief h.grant heir known.host.content)))
      (without_in name_of_settled (name_of_grant h.host) d.settled) → e.stopped ≡ d.stopped
      → e.again ≡ d.again → IsStep subs d e (settle_record members h.grant (carried_out d.settled subs))
  recording_heir r heir there is put stopped again =
      let left : List SubOf = carried_out d.settled subs in
      let part : settle_record members h.grant left ≡ record_settled known.host r (Some heir) left =
      settles_record members h.grant known.host r left known.there there
      ∙ ap (λ o. record_settled known.host r o left) is in
      let named_so : e.settled ≡ put_in name_of_settled
      (Stays (with_content known.host (with_thief r.grant heir known.host.content)))
      (without_in name_of_settled (name_of_grant h.host) d.settled) =
      put ∙ ap (λ g. put_in name_of_settled (Stays (with_content known.host (with_thief g heir known.host.content)))
      (without_in name_of_settled (name_of_grant h.host) d.settled))
      (record_grant h.grant known.host.content.records r there) in
      subst (λ p. IsStep subs d e p) (sym part)
      (step_anew subs d e (Stays (with_content known.host (with_thief r.grant heir known.host.content)))
      (name_of_grant h.host) [] [] (ap name_of_grant known.grant) order sorted held keeps_host named_so (stopped
      ∙ sym (append-nil d.stopped)) (again ∙ sym (append-nil d.again)))

  -- the same holds it
  pub recording_same : (r : Record) → AreInOrder name_of_record known.host.content.records
      → record_in h.grant known.host.content.records ≡ Some r → resolve members r.holder ≡ Some r.holder → e ≡ d
      → IsStep subs d e (settle_record members h.grant (carried_out d.settled subs))
  recording_same r rising there is same =
      let left : List SubOf = carried_out d.settled subs in
      let stands : sub_in known.host.grant left ≡ Some known.host =
      ap (λ g. sub_in g left) (sym known.grant) ∙ known.stands in
      let part : settle_record members h.grant left ≡ record_settled known.host r (Some r.holder) left =
      settles_record members h.grant known.host r left known.there there
      ∙ ap (λ o. record_settled known.host r o left) is in
      let put : put_sub (with_content known.host (with_thief r.grant r.holder known.host.content)) left ≡ left =
      ap (λ s. put_sub s left) (same_holder h.grant known.host r rising there)
      ∙ put_again name_of_sub known.host left (carried_out_order d.settled subs sorted) stands in
      subst (λ p. IsStep subs d e p) (sym (part ∙ ap settled put)) (step_none subs d e held same)

-- ---- the hosts of other records stay
differs : (n m : Name) → name_cmp n m ≡ Greater → n ≡ m → ⊥
differs n m greater same =
    let equal : name_cmp n n ≡ Equal = equal_to_itself n in
    let wrong : name_cmp n n ≡ Greater = ap (name_cmp n) same ∙ greater in
    cc

-- a subcomputation in the place of one with the same grant, which has the same of these records
host_put : (g : Grant) (s t : SubOf) (subs : List SubOf) → AreInOrder name_of_sub subs → t.grant ≡ s.grant
    → has_record g t ≡ has_record g s → sub_in s.grant subs ≡ Some s
    → option_map (λ (x : SubOf). x.grant) (host_in g (put_sub t subs))
    ≡ option_map (λ (x : SubOf). x.grant) (host_in g subs)
host_put g s t [] order grant same there = cc
host_put g s t (y ∷ ys) order grant same there =
    by_order (host_put g s t ys (order_later name_of_sub y ys order) grant same)
    (name_cmp (name_of_sub t) (name_of_sub y)) refl
  where
    name : name_of_sub t ≡ name_of_sub s
    name = ap name_of_grant grant

    grants : Option SubOf → Option Grant
    grants o = option_map (λ (x : SubOf). x.grant) o

    by_test : (b : Bool) → t.grant ≡ y.grant
        → grants (cond b (Some t) (host_in g ys)) ≡ grants (cond b (Some y) (host_in g ys))
    by_test true is = ap Some is
    by_test false is = refl

    at_later : grants (host_in g (put_sub t ys)) ≡ grants (host_in g ys) → (b : Bool)
        → grants (cond b (Some y) (host_in g (put_sub t ys))) ≡ grants (cond b (Some y) (host_in g ys))
    at_later rest true = refl
    at_later rest false = rest

    by_order : (sub_in s.grant ys ≡ Some s → grants (host_in g (put_sub t ys)) ≡ grants (host_in g ys)) → (r : Ordering)
        → name_cmp (name_of_sub t) (name_of_sub y) ≡ r
        → grants (host_in g (match_ordering r (t ∷ y ∷ ys) (t ∷ ys) (y ∷ put_sub t ys))) ≡ grants (host_in g (y ∷ ys))
    by_order rest Less is =
        let none : sub_in s.grant (y ∷ ys) ≡ None =
        ap (λ n. item_in name_of_sub n (y ∷ ys)) (sym name) ∙ none_before name_of_sub t y ys is order in
        cc
    by_order rest Equal is =
        let here : name_of_sub t ≡ name_of_sub y = exact_names (name_of_sub t) (name_of_sub y) is in
        let first : sub_in s.grant (y ∷ ys) ≡ Some y =
        ap (λ n. item_in name_of_sub n (y ∷ ys)) (sym name ∙ here) ∙ first_found name_of_sub y ys in
        let one : s ≡ y = cc in
        ap (λ b. grants (cond b (Some t) (host_in g ys))) (same ∙ ap (has_record g) one)
        ∙ by_test (has_record g y) (grant ∙ ap (λ x. x.grant) one)
    by_order rest Greater is =
        let later : sub_in s.grant ys ≡ Some s =
        sym (later_found name_of_sub (name_of_sub s) y ys
        (λ at. differs (name_of_sub t) (name_of_sub y) is (name ∙ at))) ∙ there in
        at_later (rest later) (has_record g y)

-- other records of the host stay
redone_keeps : (g : Grant) (r : Record) (s : SubOf) → (name_of_grant g ≡ name_of_record r → ⊥)
    → has_record g (with_content s (redone r s.content)) ≡ has_record g s
redone_keeps g r s other = ap is_some
    (without_other name_of_record (name_of_grant g) (name_of_record r) s.content.records other)

-- the same where another holds it
renamed_keeps : (g : Grant) (r : Record) (holder : ℕ) (s : SubOf) → (name_of_grant g ≡ name_of_record r → ⊥)
    → has_record g (with_content s (with_thief r.grant holder s.content)) ≡ has_record g s
renamed_keeps g r holder s other = ap is_some (by_record (record_in r.grant s.content.records) refl)
  where
    by_record : (o : Option Record) → record_in r.grant s.content.records ≡ o
        → record_in g (changed_of name_of_record (with_holder holder) s.content.records o)
        ≡ record_in g s.content.records
    by_record None is = refl
    by_record (Some x) is =
        let name : name_of_record r ≡ name_of_record x =
        named name_of_record (name_of_record r) x s.content.records is in
        put_other name_of_record (name_of_grant g) (with_holder holder x) s.content.records
        (λ at. other (at ∙ sym name))

-- the hosts of other records are the same after a part
hosts_stay : (members : List Member) (h : Hosted) (subs : List SubOf) (k : Hosted) → AreInOrder name_of_sub subs
    → (name_of_hosted k ≡ name_of_hosted h → ⊥) → IsHosted subs k → IsHosted (settle_record members h.grant subs).subs k
unfolding for_some
hosts_stay members h subs k order other hosted = by_host (host_in h.grant subs) refl
  where
    at_holder : (s : SubOf) (r : Record) → host_in h.grant subs ≡ Some s → record_in h.grant s.content.records ≡ Some r
        → (o : Option ℕ) → IsHosted (record_settled s r o subs).subs k
    at_holder s r there some None =
        let apart : name_of_grant k.grant ≡ name_of_record r
        → ⊥ = λ at. other (at ∙ sym (named name_of_record (name_of_grant h.grant) r s.content.records some)) in
        host_put k.grant s (with_content s (redone r s.content)) subs order refl (redone_keeps k.grant r s apart)
        (found_by name_of_sub (has_record h.grant) s subs order there) ∙ hosted
    at_holder s r there some (Some holder) =
        let apart : name_of_grant k.grant ≡ name_of_record r
        → ⊥ = λ at. other (at ∙ sym (named name_of_record (name_of_grant h.grant) r s.content.records some)) in
        host_put k.grant s (with_content s (with_thief r.grant holder s.content)) subs order refl
        (renamed_keeps k.grant r holder s apart) (found_by name_of_sub (has_record h.grant) s subs order there)
        ∙ hosted

    by_record : (s : SubOf) → host_in h.grant subs ≡ Some s → (o : Option Record)
        → record_in h.grant s.content.records ≡ o
        → IsHosted (for_some o (λ r. record_settled s r (resolve members r.holder)) subs).subs k
    by_record s there None is = hosted
    by_record s there (Some r) is = at_holder s r there is (resolve members r.holder)

    by_host : (o : Option SubOf) → host_in h.grant subs ≡ o
        → IsHosted (for_some o (λ s. for_some (record_in h.grant s.content.records)
        (λ r. record_settled s r (resolve members r.holder))) subs).subs k
    by_host None is = hosted
    by_host (Some s) is = by_record s is (record_in h.grant s.content.records) refl

-- ---- a draft that settles one record after another
abbrev pub grants_of_hosts : List Hosted → List Grant
grants_of_hosts hosts = map (λ (h : Hosted). h.grant) hosts

-- the records to come have their hosts
pub record IsRecording (members : List Member) (subs : List SubOf) (base : Draft) (all rest : List Hosted)
    (d : Draft) : Type 0 where
  pub rising : AreInOrder name_of_hosted rest
  pub so_far : Recovery
  pub follows : Follows subs base d so_far
  pub pending : AllByRecursion (IsHosted so_far.subs) rest
  pub total : so_far then for_each (settle_record members) (grants_of_hosts rest)
      ≡ for_each (settle_record members) (grants_of_hosts all) (carried_out base.settled subs)

-- before the first
pub recording_begins : (members : List Member) (subs : List SubOf) (base : Draft) (all : List Hosted)
    → AreInOrder name_of_hosted all → AreHeld base.settled subs
    → AllByRecursion (IsHosted (carried_out base.settled subs)) all → IsRecording members subs base all all base
recording_begins members subs base all rising held hosted =
    record {
      rising = rising;
      so_far = settled (carried_out base.settled subs);
      follows = follows_none subs base held;
      pending = hosted;
      total = refl;
    }

-- the next record's host, in what the draft leads to
pub next_hosted : (members : List Member) (subs : List SubOf) (base : Draft) (all : List Hosted) (h : Hosted)
    (rest : List Hosted) (d : Draft) → IsRecording members subs base all (h ∷ rest) d
    → IsHosted (carried_out d.settled subs) h
next_hosted members subs base all h rest d i = subst (λ xs. IsHosted xs h) (sym i.follows.left) i.pending.0

-- the next is settled by a step
pub next_recorded : (members : List Member) (subs : List SubOf) (base : Draft) (all : List Hosted) (h : Hosted)
    (rest : List Hosted) (d e : Draft) → AreInOrder name_of_sub subs → IsRecording members subs base all (h ∷ rest) d
    → IsStep subs d e (settle_record members h.grant (carried_out d.settled subs))
    → IsRecording members subs base all rest e
next_recorded members subs base all h rest d e sorted i step =
    let order : AreInOrder name_of_sub i.so_far.subs =
    subst (λ xs. AreInOrder name_of_sub xs) i.follows.left (carried_out_order d.settled subs sorted) in
    record {
      rising = order_later name_of_hosted h rest i.rising;
      so_far = i.so_far then settle_record members h.grant;
      follows = follows_more subs base d e i.so_far (settle_record members h.grant) i.follows
          (subst (λ xs. IsStep subs d e (settle_record members h.grant xs)) i.follows.left step);
      pending =
          all_both (λ k. name_cmp (name_of_hosted h) (name_of_hosted k) ≡ Less) (IsHosted i.so_far.subs)
          (IsHosted (settle_record members h.grant i.so_far.subs).subs)
          (λ k less hosted. hosts_stay members h i.so_far.subs k order
          (apart_by_order (name_of_hosted h) (name_of_hosted k) less) hosted)
          rest (names_of name_of_hosted (λ n. name_cmp (name_of_hosted h) n ≡ Less) rest
          (sorted_head name_cmp (name_of_hosted h) (map name_of_hosted rest) i.rising)) i.pending.1;
      total = sym (then_assoc i.so_far (settle_record members h.grant)
          (for_each (settle_record members) (grants_of_hosts rest))) ∙ i.total;
    }

-- after the last
pub recording_all : (members : List Member) (subs : List SubOf) (base : Draft) (all rest : List Hosted) (d : Draft)
    → rest ≡ [] → IsRecording members subs base all rest d
    → IsStep subs base d (for_each (settle_record members) (grants_of_hosts all) (carried_out base.settled subs))
recording_all members subs base all rest d none i =
    let same : i.so_far ≡ for_each (settle_record members) (grants_of_hosts all) (carried_out base.settled subs) =
    sym (then_none i.so_far) ∙ ap (λ xs. i.so_far then for_each (settle_record members) (grants_of_hosts xs))
    (sym none) ∙ i.total in
    subst (λ r. IsStep subs base d r) same (i.follows.left, i.follows.stopped, i.follows.again, i.follows.held)

-- ---- the calls that settle one record
pub on_ok : {T E : Type 0} {A B : Type 0} (r : Result T E) → (A → B) → OnOk r A → OnOk r B
on_ok (Ok x) f a = f a
on_ok (Err e) f a = tt

-- nothing comes of nothing
none_of : {A B : Type 0} (f : A → B) (o : Option A) → None ≡ option_map f o → o ≡ None
none_of f None is = refl
none_of f (Some x) is = cc

-- the record that is found, by its holder
record IsHeld (g : Grant) (records : List Record) (holder : ℕ) : Type 0 where
  found : Record
  there : record_in g records ≡ Some found
  same : found.holder ≡ holder

-- it is found
held_by : (g : Grant) (records : List Record) (holder : ℕ)
    → Some holder ≡ option_map (λ (r : Record). r.holder) (record_in g records) → IsHeld g records holder
held_by g records holder is = by_record (record_in g records) refl is
  where
    by_record : (o : Option Record) → record_in g records ≡ o → Some holder ≡ option_map (λ (r : Record). r.holder) o
        → IsHeld g records holder
    by_record None there at = cc
    by_record (Some r) there at = let own : holder ≡ r.holder =
        cc in record { found = r; there = there; same = sym own }

module _ (members : List Member) (subs : List SubOf) (d e : Draft) (h : Hosted)
    (order : AreInOrder name_of_settled d.settled) (sorted : AreInOrder name_of_sub subs) where
  -- what a look at the record's holder has told
  abbrev pub Holds : Option ℕ → Type 0
  Holds o = (s : SubOf) → sub_in h.host (carried_out d.settled subs) ≡ Some s
      → o ≡ option_map (λ (r : Record). r.holder) (record_in h.grant s.content.records)

  -- a step that settles the record
  abbrev pub IsRecorded : Type 0
  IsRecorded = IsStep subs d e (settle_record members h.grant (carried_out d.settled subs))

  -- its host
  known_host : IsHosted (carried_out d.settled subs) h → Hosts (carried_out d.settled subs) h
  known_host hosted = host_of (carried_out d.settled subs) h (carried_out_order d.settled subs sorted) hosted

  -- no record is there
  pub recorded_none : Holds None → e ≡ d → AreHeld d.settled subs → IsHosted (carried_out d.settled subs) h → IsRecorded
  recorded_none holds same held hosted =
      let k : Hosts (carried_out d.settled subs) h = known_host hosted in
      recording_none members subs d e h order sorted held k
      (none_of (λ (r : Record). r.holder) (record_in h.grant k.host.content.records) (holds k.host k.stands)) same

  -- its frame is ready again
  pub recorded_again : {T E : Type 0} (result : Result T E) (holder : ℕ) → Holds (Some holder)
      → resolve members holder ≡ None → ((s : SubOf) (r : Record) → sub_in h.host (carried_out d.settled subs) ≡ Some s
      → record_in h.grant s.content.records ≡ Some r
      → OnOk result ((e.settled ≡ put_in name_of_settled (Stays (with_content s (redone r s.content)))
      (without_in name_of_settled (name_of_grant h.host) d.settled))
      × (e.stopped ≡ d.stopped ++ record { grant = h.grant; holder = holder } ∷ [])
      × (e.again ≡ d.again ++ record { grant = h.host; frame = readied (frame_of r) } ∷ []))) → AreHeld d.settled subs
      → IsHosted (carried_out d.settled subs) h → OnOk result IsRecorded
  recorded_again result holder holds dead done held hosted =
      let k : Hosts (carried_out d.settled subs) h = known_host hosted in
      let r : IsHeld h.grant k.host.content.records holder =
      held_by h.grant k.host.content.records holder (holds k.host k.stands) in
      on_ok result
      (λ now. recording_again members subs d e h order sorted held k r.found r.there (ap (resolve members) r.same
      ∙ dead) now.0 (now.1 ∙ ap (λ i. d.stopped ++ record { grant = h.grant; holder = i } ∷ []) (sym r.same)) now.2)
      (done k.host r.found k.stands r.there)

  -- an heir holds it
  pub recorded_heir : {T E : Type 0} (result : Result T E) (holder heir : ℕ) → Holds (Some holder)
      → resolve members holder ≡ Some heir
      → ((s : SubOf) → sub_in h.host (carried_out d.settled subs) ≡ Some s
      → OnOk result ((e.settled ≡ put_in name_of_settled (Stays (with_content s (with_thief h.grant heir s.content)))
      (without_in name_of_settled (name_of_grant h.host) d.settled)) × (e.stopped ≡ d.stopped) × (e.again ≡ d.again)))
      → AreHeld d.settled subs → IsHosted (carried_out d.settled subs) h → OnOk result IsRecorded
  recorded_heir result holder heir holds left done held hosted =
      let k : Hosts (carried_out d.settled subs) h = known_host hosted in
      let r : IsHeld h.grant k.host.content.records holder =
      held_by h.grant k.host.content.records holder (holds k.host k.stands) in
      on_ok result
      (λ now. recording_heir members subs d e h order sorted held k r.found heir r.there (ap (resolve members) r.same
      ∙ left) now.0 now.1 now.2)
      (done k.host k.stands)

  -- the same holds it
  pub recorded_same : (holder : ℕ) → Holds (Some holder)
      → ((s : SubOf) → sub_in h.host (carried_out d.settled subs) ≡ Some s
      → AreInOrder name_of_record s.content.records) → resolve members holder ≡ Some holder → e ≡ d
      → AreHeld d.settled subs → IsHosted (carried_out d.settled subs) h → IsRecorded
  recorded_same holder holds rising lives same held hosted =
      let k : Hosts (carried_out d.settled subs) h = known_host hosted in
      let r : IsHeld h.grant k.host.content.records holder =
      held_by h.grant k.host.content.records holder (holds k.host k.stands) in
      recording_same members subs d e h order sorted held k r.found (rising k.host k.stands) r.there
      (ap (resolve members) r.same ∙ lives ∙ ap Some (sym r.same)) same
