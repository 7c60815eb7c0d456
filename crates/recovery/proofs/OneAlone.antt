-- What comes of a subcomputation that recovers alone.
use Rattle.std.proofs.Common.{◌≡◌, ℕ, ◌+◌, Bool, true, false, List, [], ◌∷◌, ◌++◌, cond, map, Option, Some, None, IfSome, is_some, refl, sym, ap, subst, ◌∙◌, Less, arith}
use Rattle.std.specs.List.{AllByRecursion, find}
use Rattle.std.specs.List.Sorted.{IsStrictlySortedBy}
use Rattle.std.proofs.lemmas.List.Sums.{sum_by-append}
use Rattle.ids.specs.Members.{resolve}
use Rattle.ids.specs.Named.{Name, item_in, name_cmp}
use Rattle.ids.specs.Names.{Grant}
use Rattle.ids.specs.Naming.{name_of_grant}
use Rattle.ids.specs.declared.member.Member.{Member}
use Rattle.ids.specs.declared.work.Record.{Record}
use Rattle.task_tree.specs.declared.tree.Program.{Program}
use Rattle.victim_records.specs.Records.{record_in}
use Rattle.sub_rules.specs.Changes.{readied_in, redone, with_parent, with_thief}
use Rattle.sub_rules.specs.Content.{ready_in}
use Rattle.sub_rules.specs.Readiness.{TellsReady, is_readied, times_listed}
use Rattle.sub_rules.specs.declared.change.Readied.{Readied}
use Rattle.sub_rules.proofs.Sums.{all_appended, all_filtered, all_put}
use Rattle.subcomputation.specs.Fitting.{Fits}
use Rattle.subcomputation.specs.Subs.{SubOf, grants_of_subs, has_record, host_in, name_of_sub, ready_frames, sub_in, with_content}
use Rattle.subcomputation.specs.declared.sub.ReadiedOf.{ReadiedOf}
use Rattle.subcomputation.specs.Recovering.{Recovery, for_each, for_some, record_settled, recovered, settle_record, settle_sub, sub_settled, their_records}
use Rattle.subcomputation.specs.Told.{HasNoOthers}
use Rattle.recovery.specs.Plans.{IsPlan, PlanOf, carried_out}
use Rattle.recovery.specs.Told.{AreWhole, ComesTold, IsLeft, IsWhole, all_in, same_grant, those, told_of}
use Rattle.subcomputation.proofs.Others.{equal_to_itself}
use Rattle.sub_rules.proofs.Sums.{found_name}
use Rattle.recovery.proofs.NamedLists.{same_name}
use Rattle.recovery.proofs.Following.{recovered_follows, recovered_left, same_itself}
use Rattle.recovery.proofs.Beside.{found_alone}

-- all that is left is of one grant, and so is all that is told
pub record AreOf (g : Grant) (r : Recovery) : Type 0 where
  pub subs : AllByRecursion (λ s. s.grant ≡ g) r.subs
  pub again : AllByRecursion (λ x. x.grant ≡ g) r.again

-- subcomputations of one grant
abbrev AllOf : Grant → List SubOf → Type 0
AllOf g subs = AllByRecursion (λ s. s.grant ≡ g) subs

-- parts in turn, and a part with what may be there
each_of : {A : Type 0} (g : Grant) (f : A → List SubOf → Recovery)
    → ((a : A) (subs : List SubOf) → AllOf g subs → AreOf g (f a subs)) → (xs : List A) (subs : List SubOf)
    → AllOf g subs → AreOf g (for_each f xs subs)
each_of g f part [] subs all = record { subs = all; again = tt }
each_of g f part (x ∷ xs) subs all =
    let first = part x subs all in
    let rest = each_of g f part xs (f x subs).subs first.subs in
    record {
      subs = rest.subs;
      again = all_appended (λ x. x.grant ≡ g)
          (f x subs).again (for_each f xs (f x subs).subs).again first.again rest.again;
    }

-- a part with what may be there
some_of : {A : Type 0} (g : Grant) (o : Option A) (f : A → List SubOf → Recovery) (subs : List SubOf) → AllOf g subs
    → ((a : A) → o ≡ Some a → AreOf g (f a subs)) → AreOf g (for_some o f subs)
unfolding for_some
some_of g None f subs all part = record { subs = all; again = tt }
some_of g (Some a) f subs all part = part a refl

-- one that a test finds is of that grant
found_of : (g : Grant) (test : SubOf → Bool) (s : SubOf) (subs : List SubOf) → AllOf g subs → find test subs ≡ Some s
    → s.grant ≡ g
found_of g test s [] all there = absurd cc
found_of g test s (t ∷ ts) all there = by_test (found_of g test s ts all.1) (test t) there
  where
    by_test : (find test ts ≡ Some s → s.grant ≡ g) → (b : Bool) → cond b (Some t) (find test ts) ≡ Some s → s.grant ≡ g
    by_test rest true at = let same : t ≡ s = cc in subst (λ u. u.grant ≡ g) same all.0
    by_test rest false at = rest at

-- a subcomputation goes, or has another host
sub_of : (g : Grant) (s : SubOf) (host : Option ℕ) (subs : List SubOf) → AllOf g subs → s.grant ≡ g
    → AreOf g (sub_settled s host subs)
sub_of g s None subs all is = record { subs = all_filtered (λ t. t.grant ≡ g) _ subs all; again = tt }
sub_of g s (Some host) subs all is =
    record {
      subs = all_put name_of_sub (λ t. t.grant ≡ g) (with_content s (with_parent host s.content)) subs is all;
      again = tt;
    }

-- a record of it is closed, or has another holder
record_of : (g : Grant) (s : SubOf) (r : Record) (holder : Option ℕ) (subs : List SubOf) → AllOf g subs → s.grant ≡ g
    → AreOf g (record_settled s r holder subs)
record_of g s r None subs all is = record {
  subs = all_put name_of_sub (λ t. t.grant ≡ g) (with_content s (redone r s.content)) subs is all;
  again = (is, tt);
}
record_of g s r (Some holder) subs all is =
    record {
      subs = all_put name_of_sub (λ t. t.grant ≡ g)
          (with_content s (with_thief r.grant holder s.content)) subs is all;
      again = tt;
    }

-- so recovery leaves and tells of that grant alone
recovered_of : (members : List Member) (g : Grant) (grants : List Grant) (subs : List SubOf) → AllOf g subs
    → AreOf g (recovered members grants subs)
recovered_of members g grants subs all =
    let first = each_of g (settle_sub members)
    (λ h left are. some_of g (sub_in h left) (λ s. sub_settled s (resolve members s.content.parent)) left are
    (λ s there. sub_of g s (resolve members s.content.parent) left are (found_of g _ s left are there))) grants subs
    all in
    let left = (for_each (settle_sub members) grants subs).subs in
    let last = each_of g (settle_record members) of_record (their_records grants left) left first.subs in
    record {
      subs = last.subs;
      again = all_appended (λ x. x.grant ≡ g)
          (for_each (settle_sub members) grants subs).again (for_each (settle_record members)
          (their_records grants left) left).again first.again last.again;
    }
  where
    of_record : (h : Grant) (left : List SubOf) → AllOf g left → AreOf g (settle_record members h left)
    of_record h left are =
        some_of g (host_in h left) (λ s. for_some (record_in h s.content.records)
        (λ r. record_settled s r (resolve members r.holder))) left are (λ s host.
        some_of g (record_in h s.content.records) (λ r. record_settled s r (resolve members r.holder)) left are
        (λ r there.
        record_of g s r (resolve members r.holder) left are (found_of g (has_record h) s left are host)))

-- frames that are all told of one grant
frames_told : (g : Grant) (again : List ReadiedOf)
    → AllByRecursion (λ x. x.grant ≡ g) again → told_of g again ≡ map (λ x. x.frame) again
frames_told g [] all = refl
frames_told g (x ∷ xs) all =
    let same : same_grant x.grant g ≡ true = ap (λ h. same_grant h g) all.0 ∙ same_itself g in
    ap (λ b. cond b (x.frame ∷ told_of g xs) (told_of g xs)) same ∙ ap (λ fs. x.frame ∷ fs) (frames_told g xs all.1)

-- they are those that are told
frames_in : (g : Grant) (again : List ReadiedOf)
    → AllByRecursion (λ x. x.grant ≡ g) again → all_in g (map (λ x. x.frame) again) ≡ again
frames_in g [] all = refl
frames_in g (x ∷ xs) all = ap (λ h. let y : ReadiedOf =
    record { grant = h; frame = x.frame } in y ∷ all_in g (map (λ x. x.frame) xs)) (sym all.0)
    ∙ ap (λ ys. x ∷ ys) (frames_in g xs all.1)

-- frames behind others
all_on : (g : Grant) (told : List Readied) (more : List Readied)
    → all_in g (told ++ more) ≡ all_in g told ++ all_in g more
all_on g [] more = refl
all_on g (r ∷ rs) more = ap (λ xs. let x : ReadiedOf = record { grant = g; frame = r } in x ∷ xs) (all_on g rs more)

-- subcomputations of one grant that stand in order are none or one
one_or_none : (g : Grant) (subs : List SubOf) → AllOf g subs → AreWhole subs → those (sub_in g subs) ≡ subs
unfolding IsStrictlySortedBy
one_or_none g [] all whole = refl
one_or_none g (s ∷ []) all whole = ap (λ h. those (sub_in h (s ∷ []))) (sym all.0) ∙ ap those (found_alone s)
one_or_none g (s ∷ t ∷ subs) all whole =
    let above : name_cmp (name_of_sub s) (name_of_sub t) ≡ Less = whole.order.0.0 in
    let same : t.grant ≡ s.grant = all.1.0 ∙ sym all.0 in
    let itself : name_cmp (name_of_sub s) (name_of_sub s) ≡ Less =
    ap (λ h. name_cmp (name_of_sub s) (name_of_grant h)) (sym same) ∙ above in
    let equal = equal_to_itself (name_of_sub s) in
    absurd cc

-- one by itself is whole
alone_whole : (s : SubOf) → IsWhole s → AreWhole (s ∷ [])
unfolding IsStrictlySortedBy
alone_whole s whole = record { each = (whole, tt); order = (tt, tt) }

-- what is left, and what is told of it
pub record IsAlone (members : List Member) (s : SubOf) (left : Option SubOf) : Type 0 where
  pub after : those left ≡ (recovered members (s.grant ∷ []) (s ∷ [])).subs
  pub named : IfSome left (λ t. t.grant ≡ s.grant)
  pub told : IfSome left (λ t. ComesTold t
      (readied_in s.content.frames ++ map (λ x. x.frame) (recovered members (s.grant ∷ []) (s ∷ [])).again))
  pub records : IfSome left (λ t. HasNoOthers s.content.records t.content.records)
  pub fits : (p : Program) → Fits p s.content → IfSome left (λ t. Fits p t.content)

module _ (members : List Member) (s : SubOf) (whole : IsWhole s) where
  -- its recovery
  abbrev whole_recovery : Recovery
  whole_recovery = recovered members (s.grant ∷ []) (s ∷ [])

  -- all is of its grant
  of_one : AreOf s.grant whole_recovery
  of_one = recovered_of members s.grant (s.grant ∷ []) (s ∷ []) (refl, tt)

  -- the frames that it came with, and those that are ready again
  pub all_frames : all_in s.grant (readied_in s.content.frames ++ map (λ x. x.frame) whole_recovery.again)
      ≡ ready_frames s ++ whole_recovery.again
  all_frames =
      all_on s.grant (readied_in s.content.frames) (map (λ x. x.frame) whole_recovery.again)
      ∙ ap (λ xs. ready_frames s ++ xs) (frames_in s.grant whole_recovery.again of_one.again)

  -- what is left of it
  left_alone : (t : SubOf) → sub_in s.grant whole_recovery.subs ≡ Some t
      → IsLeft s.grant (s ∷ []) t whole_recovery.again
  left_alone t there = recovered_left members (s ∷ []) (alone_whole s whole) s.grant t there

  -- it is what was there
  was_alone : (was : SubOf) → sub_in s.grant (s ∷ []) ≡ Some was → s ≡ was
  was_alone was there = let found = found_alone s in cc

  -- its ready frames are those with which it came, and those that are told again
  told_alone : (t : SubOf) (was : SubOf)
      → s ≡ was → TellsReady was.content t.content (told_of s.grant whole_recovery.again)
      → ComesTold t (readied_in s.content.frames ++ map (λ x. x.frame) whole_recovery.again)
  told_alone t was same tells = record {
    each = λ r. tells.each r ∙ ap (λ n. cond (is_some (ready_in r.frame t.content)) n 0) (sums r);
  }
    where
      sums : (r : Readied) → times_listed r (told_of s.grant whole_recovery.again) + times_listed r
          (readied_in was.content.frames) ≡ times_listed r
          (readied_in s.content.frames ++ map (λ x. x.frame) whole_recovery.again)
      sums r =
          let told = ap (times_listed r) (frames_told s.grant whole_recovery.again of_one.again) in
          let first = ap (λ (u : SubOf). times_listed r (readied_in u.content.frames)) same in
          omega (
            arith,
            sum_by-append (is_readied r) (readied_in s.content.frames)
                (map (λ x. x.frame) whole_recovery.again),
          )

  -- it is left, or nothing is
  by_left : (o : Option SubOf) → sub_in s.grant whole_recovery.subs ≡ o → those o ≡ whole_recovery.subs
      → IsAlone members s o
  by_left None there after = record { after = after; named = tt; told = tt; records = tt; fits = λ p fits. tt }
  by_left (Some t) there after =
      let left = left_alone t there in
      let same : s ≡ left.was = was_alone left.was left.there in
      record {
        after = after;
        named = sym (same_name s.grant t.grant
            (found_name name_of_sub (name_of_grant s.grant) t whole_recovery.subs there));
        told = told_alone t left.was same left.ready;
        records = subst (λ u. HasNoOthers u.content.records t.content.records) (sym same) left.records;
        fits = λ p fits. left.fits p (subst (λ u. Fits p u.content) same fits);
      }

  -- what is found under its grant
  pub left_of_alone : IsAlone members s (sub_in s.grant whole_recovery.subs)
  left_of_alone =
      let follows = recovered_follows members (s.grant ∷ []) (s ∷ []) (alone_whole s whole) in
      by_left (sub_in s.grant whole_recovery.subs) refl
      (one_or_none s.grant whole_recovery.subs of_one.subs follows.whole)

-- it is what a store holds under its grant
pub taken_alone : (members : List Member) (s : SubOf) → IsWhole s → (subs : List SubOf)
    → subs ≡ (recovered members (s.grant ∷ []) (s ∷ [])).subs → IsAlone members s (sub_in s.grant subs)
taken_alone members s whole subs same =
    subst (λ left. IsAlone members s (sub_in s.grant left)) (sym same) (left_of_alone members s whole)

-- what comes of it, by its ready frames
pub record Comes (members : List Member) (s : SubOf) (left : Option SubOf) (frames : List Readied) : Type 0 where
  pub after : those left ≡ (recovered members (s.grant ∷ []) (s ∷ [])).subs
  pub named : IfSome left (λ t. t.grant ≡ s.grant)
  pub ready : all_in s.grant frames ≡ ready_frames s ++ (recovered members (s.grant ∷ []) (s ∷ [])).again
  pub told : IfSome left (λ t. ComesTold t frames)
  pub records : IfSome left (λ t. HasNoOthers s.content.records t.content.records)
  pub fits : (p : Program) → Fits p s.content → IfSome left (λ t. Fits p t.content)

-- so a plan that is carried out leads to it
pub comes : (members : List Member) (s : SubOf) (before after : List SubOf) (plan : PlanOf) (n : Name)
    (left : Option SubOf) (first all : List Readied) → IsWhole s → before ≡ s ∷ [] → IsPlan members before plan
    → after ≡ carried_out plan.settled before → n ≡ name_of_sub s → left ≡ item_in name_of_sub n after
    → first ≡ readied_in s.content.frames → all ≡ first ++ map (λ x. x.frame) plan.again → Comes members s left all
comes members s before after plan n left first all whole alone is_plan carried name taken first_is all_is =
    let subs : after ≡ (recovered members (s.grant ∷ []) (s ∷ [])).subs =
    carried ∙ is_plan.subs ∙ ap (λ xs. (recovered members (grants_of_subs xs) xs).subs) alone in
    let again : plan.again ≡ (recovered members (s.grant ∷ []) (s ∷ [])).again =
    is_plan.again ∙ ap (λ xs. (recovered members (grants_of_subs xs) xs).again) alone in
    let told : all ≡ readied_in s.content.frames
    ++ map (λ x. x.frame) (recovered members (s.grant ∷ []) (s ∷ [])).again =
    all_is ∙ ap (λ xs. xs ++ map (λ x. x.frame) plan.again) first_is
    ∙ ap (λ xs. readied_in s.content.frames ++ map (λ x. x.frame) xs) again in
    let left_is : left ≡ sub_in s.grant after = taken ∙ ap (λ m. item_in name_of_sub m after) name in
    let is : IsAlone members s left = subst (IsAlone members s) (sym left_is)
    (taken_alone members s whole after subs) in
    record {
      after = is.after;
      named = is.named;
      ready = ap (all_in s.grant) told ∙ all_frames members s whole;
      told = subst (λ fs. IfSome left (λ t. ComesTold t fs)) (sym told) is.told;
      records = is.records;
      fits = is.fits;
    }
