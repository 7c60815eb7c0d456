-- What a part of recovery leaves of subcomputations: each was there, grew as is told, and is whole.
use Rattle.std.proofs.Common.{◌≡◌, ◌&&◌, ℕ, Bool, true, false, nat_eq, List, [], ◌∷◌, ◌++◌, cond, Option, Some, None, inl, inr, refl, sym, ap, subst, ◌∙◌}
use Rattle.std.proofs.lemmas.Bool.{eq-eqb, eqb-true}
use Rattle.ids.specs.Members.{resolve}
use Rattle.ids.specs.Named.{item_in}
use Rattle.ids.specs.Names.{Grant}
use Rattle.ids.specs.Naming.{name_of_grant, name_of_record}
use Rattle.ids.specs.declared.member.Member.{Member}
use Rattle.ids.specs.declared.work.Record.{Record}
use Rattle.ids.proofs.NameOrder.{names_total}
use Rattle.ids.proofs.KeyedLaws.{put_found}
use Rattle.ids.specs.Named.{name_cmp}
use Rattle.victim_records.specs.Records.{record_in}
use Rattle.sub_rules.specs.declared.change.Readied.{Readied}
use Rattle.sub_rules.specs.declared.content.Content.{Content}
use Rattle.sub_rules.specs.Changes.{frame_of, readied, redone, with_parent, with_thief}
use Rattle.sub_rules.proofs.Sums.{all_filtered, all_found, all_put, found_name}
use Rattle.subcomputation.specs.Subs.{SubOf, grants_of_subs, has_record, host_in, name_of_sub, put_sub, sub_in, with_content, without_sub}
use Rattle.subcomputation.specs.declared.sub.ReadiedOf.{ReadiedOf}
use Rattle.subcomputation.specs.Recovering.{Recovery, for_each, for_some, record_settled, recovered, settle_record, settle_sub, sub_settled, their_records}
use Rattle.subcomputation.proofs.Others.{found_by, put_other}
use Rattle.recovery.specs.Told.{AreWhole, IsLeft, IsWhole, same_grant, told_of}
use Rattle.recovery.proofs.NamedLists.{left_was, put_order, same_name, told_apart, without_order}
use Rattle.recovery.proofs.Growing.{Grows, grows_on, parent_grows, parent_whole, redone_grows, redone_whole, stays, tells, thief_grows, thief_whole}

-- a subcomputation was there, and grew by what is told of its grant
pub record Was (g : Grant) (before : List SubOf) (s : SubOf) (again : List ReadiedOf) : Type 0 where
  pub was : SubOf
  pub there : sub_in g before ≡ Some was
  pub grows : Grows was.content s.content (told_of g again)

-- so did all that are left
pub record Follows (before after : List SubOf) (again : List ReadiedOf) : Type 0 where
  pub whole : AreWhole after
  pub each : (g : Grant) (s : SubOf) → sub_in g after ≡ Some s → Was g before s again

-- where nothing happens
nothing_follows : (subs : List SubOf) → AreWhole subs → Follows subs subs []
nothing_follows subs whole = record {
  whole = whole;
  each = λ g s there. record { was = s; there = there; grows = stays s.content };
}

-- what is told by one and then by another
told_on : (g : Grant) (told again : List ReadiedOf) → told_of g (told ++ again) ≡ told_of g told ++ told_of g again
told_on g [] again = refl
told_on g (r ∷ rs) again = by_test (told_on g rs again) (same_grant r.grant g)
  where
    by_test : told_of g (rs ++ again) ≡ told_of g rs ++ told_of g again → (b : Bool)
        → cond b (r.frame ∷ told_of g (rs ++ again)) (told_of g (rs ++ again))
        ≡ cond b (r.frame ∷ told_of g rs) (told_of g rs) ++ told_of g again
    by_test rest true = ap (λ rs. r.frame ∷ rs) rest
    by_test rest false = rest

-- a part after another
follows_on : (a b c : List SubOf) (told again : List ReadiedOf) → Follows a b told
    → Follows b c again → Follows a c (told ++ again)
follows_on a b c told again first second = record {
  whole = second.whole;
  each = λ g s there. (
      let last = second.each g s there in
      let one = first.each g last.was last.there in
      record {
        was = one.was;
        there = one.there;
        grows = subst (Grows one.was.content s.content) (sym (told_on g told again))
            (grows_on one.was.content last.was.content s.content (told_of g told)
            (told_of g again) one.grows last.grows);
      });
}

-- a part of recovery leaves only what was there
abbrev Keeps : (List SubOf → Recovery) → Type 0
Keeps f = (subs : List SubOf) → AreWhole subs → Follows subs (f subs).subs (f subs).again

-- parts in turn
each_keeps : {A : Type 0} (f : A → List SubOf → Recovery) → ((a : A) → Keeps (f a)) → (xs : List A) (subs : List SubOf)
    → AreWhole subs → Follows subs (for_each f xs subs).subs (for_each f xs subs).again
each_keeps f keeps [] subs whole = nothing_follows subs whole
each_keeps f keeps (x ∷ xs) subs whole =
    let first = keeps x subs whole in
    let rest = each_keeps f keeps xs (f x subs).subs first.whole in
    follows_on subs (f x subs).subs (for_each f xs (f x subs).subs).subs
    (f x subs).again (for_each f xs (f x subs).subs).again first rest

-- a part with what may be there
some_follows : {A : Type 0} (o : Option A) (f : A → List SubOf → Recovery) (subs : List SubOf) → AreWhole subs
    → ((a : A) → o ≡ Some a → Follows subs (f a subs).subs (f a subs).again)
    → Follows subs (for_some o f subs).subs (for_some o f subs).again
unfolding for_some
some_follows None f subs whole follows = nothing_follows subs whole
some_follows (Some a) f subs whole follows = follows a refl

-- a subcomputation that is found is whole, and the one of its grant
pub found_whole : (g : Grant) (s : SubOf) (subs : List SubOf) → AreWhole subs → sub_in g subs ≡ Some s → IsWhole s
found_whole g s subs whole there = all_found name_of_sub IsWhole (name_of_grant g) s subs whole.each there

-- it is found under its own grant
found_itself : (g : Grant) (s : SubOf) (subs : List SubOf) → sub_in g subs ≡ Some s → sub_in s.grant subs ≡ Some s
found_itself g s subs there = subst (λ n. item_in name_of_sub n subs ≡ Some s)
    (found_name name_of_sub (name_of_grant g) s subs there) there

-- one goes
without_follows : (g : Grant) (subs : List SubOf) → AreWhole subs → Follows subs (without_sub g subs) []
without_follows g subs whole = record {
  whole = record {
    each = all_filtered IsWhole _ subs whole.each;
    order = without_order name_of_sub (name_of_grant g) subs whole.order;
  };
  each = λ h s there. record {
    was = s;
    there = left_was name_of_sub (name_of_grant h) (name_of_grant g) s subs there;
    grows = stays s.content;
  };
}

-- one has another content
module _ (s : SubOf) (c : Content) (subs : List SubOf) (again : List ReadiedOf) (there : sub_in s.grant subs ≡ Some s)
    (grows : Grows s.content c (told_of s.grant again)) (others : (g : Grant) → (g ≡ s.grant → ⊥)
    → told_of g again ≡ []) where
  -- what is found afterwards was there
  put_was : (g : Grant) (t : SubOf) → sub_in g (put_sub (with_content s c) subs) ≡ Some t → Was g subs t again
  put_was g t found = elim (told_apart (name_of_grant g) (name_of_grant s.grant)) [
    | inl same ↦ subst (λ h. Was h subs t again) (sym (same_name g s.grant same)) (itself same)
    | inr other ↦ record {
      was = t;
      there = sym (put_other name_of_sub (name_of_grant g) (with_content s c) subs other) ∙ found;
      grows = subst (Grows t.content t.content) (sym (others g (λ is. other (ap name_of_grant is)))) (stays t.content);
    }
  ]
    where
      itself : name_of_grant g ≡ name_of_grant s.grant → Was s.grant subs t again
      itself same =
          let here : sub_in s.grant (put_sub (with_content s c) subs) ≡ Some t =
          subst (λ n. item_in name_of_sub n (put_sub (with_content s c) subs) ≡ Some t) same found in
          let put : sub_in s.grant (put_sub (with_content s c) subs) ≡ Some (with_content s c) =
          put_found name_of_sub name_cmp names_total (with_content s c) subs in
          let is : with_content s c ≡ t = cc in
          let last : Was s.grant subs (with_content s c) again = record { was = s; there = there; grows = grows } in
          subst (λ u. Was s.grant subs u again) is last

  -- so its new content follows
  put_follows : AreWhole subs → IsWhole (with_content s c) → Follows subs (put_sub (with_content s c) subs) again
  put_follows whole here = record {
    whole = record {
      each = all_put name_of_sub IsWhole (with_content s c) subs here whole.each;
      order = put_order name_of_sub (with_content s c) subs whole.order;
    };
    each = put_was;
  }

-- a subcomputation is dropped, or has another host
settled_follows : (s : SubOf) (subs : List SubOf) → AreWhole subs → IsWhole s → sub_in s.grant subs ≡ Some s
    → (host : Option ℕ) → Follows subs (sub_settled s host subs).subs (sub_settled s host subs).again
settled_follows s subs whole here there None = without_follows s.grant subs whole
settled_follows s subs whole here there (Some host) =
    put_follows s (with_parent host s.content) subs [] there (parent_grows host s.content) (λ g other. refl) whole
    (parent_whole host s here)

-- the same of the one that is held under a grant, if any
settle_keeps : (members : List Member) (g : Grant) (subs : List SubOf) → AreWhole subs
    → Follows subs (settle_sub members g subs).subs (settle_sub members g subs).again
settle_keeps members g subs whole = some_follows (sub_in g subs)
    (λ s. sub_settled s (resolve members s.content.parent)) subs whole (λ s there.
    settled_follows s subs whole (found_whole g s subs whole there) (found_itself g s subs there)
    (resolve members s.content.parent))

-- a grant is the same as itself
pub same_itself : (g : Grant) → same_grant g g ≡ true
same_itself g = ap (λ b. b && nat_eq g.number g.number) (eq-eqb g.minter g.minter refl) ∙ eq-eqb g.number g.number refl

-- a frame is told of its grant alone
told_itself : (g : Grant) (r : Readied) → told_of g (record { grant = g; frame = r } ∷ []) ≡ r ∷ []
told_itself g r = ap (λ b. cond b (r ∷ []) []) (same_itself g)

-- no other grant is told of it
told_other : (g h : Grant) (r : Readied) → (h ≡ g → ⊥) → told_of h (record { grant = g; frame = r } ∷ []) ≡ []
told_other g h r other = by_first (nat_eq g.minter h.minter) refl (nat_eq g.number h.number) refl
  where
    by_first : (a : Bool) → nat_eq g.minter h.minter ≡ a → (b : Bool) → nat_eq g.number h.number ≡ b
        → cond (a && b) (r ∷ []) [] ≡ []
    by_first true first true second =
        let minter = eqb-true g.minter h.minter first in
        let number = eqb-true g.number h.number second in
        let name : name_of_grant h ≡ name_of_grant g = cc in
        absurd (other (same_name h g name))
    by_first true first false second = refl
    by_first false first b second = refl

-- a record is closed and its frame ready again, or it has another holder
record_follows : (s : SubOf) (r : Record) (subs : List SubOf) → AreWhole subs → IsWhole s → sub_in s.grant subs ≡ Some s
    → record_in r.grant s.content.records ≡ Some r → (holder : Option ℕ)
    → Follows subs (record_settled s r holder subs).subs (record_settled s r holder subs).again
record_follows s r subs whole here there found None =
    let told = told_itself s.grant (readied (frame_of r)) in
    put_follows s (redone r s.content) subs (record { grant = s.grant; frame = readied (frame_of r) } ∷ []) there
    (subst (Grows s.content (redone r s.content)) (sym told) (redone_grows r s here found))
    (λ g other. told_other s.grant g (readied (frame_of r)) other)
    whole
    (redone_whole r s here found)
record_follows s r subs whole here there found (Some holder) =
    put_follows s (with_thief r.grant holder s.content) subs [] there (thief_grows r.grant holder s.content)
    (λ g other. refl) whole (thief_whole r.grant holder s here)

-- a record, by who has the work of its holder
abbrev settle : List Member → SubOf → Record → List SubOf → Recovery
settle members s r = record_settled s r (resolve members r.holder)

-- the same of the record that is held under a grant, if any
settle_record_keeps : (members : List Member) (g : Grant) (subs : List SubOf) → AreWhole subs
    → Follows subs (settle_record members g subs).subs (settle_record members g subs).again
settle_record_keeps members g subs whole =
    some_follows (host_in g subs) (λ s. for_some (record_in g s.content.records) (settle members s)) subs whole
    (λ s host.
    let there : sub_in s.grant subs ≡ Some s = found_by name_of_sub (has_record g) s subs whole.order host in
    some_follows (record_in g s.content.records) (settle members s) subs whole (λ r found.
    let itself : record_in r.grant s.content.records ≡ Some r =
    subst (λ n. item_in name_of_record n s.content.records ≡ Some r)
    (found_name name_of_record (name_of_grant g) r s.content.records found) found in
    record_follows s r subs whole (found_whole s.grant s subs whole there) there itself (resolve members r.holder)))

-- recovery is such parts in turn
pub recovered_follows : (members : List Member) (grants : List Grant) (subs : List SubOf) → AreWhole subs
    → Follows subs (recovered members grants subs).subs (recovered members grants subs).again
recovered_follows members grants subs whole =
    let first = each_keeps (settle_sub members) (settle_keeps members) grants subs whole in
    let left = (for_each (settle_sub members) grants subs).subs in
    let last = for_each (settle_record members) (their_records grants left) left in
    follows_on subs left last.subs (for_each (settle_sub members) grants subs).again last.again first
    (each_keeps (settle_record members) (settle_record_keeps members) (their_records grants left) left first.whole)

-- of what is left is told what became ready in it
pub recovered_left : (members : List Member) (subs : List SubOf) → AreWhole subs → (g : Grant) (s : SubOf)
    → sub_in g (recovered members (grants_of_subs subs) subs).subs ≡ Some s
    → IsLeft g subs s (recovered members (grants_of_subs subs) subs).again
recovered_left members subs whole g s there =
    let follows = recovered_follows members (grants_of_subs subs) subs whole in
    let was = follows.each g s there in
    let here = found_whole g s (recovered members (grants_of_subs subs) subs).subs follows.whole there in
    record {
      was = was.was;
      there = was.there;
      ready = tells was.was.content s.content
          (told_of g (recovered members (grants_of_subs subs) subs).again) here.frames was.grows;
      records = was.grows.records;
      fits = was.grows.fits;
    }
