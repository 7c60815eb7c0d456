-- Each subcomputation is settled by its host.
use Rattle.std.proofs.Common.{◌≡◌, ℕ, List, [], ◌∷◌, ◌++◌, map, Option, Some, None, IsSome, refl, sym, ap, subst, ◌∙◌, append_assoc, append-nil}
use Rattle.std.specs.List.{flat_map}
use Rattle.std.proofs.lemmas.List.Concat.{flat_map-cons}
use Rattle.ids.specs.Members.{resolve}
use Rattle.ids.specs.Named.{put_in}
use Rattle.ids.specs.Ordered.{AreInOrder}
use Rattle.ids.specs.declared.member.Member.{Member}
use Rattle.sub_rules.specs.Changes.{with_parent}
use Rattle.subcomputation.specs.Subs.{SubOf, grants_of_subs, name_of_sub, put_sub, sub_in, with_content, without_sub}
use Rattle.subcomputation.specs.Recovering.{Recovery, ◌then◌, for_each, for_some, settle_sub, settled, sub_settled}
use Rattle.recovery.specs.Plans.{carried, carried_out, stop_of}
use Rattle.recovery.specs.declared.plan.Draft.{Draft}
use Rattle.recovery.specs.declared.plan.Settled.TheVariants.{Goes, Stays}
use Rattle.recovery.proofs.Orders.{in_order_none, mid_found, put_again, put_mid, put_order, without_mid}
use Rattle.recovery.proofs.Standing.{Follows, IsStep, carried_order, carried_out_order, follows_more, follows_none, held_where_stands, name_of_settled, step_none, step_put, then_assoc, then_none}

-- a subcomputation that waits for another host
abbrev pub waiting : ℕ → SubOf → SubOf
waiting host s = with_content s (with_parent host s.content)

-- what is left of a subcomputation, by who has its host's work
abbrev pub left_of : SubOf → Option ℕ → List SubOf
left_of s None = []
left_of s (Some host) = waiting host s ∷ []

-- and by a roster
abbrev pub left_by : List Member → SubOf → List SubOf
left_by members s = left_of s (resolve members s.content.parent)

-- the part of a recovery that settles one that is there
pub settles_it : (members : List Member) (s : SubOf) (subs : List SubOf) → sub_in s.grant subs ≡ Some s
    → settle_sub members s.grant subs ≡ sub_settled s (resolve members s.content.parent) subs
unfolding for_some
settles_it members s subs there = ap
    (λ o. for_some o (λ t. sub_settled t (resolve members t.content.parent)) subs) there

-- ---- what is left
leaves : (past : List SubOf) (s : SubOf) (rest : List SubOf) (o : Option ℕ) → AreInOrder name_of_sub (past ++ s ∷ rest)
    → (sub_settled s o (past ++ s ∷ rest)).subs ≡ (past ++ left_of s o) ++ rest
leaves past s rest None order = without_mid name_of_sub past s rest order
    ∙ ap (λ xs. xs ++ rest) (sym (append-nil past))
leaves past s rest (Some host) order =
    put_mid name_of_sub past s (waiting host s) rest refl order ∙ sym (append_assoc past (waiting host s ∷ []) rest)

-- the order stays
stays_in_order : (s : SubOf) (o : Option ℕ) (subs : List SubOf) → AreInOrder name_of_sub subs
    → AreInOrder name_of_sub (sub_settled s o subs).subs
stays_in_order s None subs order = carried_order (Goes s.grant) subs order
stays_in_order s (Some host) subs order = carried_order (Stays (waiting host s)) subs order

-- what a part leaves of one between others
pub settled_one : (members : List Member) (past : List SubOf) (s : SubOf) (rest : List SubOf)
    → AreInOrder name_of_sub (past ++ s ∷ rest)
    → (settle_sub members s.grant (past ++ s ∷ rest)).subs ≡ (past ++ left_by members s) ++ rest
settled_one members past s rest order =
    ap (λ r. r.subs) (settles_it members s (past ++ s ∷ rest) (mid_found name_of_sub past s rest order))
    ∙ leaves past s rest (resolve members s.content.parent) order

-- and in what order
pub settled_order : (members : List Member) (past : List SubOf) (s : SubOf) (rest : List SubOf)
    → AreInOrder name_of_sub (past ++ s ∷ rest) → AreInOrder name_of_sub ((past ++ left_by members s) ++ rest)
settled_order members past s rest order =
    subst (λ xs. AreInOrder name_of_sub xs) (leaves past s rest (resolve members s.content.parent) order)
    (stays_in_order s (resolve members s.content.parent) (past ++ s ∷ rest) order)

-- what is left behind what is settled
pub record IsLeft (members : List Member) (past rest subs : List SubOf) : Type 0 where
  pub list : subs ≡ past ++ flat_map (left_by members) rest
  pub order : AreInOrder name_of_sub subs

-- each in turn
all_left : (members : List Member) (past rest : List SubOf) → AreInOrder name_of_sub (past ++ rest)
    → IsLeft members past rest (for_each (settle_sub members) (grants_of_subs rest) (past ++ rest)).subs
all_left members past [] order = record { list = refl; order = order }
all_left members past (s ∷ rest) order =
    let one : (settle_sub members s.grant (past ++ s ∷ rest)).subs ≡ (past ++ left_by members s) ++ rest =
    settled_one members past s rest order in
    let others : IsLeft members (past ++ left_by members s) rest
    (for_each (settle_sub members) (grants_of_subs rest) ((past ++ left_by members s) ++ rest)).subs =
    all_left members (past ++ left_by members s) rest (settled_order members past s rest order) in
    let same : (for_each (settle_sub members) (grants_of_subs rest)
    (settle_sub members s.grant (past ++ s ∷ rest)).subs).subs
    ≡ (for_each (settle_sub members) (grants_of_subs rest) ((past ++ left_by members s) ++ rest)).subs =
    ap (λ xs. (for_each (settle_sub members) (grants_of_subs rest) xs).subs) one in
    record {
      list = same ∙ others.list ∙ append_assoc past (left_by members s) (flat_map (left_by members) rest)
          ∙ ap (λ xs. past ++ xs) (sym (flat_map-cons (left_by members) s rest));
      order = subst (λ xs. AreInOrder name_of_sub xs) (sym same) others.order;
    }

-- what is left of all
pub left_of_all : (members : List Member) (subs : List SubOf) → AreInOrder name_of_sub subs
    → IsLeft members [] subs (for_each (settle_sub members) (grants_of_subs subs) subs).subs
left_of_all members subs order = all_left members [] subs order

-- ---- a draft that settles one after another
abbrev pub empty : Draft
empty = record { settled = []; stopped = []; again = [] }

-- what is settled so far stands before the others
pub record IsSettling (members : List Member) (subs rest : List SubOf) (d : Draft) : Type 0 where
  pub sorted : AreInOrder name_of_sub subs
  pub ordered : AreInOrder name_of_settled d.settled
  pub past : List SubOf
  pub so_far : Recovery
  pub split : so_far.subs ≡ past ++ rest
  pub order : AreInOrder name_of_sub (past ++ rest)
  pub follows : Follows subs empty d so_far
  pub total : so_far then for_each (settle_sub members) (grants_of_subs rest)
      ≡ for_each (settle_sub members) (grants_of_subs subs) subs

-- a draft of nothing
same_empty : (d : Draft) → d.settled ≡ [] → d.stopped ≡ [] → d.again ≡ [] → d ≡ empty
same_empty d a b c =
    ap (λ xs. (record { settled = xs; stopped = d.stopped; again = d.again })) a
    ∙ ap (λ xs. (record { settled = []; stopped = xs; again = d.again })) b
    ∙ ap (λ xs. (record { settled = []; stopped = []; again = xs })) c

-- before the first
pub settling_none : (members : List Member) (subs all : List SubOf) (d : Draft) → all ≡ subs
    → AreInOrder name_of_sub subs → d.settled ≡ [] → d.stopped ≡ [] → d.again ≡ [] → IsSettling members subs all d
settling_none members subs all d whole order a b c =
    subst (λ xs. IsSettling members subs xs d) (sym whole)
    (subst (λ x. IsSettling members subs subs x) (sym (same_empty d a b c))
    (record {
      sorted = order;
      ordered = in_order_none name_of_settled;
      past = [];
      so_far = settled subs;
      split = refl;
      order = order;
      follows = follows_none subs empty tt;
      total = refl;
    }))

-- the next is settled by a step
next_settled : (members : List Member) (subs : List SubOf) (s : SubOf) (rest : List SubOf) (d e : Draft)
    (i : IsSettling members subs (s ∷ rest) d) → AreInOrder name_of_settled e.settled
    → IsStep subs d e (sub_settled s (resolve members s.content.parent) i.so_far.subs) → IsSettling members subs rest e
next_settled members subs s rest d e i ordered step =
    let there : sub_in s.grant i.so_far.subs ≡ Some s =
    ap (sub_in s.grant) i.split ∙ mid_found name_of_sub i.past s rest i.order in
    let part : settle_sub members s.grant i.so_far.subs
    ≡ sub_settled s (resolve members s.content.parent) i.so_far.subs = settles_it members s i.so_far.subs there in
    record {
      sorted = i.sorted;
      ordered = ordered;
      past = i.past ++ left_by members s;
      so_far = i.so_far then settle_sub members s.grant;
      split = ap (λ xs. (settle_sub members s.grant xs).subs) i.split ∙ settled_one members i.past s rest i.order;
      order = settled_order members i.past s rest i.order;
      follows = follows_more subs empty d e i.so_far (settle_sub members s.grant) i.follows
          (subst (λ r. IsStep subs d e r) (sym part) step);
      total = sym (then_assoc i.so_far (settle_sub members s.grant)
          (for_each (settle_sub members) (grants_of_subs rest))) ∙ i.total;
    }

module _ (members : List Member) (subs : List SubOf) (s : SubOf) (rest : List SubOf) (d e : Draft)
    (i : IsSettling members subs (s ∷ rest) d) where
  -- the next stands under its grant
  stands_there : sub_in s.grant i.so_far.subs ≡ Some s
  stands_there = ap (sub_in s.grant) i.split ∙ mid_found name_of_sub i.past s rest i.order

  -- it was held
  is_held : IsSome (sub_in s.grant subs)
  is_held = held_where_stands s.grant s d.settled subs i.ordered i.follows.held (ap (sub_in s.grant) i.follows.left
      ∙ stands_there)

  -- by who has its host's work
  by_part : (o : Option ℕ) → resolve members s.content.parent ≡ o → AreInOrder name_of_settled e.settled
      → IsStep subs d e (sub_settled s o (carried_out d.settled subs)) → IsSettling members subs rest e
  by_part o is ordered step =
      next_settled members subs s rest d e i ordered
      (subst (λ xs. IsStep subs d e (sub_settled s (resolve members s.content.parent) xs)) i.follows.left
      (subst (λ p. IsStep subs d e (sub_settled s p (carried_out d.settled subs))) (sym is) step))

  -- it goes
  pub settling_goes : resolve members s.content.parent ≡ None
      → e.settled ≡ put_in name_of_settled (Goes s.grant) d.settled
      → e.stopped ≡ d.stopped ++ map stop_of s.content.records → e.again ≡ d.again → IsSettling members subs rest e
  settling_goes is put stopped again =
      by_part None is (subst (λ xs. AreInOrder name_of_settled xs) (sym put)
      (put_order name_of_settled (Goes s.grant) d.settled i.ordered))
      (step_put subs d e (Goes s.grant) s.content.records [] i.ordered i.sorted i.follows.held is_held put stopped
      (again ∙ sym (append-nil d.again)))

  -- it waits for another
  pub settling_waits : (host : ℕ) → resolve members s.content.parent ≡ Some host
      → e.settled ≡ put_in name_of_settled (Stays (waiting host s)) d.settled → e.stopped ≡ d.stopped
      → e.again ≡ d.again → IsSettling members subs rest e
  settling_waits host is put stopped again =
      by_part (Some host) is (subst (λ xs. AreInOrder name_of_settled xs) (sym put)
      (put_order name_of_settled (Stays (waiting host s)) d.settled i.ordered))
      (step_put subs d e (Stays (waiting host s)) [] [] i.ordered i.sorted i.follows.held is_held put (stopped
      ∙ sym (append-nil d.stopped)) (again ∙ sym (append-nil d.again)))

  -- it waits for the same
  pub settling_stays : resolve members s.content.parent ≡ Some s.content.parent → e ≡ d → IsSettling members subs rest e
  settling_stays is same =
      let again : put_sub s (carried_out d.settled subs) ≡ carried_out d.settled subs =
      put_again name_of_sub s (carried_out d.settled subs) (carried_out_order d.settled subs i.sorted)
      (ap (sub_in s.grant) i.follows.left ∙ stands_there) in
      by_part (Some s.content.parent) is (subst (λ x. AreInOrder name_of_settled x.settled) (sym same) i.ordered)
      (subst (λ xs. IsStep subs d e (settled xs)) (sym again) (step_none subs d e i.follows.held same))

-- all are settled
pub settling_all : (members : List Member) (subs rest : List SubOf) (d : Draft) → rest ≡ []
    → IsSettling members subs rest d → IsStep subs empty d (for_each (settle_sub members) (grants_of_subs subs) subs)
settling_all members subs rest d none i =
    let all : i.so_far ≡ for_each (settle_sub members) (grants_of_subs subs) subs =
    sym (then_none i.so_far) ∙ ap (λ xs. i.so_far then for_each (settle_sub members) (grants_of_subs xs)) (sym none)
    ∙ i.total in
    subst (λ r. IsStep subs empty d r) all (i.follows.left, i.follows.stopped, i.follows.again, i.follows.held)
