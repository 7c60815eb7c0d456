-- What comes makes no post stale, where each frame that comes is ready.
use Rattle.std.proofs.Common.{◌≡◌, ℕ, ◌+◌, ◌&&◌, Bool, true, false, nat_eq, List, [], ◌∷◌, Option, Some, None, IfSome, is_some, refl, sym, ap, ◌∙◌, arith}
use Rattle.std.specs.List.{list_all}
use Rattle.std.proofs.lemmas.Bool.{and_parts, eqb-true}
use Rattle.std.proofs.lemmas.List.Sums.{sum_by-cons}
use Rattle.ids.specs.Names.{Grant}
use Rattle.ids.specs.Naming.{name_of_grant}
use Rattle.level_deques.specs.declared.posts.Post.{Post}
use Rattle.sub_rules.specs.Debts.{one_if}
use Rattle.sub_rules.specs.declared.change.Readied.{Readied}
use Rattle.subcomputation.specs.Subs.{SubOf, name_of_sub, put_sub, sub_in}
use Rattle.subcomputation.specs.declared.sub.ReadiedOf.{ReadiedOf}
use Rattle.subcomputation.proofs.Others.{put_other}
use Rattle.node_state.specs.Node.{NodeOf}
use Rattle.node_state.specs.Parts.{ArePosts, IsMember, is_post_at, is_same_post, put_some, ready_of, same_grant, times_posted}
use Rattle.node_state.specs.Posts.{post_of, posted_all, ready_at, ready_of_sub}
use Rattle.node_state.specs.Stale.{still_ready}
use Rattle.node_state.proofs.Kept.{all_stay, is_there, member_holds}
use Rattle.node_state.proofs.Posting.{count_all_posted, count_other, count_ready, differs, same_name, same_names}

-- a frame that is told passes a test that all of them pass
told_passes : (test : ℕ → Bool) (p : Post) (g : Grant) (told : List Readied) → list_all (λ r. test r.frame) told ≡ true
    → (count_ready p (ready_of g told) ≡ 0 → ⊥) → test p.frame ≡ true
told_passes test p g [] all some = absurd (some refl)
told_passes test p g (r ∷ rs) all some =
    by_post (told_passes test p g rs both.1)
    (same_grant p.grant g && (nat_eq p.frame r.frame && nat_eq p.level r.level)) refl
  where
    both : (test r.frame ≡ true) × (list_all (λ x. test x.frame) rs ≡ true)
    both = and_parts (test r.frame) (list_all (λ x. test x.frame) rs) all

    sum : count_ready p (ready_of g (r ∷ rs))
        ≡ is_same_post p (post_of (record { grant = g; frame = r })) + count_ready p (ready_of g rs)
    sum = sum_by-cons (λ (x : ReadiedOf). is_same_post p (post_of x)) (record { grant = g; frame = r }) (ready_of g rs)

    by_post : ((count_ready p (ready_of g rs) ≡ 0 → ⊥) → test p.frame ≡ true) → (b : Bool)
        → (same_grant p.grant g && (nat_eq p.frame r.frame && nat_eq p.level r.level)) ≡ b → test p.frame ≡ true
    by_post rest true is =
        let second = (and_parts (same_grant p.grant g) (nat_eq p.frame r.frame && nat_eq p.level r.level) is).1 in
        let same = eqb-true p.frame r.frame (and_parts (nat_eq p.frame r.frame) (nat_eq p.level r.level) second).0 in
        ap test same ∙ both.0
    by_post rest false is =
        let apart : is_same_post p (post_of (record { grant = g; frame = r })) ≡ 0 = ap one_if is in
        rest (λ none. some (omega (arith, sum, apart, none)))

-- beside a grant's subcomputation that comes, the others stay
others_stay : (g : Grant) (after : Option SubOf) (subs : List SubOf) → IfSome after (λ s. s.grant ≡ g) → (h : Grant)
    → (h ≡ g → ⊥) → sub_in h (put_some after subs) ≡ sub_in h subs
others_stay g None subs named h apart = refl
others_stay g (Some s) subs named h apart =
    put_other name_of_sub (name_of_grant h) s subs (λ same. apart (same_names h s.grant same ∙ named))

-- so no post is stale
pub come_stay : (n : NodeOf) (g : Grant) (after : Option SubOf) (told : List Readied) (posts : List Post)
    (subs : List SubOf) → ArePosts n posts → IsMember n.state → sub_in g n.subs ≡ None → IfSome after (λ s. s.grant ≡ g)
    → subs ≡ put_some after n.subs → list_all (λ r. is_some (ready_of_sub r.frame (sub_in g subs))) told ≡ true
    → still_ready subs (posted_all (ready_of g told) posts) ≡ posted_all (ready_of g told) posts
come_stay n g after told posts subs are member absent named put all =
    all_stay _ (posted_all (ready_of g told) posts) stand
  where
    at_node : (p : Post) → ready_at n p.grant p.frame ≡ ready_of_sub p.frame (sub_in p.grant n.subs)
    at_node p = ap (λ xs. ready_of_sub p.frame (sub_in p.grant xs)) (member_holds n member)

    stand : (p : Post) → (times_posted p (posted_all (ready_of g told) posts) ≡ 0 → ⊥)
        → is_some (ready_of_sub p.frame (sub_in p.grant subs)) ≡ true
    stand p some = by_grant (same_grant p.grant g) refl
      where
        sum : times_posted p (posted_all (ready_of g told) posts)
            ≡ count_ready p (ready_of g told) + times_posted p posts
        sum = count_all_posted p (ready_of g told) posts

        by_grant : (b : Bool) → same_grant p.grant g ≡ b → is_some (ready_of_sub p.frame (sub_in p.grant subs)) ≡ true
        by_grant true is =
            let same = same_name p.grant g is in
            let before : times_posted p posts ≡ 0 =
            are.each p ∙ ap (is_post_at p) (at_node p)
            ∙ ap (λ h. is_post_at p (ready_of_sub p.frame (sub_in h n.subs))) same
            ∙ ap (λ o. is_post_at p (ready_of_sub p.frame o)) absent in
            ap (λ h. is_some (ready_of_sub p.frame (sub_in h subs))) same
            ∙ told_passes (λ f. is_some (ready_of_sub f (sub_in g subs))) p g told all
            (λ none. some (omega (arith, sum, none, before)))
        by_grant false is =
            let apart = differs p.grant g is in
            let none = count_other p g told apart in
            ap (λ o. is_some (ready_of_sub p.frame o)) (ap (sub_in p.grant) put
            ∙ others_stay g after n.subs named p.grant apart)
            ∙ ap is_some (sym (at_node p))
            ∙ is_there p (ready_at n p.grant p.frame)
            (λ zero. some (let here = are.each p ∙ zero in omega (arith, sum, none, here)))
