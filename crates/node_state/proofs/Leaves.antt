-- A node that leaves: what it holds is frozen, so that it has no posts.
use Rattle.std.proofs.Common.{◌≡◌, ℕ, ◌+◌, false, List, [], ◌∷◌, cond, None, is_some, refl, ap, ◌∙◌, arith}
use Rattle.std.specs.List.{filter}
use Rattle.std.proofs.lemmas.List.Sums.{sum_by-cons}
use Rattle.codec.specs.declared.body.Roster.{Roster}
use Rattle.ids.specs.Names.{Grant}
use Rattle.level_deques.specs.declared.posts.Post.{Post}
use Rattle.steal_protocol.specs.Requests.{AskerOf, without_request}
use Rattle.subcomputation.specs.Subs.{SubOf, sub_in, without_sub}
use Rattle.node_state.specs.Node.{NodeOf, by_state}
use Rattle.node_state.specs.Parts.{ArePosts, AsksByState, HoldsByState, IsJoined, IsLeaving, IsMember, is_post_at, is_same_post, times_posted}
use Rattle.node_state.specs.Posts.{is_ready_post, live_subs, ready_of_sub}
use Rattle.node_state.specs.declared.parts.State.{State}
use Rattle.node_state.specs.declared.parts.State.TheVariants.{Joining, Member, Leaving, Ended}
use Rattle.node_state.proofs.Kept.{same_post}

-- a member may have a request pending, and one that is forgotten is pending nowhere
pub asks_member : (st : State) (asker : AskerOf) → IsMember st → AsksByState st asker
asks_member Joining asker is = absurd is
asks_member (Member r) asker is = tt
asks_member (Leaving r heir) asker is = absurd is
asks_member Ended asker is = absurd is

pub asks_without : (st : State) (asker : AskerOf) → AsksByState st (without_request asker)
asks_without Joining asker = tt
asks_without (Member r) asker = tt
asks_without (Leaving r heir) asker = refl
asks_without Ended asker = tt

pub asks_nothing : (st : State) (asker : AskerOf) → IsLeaving st → AsksByState st asker → asker.pending ≡ None
asks_nothing Joining asker is asks = absurd is
asks_nothing (Member r) asker is asks = absurd is
asks_nothing (Leaving r heir) asker is asks = asks
asks_nothing Ended asker is asks = absurd is

pub same_roster : (r s : Roster) → Member r ≡ Member s → r ≡ s
same_roster r s is = cc

-- a joined node may hold anything
pub joined_may : (st : State) (subs : List SubOf) → IsJoined st → HoldsByState st subs
joined_may Joining subs is = absurd is
joined_may (Member r) subs is = tt
joined_may (Leaving r heir) subs is = tt
joined_may Ended subs is = absurd is

-- where a subcomputation goes from, it goes from what isn't frozen, or all is
goes_by : (st : State) (g : Grant) (subs : List SubOf)
    → by_state st [] (λ r. without_sub g subs) (λ r heir. []) []
    ≡ without_sub g (by_state st [] (λ r. subs) (λ r heir. []) [])
unfolding by_state
goes_by Joining g subs = refl
goes_by (Member r) g subs = refl
goes_by (Leaving r heir) g subs = refl
goes_by Ended g subs = refl

pub live_goes : (n : NodeOf) (g : Grant)
    → live_subs (record n { subs = without_sub g n.subs }) ≡ without_sub g (live_subs n)
live_goes n g = goes_by n.state g n.subs

-- nothing isn't frozen
frozen_by : (st : State) (subs : List SubOf) → IsLeaving st → by_state st [] (λ r. subs) (λ r heir. []) [] ≡ []
unfolding by_state
frozen_by Joining subs is = absurd is
frozen_by (Member r) subs is = absurd is
frozen_by (Leaving r heir) subs is = refl
frozen_by Ended subs is = absurd is

pub all_frozen : (n : NodeOf) → IsLeaving n.state → live_subs n ≡ []
all_frozen n is = frozen_by n.state n.subs is

pub left_frozen : (n : NodeOf) (r : Roster) (heir : ℕ) → live_subs (record n { state = Leaving r heir }) ≡ []
unfolding by_state
left_frozen n r heir = refl

-- so no post is that of a ready frame
pub none_of : (m : NodeOf) (posts : List Post) → live_subs m ≡ [] → filter (is_ready_post m) posts ≡ []
none_of m [] none = refl
none_of m (p ∷ ps) none =
    let not_ready : is_ready_post m p ≡ false =
    ap (λ subs. is_some (ready_of_sub p.frame (sub_in p.grant subs))) none in
    ap (λ b. cond b (p ∷ filter (is_ready_post m) ps) (filter (is_ready_post m) ps)) not_ready ∙ none_of m ps none

-- and there is none
pub no_posts : (n : NodeOf) (posts : List Post) → live_subs n ≡ [] → ArePosts n posts → posts ≡ []
no_posts n [] none are = refl
no_posts n (q ∷ qs) none are =
    let nothing : times_posted q (q ∷ qs) ≡ 0 =
    are.each q ∙ ap (λ subs. is_post_at q (ready_of_sub q.frame (sub_in q.grant subs))) none in
    let one = same_post q in
    let sum = sum_by-cons (is_same_post q) q qs in
    absurd (let wrong : 1 + times_posted q qs ≡ 0 = omega arith in omega arith)
