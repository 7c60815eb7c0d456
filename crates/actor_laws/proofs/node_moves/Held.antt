-- What a node holds, where one entry of the tables and one item of a list are given anew.
use Rattle.std.proofs.Common.{◌≡◌, ℕ, Bool, true, false, nat_eq, ◌&&◌, if◌then◌else◌, List, ⊎_elim, Option, None, Some, refl, ap, arith}
use Rattle.ids.specs.Names.{Grant}
use Rattle.ids.specs.Naming.{name_of_grant}
use Rattle.ids.proofs.Replacing.{put_is_found}
use Rattle.agreement_laws.proofs.Finding.{gone, stays, put_stays}
use Rattle.steal_protocol.specs.Replies.{name_of_reply, put_reply, reply_in}
use Rattle.steal_protocol.specs.declared.replies.Reply.{Reply}
use Rattle.subcomputation.specs.Subs.{SubOf, name_of_sub, put_sub, sub_in, without_sub}
use Rattle.node_state.specs.Node.{hop_in, name_of_seen, put_seen}
use Rattle.node_state.specs.declared.parts.Seen.{Seen}
use Rattle.node_state.proofs.Posting.{same_name, same_names}
use Rattle.table_laws.specs.Tables.{put_at, put_grant, same_grant}
use Rattle.table_laws.specs.View.{Sub}
use Rattle.table_laws.specs.View as tables
use Rattle.table_laws.proofs.Lists.{grant_or, same_or}
use Rattle.table_laws.proofs.Entries.{at_here, at_other_slot}
use Rattle.actor_laws.specs.node_moves.Shows.{IsShown, ShowsSub, IsReply, ShowsReply}

module _ {X : Type 0} where
  -- one place of a table by grant
  pub grant_here : (f : ℕ → Grant → X) (i : ℕ) (g : Grant) (x : X) → put_grant f i g x i g ≡ x
  grant_here f i g x = grind arith

  -- and the others
  pub grant_beside : (f : ℕ → Grant → X) (i : ℕ) (g k : Grant) (x : X) → (k ≡ g → ⊥) → put_grant f i g x i k ≡ f i k
  grant_beside f i g k x other = by_test (same_grant k g) refl
    where
      by_test : (b : Bool) → same_grant k g ≡ b → (if nat_eq i i && b then x else f i k) ≡ f i k
      by_test true is = absurd (other (same_name k g is))
      by_test false is = grind arith

-- grants that differ have names that differ
pub apart : (g k : Grant) → (g ≡ k → ⊥) → name_of_grant g ≡ name_of_grant k → ⊥
apart g k other e = other (same_names g k e)

-- the sub of a subcomputation that is held
pub record HeldAt (o : Option Sub) (s : SubOf) : Type 0 where
  pub sub : Sub
  pub is : o ≡ Some sub
  pub shown : IsShown sub s

pub held_at : (o : Option Sub) (q : Option SubOf) (s : SubOf) → ShowsSub o q → q ≡ Some s → HeldAt o s
held_at None None s shows is = cc
held_at None (Some x) s shows is = absurd shows
held_at (Some t) None s shows is = absurd shows
held_at (Some t) (Some x) s shows is = let same : x ≡ s = cc in record { sub = t; is = refl; shown = rw same at shows }

-- the subcomputation that a sub shows
pub record FoundSub (t : Sub) (q : Option SubOf) : Type 0 where
  pub sub : SubOf
  pub is : q ≡ Some sub
  pub shown : IsShown t sub

pub found_sub : (o : Option Sub) (q : Option SubOf) (t : Sub) → ShowsSub o q → o ≡ Some t → FoundSub t q
found_sub None None t s e = cc
found_sub None (Some x) t s e = absurd s
found_sub (Some y) None t s e = absurd s
found_sub (Some y) (Some x) t s e = let same : y ≡ t = cc in record { sub = x; is = refl; shown = rw same at s }

-- a subcomputation in its place
pub shows_put : (f : ℕ → Grant → Option Sub) (i : ℕ) (subs : List SubOf) (t : Sub) (s : SubOf)
    → ((k : Grant) → ShowsSub (f i k) (sub_in k subs)) → IsShown t s → (k : Grant)
    → ShowsSub (put_grant f i s.grant (Some t) i k) (sub_in k (put_sub s subs))
shows_put f i subs t s old new k = ⊎_elim
    (λ (same : k ≡ s.grant). rw (same, grant_here f i s.grant (Some t), put_is_found name_of_sub s subs) new)
    (λ (other : k ≡ s.grant → ⊥). rw (
      grant_beside f i s.grant k (Some t) other,
      put_stays name_of_sub (name_of_grant k) s subs (apart k s.grant other),
    ) (old k))
    (grant_or k s.grant)

-- one that goes
pub shows_gone : (f : ℕ → Grant → Option Sub) (i : ℕ) (subs : List SubOf) (g : Grant)
    → ((k : Grant) → ShowsSub (f i k) (sub_in k subs)) → (k : Grant)
    → ShowsSub (put_grant f i g None i k) (sub_in k (without_sub g subs))
shows_gone f i subs g old k = ⊎_elim
    (λ (same : k ≡ g). rw (same, grant_here f i g None, gone name_of_sub (name_of_grant g) subs) tt)
    (λ (other : k ≡ g → ⊥). rw (
      grant_beside f i g k None other,
      stays name_of_sub (name_of_grant k) (name_of_grant g) subs (apart k g other),
    ) (old k))
    (grant_or k g)

-- a grant that was taken
pub seen_put : (f : ℕ → Grant → Option ℕ) (i : ℕ) (seen : List Seen) (g : Grant) (hop : ℕ)
    → ((k : Grant) → f i k ≡ hop_in k seen) → (k : Grant)
    → put_grant f i g (Some hop) i k ≡ hop_in k (put_seen g hop seen)
seen_put f i seen g hop old k = ⊎_elim
    (λ (same : k ≡ g). rw (
      same,
      grant_here f i g (Some hop),
      put_is_found name_of_seen (record { grant = g; hop = hop }) seen,
    ) refl)
    (λ (other : k ≡ g → ⊥). rw (
      grant_beside f i g k (Some hop) other,
      put_stays name_of_seen (name_of_grant k) (record { grant = g; hop = hop }) seen (apart k g other),
    ) (old k))
    (grant_or k g)

-- the last answer to a thief
pub reply_put : (f : ℕ → ℕ → Option tables.Reply) (i : ℕ) (replies : List Reply) (y : tables.Reply) (r : Reply)
    → ((k : ℕ) → ShowsReply i k (f i k) (reply_in k replies)) → IsReply i r.thief y r → (k : ℕ)
    → ShowsReply i k (put_at f i r.thief (Some y) i k) (reply_in k (put_reply r replies))
reply_put f i replies y r old new k = ⊎_elim
    (λ (same : k ≡ r.thief). rw (same, at_here f i r.thief (Some y), put_is_found name_of_reply r replies) new)
    (λ (other : k ≡ r.thief → ⊥). rw (
      at_other_slot f i r.thief k (Some y) other,
      put_stays name_of_reply (k, 0) r replies (λ e. other (ap (λ (n : ℕ × ℕ). n.0) e)),
    ) (old k))
    (same_or k r.thief)

-- a subcomputation that the same sub shows, in the place of one that is held
pub shows_swap : (f : Grant → Option Sub) (subs : List SubOf) (t : Sub) (s : SubOf)
    → ((k : Grant) → ShowsSub (f k) (sub_in k subs)) → f s.grant ≡ Some t → IsShown t s → (k : Grant)
    → ShowsSub (f k) (sub_in k (put_sub s subs))
shows_swap f subs t s old is new k = ⊎_elim
    (λ (same : k ≡ s.grant). rw (same, is, put_is_found name_of_sub s subs) new)
    (λ (other : k ≡ s.grant → ⊥). rw (put_stays name_of_sub (name_of_grant k) s subs (apart k s.grant other)) (old k))
    (grant_or k s.grant)
