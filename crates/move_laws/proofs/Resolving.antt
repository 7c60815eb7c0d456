-- Whom a list of members leads to, as heirs of tables.
use Rattle.std.proofs.Common.{◌≡◌, ◌≤◌, ℕ, suc, zero, List, length, Option, None, Some, refl, sym, ◌∙◌, arith}
use Rattle.ids.specs.Members.{status_in, bearer, follow, resolve}
use Rattle.ids.specs.declared.member.Member.{Member}
use Rattle.ids.specs.declared.member.Status.{Status}
use Rattle.ids.specs.declared.member.Status.TheVariants as member
use Rattle.table_laws.specs.View.{Roster}
use Rattle.table_laws.specs.View as tables
use Rattle.table_laws.specs.Facts.{Resolves, stays, follows}
use Rattle.table_laws.specs.Heirs.{EndsIn, AllEnd, lives, died, passes}
use Rattle.move_laws.specs.Listed.{status_of, ShowsMembers, DeadEnd}

module _ (r : Roster) (members : List Member) (shows : ShowsMembers r members) where
  -- who is found to have the work has it
  pub followed : (n i h : ℕ) → follow n members i ≡ Some h → Resolves r i h
  unfolding follow
  followed zero i h e = cc
  followed (suc n) i h e = by_status (followed n) (status_in i members) (shows.status i) e
    where
      by_status : ((j k : ℕ) → follow n members j ≡ Some k → Resolves r j k) → (o : Option Status)
          → r.status i ≡ status_of o → bearer (follow n members) i o ≡ Some h → Resolves r i h
      by_status ih None s e = let is : i ≡ h = cc in rw (← is) (stays i)
      by_status ih (Some member.Live) s e = let is : i ≡ h = cc in rw (← is) (stays i)
      by_status ih (Some member.Dead) s e = cc
      by_status ih (Some (member.Left heir)) s e = follows i heir h s (ih heir h e)

  pub resolved : (i h : ℕ) → resolve members i ≡ Some h → Resolves r i h
  resolved i h e = followed (suc (length members)) i h e

  -- where nobody has it, heirs lead to one who is dead
  unfollowed : (most i k : ℕ) → EndsIn r most i → most ≤ k → follow (suc k) members i ≡ None → DeadEnd r i
  unfolding follow
  unfollowed most i k (lives _ _ s) le e = by_status (status_in i members) (sym s ∙ shows.status i) e
    where
      by_status : (o : Option Status) → tables.Live ≡ status_of o → bearer (follow k members) i o ≡ None → DeadEnd r i
      by_status None s e = cc
      by_status (Some member.Live) s e = cc
      by_status (Some member.Dead) s e = cc
      by_status (Some (member.Left heir)) s e = cc
  unfollowed most i k (died _ _ s) le e = record { dead = i; way = stays i; is = s }
  unfollowed _ i zero (passes most _ heir s rest) le e = absurd (omega (arith, le))
  unfollowed _ i (suc k) (passes most _ heir s rest) le e =
      by_status (unfollowed most heir k rest (omega (arith, le))) (status_in i members) (sym s ∙ shows.status i) e
    where
      by_status : (follow (suc k) members heir ≡ None → DeadEnd r heir) → (o : Option Status)
          → tables.Left heir ≡ status_of o → bearer (follow (suc k) members) i o ≡ None → DeadEnd r i
      by_status ih None t e = cc
      by_status ih (Some member.Live) t e = cc
      by_status ih (Some member.Dead) t e = cc
      by_status ih (Some (member.Left x)) t e =
          let is : heir ≡ x = cc in
          let end = ih (rw is e) in
          record { dead = end.dead; way = follows i heir end.dead s end.way; is = end.is }

  pub dead_end : (i : ℕ) → AllEnd r → resolve members i ≡ None → DeadEnd r i
  unfolding follow
  dead_end i all e = by_status (status_in i members) (shows.status i) e
    where
      listed : (o : Option Status) → r.status i ≡ status_of o → (o ≡ None → ⊥) → r.status i ≡ tables.Unlisted → ⊥
      listed None s other u = other refl
      listed (Some member.Live) s other u = cc
      listed (Some member.Dead) s other u = cc
      listed (Some (member.Left x)) s other u = cc

      by_status : (o : Option Status) → r.status i ≡ status_of o → bearer (follow (length members) members) i o ≡ None
          → DeadEnd r i
      by_status None s f = cc
      by_status (Some x) s f = unfollowed r.left i (length members) (all i (listed (Some x) s (λ z. cc))) shows.few e
