-- A Leave comes: the member has left to whoever has its heir's work, or is dead; and the root's
-- grant is settled.
use Rattle.std.proofs.Common.{◌≡◌, ◌+◌, ◌≤◌, ℕ, Bool, true, false, cond, not, nat_eq, ◌&&◌, List, [], ◌∷◌, map, ⊎_elim, Option, None, Some, refl, sym, ap, ◌∙◌, arith}
use Rattle.std.specs.Ordering.{is_eq}
use Rattle.std.specs.Option.{option_map}
use Rattle.ids.specs.Named.{item_in, name_cmp}
use Rattle.ids.specs.Ordered.{AreInOrder}
use Rattle.ids.specs.Members.{is_live, resolve, says_live, status_in}
use Rattle.ids.specs.declared.member.Status.{Status}
use Rattle.ids.specs.declared.member.Status.TheVariants as member
use Rattle.ids.proofs.NameOrder.{equal_to_itself}
use Rattle.agreement_laws.proofs.Finding.{unequal}
use Rattle.sub_rules.proofs.Sums.{found_name}
use Rattle.codec.specs.declared.body.Leave.{Leave}
use Rattle.serial_meaning.specs.Job.{JobOf}
use Rattle.clearinghouse.specs.Cases as cases
use Rattle.clearinghouse.specs.House.{HouseOf, member_of, members_of, name_of_enlisted}
use Rattle.clearinghouse.specs.Laws.{living}
use Rattle.clearinghouse.specs.Moves as moves
use Rattle.clearinghouse.specs.Steps as house
use Rattle.clearinghouse.specs.declared.parts.Enlisted.{Enlisted}
use Rattle.clearinghouse.proofs.Changing.{change_at, change_keeps, changed_everywhere}
use Rattle.clearinghouse.proofs.Listing.{leaver_gone}
use Rattle.actor_laws.proofs.house_moves.Living.{one_fewer}
use Rattle.table_laws.specs.Tables.{◌∈◌}
use Rattle.table_laws.specs.View.{View}
use Rattle.table_laws.specs.Moves.{publish}
use Rattle.table_laws.specs.Runs.{Run}
use Rattle.table_laws.proofs.Lists.{same_or, some_same}
use Rattle.actor_laws.proofs.node_moves.Told.{one_shown}
use Rattle.actor_laws.specs.house_moves.Shows.{OpenShown}
use Rattle.actor_laws.specs.house_moves.Steps.{HouseStepShown, HouseAnswerShown, tables_meaning}
use Rattle.actor_laws.proofs.house_moves.Hearing.{tells_shown}
use Rattle.actor_laws.proofs.house_moves.Listed.{kept_found, mapped_status, status_kept}
use Rattle.actor_laws.proofs.house_moves.Mapping.{Goes, stands, dies, leaves_to, next_by_map}
use Rattle.actor_laws.proofs.house_moves.Publishing.{IsNext, NewlyLeft, next_roster, publishes_shown, tells_next}
use Rattle.actor_laws.proofs.house_moves.Settling.{settles_quiet, settles_shown}
use Rattle.actor_laws.proofs.house_moves.Then.{then_shown}

-- who is said to live does
live_is : (o : Option Status) → says_live o ≡ true → o ≡ Some member.Live
live_is None e = cc
live_is (Some member.Live) e = refl
live_is (Some member.Dead) e = cc
live_is (Some (member.Left heir)) e = cc

module _ (job : JobOf) (v : View) (run : Run (tables_meaning job) v) (h : HouseOf) (s : OpenShown v h)
    (rising : AreInOrder name_of_enlisted h.workers) (b : Leave)
    (live : status_in b.from (members_of h) ≡ Some member.Live)
    (said : record { from = b.from; heir = b.heir; epoch = h.epoch } ∈ v.leaves) where
  abbrev status : Status
  status = moves.leaving_status b.from b.heir (members_of h)

  abbrev say : Enlisted → Enlisted
  say w = record w { status = status }

  abbrev say_at : Enlisted → Enlisted
  say_at w = change_at name_of_enlisted say (b.from, 0) w

  abbrev ws : List Enlisted
  ws = map say_at h.workers

  names : (w : Enlisted) → name_of_enlisted (say_at w) ≡ name_of_enlisted w
  names w = change_keeps name_of_enlisted say (λ x. refl) (b.from, 0) w

  -- who is found under a name has it
  name_is : (i : ℕ) (w : Enlisted) → item_in name_of_enlisted (i, 0) h.workers ≡ Some w → i ≡ w.incarnation
  name_is i w there = ap (λ (k : ℕ × ℕ). k.0) (found_name name_of_enlisted (i, 0) w h.workers there)

  said_of : (w : Enlisted) → b.from ≡ w.incarnation → say_at w ≡ say w
  said_of w same = ap (λ (k : ℕ). cond (is_eq (name_cmp (b.from, 0) (k, 0))) (say w) w) (sym same)
      ∙ ap (λ r. cond (is_eq r) (say w) w) (equal_to_itself (b.from, 0))

  not_said_of : (w : Enlisted) → (w.incarnation ≡ b.from → ⊥) → say_at w ≡ w
  not_said_of w other = ap (λ x. cond x (say w) w)
      (unequal (b.from, 0) (name_of_enlisted w) (λ z. other (sym (ap (λ (k : ℕ × ℕ). k.0) z))))

  -- who isn't the leaver is what it was
  beside : (i : ℕ) → (i ≡ b.from → ⊥) → status_in i (map member_of ws) ≡ status_in i (members_of h)
  beside i other = mapped_status say_at names i h.workers ∙ by_item (item_in name_of_enlisted (i, 0) h.workers) refl
      ∙ sym (kept_found i h.workers)
    where
      by_item : (o : Option Enlisted) → item_in name_of_enlisted (i, 0) h.workers ≡ o
          → status_kept (option_map say_at o) ≡ status_kept o
      by_item None there = refl
      by_item (Some w) there = ap (λ (x : Enlisted). Some x.status) (not_said_of w (λ e. other (name_is i w there ∙ e)))

  -- the heir's work is with another live member
  newly : (heir : ℕ) → resolve (members_of h) b.heir ≡ Some heir → nat_eq heir b.from ≡ false
      → is_live heir (members_of h) ≡ true → NewlyLeft v h ws 1 b.from heir
  newly heir way other lives = record {
    listed = λ none. (let two : None ≡ Some member.Live = sym none ∙ live in cc);
    leave = record { from = b.from; heir = b.heir; epoch = h.epoch };
    sent = said;
    from = refl;
    epoch = refl;
    way = way;
    lives = beside heir (λ same. let two : nat_eq heir b.from ≡ true = grind (arith, same) in let no : true ≡ false =
        sym two ∙ other in cc) ∙ live_is (status_in heir (members_of h)) lives;
    counted = omega arith;
  }

  becomes : (o : Option ℕ) → resolve (members_of h) b.heir ≡ o
      → Goes v h ws 1 b.from member.Live (moves.left_to b.from (members_of h) o)
  becomes None way = dies
  becomes (Some heir) way = by_heir (nat_eq heir b.from) (is_live heir (members_of h)) refl refl
    where
      by_heir : (x y : Bool) → nat_eq heir b.from ≡ x → is_live heir (members_of h) ≡ y
          → Goes v h ws 1 b.from member.Live (cond (not x && y) (member.Left heir) member.Dead)
      by_heir true y same lives = dies
      by_heir false false other lives = dies
      by_heir false true other lives = leaves_to heir (newly heir way other lives)

  goes_by : (i : ℕ) (x y : Status) → x ≡ member.Live → y ≡ status → i ≡ b.from → Goes v h ws 1 b.from member.Live status
      → Goes v h ws 1 i x y
  goes_by i x y lived said same g = rw (lived, said, same) g

  stands_by : (i : ℕ) (x y : Status) → y ≡ x → Goes v h ws 1 i x y
  stands_by i x y said = rw said (stands x)

  goes : (i : ℕ) (w : Enlisted) → item_in name_of_enlisted (i, 0) h.workers ≡ Some w
      → Goes v h ws 1 i w.status (say_at w).status
  goes i w there = ⊎_elim
      (λ (same : i ≡ b.from).
      let found : status_in b.from (members_of h) ≡ Some w.status =
      ap (λ (k : ℕ). status_in k (members_of h)) (sym same) ∙ kept_found i h.workers ∙ ap status_kept there in
      let lived : w.status ≡ member.Live = some_same (sym found ∙ live) in
      let said : (say_at w).status ≡ status =
      ap (λ (x : Enlisted). x.status) (said_of w (sym same ∙ name_is i w there)) in
      goes_by i w.status (say_at w).status lived said same (becomes (resolve (members_of h) b.heir) refl))
      (λ (other : i ≡ b.from → ⊥). let said : (say_at w).status ≡ w.status =
      ap (λ (x : Enlisted). x.status) (not_said_of w (λ e. other (name_is i w there ∙ e))) in stands_by i w.status
      (say_at w).status said)
      (same_or i b.from)

  -- it has left, or is dead, and is told so
  left_shown : HouseStepShown job v h (house.sends (moves.roster_for job b.from (moves.with_workers ws h) ∷ [])
      (moves.with_workers ws h))
  left_shown =
      let fewer : living ws + 1 ≤ living h.workers =
      one_fewer b.from status (leaver_gone b.from (members_of h) b.heir) h.workers (ap says_live live) in
      let next : IsNext v h ws 1 = next_by_map v h say_at names 1 goes fewer in
      publishes_shown job v run h s ws 1 next (moves.roster_for job b.from (moves.with_workers ws h) ∷ [])
      (one_shown (publish v (next_roster job v run h s ws 1 next))
      (moves.roster_for job b.from (moves.with_workers ws h)) (tells_next job v run h s ws 1 next b.from))

  pub leaves_shown : HouseAnswerShown job v h (cases.leaves job b h)
  leaves_shown =
      let everywhere : moves.changed say b.from h.workers ≡ ws =
      changed_everywhere name_of_enlisted say (λ x. refl) (b.from, 0) h.workers rising in
      let told = left_shown in
      rw everywhere (then_shown job v h (house.sends (moves.roster_for job b.from (moves.with_workers ws h) ∷ [])
      (moves.with_workers ws h)) (moves.settles job (moves.with_workers ws h))
      (settles_quiet job (moves.with_workers ws h)) told
      (settles_shown job told.view (moves.with_workers ws h) told.after))

-- a Leave, which was said to this clearinghouse
pub left_shown_by : (job : JobOf) (v : View) (run : Run (tables_meaning job) v) (h : HouseOf) (s : OpenShown v h)
    → AreInOrder name_of_enlisted h.workers → (b : Leave)
    → (record { from = b.from; heir = b.heir; epoch = h.epoch } ∈ v.leaves)
    → HouseAnswerShown job v h (cases.left job b h)
unfolding cases.by_status
left_shown_by job v run h s rising b said = by_what (status_in b.from (members_of h)) refl
  where
    by_what : (o : Option Status) → status_in b.from (members_of h) ≡ o
        → HouseAnswerShown job v h (cases.by_status o (cases.leaves job b h)
        (house.Does (moves.tells job b.from h)) house.Ignored)
    by_what None e = tt
    by_what (Some member.Live) e = leaves_shown job v run h s rising b e said
    by_what (Some member.Dead) e = tells_shown job v run b.from h h refl s
    by_what (Some (member.Left heir)) e = tells_shown job v run b.from h h refl s
