-- Rosters under each move.
use Rattle.std.proofs.Common.{◌≡◌, ℕ, ◌<◌, ◌≤◌, List, ◌∷◌, ◌⊎◌, Option, Some, None, refl, sym, inl, inr, ⊎_elim, arith, ap, ◌∙◌}
use Rattle.table_laws.specs.Tables.{◌∈◌, put}
use Rattle.table_laws.specs.View.{Leave, Unlisted, Dead, Left, Roster, Mode, Gone, Joining, Member, House, Leaving, Works, View}
use Rattle.table_laws.specs.Facts.{SaidTo, is_dead, is_gone, is_behind, Lost, Grows}
use Rattle.table_laws.specs.Moves.{start, open_house, close_house, admit, adopt, stop, fail, mark_lost, leave, publish}
use Rattle.table_laws.specs.Guards.{MayOpen, MayFail, MayPublish, MayAdopt, ShowsLeft, before, now}
use Rattle.table_laws.specs.Names.{Names}
use Rattle.table_laws.specs.Leavers.{Leavers}
use Rattle.table_laws.specs.Rosters.{Rosters}
use Rattle.table_laws.proofs.Lists.{same_or, some_same}

grows_same : (r : Roster) → Grows r r
grows_same r = record { listed = λ i e. e; dead = λ i e. e; left = λ i h e. e }

grows_on : {r s t : Roster} → Grows r s → Grows s t → Grows r t
grows_on a b = record {
  listed = λ i e. a.listed i (b.listed i e);
  dead = λ i e. b.dead i (a.dead i e);
  left = λ i h e. b.left i h (a.left i h e);
}

-- Who is dead by a kept roster is lost to the open house, or who keeps it is: so a verdict needs no
-- more than this.
pub verdict : (v : View) → Rosters v → (house r : Roster) (i dead : ℕ) → v.house ≡ Some house → v.roster i ≡ Some r
    → r.status dead ≡ Dead → Lost v house dead ⊎ Lost v house i
verdict v k house r i dead open_now keeps is = ⊎_elim
    (λ (level : r.epoch ≡ house.epoch). inl
    (is_dead ((k.house_grows house r open_now (k.kept_had i r keeps) level).1.dead dead is)))
    (λ other. let most = k.house_last house r open_now (k.kept_had i r keeps) in inr
    (is_behind r keeps (omega (arith, most, other))))
    (same_or r.epoch house.epoch)

-- lost to a house stays so, where nobody works that didn't
lost_on : (v w : View) (house : Roster) (i : ℕ) → (Works (w.mode i) → Works (v.mode i)) → w.leaves ≡ v.leaves
    → w.roster i ≡ v.roster i → Lost v house i → Lost w house i
lost_on v w house i works said keeps (is_dead e) = is_dead e
lost_on v w house i works said keeps (is_gone e f) = is_gone (λ x. e (works x)) (λ x. f (rw said at x))
lost_on v w house i works said keeps (is_behind r e f) = is_behind r (keeps ∙ e) f

pub rosters_start : (v : View) (i : ℕ) → (i ∈ v.used → ⊥) → Names v → Rosters v → Rosters (start v i)
rosters_start v i new n k = record {
  member_keeps = λ j e f. k.member_keeps j (grind arith) (grind arith);
  leaver_keeps = λ j heir e f. k.leaver_keeps j heir (grind arith) (grind arith);
  joins_without = λ j e. grind (arith, k.joins_without j);
  kept_had = λ j r e. k.kept_had j r (grind arith);
  members = λ r j m e. let old = k.members r j m e in (inr old.0, old.1);
  house_had = k.house_had;
  leave_epoch = λ l r m e. k.leave_epoch l r m (grind (arith, e));
  left_to = k.left_to;
  house_left = k.house_left;
  house_last = k.house_last;
  house_grows = k.house_grows;
  grows = k.grows;
  lost_used = λ j m. inr (k.lost_used j m);
  lost_true = λ house j e m. let other : j ≡ i
      → ⊥ = λ is. new (rw is at (k.lost_used j m)) in lost_on v (start v i) house j (λ w. grind (arith, w, other)) refl
      (grind (arith, other)) (k.lost_true house j e m);
}

pub rosters_admit : (v : View) (i : ℕ) (roster : Roster) → v.mode i ≡ Joining → roster ∈ v.rosters → Leavers v
    → Rosters v → Rosters (adopt (admit v i) i roster)
rosters_admit v i roster joins had l k = record {
  member_keeps = λ j e f. ⊎_elim (λ (is : j ≡ i). grind (arith, f, is))
      (λ other. k.member_keeps j (grind (arith, e, other)) (grind (arith, f, other))) (same_or j i);
  leaver_keeps = λ j heir e f. k.leaver_keeps j heir (grind (arith, e)) (grind (arith, f, e));
  joins_without = λ j e. ⊎_elim (λ (is : j ≡ i). absurd (grind (arith, e, is))) (λ other. let x =
      k.joins_without j (grind (arith, e, other)) in grind (arith, x, other)) (same_or j i);
  kept_had = λ j r e. ⊎_elim (λ (is : j ≡ i). let one : roster ≡ r =
      some_same (grind (arith, is, e)) in rw one at had) (λ other. k.kept_had j r (grind (arith, e, other)))
      (same_or j i);
  members = k.members;
  house_had = k.house_had;
  leave_epoch = λ x r m e. k.leave_epoch x r m (let other = unsaid x m in grind (arith, e, other));
  left_to = k.left_to;
  house_left = k.house_left;
  house_last = k.house_last;
  house_grows = k.house_grows;
  grows = k.grows;
  lost_used = k.lost_used;
  lost_true = λ house j e m. kept house j (k.lost_true house j e m);
}
  where
    unsaid : (x : Leave) → x ∈ v.leaves → x.from ≡ i → ⊥
    unsaid x m e = let leaving : v.mode i ≡ Leaving x.heir =
        rw e at (l.said_leaving x m (rw (e, joins) tt)) in grind (arith, leaving, joins)

    kept : (house : Roster) (j : ℕ) → Lost v house j → Lost (adopt (admit v i) i roster) house j
    kept house j (is_dead e) = is_dead e
    kept house j (is_gone e f) = is_gone (λ w. e (grind (arith, w, joins))) f
    kept house j (is_behind r e f) = is_behind r (let bare = k.joins_without i joins in grind (arith, e, bare)) f

pub rosters_adopt : (v : View) (i : ℕ) (old roster : Roster) → MayAdopt v i old roster → Rosters v
    → Rosters (adopt v i roster)
rosters_adopt v i old roster may k = record {
  member_keeps = λ j e f. k.member_keeps j e (grind (arith, f));
  leaver_keeps = λ j heir e f. k.leaver_keeps j heir e (grind (arith, f));
  joins_without = λ j e. let x = k.joins_without j e in let keeps = may.keeps in grind (arith, x, keeps);
  kept_had = λ j r e. ⊎_elim (λ (is : j ≡ i). let one : roster ≡ r =
      some_same (grind (arith, is, e)) in rw one at may.sent) (λ other. k.kept_had j r (grind (arith, e, other)))
      (same_or j i);
  members = k.members;
  house_had = k.house_had;
  leave_epoch = λ x r m e. ⊎_elim
      (λ (is : x.from ≡ i). let one : roster ≡ r =
      some_same (grind (arith, is, e)) in k.leave_epoch x old m (rw is may.keeps) ∙ may.epoch
      ∙ ap (λ (y : Roster). y.epoch) one)
      (λ other. k.leave_epoch x r m (grind (arith, e, other)))
      (same_or x.from i);
  left_to = k.left_to;
  house_left = k.house_left;
  house_last = k.house_last;
  house_grows = k.house_grows;
  grows = k.grows;
  lost_used = k.lost_used;
  lost_true = λ house j e m. kept house j (k.lost_true house j e m);
}
  where
    kept : (house : Roster) (j : ℕ) → Lost v house j → Lost (adopt v i roster) house j
    kept house j (is_dead e) = is_dead e
    kept house j (is_gone e f) = is_gone e f
    kept house j (is_behind r e f) = ⊎_elim
        (λ (is : j ≡ i). let one : old ≡ r = some_same (sym may.keeps ∙ rw is at e) in
        let less : roster.epoch < house.epoch =
        rw (sym may.epoch ∙ ap (λ (y : Roster). y.epoch) one) f in is_behind roster (grind (arith, is)) less)
        (λ other. is_behind r (grind (arith, e, other)) f)
        (same_or j i)

-- i stops: it isn't lost by that alone
pub rosters_stop : (v : View) (i : ℕ) → Rosters v → Rosters (stop v i)
rosters_stop v i k = record {
  member_keeps = λ j e f. k.member_keeps j (grind arith) f;
  leaver_keeps = λ j heir e f. k.leaver_keeps j heir (grind arith) f;
  joins_without = λ j e. k.joins_without j (grind arith);
  kept_had = k.kept_had;
  members = k.members;
  house_had = k.house_had;
  leave_epoch = k.leave_epoch;
  left_to = k.left_to;
  house_left = k.house_left;
  house_last = k.house_last;
  house_grows = k.house_grows;
  grows = k.grows;
  lost_used = k.lost_used;
  lost_true = λ house j e m. lost_on v (stop v i) house j (λ w. grind (arith, w)) refl refl (k.lost_true house j e m);
}

pub rosters_mark_lost : (v : View) (i : ℕ) → i ∈ v.used → ((house : Roster) → v.house ≡ Some house → Lost v house i)
    → Rosters v → Rosters (mark_lost v i)
rosters_mark_lost v i used is k =
    let lost_used : (j : ℕ) → j ∈ (i ∷ v.lost)
    → j ∈ v.used = λ j. elim [ inl e ↦ rw e used | inr m ↦ k.lost_used j m ] in
    let lost_true : (house : Roster) (j : ℕ) → v.house ≡ Some house → j ∈ (i ∷ v.lost)
    → Lost v house j = λ house j e. elim [ inl f ↦ rw f (is house e) | inr m ↦ k.lost_true house j e m ] in
    assumption (lost_used, lost_true, k)

pub rosters_fail : (v : View) (i : ℕ) → MayFail v i → Names v → Rosters v → Rosters (fail v i)
rosters_fail v i may n k =
    let used : i ∈ v.used = n.up_used i may.works in
    let failed = rosters_mark_lost (stop v i) i used
    (λ house e. is_gone (λ w. grind (arith, w))
    (λ x. may.unsaid (record { leave = x.leave; sent = x.sent; from = x.from }))) (rosters_stop v i k) in
    assumption failed

pub rosters_freeze : (v : View) (i heir : ℕ) → v.mode i ≡ Member → Rosters v
    → Rosters (record v { mode = put v.mode i (Leaving heir) })
rosters_freeze v i heir member k = record {
  member_keeps = λ j e f. k.member_keeps j (grind arith) f;
  leaver_keeps = λ j to e f. ⊎_elim (λ (is : j ≡ i). k.member_keeps i member (rw is at f))
      (λ other. k.leaver_keeps j to (grind (arith, e, other)) f) (same_or j i);
  joins_without = λ j e. k.joins_without j (grind arith);
  kept_had = k.kept_had;
  members = k.members;
  house_had = k.house_had;
  leave_epoch = k.leave_epoch;
  left_to = k.left_to;
  house_left = k.house_left;
  house_last = k.house_last;
  house_grows = k.house_grows;
  grows = k.grows;
  lost_used = k.lost_used;
  lost_true = λ house j e m. lost_on v (record v { mode = put v.mode i (Leaving heir) }) house j
      (λ w. grind (arith, w, member)) refl refl (k.lost_true house j e m);
}

pub rosters_leave : (v : View) (i heir : ℕ) (roster : Roster) → v.mode i ≡ Leaving heir → v.roster i ≡ Some roster
    → Rosters v → Rosters (leave v i heir roster.epoch)
rosters_leave v i heir roster leaving keeps k = record {
  member_keeps = k.member_keeps;
  leaver_keeps = k.leaver_keeps;
  joins_without = k.joins_without;
  kept_had = k.kept_had;
  members = k.members;
  house_had = k.house_had;
  leave_epoch = λ l r. elim [
    | inl e ↦ (λ f. let at : v.roster i ≡ Some r =
        rw (ap (λ (x : Leave). x.from) e) at f in ap (λ (x : Leave). x.epoch) e
        ∙ ap (λ (x : Roster). x.epoch) (some_same (sym keeps ∙ at)))
    | inr m ↦ k.leave_epoch l r m
  ];
  left_to = λ r j h m e. more (k.left_to r j h m e);
  house_left = λ house j h e f. more (k.house_left house j h e f);
  house_last = k.house_last;
  house_grows = k.house_grows;
  grows = k.grows;
  lost_used = k.lost_used;
  lost_true = λ house j e m. kept house j (k.lost_true house j e m);
}
  where
    more : {j epoch : ℕ} → SaidTo v.leaves j epoch → SaidTo (leave v i heir roster.epoch).leaves j epoch
    more a = record { leave = a.leave; sent = inr a.sent; from = a.from; epoch_is = a.epoch_is }

    unsaid : (j epoch : ℕ) → (Works (v.mode j) → ⊥) → (SaidTo v.leaves j epoch → ⊥) → (l : Leave)
        → l ∈ (leave v i heir roster.epoch).leaves → l.from ≡ j → l.epoch ≡ epoch → ⊥
    unsaid j epoch gone never l (inl e) f g = let at : i ≡ j =
        sym (ap (λ (x : Leave). x.from) e) ∙ f in gone (rw (← at, leaving) tt)
    unsaid j epoch gone never l (inr m) f g = never (record { leave = l; sent = m; from = f; epoch_is = g })

    kept : (house : Roster) (j : ℕ) → Lost v house j → Lost (leave v i heir roster.epoch) house j
    kept house j (is_dead e) = is_dead e
    kept house j (is_gone e f) = is_gone e (λ x. unsaid j house.epoch e f x.leave x.sent x.from x.epoch_is)
    kept house j (is_behind r e f) = is_behind r e f

pub rosters_publish : (v : View) (h roster : Roster) → MayPublish v h roster → Rosters v → Rosters (publish v roster)
rosters_publish v h roster may k = record {
  member_keeps = k.member_keeps;
  leaver_keeps = k.leaver_keeps;
  joins_without = k.joins_without;
  kept_had = λ j r e. inr (k.kept_had j r e);
  members = λ r j. elim [ inl e ↦ (λ f. may.members j (rw e at f)) | inr m ↦ k.members r j m ];
  house_had = λ x e. inl (inl (sym (some_same e)));
  leave_epoch = k.leave_epoch;
  left_to = λ r i j. elim [ inl e ↦ (λ f. rw e (said i j (may.left i j (rw e at f)))) | inr m ↦ k.left_to r i j m ];
  house_left = λ house i j e f. rw (← (now_is house e)) (said i j (may.left i j (rw (← (now_is house e)) at f)));
  house_last = λ x r e. elim [
    | inl f ↦ (let is : r.epoch ≡ x.epoch = ap (λ (y : Roster). y.epoch) (f ∙ now_is x e) in omega (arith, is))
    | inr m ↦ (let last = k.house_last h r may.open_house m in let is : roster.epoch ≡ x.epoch =
        ap (λ (y : Roster). y.epoch) (now_is x e) in let old = may.epoch in omega (arith, last, is, old))
  ];
  house_grows = λ x r e. elim [
    | inl f ↦ (λ g. rw (f ∙ now_is x e) (let most : x.version ≤ x.version = omega arith in (most, grows_same x)))
    | inr m ↦ (λ g. let old = k.house_grows h r may.open_house m (g ∙ ap (λ (y : Roster). y.epoch) (sym (now_is x e))
        ∙ may.epoch) in
        rw (← (now_is x e)) (let most : r.version ≤ roster.version =
        (let z = old.0 in let newer = may.newer in omega (arith, z, newer)) in (most, grows_on old.1 may.grows)))
  ];
  grows = λ r s. elim [
    | inl e ↦ elim [
      | inl f ↦ (λ g less. let level : r.version ≡ s.version =
          ap (λ (y : Roster). y.version) (e ∙ sym f) in absurd (omega (arith, level, less)))
      | inr m ↦ (λ g less. let old = (k.house_grows h s may.open_house m (sym g ∙ ap (λ (y : Roster). y.epoch) e
          ∙ may.epoch)).0 in let level : r.version ≡ roster.version = ap (λ (y : Roster). y.version) e in let newer =
          may.newer in absurd (omega (arith, old, level, less, newer)))
    ]
    | inr m ↦ elim [
      | inl f ↦ (λ g less. rw f (grows_on
          (k.house_grows h r may.open_house m (g ∙ ap (λ (y : Roster). y.epoch) f ∙ may.epoch)).1 may.grows))
      | inr o ↦ k.grows r s m o
    ]
  ];
  lost_used = k.lost_used;
  lost_true = λ x j e m. rw (← (now_is x e)) (kept j (k.lost_true h j may.open_house m));
}
  where
    now_is : (x : Roster) → Some roster ≡ Some x → roster ≡ x
    now_is x e = some_same e

    said : (i j : ℕ) → ShowsLeft v roster.epoch i j → SaidTo v.leaves i roster.epoch
    said i j (before r m level e) = let a =
        k.left_to r i j m e in record { leave = a.leave; sent = a.sent; from = a.from; epoch_is = a.epoch_is ∙ level }
    said i j (now r l m o e level way) = record { leave = l; sent = o; from = e; epoch_is = level }

    kept : (j : ℕ) → Lost v h j → Lost (publish v roster) roster j
    kept j (is_dead e) = is_dead (may.grows.dead j e)
    kept j (is_gone e f) = is_gone e (λ x.
        f (record { leave = x.leave; sent = x.sent; from = x.from; epoch_is = x.epoch_is ∙ may.epoch }))
    kept j (is_behind r e f) = is_behind r e (rw may.epoch f)

-- to a new house, who worked and joins no more is gone without a Leave to it, or of an earlier
-- epoch
pub rosters_open : (v : View) (i : ℕ) (lost : List ℕ) (roster : Roster) → MayOpen v i lost roster → Names v → Rosters v
    → Rosters (open_house v i lost roster)
rosters_open v i lost roster may n k = record {
  member_keeps = λ j e f. k.member_keeps j (grind arith) (grind arith);
  leaver_keeps = λ j heir e f. k.leaver_keeps j heir (grind arith) (grind arith);
  joins_without = λ j e. grind (arith, k.joins_without j);
  kept_had = λ j r e. k.kept_had j r (grind arith);
  members = λ r j m e. let old = k.members r j m e in (inr old.0, old.1);
  house_had = λ x e. inr (λ j. let is : roster ≡ x = some_same e in rw (← is) (may.unlisted j));
  leave_epoch = λ l r m e. k.leave_epoch l r m (grind (arith, e));
  left_to = k.left_to;
  house_left = λ x j heir e f. let bare = may.unlisted j in let is : roster ≡ x =
      some_same e in let left : roster.status j ≡ Left heir = rw (← is) at f in absurd (cc);
  house_last = λ x r e m. let older = may.rosters_older r m in let is : roster.epoch ≡ x.epoch =
      ap (λ (y : Roster). y.epoch) (some_same e) in omega (arith, older, is);
  house_grows = λ x r e m g. let older = may.rosters_older r m in let is : roster.epoch ≡ x.epoch =
      ap (λ (y : Roster). y.epoch) (some_same e) in absurd (omega (arith, older, is, g));
  grows = k.grows;
  lost_used = λ j m. inr (may.lost_old j m).0;
  lost_true = λ x j e m. let is : roster ≡ x = some_same e in rw (← is) (by j (v.mode j) refl m);
}
  where
    unsaid : (j : ℕ) → SaidTo v.leaves j roster.epoch → ⊥
    unsaid j a = let older = may.leaves_older a.leave a.sent in let is = a.epoch_is in omega (arith, older, is)

    other : (j : ℕ) → j ∈ lost → j ≡ i → ⊥
    other j m is = may.new (rw is at (may.lost_old j m).0)

    keeps : (j : ℕ) → j ∈ lost → (o : Option Roster) → v.roster j ≡ o → (v.roster j ≡ None → ⊥)
        → Lost (open_house v i lost roster) roster j
    keeps j m None e f = absurd (f e)
    keeps j m (Some r) e f = let apart =
        other j m in is_behind r (grind (arith, e, apart)) (may.rosters_older r (k.kept_had j r e))

    by : (j : ℕ) (m : Mode) → v.mode j ≡ m → j ∈ lost → Lost (open_house v i lost roster) roster j
    by j Gone e m = let apart = other j m in is_gone (λ w. grind (arith, w, e, apart)) (unsaid j)
    by j Joining e m = absurd (may.lost_joined j m e)
    by j House e m = absurd ((may.lost_old j m).1 e)
    by j Member e m = keeps j m (v.roster j) refl (k.member_keeps j e)
    by j (Leaving heir) e m = keeps j m (v.roster j) refl (k.leaver_keeps j heir e)

-- without an open house
pub rosters_close : (v : View) (i : ℕ) → Rosters v → Rosters (close_house v i)
rosters_close v i k =
    let stopped = rosters_stop v i k in
    let house_had : (x : Roster) → None ≡ Some x → (x ∈ v.rosters) ⊎ ((j : ℕ) → x.status j ≡ Unlisted) = λ x e. cc in
    let house_left : (x : Roster) (j heir : ℕ) → None ≡ Some x → x.status j ≡ Left heir
    → SaidTo v.leaves j x.epoch = λ x j heir e. cc in
    let house_last : (x r : Roster) → None ≡ Some x → r ∈ v.rosters → r.epoch ≤ x.epoch = λ x r e. cc in
    let house_grows : (x r : Roster) → None ≡ Some x → r ∈ v.rosters → r.epoch ≡ x.epoch
    → (r.version ≤ x.version) × Grows r x = λ x r e. cc in
    let lost_true : (x : Roster) (j : ℕ) → None ≡ Some x → j ∈ v.lost → Lost (close_house v i) x j = λ x j e. cc in
    assumption (house_had, house_left, house_last, house_grows, lost_true, stopped)
