-- The run goes on: the first worker departs, the second takes over what it held, and the house
-- shows the first as left.
use Rattle.std.proofs.Common.{◌⊎◌, ◌<◌, ◌≡◌, ℕ, true, nat_eq, if◌then◌else◌, [], ◌∷◌, Some, None, refl, inl, inr, ⊎_elim, arith, ap, ◌∙◌}
use Rattle.ids.specs.Names.{Grant}
use Rattle.table_laws.specs.Tables.{◌∈◌}
use Rattle.table_laws.specs.View.{Transfer, Unlisted, Live as Listed, Left, Roster, Sub, Reply, View}
use Rattle.table_laws.specs.Facts.{of_worker, Live, ack_of, offer_of, stays}
use Rattle.table_laws.specs.Moves.{freeze, take, remove, leave, stop, publish}
use Rattle.table_laws.specs.Guards.{IsOffer, MayFreeze, Free, taken, ShowsLeft, now}
use Rattle.table_laws.specs.Acts.{ReachedInTables, by_act, freezes, takes_offer, releases, leaves, goes, publishes}
use Rattle.table_laws.proofs.Lists.{same_or, grant_or, some_same}
use Rattle.table_laws.proofs.Sample.{both_members, both, second_name, root, kids_grant}
use Rattle.table_laws.proofs.SampleEnd.{returned, filled_view, filled_reached}

abbrev held : Sub
held = record { hop = 0; content = returned }

abbrev offer : Transfer
offer = offer_of 1 2 root held

only_root : (g : Grant) (s : Sub) → filled_view.subs 1 g ≡ Some s → offer_of 1 2 g s ≡ offer
only_root g s e = ⊎_elim
    (λ (is : g ≡ root). let at : Some held ≡ Some s = rw is at e in let one : held ≡ s =
    some_same at in rw (is, ← one) refl)
    (λ other. absurd (grind (arith, e, other)))
    (grant_or g root)

is_offer : (t : Transfer) → t ∈ (offer ∷ []) → IsOffer (filled_view.subs 1) 1 2 t
is_offer t (inl e) = rw e (record { sub = held; holds = refl; is = refl })
is_offer t (inr m) = absurd m

may_freeze : MayFreeze filled_view 1 2 (offer ∷ [])
may_freeze = record {
  member = refl;
  idle = refl;
  heir_used = inl refl;
  heir_worker = second_name;
  heir_other = λ e. omega (arith, e);
  each = is_offer;
  all = λ g s e. inl (only_root g s e);
}

abbrev departing : View
departing = freeze filled_view 1 2 (offer ∷ [])

abbrev inherited : View
inherited = take departing 2 offer None (ack_of offer ∷ [])

abbrev released : View
released = remove inherited 1 root []

inherited_reached : ReachedInTables inherited
inherited_reached = by_act (by_act filled_reached (freezes 1 2 (offer ∷ []) may_freeze))
    (takes_offer 2 offer 0 (record {
      sent = inl refl;
      to = refl;
      member = refl;
      above = tt;
      acks = λ a. elim [ inl e ↦ e | inr m ↦ absurd m ];
    }) refl)

released_reached : ReachedInTables released
released_reached = by_act inherited_reached
    (releases 1 2 root held (record { leaving = refl; holds = refl; acked = inl refl }))

nothing_held : (g : Grant) → released.subs 1 g ≡ None
nothing_held g = ⊎_elim (λ (is : g ≡ root). rw is refl) (λ other. grind (arith, other)) (grant_or g root)

-- the kid's thief has acknowledged it
heard_all : (thief : ℕ) (r : Reply) (t : Transfer) → released.kept 1 thief ≡ Some r → r.given ≡ Some t
    → Free released 1 thief t
heard_all thief r t e f = ⊎_elim
    (λ (is : thief ≡ 2).
    let at : Some (record { seq = 1; given = Some kids_grant }) ≡ Some r = rw is at e in
    let given : kids_grant ≡ t = some_same (ap (λ (x : Reply). x.given) (some_same at) ∙ f) in
    taken (rw (← given) (inr (inl refl))))
    (λ other. absurd (grind (arith, e, other)))
    (same_or thief 2)

abbrev gone : View
gone = stop (leave released 1 2 1) 1

gone_reached : ReachedInTables gone
gone_reached = by_act (by_act released_reached
    (leaves 1 2 both refl (record { leaving = refl; empty = nothing_held; free = heard_all })))
    (goes 1 (record { leave = record { from = 1; heir = 2; epoch = 1 }; sent = inl refl; from = refl }))

-- the house's next roster
abbrev pub shown : Roster
shown = record {
  epoch = 1;
  version = 2;
  left = 1;
  status = λ i. if nat_eq i 1 then Left 2 else (if nat_eq i 2 then Listed else Unlisted);
}

shown_members : (i : ℕ) → (shown.status i ≡ Unlisted → ⊥) → (i ∈ gone.used) × (of_worker i ≡ true)
shown_members i e = both_members i (λ f. e (grind (arith, f)))

why_left : (i h : ℕ) → shown.status i ≡ Left h → ShowsLeft gone 1 i h
why_left i h e = ⊎_elim
    (λ (is : i ≡ 1).
    let at : Left 2 ≡ Left h = rw is at e in
    let heir : 2 ≡ h = cc in
    rw (is, ← heir) (now both (record { from = 1; heir = 2; epoch = 1 }) (inl refl) (inl refl) refl refl (stays 2)))
    (λ other. absurd (grind (arith, e, other)))
    (same_or i 1)

heir_lives : (i h : ℕ) → shown.status i ≡ Left h → (both.status i ≡ Left h) ⊎ ((shown.status h ≡ Listed) × (0 < 1))
heir_lives i h e = ⊎_elim
    (λ (is : i ≡ 1). let at : Left 2 ≡ Left h = rw is at e in let heir : 2 ≡ h =
    cc in inr (rw (← heir) refl, omega arith))
    (λ other. absurd (grind (arith, e, other)))
    (same_or i 1)

abbrev pub left_view : View
left_view = publish gone shown

pub left_reached : ReachedInTables left_view
left_reached = by_act gone_reached
    (publishes both shown (record {
      open_house = refl;
      epoch = refl;
      newer = omega arith;
      grows =
          record { listed = λ i e. grind (arith, e); dead = λ i e. grind (arith, e); left = λ i h e. grind (arith, e) };
      members = shown_members;
      left = why_left;
      heir_lives = heir_lives;
      left_most = omega arith;
    }))

-- the heir holds the sub, which came by its Offer
abbrev pub heirs_sub : Sub
heirs_sub = record { hop = 1; content = returned }

pub heir_holds : Live left_view 2 root heirs_sub
heir_holds = record { member = refl; holds = refl }
