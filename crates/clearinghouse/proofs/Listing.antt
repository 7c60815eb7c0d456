-- What holds of a roster is kept by each change of it.
use Rattle.std.proofs.Common.{◌≡◌, ℕ, ◌+◌, ◌<◌, ◌≤◌, ◌-◌, Bool, true, false, not, ◌&&◌, ◌||◌, nat_eq, nat_lt, IsTrue, List, [], ◌∷◌, length, map, cond, Option, Some, None, refl, sym, ap, Ordering, Less, Equal, Greater, arith}
use Rattle.std.specs.List.{AllByRecursion, list_any}
use Rattle.std.specs.Ordering.{is_eq}
use Rattle.std.proofs.lemmas.List.{length-map}
use Rattle.ids.specs.Keyed.{has_key}
use Rattle.ids.specs.Members.{is_live, resolve, says_live, status_in}
use Rattle.ids.specs.Named.{Name, name_cmp, item_in, put_in}
use Rattle.ids.specs.Naming.{name_of_member}
use Rattle.ids.specs.Options.{◌>>=◌}
use Rattle.ids.specs.declared.member.Member.{Member}
use Rattle.ids.specs.declared.member.Status.{Status}
use Rattle.ids.specs.declared.member.Status.TheVariants.{Live, Dead, Left}
use Rattle.ids.proofs.NameOrder.{exact_names}
use Rattle.codec.specs.Rosters.{has_another}
use Rattle.clearinghouse.specs.House.{member_of, name_of_enlisted}
use Rattle.clearinghouse.specs.Laws.{IsListing, living, one_if}
use Rattle.clearinghouse.specs.Moves.{declared_dead, changed, is_lost, leaving_status, left_to}
use Rattle.clearinghouse.specs.declared.parts.Enlisted.{Enlisted}
use Rattle.clearinghouse.proofs.Changing.{all_put, change_at, change_keeps, changed_everywhere, rising_map, rising_put, sum_put}

abbrev HasAnother : Enlisted → Type 0
HasAnother w = IsTrue (has_another w.incarnation w.status)

abbrev lives : Enlisted → Bool
lives w = says_live (Some w.status)

all_mapped : (f : Enlisted → Enlisted) → ((w : Enlisted) → HasAnother w → HasAnother (f w)) → (ws : List Enlisted)
    → AllByRecursion HasAnother ws → AllByRecursion HasAnother (map f ws)
all_mapped f keeps [] h = tt
all_mapped f keeps (w ∷ ws) h = (keeps w h.0, all_mapped f keeps ws h.1)

-- no more live where nobody comes to life
at_most : (f : Enlisted → Enlisted) → ((w : Enlisted) → one_if (lives (f w)) ≤ one_if (lives w)) → (ws : List Enlisted)
    → living (map f ws) ≤ living ws
at_most f less [] = omega arith
at_most f less (w ∷ ws) = let rest : living (map f ws) ≤ living ws = at_most f less ws in omega (arith, less w, rest)

-- a map that keeps names, and makes nobody live, to another version
mapped : (f : Enlisted → Enlisted) (version next : ℕ) (ws : List Enlisted)
    → ((w : Enlisted) → name_of_enlisted (f w) ≡ name_of_enlisted w)
    → ((w : Enlisted) → HasAnother w → HasAnother (f w)) → next + living (map f ws) ≤ version + living ws
    → IsListing version ws → IsListing next (map f ws)
mapped f version next ws names heirs less is = record {
  few = let same : length (map f ws) ≡ length ws = length-map ws f in omega (arith, same, is.few);
  rising = rising_map name_of_enlisted f names ws is.rising;
  heirs = all_mapped f heirs ws is.heirs;
  counted = let same : length (map f ws) ≡ length ws = length-map ws f in omega (arith, same, is.counted, less);
}

-- a worker that has a name
named : (i : ℕ) (w : Enlisted) → has_key name_of_enlisted name_cmp (i, 0) w ≡ true → w.incarnation ≡ i
named i w is = by_order (name_cmp (i, 0) (w.incarnation, 0)) refl is
  where
    by_order : (r : Ordering) → name_cmp (i, 0) (w.incarnation, 0) ≡ r → is_eq r ≡ true → w.incarnation ≡ i
    by_order Less order at = cc
    by_order Equal order at = ap (λ (n : Name). n.0) (sym (exact_names (i, 0) (w.incarnation, 0) order))
    by_order Greater order at = cc

-- a worker is heard
abbrev hear : ℕ → Enlisted → Enlisted
hear moment w = record w { heard = moment }

abbrev hear_at : (i moment : ℕ) → Enlisted → Enlisted
hear_at i moment w = change_at name_of_enlisted (hear moment) (i, 0) w

hear_heirs : (i moment : ℕ) (w : Enlisted) → HasAnother w → HasAnother (hear_at i moment w)
hear_heirs i moment w h = by_test (has_key name_of_enlisted name_cmp (i, 0) w)
  where
    by_test : (b : Bool) → HasAnother (cond b (hear moment w) w)
    by_test true = h
    by_test false = h

hear_less : (i moment : ℕ) (w : Enlisted) → one_if (lives (hear_at i moment w)) ≤ one_if (lives w)
hear_less i moment w = by_test (has_key name_of_enlisted name_cmp (i, 0) w)
  where
    by_test : (b : Bool) → one_if (lives (cond b (hear moment w) w)) ≤ one_if (lives w)
    by_test true = omega arith
    by_test false = omega arith

pub heard_listing : (i moment version : ℕ) (ws : List Enlisted) → IsListing version ws
    → IsListing version (changed (hear moment) i ws)
heard_listing i moment version ws is =
    let fewer : living (map (hear_at i moment) ws) ≤ living ws = at_most (hear_at i moment) (hear_less i moment) ws in
    rw (changed_everywhere name_of_enlisted (hear moment) (λ w. refl) (i, 0) ws is.rising)
    (mapped (hear_at i moment) version version ws (change_keeps name_of_enlisted (hear moment) (λ w. refl) (i, 0))
    (hear_heirs i moment) (omega (arith, fewer)) is)

-- something else is said of a live one, which doesn't live then
abbrev say : Status → Enlisted → Enlisted
say s w = record w { status = s }

abbrev say_at : ℕ → Status → Enlisted → Enlisted
say_at i s w = change_at name_of_enlisted (say s) (i, 0) w

abbrev status_of : Option Member → Option Status
status_of o = o >>= λ m. Some m.status

module _ (i : ℕ) (s : Status) (gone : says_live (Some s) ≡ false) where
  say_heirs : IsTrue (has_another i s) → (w : Enlisted) → HasAnother w → HasAnother (say_at i s w)
  say_heirs another w h = by_test (has_key name_of_enlisted name_cmp (i, 0) w) refl
    where
      by_test : (b : Bool) → has_key name_of_enlisted name_cmp (i, 0) w ≡ b → HasAnother (cond b (say s w) w)
      by_test true is = rw (named i w is) another
      by_test false is = h

  say_less : (w : Enlisted) → one_if (lives (say_at i s w)) ≤ one_if (lives w)
  say_less w = by_test (has_key name_of_enlisted name_cmp (i, 0) w)
    where
      none : one_if (says_live (Some s)) ≡ 0
      none = ap one_if gone

      by_test : (b : Bool) → one_if (lives (cond b (say s w) w)) ≤ one_if (lives w)
      by_test true = omega (arith, none)
      by_test false = omega arith

  say_fewer : (ws : List Enlisted) → says_live (status_in i (map member_of ws)) ≡ true
      → living (map (say_at i s) ws) + 1 ≤ living ws
  say_fewer [] live = cc
  say_fewer (w ∷ ws) live = by_test (say_fewer ws) (at_most (say_at i s) say_less ws)
      (has_key name_of_enlisted name_cmp (i, 0) w) live
    where
      by_test : (says_live (status_in i (map member_of ws)) ≡ true → living (map (say_at i s) ws) + 1 ≤ living ws)
          → living (map (say_at i s) ws) ≤ living ws → (b : Bool)
          → says_live (status_of (cond b (Some (member_of w)) (item_in name_of_member (i, 0) (map member_of ws))))
          ≡ true → one_if (lives (cond b (say s w) w)) + living (map (say_at i s) ws) + 1 ≤ one_if (lives w) + living ws
      by_test rest less true at =
          let none : one_if (says_live (Some s)) ≡ 0 = ap one_if gone in
          let one : one_if (lives w) ≡ 1 = ap one_if at in
          omega (arith, none, one, less)
      by_test rest less false at = let behind : living (map (say_at i s) ws) + 1 ≤ living ws =
          rest at in omega (arith, behind)

  pub said_listing : (version : ℕ) (ws : List Enlisted) → IsTrue (has_another i s)
      → says_live (status_in i (map member_of ws)) ≡ true → IsListing version ws
      → IsListing (version + 1) (changed (say s) i ws)
  said_listing version ws another live is =
      let fewer : living (map (say_at i s) ws) + 1 ≤ living ws = say_fewer ws live in
      rw (changed_everywhere name_of_enlisted (say s) (λ w. refl) (i, 0) ws is.rising)
      (mapped (say_at i s) version (version + 1) ws (change_keeps name_of_enlisted (say s) (λ w. refl) (i, 0))
      (say_heirs another) (omega (arith, fewer)) is)

-- those that are lost don't live any more
module _ (limit now : ℕ) where
  declare_dead_heirs : (w : Enlisted) → HasAnother w → HasAnother (declared_dead limit now w)
  declare_dead_heirs w h = by_test (is_lost limit now w)
    where
      by_test : (b : Bool) → HasAnother (say (cond b Dead w.status) w)
      by_test true = refl
      by_test false = h

  declare_dead_less : (w : Enlisted) → one_if (lives (declared_dead limit now w)) ≤ one_if (lives w)
  declare_dead_less w = by_test (is_lost limit now w)
    where
      by_test : (b : Bool) → one_if (lives (say (cond b Dead w.status) w)) ≤ one_if (lives w)
      by_test true = omega arith
      by_test false = omega arith

  lost_lives : (w : Enlisted) → is_lost limit now w ≡ true → lives w ≡ true
  lost_lives w lost = by_test (lives w) lost
    where
      by_test : (b : Bool) → (b && nat_lt limit (now - w.heard)) ≡ true → b ≡ true
      by_test true at = refl
      by_test false at = cc

  declare_dead_fewer : (ws : List Enlisted) → list_any (is_lost limit now) ws ≡ true
      → living (map (declared_dead limit now) ws) + 1 ≤ living ws
  declare_dead_fewer [] some = cc
  declare_dead_fewer (w ∷ ws) some = by_test (declare_dead_fewer ws)
      (at_most (declared_dead limit now) declare_dead_less ws) (is_lost limit now w) refl some
    where
      by_test : (list_any (is_lost limit now) ws ≡ true → living (map (declared_dead limit now) ws) + 1 ≤ living ws)
          → living (map (declared_dead limit now) ws) ≤ living ws → (b : Bool) → is_lost limit now w ≡ b
          → (b || list_any (is_lost limit now) ws) ≡ true
          → one_if (lives (say (cond b Dead w.status) w)) + living (map (declared_dead limit now) ws) + 1
          ≤ one_if (lives w) + living ws
      by_test rest less true is at = let one : one_if (lives w) ≡ 1 =
          ap one_if (lost_lives w is) in omega (arith, one, less)
      by_test rest less false is at = let behind : living (map (declared_dead limit now) ws) + 1 ≤ living ws =
          rest at in omega (arith, behind)

  pub declared_dead_listing : (version : ℕ) (ws : List Enlisted) → list_any (is_lost limit now) ws ≡ true
      → IsListing version ws → IsListing (version + 1) (map (declared_dead limit now) ws)
  declared_dead_listing version ws some is =
      let fewer : living (map (declared_dead limit now) ws) + 1 ≤ living ws = declare_dead_fewer ws some in
      mapped (declared_dead limit now) version (version + 1) ws (λ w. refl) declare_dead_heirs (omega (arith, fewer)) is

-- a new worker
not_there : (i : ℕ) (ws : List Enlisted) → status_in i (map member_of ws) ≡ None
    → item_in name_of_enlisted (i, 0) ws ≡ None
not_there i [] none = refl
not_there i (w ∷ ws) none = by_test (not_there i ws) (has_key name_of_enlisted name_cmp (i, 0) w) none
  where
    by_test : (status_in i (map member_of ws) ≡ None → item_in name_of_enlisted (i, 0) ws ≡ None) → (b : Bool)
        → status_of (cond b (Some (member_of w)) (item_in name_of_member (i, 0) (map member_of ws))) ≡ None
        → cond b (Some w) (item_in name_of_enlisted (i, 0) ws) ≡ None
    by_test rest true at = cc
    by_test rest false at = rest at

pub listed_listing : (w : Enlisted) (version : ℕ) (ws : List Enlisted) → w.status ≡ Live
    → status_in w.incarnation (map member_of ws) ≡ None → length ws < 4096 → IsListing version ws
    → IsListing (version + 1) (put_in name_of_enlisted w ws)
listed_listing w version ws live none room is =
    let new : item_in name_of_enlisted (w.incarnation, 0) ws ≡ None = not_there w.incarnation ws none in
    let longer : length (put_in name_of_enlisted w ws) ≡ 1 + length ws =
    sum_put name_of_enlisted (λ v. 1) length (λ v vs. omega arith) w ws new in
    let more : living (put_in name_of_enlisted w ws) ≡ one_if (lives w) + living ws =
    sum_put name_of_enlisted (λ v. one_if (lives v)) living (λ v vs. refl) w ws new in
    let one : one_if (lives w) ≡ 1 = ap (λ s. one_if (says_live (Some s))) live in record {
      few = omega (arith, longer, room);
      rising = rising_put name_of_enlisted w ws is.rising;
      heirs = all_put name_of_enlisted HasAnother w ws (rw live refl) is.heirs;
      counted = omega (arith, longer, more, one, is.counted);
    }

-- what becomes of a member that leaves
module _ (i : ℕ) (members : List Member) where
  gone_to : (o : Option ℕ) → says_live (Some (left_to i members o)) ≡ false
  gone_to None = refl
  gone_to (Some heir) = by_test (not (nat_eq heir i) && is_live heir members)
    where
      by_test : (b : Bool) → says_live (Some (cond b (Left heir) Dead)) ≡ false
      by_test true = refl
      by_test false = refl

  another_to : (o : Option ℕ) → IsTrue (has_another i (left_to i members o))
  another_to None = refl
  another_to (Some heir) = by_test (nat_eq heir i) refl (is_live heir members)
    where
      by_test : (b : Bool) → nat_eq heir i ≡ b → (live : Bool)
          → IsTrue (has_another i (cond (not b && live) (Left heir) Dead))
      by_test true is live = refl
      by_test false is true = rw is refl
      by_test false is false = refl

  pub leaver_gone : (heir : ℕ) → says_live (Some (leaving_status i heir members)) ≡ false
  leaver_gone heir = gone_to (resolve members heir)

  pub leaver_heir : (heir : ℕ) → IsTrue (has_another i (leaving_status i heir members))
  leaver_heir heir = another_to (resolve members heir)
