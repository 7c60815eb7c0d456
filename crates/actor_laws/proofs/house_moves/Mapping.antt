-- A next list of workers, in which some of those that lived are dead or have left.
use Rattle.std.proofs.Common.{◌≡◌, ◌+◌, ◌≤◌, ℕ, List, length, map, ◌⊎◌, inl, inr, ⊎_elim, Option, None, Some, refl, sym, ◌∙◌, arith}
use Rattle.std.specs.Option.{option_map}
use Rattle.std.proofs.lemmas.List.{length-map}
use Rattle.ids.specs.Named.{item_in}
use Rattle.ids.specs.Members.{status_in}
use Rattle.ids.specs.declared.member.Status.{Status}
use Rattle.ids.specs.declared.member.Status.TheVariants as member
use Rattle.clearinghouse.specs.House.{HouseOf, member_of, members_of, name_of_enlisted}
use Rattle.clearinghouse.specs.Laws.{living}
use Rattle.clearinghouse.specs.declared.parts.Enlisted.{Enlisted}
use Rattle.table_laws.specs.View.{View}
use Rattle.table_laws.proofs.Lists.{some_same}
use Rattle.actor_laws.proofs.house_moves.Listed.{kept_found, mapped_status, status_kept}
use Rattle.actor_laws.proofs.house_moves.Publishing.{IsNext, NewlyLeft}

-- what is said of worker i, before and after
pub data Goes (v : View) (h : HouseOf) (ws : List Enlisted) (more i : ℕ) : Status → Status → Type 0 where
  stands : (x : Status) → Goes v h ws more i x x
  dies : Goes v h ws more i member.Live member.Dead
  leaves_to : (heir : ℕ) → NewlyLeft v h ws more i heir → Goes v h ws more i member.Live (member.Left heir)

module _ (v : View) (h : HouseOf) (f : Enlisted → Enlisted) (names : (w : Enlisted)
    → name_of_enlisted (f w) ≡ name_of_enlisted w) (more : ℕ) (goes : (i : ℕ) (w : Enlisted)
    → item_in name_of_enlisted (i, 0) h.workers ≡ Some w
    → Goes v h (map f h.workers) more i w.status (f w).status)
    (fewer : living (map f h.workers) + more ≤ living h.workers) where
  abbrev ws : List Enlisted
  ws = map f h.workers

  abbrev item : ℕ → Option Enlisted
  item i = item_in name_of_enlisted (i, 0) h.workers

  was : (i : ℕ) → status_in i (members_of h) ≡ status_kept (item i)
  was i = kept_found i h.workers

  is : (i : ℕ) → status_in i (map member_of ws) ≡ status_kept (option_map f (item i))
  is i = mapped_status f names i h.workers

  unlisted : (o : Option Enlisted) → status_kept (option_map f o) ≡ None → status_kept o ≡ None
  unlisted None e = refl
  unlisted (Some w) e = cc

  still_unlisted : (o : Option Enlisted) → status_kept o ≡ None → status_kept (option_map f o) ≡ None
  still_unlisted None e = refl
  still_unlisted (Some w) e = cc

  -- who didn't live stays what it was
  stays : (i : ℕ) (z : Status) → (z ≡ member.Live → ⊥) → (o : Option Enlisted) → item i ≡ o → status_kept o ≡ Some z
      → status_kept (option_map f o) ≡ Some z
  stays i z dead None there e = cc
  stays i z dead (Some w) there e = by_goes w.status (f w).status (goes i w there) e
    where
      by_goes : (x y : Status) → Goes v h ws more i x y → Some x ≡ Some z → Some y ≡ Some z
      by_goes _ _ (stands x) same = same
      by_goes _ _ dies same = absurd (dead (sym (some_same same)))
      by_goes _ _ (leaves_to heir new) same = absurd (dead (sym (some_same same)))

  left : (i x : ℕ) (o : Option Enlisted) → item i ≡ o → status_kept (option_map f o) ≡ Some (member.Left x)
      → (status_kept o ≡ Some (member.Left x)) ⊎ NewlyLeft v h ws more i x
  left i x None there e = cc
  left i x (Some w) there e = by_goes w.status (f w).status (goes i w there) e
    where
      by_goes : (y z : Status) → Goes v h ws more i y z → Some z ≡ Some (member.Left x)
          → (Some y ≡ Some (member.Left x)) ⊎ NewlyLeft v h ws more i x
      by_goes _ _ (stands y) same = inl same
      by_goes _ _ dies same = cc
      by_goes _ _ (leaves_to heir new) same = let heir_is : heir ≡ x = cc in inr (rw heir_is at new)

  pub next_by_map : IsNext v h ws more
  next_by_map = record {
    unlisted = λ i e. was i ∙ unlisted (item i) (sym (is i) ∙ e);
    dead = λ i e. is i ∙ stays i member.Dead (λ z. cc) (item i) refl (sym (was i) ∙ e);
    left = λ i x e. is i ∙ stays i (member.Left x) (λ z. cc) (item i) refl (sym (was i) ∙ e);
    used = λ i listed. inl (λ e. listed (is i ∙ still_unlisted (item i) (sym (was i) ∙ e)));
    leaves = λ i x e. ⊎_elim (λ old. inl (was i ∙ old)) (λ new. inr new) (left i x (item i) refl (sym (is i) ∙ e));
    room = let same : length (map f h.workers) ≡ length h.workers =
        length-map h.workers f in omega (arith, same, fewer);
  }
