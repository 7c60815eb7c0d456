-- A new worker is listed, and told.
use Rattle.std.proofs.Common.{◌≡◌, ◌+◌, ℕ, Bool, true, false, cond, nat_lt, List, [], ◌∷◌, length, map, inl, inr, ⊎_elim, Option, None, Some, refl, sym, ap, ◌∙◌, arith}
use Rattle.ids.specs.Named.{item_in, put_in}
use Rattle.ids.specs.Members.{status_in}
use Rattle.ids.specs.declared.member.Status.{Status}
use Rattle.ids.specs.declared.member.Status.TheVariants as member
use Rattle.ids.proofs.Replacing.{put_is_found}
use Rattle.agreement_laws.proofs.Finding.{put_stays}
use Rattle.serial_meaning.specs.Job.{JobOf}
use Rattle.clearinghouse.specs.Cases as cases
use Rattle.clearinghouse.specs.House.{HouseOf, member_of, members_of, name_of_enlisted}
use Rattle.clearinghouse.specs.Laws.{living, one_if}
use Rattle.ids.specs.Members.{says_live}
use Rattle.clearinghouse.specs.Moves as moves
use Rattle.clearinghouse.specs.Steps as house
use Rattle.clearinghouse.specs.declared.error.HouseError.TheVariants as error
use Rattle.clearinghouse.specs.declared.parts.Enlisted.{Enlisted}
use Rattle.clearinghouse.proofs.Changing.{sum_put}
use Rattle.table_laws.specs.Tables.{◌∈◌}
use Rattle.table_laws.specs.View.{View}
use Rattle.table_laws.specs.Facts.{of_worker}
use Rattle.table_laws.specs.Runs.{Run}
use Rattle.table_laws.proofs.Lists.{same_or}
use Rattle.actor_laws.proofs.node_moves.Told.{one_shown}
use Rattle.table_laws.specs.Moves.{publish}
use Rattle.actor_laws.specs.house_moves.Shows.{OpenShown}
use Rattle.actor_laws.specs.house_moves.Steps.{HouseStepShown, HouseAnswerShown, tables_meaning}
use Rattle.actor_laws.proofs.house_moves.Listed.{kept_found, status_kept}
use Rattle.actor_laws.proofs.house_moves.Publishing.{IsNext, next_roster, publishes_shown, tells_next}

module _ (job : JobOf) (v : View) (run : Run (tables_meaning job) v) (h : HouseOf) (s : OpenShown v h) (i : ℕ)
    (unlisted : status_in i (members_of h) ≡ None) (used : i ∈ v.used) (worker : of_worker i ≡ true) where
  abbrev new : Enlisted
  new = record { incarnation = i; status = member.Live; heard = h.moment }

  abbrev ws : List Enlisted
  ws = put_in name_of_enlisted new h.workers

  here : status_in i (map member_of ws) ≡ Some member.Live
  here = kept_found i ws ∙ ap status_kept (put_is_found name_of_enlisted new h.workers)

  beside : (j : ℕ) → (j ≡ i → ⊥) → status_in j (map member_of ws) ≡ status_in j (members_of h)
  beside j other = kept_found j ws ∙ ap status_kept
      (put_stays name_of_enlisted (j, 0) new h.workers (λ z. other (ap (λ (k : ℕ × ℕ). k.0) z)))
      ∙ sym (kept_found j h.workers)

  absent : item_in name_of_enlisted (i, 0) h.workers ≡ None
  absent = by_item (item_in name_of_enlisted (i, 0) h.workers) (sym (kept_found i h.workers) ∙ unlisted)
    where
      by_item : (o : Option Enlisted) → status_kept o ≡ None → o ≡ None
      by_item None e = refl
      by_item (Some w) e = cc

  -- what was said of others is said of them
  stays : (j : ℕ) (x : Status) → status_in j (members_of h) ≡ Some x → status_in j (map member_of ws) ≡ Some x
  stays j x e = ⊎_elim
      (λ (same : j ≡ i). let none : status_in j (members_of h) ≡ None = rw same unlisted in let two : None ≡ Some x =
      sym none ∙ e in cc)
      (λ other. beside j other ∙ e)
      (same_or j i)

  stood : (j : ℕ) (o : Option Status) → status_in j (map member_of ws) ≡ o → (o ≡ Some member.Live → ⊥)
      → status_in j (members_of h) ≡ o
  stood j o e other = ⊎_elim
      (λ (same : j ≡ i). let live : status_in j (map member_of ws) ≡ Some member.Live =
      rw same here in absurd (other (sym e ∙ live)))
      (λ apart. sym (beside j apart) ∙ e)
      (same_or j i)

  next : IsNext v h ws 0
  next =
      let longer : length ws ≡ 1 + length h.workers =
      sum_put name_of_enlisted (λ w. 1) length (λ w rest. omega arith) new h.workers absent in
      let more : living ws ≡ 1 + living h.workers =
      sum_put name_of_enlisted (λ w. one_if (says_live (Some w.status))) living
      (λ w rest. refl) new h.workers absent in
      record {
        unlisted = λ j e. stood j None e (λ z. cc);
        dead = λ j e. stays j member.Dead e;
        left = λ j x e. stays j (member.Left x) e;
        used = λ j listed. ⊎_elim
            (λ (same : j ≡ i). inr (rw same (used, worker)))
            (λ other. inl (λ e. listed (beside j other ∙ e)))
            (same_or j i);
        leaves = λ j x e. inl (stood j (Some (member.Left x)) e (λ z. cc));
        room = omega (arith, longer, more);
      }

  lists_shown : HouseStepShown job v h (moves.tells job i (moves.lists i h))
  lists_shown = publishes_shown job v run h s ws 0 next (moves.roster_for job i (moves.lists i h) ∷ [])
      (one_shown (publish v (next_roster job v run h s ws 0 next)) (moves.roster_for job i (moves.lists i h))
      (tells_next job v run h s ws 0 next i))

  pub new_joined_shown : HouseAnswerShown job v h (cases.new_joined job i h)
  new_joined_shown = by_room (nat_lt (length h.workers) 4096)
    where
      by_room : (b : Bool) → HouseAnswerShown job v h
          (cond b (house.Does (moves.tells job i (moves.lists i h))) (house.Refused error.RosterFull))
      by_room false = tt
      by_room true = lists_shown
