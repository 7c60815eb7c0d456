-- Heirs go in no circle, under each move.
use Rattle.std.proofs.Common.{◌≡◌, ℕ, ◌+◌, ◌≤◌, suc, zero, refl, inl, inr, ⊎_elim, arith}
use Rattle.table_laws.specs.View.{Status, Unlisted, Live, Dead, Left, Roster, View}
use Rattle.table_laws.specs.Guards.{MayPublish}
use Rattle.table_laws.specs.Moves.{publish}
use Rattle.table_laws.specs.Acts.{Act, starts, admits, adopts, fails, goes, marks_lost, opens, grants_root, closes_root, commits, publishes, closes, asks, refuses, grants, takes_grant, hears_refuse, gives_up, freezes, takes_offer, acknowledges, releases, leaves, alters, drops, renames, settles, settles_at_house, ReachedInTables, at_first, by_act}
use Rattle.table_laws.specs.Heirs.{EndsIn, lives, died, passes, AllEnd, Heirs}
use Rattle.table_laws.proofs.Lists.{some_same}

-- more steps do as well
ends_more : (r : Roster) (few most i : ℕ) → few ≤ most → EndsIn r few i → EndsIn r most i
ends_more r few most i less (lives x j e) = lives most i e
ends_more r few most i less (died x j e) = died most i e
ends_more r few zero i less (passes x j heir e rest) = absurd (omega (arith, less))
ends_more r few (suc most) i less (passes x j heir e rest) =
    passes most i heir e (ends_more r x most heir (omega (arith, less)) rest)

-- in the house's next roster: who was live may have left to one who is live, which takes a step,
-- and then more are shown left
module _ (v : View) (house roster : Roster) (may : MayPublish v house roster) where
  -- one that is newly shown left
  one_step : (i h : ℕ) → roster.status i ≡ Left h → roster.status h ≡ Live → EndsIn roster 1 i
  one_step i h e live = passes 0 i h e (lives 0 h live)

  was_live : (few most i : ℕ) → few + roster.left ≤ most + house.left → house.status i ≡ Live → (s : Status)
      → roster.status i ≡ s → EndsIn roster most i
  was_live few most i less e Unlisted f = let bare = may.grows.listed i f in absurd (cc)
  was_live few most i less e Live f = lives most i f
  was_live few most i less e Dead f = died most i f
  was_live few most i less e (Left h) f = ⊎_elim
      (λ old. absurd (cc))
      (λ new. let grown = new.1 in ends_more roster 1 most i (omega (arith, less, grown)) (one_step i h f new.0))
      (may.heir_lives i h f)

  ends_next : (few most i : ℕ) → few + roster.left ≤ most + house.left → EndsIn house few i → EndsIn roster most i
  ends_next few most i less (lives x j e) = was_live few most i less e (roster.status i) refl
  ends_next few most i less (died x j e) = died most i (may.grows.dead i e)
  ends_next few zero i less (passes x j heir e rest) = let more = may.left_most in absurd (omega (arith, less, more))
  ends_next few (suc most) i less (passes x j heir e rest) =
      passes most i heir (may.grows.left i heir e) (ends_next x most heir (omega (arith, less)) rest)

  listed_next : AllEnd house → (i : ℕ) (s : Status) → roster.status i ≡ s → (s ≡ Unlisted → ⊥)
      → EndsIn roster roster.left i
  listed_next all i Unlisted e listed = absurd (listed refl)
  listed_next all i Live e listed = lives roster.left i e
  listed_next all i Dead e listed = died roster.left i e
  listed_next all i (Left h) e listed = ⊎_elim
      (λ old. ends_next house.left roster.left i (omega arith) (all i (λ x. cc)))
      (λ new. let grown = new.1 in ends_more roster 1 roster.left i (omega (arith, grown)) (one_step i h e new.0))
      (may.heir_lives i h e)

  pub all_next : AllEnd house → AllEnd roster
  all_next all i listed = listed_next all i (roster.status i) refl listed

heirs_publish : (v : View) (house roster : Roster) → MayPublish v house roster → Heirs v → Heirs (publish v roster)
heirs_publish v house roster may h =
    let next = all_next v house roster may (h.house_ends house may.open_house) in
    record {
      had_end = λ r. elim [ inl is ↦ rw is next | inr m ↦ h.had_end r m ];
      house_ends = λ x e. rw (some_same e) at next;
    }

pub heirs_kept : {v w : View} → Act v w → Heirs v → Heirs w
heirs_kept (starts i new worker) h = assumption h
heirs_kept (admits i roster joins listed) h = assumption h
heirs_kept (adopts i old roster may) h = assumption h
heirs_kept (fails i may) h = assumption h
heirs_kept (goes i said) h = assumption h
heirs_kept (marks_lost i used worker lost) h = assumption h
heirs_kept (opens i lost roster may) h =
    record { had_end = h.had_end; house_ends = λ x e j listed. absurd (listed (rw (← (some_same e)) (may.unlisted j))) }
heirs_kept (grants_root i thief seq c house new may begins) h = assumption h
heirs_kept (closes_root k is) h = assumption h
heirs_kept (commits i k o may) h = assumption h
heirs_kept {v} (publishes house roster may) h = heirs_publish v house roster may h
heirs_kept (closes i house) h = record { had_end = h.had_end; house_ends = λ x e. cc }
heirs_kept (asks i victim may) h = assumption h
heirs_kept (refuses i thief seq works may) h = assumption h
heirs_kept (grants i g s m thief seq c here may begins frame) h = assumption h
heirs_kept (takes_grant i t may hop asked) h = assumption h
heirs_kept (hears_refuse i x refused thief asked) h = assumption h
heirs_kept (gives_up i why) h = assumption h
heirs_kept (freezes i heir offers may) h = assumption h
heirs_kept (takes_offer i t hop may is) h = assumption h
heirs_kept (acknowledges t there seen works) h = assumption h
heirs_kept (releases i heir g s may) h = assumption h
heirs_kept (leaves i heir roster keeps may) h = assumption h
heirs_kept (alters i g s c fill results gone here change is) h = assumption h
heirs_kept (drops i g s gone here had why) h = assumption h
heirs_kept (renames i g s roster host here listed way) h = assumption h
heirs_kept (settles i g may) h = assumption h
heirs_kept (settles_at_house i g may) h = assumption h

pub heirs_reached : {v : View} → ReachedInTables v → Heirs v
heirs_reached (at_first epoch stored) = record { had_end = λ r m. absurd m; house_ends = λ x e. cc }
heirs_reached (by_act r act) = heirs_kept act (heirs_reached r)
