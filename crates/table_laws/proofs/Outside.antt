-- Made-up views, to which no moves lead: each breaks a clause of one group.
use Rattle.std.proofs.Common.{◌≡◌, ℕ, ℤ, pos, nat_eq, if◌then◌else◌, [], ◌∷◌, Option, ◌⊎◌, Some, None, refl, inl, inr, ⊎_elim, arith, ap}
use Rattle.table_laws.specs.Tables.{same_grant}
use Rattle.table_laws.specs.Content.{Content, Fill}
use Rattle.table_laws.specs.View.{Transfer, Unlisted, Left, Roster, Sub, Gone, Joining, Member, Leaving, View, first}
use Rattle.table_laws.specs.Facts.{live_at, held}
use Rattle.table_laws.specs.Names.{Names}
use Rattle.table_laws.specs.Fills.{Fills}
use Rattle.table_laws.specs.Leavers.{Leavers}
use Rattle.table_laws.specs.Homes.{Homes}
use Rattle.table_laws.specs.Rooted.{Rooted}
use Rattle.table_laws.specs.Kin.{Kin}
use Rattle.table_laws.specs.Requests.{Requests}
use Rattle.table_laws.specs.Cases.{Cases, Case, alive, awaited, frozen, cut_off}
use Rattle.table_laws.specs.Rosters.{Rosters}
use Rattle.table_laws.specs.Known.{Known}
use Rattle.table_laws.specs.Later.{Later}
use Rattle.table_laws.specs.Tasks.{Tasks}
use Rattle.table_laws.specs.Meaning.{Meaning}
use Rattle.table_laws.specs.Values.{Values}
use Rattle.table_laws.specs.Epochs.{Epochs}
use Rattle.table_laws.specs.Heirs.{EndsIn, lives, died, passes, Heirs}
use Rattle.table_laws.proofs.Sample.{house, house_name, root, kid, first_task, begun, turned}

-- one Grant, sent to two thieves
abbrev sent_to : ℕ → Transfer
sent_to thief = record { grant = kid; hop = 0; from = 1; to = thief; seq = 1; content = begun 1 first_task }

abbrev pub granted_twice : View
granted_twice = record first { transfers = sent_to 2 ∷ sent_to 3 ∷ [] }

pub not_names : Names granted_twice → ⊥
not_names n = let same = n.one (sent_to 2) (sent_to 3) (inl refl) (inr (inl refl)) refl refl in let to : 2 ≡ 3 =
    ap (λ (t : Transfer). t.to) same in omega (arith, to)

-- one slot, filled twice
abbrev slot_fill : Fill
slot_fill = record { grant = root; frame = 1; slot = 0; place = 0 ∷ []; value = pos 7 }

abbrev pub filled_twice : View
filled_twice = record first { fills = slot_fill ∷ slot_fill ∷ [] }

pub not_fills : Fills filled_twice → ⊥
not_fills f = f.once.0 slot_fill (inl refl) (record { grant = refl; frame = refl; slot = refl })

-- a sub with a record of the kid's grant
abbrev with_record : Content
with_record = record turned { granted = λ n. if nat_eq n 2 then Some kid else None }

abbrev waiting : Sub
waiting = record { hop = 0; content = with_record }

-- worker 1 holds it, as the root's, and nothing was ever sent
abbrev pub holding : View
holding = record first {
  mode = λ i. if nat_eq i 1 then Member else Gone;
  subs = λ i g. if same_grant g root then Some waiting else None;
}

-- one that said Leave still holds it
abbrev pub left_holding : View
left_holding = record holding {
  mode = λ i. if nat_eq i 1 then Leaving 2 else Gone;
  leaves = record { from = 1; heir = 2; epoch = 1 } ∷ [];
}

pub not_leavers : Leavers left_holding → ⊥
not_leavers l = let empty = l.said_empty (record { from = 1; heir = 2; epoch = 1 }) root (inl refl) tt in cc

-- a member has the name of a house
abbrev pub member_house : View
member_house = record first { mode = λ i. if nat_eq i house then Member else Gone }

pub not_homes : Homes member_house → ⊥
not_homes h = let worker = h.worker_name house tt (λ e. cc) in let name = house_name in cc

-- a root record, and no house is open
abbrev pub root_alone : View
root_alone = record first { root = Some root }

pub not_rooted : Rooted root_alone → ⊥
not_rooted r = let up = r.root_house root refl in cc

-- a record whose grant is settled
abbrev pub record_settled : View
record_settled = record holding { settled = kid ∷ [] }

pub not_kin : Kin record_settled → ⊥
not_kin k = k.unsettled root kid with_record 2 (inl refl)
    (live_at 1 waiting (record { member = refl; holds = refl }) refl) refl

-- a member waits on a Steal that it never sent
abbrev pub waits_unasked : View
waits_unasked = record holding { pending = λ i. Some (record { victim = 2; seq = 1 }) }

pub not_requests : Requests waits_unasked → ⊥
not_requests q = q.asked_sent 1 (record { victim = 2; seq = 1 }) tt refl

-- a record of a grant that nobody has, and nobody is lost
pub not_cases : Cases holding → ⊥
not_cases c = nowhere (c.record_case root kid with_record 2
    (live_at 1 waiting (record { member = refl; holds = refl }) refl) refl)
  where
    nowhere : Case holding root kid → ⊥
    nowhere (alive i s here) = let holds = here.holds in cc
    nowhere (awaited t m e f w p) = m
    nowhere (frozen i heir s e f x) = cc
    nowhere (cut_off i m x) = m

-- a member that keeps no roster
pub not_rosters : Rosters holding → ⊥
not_rosters k = k.member_keeps 1 refl refl

-- one that joins has answered somebody
abbrev pub joins_answered : View
joins_answered = record first { mode = λ i. Joining; kept = λ i j. Some (record { seq = 1; given = None }) }

pub not_known : Known joins_answered → ⊥
not_known k = let none = k.joins_unkept 1 2 refl in cc

-- a record of a grant that wasn't sent after the one that has the record
pub not_later : Later holding → ⊥
not_later l = let less = l.later root kid with_record 2 (held 1 waiting tt refl refl) refl in omega (arith, less)

-- an outcome is recorded, and the root record is still there
abbrev pub recorded_early : View
recorded_early = record first { root = Some root; stored = Some (Some (pos 7)) }

pub not_tasks : Tasks recorded_early → ⊥
not_tasks t = let none = t.root_open root refl in cc

-- a worker keeps a roster of an epoch that hasn't come
abbrev later_roster : Roster
later_roster = record { epoch = 2; version = 1; left = 0; status = λ i. Unlisted }

abbrev pub ahead : View
ahead = record first { epoch = 1; roster = λ i. Some later_roster }

pub not_epochs : Epochs ahead → ⊥
not_epochs e = let past = e.kept_past 1 later_roster refl in omega (arith, past)

-- two that left, each to the other
abbrev in_circle : Roster
in_circle = record {
  epoch = 1;
  version = 1;
  left = 2;
  status = λ i. if nat_eq i 1 then Left 2 else (if nat_eq i 2 then Left 1 else Unlisted);
}

abbrev pub circle : View
circle = record first { rosters = in_circle ∷ [] }

-- so following them never ends
no_end : (most i : ℕ) → (i ≡ 1) ⊎ (i ≡ 2) → EndsIn in_circle most i → ⊥
no_end most i is (lives x j e) = grind (arith, e, is)
no_end most i is (died x j e) = grind (arith, e, is)
no_end most i is (passes x j heir e rest) =
    no_end x heir (⊎_elim (λ (a : i ≡ 1). let at : Left 2 ≡ Left heir =
    rw a at e in inr (cc)) (λ (b : i ≡ 2). let at : Left 1 ≡ Left heir = rw b at e in inl (cc)) is) rest

pub not_heirs : Heirs circle → ⊥
not_heirs h = no_end 2 1 (inl refl) (h.had_end in_circle (inl refl) 1 (λ e. cc))

-- another outcome
abbrev another : Option ℤ → Option ℤ
another None = Some (pos 0)
another (Some x) = None

abbrev pub recorded_wrong : Meaning → View
recorded_wrong m = record first { stored = Some (another (m.value [])) }

differs : (o : Option ℤ) → another o ≡ o → ⊥
differs None e = cc
differs (Some x) e = cc

pub not_values : (m : Meaning) → Values m (recorded_wrong m) → ⊥
not_values m a = differs (m.value []) (a.stored_agrees (another (m.value [])) refl)
