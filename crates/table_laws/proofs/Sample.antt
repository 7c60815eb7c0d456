-- A run: the house opens, two workers join, one takes the root and turns it into a frame that
-- awaits a kid, the other steals the kid and finishes it, and its value fills the frame.
use Rattle.std.proofs.Common.{◌≡◌, ℕ, ℤ, suc, zero, slice_get, true, false, nat_eq, ◌&&◌, if◌then◌else◌, List, [], ◌∷◌, Some, None, refl, inl, inr, ⊎_elim, arith}
use Rattle.ids.specs.Names.{Grant}
use Rattle.table_laws.specs.Tables.{◌∈◌}
use Rattle.table_laws.specs.Content.{Task, Content, Whole, Local, Absent, Empty, given, Sound}
use Rattle.table_laws.specs.View.{Transfer, Unlisted, Live as Listed, Roster, View, first}
use Rattle.table_laws.specs.Facts.{of_worker, ack_of, grant_of}
use Rattle.table_laws.specs.Moves.{start, open_house, admit, adopt, ask, take, acknowledge, alter, grant_frame, grant_root, publish}
use Rattle.table_laws.specs.Guards.{Begins, MaySteal}
use Rattle.table_laws.proofs.Lists.{same_or}
use Rattle.table_laws.specs.Acts.{ReachedInTables, starts, opens, publishes, admits, asks, grants_root, takes_grant, alters, grants, acknowledges}
use Rattle.table_laws.specs.Meaning.{Kid, begun as begun_row, FitsMeaning}
use Rattle.table_laws.specs.Causes.{KidAt, Joined, Cause, joins}
use Rattle.table_laws.specs.Runs.{Run, at_start, by_right}
use Rattle.table_laws.proofs.SampleJob.{parts_of, sample_job}
use Rattle.table_laws.proofs.ValuesKept.{run_reached}
use Rattle.table_laws.proofs.SounderJoins.{cause_changes}

-- the clearinghouse of epoch 1
abbrev pub house : ℕ
house = 9223372036854775809

pub house_name : of_worker house ≡ false
unfolding of_worker
house_name = refl

pub first_name : of_worker 1 ≡ true
unfolding of_worker
first_name = refl

pub second_name : of_worker 2 ≡ true
unfolding of_worker
second_name = refl

abbrev pub nobody : Roster
nobody = record { epoch = 1; version = 0; left = 0; status = λ i. Unlisted }

abbrev pub both : Roster
both = record {
  epoch = 1;
  version = 1;
  left = 0;
  status = λ i. if nat_eq i 1 then Listed else (if nat_eq i 2 then Listed else Unlisted);
}

-- the task of a thread at a place, without numbers: the first one joins thread 1 with a kid of
-- thread 2
abbrev pub job : List ℕ → ℕ → Task
job place t = record { place = place; thread = t; numbers = [] }

abbrev pub first_task : Task
first_task = job [] 0

abbrev pub kids_task : Task
kids_task = job (1 ∷ []) 2

-- a Grant's content: one frame
abbrev pub begun : ℕ → Task → Content
begun i t = record {
  host = i;
  task = t;
  next = 1;
  place = λ n. t.place;
  thread = λ n. t.thread;
  returns = λ n. if nat_eq n 0 then Some Whole else None;
  slots = λ n j. Absent;
  granted = λ n. None;
  outcome = None;
}

pub begun_sound : (i : ℕ) (t : Task) → Sound (begun i t)
begun_sound i t = record {
  below = λ n r e. grind arith;
  debtor = λ f j e. cc;
  one = λ n m r e f. grind arith;
  empty = λ n f j e. grind arith;
  later = λ n f j e. grind arith;
  whole = λ e. record { number = 0; owes = refl };
  over = λ o n e. cc;
  bare = λ n j e. refl;
}

pub begins : (i : ℕ) (place : List ℕ) (t : ℕ) → Begins (begun i (job place t)) i
begins i place t = record {
  host = refl;
  bare = λ n. refl;
  sound = begun_sound i (job place t);
  only = λ n r e. grind arith;
  holds = record { place = refl; thread = refl; numbers = λ j. refl };
  active = refl;
}

-- the places and threads of the root's frames: the first task, its successor and its kid
abbrev pub places : ℕ → List ℕ
places n = if nat_eq n 0 then [] else (if nat_eq n 1 then 0 ∷ [] else 1 ∷ [])

abbrev pub threads : ℕ → ℕ
threads n = if nat_eq n 0 then 0 else (if nat_eq n 1 then 1 else 2)

-- after the root's turn: frame 1 awaits frame 2
abbrev pub turned : Content
turned = record {
  host = house;
  task = first_task;
  next = 3;
  place = places;
  thread = threads;
  returns = λ n. if nat_eq n 1 then Some Whole else (if nat_eq n 2 then Some (Local 1 0) else None);
  slots = λ n j. if nat_eq n 1 && nat_eq j 0 then Empty else Absent;
  granted = λ n. None;
  outcome = None;
}

abbrev pub root : Grant
root = record { minter = house; number = 1 }

abbrev pub kid : Grant
kid = record { minter = 1; number = 1 }

-- the house opens, two workers start and join
abbrev pub started : View
started = start (start (open_house first house [] nobody) 1) 2

pub started_run : Run sample_job started
started_run = by_right (by_right (by_right (at_start 0 None (λ o e. cc))
    (opens house [] nobody (record {
      new = λ m. m;
      house = house_name;
      name = refl;
      epoch = omega arith;
      rosters_older = λ r m. absurd m;
      leaves_older = λ l m. absurd m;
      unlisted = λ j. refl;
      lost_old = λ j m. absurd m;
      lost_joined = λ j m. absurd m;
      lost_all = λ j m. absurd m;
    }))
    tt)
    (starts 1 (elim [ inl e ↦ absurd (omega (arith, e)) | inr m ↦ m ]) first_name)
    tt)
    (starts 2 (elim [
      | inl e ↦ absurd (omega (arith, e))
      | inr m ↦ elim m [ inl e ↦ absurd (omega (arith, e)) | inr x ↦ x ]
    ]) second_name)
    tt

-- both are workers, and have started
pub both_members : (i : ℕ) → (both.status i ≡ Unlisted → ⊥) → (i ∈ (2 ∷ 1 ∷ house ∷ [])) × (of_worker i ≡ true)
both_members i e = ⊎_elim
    (λ (is : i ≡ 1). rw is (let at : 1 ∈ (2 ∷ 1 ∷ house ∷ []) = inr (inl refl) in (at, first_name)))
    (λ other. ⊎_elim
    (λ (is : i ≡ 2). rw is (let at : 2 ∈ (2 ∷ 1 ∷ house ∷ []) = inl refl in (at, second_name)))
    (λ too. absurd (e (grind (arith, other, too))))
    (same_or i 2))
    (same_or i 1)

abbrev pub joined : View
joined = adopt (admit (adopt (admit (publish started both) 1) 1 both) 2) 2 both

pub joined_run : Run sample_job joined
joined_run = by_right (by_right (by_right started_run
    (publishes nobody both (record {
      open_house = refl;
      epoch = refl;
      newer = omega arith;
      grows = record { listed = λ i e. refl; dead = λ i e. cc; left = λ i h e. cc };
      members = both_members;
      left = λ i h e. grind arith;
      heir_lives = λ i h e. absurd (grind (arith, e));
      left_most = omega arith;
    }))
    tt)
    (admits 1 both refl (inl refl))
    tt)
    (admits 2 both refl (inl refl))
    tt

-- the first worker takes the root and turns it
abbrev pub rooted : View
rooted = take (grant_root (ask joined 1 house) house 1 1 (begun house first_task)) 1
    (grant_of (ask joined 1 house) house 1 1 (begun house first_task)) None []

pub first_fits : FitsMeaning sample_job [] 0 (λ j. given [] j)
first_fits = record { thread = refl; slots = λ j. tt }

pub rooted_run : Run sample_job rooted
rooted_run = by_right (by_right (by_right joined_run
    (asks 1 house (record { member = refl; idle = refl; victim_used = inr (inr (inl refl)) }))
    tt)
    (grants_root house 1 1 (begun house first_task) refl (record { unrecorded = refl; unstored = refl; place = refl })
    (record { asked = inl refl; due = λ a. a; listed = inl refl }) (begins house [] 0))
    first_fits)
    (takes_grant 1 (grant_of (ask joined 1 house) house 1 1 (begun house first_task))
    (record { sent = inl refl; to = refl; member = refl; above = tt; acks = λ a m. absurd m }) refl refl)
    tt

abbrev pub forked : View
forked = alter rooted 1 root (record { hop = 0; content = begun house first_task }) turned None [] []

-- the root's turn: its frame is gone, 1 is the successor, 2 the kid
pub turn_joins : Joined (begun house first_task) turned 0 1 Whole parts_of
turn_joins = record {
  gone = refl;
  kept = λ k less other. absurd (grind (arith, less, other));
  ungranted = λ k out. refl;
  places = λ k less. grind (arith, less);
  successor = refl;
  place = refl;
  thread = refl;
  slots = row;
  number = λ j. 2;
  kid = kid_at;
  only = λ k s above e. let is : k ≡ 2 =
      grind (arith, above, e) in record { slot = 0; hole = 1; thread = 2; numbers = []; part = refl; is = is };
  bare = λ k l e. grind (arith, e);
  next = omega arith;
  active = refl;
}
  where
    row : (j : ℕ) → turned.slots 1 j ≡ begun_row parts_of j
    row zero = refl
    row (suc j) = grind arith

    kid_at : (j hole t : ℕ) (numbers : List ℤ) → slice_get parts_of j ≡ Some (Kid hole t numbers)
        → KidAt (begun house first_task) turned 0 2 j hole t numbers
    kid_at zero hole t numbers e = let h : 1 ≡ hole = cc in let x : 2 ≡ t = cc in let own : [] ≡ numbers = cc in
        rw (← h, ← x, ← own) (record {
          above = omega arith;
          below = omega arith;
          returns = refl;
          place = refl;
          thread = refl;
          slots = λ l. refl;
        })
    kid_at (suc j) hole t numbers e = cc

pub forks : (v : View) → Cause sample_job v 1 root (begun house first_task) turned None
forks v = joins 0 1 parts_of parts_of
    (record {
      frame = record { returns = Whole; there = refl; unstolen = refl };
      numbers = [];
      holds = λ j. refl;
      ends = refl;
    }) (refl, tt) (omega arith) turn_joins refl

pub forked_run : Run sample_job forked
forked_run = by_right rooted_run
    (alters 1 root (record { hop = 0; content = begun house first_task }) turned None [] []
    (record { member = refl; holds = refl })
    (cause_changes sample_job rooted 1 root (begun house first_task) turned None (forks rooted))
    (record {
      host = refl;
      task = refl;
      fewer = λ n k e. cc;
      keeps = λ n k e. cc;
      result_own = λ x m. absurd m;
      result_host = λ x m. absurd m;
      result_outcome = λ x m. absurd m;
      had = λ k m. absurd m;
      lost = λ k m. absurd m;
    }))
    (forks rooted)

pub kid_ready : MaySteal turned 2 kids_task
kid_ready = record {
  frame = record { returns = Local 1 0; there = refl; unstolen = refl };
  holds = record { place = refl; thread = refl; numbers = λ j. refl };
}

-- the second worker steals the kid, takes it and says so
abbrev pub stolen : View
stolen = grant_frame (ask forked 2 1) 1 root (record { hop = 0; content = turned }) 2 2 1 (begun 1 kids_task)

abbrev pub kids_grant : Transfer
kids_grant = grant_of (ask forked 2 1) 1 2 1 (begun 1 kids_task)

abbrev pub heard : View
heard = acknowledge (take stolen 2 kids_grant None []) (ack_of kids_grant)

pub heard_run : Run sample_job heard
heard_run = by_right (by_right (by_right (by_right forked_run
    (asks 2 1 (record { member = refl; idle = refl; victim_used = inr (inl refl) }))
    tt)
    (grants 1 root (record { hop = 0; content = turned }) 2 2 1 (begun 1 kids_task)
    (record { member = refl; holds = refl })
    (record { asked = inl refl; due = λ a. a; listed = inr (both, refl, refl) }) (begins 1 (1 ∷ []) 2) kid_ready)
    tt)
    (takes_grant 2 kids_grant (record {
      sent = inl refl;
      to = refl;
      member = refl;
      above = tt;
      acks = λ a m. absurd m;
    }) refl refl)
    tt)
    (acknowledges kids_grant (inl refl) (λ a. omega (arith, a)) tt)
    tt

pub heard_reached : ReachedInTables heard
heard_reached = run_reached heard_run
