-- What was sent stays sent; a worker's moves leave the house as it was; and a run goes on by them.
use Rattle.std.proofs.Common.{◌≡◌, ℕ, List, Option, refl, inr, ◌∙◌}
use Rattle.table_laws.specs.View.{View}
use Rattle.table_laws.specs.Meaning.{Meaning}
use Rattle.table_laws.specs.Acts.{Act, starts, admits, adopts, fails, goes, marks_lost, opens, grants_root, closes_root, commits, publishes, closes, asks, refuses, grants, takes_grant, hears_refuse, gives_up, freezes, takes_offer, acknowledges, releases, leaves, alters, drops, renames, settles, settles_at_house}
use Rattle.table_laws.specs.Runs.{Run, by_right, Leads, leads_on}
use Rattle.table_laws.proofs.Lists.{later}
use Rattle.table_laws.proofs.Entries.{put_other, at_other_row, grant_other}
use Rattle.move_laws.proofs.Others.{all_same, beside_one}
use Rattle.ids.specs.Names.{Grant}
use Rattle.table_laws.specs.Content.{Content, Fill}
use Rattle.table_laws.specs.View.{Result, Sub}
use Rattle.table_laws.specs.Moves.{alter, grant_frame, mark_lost}
use Rattle.move_laws.specs.Beside.{SameHouse, KeepsSent, IsActOf, IsBeside, MovedBy, unmoved, moved}

pub all_kept : (v : View) → KeepsSent v v
all_kept v = record {
  used = λ i m. m;
  transfers = λ t m. m;
  acks = λ a m. m;
  results = λ x m. m;
  settled = λ g m. m;
  steals = λ x m. m;
  refusals = λ x m. m;
  leaves = λ l m. m;
  rosters = λ r m. m;
}

pub keeps_then : {u v w : View} → KeepsSent u v → KeepsSent v w → KeepsSent u w
keeps_then a b = record {
  used = λ i m. b.used i (a.used i m);
  transfers = λ t m. b.transfers t (a.transfers t m);
  acks = λ x m. b.acks x (a.acks x m);
  results = λ x m. b.results x (a.results x m);
  settled = λ g m. b.settled g (a.settled g m);
  steals = λ x m. b.steals x (a.steals x m);
  refusals = λ x m. b.refusals x (a.refusals x m);
  leaves = λ l m. b.leaves l (a.leaves l m);
  rosters = λ r m. b.rosters r (a.rosters r m);
}

-- by one move
pub keeps_one : {v w : View} → Act v w → KeepsSent v w
keeps_one {v = v} (starts k new worker) =
    record {
      used = λ i m. inr m;
      transfers = λ t m. m;
      acks = λ a m. m;
      results = λ x m. m;
      settled = λ g m. m;
      steals = λ x m. m;
      refusals = λ x m. m;
      leaves = λ l m. m;
      rosters = λ r m. m;
    }
keeps_one {v = v} (admits k roster joins sent) = assumption (all_kept v)
keeps_one {v = v} (adopts k old roster may) = assumption (all_kept v)
keeps_one {v = v} (fails k may) = assumption (all_kept v)
keeps_one {v = v} (goes k said) = assumption (all_kept v)
keeps_one {v = v} (marks_lost k used worker lost) = assumption (all_kept v)
keeps_one {v = v} (opens k lost roster may) =
    record {
      used = λ i m. inr m;
      transfers = λ t m. m;
      acks = λ a m. m;
      results = λ x m. m;
      settled = λ g m. m;
      steals = λ x m. m;
      refusals = λ x m. m;
      leaves = λ l m. m;
      rosters = λ r m. m;
    }
keeps_one {v = v} (grants_root k thief seq c house may answers begins) =
    record {
      used = λ i m. m;
      transfers = λ t m. inr m;
      acks = λ a m. m;
      results = λ x m. m;
      settled = λ g m. m;
      steals = λ x m. m;
      refusals = λ x m. m;
      leaves = λ l m. m;
      rosters = λ r m. m;
    }
keeps_one {v = v} (closes_root k e) =
    record {
      used = λ i m. m;
      transfers = λ t m. m;
      acks = λ a m. m;
      results = λ x m. m;
      settled = λ g m. inr m;
      steals = λ x m. m;
      refusals = λ x m. m;
      leaves = λ l m. m;
      rosters = λ r m. m;
    }
keeps_one {v = v} (commits k g o may) =
    record {
      used = λ i m. m;
      transfers = λ t m. m;
      acks = λ a m. m;
      results = λ x m. m;
      settled = λ g m. inr m;
      steals = λ x m. m;
      refusals = λ x m. m;
      leaves = λ l m. m;
      rosters = λ r m. m;
    }
keeps_one {v = v} (publishes house roster may) =
    record {
      used = λ i m. m;
      transfers = λ t m. m;
      acks = λ a m. m;
      results = λ x m. m;
      settled = λ g m. m;
      steals = λ x m. m;
      refusals = λ x m. m;
      leaves = λ l m. m;
      rosters = λ r m. inr m;
    }
keeps_one {v = v} (closes k e) = assumption (all_kept v)
keeps_one {v = v} (asks k victim may) =
    record {
      used = λ i m. m;
      transfers = λ t m. m;
      acks = λ a m. m;
      results = λ x m. m;
      settled = λ g m. m;
      steals = λ x m. inr m;
      refusals = λ x m. m;
      leaves = λ l m. m;
      rosters = λ r m. m;
    }
keeps_one {v = v} (refuses k thief seq up may) =
    record {
      used = λ i m. m;
      transfers = λ t m. m;
      acks = λ a m. m;
      results = λ x m. m;
      settled = λ g m. m;
      steals = λ x m. m;
      refusals = λ x m. inr m;
      leaves = λ l m. m;
      rosters = λ r m. m;
    }
keeps_one {v = v} (grants k g s n thief seq c here may begins steal) =
    record {
      used = λ i m. m;
      transfers = λ t m. inr m;
      acks = λ a m. m;
      results = λ x m. m;
      settled = λ g m. m;
      steals = λ x m. m;
      refusals = λ x m. m;
      leaves = λ l m. m;
      rosters = λ r m. m;
    }
keeps_one {v = v} (takes_grant k t may hop pending) = assumption (all_kept v)
keeps_one {v = v} (hears_refuse k x sent thief pending) = assumption (all_kept v)
keeps_one {v = v} (gives_up k why) = assumption (all_kept v)
keeps_one {v = v} (freezes k heir offers may) =
    record {
      used = λ i m. m;
      transfers = later offers v.transfers;
      acks = λ a m. m;
      results = λ x m. m;
      settled = λ g m. m;
      steals = λ x m. m;
      refusals = λ x m. m;
      leaves = λ l m. m;
      rosters = λ r m. m;
    }
keeps_one {v = v} (takes_offer k t h may hop) =
    record {
      used = λ i m. m;
      transfers = λ t m. m;
      acks = λ a m. inr m;
      results = λ x m. m;
      settled = λ g m. m;
      steals = λ x m. m;
      refusals = λ x m. m;
      leaves = λ l m. m;
      rosters = λ r m. m;
    }
keeps_one {v = v} (acknowledges t sent taken up) =
    record {
      used = λ i m. m;
      transfers = λ t m. m;
      acks = λ a m. inr m;
      results = λ x m. m;
      settled = λ g m. m;
      steals = λ x m. m;
      refusals = λ x m. m;
      leaves = λ l m. m;
      rosters = λ r m. m;
    }
keeps_one {v = v} (releases k heir g s may) = assumption (all_kept v)
keeps_one {v = v} (leaves k heir roster keeps may) =
    record {
      used = λ i m. m;
      transfers = λ t m. m;
      acks = λ a m. m;
      results = λ x m. m;
      settled = λ g m. m;
      steals = λ x m. m;
      refusals = λ x m. m;
      leaves = λ l m. inr m;
      rosters = λ r m. m;
    }
keeps_one {v = v} (alters k g s c fill results gone here change why) =
    record {
      used = λ i m. m;
      transfers = λ t m. m;
      acks = λ a m. m;
      results = later results v.results;
      settled = later gone v.settled;
      steals = λ x m. m;
      refusals = λ x m. m;
      leaves = λ l m. m;
      rosters = λ r m. m;
    }
keeps_one {v = v} (drops k g s gone here records why) =
    record {
      used = λ i m. m;
      transfers = λ t m. m;
      acks = λ a m. m;
      results = λ x m. m;
      settled = later gone v.settled;
      steals = λ x m. m;
      refusals = λ x m. m;
      leaves = λ l m. m;
      rosters = λ r m. m;
    }
keeps_one {v = v} (renames k g s roster host here sent resolves) = assumption (all_kept v)
keeps_one {v = v} (settles k g may) =
    record {
      used = λ i m. m;
      transfers = λ t m. m;
      acks = λ a m. m;
      results = λ x m. m;
      settled = λ g m. inr m;
      steals = λ x m. m;
      refusals = λ x m. m;
      leaves = λ l m. m;
      rosters = λ r m. m;
    }
keeps_one {v = v} (settles_at_house k g may) =
    record {
      used = λ i m. m;
      transfers = λ t m. m;
      acks = λ a m. m;
      results = λ x m. m;
      settled = λ g m. inr m;
      steals = λ x m. m;
      refusals = λ x m. m;
      leaves = λ l m. m;
      rosters = λ r m. m;
    }

-- and by many
pub keeps_all : {m : Meaning} {i : ℕ} {v w : View} → MovedBy m i v w → KeepsSent v w
keeps_all {v = v} unmoved = all_kept v
keeps_all (moved way act right is) = keeps_then (keeps_all way) (keeps_one act)

same_house : (v : View) → SameHouse v v
same_house v = record { rosters = refl; house = refl; root = refl; stored = refl; epoch = refl }

house_one : {v w : View} (act : Act v w) (i : ℕ) → IsActOf act i → SameHouse v w
house_one {v = v} (starts k new worker) i is = absurd is
house_one {v = v} (admits k roster joins sent) i is = assumption (same_house v)
house_one {v = v} (adopts k old roster may) i is = assumption (same_house v)
house_one {v = v} (fails k may) i is = assumption (same_house v)
house_one {v = v} (goes k said) i is = assumption (same_house v)
house_one {v = v} (marks_lost k used worker lost) i is = assumption (same_house v)
house_one {v = v} (opens k lost roster may) i is = absurd is
house_one {v = v} (grants_root k thief seq c house may answers begins) i is = absurd is
house_one {v = v} (closes_root k e) i is = absurd is
house_one {v = v} (commits k g o may) i is = absurd is
house_one {v = v} (publishes house roster may) i is = absurd is
house_one {v = v} (closes k e) i is = absurd is
house_one {v = v} (asks k victim may) i is = assumption (same_house v)
house_one {v = v} (refuses k thief seq up may) i is = assumption (same_house v)
house_one {v = v} (grants k g s n thief seq c here may begins steal) i is = assumption (same_house v)
house_one {v = v} (takes_grant k t may hop pending) i is = assumption (same_house v)
house_one {v = v} (hears_refuse k x sent thief pending) i is = assumption (same_house v)
house_one {v = v} (gives_up k why) i is = assumption (same_house v)
house_one {v = v} (freezes k heir offers may) i is = assumption (same_house v)
house_one {v = v} (takes_offer k t h may hop) i is = assumption (same_house v)
house_one {v = v} (acknowledges t sent taken up) i is = assumption (same_house v)
house_one {v = v} (releases k heir g s may) i is = assumption (same_house v)
house_one {v = v} (leaves k heir roster keeps may) i is = assumption (same_house v)
house_one {v = v} (alters k g s c fill results gone here change why) i is = assumption (same_house v)
house_one {v = v} (drops k g s gone here records why) i is = assumption (same_house v)
house_one {v = v} (renames k g s roster host here sent resolves) i is = assumption (same_house v)
house_one {v = v} (settles k g may) i is = assumption (same_house v)
house_one {v = v} (settles_at_house k g may) i is = absurd is

used_one : {v w : View} (act : Act v w) (i : ℕ) → IsActOf act i → w.used ≡ v.used
used_one {v = v} (starts k new worker) i is = absurd is
used_one {v = v} (admits k roster joins sent) i is = refl
used_one {v = v} (adopts k old roster may) i is = refl
used_one {v = v} (fails k may) i is = refl
used_one {v = v} (goes k said) i is = refl
used_one {v = v} (marks_lost k used worker lost) i is = refl
used_one {v = v} (opens k lost roster may) i is = absurd is
used_one {v = v} (grants_root k thief seq c house may answers begins) i is = absurd is
used_one {v = v} (closes_root k e) i is = absurd is
used_one {v = v} (commits k g o may) i is = absurd is
used_one {v = v} (publishes house roster may) i is = absurd is
used_one {v = v} (closes k e) i is = absurd is
used_one {v = v} (asks k victim may) i is = refl
used_one {v = v} (refuses k thief seq up may) i is = refl
used_one {v = v} (grants k g s n thief seq c here may begins steal) i is = refl
used_one {v = v} (takes_grant k t may hop pending) i is = refl
used_one {v = v} (hears_refuse k x sent thief pending) i is = refl
used_one {v = v} (gives_up k why) i is = refl
used_one {v = v} (freezes k heir offers may) i is = refl
used_one {v = v} (takes_offer k t h may hop) i is = refl
used_one {v = v} (acknowledges t sent taken up) i is = refl
used_one {v = v} (releases k heir g s may) i is = refl
used_one {v = v} (leaves k heir roster keeps may) i is = refl
used_one {v = v} (alters k g s c fill results gone here change why) i is = refl
used_one {v = v} (drops k g s gone here records why) i is = refl
used_one {v = v} (renames k g s roster host here sent resolves) i is = refl
used_one {v = v} (settles k g may) i is = refl
used_one {v = v} (settles_at_house k g may) i is = absurd is

pub used_all : {m : Meaning} {i : ℕ} {v w : View} → MovedBy m i v w → w.used ≡ v.used
used_all unmoved = refl
used_all (moved way act right is) = is.used ∙ used_all way

pub house_all : {m : Meaning} {i : ℕ} {v w : View} → MovedBy m i v w → SameHouse v w
house_all {v = v} unmoved = same_house v
house_all {i = i} (moved way act right is) =
    let a = house_all way in
    let b = is.house in
    record {
      rosters = b.rosters ∙ a.rosters;
      house = b.house ∙ a.house;
      root = b.root ∙ a.root;
      stored = b.stored ∙ a.stored;
      epoch = b.epoch ∙ a.epoch;
    }

pub runs_on : {m : Meaning} {i : ℕ} {v w : View} → Run m v → MovedBy m i v w → Run m w
runs_on run unmoved = run
runs_on run (moved way act right is) = by_right (runs_on run way) act right

-- what led to tables leads on by moves of a worker
pub leads_all : {m : Meaning} {i : ℕ} {base v w : View} → Leads base v → MovedBy m i v w → Leads base w
leads_all since unmoved = since
leads_all since (moved way act right is) = leads_on (leads_all since way) act

-- a move of a worker
pub of_act : {v w : View} (act : Act v w) (i : ℕ) → IsActOf act i → IsBeside i v w
of_act act i is = record {
  used = used_one act i is;
  others = λ j other. beside_one act i j is other;
  house = house_one act i is;
}

-- a change of a content, whatever move it is
pub of_alter : (v : View) (i : ℕ) (g : Grant) (s : Sub) (c : Content) (fill : Option Fill) (results : List Result)
    (gone : List Grant) → IsBeside i v (alter v i g s c fill results gone)
of_alter v i g s c fill results gone = record {
  used = refl;
  others = λ j no. record {
    mode = refl;
    minted = refl;
    asked = refl;
    seen = λ h. refl;
    subs = λ h. grant_other v.subs i g j h _ no;
    pending = refl;
    kept = λ t. refl;
    roster = refl;
  };
  house = assumption (same_house v);
}

pub of_grant : (v : View) (i : ℕ) (g : Grant) (s : Sub) (n thief seq : ℕ) (c : Content)
    → IsBeside i v (grant_frame v i g s n thief seq c)
of_grant v i g s n thief seq c = record {
  used = refl;
  others = λ j no. record {
    mode = refl;
    minted = put_other v.minted i j _ no;
    asked = refl;
    seen = λ h. refl;
    subs = λ h. grant_other v.subs i g j h _ no;
    pending = refl;
    kept = λ t. at_other_row v.kept i thief j t _ no;
    roster = refl;
  };
  house = assumption (same_house v);
}

pub of_mark_lost : (v : View) (who i : ℕ) → IsBeside i v (mark_lost v who)
of_mark_lost v who i = record {
  used = refl;
  others = λ j no. assumption (all_same v j);
  house = assumption (same_house v);
}
