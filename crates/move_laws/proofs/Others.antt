-- Who doesn't act keeps its tables.
use Rattle.std.proofs.Common.{◌≡◌, ℕ, refl, sym, ◌∙◌}
use Rattle.table_laws.specs.View.{View}
use Rattle.table_laws.specs.Meaning.{Meaning}
use Rattle.table_laws.specs.Acts.{Act, starts, admits, adopts, fails, goes, marks_lost, opens, grants_root, closes_root, commits, publishes, closes, asks, refuses, grants, takes_grant, hears_refuse, gives_up, freezes, takes_offer, acknowledges, releases, leaves, alters, drops, renames, settles, settles_at_house}
use Rattle.table_laws.proofs.Entries.{put_other, at_other_row, grant_other}
use Rattle.move_laws.specs.Beside.{SameAt, IsActOf, MovedBy, unmoved, moved}

pub all_same : (v : View) (j : ℕ) → SameAt v v j
all_same v j = record {
  mode = refl;
  minted = refl;
  asked = refl;
  seen = λ g. refl;
  subs = λ g. refl;
  pending = refl;
  kept = λ t. refl;
  roster = refl;
}

pub same_then : {u v w : View} {j : ℕ} → SameAt u v j → SameAt v w j → SameAt u w j
same_then a b = record {
  mode = b.mode ∙ a.mode;
  minted = b.minted ∙ a.minted;
  asked = b.asked ∙ a.asked;
  seen = λ g. b.seen g ∙ a.seen g;
  subs = λ g. b.subs g ∙ a.subs g;
  pending = b.pending ∙ a.pending;
  kept = λ t. b.kept t ∙ a.kept t;
  roster = b.roster ∙ a.roster;
}

-- by one move
pub beside_one : {v w : View} (act : Act v w) (i j : ℕ) → IsActOf act i → (j ≡ i → ⊥) → SameAt v w j
beside_one {v = v} (starts k new worker) i j is other = absurd is
beside_one {v = v} (admits k roster joins sent) i j is other =
    let no : j ≡ k → ⊥ = λ e. other (e ∙ sym is) in
    record {
      mode = put_other v.mode k j _ no;
      minted = refl;
      asked = refl;
      seen = λ g. refl;
      subs = λ g. refl;
      pending = refl;
      kept = λ t. refl;
      roster = put_other v.roster k j _ no;
    }
beside_one {v = v} (adopts k old roster may) i j is other =
    let no : j ≡ k → ⊥ = λ e. other (e ∙ sym is) in
    record {
      mode = refl;
      minted = refl;
      asked = refl;
      seen = λ g. refl;
      subs = λ g. refl;
      pending = refl;
      kept = λ t. refl;
      roster = put_other v.roster k j _ no;
    }
beside_one {v = v} (fails k may) i j is other =
    let no : j ≡ k → ⊥ = λ e. other (e ∙ sym is) in
    record {
      mode = put_other v.mode k j _ no;
      minted = refl;
      asked = refl;
      seen = λ g. refl;
      subs = λ g. refl;
      pending = refl;
      kept = λ t. refl;
      roster = refl;
    }
beside_one {v = v} (goes k said) i j is other =
    let no : j ≡ k → ⊥ = λ e. other (e ∙ sym is) in
    record {
      mode = put_other v.mode k j _ no;
      minted = refl;
      asked = refl;
      seen = λ g. refl;
      subs = λ g. refl;
      pending = refl;
      kept = λ t. refl;
      roster = refl;
    }
beside_one {v = v} (marks_lost k used worker lost) i j is other =
    record {
      mode = refl;
      minted = refl;
      asked = refl;
      seen = λ g. refl;
      subs = λ g. refl;
      pending = refl;
      kept = λ t. refl;
      roster = refl;
    }
beside_one {v = v} (opens k lost roster may) i j is other = absurd is
beside_one {v = v} (grants_root k thief seq c house may answers begins) i j is other = absurd is
beside_one {v = v} (closes_root k e) i j is other = absurd is
beside_one {v = v} (commits k g o may) i j is other = absurd is
beside_one {v = v} (publishes house roster may) i j is other = absurd is
beside_one {v = v} (closes k e) i j is other = absurd is
beside_one {v = v} (asks k victim may) i j is other =
    let no : j ≡ k → ⊥ = λ e. other (e ∙ sym is) in
    record {
      mode = refl;
      minted = refl;
      asked = put_other v.asked k j _ no;
      seen = λ g. refl;
      subs = λ g. refl;
      pending = put_other v.pending k j _ no;
      kept = λ t. refl;
      roster = refl;
    }
beside_one {v = v} (refuses k thief seq up may) i j is other =
    let no : j ≡ k → ⊥ = λ e. other (e ∙ sym is) in
    record {
      mode = refl;
      minted = refl;
      asked = refl;
      seen = λ g. refl;
      subs = λ g. refl;
      pending = refl;
      kept = λ t. at_other_row v.kept k thief j t _ no;
      roster = refl;
    }
beside_one {v = v} (grants k g s n thief seq c here may begins steal) i j is other =
    let no : j ≡ k → ⊥ = λ e. other (e ∙ sym is) in
    record {
      mode = refl;
      minted = put_other v.minted k j _ no;
      asked = refl;
      seen = λ h. refl;
      subs = λ h. grant_other v.subs k g j h _ no;
      pending = refl;
      kept = λ t. at_other_row v.kept k thief j t _ no;
      roster = refl;
    }
beside_one {v = v} (takes_grant k t may hop pending) i j is other =
    let no : j ≡ k → ⊥ = λ e. other (e ∙ sym is) in
    record {
      mode = refl;
      minted = refl;
      asked = refl;
      seen = λ h. grant_other v.seen k t.grant j h _ no;
      subs = λ h. grant_other v.subs k t.grant j h _ no;
      pending = put_other v.pending k j _ no;
      kept = λ u. refl;
      roster = refl;
    }
beside_one {v = v} (hears_refuse k x sent thief pending) i j is other =
    let no : j ≡ k → ⊥ = λ e. other (e ∙ sym is) in
    record {
      mode = refl;
      minted = refl;
      asked = refl;
      seen = λ g. refl;
      subs = λ g. refl;
      pending = put_other v.pending k j _ no;
      kept = λ t. refl;
      roster = refl;
    }
beside_one {v = v} (gives_up k why) i j is other =
    let no : j ≡ k → ⊥ = λ e. other (e ∙ sym is) in
    record {
      mode = refl;
      minted = refl;
      asked = refl;
      seen = λ g. refl;
      subs = λ g. refl;
      pending = put_other v.pending k j _ no;
      kept = λ t. refl;
      roster = refl;
    }
beside_one {v = v} (freezes k heir offers may) i j is other =
    let no : j ≡ k → ⊥ = λ e. other (e ∙ sym is) in
    record {
      mode = put_other v.mode k j _ no;
      minted = refl;
      asked = refl;
      seen = λ g. refl;
      subs = λ g. refl;
      pending = refl;
      kept = λ t. refl;
      roster = refl;
    }
beside_one {v = v} (takes_offer k t h may hop) i j is other =
    let no : j ≡ k → ⊥ = λ e. other (e ∙ sym is) in
    record {
      mode = refl;
      minted = refl;
      asked = refl;
      seen = λ h. grant_other v.seen k t.grant j h _ no;
      subs = λ h. grant_other v.subs k t.grant j h _ no;
      pending = put_other v.pending k j _ no;
      kept = λ u. refl;
      roster = refl;
    }
beside_one {v = v} (acknowledges t sent taken up) i j is other =
    record {
      mode = refl;
      minted = refl;
      asked = refl;
      seen = λ g. refl;
      subs = λ g. refl;
      pending = refl;
      kept = λ t. refl;
      roster = refl;
    }
beside_one {v = v} (releases k heir g s may) i j is other =
    let no : j ≡ k → ⊥ = λ e. other (e ∙ sym is) in
    record {
      mode = refl;
      minted = refl;
      asked = refl;
      seen = λ h. refl;
      subs = λ h. grant_other v.subs k g j h _ no;
      pending = refl;
      kept = λ t. refl;
      roster = refl;
    }
beside_one {v = v} (leaves k heir roster keeps may) i j is other =
    record {
      mode = refl;
      minted = refl;
      asked = refl;
      seen = λ g. refl;
      subs = λ g. refl;
      pending = refl;
      kept = λ t. refl;
      roster = refl;
    }
beside_one {v = v} (alters k g s c fill results gone here change why) i j is other =
    let no : j ≡ k → ⊥ = λ e. other (e ∙ sym is) in
    record {
      mode = refl;
      minted = refl;
      asked = refl;
      seen = λ h. refl;
      subs = λ h. grant_other v.subs k g j h _ no;
      pending = refl;
      kept = λ t. refl;
      roster = refl;
    }
beside_one {v = v} (drops k g s gone here records why) i j is other =
    let no : j ≡ k → ⊥ = λ e. other (e ∙ sym is) in
    record {
      mode = refl;
      minted = refl;
      asked = refl;
      seen = λ h. refl;
      subs = λ h. grant_other v.subs k g j h _ no;
      pending = refl;
      kept = λ t. refl;
      roster = refl;
    }
beside_one {v = v} (renames k g s roster host here sent resolves) i j is other =
    let no : j ≡ k → ⊥ = λ e. other (e ∙ sym is) in
    record {
      mode = refl;
      minted = refl;
      asked = refl;
      seen = λ h. refl;
      subs = λ h. grant_other v.subs k g j h _ no;
      pending = refl;
      kept = λ t. refl;
      roster = refl;
    }
beside_one {v = v} (settles k g may) i j is other =
    record {
      mode = refl;
      minted = refl;
      asked = refl;
      seen = λ g. refl;
      subs = λ g. refl;
      pending = refl;
      kept = λ t. refl;
      roster = refl;
    }
beside_one {v = v} (settles_at_house k g may) i j is other = absurd is

-- and by many
pub beside : {m : Meaning} {i : ℕ} {v w : View} → MovedBy m i v w → (j : ℕ) → (j ≡ i → ⊥) → SameAt v w j
beside {v = v} unmoved j other = all_same v j
beside {i = i} (moved way act right is) j other = same_then (beside way j other) (is.others j other)
