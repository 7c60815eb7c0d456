-- The end of the run: the thief finishes the kid, its value fills the frame that awaits it, that
-- frame sends the outcome of the root, and the house records it.
use Rattle.std.proofs.Common.{◌≡◌, ℕ, suc, zero, pos, nat_eq, ◌&&◌, if◌then◌else◌, [], ◌∷◌, Some, None, refl, inl, inr, arith}
use Rattle.table_laws.specs.Content.{Content, Whole, Local, Absent, Full, given, Fill, regrant}
use Rattle.table_laws.specs.View.{Result, View}
use Rattle.table_laws.specs.Moves.{alter, commit}
use Rattle.table_laws.specs.Acts.{ReachedInTables, commits, alters}
use Rattle.table_laws.specs.Causes.{Filled, Cause, sends, hears}
use Rattle.table_laws.specs.Runs.{Run, by_right}
use Rattle.table_laws.proofs.SampleJob.{sample_job}
use Rattle.table_laws.proofs.ValuesKept.{run_reached}
use Rattle.table_laws.proofs.SounderJoins.{cause_changes}
use Rattle.table_laws.proofs.Sample.{house, first_task, kids_task, begun, places, threads, turned, root, kid, heard, heard_run}

-- after the kid's turn: it is over
abbrev ended : Content
ended = record {
  host = 1;
  task = kids_task;
  next = 1;
  place = λ n. 1 ∷ [];
  thread = λ n. 2;
  returns = λ n. None;
  slots = λ n j. Absent;
  granted = λ n. None;
  outcome = Some (Some (pos 7));
}

-- after its value came back
abbrev pub returned : Content
returned = record {
  host = house;
  task = first_task;
  next = 3;
  place = places;
  thread = threads;
  returns = λ n. if nat_eq n 1 then Some Whole else None;
  slots = λ n j. if nat_eq n 1 && nat_eq j 0 then Full (pos 7) else Absent;
  granted = λ n. None;
  outcome = None;
}

abbrev pub fill : Fill
fill = record { grant = root; frame = 1; slot = 0; place = 0 ∷ []; value = pos 7 }

-- it finishes it, and the value comes back
abbrev kids_result : Result
kids_result = record { grant = kid; host = 1; outcome = Some (pos 7) }

abbrev finished : View
finished = alter heard 2 kid (record { hop = 0; content = begun 1 kids_task }) ended None (kids_result ∷ []) []

abbrev pub filled_view : View
filled_view = alter finished 1 root (record { hop = 0; content = regrant turned 2 (Some kid) }) returned (Some fill) []
    (kid ∷ [])

kid_sends : (v : View) → Cause sample_job v 2 kid (begun 1 kids_task) ended None
kid_sends v = sends 0 (pos 7) (record {
  frame = record { returns = Whole; there = refl; unstolen = refl };
  numbers = [];
  holds = λ j. refl;
  gives = refl;
})
    (record {
      outcome = refl;
      none = λ n. refl;
      unrecorded = λ n. refl;
      bare = λ n j. refl;
      next = refl;
      unfilled = refl;
    })

-- the kid's frame is gone, and slot 0 of frame 1 has its value
kid_fills : Filled root (regrant turned 2 (Some kid)) returned 2 1 0 (pos 7) (Some fill)
kid_fills = record {
  frame = refl;
  gone = refl;
  ungranted = refl;
  granted = λ k other. grind (arith, other);
  bare = λ l. refl;
  kept = λ k other. grind (arith, other);
  slots = λ k l other. grind (arith, other);
  places = λ k. refl;
  threads = λ k. refl;
  next = refl;
  active = refl;
  is = refl;
}

kid_comes : Cause sample_job finished 1 root (regrant turned 2 (Some kid)) returned (Some fill)
kid_comes = hears 2 kid (Local 1 0) (pos 7) [] refl refl (λ j. refl) (inl refl) kid_fills

filled_run : Run sample_job filled_view
filled_run = by_right (by_right heard_run
    (alters 2 kid (record { hop = 0; content = begun 1 kids_task }) ended None (kids_result ∷ []) []
    (record { member = refl; holds = refl })
    (cause_changes sample_job heard 2 kid (begun 1 kids_task) ended None (kid_sends heard))
    (record {
      host = refl;
      task = refl;
      fewer = λ n k e. cc;
      keeps = λ n k e. cc;
      result_own = λ x. elim [ inl e ↦ rw e refl | inr m ↦ absurd m ];
      result_host = λ x. elim [ inl e ↦ rw e refl | inr m ↦ absurd m ];
      result_outcome = λ x. elim [ inl e ↦ rw e refl | inr m ↦ absurd m ];
      had = λ k m. absurd m;
      lost = λ k m. absurd m;
    }))
    (kid_sends heard))
    (alters 1 root (record { hop = 0; content = regrant turned 2 (Some kid) }) returned (Some fill) [] (kid ∷ [])
    (record { member = refl; holds = refl })
    (cause_changes sample_job finished 1 root (regrant turned 2 (Some kid)) returned (Some fill) kid_comes)
    (record {
      host = refl;
      task = refl;
      fewer = λ n k e. cc;
      keeps = λ n k e. cc;
      result_own = λ x m. absurd m;
      result_host = λ x m. absurd m;
      result_outcome = λ x m. absurd m;
      had = λ k. elim [ inl e ↦ rw e (record { number = 2; is = refl }) | inr m ↦ absurd m ];
      lost = λ k m r. let is =
          r.is in cc;
    }))
    kid_comes

pub filled_reached : ReachedInTables filled_view
filled_reached = run_reached filled_run

-- the root's frame sends what it got, and the house records it
abbrev over : Content
over = record {
  host = house;
  task = first_task;
  next = 3;
  place = places;
  thread = threads;
  returns = λ n. None;
  slots = λ n j. Absent;
  granted = λ n. None;
  outcome = Some (Some (pos 7));
}

abbrev roots_result : Result
roots_result = record { grant = root; host = house; outcome = Some (pos 7) }

abbrev pub recorded_view : View
recorded_view = commit (alter filled_view 1 root (record { hop = 0; content = returned }) over None
    (roots_result ∷ []) []) root (Some (pos 7))

got : (j : ℕ) → returned.slots 1 j ≡ given (pos 7 ∷ []) j
got zero = refl
got (suc j) = grind arith

root_sends : (v : View) → Cause sample_job v 1 root returned over None
root_sends v = sends 1 (pos 7) (record {
  frame = record { returns = Whole; there = refl; unstolen = refl };
  numbers = pos 7 ∷ [];
  holds = got;
  gives = refl;
})
    (record {
      outcome = refl;
      none = λ n. refl;
      unrecorded = λ n. refl;
      bare = λ n j. refl;
      next = refl;
      unfilled = refl;
    })

pub recorded_run : Run sample_job recorded_view
recorded_run = by_right (by_right filled_run
    (alters 1 root (record { hop = 0; content = returned }) over None (roots_result ∷ []) []
    (record { member = refl; holds = refl })
    (cause_changes sample_job filled_view 1 root returned over None (root_sends filled_view))
    (record {
      host = refl;
      task = refl;
      fewer = λ n k e. cc;
      keeps = λ n k e. cc;
      result_own = λ x. elim [ inl e ↦ rw e refl | inr m ↦ absurd m ];
      result_host = λ x. elim [ inl e ↦ rw e refl | inr m ↦ absurd m ];
      result_outcome = λ x. elim [ inl e ↦ rw e refl | inr m ↦ absurd m ];
      had = λ k m. absurd m;
      lost = λ k m. absurd m;
    }))
    (root_sends filled_view))
    (commits house root (Some (pos 7)) (record { house = refl; recorded = refl; result = inl refl }))
    tt
