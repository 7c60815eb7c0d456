-- Lemmas on the least of faults.
use Rattle.std.proofs.Common.{◌≡◌, ◌<◌, ◌≤◌, ◌+◌, ℕ, refl, arith, add-one, List, [], ◌∷◌, ◌++◌, length, get_or, take, drop, Option}
use Rattle.std.proofs.Math.Seq.{drop-cons}
use Rattle.std.proofs.lemmas.List.{take_more}
use Rattle.task_tree.specs.declared.tree.Thread.{Thread}
use Rattle.kind_check.proofs.Places.{threads_before}
use Rattle.kind_check.specs.Faults.{Fault, again_named, limit_faults, thread_named, thread_faults, threads_faults}
use Rattle.kind_check.specs.Least.{earlier, least_with}

-- faults in two parts are met one part after the other
pub least_append : (least : Option Fault) (fs gs : List Fault)
    → least_with least (fs ++ gs) ≡ least_with (least_with least fs) gs
least_append least [] gs = refl
least_append least (f ∷ fs) gs = least_append (earlier least f) fs gs

-- one thread more is met
pub threads_step : (ts : List Thread) (i : ℕ) (t : Thread) (least met new : Option Fault) → i < length ts
    → t ≡ get_or ts i t → met ≡ least_with least
    (again_named t.name.offset (thread_named (take i ts) t.name.text) ++ limit_faults t.name.offset i 64)
    → new ≡ least_with met (thread_faults ts t)
    → least_with new (threads_faults ts (take (i + 1) ts) (drop (i + 1) ts))
    ≡ least_with least (threads_faults ts (take i ts) (drop i ts))
threads_step ts i t least met new h e f g =
    let le : i ≤ length ts = omega arith in
    rw (
      take_more ts i t h,
      drop-cons ts i t h,
      ← e,
      threads_before ts i le,
      least_append least (again_named t.name.offset (thread_named (take i ts) t.name.text)),
      least_append (least_with least (again_named t.name.offset (thread_named (take i ts) t.name.text))),
      least_append,
      ← least_append least,
      ← f,
      ← g,
      add-one,
    ) refl
