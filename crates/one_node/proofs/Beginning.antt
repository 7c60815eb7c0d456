-- The run of a job before its first turn.
use Rattle.std.proofs.Common.{◌≡◌, ℕ, nat_eq, List, [], ◌∷◌, refl, ap, arith}
use Rattle.std.specs.List.{sum_by}
use Rattle.std.specs.List.Sorted.{IsStrictlySortedBy}
use Rattle.std.proofs.lemmas.List.Sums.{sum_by-cons}
use Rattle.ids.specs.Names.{house_of}
use Rattle.ids.specs.Naming.{name_of_frame}
use Rattle.ids.specs.Ordered.{AreInOrder}
use Rattle.ids.specs.declared.work.Frame.{Frame}
use Rattle.ids.specs.declared.work.Task.{Task}
use Rattle.serial_meaning.specs.Job.{JobOf, IsJob}
use Rattle.level_deques.specs.declared.posts.Post.{Post}
use Rattle.sub_rules.specs.declared.content.Content.{Content}
use Rattle.sub_rules.specs.Content.{first_frame, granted_content}
use Rattle.sub_rules.specs.Changes.{readied}
use Rattle.sub_rules.specs.Debts.{one_if}
use Rattle.sub_rules.proofs.Contents.{granted_is_sound, ready_test}
use Rattle.sub_rules.proofs.Slots.{none_missing}
use Rattle.agreement_laws.specs.Agreement.{ContentAgrees}
use Rattle.one_node.specs.Runs.{begun, post_of}
use Rattle.one_node.specs.Holding.{Holds, is_ready_at, names}
use Rattle.one_node.proofs.Posting.{and_true}

alone_ordered : (f : Frame) → AreInOrder name_of_frame (f ∷ [])
unfolding IsStrictlySortedBy
alone_ordered f = (tt, tt)

first_posted : (task : Task) (n : ℕ)
    → sum_by (names n) (post_of (readied (first_frame task)) ∷ []) ≡ sum_by (is_ready_at n) (first_frame task ∷ [])
first_posted task n =
    let ready : is_ready_at n (first_frame task) ≡ names n (post_of (readied (first_frame task))) =
    rw (ready_test (first_frame task) (none_missing task.numbers)) (ap one_if (and_true (nat_eq 0 n))) in
    omega (
      arith,
      sum_by-cons (names n) (post_of (readied (first_frame task))) [],
      sum_by-cons (is_ready_at n) (first_frame task) [],
    )

-- it goes on
pub begun_holds : (job : JobOf) (task : Task) → IsJob job → ContentAgrees job (granted_content (house_of 1) task)
    → task.place ≡ [] → Holds job (begun task)
begun_holds job task known agrees rooted = record {
  known = known;
  active = refl;
  sound = granted_is_sound (house_of 1) task;
  alone = refl;
  order = alone_ordered (first_frame task);
  agrees = agrees;
  rooted = rooted;
  posted = record { own = (refl, tt); each = first_posted task };
}

pub so_holds : (job : JobOf) (task : Task) (content : Content) (posts : List Post) → IsJob job
    → ContentAgrees job (granted_content (house_of 1) task) → task.place ≡ []
    → content ≡ granted_content (house_of 1) task → posts ≡ post_of (readied (first_frame task)) ∷ []
    → Holds job (record { content = content; posts = posts })
so_holds job task content posts known agrees rooted new posted =
    rw (new, posted) (begun_holds job task known agrees rooted)
