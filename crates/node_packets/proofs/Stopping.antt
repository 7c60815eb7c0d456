-- What a recovery by a roster sends, and what becomes of the node.
use Rattle.std.proofs.Common.{◌≡◌, List, [], ◌∷◌, ◌++◌, map, Option, refl, sym, ap, ◌∙◌}
use Rattle.std.proofs.lemmas.List.{append-nil}
use Rattle.codec.specs.declared.body.Roster.{Roster}
use Rattle.ids.specs.declared.member.Status.{Status}
use Rattle.ids.specs.declared.work.Record.{Record}
use Rattle.recovery.specs.Plans.{stop_of}
use Rattle.recovery.specs.declared.plan.Stopped.{Stopped}
use Rattle.serial_meaning.specs.Job.{JobOf}
use Rattle.steal_protocol.specs.Requests.{settled}
use Rattle.subcomputation.specs.Recovering.{recovered}
use Rattle.subcomputation.specs.Subs.{grants_of_subs}
use Rattle.node_state.specs.Assemblies.{of_living}
use Rattle.node_state.specs.Node.{NodeOf}
use Rattle.node_state.specs.Parts.{PartsOf, with_posts}
use Rattle.node_state.specs.Posts.{posts_after}
use Rattle.node_state.specs.declared.parts.State.TheVariants.{Member}
use Rattle.node_steps.specs.Cases.{recovers_by}
use Rattle.node_steps.specs.Meeting.{NodeOn}
use Rattle.node_steps.specs.Moves.{aborts, status_of, stops}

-- the holders that are told to stop are those of the records
pub all_stops : (job : JobOf) (records : List Record) → map (stops job) (map stop_of records) ≡ aborts job records
all_stops job [] = refl
all_stops job (r ∷ rs) = ap (λ sent. stops job (stop_of r) ∷ sent) (all_stops job rs)

pub stops_sent : (job : JobOf) (records : List Record) (stopped : List Stopped) → stopped ≡ map stop_of records
    → map (stops job) stopped ≡ aborts job records ++ []
stops_sent job records stopped is = ap (map (stops job)) is ∙ all_stops job records
    ∙ sym (append-nil (aborts job records))

-- a node that keeps a roster and recovered by it
abbrev recovers_to : Roster → Option Status → NodeOf → NodeOf
recovers_to r victim n = record n {
  state = Member r;
  subs = (recovered r.members (grants_of_subs n.subs) n.subs).subs;
  asker = settled victim n.asker;
  assemblies = of_living r.members n.assemblies;
}

abbrev on : JobOf → PartsOf → NodeOn
on job p = record { job = job; node = p.node; posts = p.posts }

abbrev after : NodeOn → Roster → NodeOn
after w r = record w {
  node = (recovers_by w.job r w.node).after;
  posts = posts_after (recovers_by w.job r w.node).after (recovers_by w.job r w.node).ready w.posts;
}

pub recovered_view : (v w : NodeOn) (p : PartsOf) (r : Roster) (victim : Option Status) → v ≡ w
    → p ≡ with_posts (recovers_to r victim v.node)
    (recovered r.members (grants_of_subs v.node.subs) v.node.subs).again v.posts
    → victim ≡ status_of r.members w.node.asker.pending → on v.job p ≡ after w r
recovered_view v w p r victim same is told =
    ap (on v.job) is
    ∙ (ap (λ (x : NodeOn). on x.job (with_posts (recovers_to r victim x.node)
    (recovered r.members (grants_of_subs x.node.subs) x.node.subs).again x.posts)) same
    ∙ (ap (λ s. on w.job (with_posts (recovers_to r s w.node)
    (recovered r.members (grants_of_subs w.node.subs) w.node.subs).again w.posts)) told
    ∙ ap (λ again. on w.job (with_posts
    (recovers_to r (status_of r.members w.node.asker.pending) w.node) again w.posts))
    (sym (append-nil (recovered r.members (grants_of_subs w.node.subs) w.node.subs).again))))
