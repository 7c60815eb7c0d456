-- A change that is prepared of a subcomputation, at a node.
use Rattle.std.proofs.Common.{◌≡◌, ◌∙◌, Some, ap}
use Rattle.ids.specs.Names.{Grant}
use Rattle.sub_rules.specs.Readiness.{TellsReady}
use Rattle.sub_rules.specs.declared.updates.Prepared.{Prepared}
use Rattle.subcomputation.specs.Fitting.{Fits}
use Rattle.subcomputation.specs.Subs.{SubOf, sub_in}
use Rattle.subcomputation.specs.Told.{changed_of, HasNoOthers, MayChange}
use Rattle.node_state.specs.Parts.{HasNoNewRecord, IsMember}
use Rattle.node_steps.specs.Meeting.{MayChangeIn, NodeOn}

-- what is prepared may be made at a member
pub may_change : (n : NodeOn) (g : Grant) (s : SubOf) (p : Prepared) → IsMember n.node.state
    → sub_in g n.node.subs ≡ Some s → s.grant ≡ g → MayChange s p
    → TellsReady s.content (changed_of s p).after.content p.ready
    → HasNoOthers s.content.records (changed_of s p).after.content.records → HasNoNewRecord n.node s
    → Fits n.job.program (changed_of s p).after.content → MayChangeIn n g p
may_change n g s p member there named may ready others none fits = record {
  may = record {
    sub = s;
    there = there;
    named = named;
    may = may.may;
    begun = may.begun;
    next = record {
      member = member;
      before = s;
      there = ap (λ (h : Grant). sub_in h n.node.subs) named ∙ there;
      ready = ready;
    };
    records = λ h fresh. others h (none h fresh);
  };
  active = may.active;
  fits = fits;
}
