-- Steps of the clearinghouse one after another, and one that changes no table.
use Rattle.std.proofs.Common.{◌≡◌, [], inl, inr, ⊎_elim, None, Some, refl, sym, ◌∙◌}
use Rattle.serial_meaning.specs.Job.{JobOf}
use Rattle.clearinghouse.specs.House.{HouseOf, name_of}
use Rattle.clearinghouse.specs.Steps as house
use Rattle.table_laws.specs.View.{View}
use Rattle.move_laws.proofs.Others.{all_same, same_then}
use Rattle.move_laws.proofs.Sent.{all_kept, keeps_then}
use Rattle.actor_laws.proofs.node_moves.Told.{all_shown, both_shown, none_shown, sent_early, sent_late}
use Rattle.actor_laws.specs.house_moves.Shows.{OpenShown}
use Rattle.actor_laws.specs.house_moves.Steps.{HouseStepShown}

-- nothing is sent, and the tables that show another clearinghouse of the name are the same
pub quietly : (job : JobOf) (v : View) (h k : HouseOf) → name_of h ≡ name_of k → OpenShown v k
    → HouseStepShown job v h (house.sends [] k)
quietly job v h k name s = record {
  view = v;
  run = λ x. x;
  since = λ base x. x;
  keeps = all_kept v;
  others = λ j apart. all_same v j;
  used = refl;
  same_name = name;
  after = s;
  sent = none_shown v;
  transfers = λ t m. inl m;
  fills = refl;
  keeps_transfers = λ k e. cc;
}

-- a step, and another one behind it that commits nothing
pub then_shown : (job : JobOf) (v : View) (h : HouseOf) (one two : house.HouseStepOf) → two.commits ≡ None
    → (a : HouseStepShown job v h one) → HouseStepShown job a.view one.after two
    → HouseStepShown job v h (house.sends_before one.sent two)
then_shown job v h one two none a b = record {
  view = b.view;
  run = λ k. b.run (a.run k);
  since = λ base k. b.since base (a.since base k);
  keeps = keeps_then a.keeps b.keeps;
  others = λ j apart. same_then (a.others j apart) (b.others j (λ e. apart (e ∙ sym a.same_name)));
  used = b.used ∙ a.used;
  same_name = a.same_name ∙ b.same_name;
  after = b.after;
  sent = both_shown b.view one.sent two.sent (all_shown b.keeps one.sent a.sent) b.sent;
  transfers = λ t m. ⊎_elim
      (λ old. ⊎_elim (λ older. inl older) (λ new. inr (sent_early one.sent two.sent t new)) (a.transfers t old))
      (λ new. inr (sent_late one.sent two.sent t new))
      (b.transfers t m);
  fills = b.fills ∙ a.fills;
  keeps_transfers = λ k e. (let two : None ≡ Some k = sym none ∙ e in cc);
}
