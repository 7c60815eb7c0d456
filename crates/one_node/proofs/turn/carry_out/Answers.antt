-- A turn of a frame that is there isn't refused as stale, and what is prepared leads to the change.
use Rattle.std.proofs.Common.{sym, ap, ◌∙◌}
use Rattle.sub_rules.specs.Changes.{turned}
use Rattle.sub_rules.specs.declared.change.ContentChange.{ContentChange}
use Rattle.one_node.proofs.Turning.{carried_is, never_stale}
use Rattle.one_node.proofs.turn.carry_out.Goals as goal

pub unreachable-requires : goal.unreachable-requires
unreachable-requires c =
    let t = c.requires.turn in
    never_stale (turned t.frame c.args.done.now.turn c.args.content.now)
    (sym (carried_is c.args.content.now c.args.frame c.args.done.now t)
    ∙ rw c.in-Err-Stale.field-0-is at c.in-Err-Stale.ensures)

pub returns-clause-answer : goal.returns-clause-answer
returns-clause-answer c =
    let p = c.in-Ok.ensures in
    record {
      change = p.0;
      done = p.1;
      led = sym (ap (λ (x : ContentChange). x.after) p.2.same) ∙ sym c.in_ok-update.ensures.after;
      told = sym (ap (λ (x : ContentChange). x.ready) p.2.same);
    }

pub returns-clause-sound : goal.returns-clause-sound
returns-clause-sound c =
    let p = c.in-Ok.ensures in
    rw c.in_ok-update.ensures.after p.2.sound
