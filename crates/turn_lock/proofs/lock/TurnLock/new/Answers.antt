use Rattle.std.proofs.Common.{rules, suc, ap, ◌∙◌, arith, None, sym, subst, ◌≡◌, Some, ◌∷◌, []}
use Rattle.atomic_table.specs.Table.{opening}
use Rattle.turn_lock.specs.Claims.{empty_claims}
use Rattle.turn_lock.specs.Views.{first_view, Accounted}
use Rattle.std.proofs.lemmas.List.Elements.{All-push}
use Rattle.turn_lock.specs.declared.law.Terms.{Terms}
use Rattle.turn_lock.specs.Seats.{SeatOf}
use Rattle.turn_lock.proofs.Dealt.{one_more, actors_more}
use Rattle.turn_lock.proofs.Moves.{opens}
use Rattle.turn_lock.proofs.lock.TurnLock.new.Goals as goal

pub new-requires : goal.new-requires
new-requires g c =
    let is : c.push_reserved.new.self.items ≡ Some c.args.kept ∷ [] = search rules in
    let terms : Terms g.row.T-Fixed.Denot = record { actors = c.args.actors; fixed = c.args.fixed } in
    subst (λ l. Accounted g.T.KeepsHistory.history g.T.KeepsHistory.actor_of g.T.KeepsHistory.fixed terms
    (opening (0 ∷ []) l (first_view terms))) (sym is)
    (opens g.T.KeepsHistory.history g.T.KeepsHistory.actor_of g.T.KeepsHistory.fixed terms c.args.kept
    c.requires.empty c.requires.fixed)

pub deal-requires-clause-next : goal.deal-requires-clause-next
deal-requires-clause-next g c =
    let has = c.loop.invariant.next in
    let len = c.len.ensures in
    let t = one_more c.loop.counter c.args.actors has.0 c.loop.all.me.0.claims has.1
    (omega (arith, c.loop-test.true)) has.2 in
    (t.0, rw (len, c.loop.invariant.dealt) t.1)

pub loop-preserved : goal.loop-preserved
loop-preserved g c =
    let has = c.loop.invariant.next in
    let n : c.len.result ≡ c.loop.counter = c.len.ensures ∙ c.loop.invariant.dealt in
    let t = one_more c.loop.counter c.args.actors has.0 c.loop.all.me.0.claims has.1
    (omega (arith, c.loop-test.true)) has.2 in
    let now = c.deal.ensures.next t.0 (t.1 ∙ ap (λ k. empty_claims k (suc t.0)) (sym n)) in
    record {
      table = search rules;
      next = (t.0, t.2, now ∙ ap (λ k. empty_claims k t.0) (ap suc n ∙ omega arith));
      free = search rules;
      told = search rules;
      dealt = search rules;
      order = actors_more c.loop.dealt.items c.push.new.self.items c.deal.result c.loop.counter c.loop.invariant.order
          c.in_ok-push.ensures.items (c.deal.ensures.actor ∙ n);
      seats = rw c.in_ok-push.ensures.items
          (All-push (λ (s : SeatOf g.row.T-Entry.Denot g.row.T-Fixed.Denot). (s.table ≡ c.in-Ok.table.shared.table_id)
          × (s.actors ≡ c.args.actors) × (s.fixed ≡ Some c.args.fixed) × (s.taken ≡ None)
          × (s.entries ≡ [])) c.loop.dealt.items c.deal.result c.loop.invariant.seats (
            c.deal.ensures.seat.0
                ∙ c.loop.invariant.table,
            c.deal.ensures.seat.1 ∙ c.loop.invariant.told.0,
            c.deal.ensures.seat.2
                ∙ c.loop.invariant.told.1,
            c.deal.ensures.blank.0,
            c.deal.ensures.blank.1,
          ));
    }
