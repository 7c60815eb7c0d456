use Rattle.std.proofs.Common.{rules, ap, sym, ◌≡◌, ◌∷◌, ◌∙◌, ◌++◌, arith}
use Rattle.std.proofs.lemmas.List.Elements.{All-pop}
use Rattle.turn_lock.specs.Claims.{claim, entries_in}
use Rattle.turn_lock.specs.Histories.{own}
use Rattle.chronicle.specs.History.{actor_of}
use Rattle.chronicle.specs.Seats.{IsSeatIn, claims_of}
use Rattle.chronicle.proofs.Seats.{moved, none_left, entries_in-claims_of}
use Rattle.chronicle.proofs.chronicle.Chronicle.finish.Goals as goal

pub loop-seat-preserved : goal.loop-seat-preserved
loop-seat-preserved g c = record {
  here = search rules;
  own = (All-pop (IsSeatIn c.args.self) _ _ _ c.pop.ensures.items c.loop-seat.invariant.own).0;
  claims = ap (λ s. claims_of c.pop.new.self.items ++ s.claims) c.add.ensures
      ∙ (ap (λ s. claims_of c.pop.new.self.items ++ (claim s.actor s.entries ∷ c.loop-seat.all.claims)) c.seat.view_is
      ∙ (moved _ _ c.in-Some.seat _ c.in-Some.ensures.items ∙ c.loop-seat.invariant.claims));
}

pub returns-clause-told : goal.returns-clause-told
returns-clause-told g c = λ a.
    let empty = c.in_default.ensures.cases in
    let all : c.loop-seat.all.claims ≡ claims_of c.args.seats.items =
    ap (λ l. l ++ c.loop-seat.all.claims) (sym (none_left c.loop-seat.seats.items (omega arith)))
    ∙ c.loop-seat.invariant.claims in
    ap (own actor_of a) c.into_parts-entries.ensures.same
    ∙ (c.close-kept.ensures.told a ∙ (ap (λ cs. entries_in cs a) all ∙ entries_in-claims_of c.args.seats.items a))
