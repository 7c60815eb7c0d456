use Rattle.std.proofs.Common.{List, ℕ, subst, sym, rules}
use Rattle.std.proofs.lemmas.List.{take_rest}
use Rattle.checkpoint.specs.Format.{SpellsLarge}
use Rattle.checkpoint.proofs.look.large_slot.Goals as goal

pub returns-in-None-clause-err : goal.returns-in-None-clause-err
returns-in-None-clause-err c = (
  search rules,
  λ n r says. c.in-None.ensures.none n r
      (subst (λ (l : List ℕ). SpellsLarge l n r) (sym (take_rest c.args.bytes.now 1)) says),
)
