use Rattle.std.proofs.Common.{◌≡◌, rules, get_or, subst}
use Rattle.checkpoint.specs.Format.{SpellsSmall}
use Rattle.checkpoint.specs.Pair.{IsCurrent}
use Rattle.checkpoint.specs.declared.record.Entry.{Entry}
use Rattle.checkpoint.specs.declared.record.Entry.TheVariants.{Moved}
use Rattle.checkpoint.proofs.Reading.{none_moved, none_small}
use Rattle.checkpoint.proofs.look.look.Goals as goal

pub returns-in_default-clause-refused : goal.returns-in_default-clause-refused
returns-in_default-clause-refused c job =
    let version : get_or c.args.bytes.now 7 0 ≡ 1 = search rules in
    ((λ other. other.1 version), none_small c.args.bytes.now c.in_default.ensures.none)

pub returns-in_default-newest_large-clause-refused : goal.returns-in_default-newest_large-clause-refused
returns-in_default-newest_large-clause-refused c job =
    let bytes = c.args.bytes.now in
    let small = c.in-Some.small in
    let version : get_or bytes 7 0 ≡ 1 = search rules in
    let moved : IsCurrent SpellsSmall 8 63 bytes small.second small.sequence Moved =
    subst (λ (e : Entry). IsCurrent SpellsSmall 8 63 bytes small.second small.sequence e) c.in-Moved.is
    c.in-Some.ensures.some.0 in (
      (λ other. other.1 version),
      none_moved bytes small.second small.sequence moved
          (λ other n r new. c.in_default-newest_large.ensures.none other n r new.current),
    )
