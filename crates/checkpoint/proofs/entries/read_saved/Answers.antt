use Rattle.std.proofs.Common.{◌∙◌, ap, arith, length, length-append, subst, sym, ◌∷◌, []}
use Rattle.checkpoint.specs.Format.{SpellsEntries}
use Rattle.checkpoint.proofs.Listing.{entries_more, entry_as, none_at, not_rising}
use Rattle.checkpoint.proofs.entries.read_saved.Goals as goal

pub returns-in_default-clause-none : goal.returns-in_default-clause-none
returns-in_default-clause-none c all count spells _ =
    none_at c.loop-index.index _ c.args.bytes.now all (omega arith)
    (omega (arith, c.loop-index-test.true, c.from-count.ensures, count)) c.in_default.ensures.none spells

pub returns-then-not-append-clause-none : goal.returns-then-not-append-clause-none
returns-then-not-append-clause-none c all count spells list =
    let saved = c.loop-index.saved in
    let is = c.loop-index.invariant in
    not_rising c.args.bytes.now saved all c.in-Some.value is.1
    (entry_as c.args.bytes.now saved c.in-Some.value c.loop-index.index _ (omega arith) is.0 c.in-Some.ensures.some)
    (c.append.ensures.refused c.if-not-append.true)
    (omega (arith, is.0, c.loop-index-test.true, c.from-count.ensures, count)) spells list

pub loop-index-preserved : goal.loop-index-preserved
loop-index-preserved c =
    let saved = c.loop-index.saved in
    let is = c.loop-index.invariant in
    let new = c.append.ensures.taken c.if-not-append.false in
    let more = length-append saved (c.in-Some.value ∷ []) in (
      ap length new ∙ omega (arith, more, is.0),
      subst (SpellsEntries c.args.bytes.now) (sym new)
          (entries_more c.args.bytes.now saved c.in-Some.value is.1
          (entry_as c.args.bytes.now saved c.in-Some.value c.loop-index.index _
          (omega arith) is.0 c.in-Some.ensures.some)),
    )
