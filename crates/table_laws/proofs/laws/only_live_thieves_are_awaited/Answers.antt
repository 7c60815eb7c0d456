use Rattle.table_laws.proofs.KnownKept.{unheard}
use Rattle.table_laws.proofs.laws.only_live_thieves_are_awaited.Goals as goal

pub returns : goal.returns
returns c = λ v house r i thief reply reached open_now works worker keeps answered other.
    unheard v house r i thief reply reached open_now works worker keeps answered other
