use Rattle.codec.proofs.Rising.{roster_rises}
use Rattle.codec.proofs.laws.rosters_rise.Goals as goal

pub returns : goal.returns
returns c = roster_rises
