-- By the clearinghouse's own members the holder of the root's grant is live.
use Rattle.std.specs.Prelude.{◌≡◌, true, Some}
use Rattle.ids.specs.Members.{is_live}
use Rattle.clearinghouse.specs.House.{HouseOf, members_of}
use Rattle.clearinghouse.specs.Steps.{HouseAnswer, Ignored, Refused, Does}
use Rattle.clearinghouse.specs.declared.parts.RootGrant.{RootGrant}

abbrev pub RootStands : HouseOf → Type 0
RootStands h = (r : RootGrant) → h.root ≡ Some r → is_live r.holder (members_of h) ≡ true

-- so it is behind an answer
abbrev pub HouseAnswerStands : HouseAnswer → Type 0
HouseAnswerStands Ignored = Unit {0}
HouseAnswerStands (Refused e) = Unit {0}
HouseAnswerStands (Does s) = RootStands s.after
