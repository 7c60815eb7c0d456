-- What a call of the clearinghouse leads to.
use Rattle.std.specs.Prelude.{◌+◌, List, ◌++◌, Option, None, Some}
use Rattle.codec.specs.Table.{PacketOf}
use Rattle.clearinghouse.specs.House.{HouseOf, Kept, kept_of}
use Rattle.clearinghouse.specs.declared.error.HouseError.{HouseError}

-- what a step leads to: the clearinghouse after it, what is committed before anything is sent or
-- told, if anything is, and the packets that are then sent, in their order
pub record HouseStepOf : Type 0 where
  pub after : HouseOf
  pub commits : Option Kept
  pub sent : List PacketOf

-- what is answered: a packet is ignored, and nothing changes; a call is refused, and nothing
-- changes; or a step
pub data HouseAnswer : Type 0 where
  Ignored : HouseAnswer
  Refused : HouseError → HouseAnswer
  Does : HouseStepOf → HouseAnswer

-- nothing but packets, and a clearinghouse after it
abbrev pub sends : List PacketOf → HouseOf → HouseStepOf
sends sent h = record { after = h; commits = None; sent = sent }

-- packets, and then a step
abbrev pub sends_before : List PacketOf → HouseStepOf → HouseStepOf
sends_before sent s = record s { sent = sent ++ s.sent }

-- what the clearinghouse keeps is committed, as one more commit, and then packets are sent
abbrev pub commits : List PacketOf → HouseOf → HouseStepOf
commits sent h = let new : HouseOf = record h { sequence = h.sequence + 1 } in record { after = new; commits = Some (kept_of new); sent = sent }
