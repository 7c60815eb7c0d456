-- Packets as bytes.
use Rattle.std.specs.Prelude.{ℕ, List, Result, Ok, Err}
use Rattle.packet_fields.specs.declared.fault.Fault.{Fault}
use Rattle.codec.specs.declared.body.Body.TheVariants as body
use Rattle.codec.specs.Table.{PacketOf, reading}

-- what a reading found; where it found none, a packet that stands for nothing
abbrev pub found : Result PacketOf Fault → PacketOf
found (Ok p) = p
found (Err fault) = record { job = 0; to = 0; body = body.Refuse (record { seq = 0 }) }

-- the packet that bytes spell
abbrev pub packet_in : List ℕ → PacketOf
packet_in bytes = found (reading bytes)
