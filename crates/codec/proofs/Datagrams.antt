-- The packet that bytes spell.
use Rattle.std.specs.Prelude.{◌≡◌, ℕ, List, Ok, refl}
use Rattle.codec.specs.Datagrams.{packet_in}
use Rattle.codec.specs.Table.{PacketOf, Spells, reading}
use Rattle.codec.proofs.TableLaws.{reading_only}

-- bytes that spell a packet spell that one
pub spelled_is : (bytes : List ℕ) (p : PacketOf) → Spells bytes p → packet_in bytes ≡ p
spelled_is bytes p s = rw (reading_only bytes p s) refl

-- and are a packet's whole spelling
pub spelled_so : (bytes : List ℕ) (p : PacketOf) → Spells bytes p → Spells bytes (packet_in bytes)
spelled_so bytes p s = rw (spelled_is bytes p s) s

-- read, they are that packet
pub reads_back : (bytes : List ℕ) → Spells bytes (packet_in bytes) → reading bytes ≡ Ok (packet_in bytes)
reads_back bytes s = reading_only bytes (packet_in bytes) s
