-- The numbers of refusals.
use Rattle.std.specs.Prelude.{ℕ}
use Rattle.ids.specs.declared.error_numbers.TheConstants.{PACKET_TOO_BIG, SHORT, MAGIC, PACKET_VERSION, PACKET_KIND, FIELD, TRAILING, MEMORY}
use Rattle.packet_fields.specs.declared.fault.Fault.{Fault}
use Rattle.packet_fields.specs.declared.fault.Fault.TheVariants.{TooBig, Short, Magic, Version, Kind, Field, Trailing}
use Rattle.packet_fields.specs.declared.fault.ReadError.{ReadError}
use Rattle.packet_fields.specs.declared.fault.ReadError.TheVariants as read

-- of bytes that are no packet
abbrev pub number_of_fault : Fault → ℕ
number_of_fault TooBig = PACKET_TOO_BIG
number_of_fault Short = SHORT
number_of_fault Magic = MAGIC
number_of_fault Version = PACKET_VERSION
number_of_fault Kind = PACKET_KIND
number_of_fault Field = FIELD
number_of_fault Trailing = TRAILING

-- of bytes of which no value is read
abbrev pub number_of_error : ReadError → ℕ
number_of_error (read.Fault fault) = number_of_fault fault
number_of_error read.Memory = MEMORY
