-- The numbers of refusals.
use Rattle.std.specs.Prelude.{ℕ}
use Rattle.ids.specs.declared.error_numbers.TheConstants.{PACKET_TOO_BIG, MEMORY}
use Rattle.codec.specs.declared.encoding.EncodeError.{EncodeError}
use Rattle.codec.specs.declared.encoding.EncodeError.TheVariants.{TooBig, Memory}

-- of a packet that isn't written
abbrev pub number_of_error : EncodeError → ℕ
number_of_error TooBig = PACKET_TOO_BIG
number_of_error Memory = MEMORY
