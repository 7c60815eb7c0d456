use Rattle.table_laws.proofs.ProgramMeaning.{program_serial}
use Rattle.table_laws.proofs.laws.a_programs_meaning_is_serial.Goals as goal

pub returns : goal.returns
returns c = λ p input. program_serial p input
