use Rattle.table_laws.proofs.SomeWork.{work_somewhere}
use Rattle.table_laws.proofs.laws.some_holder_has_work.Goals as goal

pub returns : goal.returns
returns c = λ v k reached root holders. work_somewhere v k reached root holders
