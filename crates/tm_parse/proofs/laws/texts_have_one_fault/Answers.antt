use Rattle.tm_parse.proofs.OneFault.{faults_of_text_agree}
use Rattle.tm_parse.proofs.laws.texts_have_one_fault.Goals as goal

pub returns : goal.returns
returns c = faults_of_text_agree
