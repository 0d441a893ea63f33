use Rattle.tm_syntax.proofs.Tokens.{faults_agree}
use Rattle.tm_lex.proofs.fault_is_determined.Goals as goal

pub returns : goal.returns
returns c = faults_agree
