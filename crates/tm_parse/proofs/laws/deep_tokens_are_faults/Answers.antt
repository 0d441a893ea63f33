use Rattle.tm_parse.proofs.Standing.{deep_fault, fault_deep}
use Rattle.tm_parse.proofs.laws.deep_tokens_are_faults.Goals as goal

pub returns : goal.returns
returns c = λ text front t. (λ fault. fault_deep fault, λ deep. deep_fault deep.1 deep.2)
