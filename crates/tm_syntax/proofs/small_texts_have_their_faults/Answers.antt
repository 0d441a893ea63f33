use Rattle.tm_syntax.proofs.small_texts_have_their_faults.Goals as goal
use Rattle.tm_syntax.proofs.Examples.{spinning_fault, indexed_fault, wide_fault, circular_fault}

pub returns-clause-loops : goal.returns-clause-loops
returns-clause-loops c = spinning_fault

pub returns-clause-indices : goal.returns-clause-indices
returns-clause-indices c = indexed_fault

pub returns-clause-bits : goal.returns-clause-bits
returns-clause-bits c = wide_fault

pub returns-clause-templates : goal.returns-clause-templates
returns-clause-templates c = circular_fault
