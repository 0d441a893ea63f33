use Rattle.std.proofs.Common.{refl, rules}
use Rattle.tm_cparse.specs.Inner.Names.{out_of_order, backward, beyond}
use Rattle.tm_cparse.proofs.names.label_fault.Goals as goal

pub returns-else-number-place : goal.returns-else-number-place
returns-else-number-place c = λ d known others. out_of_order (search rules) refl (search rules)

pub returns-then-number-place-2 : goal.returns-then-number-place-2
returns-then-number-place-2 c = λ d known others. backward (search rules) refl (search rules)

pub returns-then-number-count : goal.returns-then-number-count
returns-then-number-count c = λ d known others. beyond (search rules) refl (search rules)
