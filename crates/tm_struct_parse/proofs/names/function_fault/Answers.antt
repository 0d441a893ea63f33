use Rattle.std.proofs.Common.{refl, rules}
use Rattle.tm_struct_parse.specs.Inner.Names.{out_of_order, beyond, forward}
use Rattle.tm_struct_parse.proofs.names.function_fault.Goals as goal

pub returns-else-number-place : goal.returns-else-number-place
returns-else-number-place c = λ d known others. out_of_order (search rules) refl (search rules)

pub returns-then-number-count : goal.returns-then-number-count
returns-then-number-count c = λ d known others. beyond (search rules) refl (search rules)

pub returns-then-number-callable_at : goal.returns-then-number-callable_at
returns-then-number-callable_at c = λ d known others. forward (search rules) refl (search rules) (search rules)
