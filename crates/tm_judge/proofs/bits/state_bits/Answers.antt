use Rattle.std.proofs.Common.{arith, rules}
use Rattle.tm_judge.proofs.Counting.{few_tables, few_variables, parts_counted, variables_are_sized}
use Rattle.tm_judge.proofs.bits.state_bits.Goals as goal

pub variable_bits-variables-requires-clause-sized : goal.variable_bits-variables-requires-clause-sized
variable_bits-variables-requires-clause-sized c =
    variables_are_sized c.args.design.now c.requires.sound c.as_slice.result.now c.as_slice.ensures.value

pub variable_bits-variables-requires-clause-few : goal.variable_bits-variables-requires-clause-few
variable_bits-variables-requires-clause-few c =
    omega (
      arith,
      few_variables c.args.design.now c.requires.sound c.args.scopes.now c.as_slice.result.now
          c.requires.text c.as_slice.ensures.value,
    )

pub location_bits-places-requires : goal.location_bits-places-requires
location_bits-places-requires c =
    omega (arith, few_tables c.args.design.now c.requires.sound c.args.locations.now c.requires.locations)

pub overflow_add-result : goal.overflow_add-result
overflow_add-result c =
    omega (
      arith,
      c.variable_bits-variables.ensures,
      c.location_bits-places.ensures.few,
      few_variables c.args.design.now c.requires.sound c.args.scopes.now c.as_slice.result.now c.requires.text
          c.as_slice.ensures.value,
      few_tables c.args.design.now c.requires.sound c.args.locations.now c.requires.locations,
    )

pub overflow_add-result-2 : goal.overflow_add-result-2
overflow_add-result-2 c =
    omega (
      arith,
      c.variable_bits-variables.ensures,
      c.location_bits-places.ensures.few,
      c.from.ensures,
      c.bits_of_number-last.ensures.is_width.1,
      few_variables c.args.design.now c.requires.sound c.args.scopes.now c.as_slice.result.now c.requires.text
          c.as_slice.ensures.value,
      few_tables c.args.design.now c.requires.sound c.args.locations.now c.requires.locations,
    )

pub returns : goal.returns
returns c =
    parts_counted c.args.design.now c.requires.sound c.args.scopes.now c.as_slice.result.now c.args.locations.now
    c.variable_bits-variables.result c.location_bits-places.result c.from.result c.requires.text
    c.as_slice.ensures.value c.requires.locations c.variable_bits-variables.ensures
    c.location_bits-places.ensures.bits (search rules)
