use Rattle.std.proofs.Common.{length, arith, ap}
use Rattle.tm_syntax.specs.Design.View.{design_tree}
use Rattle.tm_flat_states.proofs.InputTerms.{inputs_many}
use Rattle.tm_flat_states.proofs.StatedTerms.{memory_made}
use Rattle.tm_flat_states.proofs.memory.input_memory.Goals as goal

pub input_terms-requires-clause-within : goal.input_terms-requires-clause-within
input_terms-requires-clause-within c =
    let d = c.args.design.now in
    let many = inputs_many (design_tree d) in
    let same = ap length c.requires.inputs in
    omega (arith, many, same, c.len.ensures, d.vars.ok.0)

pub returns : goal.returns
returns c =
    let d = c.args.design.now in
    memory_made d c.args.terms.now c.input_terms.new.terms _ c.in_ok-ids.ids.items c.new.result c.requires.inputs
    (omega (arith, c.len.ensures, d.vars.ok.0)) c.in_ok-ids.ensures c.new.ensures.keeps c.new.ensures.memory
