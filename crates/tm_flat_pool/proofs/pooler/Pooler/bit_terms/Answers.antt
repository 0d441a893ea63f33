use Rattle.std.proofs.Common.{◌∙◌, arith}
use Rattle.tm_syntax.specs.Design.View.{design_tree}
use Rattle.tm_flat_pool.proofs.PredicateTerms.{all_bits, more_bits, no_bits}
use Rattle.tm_flat_pool.proofs.StateWidths.{widths_long}
use Rattle.tm_flat_pool.proofs.pooler.Pooler.bit_terms.Goals as goal

pub loop-index-init : goal.loop-index-init
loop-index-init c =
    no_bits (design_tree c.args.self.now.design.now) c.args.terms.now _ c.requires.sound c.new-ids.ensures.items

pub push_number-requires-clause-inputs : goal.push_number-requires-clause-inputs
push_number-requires-clause-inputs c = c.loop-index.invariant.grown.inputs ∙ c.requires.inputs

pub push_number-requires-clause-index : goal.push_number-requires-clause-index
push_number-requires-clause-index c =
    let long = widths_long (design_tree c.args.self.now.design.now) in
    omega (arith, long, c.loop-index-test.true, c.len.ensures, c.len-2.ensures)

pub loop-index-preserved : goal.loop-index-preserved
loop-index-preserved c =
    let long = widths_long (design_tree c.args.self.now.design.now) in
    more_bits (design_tree c.args.self.now.design.now) c.loop-index.index c.args.terms.now c.loop-index.terms
    c.push_number.new.terms c.loop-index.ids.items c.push_number.new.ids.items
    (omega (arith, long, c.loop-index-test.true, c.len.ensures, c.len-2.ensures)) c.loop-index.invariant
    c.in_ok-push_number.ensures

pub returns : goal.returns
returns c =
    let long = widths_long (design_tree c.args.self.now.design.now) in
    all_bits (design_tree c.args.self.now.design.now) c.loop-index.index c.args.terms.now c.loop-index.terms
    c.loop-index.ids.items
    (omega (arith, long, c.loop-index-test.false, c.loop-index.auto.index-end, c.len.ensures, c.len-2.ensures))
    c.loop-index.invariant
