use Rattle.std.proofs.Common.{length, sym, ap, ◌∙◌, arith}
use Rattle.tm_syntax.specs.Design.View.{design_tree}
use Rattle.tm_flat_states.proofs.InputTerms.{inputs_many}
use Rattle.tm_flat_pool.proofs.PredicateTerms.{each_pushed, none_pushed}
use Rattle.tm_flat_pool.proofs.StateWidths.{index_widths, widths_long}
use Rattle.tm_flat_pool.proofs.pooler.Pooler.push_number.Goals as goal

pub returns-then-is_marked : goal.returns-then-is_marked
returns-then-is_marked c =
    none_pushed (design_tree c.args.self.now.design.now) c.args.marks.now c.requires.marks c.args.index
    c.args.terms.now c.args.ids.now.items (sym c.is_marked.ensures ∙ c.if-is_marked.true) c.requires.sound

pub overflow_cast-index : goal.overflow_cast-index
overflow_cast-index c =
    let long = widths_long (design_tree c.args.self.now.design.now) in
    omega (arith, long, c.requires.index, c.requires.markable.few)

pub push_bits-requires-clause-inside : goal.push_bits-requires-clause-inside
push_bits-requires-clause-inside c =
    let d = design_tree c.args.self.now.design.now in
    let many = inputs_many d in
    let long = widths_long d in
    let same = ap length c.requires.inputs in
    omega (arith, many, long, same, c.requires.index, c.requires.markable.few)

pub returns : goal.returns
returns c =
    let d = design_tree c.args.self.now.design.now in
    let long = widths_long d in
    each_pushed d c.args.marks.now c.requires.marks c.args.index c.requires.markable.small c.args.terms.now
    c.push_bits.new.terms _ _ c.args.ids.now.items c.push_bits.new.ids.items c.requires.inputs
    (omega (arith, long, c.requires.index, c.requires.markable.few))
    c.requires.index
    (index_widths d c.args.terms.now.inputs _ c.args.index c.requires.inputs
    (omega (arith, long, c.requires.index, c.requires.markable.few)) c.requires.index)
    (sym c.is_marked.ensures ∙ c.if-is_marked.false) c.in_ok-push_bits.ensures
