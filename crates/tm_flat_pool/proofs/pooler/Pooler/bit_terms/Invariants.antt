use Rattle.tm_syntax.specs.Design.View.{design_tree}
use Rattle.tm_flat_pool.specs.Inner.Bits.{AreBitTerms}
use Rattle.tm_flat_pool.proofs.pooler.Pooler.bit_terms.Given as goal

abbrev pub invariant-loop-index : goal.invariant-loop-index
invariant-loop-index l = AreBitTerms (design_tree l.self.design.now) l.index l.fn.terms l.terms l.ids.items
