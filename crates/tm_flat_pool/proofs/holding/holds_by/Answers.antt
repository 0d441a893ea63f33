use Rattle.std.proofs.Common.{sym, subst}
use Rattle.tm_syntax.specs.declared.design.Ty.TheVariants as types
use Rattle.tm_syntax.specs.Tree.View.{expr_tree}
use Rattle.tm_design.specs.Typed.{HasTypeAt}
use Rattle.tm_flat_pool.proofs.TruthTerms.{holds_made, ready_in}
use Rattle.tm_flat_pool.proofs.holding.holds_by.Goals as goal

pub value-requires-clause-typed : goal.value-requires-clause-typed
value-requires-clause-typed c =
    subst (λ s. HasTypeAt s types.Bool (expr_tree c.args.e.now)) (sym c.requires.2) c.requires.5

pub value-requires-clause-ready : goal.value-requires-clause-ready
value-requires-clause-ready c =
    ready_in c.args.reader.now c.requires.0 c.requires.1 c.args.terms.now c.args.memory.now c.requires.2 c.requires.3
    c.requires.4

pub returns : goal.returns
returns c = λ d at same has.
    holds_made c.args.reader.now d at c.args.terms.now c.value.new.terms c.args.memory.now (expr_tree c.args.e.now)
    c.in_ok-found.found same has c.in_ok-found.ensures
