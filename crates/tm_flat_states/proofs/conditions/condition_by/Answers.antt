use Rattle.std.proofs.Common.{sym, subst}
use Rattle.tm_syntax.specs.declared.design.Ty.TheVariants as types
use Rattle.tm_syntax.specs.Tree.View.{expr_tree}
use Rattle.tm_design.specs.Typed.{HasTypeAt}
use Rattle.tm_flat_states.proofs.StatedTerms.{condition_made, ready_here}
use Rattle.tm_flat_states.proofs.conditions.condition_by.Goals as goal

pub value-requires-clause-typed : goal.value-requires-clause-typed
value-requires-clause-typed c =
    subst (λ s. HasTypeAt s types.Bool (expr_tree c.args.e.now)) (sym c.requires.2) c.requires.5

pub value-requires-clause-ready : goal.value-requires-clause-ready
value-requires-clause-ready c =
    ready_here c.args.reader.now c.requires.0 c.requires.1 c.args.terms.now c.args.memory.now c.requires.2 c.requires.3
    c.requires.4

pub returns : goal.returns
returns c = λ d n same has.
    condition_made c.args.reader.now d n c.args.terms.now c.value.new.terms c.args.memory.now (expr_tree c.args.e.now)
    c.in_ok-found.found same has c.in_ok-found.ensures
