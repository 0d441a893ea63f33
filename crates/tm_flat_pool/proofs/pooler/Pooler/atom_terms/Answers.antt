use Rattle.std.proofs.Common.{arith}
use Rattle.tm_syntax.specs.Design.View.{design_tree}
use Rattle.tm_atoms.specs.Atoms.{listed}
use Rattle.tm_flat_exprs.specs.Tables.{cells_of}
use Rattle.tm_flat_states.proofs.StatedTerms.{inputs_along}
use Rattle.tm_flat_pool.proofs.HeldAtoms.{all_held, more_held, none_held}
use Rattle.tm_flat_pool.proofs.pooler.Pooler.atom_terms.Goals as goal

pub loop-number-init : goal.loop-number-init
loop-number-init c =
    none_held (design_tree c.args.self.now.design.now) c.args.terms.now c.requires.inputs.sound _
    c.new-ids.ensures.items

pub atom_term-requires-clause-inputs : goal.atom_term-requires-clause-inputs
atom_term-requires-clause-inputs c =
    inputs_along (cells_of c.args.self.now.design.now) c.args.terms.now c.loop-number.terms c.args.memory.now
    c.loop-number.invariant.grown c.loop-number.invariant.sound c.requires.inputs

pub atom_term-requires-clause-number : goal.atom_term-requires-clause-number
atom_term-requires-clause-number c = omega (arith, c.loop-number-test.true, c.len-number-end.ensures)

pub loop-number-preserved : goal.loop-number-preserved
loop-number-preserved c =
    more_held (design_tree c.args.self.now.design.now) (listed c.args.atoms.now) c.loop-number.number c.args.terms.now
    c.loop-number.terms c.atom_term.new.terms c.loop-number.ids.items c.push.new.self.items c.in_ok-id.id
    (omega (arith, c.loop-number-test.true, c.len-number-end.ensures))
    c.loop-number.invariant c.in_ok-id.ensures c.in_ok-push.ensures.items

pub returns : goal.returns
returns c =
    all_held (design_tree c.args.self.now.design.now) (listed c.args.atoms.now) c.loop-number.number c.args.terms.now
    c.loop-number.terms c.loop-number.ids.items
    (omega (arith, c.loop-number-test.false, c.loop-number.auto.number-end, c.len-number-end.ensures))
    c.loop-number.invariant
