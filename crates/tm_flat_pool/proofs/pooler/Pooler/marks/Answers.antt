use Rattle.std.proofs.Common.{arith}
use Rattle.tm_syntax.specs.Design.View.{design_tree}
use Rattle.tm_atoms.specs.Atoms.{listed}
use Rattle.tm_flat_pool.proofs.MarkedVariables.{all_marked, more_marked, none_marked}
use Rattle.tm_flat_pool.proofs.pooler.Pooler.marks.Goals as goal

pub loop-number-init : goal.loop-number-init
loop-number-init c =
    let d = c.args.self.now.design.now in
    none_marked (design_tree d) _ c.len.result c.in_ok-marks.ensures (omega (arith, c.len.ensures, d.vars.ok.0))

pub atom_variable-requires-clause-number : goal.atom_variable-requires-clause-number
atom_variable-requires-clause-number c = omega (arith, c.loop-number-test.true, c.len-number-end.ensures)

pub loop-number-preserved : goal.loop-number-preserved
loop-number-preserved c =
    more_marked (design_tree c.args.self.now.design.now) (listed c.args.atoms.now) c.loop-number.number
    c.loop-number.marks.items c.mark.new.marks.items c.atom_variable.result
    (omega (arith, c.loop-number-test.true, c.len-number-end.ensures)) c.loop-number.invariant
    c.atom_variable.ensures c.mark.ensures

pub returns : goal.returns
returns c =
    all_marked (design_tree c.args.self.now.design.now) (listed c.args.atoms.now) c.loop-number.number
    c.loop-number.marks.items
    (omega (arith, c.loop-number-test.false, c.loop-number.auto.number-end, c.len-number-end.ensures))
    c.loop-number.invariant
