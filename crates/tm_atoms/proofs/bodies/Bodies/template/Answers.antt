use Rattle.std.proofs.Common.{slice_get, sym, ap, ◌∙◌, subst}
use Rattle.tm_scope.specs.Cells.{CellTables, HasCells}
use Rattle.tm_scope.specs.Instances.{InstanceTables}
use Rattle.tm_atoms.proofs.BodyTables.{template-absent, template-there}
use Rattle.tm_atoms.proofs.bodies.Bodies.template.Goals as goal

pub returns-in_err-node : goal.returns-in_err-node
returns-in_err-node c = λ d over.
    let x : CellTables = c.self.inside.cells.now in
    let inside : HasCells x d = subst (λ (x : CellTables). HasCells x d) (sym c.self.view_is) over in
    template-absent x d inside c.args.instance c.from_residual.result c.from_residual.ensures
    (ap (λ (s : InstanceTables). slice_get s.instances c.args.instance) (sym c.self.invariant.1)
    ∙ sym c.in_err-node.ensures)

pub returns : goal.returns
returns c = λ d over.
    let x : CellTables = c.self.inside.cells.now in
    let inside : HasCells x d = subst (λ (x : CellTables). HasCells x d) (sym c.self.view_is) over in
    template-there x d inside c.args.instance c.in_ok-node.node.now
    (ap (λ (s : InstanceTables). slice_get s.instances c.args.instance) (sym c.self.invariant.1)
    ∙ sym c.in_ok-node.ensures) c.self.inside.spec.now c.self.invariant.0 c.deref.result.now c.deref.ensures.value
    c.get.result c.get.ensures.lookup
