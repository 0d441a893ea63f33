use Rattle.std.proofs.Common.{sym, ap, ◌∙◌, subst}
use Rattle.tm_syntax.specs.Design.View.{design_tree}
use Rattle.tm_scope.specs.Cells.{CellTables, HasCells}
use Rattle.tm_flat_states.proofs.StatedTerms.{own_cells}
use Rattle.tm_flat_pool.proofs.pooler.Pooler.atoms.Goals as goal

pub list_atoms-requires-clause-text : goal.list_atoms-requires-clause-text
list_atoms-requires-clause-text c =
    let m = c.args.self.now in m.same_text ∙ sym (ap (λ (x : CellTables). x.spec) m.same_cells)

pub list_atoms-requires-clause-instances : goal.list_atoms-requires-clause-instances
list_atoms-requires-clause-instances c =
    let m = c.args.self.now in
    c.as_slice-instances.ensures.value ∙ sym (ap (λ (x : CellTables). x.instances) m.same_cells)

pub returns-clause-atoms : goal.returns-clause-atoms
returns-clause-atoms c =
    let m = c.args.self.now in
    let d = design_tree m.design.now in
    c.in_ok-atoms.ensures.atoms d
    (subst (λ (x : CellTables). HasCells x d) (sym m.same_cells) (own_cells m.design.now))
    (record {
      goals = sym c.as_slice.ensures.value;
      fairs = sym c.as_slice-2.ensures.value;
      processes = sym c.as_slice-3.ensures.value;
      tasks = sym c.as_slice-4.ensures.value;
    })
    c.requires.leads c.requires.order

pub returns-clause-first : goal.returns-clause-first
returns-clause-first c =
    let m = c.args.self.now in
    let d = design_tree m.design.now in
    c.in_ok-atoms.ensures.first d
    (subst (λ (x : CellTables). HasCells x d) (sym m.same_cells) (own_cells m.design.now))
    (record {
      goals = sym c.as_slice.ensures.value;
      fairs = sym c.as_slice-2.ensures.value;
      processes = sym c.as_slice-3.ensures.value;
      tasks = sym c.as_slice-4.ensures.value;
    })
