use Rattle.std.proofs.Common.{map, sym, ap, ◌∙◌, subst}
use Rattle.tm_syntax.specs.Tree.View.{spec_tree}
use Rattle.tm_syntax.specs.Design.{DesignTree, instance_node}
use Rattle.tm_scope.specs.Cells.{CellTables, HasCells}
use Rattle.tm_inst.specs.Inner.Parts.{parts_tree}
use Rattle.tm_inst.proofs.atoms.count_atoms.Goals as goal

pub returns-in-Ok-listed : goal.returns-in-Ok-listed
returns-in-Ok-listed c =
    let d : DesignTree = parts_tree (spec_tree c.args.scopes.now) c.args.parts.now in
    let typed = c.requires.typed in
    c.len.ensures
    ∙ c.in-Ok-listed.ensures.count d
    (subst (λ (x : CellTables). HasCells x d) (sym c.in-Ok.ensures) (record {
      text = ap spec_tree (sym c.spec.ensures);
      instances = ap (map instance_node) (sym c.as_slice-instances.ensures.value);
      vars = sym c.as_slice-vars.ensures.value;
    }))
    (record {
      goals = sym c.as_slice.ensures.value;
      fairs = sym c.as_slice-2.ensures.value;
      processes = sym c.as_slice-3.ensures.value;
      tasks = sym c.as_slice-4.ensures.value;
    })
    (c.joined_designs_lead_by_text.ensures d typed.known typed.once typed.matching c.requires.parts.numbered.instances)
    c.requires.order
