use Rattle.std.proofs.Common.{sym, ap, ◌∙◌, subst}
use Rattle.tm_syntax.specs.declared.design.Design.{Design}
use Rattle.tm_syntax.specs.Tree.View.{spec_tree}
use Rattle.tm_scope.specs.Cells.{ArePausing}
use Rattle.tm_flat_exprs.specs.Tables.{cells_of}
use Rattle.tm_flat_design.proofs.updater.find_cells.Goals as goal

pub new-requires-clause-text : goal.new-requires-clause-text
new-requires-clause-text c = c.scopes.ensures ∙ ap (λ (d : Design). d.spec) (sym c.design-design.ensures)

pub new-requires-clause-pausing : goal.new-requires-clause-pausing
new-requires-clause-pausing c =
    subst (λ (d : Design). ArePausing (spec_tree d.spec) c.pausing.result.now) (sym c.design-design.ensures)
    c.pausing.ensures

pub returns : goal.returns
returns c =
    c.in_ok-cells.ensures
    ∙ (λ i. record {
      spec = c.design-design.result.now.spec;
      instances = c.as_slice-instances.ensures.value i;
      vars = c.as_slice-vars.ensures.value i;
    })
    ∙ ap cells_of c.design-design.ensures
