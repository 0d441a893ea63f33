use Rattle.std.proofs.Common.{◌≡◌, [], map, refl, subst, sym}
use Rattle.std.specs.Prelude.{IfSome, None, Option, Some}
use Rattle.std.specs.Option.{option_map}
use Rattle.tm_syntax.specs.Tree.View.{spec_tree}
use Rattle.tm_syntax.specs.Design.{DesignTree, instance_node}
use Rattle.tm_syntax.specs.Design.Scope.{site}
use Rattle.tm_scope.specs.Cells.{CellTables, HasCells, ScopedCells}
use Rattle.test_text.proofs.cells.parameters.body.Goals as goal

-- a design of these tables that holds nothing else
abbrev bare_design : CellTables → DesignTree
bare_design x = record {
  spec = spec_tree x.spec;
  instances = map instance_node x.instances;
  vars = x.vars;
  processes = [];
  tasks = [];
  goals = [];
  fairs = [];
}

has_cells : (x : CellTables) → HasCells x (bare_design x)
has_cells x = record { text = refl; instances = refl; vars = refl }

same_if_some : {A : Type 0} (s : ScopedCells) (q : Option A) (o : Option ScopedCells) →
    o ≡ option_map (λ _. s) q → IfSome o (λ x. x ≡ s)
same_if_some s None o is = subst (λ (r : Option ScopedCells). IfSome r (λ x. x ≡ s)) (sym is) tt
same_if_some s (Some a) o is = subst (λ (r : Option ScopedCells). IfSome r (λ x. x ≡ s)) (sym is) refl

pub returns : goal.returns
returns c =
    let x = c.args.cells.now in
    let d = bare_design x in
    same_if_some (record { tables = x; at = c.args.at }) (site d c.args.at.instance) c.scope.result
    (c.scope.ensures d (has_cells x))
