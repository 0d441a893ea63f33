-- The parameters of a called task have cells of their types.
use Rattle.std.proofs.Common.{◌≡◌, Some, length, map, sym, ap, ◌∙◌}
use Rattle.std.proofs.lemmas.List.{length-map}
use Rattle.std.proofs.lemmas.Option.{slice_get-map}
use Rattle.std.specs.Option.{option_and_then, option_map}
use Rattle.tm_syntax.specs.declared.tree.Param.{Param}
use Rattle.tm_syntax.specs.declared.tree.TaskDef.{TaskDef}
use Rattle.tm_syntax.specs.Tree.View.{task_tree, template_tree}
use Rattle.tm_syntax.specs.Scopes.Names.{type_of}
use Rattle.tm_syntax.specs.Design.{DesignTree, instance_node}
use Rattle.tm_syntax.specs.Design.Cells.{Called, cell_type, task_called}
use Rattle.tm_syntax.specs.Design.Scope.{Site, site}
use Rattle.tm_scope.specs.Cells.{HasCells, ScopedCells}
use Rattle.tm_scope.proofs.CellSites.{site-here}
use Rattle.tm_design.specs.Parameters.{called_by, task_at}
use Rattle.tm_design.specs.Runnable.{HasTypedCells}
use Rattle.tm_design.specs.Values.{HasParameters}
use Rattle.tm_design.proofs.OperandCells.{TaskPlace, task_place}

-- who has the types of all cells has those of parameters
pub has_parameters : {d : DesignTree} → HasTypedCells d → HasParameters d
has_parameters typed = record { parameters = typed.parameters }

module _ (s : ScopedCells) (task : TaskDef) (there : task_at s ≡ Some task) (d : DesignTree) (has : HasCells s.tables d)
    (typed : HasParameters d) (c : Called) (is : called_by d s.at.instance s.at.body ≡ Some c) where
  place : TaskPlace s task
  place = task_place s task there

  abbrev home : Site
  home =
      record { number = s.at.instance; node = instance_node place.instance; template = template_tree place.template }

  home_is : site d s.at.instance ≡ Some home
  home_is = site-here s.tables d has s.at.instance place.instance place.here place.template place.at

  called_is : task_called d home place.index ≡ Some c
  called_is =
      sym (ap (option_and_then (λ (u : Site). task_called d u place.index)) home_is)
      ∙ sym (ap (called_by d s.at.instance) place.body) ∙ is

  pub params_typed : map (cell_type d) c.params ≡ map (λ (p : Param). Some (type_of p.ty)) task.params.items
  params_typed =
      typed.parameters s.at.instance home place.index (task_tree task) c home_is
      (slice_get-map task_tree place.template.tasks.items place.index ∙ ap (option_map task_tree) place.is) called_is

  pub as_many_cells : length c.params ≡ length task.params.items
  as_many_cells =
      sym (length-map c.params (cell_type d)) ∙ ap length params_typed
      ∙ length-map task.params.items (λ (p : Param). Some (type_of p.ty))
