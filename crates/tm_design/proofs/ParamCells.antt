-- The parameters of the tasks of a design: each has a cell, which is of its type.
use Rattle.std.proofs.Common.{◌≡◌, ℕ, Bool, true, false, cond, Option, Some, List, [], ◌∷◌, ◌++◌, map, refl, sym, ap, ◌∙◌, subst}
use Rattle.std.specs.Prelude.{slice_get}
use Rattle.std.specs.Option.{option_map}
use Rattle.std.specs.List.{cons_option, filter_map}
use Rattle.tm_syntax.specs.declared.tree.Param.{Param}
use Rattle.tm_syntax.specs.Tree.{TaskTree}
use Rattle.tm_syntax.specs.Scopes.Context.{task_body, param_slot, local_slot, task_frame}
use Rattle.tm_syntax.specs.Scopes.Names.{type_of}
use Rattle.tm_syntax.specs.Scopes.Pauses.{is_kept}
use Rattle.tm_syntax.specs.Design.{DesignTree, IsDesign, member_path}
use Rattle.tm_syntax.specs.Design.Scope.{Scope, Site}
use Rattle.tm_syntax.specs.Design.Cells.{Cell, in_step, variable_at, slot_cell, cell_type, Called, task_called}
use Rattle.tm_syntax.specs.Faults.{IsTyped}
use Rattle.tm_typing.proofs.Listed.{In, first_of, later_of, in_front, in_map, one_thing}
use Rattle.tm_design.specs.Values.{HasParameters}
use Rattle.tm_design.proofs.FoundCells.{IsSiteOf, is_site, found_type, found_there}
use Rattle.tm_design.proofs.Frames.{IsFrame, of_task}
use Rattle.tm_design.proofs.Holders.{slot_there}
use Rattle.tm_design.proofs.PathTypes.{slot_type}
use Rattle.tm_design.proofs.SettledDesigns.{IsKnown, known_of}

module _ (d : DesignTree) (known : IsKnown d) (s : Site) (of : IsSiteOf d s) (k : ℕ) (task : TaskTree)
    (there : slice_get s.template.tasks k ≡ Some task) where
  -- the body of the task, and the cell of one of its parameters
  abbrev own_scope : Scope
  own_scope = record { instance = s.number; body = task_body k }

  abbrev param_cell : Param → Option Cell
  param_cell p = slot_cell d own_scope s (task_frame d.spec s.template task) (param_slot p)

  -- a parameter has a cell of its type
  abbrev HasCell : Param → Type 0
  HasCell p = (c : Cell) × (param_cell p ≡ Some c) × (cell_type d c ≡ Some (type_of p.ty))

  frame : IsFrame d.spec s.template (task_frame d.spec s.template task) (task_body k)
  frame = of_task task there refl

  has_cell : (p : Param) → In p task.params → HasCell p
  has_cell p i = by (is_kept d.spec s.template task) refl
    where
      among : In (param_slot p) (map param_slot task.params ++ map local_slot task.body.locals)
      among =
          in_front (map param_slot task.params) (map local_slot task.body.locals) (in_map param_slot task.params i)

      by : (b : Bool) → is_kept d.spec s.template task ≡ b → (c : Cell)
          × (cond b (variable_at d (member_path s.node.path task.name.text ++ 46 ∷ p.name.text))
          (Some (in_step own_scope p.name.text (type_of p.ty))) ≡ Some c) × (cell_type d c ≡ Some (type_of p.ty))
      by false is = (in_step own_scope p.name.text (type_of p.ty), refl, refl)
      by true is =
          let c = found_there d known.vars (member_path s.node.path task.name.text ++ 46 ∷ p.name.text)
          (slot_there d.spec d.instances s.number s.node s.template of (task_body k)
          (task_frame d.spec s.template task) (param_slot p) frame is among) in (
            c.0,
            c.1,
            found_type d known.vars (member_path s.node.path task.name.text ++ 46 ∷ p.name.text) (type_of p.ty)
                (slot_type d.spec d.instances known.numbered s.number s.node s.template of (task_body k)
                (task_frame d.spec s.template task) (param_slot p) frame among) c.0 c.1,
          )

  all_have : (ps : List Param) → ((p : Param) → In p ps → HasCell p) →
      map (cell_type d) (filter_map param_cell ps) ≡ map (λ (p : Param). Some (type_of p.ty)) ps
  all_have [] each = refl
  all_have (p ∷ ps) each =
      let c = each p first_of in
      ap (λ o. map (cell_type d) (cons_option o (filter_map param_cell ps))) c.1
      ∙ (λ i. c.2 i ∷ all_have ps (λ q j. each q (later_of j)) i)

  -- the task, as a call runs it
  abbrev run_by_calls : TaskTree → Called
  run_by_calls u = record {
    scope = own_scope;
    params = filter_map (λ p. slot_cell d own_scope s (task_frame d.spec s.template u) (param_slot p)) u.params;
    body = u.body;
  }

  pub params_have : (c : Called) → task_called d s k ≡ Some c →
      map (cell_type d) c.params ≡ map (λ (p : Param). Some (type_of p.ty)) task.params
  params_have c is =
      let same : run_by_calls task ≡ c = one_thing refl (ap (option_map run_by_calls) (sym there) ∙ is) in
      subst (λ (c : Called). map (cell_type d) c.params ≡ map (λ (p : Param). Some (type_of p.ty)) task.params) same
      (all_have task.params has_cell)

pub parameters : (d : DesignTree) → IsTyped d.spec → IsDesign d → HasParameters d
parameters d typed numbered = record {
  parameters = λ n s k task c is there called.
      params_have d (known_of d typed numbered) s (is_site d n s is) k task there c called;
}
