-- The tasks that calls run: their parameters and results have the types that the text says.
use Rattle.std.proofs.Common.{◌≡◌, ℕ, Bool, true, false, cond, Option, None, Some, ◌∷◌, ◌++◌, map, position, refl, sym, ap, ◌∙◌, subst}
use Rattle.std.specs.Prelude.{IfSome, nat_eq, slice_get}
use Rattle.std.specs.Cmp.Lexicographic.{pointwise}
use Rattle.std.specs.List.{AllByRecursion, enumerate_from}
use Rattle.std.specs.Option.{option_and_then, option_map}
use Rattle.tm_syntax.specs.declared.design.Ty.{Ty}
use Rattle.tm_syntax.specs.declared.design.Var.{Var}
use Rattle.tm_syntax.specs.declared.tree.Param.{Param}
use Rattle.tm_syntax.specs.Tree.{ExprTree, TaskTree}
use Rattle.tm_syntax.specs.Scopes.Context.{Context, Frame, Slot, frame_of, local_slot, param_slot, slot_named, task_body, task_frame}
use Rattle.tm_syntax.specs.Scopes.Names.{type_of}
use Rattle.tm_syntax.specs.Scopes.Parts.{process_body_at, task_body_at, template_bodies, written_result}
use Rattle.tm_syntax.specs.Scopes.Pauses.{is_kept}
use Rattle.tm_syntax.specs.Faults.{IsTyped}
use Rattle.tm_syntax.specs.Design.{DesignTree, IsDesign, member_path}
use Rattle.tm_syntax.specs.Design.Cells.{Called, cell_type, in_state, in_step, slot_cell, variable_at}
use Rattle.tm_syntax.specs.Design.Scope.{Scope, Site, context, site}
use Rattle.tm_typing.specs.HasType.{HasType}
use Rattle.tm_typing.proofs.Listed.{In, filter_map_holds, in_behind, in_flat, in_front, in_map, of_find}
use Rattle.tm_locations.proofs.CalledBodies.{made}
use Rattle.tm_design.proofs.Frames.{body_once, of_task, same_slots}
use Rattle.tm_design.proofs.Indices.{in_enumerated}
use Rattle.tm_design.proofs.ParamCells.{parameters}
use Rattle.tm_states.proofs.Bodies.{IsTask}
use Rattle.tm_states.proofs.Memories.{IsOwn, same_bytes, slot_at}
use Rattle.tm_states.proofs.Promised.{answer_promised}
use Rattle.tm_states.proofs.Standing.{site_template}

module _ (d : DesignTree) where
  module _ (typed : IsTyped d.spec) (numbered : IsDesign d) where
    -- the cells of the parameters of a task
    module _ (u : Site) (there : site d u.number ≡ Some u) (k : ℕ) (task : TaskTree)
        (is : slice_get u.template.tasks k ≡ Some task) where
      abbrev here : Scope
      here = record { instance = u.number; body = task_body k }

      abbrev frame : Frame
      frame = task_frame d.spec u.template task

      -- the parameter or local that has a parameter's name is the parameter
      param_alone : (p : Param) → In p task.params → (s : Slot) → slot_at d here p.name.text ≡ Some s →
          s ≡ param_slot p
      param_alone p i s at =
          let named : slot_named frame p.name.text ≡ Some s =
          ap (option_and_then (λ (f : Frame). slot_named f p.name.text)) (ap (option_map (task_frame d.spec u.template))
          (sym is))
          ∙ ap (option_and_then (λ (at : Site). option_and_then (λ (f : Frame). slot_named f p.name.text)
          (frame_of d.spec at.template (task_body k)))) (sym there) ∙ at in
          let found = of_find (λ (s : Slot). pointwise nat_eq p.name.text s.name) frame.slots named in
          same_slots d.spec u.template (task_body k) frame s (param_slot p)
          (body_once d.spec u.template (task_body k) frame typed.once (site_template d u.number u there)
          (of_task task is refl))
          (of_task task is refl) found.0
          (in_front (map param_slot task.params) (map local_slot task.body.locals) (in_map param_slot task.params i))
          (sym (same_bytes p.name.text s.name found.1))

      param_own : (p : Param) → In p task.params → IfSome (slot_cell d here u frame (param_slot p)) (IsOwn d)
      param_own p i = by (is_kept d.spec u.template task)
        where
          of_state : (o : Option ℕ) → IfSome (option_map in_state o) (IsOwn d)
          of_state None = tt
          of_state (Some n) = tt

          by : (kept : Bool) →
              IfSome (cond kept (variable_at d (member_path u.node.path task.name.text ++ 46 ∷ p.name.text))
              (Some (in_step here p.name.text (type_of p.ty)))) (IsOwn d)
          by true =
              of_state (position (λ (v : Var). pointwise nat_eq
              (member_path u.node.path task.name.text ++ 46 ∷ p.name.text) v.path) d.vars)
          by false = λ s at. ap (λ (t : Slot). t.ty) (param_alone p i s at)

      params_own : AllByRecursion (IsOwn d) (made d u k task).params
      params_own =
          filter_map_holds (IsOwn d) (λ p. slot_cell d here u frame (param_slot p)) task.params param_own

    -- what a call runs, with what the text says of it
    module _ (c : Called) (to : IsTask d c) where
      pub task_own : AllByRecursion (IsOwn d) c.params
      task_own =
          subst (λ (x : Called). AllByRecursion (IsOwn d) x.params) to.same
          (params_own to.at to.there to.number to.task to.is)

      pub task_params : map (cell_type d) c.params ≡ map (λ (p : Param). Some (type_of p.ty)) to.task.params
      task_params =
          (parameters d typed numbered).parameters to.at.number to.at to.number to.task c to.there to.is
          (ap (option_map (made d to.at to.number)) to.is ∙ ap Some to.same)

      abbrev pub task_context : Context
      task_context = record { spec = d.spec; template = to.at.template; body = task_body to.number }

      pub task_here : context d c.scope ≡ Some task_context
      task_here =
          subst (λ (x : Called). context d x.scope ≡ Some task_context) to.same
          (ap (option_map (λ (v : Site). record {
            spec = d.spec;
            template = v.template;
            body = task_body to.number;
          })) to.there)

      -- what it returns is of the type that it is declared to have
      pub task_returns : (ty : Ty) → option_map type_of (written_result to.task.kind) ≡ Some ty → (e : ExprTree) →
          c.body.answer ≡ Some e → HasType task_context ty e
      task_returns ty declared e is =
          answer_promised d.spec typed (task_body_at d.spec to.at.template (to.number, to.task))
          (in_flat (template_bodies d.spec) d.spec.templates (site_template d to.at.number to.at to.there)
          (in_behind (map (process_body_at d.spec to.at.template) (enumerate_from 0 to.at.template.processes))
          (map (task_body_at d.spec to.at.template) (enumerate_from 0 to.at.template.tasks))
          (in_map (task_body_at d.spec to.at.template) (enumerate_from 0 to.at.template.tasks)
          (in_enumerated to.at.template.tasks to.number to.is))))
          e (ap (λ (x : Called). x.body.answer) to.same ∙ is) ty
          (ap (option_and_then (λ (t : TaskTree). option_map type_of (written_result t.kind))) to.is ∙ declared)
