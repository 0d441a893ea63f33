-- The types that a checked text writes are narrow.
use Rattle.std.proofs.Common.{◌≡◌, List, [], arith}
use Rattle.std.specs.Prelude.{All}
use Rattle.std.proofs.lemmas.List.Elements.{All-from_recursion}
use Rattle.tm_syntax.specs.declared.tree.TypeName.{TypeName}
use Rattle.tm_syntax.specs.declared.tree.TypeName.TheVariants as written
use Rattle.tm_syntax.specs.declared.tree.Param.{Param}
use Rattle.tm_syntax.specs.declared.tree.LocalDef.{LocalDef}
use Rattle.tm_syntax.specs.declared.tree.VarDef.{VarDef}
use Rattle.tm_syntax.specs.declared.tree.ProcessDef.{ProcessDef}
use Rattle.tm_syntax.specs.declared.tree.TaskDef.{TaskDef}
use Rattle.tm_syntax.specs.declared.tree.Template.{Template}
use Rattle.tm_syntax.specs.declared.tree.Spec.{Spec}
use Rattle.tm_syntax.specs.Tree.View.{local_tree, var_tree, process_tree, task_tree, template_tree, spec_tree}
use Rattle.tm_syntax.specs.Scopes.Names.{type_of}
use Rattle.tm_syntax.specs.Faults.Literals.{misfit_numbers}
use Rattle.tm_typing.specs.HasType.{IsSized}
use Rattle.tm_typing.proofs.Listed.{In, in_map, all_hold}
use Rattle.tm_typing.proofs.Slots.{AreSized, var_sized, process_local_sized, param_sized, task_local_sized}
use Rattle.tm_typing.proofs.Promises.{types_sized}
use Rattle.tm_inst.specs.Sizes.{HasNarrowLocals, HasNarrowSlots, HasNarrowTypes, IsNarrow}

-- what holds of each item holds of all
each_holds : {A : Type 0} (P : A → Type 0) (xs : List A) → ((x : A) → In x xs → P x) → All P xs
each_holds P xs each = All-from_recursion P xs (all_hold P xs each)

narrow : (ty : TypeName) → IsSized (type_of ty) → IsNarrow ty
narrow (written.Bool _) sized = omega arith
narrow (written.Enum _) sized = omega arith
narrow (written.Uint _ n) sized = sized.high

module _ (t : Template) (sized : AreSized (template_tree t)) where
  vars_narrow : All (λ (v : VarDef). IsNarrow v.ty) t.vars.items
  vars_narrow =
      each_holds (λ (v : VarDef). IsNarrow v.ty) t.vars.items
      (λ v i. narrow v.ty (var_sized (template_tree t) (var_tree v) sized (in_map var_tree t.vars.items i)))

  process_narrow : (p : ProcessDef) → In p t.processes.items → HasNarrowLocals p.body
  process_narrow p i =
      each_holds (λ (l : LocalDef). IsNarrow l.ty) p.body.locals.items
      (λ l j. narrow l.ty (process_local_sized (template_tree t) (process_tree p) (local_tree l) sized
      (in_map process_tree t.processes.items i) (in_map local_tree p.body.locals.items j)))

  task_narrow : (k : TaskDef) → In k t.tasks.items → HasNarrowSlots k
  task_narrow k i = record {
    params = each_holds (λ (p : Param). IsNarrow p.ty) k.params.items
        (λ p j. narrow p.ty (param_sized (template_tree t) (task_tree k) p sized (in_map task_tree t.tasks.items i) j));
    locals = each_holds (λ (l : LocalDef). IsNarrow l.ty) k.body.locals.items
        (λ l j. narrow l.ty (task_local_sized (template_tree t) (task_tree k) (local_tree l) sized
        (in_map task_tree t.tasks.items i) (in_map local_tree k.body.locals.items j)));
  }

  template_narrow : HasNarrowTypes t
  template_narrow = record {
    vars = vars_narrow;
    processes = each_holds (λ (p : ProcessDef). HasNarrowLocals p.body) t.processes.items process_narrow;
    tasks = each_holds HasNarrowSlots t.tasks.items task_narrow;
  }

-- each template of a text whose numbers fit has narrow types
pub all_narrow : (spec : Spec) → misfit_numbers (spec_tree spec) ≡ [] → All HasNarrowTypes spec.templates.items
all_narrow spec fitting =
    each_holds HasNarrowTypes spec.templates.items
    (λ t i. template_narrow t (types_sized (spec_tree spec) fitting (template_tree t)
    (in_map template_tree spec.templates.items i)))
