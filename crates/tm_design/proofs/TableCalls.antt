-- The task that a path calls, by the tables of a design.
use Rattle.std.proofs.Common.{◌≡◌, ℕ, Option, None, Some, List, slice_get, refl, sym, ap, ◌∙◌}
use Rattle.std.specs.Option.{option_and_then, option_map}
use Rattle.tm_syntax.specs.declared.design.Instance.{Instance}
use Rattle.tm_syntax.specs.declared.tree.Ident.{Ident}
use Rattle.tm_syntax.specs.declared.tree.TaskDef.{TaskDef}
use Rattle.tm_syntax.specs.declared.tree.Template.{Template}
use Rattle.tm_syntax.specs.Tree.{BodyTree}
use Rattle.tm_syntax.specs.Tree.View.{body_tree}
use Rattle.tm_syntax.specs.Scopes.Context.{BodyName, task_body}
use Rattle.tm_syntax.specs.Design.{DesignTree}
use Rattle.tm_syntax.specs.Design.Cells.{Called, called}
use Rattle.tm_syntax.specs.Design.Scope.{Scope}
use Rattle.tm_scope.specs.Cells.{CellTables, HasCells, scope_of}
use Rattle.tm_scope.specs.Context.{body_name}
use Rattle.tm_scope.specs.Instances.{IsOver, task_called_at}
use Rattle.tm_scope.specs.declared.cells.site_body.SiteBody.{SiteBody}
use Rattle.tm_scope.specs.declared.context.BodyName.TheVariants.{Task}
use Rattle.tm_locations.proofs.TableCallees.{with-task}
use Rattle.tm_locations.proofs.WalkCalls.{told}
use Rattle.tm_design.specs.Parameters.{named_task}
use Rattle.tm_design.specs.Callees.{IsCallee, instances_of}
use Rattle.tm_design.proofs.Found.{map_is}

-- the tables of a design are over it
pub over : (x : CellTables) (d : DesignTree) → HasCells x d → IsOver (instances_of x) d
over x d has = record { text = has.text; instances = has.instances }

module _ (x : CellTables) (from : SiteBody) (names : List Ident) (n k : ℕ)
    (along : (d : DesignTree) → IsOver (instances_of x) d → (body : BodyName) →
    task_called_at d (record { instance = n; index = k })
    ≡ called d (record { instance = from.instance; body = body }) names) where
  abbrev found_at : SiteBody
  found_at = record { instance = n; body = Task k }

  -- where an instance, its template or the task is missing nothing is called
  pub none_called : ((d : DesignTree) → IsOver (instances_of x) d →
      option_map told (task_called_at d (record { instance = n; index = k })) ≡ None) →
      (d : DesignTree) → HasCells x d → called d (scope_of from) names ≡ None
  none_called nowhere d has = sym (along d (over x d has) (body_name from.body)) ∙ none (nowhere d (over x d has))
    where
      none : {o : Option Called} → option_map told o ≡ None → o ≡ None
      none {o} h = by o h
        where
          by : (o : Option Called) → option_map told o ≡ None → o ≡ None
          by None h = refl
          by (Some c) h = absurd (cc)

  module _ (i : Instance) (at : slice_get x.instances n ≡ Some i) (t : Template)
      (there : slice_get x.spec.templates.items i.template ≡ Some t) (task : TaskDef)
      (is : slice_get t.tasks.items k ≡ Some task) where
    pub is_callee : IsCallee x from names found_at task
    is_callee = record {
      task =
          ap (option_and_then (λ (i : Instance). option_and_then (λ t. named_task t (Task k))
          (slice_get x.spec.templates.items i.template))) at
          ∙ ap (option_and_then (λ t. named_task t (Task k))) there
          ∙ is;
      runs = λ d has.
          let c = map_is told (task_called_at d (record { instance = n; index = k }))
          (record { instance = n; body = task_body k }, body_tree task.body)
          (with-task (instances_of x) d (over x d has) n i at t there k task is) in
          record {
            called = c.0;
            is = sym (along d (over x d has) (body_name from.body)) ∙ c.1;
            by = c.1;
            scope = ap (λ (p : Scope × BodyTree). p.0) c.2;
            body = ap (λ (p : Scope × BodyTree). p.1) c.2;
          };
    }
