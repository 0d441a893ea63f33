use Rattle.std.proofs.Common.{List, map, subst}
use Rattle.tm_syntax.specs.declared.tree.ProcessDef.{ProcessDef}
use Rattle.tm_syntax.specs.declared.tree.TaskDef.{TaskDef}
use Rattle.tm_syntax.specs.Scopes.Declared.{Declared, members}
use Rattle.tm_syntax.specs.Tree.View.{process_tree, task_tree, template_tree}
use Rattle.tm_names.specs.TextScopes.{Each, IsProcessScope, IsTaskScope}
use Rattle.tm_names.proofs.scopes.text_scopes.template_scopes.Goals as goal

pub returns : goal.returns
returns c =
    let around : List Declared = members (template_tree c.args.template.now) in
    record {
      members = c.in_ok-members.ensures;
      processes = subst (λ (ps : List ProcessDef).
          Each (IsProcessScope around c.in_ok-members.members) (map process_tree ps) c.in_ok-processes.processes.items)
          c.as_slice.ensures.value (c.in_ok-processes.ensures around c.in_ok-members.ensures);
      tasks = subst (λ (ks : List TaskDef).
          Each (IsTaskScope around c.in_ok-members.members) (map task_tree ks) c.in_ok-tasks.tasks.items)
          c.as_slice-2.ensures.value (c.in_ok-tasks.ensures around c.in_ok-members.ensures);
    }
