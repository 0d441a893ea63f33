-- The lists of a short text are so short that numbers of 32 bits tell their members.
use Rattle.std.proofs.Common.{◌≤◌, ◌^◌, length, arith}
use Rattle.std.specs.Prelude.{All}
use Rattle.std.proofs.lemmas.List.{length-map}
use Rattle.std.proofs.lemmas.List.Elements.{All-from_recursion}
use Rattle.tm_syntax.specs.declared.tree.Template.{Template}
use Rattle.tm_syntax.specs.declared.tree.Spec.{Spec}
use Rattle.tm_syntax.specs.Limits.{specification_limit}
use Rattle.tm_syntax.specs.Tree.View.{named_tree, process_tree, task_tree, template_tree, spec_tree}
use Rattle.tm_typing.proofs.Listed.{in_map, all_hold, holds_in}
use Rattle.tm_inst.specs.Sizes.{HasShortLists}
use Rattle.tm_inst.specs.ShortTexts.{IsOfShortText}
use Rattle.tm_inst.proofs.ShortLists.{HasFew, short_lists}

members_short : (t : Template) → HasFew specification_limit (template_tree t) → HasShortLists t
members_short t few = record {
  processes = (
      let size = length-map t.processes.items process_tree in let most = few.processes in omega arith
      );
  tasks = (let size = length-map t.tasks.items task_tree in let most = few.tasks in omega arith);
  goals = (let size = length-map t.goals.items named_tree in let most = few.goals in omega arith);
  fairs = (let size = length-map t.fairs.items named_tree in let most = few.fairs in omega arith);
}

module _ (spec : Spec) (short : IsOfShortText (spec_tree spec)) where
  -- there are few templates
  pub templates_short : length spec.templates.items ≤ 2 ^ 32
  templates_short =
      let size = length-map spec.templates.items template_tree in
      let most = (short_lists (spec_tree spec) short).0 in omega arith

  -- each lists few members
  pub lists_short : All HasShortLists spec.templates.items
  lists_short =
      All-from_recursion HasShortLists spec.templates.items
      (all_hold HasShortLists spec.templates.items
      (λ t i. members_short t (holds_in (HasFew specification_limit) (spec_tree spec).templates
      (short_lists (spec_tree spec) short).1 (in_map template_tree spec.templates.items i))))
