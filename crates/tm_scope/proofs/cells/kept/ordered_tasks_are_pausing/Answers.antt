use Rattle.std.proofs.Common.{◌≡◌, Bool, true, false, Option, None, Some, List, refl, sym, ap, ◌∙◌}
use Rattle.std.specs.Option.{option_map_or}
use Rattle.tm_syntax.specs.declared.member.Member.{Member}
use Rattle.tm_syntax.specs.Tree.{SpecTree, TaskTree, TemplateTree}
use Rattle.tm_syntax.specs.Scopes.Pauses.{may_pause}
use Rattle.tm_scope.specs.CallOrder.{CoversTasks}
use Rattle.tm_scope.specs.Marks.{ArePassing, is_in, pauses_at}
use Rattle.tm_scope.specs.Members.{task_at}
use Rattle.tm_scope.proofs.CallOrders.{numbered}
use Rattle.tm_scope.proofs.cells.kept.ordered_tasks_are_pausing.Goals as goal

-- the tasks of an order with all tasks that may pause are those of the text that do
all_pausing : (spec : SpecTree) (order tasks : List Member) → CoversTasks spec order →
    ArePassing (pauses_at spec) order tasks → (m : Member) → is_in tasks m ≡ pauses_at spec m
all_pausing spec order tasks covers passing m = by (task_at spec m) refl
  where
    absent : pauses_at spec m ≡ false → (b : Bool) → is_in tasks m ≡ b → b ≡ false
    absent none false is = refl
    absent none true is = sym (passing.sound m is) ∙ none

    by : (o : Option (TemplateTree × TaskTree)) → task_at spec m ≡ o → is_in tasks m ≡ pauses_at spec m
    by None is =
        let none : pauses_at spec m ≡ false
        = ap (λ o. option_map_or (λ (t : TemplateTree × TaskTree). may_pause spec t.0 t.1) o false) is in
        absent none (is_in tasks m) refl ∙ sym none
    by (Some t) is =
        let found = covers m t.1 (numbered spec m t is) in passing.complete found.0 m found.1

pub returns : goal.returns
returns c = all_pausing
