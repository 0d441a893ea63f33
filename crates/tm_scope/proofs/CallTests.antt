-- Where the tasks that pass a test are known, the test of each call is.
use Rattle.std.proofs.Common.{◌≡◌, ℕ, Bool, true, false, Option, None, Some, List, slice_get, refl, sym, ap, ◌∙◌, true≢false}
use Rattle.std.specs.Option.{option_map_or, option_and_then}
use Rattle.tm_syntax.specs.declared.tree.Ident.{Ident}
use Rattle.tm_syntax.specs.declared.tree.Spec.{Spec}
use Rattle.tm_syntax.specs.declared.tree.Template.{Template}
use Rattle.tm_syntax.specs.Tree.{SpecTree, TemplateTree, TaskTree}
use Rattle.tm_syntax.specs.Tree.View.{spec_tree, template_tree}
use Rattle.tm_syntax.specs.Scopes.Pauses.{task_reached}
use Rattle.tm_scope.specs.CallOrder.{CoversTasks}
use Rattle.tm_scope.specs.Marks.{ArePassing, is_in, is_marked}
use Rattle.tm_scope.specs.Members.{task_at}
use Rattle.tm_syntax.specs.Scopes.Calls.{task_number}
use Rattle.tm_syntax.specs.declared.member.Member.{Member}
use Rattle.tm_scope.proofs.CallOrders.{numbered}
use Rattle.tm_scope.proofs.Meanings.{task_at_number}
use Rattle.tm_scope.proofs.PathSteps.{template_read}

map_or-and_then : {X Y : Type 0} (f : X → Option Y) (g : Y → Bool) (o : Option X) →
    option_map_or (λ x. option_map_or g (f x) false) o false ≡ option_map_or g (option_and_then f o) false
map_or-and_then f g None = refl
map_or-and_then f g (Some x) = refl

module _ (spec : SpecTree) (test : TemplateTree × TaskTree → Bool) (order tasks : List Member)
    (covers : CoversTasks spec order) (passing : ArePassing
    (λ m. option_map_or test (task_at spec m) false) order tasks)
  where
    -- each task is in the set exactly where it passes, and nothing else is
    known : (m : Member) → is_in tasks m ≡ option_map_or test (task_at spec m) false
    known m = by (task_at spec m) refl
      where
        out : task_at spec m ≡ None → (b : Bool) → is_in tasks m ≡ b → b ≡ false
        out absent true e =
            absurd (true≢false (sym (passing.sound m e) ∙ ap (λ o. option_map_or test o false) absent))
        out absent false e = refl

        by : (o : Option (TemplateTree × TaskTree)) → task_at spec m ≡ o →
            is_in tasks m ≡ option_map_or test (task_at spec m) false
        by None e = out e (is_in tasks m) refl ∙ sym (ap (λ o. option_map_or test o false) e)
        by (Some t) e =
            let at = covers m t.1 (numbered spec m t e) in
            passing.complete at.0 m at.1

    known_number : (o : Option Member) →
        option_map_or (is_in tasks) o false ≡ option_map_or test (option_and_then (task_at spec) o) false
    known_number None = refl
    known_number (Some m) = known m

-- the test of the calls from a template
pub calls_known : (s : Spec) (test : TemplateTree × TaskTree → Bool) (order tasks : List Member) (from : ℕ)
    (t : Template) →
    CoversTasks (spec_tree s) order →
    ArePassing (λ m. option_map_or test (task_at (spec_tree s) m) false) order tasks →
    slice_get s.templates.items from ≡ Some t →
    is_marked (record { spec = s; from = from; tasks = tasks })
    ≡ (λ path. option_map_or test (task_reached (spec_tree s) (template_tree t) path) false)
calls_known s test order tasks from t covers passing at = λ i path. by path i
  where
    by : (path : List Ident) →
        option_map_or (is_in tasks) (task_number (spec_tree s) from path) false
        ≡ option_map_or test (task_reached (spec_tree s) (template_tree t) path) false
    by path =
        known_number (spec_tree s) test order tasks covers passing (task_number (spec_tree s) from path)
        ∙ ap (λ o. option_map_or test o false)
        (task_at_number (spec_tree s) path from
        ∙ ap (option_and_then (λ u. task_reached (spec_tree s) u path)) (template_read s from t at))
