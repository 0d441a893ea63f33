use Rattle.std.proofs.Common.{◌≡◌, true, List, map, ap, ◌∙◌, subst}
use Rattle.std.specs.Prelude.{◌↔◌}
use Rattle.std.specs.List.{enumerate_from, flat_map}
use Rattle.tm_syntax.specs.declared.member.Member.{Member}
use Rattle.tm_syntax.specs.declared.tree.Spec.{Spec}
use Rattle.tm_syntax.specs.Scopes.Calls.{Reaches}
use Rattle.tm_syntax.specs.Tree.View.{spec_tree, template_tree}
use Rattle.tm_syntax.specs.Faults.Cycles.{template_tasks}
use Rattle.tm_syntax.specs.Faults.Marks.{first_mark}
use Rattle.tm_scope.specs.Marks.{is_in}
use Rattle.tm_types.specs.Inner.Looping.{looping_mark}
use Rattle.tm_types.proofs.LoopingTasks.{looping_found, looping_none}
use Rattle.tm_types.proofs.cycles.first_looping.Goals as goal

pub returns-clause-first : goal.returns-clause-first
returns-clause-first c =
    let looping : List Member = c.in-Ok.given in
    looping_found (spec_tree c.args.spec.now) looping
    (subst (λ (s : Spec). (m : Member) → (is_in looping m ≡ true) ↔ Reaches (spec_tree s) m m) c.requires
    c.in-Ok.ensures) c.first_in_templates-first.result
    (c.first_in_templates-first.ensures ∙ ap (λ ts. first_mark (flat_map (looping_mark looping)
    (flat_map template_tasks (enumerate_from 0 (map template_tree ts))))) c.as_slice.ensures.value)

pub returns-clause-none : goal.returns-clause-none
returns-clause-none c =
    let looping : List Member = c.in-Ok.given in
    looping_none (spec_tree c.args.spec.now) looping
    (subst (λ (s : Spec). (m : Member) → (is_in looping m ≡ true) ↔ Reaches (spec_tree s) m m) c.requires
    c.in-Ok.ensures) c.first_in_templates-first.result
    (c.first_in_templates-first.ensures ∙ ap (λ ts. first_mark (flat_map (looping_mark looping)
    (flat_map template_tasks (enumerate_from 0 (map template_tree ts))))) c.as_slice.ensures.value)
