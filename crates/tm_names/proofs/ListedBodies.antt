-- The bodies of a template, seen from the front.
use Rattle.std.proofs.Common.{◌≡◌, ℕ, ◌+◌, ◌<◌, List, [], ◌∷◌, ◌++◌, length, get_or, drop, sym, ap, ◌∙◌}
use Rattle.std.proofs.lemmas.List.{at_drop_more}
use Rattle.tm_syntax.specs.declared.tree.ProcessDef.{ProcessDef}
use Rattle.tm_syntax.specs.declared.tree.TaskDef.{TaskDef}
use Rattle.tm_syntax.specs.Tree.{TemplateTree, SpecTree}
use Rattle.tm_syntax.specs.Tree.View.{body_tree}
use Rattle.tm_scope.specs.declared.context.BodyName.TheVariants.{Process, Task}
use Rattle.tm_names.specs.Inner.BodyLists.{placed, process_bodies, task_bodies}

pub process_bodies-more : (spec : SpecTree) (t : TemplateTree) (ps : List ProcessDef) (i : ℕ) (p : ProcessDef) →
    i < length ps → p ≡ get_or ps i p →
    process_bodies spec t i (drop i ps)
    ≡ (placed spec t (Process i) (body_tree p.body) ∷ []) ++ process_bodies spec t (i + 1) (drop (i + 1) ps)
process_bodies-more spec t ps i p within is =
    at_drop_more (λ ys. process_bodies spec t i ys) ps i p within
    ∙ ap (λ (q : ProcessDef). placed spec t (Process i) (body_tree q.body)
    ∷ process_bodies spec t (i + 1) (drop (i + 1) ps)) (sym is)

pub task_bodies-more : (spec : SpecTree) (t : TemplateTree) (ks : List TaskDef) (i : ℕ) (k : TaskDef) →
    i < length ks → k ≡ get_or ks i k →
    task_bodies spec t i (drop i ks)
    ≡ (placed spec t (Task i) (body_tree k.body) ∷ []) ++ task_bodies spec t (i + 1) (drop (i + 1) ks)
task_bodies-more spec t ks i k within is =
    at_drop_more (λ ys. task_bodies spec t i ys) ks i k within
    ∙ ap (λ (l : TaskDef). placed spec t (Task i) (body_tree l.body) ∷ task_bodies spec t (i + 1) (drop (i + 1) ks))
    (sym is)
