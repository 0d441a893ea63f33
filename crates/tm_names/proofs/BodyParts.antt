-- The bodies of a text, by their templates.
use Rattle.std.proofs.Common.{◌≡◌, ℕ, ◌+◌, List, [], ◌∷◌, ◌++◌, map, refl, ap, ◌∙◌}
use Rattle.std.specs.List.{flat_map, enumerate_from}
use Rattle.std.proofs.lemmas.List.Concat.{flat_map-append}
use Rattle.tm_syntax.specs.Tree.{BodyTree, ProcessTree, TaskTree, TemplateTree, SpecTree}
use Rattle.tm_syntax.specs.Scopes.Context.{BodyName, process_body, task_body}
use Rattle.tm_syntax.specs.Scopes.Parts.{BodyAt, process_body_at, task_body_at, template_bodies}

-- what the parts of parts hold
pub flat_map-flat_map : {X Y Z : Type 0} (f : Y → List Z) (g : X → List Y) (xs : List X) →
    flat_map f (flat_map g xs) ≡ flat_map (λ x. flat_map f (g x)) xs
flat_map-flat_map f g [] = refl
flat_map-flat_map f g (x ∷ xs) =
    flat_map-append f (g x) (flat_map g xs) ∙ ap (λ ys. flat_map f (g x) ++ ys) (flat_map-flat_map f g xs)

-- what the bodies of a template hold, where it does not depend on their names
module _ {X : Type 0} (spec : SpecTree) (t : TemplateTree) (g : BodyAt → List X) (h : BodyTree → List X)
    (same : (name : BodyName) (body : BodyTree) →
    g (record { context = record { spec = spec; template = t; body = name }; body = body }) ≡ h body) where
  of_processes : (n : ℕ) (ps : List ProcessTree) →
      flat_map g (map (process_body_at spec t) (enumerate_from n ps)) ≡ flat_map (λ (p : ProcessTree). h p.body) ps
  of_processes n [] = refl
  of_processes n (p ∷ ps) = λ i. same (process_body n) p.body i ++ of_processes (n + 1) ps i

  of_tasks : (n : ℕ) (ks : List TaskTree) →
      flat_map g (map (task_body_at spec t) (enumerate_from n ks)) ≡ flat_map (λ (k : TaskTree). h k.body) ks
  of_tasks n [] = refl
  of_tasks n (k ∷ ks) = λ i. same (task_body n) k.body i ++ of_tasks (n + 1) ks i

  pub flat_map-bodies : flat_map g (template_bodies spec t)
      ≡ flat_map (λ (p : ProcessTree). h p.body) t.processes ++ flat_map (λ (k : TaskTree). h k.body) t.tasks
  flat_map-bodies =
      flat_map-append g (map (process_body_at spec t) (enumerate_from 0 t.processes))
      (map (task_body_at spec t) (enumerate_from 0 t.tasks))
      ∙ (λ i. of_processes 0 t.processes i ++ of_tasks 0 t.tasks i)
