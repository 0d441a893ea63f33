-- The locations of a text in what is to be one step, by its templates and the marks on its tasks.
use Rattle.std.proofs.Common.{◌≡◌, Bool, true, false, List, [], ◌∷◌, ◌++◌, if◌then◌else◌, refl, sym, ap, ◌∙◌}
use Rattle.std.specs.List.{filter, flat_map}
use Rattle.std.proofs.lemmas.List.Folds.{flat_map-map}
use Rattle.tm_base.specs.declared.place.Place.{Place}
use Rattle.tm_syntax.specs.declared.tree.Spec.{Spec}
use Rattle.tm_syntax.specs.declared.tree.Template.{Template}
use Rattle.tm_syntax.specs.Tree.{TaskTree, TemplateTree, SpecTree}
use Rattle.tm_syntax.specs.Tree.View.{spec_tree, template_tree}
use Rattle.tm_syntax.specs.Scopes.Pauses.{is_uncontrollable}
use Rattle.tm_syntax.specs.Scopes.Parts.{all_stmts}
use Rattle.tm_syntax.specs.Faults.Crossings.{atomic_locations, call_pauses, holds_location, stmt_place, task_locations}
use Rattle.tm_types.specs.Inner.Crossings.{pausing_local, task_locations_by}

-- what those that pass hold
filtered : {X Y : Type 0} (p : X → Bool) (f : X → List Y) (xs : List X) →
    flat_map f (filter p xs) ≡ flat_map (λ x. if p x then f x else []) xs
filtered p f [] = refl
filtered p f (x ∷ xs) = by (p x) refl (filtered p f xs)
  where
    by : (b : Bool) → p x ≡ b → flat_map f (filter p xs) ≡ flat_map (λ y. if p y then f y else []) xs →
        flat_map f (filter p (x ∷ xs)) ≡ flat_map (λ y. if p y then f y else []) (x ∷ xs)
    by true is others = rw is (ap (λ ys. f x ++ ys) others)
    by false is others = rw is others

task_locations-by_calls : (spec : SpecTree) (t : TemplateTree) (k : TaskTree) →
    task_locations spec t k ≡ task_locations_by (call_pauses spec t) k
task_locations-by_calls spec t k =
    ap (λ places. if is_uncontrollable k.kind then [] else
    (flat_map (pausing_local (call_pauses spec t)) k.body.locals ++ places))
    (filtered (holds_location spec t) stmt_place (all_stmts k.body.stmts))

-- the locations of a template
abbrev pub template_locations : SpecTree → TemplateTree → List Place
template_locations spec t = flat_map (task_locations_by (call_pauses spec t)) t.tasks

locations-by_calls : (spec : SpecTree) → atomic_locations spec ≡ flat_map (template_locations spec) spec.templates
locations-by_calls spec = λ i.
    flat_map (λ (t : TemplateTree). flat_map (λ (k : TaskTree). task_locations-by_calls spec t k i) t.tasks)
    spec.templates

-- the locations of a text are those of its templates
pub atomic_locations-by_templates : (s : Spec) →
    flat_map (λ (t : Template). template_locations (spec_tree s) (template_tree t)) s.templates.items
    ≡ atomic_locations (spec_tree s)
atomic_locations-by_templates s =
    sym (locations-by_calls (spec_tree s)
    ∙ flat_map-map (template_locations (spec_tree s)) template_tree s.templates.items)
