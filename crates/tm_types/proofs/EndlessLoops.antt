-- The endless loops of a text, by its templates and the marks on its tasks.
use Rattle.std.proofs.Common.{◌≡◌, ℕ, ◌<◌, Bool, Some, List, length, get_or, slice_get, refl, sym, ap, ◌∙◌}
use Rattle.std.specs.List.{flat_map}
use Rattle.std.proofs.lemmas.List.Folds.{flat_map-map}
use Rattle.std.proofs.lemmas.Option.{slice_get-get_or}
use Rattle.tm_base.specs.declared.place.Place.{Place}
use Rattle.tm_syntax.specs.declared.tree.Ident.{Ident}
use Rattle.tm_syntax.specs.declared.tree.Spec.{Spec}
use Rattle.tm_syntax.specs.declared.tree.Template.{Template}
use Rattle.tm_syntax.specs.Tree.{StmtTree, assign, invoke, branch, repeat, forever, choose, assert, assume, pause, wait, magic, BodyTree, TemplateTree, SpecTree}
use Rattle.tm_syntax.specs.Tree.View.{spec_tree, template_tree}
use Rattle.tm_syntax.specs.Scopes.Crossing.{call_crosses}
use Rattle.tm_syntax.specs.Scopes.Parts.{BodyAt, stmts_in, template_bodies}
use Rattle.tm_syntax.specs.Faults.Crossings.{endless_loops, loop_faults}
use Rattle.tm_syntax.specs.declared.member.Member.{Member}
use Rattle.tm_scope.specs.Marks.{CallTable, is_marked}
use Rattle.tm_types.specs.CallMarks.{TellCalls}
use Rattle.tm_types.specs.Inner.Crossings.{body_loops, in_bodies, loops_of}
use Rattle.tm_names.proofs.BodyParts.{flat_map-bodies, flat_map-flat_map}

-- marks that are read from a template of the text
pub marks_read : (spec : Spec) (tasks : List Member) (does : TemplateTree → List Ident → Bool) →
    TellCalls spec tasks does → (slice : List Template) → slice ≡ spec.templates.items →
    (number : ℕ) (t : Template) → number < length slice → t ≡ get_or slice number t →
    (scoped : Spec) → scoped ≡ spec → (table : CallTable) →
    table ≡ record { spec = scoped; from = number; tasks = tasks } →
    is_marked table ≡ does (template_tree t)
marks_read spec tasks does told slice same number t within is scoped alike table made =
    ap is_marked made
    ∙ ap (λ s. is_marked (record { spec = s; from = number; tasks = tasks })) alike
    ∙ told.tell number t there
  where
    there : slice_get spec.templates.items number ≡ Some t
    there =
        ap (λ ts. slice_get ts number) (sym same)
        ∙ slice_get-get_or slice number t within
        ∙ ap (λ u. Some u) (sym is)

loop_faults-by_calls : (spec : SpecTree) (t : TemplateTree) (s : StmtTree) →
    loop_faults spec t s ≡ loops_of (call_crosses spec t) s
loop_faults-by_calls spec t (assign _ _ _) = refl
loop_faults-by_calls spec t (invoke _ _) = refl
loop_faults-by_calls spec t (branch _ _ _) = refl
loop_faults-by_calls spec t (repeat _ _ _) = refl
loop_faults-by_calls spec t (forever _ _) = refl
loop_faults-by_calls spec t (choose _ _) = refl
loop_faults-by_calls spec t (assert _ _) = refl
loop_faults-by_calls spec t (assume _ _) = refl
loop_faults-by_calls spec t (pause _) = refl
loop_faults-by_calls spec t (wait _ _) = refl
loop_faults-by_calls spec t (magic _) = refl

body_loops-by_calls : (spec : SpecTree) (t : TemplateTree) (body : BodyTree) →
    flat_map (loop_faults spec t) (stmts_in body) ≡ body_loops (call_crosses spec t) body
body_loops-by_calls spec t body = λ i. flat_map (λ s. loop_faults-by_calls spec t s i) (stmts_in body)

-- the loops of a template
abbrev pub template_loops : SpecTree → TemplateTree → List Place
template_loops spec t = in_bodies (body_loops (call_crosses spec t)) t

-- the loops of a text are those of its templates
pub endless_loops-by_templates : (s : Spec) →
    flat_map (λ (t : Template). template_loops (spec_tree s) (template_tree t)) s.templates.items
    ≡ endless_loops (spec_tree s)
endless_loops-by_templates s =
    let spec : SpecTree = spec_tree s in
    let loops : BodyAt → List Place = λ b.
    flat_map (loop_faults b.context.spec b.context.template) (stmts_in b.body) in
    sym (flat_map-flat_map loops (template_bodies spec) spec.templates
    ∙ (λ i. flat_map (λ t. flat_map-bodies spec t loops (body_loops (call_crosses spec t))
    (λ name body. body_loops-by_calls spec t body) i) spec.templates)
    ∙ flat_map-map (template_loops spec) template_tree s.templates.items)
