-- The numbers of templates lead where the templates do.
use Rattle.std.proofs.Common.{◌≡◌, ℕ, Option, None, Some, List, [], ◌∷◌, slice_get, refl, sym, ap, ◌∙◌}
use Rattle.std.specs.Option.{option_and_then}
use Rattle.tm_syntax.specs.declared.tree.Ident.{Ident}
use Rattle.tm_syntax.specs.Tree.{SpecTree, TemplateTree}
use Rattle.tm_syntax.specs.Scopes.Names.{is_spelled, template_number, template_named, neighbor_template, template_along}
use Rattle.tm_scope.specs.Context.{template_at}
use Rattle.tm_syntax.specs.Scopes.Calls.{known_template, number_along}
use Rattle.tm_scope.proofs.Positions.{find-position}

and_then-Some : {X : Type 0} (o : Option X) → o ≡ option_and_then (λ x. Some x) o
and_then-Some None = refl
and_then-Some (Some x) = refl

module _ (spec : SpecTree) where
  -- one step further, where what follows leads where it does
  step : (rest : List Ident) →
      ((k : ℕ) → template_at spec (number_along spec k rest)
      ≡ option_and_then (λ t. template_along spec t rest) (slice_get spec.templates k)) →
      (name : List ℕ) (o : Option TemplateTree) →
      template_at spec (option_and_then (λ n. number_along spec n rest)
      (option_and_then (λ known. template_number spec known.text) (option_and_then (λ t. known_template t name) o)))
      ≡ option_and_then (λ t. option_and_then (λ n. template_along spec n rest) (neighbor_template spec t name)) o
  step rest leads name None = refl
  step rest leads name (Some t) = known (known_template t name)
    where
      found : (o : Option ℕ) →
          template_at spec (option_and_then (λ n. number_along spec n rest) o)
          ≡ option_and_then (λ n. template_along spec n rest) (option_and_then (slice_get spec.templates) o)
      found None = refl
      found (Some k) = leads k

      known : (w : Option Ident) →
          template_at spec (option_and_then (λ n. number_along spec n rest)
          (option_and_then (λ known. template_number spec known.text) w))
          ≡ option_and_then (λ n. template_along spec n rest)
          (option_and_then (λ known. template_named spec known.text) w)
      known None = refl
      known (Some i) =
          found (template_number spec i.text)
          ∙ ap (option_and_then (λ n. template_along spec n rest))
          (sym (find-position (λ t. is_spelled i.text t.name) spec.templates))

  -- the template of the number along a path is the template along the path
  pub template_at_number_along : (path : List Ident) (from : ℕ) →
      template_at spec (number_along spec from path)
      ≡ option_and_then (λ t. template_along spec t path) (slice_get spec.templates from)
  template_at_number_along [] from = and_then-Some (slice_get spec.templates from)
  template_at_number_along (name ∷ []) from = and_then-Some (slice_get spec.templates from)
  template_at_number_along (name ∷ next ∷ names) from =
      step (next ∷ names) (template_at_number_along (next ∷ names)) name.text (slice_get spec.templates from)
