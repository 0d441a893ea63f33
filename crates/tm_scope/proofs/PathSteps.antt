-- The steps of a walk along a path, from one template to the next.
use Rattle.std.proofs.Common.{◌≡◌, ℕ, suc, ◌-◌, ◌<◌, ◌≤◌, Some, List, [], ◌∷◌, length, drop, get_or, position, slice_get, refl, sym, ap, ◌∙◌, arith, length-drop, drop-cons}
use Rattle.std.proofs.lemmas.Option.{slice_get-map}
use Rattle.std.specs.Option.{option_map, option_and_then}
use Rattle.tm_syntax.specs.declared.tree.Ident.{Ident}
use Rattle.tm_syntax.specs.declared.tree.Spec.{Spec}
use Rattle.tm_syntax.specs.declared.tree.Template.{Template}
use Rattle.tm_syntax.specs.Tree.View.{spec_tree, template_tree}
use Rattle.tm_syntax.specs.Tree.{SpecTree}
use Rattle.tm_syntax.specs.Scopes.Names.{is_spelled, template_number, last_name}
use Rattle.tm_syntax.specs.Scopes.Calls.{known_template, neighbor_number, number_along, task_number}
use Rattle.tm_scope.specs.Members.{var_number}

-- from a template that is there
module _ (s : Spec) (from : ℕ) (t : Template) (at : slice_get s.templates.items from ≡ Some t) where
  pub template_read : slice_get (spec_tree s).templates from ≡ Some (template_tree t)
  template_read = slice_get-map template_tree s.templates.items from ∙ ap (option_map template_tree) at

  pub neighbor_number-read : (name : List ℕ) →
      neighbor_number (spec_tree s) from name
      ≡ option_and_then (λ known. template_number (spec_tree s) known.text) (known_template (template_tree t) name)
  neighbor_number-read name =
      ap (λ o. option_and_then (λ known. template_number (spec_tree s) known.text)
      (option_and_then (λ t. known_template t name) o)) template_read

module _ (spec : SpecTree) where
  along-cons : (from : ℕ) (name : Ident) (rest : List Ident) → 0 < length rest →
      number_along spec from (name ∷ rest)
      ≡ option_and_then (λ n. number_along spec n rest) (neighbor_number spec from name.text)
  along-cons from name [] h = absurd (omega arith)
  along-cons from name (next ∷ names) h = refl

  -- one name further along a path, where another one stands behind it
  pub number_along-step : (from : ℕ) (path : List Ident) (next : ℕ) (name : Ident) → 0 < next → next < length path →
      name ≡ get_or path (next - 1) name →
      number_along spec from (drop (next - 1) path)
      ≡ option_and_then (λ n. number_along spec n (drop next path)) (neighbor_number spec from name.text)
  number_along-step from path next name later within is =
      let before : next - 1 < length path = omega arith in
      let behind : suc (next - 1) ≡ next = omega arith in
      let left : 0 < length (drop next path) = simp length-drop (omega arith) in
      ap (number_along spec from) (drop-cons path (next - 1) name before
      ∙ (λ j. sym is j ∷ drop (behind j) path))
      ∙ along-cons from name (drop next path) left

  -- at the last name, or without one, a path has ended
  along-end : (at : ℕ) (rest : List Ident) → length rest ≤ 1 → number_along spec at rest ≡ Some at
  along-end at [] h = refl
  along-end at (name ∷ []) h = refl
  along-end at (name ∷ next ∷ names) h = absurd (omega arith)

  pub number_along-end : (at : ℕ) (path : List Ident) (next : ℕ) → length path ≤ next →
      number_along spec at (drop (next - 1) path) ≡ Some at
  number_along-end at path next over =
      along-end at (drop (next - 1) path) (simp length-drop (omega arith))

-- what a path means, from the number of the template in which it ends
module _ (s : Spec) (from n : ℕ) (t : Template) (path : List Ident)
    (along : number_along (spec_tree s) from path ≡ Some n) (at : slice_get s.templates.items n ≡ Some t) where
  pub var_number-read : var_number (spec_tree s) from path
      ≡ option_map (λ k. record { template = n; index = k })
      (position (λ v. is_spelled (last_name path) v.name) (template_tree t).vars)
  var_number-read =
      ap (option_and_then (λ n. option_and_then (λ t. option_map (λ k. record { template = n; index = k })
      (position (λ v. is_spelled (last_name path) v.name) t.vars)) (slice_get (spec_tree s).templates n))) along
      ∙ ap (option_and_then (λ t. option_map (λ k. record { template = n; index = k })
      (position (λ v. is_spelled (last_name path) v.name) t.vars))) (template_read s n t at)

  pub task_number-read : task_number (spec_tree s) from path
      ≡ option_map (λ k. record { template = n; index = k })
      (position (λ k. is_spelled (last_name path) k.name) (template_tree t).tasks)
  task_number-read =
      ap (option_and_then (λ n. option_and_then (λ t. option_map (λ k. record { template = n; index = k })
      (position (λ k. is_spelled (last_name path) k.name) t.tasks)) (slice_get (spec_tree s).templates n))) along
      ∙ ap (option_and_then (λ t. option_map (λ k. record { template = n; index = k })
      (position (λ k. is_spelled (last_name path) k.name) t.tasks))) (template_read s n t at)

-- the last name of a path that has one
pub last_name-read : (path : List Ident) (name : Ident) → 0 < length path → name ≡ get_or path (length path - 1) name →
    name.text ≡ last_name path
last_name-read [] name some is = absurd (omega arith)
last_name-read (first ∷ []) name some is = ap (λ (n : Ident). n.text) is
last_name-read (first ∷ next ∷ names) name some is =
    let before : length (first ∷ next ∷ names) - 1 ≡ suc (length (next ∷ names) - 1) = omega arith in
    let more : 0 < length (next ∷ names) = omega arith in
    last_name-read (next ∷ names) name more (is ∙ ap (λ k. get_or (first ∷ next ∷ names) k name) before)

-- a path of one name
pub one_name : (path : List Ident) (name : Ident) → 1 ≤ length path → length path < 2 → name ≡ get_or path 0 name →
    path ≡ name ∷ []
one_name [] name some short is = absurd (omega arith)
one_name (first ∷ []) name some short is = ap (λ n. n ∷ []) (sym is)
one_name (first ∷ next ∷ names) name some short is = absurd (omega arith)
