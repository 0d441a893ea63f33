-- What arguments of instances stand for, by the text: a neighbor of the template that the port names.
use Rattle.std.proofs.Common.{◌≡◌, ℕ, zero, suc, Bool, true, false, Option, None, Some, List, [], ◌∷◌, ◌++◌, length, slice_get, refl, sym, ap, ◌∙◌, subst, arith}
use Rattle.std.proofs.lemmas.Bool.Decides.{nat_tests}
use Rattle.std.specs.Prelude.{nat_eq, not, ◌||◌, codes}
use Rattle.std.specs.List.{flat_map, zip}
use Rattle.std.specs.Option.{option_and_then, option_map_or, option_to_list}
use Rattle.tm_syntax.specs.declared.tree.Ident.{Ident}
use Rattle.tm_syntax.specs.declared.tree.Port.{Port}
use Rattle.tm_syntax.specs.Tree.{InstanceTree, VarTree, TemplateTree, SpecTree}
use Rattle.tm_syntax.specs.Scopes.Names.{is_spelled, template_named, neighbor_template}
use Rattle.tm_syntax.specs.Scopes.Declared.{Sort, a_slot, a_neighbor, a_variable, an_array, a_task, a_part, a_constant, an_enum, a_template, members, slots, text_names, sort_in, text_sort, template_in}
use Rattle.tm_syntax.specs.Scopes.Parts.{BodyAt, bodies, exprs, template_types}
use Rattle.tm_syntax.specs.Faults.Marks.{place_unless}
use Rattle.tm_syntax.specs.Faults.Names.{undeclared, unknown_type, unknown_literal, unknown_in_instance, unknown_in_template, unknown_main, unknown_names, unknown_in_expr, unknown_in_body, repeats, names_twice}
use Rattle.tm_syntax.specs.Faults.Mismatches.{misnamed, is_template, is_instance_of, arg_faults, args_faults, type_faults, var_faults, instance_faults, task_faults, template_faults, body_faults, asked_faults, mismatches}
use Rattle.tm_typing.proofs.Fitting.{contrary, not_empty, both_empty, fits_there}
use Rattle.tm_typing.proofs.Listed.{In, first_of, later_of, none_of, no_thing, one_thing}
use Rattle.tm_typing.proofs.Declaring.{spelled, declared_as}
use Rattle.tm_typing.proofs.Neighbors.{member_of, neighbor_of, known_is, template_is}

-- a text of which none of these faults holds
pub record IsJoined (spec : SpecTree) : Type 0 where
  pub known : unknown_names spec ≡ []
  pub once : names_twice spec ≡ []
  pub matching : mismatches spec ≡ []

-- an argument for a port leads, in a template, to an instance or port of the port's template
abbrev pub Suits : SpecTree → TemplateTree → Port → Ident → Type 0
Suits spec t p a = neighbor_template spec t a.text ≡ template_named spec p.template.text

-- the arguments of an instance, for the ports of a template
abbrev pub AreArguments : SpecTree → TemplateTree → List Port → List Ident → Type 0
AreArguments spec t ports args =
    (k : ℕ) (p : Port) → slice_get ports k ≡ Some p → (a : Ident) × (slice_get args k ≡ Some a) × Suits spec t p a

-- whatever template the instance is of, its arguments are for the ports of it
pub record HasArguments (spec : SpecTree) (t : TemplateTree) (i : InstanceTree) : Type 0 where
  pub of : TemplateTree
  pub is : template_named spec i.template.text ≡ Some of
  pub count : nat_eq (length of.ports) (length i.args) ≡ true
  pub args : AreArguments spec t of.ports i.args

-- what stands in a list before an index is in front of it
zip-arguments : {A B : Type 0} (P : A → B → Type 0) (xs : List A) (ys : List B) →
    nat_eq (length xs) (length ys) ≡ true →
    ((x : A) (y : B) → In (x, y) (zip xs ys) → P x y) → (k : ℕ) (x : A) → slice_get xs k ≡ Some x →
    (y : B) × (slice_get ys k ≡ Some y) × P x y
zip-arguments P [] ys long each k x e = no_thing e
zip-arguments P (z ∷ xs) [] long each k x e = absurd (grind (arith, nat_tests))
zip-arguments P (z ∷ xs) (y ∷ ys) long each zero x e =
    (y, refl, subst (λ x. P x y) (one_thing refl e) (each z y first_of))
zip-arguments P (z ∷ xs) (y ∷ ys) long each (suc k) x e =
    zip-arguments P xs ys (grind (arith, nat_tests)) (λ a b i. each a b (later_of i)) k x e

module _ (spec : SpecTree) (f : IsJoined spec) where
  text_once : repeats (text_names spec) ≡ []
  text_once =
      let first = both_empty
      (repeats (text_names spec) ++ flat_map (λ (t : TemplateTree). repeats (members t)) spec.templates)
      (flat_map (λ (b : BodyAt).
      repeats (slots b.context.template b.context.body ++ members b.context.template)) (bodies spec)) f.once in
      (both_empty (repeats (text_names spec)) (flat_map (λ (t : TemplateTree). repeats (members t)) spec.templates)
      first.0).0

  members_once : (t : TemplateTree) → In t spec.templates → repeats (members t) ≡ []
  members_once t i =
      let first = both_empty
      (repeats (text_names spec) ++ flat_map (λ (t : TemplateTree). repeats (members t)) spec.templates)
      (flat_map (λ (b : BodyAt).
      repeats (slots b.context.template b.context.body ++ members b.context.template)) (bodies spec)) f.once in
      none_of (λ (t : TemplateTree). repeats (members t)) spec.templates
      (both_empty (repeats (text_names spec)) (flat_map (λ (t : TemplateTree). repeats (members t)) spec.templates)
      first.0).1 i

  -- nothing of a template is unknown, and nothing of it is of the wrong sort
  template_known : (t : TemplateTree) → In t spec.templates → unknown_in_template spec t ≡ []
  template_known t i =
      let first = both_empty
      (unknown_main spec ++ flat_map (unknown_in_template spec) spec.templates
      ++ flat_map unknown_in_expr (exprs spec))
      (flat_map unknown_in_body (bodies spec)) f.known in
      let second = both_empty (unknown_main spec ++ flat_map (unknown_in_template spec) spec.templates)
      (flat_map unknown_in_expr (exprs spec)) first.0 in
      let third = both_empty (unknown_main spec) (flat_map (unknown_in_template spec) spec.templates) second.0 in
      none_of (unknown_in_template spec) spec.templates third.1 i

  template_matches : (t : TemplateTree) → In t spec.templates → template_faults spec t ≡ []
  template_matches t i =
      let first = both_empty (flat_map (template_faults spec) spec.templates ++ flat_map body_faults (bodies spec))
      (flat_map asked_faults (exprs spec)) f.matching in
      let second = both_empty (flat_map (template_faults spec) spec.templates) (flat_map body_faults (bodies spec))
      first.0 in
      none_of (template_faults spec) spec.templates second.0 i

  instances_known : (t : TemplateTree) → In t spec.templates → flat_map (unknown_in_instance spec t) t.instances ≡ []
  instances_known t i =
      let ports = flat_map (λ (p : Port). undeclared (text_sort spec p.template.text) p.template) t.ports in
      let instances = flat_map (unknown_in_instance spec t) t.instances in
      let tys = flat_map (unknown_type spec) (template_types t) in
      let vars = flat_map (λ (v : VarTree). flat_map (unknown_literal spec) (option_to_list v.init)) t.vars in
      let first = both_empty (ports ++ instances ++ tys) vars (template_known t i) in
      let second = both_empty (ports ++ instances) tys first.0 in
      (both_empty ports instances second.0).1

  -- `main` has no ports, and instances have the arguments that their templates want
  head_suits : (t : TemplateTree) → In t spec.templates →
      (place_unless (not (is_spelled (codes "main") t.name) || nat_eq (length t.ports) 0) t.name.place ≡ [])
      × (flat_map (instance_faults spec t) t.instances ≡ [])
  head_suits t i =
      let head = place_unless (not (is_spelled (codes "main") t.name) || nat_eq (length t.ports) 0) t.name.place in
      let ports = flat_map (λ (p : Port). misnamed is_template (text_sort spec p.template.text) p.template) t.ports in
      let tys = flat_map (type_faults spec) (template_types t) in
      let vars = flat_map (var_faults spec) t.vars in
      let instances = flat_map (instance_faults spec t) t.instances in
      let tasks = flat_map task_faults t.tasks in
      let first = both_empty (head ++ ports ++ tys ++ vars ++ instances) tasks (template_matches t i) in
      let second = both_empty (head ++ ports ++ tys ++ vars) instances first.0 in
      let third = both_empty (head ++ ports ++ tys) vars second.0 in
      let fourth = both_empty (head ++ ports) tys third.0 in
      ((both_empty head ports fourth.0).0, second.1)

  pub main-portless : (t : TemplateTree) → In t spec.templates → is_spelled (codes "main") t.name ≡ true →
      t.ports ≡ []
  main-portless t i is = none t.ports (fits (is_spelled (codes "main") t.name) is (head_suits t i).0)
    where
      fits : (b : Bool) → b ≡ true → place_unless (not b || nat_eq (length t.ports) 0) t.name.place ≡ [] →
          nat_eq (length t.ports) 0 ≡ true
      fits true e h = fits_there (nat_eq (length t.ports) 0) t.name.place h
      fits false e h = contrary e

      none : (ports : List Port) → nat_eq (length ports) 0 ≡ true → ports ≡ []
      none [] e = refl
      none (p ∷ ports) e = absurd (grind (arith, nat_tests))

  -- an argument that is at no fault
  argument : (t : TemplateTree) → In t spec.templates → (p : Port) (a : Ident) →
      undeclared (sort_in (members t) a.text) a ≡ [] → arg_faults t (p, a) ≡ [] → Suits spec t p a
  argument t i p a known fits = by (sort_in (members t) a.text) refl known fits
    where
      of_sort : (sort : Sort) → is_instance_of p.template sort ≡ true →
          (n : Ident) × (sort ≡ a_neighbor n) × (is_spelled p.template.text n ≡ true)
      of_sort (a_neighbor n) e = (n, refl, e)
      of_sort (a_template _) e = contrary e
      of_sort a_slot e = contrary e
      of_sort a_variable e = contrary e
      of_sort an_array e = contrary e
      of_sort a_task e = contrary e
      of_sort a_part e = contrary e
      of_sort a_constant e = contrary e
      of_sort an_enum e = contrary e

      by : (o : Option Sort) → sort_in (members t) a.text ≡ o → undeclared o a ≡ [] →
          misnamed (is_instance_of p.template) o a ≡ [] → Suits spec t p a
      by None is k s = not_empty k
      by (Some sort) is k s =
          let of = of_sort sort (fits_there (is_instance_of p.template sort) a.place s) in
          let d = declared_as (members t) a.text (a_neighbor of.0) (is ∙ ap Some of.1) in
          let at = neighbor_of t d.at of.0 (member_of t d.at d.is) d.sort in
          ap (option_and_then (λ (n : Ident). template_named spec n.text))
          (known_is t a.text d.at of.0 (members_once t i) d.is d.spelled at d.sort)
          ∙ ap (template_named spec) (sym (spelled p.template.text of.0 of.2))

  -- the arguments of an instance that is at no fault
  pub has-arguments : (t : TemplateTree) → In t spec.templates → (n : InstanceTree) → In n t.instances →
      HasArguments spec t n
  has-arguments t i n j = by (text_sort spec n.template.text) refl unknown.0 faults.0 faults.1
    where
      unknown : (undeclared (text_sort spec n.template.text) n.template ≡ [])
          × (flat_map (λ (a : Ident). undeclared (sort_in (members t) a.text) a) n.args ≡ [])
      unknown =
          both_empty (undeclared (text_sort spec n.template.text) n.template)
          (flat_map (λ (a : Ident). undeclared (sort_in (members t) a.text) a) n.args)
          (none_of (unknown_in_instance spec t) t.instances (instances_known t i) j)

      faults : (misnamed is_template (text_sort spec n.template.text) n.template ≡ [])
          × (option_map_or (args_faults t n) (template_in (text_sort spec n.template.text)) [] ≡ [])
      faults =
          both_empty (misnamed is_template (text_sort spec n.template.text) n.template)
          (option_map_or (args_faults t n) (template_in (text_sort spec n.template.text)) [])
          (none_of (instance_faults spec t) t.instances (head_suits t i).1 j)

      in_second : {A B : Type 0} {z : A × B} (xs : List A) (ys : List B) → In z (zip xs ys) → In z.1 ys
      in_second [] ys e = elim e [ ]
      in_second (x ∷ xs) [] e = elim e [ ]
      in_second (x ∷ xs) (y ∷ ys) first_of = first_of
      in_second (x ∷ xs) (y ∷ ys) (later_of e) = later_of (in_second xs ys e)

      of_template : (u : TemplateTree) → text_sort spec n.template.text ≡ Some (a_template u) →
          args_faults t n u ≡ [] → HasArguments spec t n
      of_template u is e =
          let parts = both_empty (place_unless (nat_eq (length u.ports) (length n.args)) n.name.place)
          (flat_map (arg_faults t) (zip u.ports n.args)) e in
          record {
            of = u;
            is = (template_is spec n.template.text u text_once is).0;
            count = fits_there (nat_eq (length u.ports) (length n.args)) n.name.place parts.0;
            args = zip-arguments (Suits spec t) u.ports n.args
                (fits_there (nat_eq (length u.ports) (length n.args)) n.name.place parts.0)
                (λ p a at. argument t i p a
                (none_of (λ (a : Ident). undeclared (sort_in (members t) a.text) a) n.args unknown.1
                (in_second u.ports n.args at))
                (none_of (arg_faults t) (zip u.ports n.args) parts.1 at));
          }

      of_sort : (sort : Sort) → text_sort spec n.template.text ≡ Some sort → is_template sort ≡ true →
          option_map_or (args_faults t n) (template_in (Some sort)) [] ≡ [] → HasArguments spec t n
      of_sort (a_template u) is e args = of_template u is args
      of_sort (a_neighbor _) is e args = contrary e
      of_sort a_slot is e args = contrary e
      of_sort a_variable is e args = contrary e
      of_sort an_array is e args = contrary e
      of_sort a_task is e args = contrary e
      of_sort a_part is e args = contrary e
      of_sort a_constant is e args = contrary e
      of_sort an_enum is e args = contrary e

      by : (o : Option Sort) → text_sort spec n.template.text ≡ o → undeclared o n.template ≡ [] →
          misnamed is_template o n.template ≡ [] → option_map_or (args_faults t n) (template_in o) [] ≡ [] →
          HasArguments spec t n
      by None is k s args = not_empty k
      by (Some sort) is k s args = of_sort sort is (fits_there (is_template sort) n.template.place s) args
