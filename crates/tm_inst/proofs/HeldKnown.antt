-- In a checked text each instance is one of a template, and hands an instance or a port to each port; `main` is there,
-- and has no ports.
use Rattle.std.proofs.Common.{◌≡◌, ℕ, Bool, true, false, Option, None, Some, List, [], ◌∷◌, ◌++◌, ◌||◌, length, refl, sym, ap, ◌∙◌, subst, arith}
use Rattle.std.specs.Prelude.{codes, is_some, nat_eq, not, position, slice_get, if◌then◌else◌}
use Rattle.std.specs.List.{AllByRecursion, flat_map, list_any, zip}
use Rattle.std.specs.Option.{option_and_then, option_map_or, option_to_list}
use Rattle.std.proofs.lemmas.Bool.Decides.{nat_tests}
use Rattle.std.proofs.lemmas.List.Quantifiers.{position-Some}
use Rattle.std.proofs.lemmas.Option.{get_or_from_slice_get}
use Rattle.tm_syntax.specs.declared.tree.Ident.{Ident}
use Rattle.tm_syntax.specs.declared.tree.Port.{Port}
use Rattle.tm_syntax.specs.Tree.{VarTree, InstanceTree, TemplateTree, SpecTree}
use Rattle.tm_syntax.specs.Scopes.Names.{is_spelled, template_named, template_number}
use Rattle.tm_syntax.specs.Scopes.Declared.{Sort, a_slot, a_neighbor, a_variable, an_array, a_task, a_part, a_constant, an_enum, a_template, declared, members, sort_in, template_in, text_sort}
use Rattle.tm_syntax.specs.Scopes.Parts.{bodies, exprs, template_types}
use Rattle.tm_syntax.specs.declared.fault.Detail.TheVariants as detail
use Rattle.tm_syntax.specs.Places.{text_start}
use Rattle.tm_syntax.specs.Faults.Marks.{Mark, place_unless}
use Rattle.tm_syntax.specs.Faults.Names.{undeclared, unknown_type, unknown_literal, unknown_in_instance, unknown_in_template, unknown_main, unknown_in_expr, unknown_in_body}
use Rattle.tm_syntax.specs.Faults.Mismatches.{misnamed, is_template, is_instance_of, arg_faults, args_faults, type_faults, var_faults, instance_faults, task_faults, template_faults, body_faults, asked_faults}
use Rattle.tm_syntax.specs.Faults.{IsTyped}
use Rattle.tm_scope.proofs.Positions.{find-position}
use Rattle.tm_typing.proofs.Fitting.{contrary, not_empty, both_empty, fits_there}
use Rattle.tm_typing.proofs.Listed.{In, no_thing, none_of, all_hold, in_get, some_pass}
use Rattle.tm_typing.proofs.Declaring.{IsDeclared, declared_as}
use Rattle.tm_typing.proofs.Neighbors.{Neighbor, a_port, an_instance, member_of, neighbor_of, template_is}
use Rattle.tm_typing.proofs.Promises.{named}
use Rattle.tm_inst.specs.Instances.{HoldsKnown, IsHeld, names_neighbor}

or_true : (a b : Bool) → b ≡ true → a || b ≡ true
or_true true b e = refl
or_true false b e = e

-- what is found stands at a number
numbered : {X : Type 0} (p : X → Bool) (xs : List X) (x : X) → option_and_then (slice_get xs) (position p xs) ≡ Some x →
    (k : ℕ) × (position p xs ≡ Some k) × (slice_get xs k ≡ Some x)
numbered {X} p xs x = by (position p xs) refl
  where
    by : (o : Option ℕ) → position p xs ≡ o → option_and_then (slice_get xs) o ≡ Some x →
        (k : ℕ) × (position p xs ≡ Some k) × (slice_get xs k ≡ Some x)
    by None is e = no_thing e
    by (Some k) is e = (k, is, e)

-- a name that is declared as an instance or a port is that of one
names_one : (t : TemplateTree) (a n : Ident) → IsDeclared (members t) a.text (a_neighbor n) →
    names_neighbor t a.text ≡ true
names_one t a n d = by (neighbor_of t d.at n (member_of t d.at d.is) d.sort)
  where
    by : Neighbor t d.at n → names_neighbor t a.text ≡ true
    by (a_port p i is of) =
        or_true (list_any (λ (i : InstanceTree). is_spelled a.text i.name) t.instances)
        (list_any (λ (p : Port). is_spelled a.text p.name) t.ports)
        (some_pass (λ (p : Port). is_spelled a.text p.name) t.ports i
        (subst (λ x. is_spelled a.text x.name ≡ true) (sym is) d.spelled))
    by (an_instance k i is of) =
        ap (λ b. b || list_any (λ (p : Port). is_spelled a.text p.name) t.ports)
        (some_pass (λ (i : InstanceTree). is_spelled a.text i.name) t.instances i
        (subst (λ x. is_spelled a.text x.name ≡ true) (sym is) d.spelled))

-- an argument that is declared and suits its port names an instance or a port
argument_known : (t : TemplateTree) (p : Port) (a : Ident) → undeclared (sort_in (members t) a.text) a ≡ [] →
    arg_faults t (p, a) ≡ [] → names_neighbor t a.text ≡ true
argument_known t p a known suits = by (sort_in (members t) a.text) refl known suits
  where
    of_sort : (sort : Sort) → sort_in (members t) a.text ≡ Some sort → is_instance_of p.template sort ≡ true →
        names_neighbor t a.text ≡ true
    of_sort (a_neighbor n) is e = names_one t a n (declared_as (members t) a.text (a_neighbor n) is)
    of_sort a_slot is e = contrary e
    of_sort a_variable is e = contrary e
    of_sort an_array is e = contrary e
    of_sort a_task is e = contrary e
    of_sort a_part is e = contrary e
    of_sort a_constant is e = contrary e
    of_sort an_enum is e = contrary e
    of_sort (a_template _) is e = contrary e

    by : (o : Option Sort) → sort_in (members t) a.text ≡ o → undeclared o a ≡ [] →
        misnamed (is_instance_of p.template) o a ≡ [] → names_neighbor t a.text ≡ true
    by None is k s = not_empty k
    by (Some sort) is k s = of_sort sort is (fits_there (is_instance_of p.template sort) a.place s)

-- so do all arguments, where there is one for each port
arguments_known : (t : TemplateTree) (ps : List Port) (args : List Ident) → length args ≡ length ps →
    flat_map (λ (a : Ident). undeclared (sort_in (members t) a.text) a) args ≡ [] →
    flat_map (arg_faults t) (zip ps args) ≡ [] → AllByRecursion (λ (a : Ident). names_neighbor t a.text ≡ true) args
arguments_known t ps [] many known suits = tt
arguments_known t [] (a ∷ args) many known suits = absurd (omega arith)
arguments_known t (p ∷ ps) (a ∷ args) many known suits =
    let k = both_empty (undeclared (sort_in (members t) a.text) a)
    (flat_map (λ (a : Ident). undeclared (sort_in (members t) a.text) a) args) known in
    let s = both_empty (arg_faults t (p, a)) (flat_map (arg_faults t) (zip ps args)) suits in
    (argument_known t p a k.0 s.0, arguments_known t ps args (omega arith) k.1 s.1)

-- the fault where a template is not there
abbrev main_faults : Option TemplateTree → List Mark
main_faults o =
    if is_some o then [] else (record { place = text_start; detail = detail.Named (codes "main") } ∷ [])

module _ (spec : SpecTree) (checked : IsTyped spec) where
  known_before : (unknown_main spec ≡ []) × (flat_map (unknown_in_template spec) spec.templates ≡ [])
  known_before =
      let first = both_empty
      (unknown_main spec ++ flat_map (unknown_in_template spec) spec.templates
      ++ flat_map unknown_in_expr (exprs spec))
      (flat_map unknown_in_body (bodies spec)) checked.known in
      let second = both_empty (unknown_main spec ++ flat_map (unknown_in_template spec) spec.templates)
      (flat_map unknown_in_expr (exprs spec)) first.0 in
      both_empty (unknown_main spec) (flat_map (unknown_in_template spec) spec.templates) second.0

  -- the names that an instance uses are known
  instance_known : (t : TemplateTree) → In t spec.templates → (i : InstanceTree) → In i t.instances →
      unknown_in_instance spec t i ≡ []
  instance_known t at i j =
      let ports = flat_map (λ (p : Port). undeclared (text_sort spec p.template.text) p.template) t.ports in
      let instances = flat_map (unknown_in_instance spec t) t.instances in
      let tys = flat_map (unknown_type spec) (template_types t) in
      let vars = flat_map (λ (v : VarTree). flat_map (unknown_literal spec) (option_to_list v.init)) t.vars in
      let first = both_empty (ports ++ instances ++ tys) vars
      (none_of (unknown_in_template spec) spec.templates known_before.1 at) in
      let second = both_empty (ports ++ instances) tys first.0 in
      none_of (unknown_in_instance spec t) t.instances (both_empty ports instances second.0).1 j

  -- a template's head and its instances suit
  template_suits : (t : TemplateTree) → In t spec.templates →
      (place_unless (not (is_spelled (codes "main") t.name) || nat_eq (length t.ports) 0) t.name.place ≡ [])
      × (flat_map (instance_faults spec t) t.instances ≡ [])
  template_suits t at =
      let all = both_empty (flat_map (template_faults spec) spec.templates ++ flat_map body_faults (bodies spec))
      (flat_map asked_faults (exprs spec)) checked.matching in
      let bare = both_empty (flat_map (template_faults spec) spec.templates) (flat_map body_faults (bodies spec))
      all.0 in
      let head = place_unless (not (is_spelled (codes "main") t.name) || nat_eq (length t.ports) 0) t.name.place in
      let ports = flat_map (λ (p : Port). misnamed is_template (text_sort spec p.template.text) p.template) t.ports in
      let tys = flat_map (type_faults spec) (template_types t) in
      let vars = flat_map (var_faults spec) t.vars in
      let instances = flat_map (instance_faults spec t) t.instances in
      let tasks = flat_map task_faults t.tasks in
      let first = both_empty (head ++ ports ++ tys ++ vars ++ instances) tasks
      (none_of (template_faults spec) spec.templates bare.0 at) in
      let second = both_empty (head ++ ports ++ tys ++ vars) instances first.0 in
      let third = both_empty (head ++ ports ++ tys) vars second.0 in
      let fourth = both_empty (head ++ ports) tys third.0 in
      ((both_empty head ports fourth.0).0, second.1)

  -- an instance is one of a template that is there, and has an argument for each port
  held : (t : TemplateTree) → In t spec.templates → (i : InstanceTree) → In i t.instances → IsHeld spec t i
  held t at i j =
      let names = named spec checked in
      let sort = names.neighbors t at (declared (a_neighbor i.template) i.name) i.template
      (an_instance i j refl refl) in
      let is = template_is spec i.template.text sort.0 names.text_once sort.1 in
      let at_number = numbered (λ (u : TemplateTree). is_spelled i.template.text u.name) spec.templates sort.0
      (sym (find-position (λ (u : TemplateTree). is_spelled i.template.text u.name) spec.templates) ∙ is.0) in
      let known = both_empty (undeclared (text_sort spec i.template.text) i.template)
      (flat_map (λ a. undeclared (sort_in (members t) a.text) a) i.args) (instance_known t at i j) in
      let suits = both_empty (misnamed is_template (text_sort spec i.template.text) i.template)
      (option_map_or (args_faults t i) (template_in (text_sort spec i.template.text)) [])
      (none_of (instance_faults spec t) t.instances (template_suits t at).1 j) in
      let args : args_faults t i sort.0 ≡ [] =
      sym (ap (λ o. option_map_or (args_faults t i) (template_in o) []) sort.1) ∙ suits.1 in
      let parts = both_empty (place_unless (nat_eq (length sort.0.ports) (length i.args)) i.name.place)
      (flat_map (arg_faults t) (zip sort.0.ports i.args)) args in
      let many = as_many (length sort.0.ports) (length i.args)
      (fits_there (nat_eq (length sort.0.ports) (length i.args)) i.name.place parts.0) in
      record {
        number = at_number.0;
        held = sort.0;
        named = at_number.1;
        is = at_number.2;
        many = many;
        known = arguments_known t sort.0.ports i.args many known.1 parts.1;
      }
    where
      as_many : (m n : ℕ) → nat_eq m n ≡ true → n ≡ m
      as_many m n e = grind (arith, nat_tests)

  -- all instances of a text are so
  pub all_held : HoldsKnown spec
  all_held = λ k t is. all_hold (IsHeld spec t) t.instances (held t (in_get spec.templates k is))

  -- there is a template `main`
  pub main_there : ¬ (template_number spec (codes "main") ≡ None)
  main_there none =
      by (template_named spec (codes "main")) named_none known_before.0
    where
      named_none : template_named spec (codes "main") ≡ None
      named_none =
          find-position (λ (u : TemplateTree). is_spelled (codes "main") u.name) spec.templates
          ∙ ap (option_and_then (slice_get spec.templates)) none

      by : (o : Option TemplateTree) → o ≡ None → main_faults o ≡ [] → ⊥
      by None e f = not_empty f
      by (Some u) e f = no_thing (sym e)

  -- it has no ports
  pub main_apart : (main : ℕ) → template_number spec (codes "main") ≡ Some main → (t : TemplateTree) →
      slice_get spec.templates main ≡ Some t → t.ports ≡ []
  main_apart main is t at =
      let p : TemplateTree → Bool = λ u. is_spelled (codes "main") u.name in
      let here = position-Some p spec.templates main t is in
      let same = get_or_from_slice_get spec.templates main t t at in
      let spelled : is_spelled (codes "main") t.name ≡ true = subst (λ u. p u ≡ true) same here.1 in
      no_ports t.ports (fits (is_spelled (codes "main") t.name) (nat_eq (length t.ports) 0) spelled
      (fits_there (not (is_spelled (codes "main") t.name) || nat_eq (length t.ports) 0) t.name.place
      (template_suits t (in_get spec.templates main at)).0))
    where
      fits : (a b : Bool) → a ≡ true → not a || b ≡ true → b ≡ true
      fits true b e f = f
      fits false b e f = contrary e

      no_ports : (ps : List Port) → nat_eq (length ps) 0 ≡ true → ps ≡ []
      no_ports [] e = refl
      no_ports (p ∷ ps) e = absurd (grind (arith, nat_tests))
