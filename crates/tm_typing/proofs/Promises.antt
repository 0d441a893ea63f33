-- What a checked specification promises.
use Rattle.std.proofs.Common.{◌≡◌, ℕ, true, false, Option, None, Some, List, [], ◌∷◌, ◌++◌, ◌&&◌, ◌^◌, refl, sym, ap, ◌∙◌, subst}
use Rattle.std.specs.Prelude.{◌≢◌}
use Rattle.std.specs.Prelude.{nat_le, length, unwrap_or, nat_eq, not, ◌||◌, codes}
use Rattle.std.specs.Option.{option_map_or, option_to_list}
use Rattle.std.specs.List.{AllByRecursion, flat_map}
use Rattle.tm_syntax.specs.declared.tree.Ident.{Ident}
use Rattle.tm_syntax.specs.declared.tree.Num.{Num}
use Rattle.tm_syntax.specs.declared.tree.Port.{Port}
use Rattle.tm_syntax.specs.declared.tree.TypeName.{TypeName}
use Rattle.tm_syntax.specs.declared.tree.TypeName.TheVariants as written
use Rattle.tm_syntax.specs.declared.design.Ty.{Ty}
use Rattle.tm_syntax.specs.declared.design.Ty.TheVariants as types
use Rattle.tm_syntax.specs.Tree.{VarTree, TemplateTree, SpecTree}
use Rattle.tm_syntax.specs.Scopes.Names.{is_spelled, type_of}
use Rattle.tm_syntax.specs.Scopes.Declared.{Sort, a_slot, a_neighbor, a_variable, an_array, a_task, a_part, a_constant, an_enum, a_template, Declared, members, slots, text_names, text_sort, meaning}
use Rattle.tm_syntax.specs.Scopes.Context.{Context, BodyName}
use Rattle.tm_syntax.specs.Scopes.Types.{own_type, valued_in}
use Rattle.tm_syntax.specs.Scopes.Parts.{BodyAt, bodies, ExprAt, exprs, template_types}
use Rattle.tm_syntax.specs.Faults.Marks.{place_unless}
use Rattle.tm_syntax.specs.Faults.Names.{undeclared, unknown_type, unknown_literal, unknown_in_instance, unknown_in_template, unknown_main, unknown_paths, unknown_of, expr_paths, unknown_in_expr, unknown_in_body, repeats}
use Rattle.tm_syntax.specs.Faults.Operands.{is_uint, finding, value_fits, value_faults, expr_place, expr_faults}
use Rattle.tm_syntax.specs.Faults.Mismatches.{misnamed, is_template, type_faults, var_faults, instance_faults, task_faults, template_faults, body_faults, asked_faults}
use Rattle.tm_syntax.specs.Faults.Literals.{is_from_to, length_faults, literal_numbers, var_numbers, type_numbers, expr_numbers, asked_numbers, misfit_numbers}
use Rattle.tm_syntax.specs.Grammar.Faults.{IsWithin}
use Rattle.tm_syntax.specs.Faults.{IsTyped}
use Rattle.tm_typing.specs.HasType.{IsWidth, IsSized, IsValueOf, Suits, HasType}
use Rattle.tm_typing.specs.Resolving.{Resolves, AreResolved}
use Rattle.tm_typing.specs.Promises.{HasAskedType}
use Rattle.tm_typing.proofs.Fitting.{contrary, not_empty, both_empty, fits_there, judged_well, same_types}
use Rattle.tm_typing.proofs.Listed.{In, first_of, none_of, all_hold}
use Rattle.tm_typing.proofs.Neighbors.{Neighbor, a_port, an_instance}
use Rattle.tm_typing.proofs.Slots.{AreSized, here}
use Rattle.tm_typing.proofs.Leading.{IsNamed}
use Rattle.tm_typing.proofs.Resolved.{resolves}
use Rattle.tm_typing.proofs.Typing.{typed, width_of}
use Rattle.tm_typing.proofs.Names.{HasNames}
use Rattle.tm_typing.proofs.Asked.{placed}
use Rattle.tm_typing.proofs.TextNames.{spec_named, exprs_named}

-- a name of the text that is known, and is one of a template where it suits its place, is a template's
template_there : (spec : SpecTree) (n : Ident) → undeclared (text_sort spec n.text) n ≡ [] →
    misnamed is_template (text_sort spec n.text) n ≡ [] →
    (u : TemplateTree) × (text_sort spec n.text ≡ Some (a_template u))
template_there spec n known suits = by (text_sort spec n.text) refl known suits
  where
    of_sort : (sort : Sort) → is_template sort ≡ true → (u : TemplateTree) × (sort ≡ a_template u)
    of_sort (a_template u) e = (u, refl)
    of_sort a_slot e = contrary e
    of_sort (a_neighbor _) e = contrary e
    of_sort a_variable e = contrary e
    of_sort an_array e = contrary e
    of_sort a_task e = contrary e
    of_sort a_part e = contrary e
    of_sort a_constant e = contrary e
    of_sort an_enum e = contrary e

    by : (o : Option Sort) → text_sort spec n.text ≡ o → undeclared o n ≡ [] → misnamed is_template o n ≡ [] →
        (u : TemplateTree) × (text_sort spec n.text ≡ Some (a_template u))
    by None is k s = not_empty k
    by (Some sort) is k s =
        let u = of_sort sort (fits_there (is_template sort) n.place s) in (u.0, is ∙ ap Some u.1)

-- the numbers of types and lengths fit
template_fits : (spec : SpecTree) → misfit_numbers spec ≡ [] → (t : TemplateTree) → In t spec.templates →
    (flat_map type_numbers (template_types t) ≡ []) × (flat_map var_numbers t.vars ≡ [])
template_fits spec fitting t i =
    let first = both_empty
    (flat_map (λ (t : TemplateTree). flat_map type_numbers (template_types t) ++ flat_map var_numbers t.vars)
    spec.templates)
    (flat_map asked_numbers (exprs spec)) fitting in
    both_empty (flat_map type_numbers (template_types t)) (flat_map var_numbers t.vars)
    (none_of (λ (t : TemplateTree). flat_map type_numbers (template_types t) ++ flat_map var_numbers t.vars)
    spec.templates first.0 i)

type_sized : (ty : TypeName) → type_numbers ty ≡ [] → IsSized (type_of ty)
type_sized (written.Bool _) e = tt
type_sized (written.Enum _) e = tt
type_sized (written.Uint _ n) e =
    let w = width_of n e in subst IsWidth (sym (ap (λ o. unwrap_or o (2 ^ 64)) w.1)) w.2

-- types that a template writes have widths that numbers can have
pub types_sized : (spec : SpecTree) → misfit_numbers spec ≡ [] → (t : TemplateTree) → In t spec.templates → AreSized t
types_sized spec fitting t i ty j =
    type_sized ty (none_of type_numbers (template_types t) (template_fits spec fitting t i).0 j)

module _ (spec : SpecTree) (checked : IsTyped spec) where
  -- nothing of a template is at fault
  template_known : (t : TemplateTree) → In t spec.templates → unknown_in_template spec t ≡ []
  template_known t i =
      let first = both_empty
      (unknown_main spec ++ flat_map (unknown_in_template spec) spec.templates
      ++ flat_map unknown_in_expr (exprs spec))
      (flat_map unknown_in_body (bodies spec)) checked.known in
      let second = both_empty (unknown_main spec ++ flat_map (unknown_in_template spec) spec.templates)
      (flat_map unknown_in_expr (exprs spec)) first.0 in
      let third = both_empty (unknown_main spec) (flat_map (unknown_in_template spec) spec.templates) second.0 in
      none_of (unknown_in_template spec) spec.templates third.1 i

  template_matches : (t : TemplateTree) → In t spec.templates → template_faults spec t ≡ []
  template_matches t i =
      let first = both_empty (flat_map (template_faults spec) spec.templates ++ flat_map body_faults (bodies spec))
      (flat_map asked_faults (exprs spec)) checked.matching in
      let second = both_empty (flat_map (template_faults spec) spec.templates) (flat_map body_faults (bodies spec))
      first.0 in
      none_of (template_faults spec) spec.templates second.0 i

  -- the templates of ports and instances are known
  ports_known : (t : TemplateTree) → In t spec.templates →
      (flat_map (λ (p : Port). undeclared (text_sort spec p.template.text) p.template) t.ports ≡ [])
      × (flat_map (unknown_in_instance spec t) t.instances ≡ [])
  ports_known t i =
      let ports = flat_map (λ (p : Port). undeclared (text_sort spec p.template.text) p.template) t.ports in
      let instances = flat_map (unknown_in_instance spec t) t.instances in
      let tys = flat_map (unknown_type spec) (template_types t) in
      let vars = flat_map (λ (v : VarTree). flat_map (unknown_literal spec) (option_to_list v.init)) t.vars in
      let first = both_empty (ports ++ instances ++ tys) vars (template_known t i) in
      let second = both_empty (ports ++ instances) tys first.0 in
      both_empty ports instances second.0

  -- and they are templates
  ports_suit : (t : TemplateTree) → In t spec.templates →
      (flat_map (λ (p : Port). misnamed is_template (text_sort spec p.template.text) p.template) t.ports ≡ [])
      × (flat_map (instance_faults spec t) t.instances ≡ [])
  ports_suit t i =
      let head = place_unless (not (is_spelled (codes "main") t.name) || nat_eq (length t.ports) 0) t.name.place in
      let ports = flat_map (λ (p : Port). misnamed is_template (text_sort spec p.template.text) p.template) t.ports in
      let tys = flat_map (type_faults spec) (template_types t) in
      let vars = flat_map (var_faults spec) t.vars in
      let instances = flat_map (instance_faults spec t) t.instances in
      let tasks = flat_map task_faults t.tasks in
      let first = both_empty (head ++ ports ++ tys ++ vars ++ instances) tasks (template_matches t i) in
      let second = both_empty (head ++ ports ++ tys ++ vars) instances first.0 in
      let third = both_empty (head ++ ports ++ tys) vars second.0 in
      let fourth = both_empty (head ++ ports) tys third.0 in
      ((both_empty head ports fourth.0).1, second.1)

  neighbor_template_there : (t : TemplateTree) → In t spec.templates → (d : Declared) (n : Ident) → Neighbor t d n →
      (u : TemplateTree) × (text_sort spec n.text ≡ Some (a_template u))
  neighbor_template_there t i d n (a_port p j _ is) =
      template_there spec n
      (subst (λ (m : Ident). undeclared (text_sort spec m.text) m ≡ []) is
      (none_of (λ (p : Port). undeclared (text_sort spec p.template.text) p.template) t.ports (ports_known t i).0 j))
      (subst (λ (m : Ident). misnamed is_template (text_sort spec m.text) m ≡ []) is
      (none_of (λ (p : Port). misnamed is_template (text_sort spec p.template.text) p.template) t.ports
      (ports_suit t i).0 j))
  neighbor_template_there t i d n (an_instance k j _ is) =
      template_there spec n
      (subst (λ (m : Ident). undeclared (text_sort spec m.text) m ≡ []) is
      (both_empty (undeclared (text_sort spec k.template.text) k.template) _
      (none_of (unknown_in_instance spec t) t.instances (ports_known t i).1 j)).0)
      (subst (λ (m : Ident). misnamed is_template (text_sort spec m.text) m ≡ []) is
      (both_empty (misnamed is_template (text_sort spec k.template.text) k.template) _
      (none_of (instance_faults spec t) t.instances (ports_suit t i).1 j)).0)

  length_there : (n : Num) → length_faults n ≡ [] → (s : ℕ) × IsValueOf n s
  length_there n e = by n.value refl (fits_there (is_from_to 1 256 n) n.place e)
    where
      by : (o : Option ℕ) → n.value ≡ o → option_map_or (λ v. nat_le 1 v && nat_le v 256) o false ≡ true →
          (s : ℕ) × IsValueOf n s
      by None is none = contrary none
      by (Some s) is some = (s, is)

  pub named : IsNamed spec
  named =
      let first = both_empty
      (repeats (text_names spec) ++ flat_map (λ (t : TemplateTree). repeats (members t)) spec.templates)
      (flat_map (λ (b : BodyAt). repeats (slots b.context.template b.context.body ++ members b.context.template))
      (bodies spec)) checked.once in
      let second = both_empty (repeats (text_names spec))
      (flat_map (λ (t : TemplateTree). repeats (members t)) spec.templates) first.0 in
      record {
        text_once = second.0;
        once = λ t i. none_of (λ (t : TemplateTree). repeats (members t)) spec.templates second.1 i;
        neighbors = neighbor_template_there;
        sized = types_sized spec checked.fitting;
        sizes = λ t i v j n is.
            length_there n
            (none_of length_faults (option_to_list v.size)
            (both_empty (flat_map length_faults (option_to_list v.size))
            (flat_map (literal_numbers (type_of v.ty)) (option_to_list v.init))
            (none_of var_numbers t.vars (template_fits spec checked.fitting t i).1 j)).0
            (subst (λ o. In n (option_to_list o)) (sym is) first_of));
      }

  -- nothing of an expression is at fault
  expr_known : (e : ExprAt) → In e (exprs spec) → unknown_in_expr e ≡ []
  expr_known e i =
      let first = both_empty
      (unknown_main spec ++ flat_map (unknown_in_template spec) spec.templates
      ++ flat_map unknown_in_expr (exprs spec))
      (flat_map unknown_in_body (bodies spec)) checked.known in
      let second = both_empty (unknown_main spec ++ flat_map (unknown_in_template spec) spec.templates)
      (flat_map unknown_in_expr (exprs spec)) first.0 in
      none_of unknown_in_expr (exprs spec) second.1 i

  pub expr_matches : (e : ExprAt) → In e (exprs spec) → asked_faults e ≡ []
  expr_matches e i =
      none_of asked_faults (exprs spec)
      (both_empty (flat_map (template_faults spec) spec.templates ++ flat_map body_faults (bodies spec))
      (flat_map asked_faults (exprs spec)) checked.matching).1 i

  pub expr_fits : (e : ExprAt) → In e (exprs spec) → asked_numbers e ≡ []
  expr_fits e i =
      none_of asked_numbers (exprs spec)
      (both_empty
      (flat_map (λ (t : TemplateTree). flat_map type_numbers (template_types t) ++ flat_map var_numbers t.vars)
      spec.templates)
      (flat_map asked_numbers (exprs spec)) checked.fitting).1 i

  -- known paths with names resolve
  paths_resolve : (t : TemplateTree) → In t spec.templates → (body : BodyName) (paths : List (List Ident)) →
      unknown_paths (here spec t body) paths ≡ [] → AllByRecursion (λ (names : List Ident). names ≢ []) paths →
      AllByRecursion (Resolves (here spec t body)) paths
  paths_resolve t at body [] known named_ = tt
  paths_resolve t at body ([] ∷ paths) known named_ = absurd (named_.0 refl)
  paths_resolve t at body ((name ∷ names) ∷ paths) known named_ =
      let each = both_empty (unknown_of (meaning (here spec t body) (name ∷ names)))
      (unknown_paths (here spec t body) paths) known in
      (resolves spec named t at body name names each.0, paths_resolve t at body paths each.1 named_.1)

  -- the grammar gives each path a name
  names_there : (e : ExprAt) → In e (exprs spec) → HasNames e.asked.expr
  names_there e i =
      exprs_named spec
      (spec_named checked.of_text.text (IsWithin 0) spec checked.of_text.tokens [] checked.of_text.is_tree) e i

  -- the paths of an expression resolve
  pub expr_resolves : (e : ExprAt) → In e (exprs spec) → AreResolved e.context e.asked.expr
  expr_resolves e i =
      let at = (placed spec named e i).stands in
      subst (λ (c : Context). AreResolved c e.asked.expr) (sym at.context)
      (paths_resolve at.template at.is at.body (expr_paths e.asked.expr)
      (subst (λ (c : Context). unknown_paths c (expr_paths e.asked.expr) ≡ []) at.context (expr_known e i))
      (names_there e i))

  -- an expression has the type that its place asks for
  expr_typed : (e : ExprAt) → In e (exprs spec) → HasAskedType e
  expr_typed e i ty is = by (own_type e.context e.asked.expr) refl fits
    where
      judged_here : (value_fits ty (finding (expr_faults e.context e.asked.expr) (own_type e.context e.asked.expr))
          ≡ true) × (expr_faults e.context e.asked.expr ≡ [])
      judged_here =
          judged_well (expr_faults e.context e.asked.expr)
          (value_fits ty (finding (expr_faults e.context e.asked.expr) (own_type e.context e.asked.expr)))
          (expr_place e.asked.expr)
          (subst (λ o. value_faults o (expr_place e.asked.expr) (expr_faults e.context e.asked.expr)
          (own_type e.context e.asked.expr) ≡ []) is (expr_matches e i))

      fits : value_fits ty (finding [] (own_type e.context e.asked.expr)) ≡ true
      fits =
          subst (λ x. value_fits ty (finding x (own_type e.context e.asked.expr)) ≡ true) judged_here.1 judged_here.0

      numbers : expr_numbers e.context ty e.asked.expr ≡ []
      numbers =
          subst (λ o. expr_numbers e.context (unwrap_or o types.Bool) e.asked.expr ≡ []) is (expr_fits e i)

      of : Suits (own_type e.context e.asked.expr) ty →
          HasType e.context (valued_in ty (own_type e.context e.asked.expr)) e.asked.expr
      of suits = typed e.context e.asked.expr (expr_resolves e i) judged_here.1 ty numbers suits

      number_asked : (s : Ty) → ty ≡ s → is_uint s ≡ true → Suits None ty
      number_asked types.Bool same none = contrary none
      number_asked (types.Enum _) same none = contrary none
      number_asked (types.Uint w) same sure =
          (w, subst IsSized same ((placed spec named e i).sized ty is), same)

      by : (o : Option Ty) → own_type e.context e.asked.expr ≡ o → value_fits ty (finding [] o) ≡ true →
          HasType e.context ty e.asked.expr
      by None own fit =
          subst (λ o. HasType e.context (valued_in ty o) e.asked.expr) own
          (of (subst (λ o. Suits o ty) (sym own) (number_asked ty refl fit)))
      by (Some s) own fit =
          subst (λ t. HasType e.context t e.asked.expr) (sym (same_types ty s fit))
          (subst (λ o. HasType e.context (valued_in ty o) e.asked.expr) own
          (of (subst (λ o. Suits o ty) (sym own) tt)))

  -- so do all expressions of the text
  pub exprs_resolve : AllByRecursion (λ (e : ExprAt). AreResolved e.context e.asked.expr) (exprs spec)
  exprs_resolve = all_hold (λ (e : ExprAt). AreResolved e.context e.asked.expr) (exprs spec) expr_resolves

  pub exprs_typed : AllByRecursion HasAskedType (exprs spec)
  exprs_typed = all_hold HasAskedType (exprs spec) expr_typed
