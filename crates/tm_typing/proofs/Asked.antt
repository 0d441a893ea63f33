-- Where the expressions of a text stand, and that the types that are asked for have widths that numbers can have.
use Rattle.std.proofs.Common.{◌≡◌, Option, None, Some, List, [], ◌∷◌, ◌++◌, ◌⊎◌, inl, inr, refl, sym, ap, ◌∙◌, subst, map}
use Rattle.std.specs.Prelude.{slice_get}
use Rattle.std.specs.Option.{option_map, option_and_then, option_map_or, option_to_list}
use Rattle.std.specs.List.{flat_map, find, enumerate_from}
use Rattle.tm_syntax.specs.declared.tree.Ident.{Ident}
use Rattle.tm_syntax.specs.declared.tree.Param.{Param}
use Rattle.tm_syntax.specs.declared.tree.TypeName.{TypeName}
use Rattle.tm_syntax.specs.declared.design.Ty.{Ty}
use Rattle.tm_syntax.specs.Tree.{ExprTree, ValueTree, star, result, plain, StmtTree, assign, invoke, branch, repeat, forever, choose, assert, assume, pause, wait, magic, NamedTree, TaskTree, TemplateTree, SpecTree}
use Rattle.tm_syntax.specs.Scopes.Names.{is_spelled, type_of, last_name, template_along}
use Rattle.tm_syntax.specs.Scopes.Context.{Context, BodyName, process_body, task_body, outside}
use Rattle.tm_syntax.specs.Scopes.Types.{named_type}
use Rattle.tm_syntax.specs.Scopes.Parts.{BodyAt, process_body_at, task_body_at, template_bodies, stmts_in, Asked, unasked, condition, asked_args, call_args, value_exprs, target_exprs, stmt_exprs, written_result, result_asked, body_exprs, ExprAt, template_exprs, exprs}
use Rattle.tm_typing.specs.HasType.{IsSized}
use Rattle.tm_typing.proofs.Listed.{In, first_of, later_of, is_first_or_later, in_either, of_map, of_flat, of_find, in_get, one_thing, no_thing}
use Rattle.tm_typing.proofs.Slots.{here, param_sized, result_sized}
use Rattle.tm_typing.proofs.Leading.{IsNamed, along_is}
use Rattle.tm_typing.proofs.Resolved.{named_sized}

-- where an expression stands: in a body of a template of the text, or outside of all bodies
pub record StandsIn (spec : SpecTree) (c : Context) : Type 0 where
  pub template : TemplateTree
  pub is : In template spec.templates
  pub body : BodyName
  pub context : c ≡ here spec template body

-- what is asked of a parameter
of_params : (params : List Param) (es : List ExprTree) (a : Asked) (ty : Ty) → In a (asked_args params es) →
    a.ty ≡ Some ty → (p : Param) × In p params × (type_of p.ty ≡ ty)
of_params params [] a ty i is = elim i [ ]
of_params [] (e ∷ es) a ty i is = by (is_first_or_later (asked_args [] es) i) (λ j. of_params [] es a ty j is)
  where
    by : (unasked e ≡ a) ⊎ In a (asked_args [] es) →
        (In a (asked_args [] es) → (p : Param) × In p [] × (type_of p.ty ≡ ty)) →
        (p : Param) × In p [] × (type_of p.ty ≡ ty)
    by (inl same) deeper = no_thing (ap (λ (x : Asked). x.ty) same ∙ is)
    by (inr j) deeper = deeper j
of_params (p ∷ params) (e ∷ es) a ty i is =
    by (is_first_or_later (asked_args params es) i) (λ j. of_params params es a ty j is)
  where
    by : (record { ty = Some (type_of p.ty); expr = e } ≡ a) ⊎ In a (asked_args params es) →
        (In a (asked_args params es) → (q : Param) × In q params × (type_of q.ty ≡ ty)) →
        (q : Param) × In q (p ∷ params) × (type_of q.ty ≡ ty)
    by (inl same) deeper = (p, first_of, one_thing refl (ap (λ (x : Asked). x.ty) same ∙ is))
    by (inr j) deeper = let q = deeper j in (q.0, later_of q.1, q.2)

module _ (spec : SpecTree) (f : IsNamed spec) (t : TemplateTree) (at : In t spec.templates) (body : BodyName) where
  -- the types that a call asks for
  call_sized : (path : List Ident) (es : List ExprTree) (a : Asked) (ty : Ty) →
      In a (call_args (here spec t body) path es) → a.ty ≡ Some ty → IsSized ty
  call_sized path es a ty i is = by (template_along spec t path) refl i
    where
      of_task : (u : TemplateTree) → In u spec.templates → (o : Option TaskTree) →
          find (λ (k : TaskTree). is_spelled (last_name path) k.name) u.tasks ≡ o →
          In a (asked_args (option_map_or (λ (k : TemplateTree × TaskTree). k.1.params)
          (option_map (λ (k : TaskTree). (u, k)) o) []) es) → IsSized ty
      of_task u inside None found j = let p = of_params [] es a ty j is in elim p.1 [ ]
      of_task u inside (Some k) found j =
          let p = of_params k.params es a ty j is in
          let there = of_find (λ (k : TaskTree). is_spelled (last_name path) k.name) u.tasks found in
          subst IsSized p.2 (param_sized u k p.0 (f.sized u inside) there.0 p.1)

      by : (o : Option TemplateTree) → template_along spec t path ≡ o →
          In a (asked_args (option_map_or (λ (k : TemplateTree × TaskTree). k.1.params)
          (option_and_then (λ (u : TemplateTree). option_map (λ (k : TaskTree). (u, k))
          (find (λ (k : TaskTree). is_spelled (last_name path) k.name) u.tasks)) o) []) es) → IsSized ty
      by None along j = let p = of_params [] es a ty j is in elim p.1 [ ]
      by (Some u) along j =
          of_task u (along_is spec f t u path at along)
          (find (λ (k : TaskTree). is_spelled (last_name path) k.name) u.tasks) refl j

  condition_sized : (e : ExprTree) (a : Asked) (ty : Ty) → In a (condition e ∷ []) → a.ty ≡ Some ty → IsSized ty
  condition_sized e a ty i is = by (is_first_or_later [] i)
    where
      by : (condition e ≡ a) ⊎ In a [] → IsSized ty
      by (inl same) = subst IsSized (one_thing refl (ap (λ (x : Asked). x.ty) same ∙ is)) tt
      by (inr j) = elim j [ ]

  -- the types that a statement asks for
  stmt_sized : (s : StmtTree) (a : Asked) (ty : Ty) → In a (stmt_exprs (here spec t body) s) → a.ty ≡ Some ty →
      IsSized ty
  stmt_sized (assign names index v) a ty i is =
      by (in_either (target_exprs names index)
      (value_exprs (here spec t body) (named_type (here spec t body) names) v) i)
    where
      of_target : (o : Option ExprTree) → In a (target_exprs names o) → IsSized ty
      of_target None j = elim j [ ]
      of_target (Some e) j = of_first (is_first_or_later [] j)
        where
          of_first : {e : ExprTree} → (unasked e ≡ a) ⊎ In a [] → IsSized ty
          of_first (inl same) = no_thing (ap (λ (x : Asked). x.ty) same ∙ is)
          of_first (inr k) = elim k [ ]

      of_value : (w : ValueTree) → In a (value_exprs (here spec t body) (named_type (here spec t body) names) w) →
          IsSized ty
      of_value (star _) j = elim j [ ]
      of_value (result path es) j = call_sized path es a ty j is
      of_value (plain e) j = of_first (is_first_or_later [] j)
        where
          of_first : (record { ty = named_type (here spec t body) names; expr = e } ≡ a) ⊎ In a [] → IsSized ty
          of_first (inl same) =
              named_sized spec f t at body names ty (ap (λ (x : Asked). x.ty) same ∙ is)
          of_first (inr k) = elim k [ ]

      by : In a (target_exprs names index)
          ⊎ In a (value_exprs (here spec t body) (named_type (here spec t body) names) v) → IsSized ty
      by (inl j) = of_target index j
      by (inr j) = of_value v j
  stmt_sized (invoke path es) a ty i is = call_sized path es a ty i is
  stmt_sized (branch e _ _) a ty i is = condition_sized e a ty i is
  stmt_sized (repeat _ e _) a ty i is = condition_sized e a ty i is
  stmt_sized (forever _ _) a ty i is = elim i [ ]
  stmt_sized (choose _ _) a ty i is = elim i [ ]
  stmt_sized (assert _ e) a ty i is = condition_sized e a ty i is
  stmt_sized (assume _ e) a ty i is = condition_sized e a ty i is
  stmt_sized (pause _) a ty i is = elim i [ ]
  stmt_sized (wait _ e) a ty i is = condition_sized e a ty i is
  stmt_sized (magic _) a ty i is = elim i [ ]

  -- the type that a result is asked for
  answer_sized : (b : BodyName) (ty : Ty) → result_asked t b ≡ Some ty → IsSized ty
  answer_sized (process_body k) ty is = no_thing is
  answer_sized outside ty is = no_thing is
  answer_sized (task_body k) ty is = by (slice_get t.tasks k) refl is
    where
      of_kind : (task : TaskTree) → In task t.tasks → (o : Option TypeName) → written_result task.kind ≡ o →
          option_map type_of o ≡ Some ty → IsSized ty
      of_kind task j None kind e = no_thing e
      of_kind task j (Some name) kind e =
          subst IsSized (one_thing refl e) (result_sized t task name (f.sized t at) j kind)

      by : (o : Option TaskTree) → slice_get t.tasks k ≡ o →
          option_and_then (λ (task : TaskTree). option_map type_of (written_result task.kind)) o ≡ Some ty → IsSized ty
      by None there e = no_thing e
      by (Some task) there e = of_kind task (in_get t.tasks k there) (written_result task.kind) refl e

  -- the types that a body asks for
  body_sized : (b : BodyAt) (a : Asked) (ty : Ty) → b.context ≡ here spec t body → In a (body_exprs b) →
      a.ty ≡ Some ty → IsSized ty
  body_sized b a ty context i is =
      by (in_either (flat_map (stmt_exprs b.context) (stmts_in b.body))
      (map (λ (e : ExprTree). record { ty = result_asked b.context.template b.context.body; expr = e })
      (option_to_list b.body.answer)) i)
    where
      by : In a (flat_map (stmt_exprs b.context) (stmts_in b.body))
          ⊎ In a (map (λ (e : ExprTree). record { ty = result_asked b.context.template b.context.body; expr = e })
          (option_to_list b.body.answer)) → IsSized ty
      by (inl j) =
          let s = of_flat (stmt_exprs b.context) (stmts_in b.body) j in
          stmt_sized s.0 a ty (subst (λ (c : Context). In a (stmt_exprs c s.0)) context s.2) is
      by (inr j) =
          let e = of_map (λ (e : ExprTree). record { ty = result_asked b.context.template b.context.body; expr = e })
          (option_to_list b.body.answer) j in
          answer_sized body ty
          (subst (λ (c : Context). result_asked c.template c.body ≡ Some ty) context
          (ap (λ (x : Asked). x.ty) e.2 ∙ is))

-- an expression of a text stands in a template of it, and its place asks for a type whose width numbers can have
pub record IsPlaced (spec : SpecTree) (e : ExprAt) : Type 0 where
  pub stands : StandsIn spec e.context
  pub sized : (ty : Ty) → e.asked.ty ≡ Some ty → IsSized ty

module _ (spec : SpecTree) (f : IsNamed spec) where
  -- a body of a template stands in it
  pub body_stands : (t : TemplateTree) (b : BodyAt) → In b (template_bodies spec t) →
      (body : BodyName) × (b.context ≡ here spec t body)
  body_stands t b i =
      by (in_either (map (process_body_at spec t) (enumerate_from 0 t.processes))
      (map (task_body_at spec t) (enumerate_from 0 t.tasks)) i)
    where
      by : In b (map (process_body_at spec t) (enumerate_from 0 t.processes))
          ⊎ In b (map (task_body_at spec t) (enumerate_from 0 t.tasks)) →
          (body : BodyName) × (b.context ≡ here spec t body)
      by (inl j) =
          let p = of_map (process_body_at spec t) (enumerate_from 0 t.processes) j in
          (process_body p.0.0, ap (λ (x : BodyAt). x.context) (sym p.2))
      by (inr j) =
          let k = of_map (task_body_at spec t) (enumerate_from 0 t.tasks) j in
          (task_body k.0.0, ap (λ (x : BodyAt). x.context) (sym k.2))

  placed_in : (t : TemplateTree) → In t spec.templates → (e : ExprAt) → In e (template_exprs spec t) →
      IsPlaced spec e
  placed_in t at e i =
      by (in_either
      (flat_map (λ (b : BodyAt). map (λ (a : Asked). record { context = b.context; asked = a }) (body_exprs b))
      (template_bodies spec t))
      (map (λ (n : NamedTree). record {
        context = record { spec = spec; template = t; body = outside };
        asked = condition n.expr;
      }) (t.goals ++ t.fairs)) i)
    where
      by : In e (flat_map (λ (b : BodyAt). map (λ (a : Asked). record { context = b.context; asked = a })
          (body_exprs b)) (template_bodies spec t))
          ⊎ In e (map (λ (n : NamedTree). record {
            context = record { spec = spec; template = t; body = outside };
            asked = condition n.expr;
          }) (t.goals ++ t.fairs)) → IsPlaced spec e
      by (inl j) =
          let b = of_flat (λ (b : BodyAt). map (λ (a : Asked). record { context = b.context; asked = a })
          (body_exprs b)) (template_bodies spec t) j in
          let a = of_map (λ (a : Asked). record { context = b.0.context; asked = a }) (body_exprs b.0) b.2 in
          let where_ = body_stands t b.0 b.1 in
          record {
            stands = record {
              template = t;
              is = at;
              body = where_.0;
              context = ap (λ (x : ExprAt). x.context) (sym a.2) ∙ where_.1;
            };
            sized = λ ty is.
                body_sized spec f t at where_.0 b.0 a.0 ty where_.1 a.1
                (ap (λ (x : ExprAt). x.asked.ty) a.2 ∙ is);
          }
      by (inr j) =
          let n = of_map (λ (n : NamedTree). record {
            context = record { spec = spec; template = t; body = outside };
            asked = condition n.expr;
          }) (t.goals ++ t.fairs) j in
          record {
            stands = record {
              template = t;
              is = at;
              body = outside;
              context = ap (λ (x : ExprAt). x.context) (sym n.2);
            };
            sized = λ ty is. subst IsSized (one_thing refl (ap (λ (x : ExprAt). x.asked.ty) n.2 ∙ is)) tt;
          }

  -- each expression of a text is placed
  pub placed : (e : ExprAt) → In e (exprs spec) → IsPlaced spec e
  placed e i = let t = of_flat (template_exprs spec) spec.templates i in placed_in t.0 t.1 e t.2
