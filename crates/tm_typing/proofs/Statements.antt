-- The targets and calls of a checked specification resolve.
use Rattle.std.proofs.Common.{◌≡◌, ◌≢◌, Option, None, Some, List, [], ◌∷◌, ◌++◌, refl, sym, ◌∙◌, subst, map}
use Rattle.std.specs.Prelude.{length}
use Rattle.std.specs.Option.{option_map_or, option_to_list}
use Rattle.std.specs.List.{AllByRecursion, flat_map}
use Rattle.tm_syntax.specs.declared.tree.Ident.{Ident}
use Rattle.tm_syntax.specs.declared.tree.TypeName.{TypeName}
use Rattle.tm_syntax.specs.declared.tree.TaskKind.{TaskKind}
use Rattle.tm_syntax.specs.declared.tree.TaskKind.TheVariants.{Controllable, Uncontrollable, Procedure}
use Rattle.tm_syntax.specs.declared.design.Ty.{Ty}
use Rattle.tm_syntax.specs.declared.design.Ty.TheVariants as types
use Rattle.tm_syntax.specs.Tree.{ExprTree, element, NamedTree, ValueTree, star, result, plain, StmtTree, assign, invoke, branch, repeat, forever, choose, assert, assume, pause, wait, magic, TaskTree, TemplateTree, SpecTree}
use Rattle.tm_syntax.specs.Scopes.Names.{type_of}
use Rattle.tm_syntax.specs.Scopes.Pauses.{task_reached}
use Rattle.tm_syntax.specs.Scopes.Context.{Context, BodyName, outside}
use Rattle.tm_syntax.specs.Scopes.Types.{named_type, own_type, valued_in}
use Rattle.tm_syntax.specs.Scopes.Declared.{meaning}
use Rattle.tm_syntax.specs.Scopes.Parts.{BodyAt, template_bodies, bodies, Asked, unasked, condition, stmt_exprs, result_asked, body_exprs, ExprAt, template_exprs, exprs, stmts_in, own_calls, bare_targets}
use Rattle.tm_syntax.specs.Faults.Names.{unknown_of, unknown_paths, unknown_main, unknown_in_template, unknown_in_expr, unknown_in_body}
use Rattle.tm_syntax.specs.Faults.Operands.{same_type, is_assigned, is_called, is_indexed, wrong_sort, path_place, expr_faults, index_faults}
use Rattle.tm_syntax.specs.Faults.Mismatches.{call_fits, call_faults, called_faults, value_call_faults, stmt_call_faults, target_faults, template_faults, body_faults, asked_faults}
use Rattle.tm_syntax.specs.Faults.Marks.{place_unless}
use Rattle.tm_syntax.specs.Grammar.Faults.{IsWithin}
use Rattle.tm_syntax.specs.Faults.{IsTyped}
use Rattle.tm_typing.specs.HasType.{Suits, HasType}
use Rattle.tm_typing.specs.Resolving.{IsArrayPath, AreResolved}
use Rattle.tm_typing.specs.Statements.{HasTarget, HasCallee, ValueResolves, StmtResolves}
use Rattle.tm_typing.proofs.Fitting.{not_empty, both_empty, fits_there, same_types}
use Rattle.tm_typing.proofs.Listed.{In, first_of, in_front, in_map, in_flat, of_flat, none_of, one_thing, no_thing, all_hold}
use Rattle.tm_typing.proofs.Slots.{here}
use Rattle.tm_typing.proofs.Leading.{IsWell}
use Rattle.tm_typing.proofs.Resolved.{assigned, called}
use Rattle.tm_typing.proofs.Promises.{named, expr_resolves, expr_matches, expr_fits}
use Rattle.tm_typing.proofs.Typing.{typed}
use Rattle.tm_typing.proofs.Asked.{body_stands}
use Rattle.tm_typing.proofs.Names.{AreNamed, StmtNamed}
use Rattle.tm_typing.proofs.TextNames.{spec_named, stmts_named}

module _ (spec : SpecTree) (checked : IsTyped spec) (t : TemplateTree) (at : In t spec.templates) (body : BodyName)
  where
    -- a path with a name that is assigned has a type
    target_there : (names : List Ident) → names ≢ [] → IsWell is_assigned (meaning (here spec t body) names) →
        HasTarget (here spec t body) names
    target_there [] none well = absurd (none refl)
    target_there (name ∷ names) none well = assigned spec (named spec checked) t at body name names well

    -- a path with a name that is called leads to a task or procedure that fits
    callee_there : (names : List Ident) (es : List ExprTree) → names ≢ [] →
        unknown_of (meaning (here spec t body) names) ≡ [] → call_faults (here spec t body) names es ≡ [] →
        HasCallee (here spec t body) names (length es)
    callee_there [] es none known well = absurd (none refl)
    callee_there (name ∷ names) es none known well =
        let parts = both_empty (wrong_sort is_called (meaning (here spec t body) (name ∷ names)))
        (option_map_or (λ (k : TemplateTree × TaskTree).
        place_unless (call_fits k.1 (length es)) (path_place (name ∷ names)))
        (task_reached spec t (name ∷ names)) []) well in
        let k = called spec (named spec checked) t at body name names (record { known = known; fits = parts.0 }) in
        record {
          template = k.0.0;
          task = k.0.1;
          is = k.1;
          fits = fits_there (call_fits k.0.1 (length es)) (path_place (name ∷ names))
              (subst (λ o. option_map_or (λ (k : TemplateTree × TaskTree).
              place_unless (call_fits k.1 (length es)) (path_place (name ∷ names))) o [] ≡ []) k.1 parts.1);
        }

    -- a result that fits its target is one of a procedure with a type
    result_there : (asked : Option Ty) (names : List Ident) (kind : TaskKind) → called_faults asked names kind ≡ [] →
        (ty : TypeName) × (kind ≡ Procedure (Some ty)) × ((want : Ty) → asked ≡ Some want → want ≡ type_of ty)
    result_there None names (Procedure (Some ty)) well = (ty, refl, λ want e. no_thing e)
    result_there (Some a) names (Procedure (Some ty)) well = (
      ty,
      refl,
      λ want e. sym (one_thing refl e) ∙ same_types a (type_of ty)
          (fits_there (same_type a (type_of ty)) (path_place names) well),
    )
    result_there None names (Procedure None) well = not_empty well
    result_there (Some _) names (Procedure None) well = not_empty well
    result_there None names Controllable well = not_empty well
    result_there (Some _) names Controllable well = not_empty well
    result_there None names Uncontrollable well = not_empty well
    result_there (Some _) names Uncontrollable well = not_empty well

    value_there : (target : List Ident) (v : ValueTree) →
        AreNamed (own_calls (assign target None v)) →
        unknown_paths (here spec t body) (own_calls (assign target None v)) ≡ [] →
        value_call_faults (here spec t body) (named_type (here spec t body) target) v ≡ [] →
        ValueResolves (here spec t body) target v
    value_there target (star _) names known well = tt
    value_there target (plain _) names known well = tt
    value_there target (result path es) names known well =
        let parts = both_empty (call_faults (here spec t body) path es)
        (option_map_or (λ (k : TemplateTree × TaskTree).
        called_faults (named_type (here spec t body) target) path k.1.kind) (task_reached spec t path) []) well in
        let callee = callee_there path es names.0 (both_empty (unknown_of (meaning (here spec t body) path)) [] known).0
        parts.0 in
        let fits = result_there (named_type (here spec t body) target) path callee.task.kind
        (subst (λ o. option_map_or (λ (k : TemplateTree × TaskTree).
        called_faults (named_type (here spec t body) target) path k.1.kind) o [] ≡ []) callee.is parts.1) in
        record { callee = callee; ty = fits.0; is = fits.1; fits = fits.2 }

    -- the target and the call of a statement at no fault resolve
    stmt_there : (s : StmtTree) → ((names : List Ident) (e : ExprTree) (v : ValueTree) →
        s ≡ assign names (Some e) v → (ty : Ty) × HasType (here spec t body) ty (element names e)) → StmtNamed s →
        unknown_paths (here spec t body) (bare_targets s ++ own_calls s) ≡ [] →
        target_faults (here spec t body) s ++ stmt_call_faults (here spec t body) s ≡ [] →
        StmtResolves (here spec t body) s
    stmt_there (assign names None v) elements has known well =
        let parts = both_empty (target_faults (here spec t body) (assign names None v))
        (value_call_faults (here spec t body) (named_type (here spec t body) names) v) well in
        let each = both_empty (unknown_of (meaning (here spec t body) names))
        (unknown_paths (here spec t body) (own_calls (assign names None v))) known in (
          target_there names has.target.0 (record {
            known = each.0;
            fits = (both_empty (wrong_sort is_assigned (meaning (here spec t body) names)) [] parts.0).0;
          }),
          value_there names v has.call each.1 parts.1,
        )
    stmt_there (assign names (Some e) v) elements has known well =
        (elements names e v refl, value_there names v has.call known well)
    stmt_there (invoke names es) elements has known well =
        callee_there names es has.call.0 (both_empty (unknown_of (meaning (here spec t body) names)) [] known).0 well
    stmt_there (branch _ _ _) elements has known well = tt
    stmt_there (repeat _ _ _) elements has known well = tt
    stmt_there (forever _ _) elements has known well = tt
    stmt_there (choose _ _) elements has known well = tt
    stmt_there (assert _ _) elements has known well = tt
    stmt_there (assume _ _) elements has known well = tt
    stmt_there (pause _) elements has known well = tt
    stmt_there (wait _ _) elements has known well = tt
    stmt_there (magic _) elements has known well = tt

module _ (spec : SpecTree) (checked : IsTyped spec) where
  -- nothing of a body is at fault
  body_known : (b : BodyAt) → In b (bodies spec) → unknown_in_body b ≡ []
  body_known b i =
      none_of unknown_in_body (bodies spec)
      (both_empty
      (unknown_main spec ++ flat_map (unknown_in_template spec) spec.templates
      ++ flat_map unknown_in_expr (exprs spec))
      (flat_map unknown_in_body (bodies spec)) checked.known).1 i

  body_matches : (b : BodyAt) → In b (bodies spec) → body_faults b ≡ []
  body_matches b i =
      let first = both_empty (flat_map (template_faults spec) spec.templates ++ flat_map body_faults (bodies spec))
      (flat_map asked_faults (exprs spec)) checked.matching in
      none_of body_faults (bodies spec)
      (both_empty (flat_map (template_faults spec) spec.templates) (flat_map body_faults (bodies spec)) first.0).1 i

  -- an expression of a statement is one of the text
  stmt_expr_in : (b : BodyAt) → In b (bodies spec) → (s : StmtTree) → In s (stmts_in b.body) → (a : Asked) →
      In a (stmt_exprs b.context s) → In (record { context = b.context; asked = a }) (exprs spec)
  stmt_expr_in b i s j a k =
      let t = of_flat (template_bodies spec) spec.templates i in
      in_flat (template_exprs spec) spec.templates t.1
      (in_front
      (flat_map (λ (b : BodyAt). map (λ (x : Asked). record { context = b.context; asked = x }) (body_exprs b))
      (template_bodies spec t.0))
      (map (λ (n : NamedTree). record {
        context = record { spec = spec; template = t.0; body = outside };
        asked = condition n.expr;
      }) (t.0.goals ++ t.0.fairs))
      (in_flat (λ (b : BodyAt). map (λ (x : Asked). record { context = b.context; asked = x }) (body_exprs b))
      (template_bodies spec t.0) t.2
      (in_map (λ (x : Asked). record { context = b.context; asked = x }) (body_exprs b)
      (in_front (flat_map (stmt_exprs b.context) (stmts_in b.body))
      (map (λ (e : ExprTree). record { ty = result_asked b.context.template b.context.body; expr = e })
      (option_to_list b.body.answer))
      (in_flat (stmt_exprs b.context) (stmts_in b.body) j k)))))

  -- an element that is assigned has a type
  element_typed : (b : BodyAt) → In b (bodies spec) → (s : StmtTree) → In s (stmts_in b.body) →
      (names : List Ident) (e : ExprTree) (v : ValueTree) → s ≡ assign names (Some e) v →
      (ty : Ty) × HasType b.context ty (element names e)
  element_typed b i s j names e v is = (
    array.ty,
    subst (λ own. HasType b.context (valued_in types.Bool own) (element names e)) array.is
        (typed b.context (element names e) paths well types.Bool (expr_fits spec checked at inside)
        (subst (λ own. Suits own types.Bool) (sym array.is) tt)),
  )
    where
      at : ExprAt
      at = record { context = b.context; asked = unasked (element names e) }

      inside : In at (exprs spec)
      inside =
          stmt_expr_in b i s j (unasked (element names e))
          (subst (λ (x : StmtTree). In (unasked (element names e)) (stmt_exprs b.context x)) (sym is) first_of)

      paths : AreResolved b.context (element names e)
      paths = expr_resolves spec checked at inside

      well : expr_faults b.context (element names e) ≡ []
      well = expr_matches spec checked at inside

      array : IsArrayPath b.context names
      array =
          paths.0.array
          (both_empty (wrong_sort is_indexed (meaning b.context names))
          (index_faults b.context.body e (expr_faults b.context e) (own_type b.context e)) well).0

  body_resolves : (b : BodyAt) → In b (bodies spec) →
      AllByRecursion (StmtResolves b.context) (stmts_in b.body)
  body_resolves b i = all_hold (StmtResolves b.context) (stmts_in b.body) each
    where
      t : (t : TemplateTree) × In t spec.templates × In b (template_bodies spec t)
      t = of_flat (template_bodies spec) spec.templates i

      stands : (body : BodyName) × (b.context ≡ here spec t.0 body)
      stands = body_stands spec (named spec checked) t.0 b t.2

      has : (s : StmtTree) → In s (stmts_in b.body) → StmtNamed s
      has s j =
          stmts_named spec
          (spec_named checked.of_text.text (IsWithin 0) spec checked.of_text.tokens [] checked.of_text.is_tree) b i s j

      each : (s : StmtTree) → In s (stmts_in b.body) → StmtResolves b.context s
      each s j =
          subst (λ (c : Context). StmtResolves c s) (sym stands.1)
          (stmt_there spec checked t.0 t.1 stands.0 s
          (λ names e v is.
          subst (λ (c : Context). (ty : Ty) × HasType c ty (element names e)) stands.1
          (element_typed b i s j names e v is)) (has s j)
          (subst (λ (c : Context). unknown_paths c (bare_targets s ++ own_calls s) ≡ []) stands.1
          (none_of (λ s. unknown_paths b.context (bare_targets s ++ own_calls s)) (stmts_in b.body)
          (body_known b i) j))
          (subst (λ (c : Context). target_faults c s ++ stmt_call_faults c s ≡ []) stands.1
          (none_of (λ s. target_faults b.context s ++ stmt_call_faults b.context s) (stmts_in b.body)
          (body_matches b i) j)))

  -- so do those of all bodies
  pub bodies_resolve : AllByRecursion (λ (b : BodyAt). AllByRecursion (StmtResolves b.context) (stmts_in b.body))
      (bodies spec)
  bodies_resolve =
      all_hold (λ (b : BodyAt). AllByRecursion (StmtResolves b.context) (stmts_in b.body)) (bodies spec) body_resolves
