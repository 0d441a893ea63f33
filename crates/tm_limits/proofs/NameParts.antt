-- The names in the expressions of a text, and in the other paths of its bodies, template by template.
use Rattle.std.proofs.Common.{◌≡◌, ℕ, ◌+◌, Option, None, Some, List, [], ◌∷◌, ◌++◌, map, append_assoc, refl, sym, ap, ◌∙◌}
use Rattle.std.specs.List.{enumerate_from, flat_map}
use Rattle.std.specs.Option.{option_map_or, option_to_list}
use Rattle.std.proofs.lemmas.List.{append-nil}
use Rattle.std.proofs.lemmas.List.Concat.{flat_map-append}
use Rattle.tm_syntax.specs.declared.design.Ty.{Ty}
use Rattle.tm_syntax.specs.declared.tree.Ident.{Ident}
use Rattle.tm_syntax.specs.declared.tree.Param.{Param}
use Rattle.tm_syntax.specs.Tree.{ExprTree, ValueTree, star, result, plain, StmtTree, assign, invoke, branch, repeat, forever, choose, assert, assume, pause, wait, magic, NamedTree, ProcessTree, TaskTree, TemplateTree, SpecTree}
use Rattle.tm_syntax.specs.Scopes.Context.{Context, outside}
use Rattle.tm_syntax.specs.Scopes.Parts as parts
use Rattle.tm_syntax.specs.Scopes.Parts.{Asked, BodyAt, ExprAt, asked_args, body_exprs, condition, process_body_at, result_asked, stmt_exprs, stmts_in, task_body_at, template_bodies, template_exprs}
use Rattle.tm_syntax.specs.Scopes.Pauses.{task_reached}
use Rattle.tm_syntax.specs.Scopes.Types.{named_type}
use Rattle.tm_syntax.specs.Faults.Limits as limits
use Rattle.tm_syntax.specs.Faults.Names.{expr_paths}
use Rattle.tm_limits.specs.declared.names.bodies.Sought.TheVariants.{Expressions, Paths}
use Rattle.tm_limits.specs.LongNames.{answer_names, body_names, expr_names, own_names, target_exprs, template_names, value_exprs}

-- the names of an expression with the type that its place asks for
abbrev asked_names : Asked → List Ident
asked_names a = expr_names a.expr

of_args : (params : List Param) (es : List ExprTree) →
    flat_map asked_names (asked_args params es) ≡ flat_map expr_names es
of_args params [] = refl
of_args [] (e ∷ es) = ap (λ ns. expr_names e ++ ns) (of_args [] es)
of_args (p ∷ params) (e ∷ es) = ap (λ ns. expr_names e ++ ns) (of_args params es)

of_value : (c : Context) (ty : Option Ty) (v : ValueTree) →
    flat_map asked_names (parts.value_exprs c ty v) ≡ flat_map expr_names (value_exprs v)
of_value c ty (star _) = refl
of_value c ty (result path es) =
    of_args (option_map_or (λ (k : TemplateTree × TaskTree). k.1.params) (task_reached c.spec c.template path) []) es
of_value c ty (plain e) = refl

of_target : (names : List Ident) (index : Option ExprTree) →
    flat_map asked_names (parts.target_exprs names index) ≡ flat_map expr_names (target_exprs names index)
of_target names None = refl
of_target names (Some index) = refl

of_stmt : (c : Context) (s : StmtTree) → flat_map asked_names (stmt_exprs c s) ≡ own_names Expressions s
of_stmt c (assign names index v) =
    flat_map-append asked_names (parts.target_exprs names index) (parts.value_exprs c (named_type c names) v)
    ∙ (λ j. of_target names index j ++ of_value c (named_type c names) v j)
    ∙ sym (flat_map-append expr_names (target_exprs names index) (value_exprs v))
of_stmt c (invoke path es) =
    of_args (option_map_or (λ (k : TemplateTree × TaskTree). k.1.params) (task_reached c.spec c.template path) []) es
of_stmt c (branch _ _ _) = refl
of_stmt c (repeat _ _ _) = refl
of_stmt c (forever _ _) = refl
of_stmt c (choose _ _) = refl
of_stmt c (assert _ _) = refl
of_stmt c (assume _ _) = refl
of_stmt c (pause _) = refl
of_stmt c (wait _ _) = refl
of_stmt c (magic _) = refl

of_stmts : (c : Context) (ss : List StmtTree) →
    flat_map asked_names (flat_map (stmt_exprs c) ss) ≡ flat_map (own_names Expressions) ss
of_stmts c [] = refl
of_stmts c (s ∷ ss) =
    flat_map-append asked_names (stmt_exprs c s) (flat_map (stmt_exprs c) ss)
    ∙ (λ j. of_stmt c s j ++ of_stmts c ss j)

-- the names of expressions where they stand
abbrev names_at : ExprAt → List Ident
names_at e = flat_map (λ p. p) (expr_paths e.asked.expr)

placed : (c : Context) (es : List Asked) →
    flat_map names_at (map (λ e. record { context = c; asked = e }) es) ≡ flat_map asked_names es
placed c [] = refl
placed c (e ∷ es) = ap (λ ns. asked_names e ++ ns) (placed c es)

of_body : (b : BodyAt) →
    flat_map names_at (map (λ e. record { context = b.context; asked = e }) (body_exprs b))
    ≡ body_names Expressions b.body
of_body b =
    placed b.context (body_exprs b)
    ∙ flat_map-append asked_names (flat_map (stmt_exprs b.context) (stmts_in b.body))
    (map (λ e. record { ty = result_asked b.context.template b.context.body; expr = e }) (option_to_list b.body.answer))
    ∙ (λ j. of_stmts b.context (stmts_in b.body) j ++ of_answer b.body.answer j)
  where
    of_answer : (answer : Option ExprTree) →
        flat_map asked_names (map (λ e. record { ty = result_asked b.context.template b.context.body; expr = e })
        (option_to_list answer)) ≡ answer_names Expressions answer
    of_answer None = refl
    of_answer (Some e) = refl

of_bodies : (bs : List BodyAt) →
    flat_map names_at (flat_map (λ (b : BodyAt). map (λ e. record { context = b.context; asked = e })
    (body_exprs b)) bs)
    ≡ flat_map (λ (b : BodyAt). body_names Expressions b.body) bs
of_bodies [] = refl
of_bodies (b ∷ bs) =
    flat_map-append names_at (map (λ e. record { context = b.context; asked = e }) (body_exprs b))
    (flat_map (λ (b : BodyAt). map (λ e. record { context = b.context; asked = e }) (body_exprs b)) bs)
    ∙ (λ j. of_body b j ++ of_bodies bs j)

-- ---- the bodies of a template

module _ (spec : SpecTree) (t : TemplateTree) (f : BodyAt → List Ident) where
  of_processes : (g : ProcessTree → List Ident) → ((p : ℕ × ProcessTree) → f (process_body_at spec t p) ≡ g p.1) →
      (k : ℕ) (ps : List ProcessTree) →
      flat_map f (map (process_body_at spec t) (enumerate_from k ps)) ≡ flat_map g ps
  of_processes g same k [] = refl
  of_processes g same k (p ∷ ps) = λ j. same (k, p) j ++ of_processes g same (k + 1) ps j

  of_tasks : (g : TaskTree → List Ident) → ((p : ℕ × TaskTree) → f (task_body_at spec t p) ≡ g p.1) →
      (k : ℕ) (ks : List TaskTree) →
      flat_map f (map (task_body_at spec t) (enumerate_from k ks)) ≡ flat_map g ks
  of_tasks g same k [] = refl
  of_tasks g same k (p ∷ ks) = λ j. same (k, p) j ++ of_tasks g same (k + 1) ks j

  pub of_template : (g : ProcessTree → List Ident) (h : TaskTree → List Ident) →
      ((p : ℕ × ProcessTree) → f (process_body_at spec t p) ≡ g p.1) →
      ((k : ℕ × TaskTree) → f (task_body_at spec t k) ≡ h k.1) →
      flat_map f (template_bodies spec t) ≡ flat_map g t.processes ++ flat_map h t.tasks
  of_template g h first second =
      flat_map-append f (map (process_body_at spec t) (enumerate_from 0 t.processes))
      (map (task_body_at spec t) (enumerate_from 0 t.tasks))
      ∙ (λ j. of_processes g first 0 t.processes j ++ of_tasks h second 0 t.tasks j)

of_conditions : (spec : SpecTree) (t : TemplateTree) (ns : List NamedTree) →
    flat_map names_at (map (λ (n : NamedTree). record {
      context = record { spec = spec; template = t; body = outside };
      asked = condition n.expr;
    }) ns) ≡ flat_map (λ (n : NamedTree). expr_names n.expr) ns
of_conditions spec t [] = refl
of_conditions spec t (n ∷ ns) = ap (λ rest. expr_names n.expr ++ rest) (of_conditions spec t ns)

template_exprs-names : (spec : SpecTree) (t : TemplateTree) →
    flat_map names_at (template_exprs spec t) ≡ template_names Expressions t
template_exprs-names spec t =
    let front = flat_map (λ (p : ProcessTree). body_names Expressions p.body) t.processes
    ++ flat_map (λ (k : TaskTree). body_names Expressions k.body) t.tasks in
    flat_map-append names_at
    (flat_map (λ (b : BodyAt). map (λ e. record { context = b.context; asked = e }) (body_exprs b))
    (template_bodies spec t))
    (map (λ (n : NamedTree). record {
      context = record { spec = spec; template = t; body = outside };
      asked = condition n.expr;
    }) (t.goals ++ t.fairs))
    ∙ (λ j. (of_bodies (template_bodies spec t)
    ∙ of_template spec t (λ (b : BodyAt). body_names Expressions b.body)
    (λ (p : ProcessTree). body_names Expressions p.body) (λ (k : TaskTree). body_names Expressions k.body)
    (λ p. refl) (λ k. refl)) j
    ++ (of_conditions spec t (t.goals ++ t.fairs)
    ∙ flat_map-append (λ (n : NamedTree). expr_names n.expr) t.goals t.fairs) j)
    ∙ sym (append_assoc front (flat_map (λ (n : NamedTree). expr_names n.expr) t.goals)
    (flat_map (λ (n : NamedTree). expr_names n.expr) t.fairs))

-- the names in the expressions of a text
pub expression_names : (spec : SpecTree) (ts : List TemplateTree) →
    flat_map (template_names Expressions) ts
    ≡ flat_map (λ (e : ExprAt). flat_map (λ p. p) (expr_paths e.asked.expr)) (flat_map (template_exprs spec) ts)
expression_names spec [] = refl
expression_names spec (t ∷ ts) =
    (λ j. sym (template_exprs-names spec t) j ++ expression_names spec ts j)
    ∙ sym (flat_map-append names_at (template_exprs spec t) (flat_map (template_exprs spec) ts))

-- the names in the other paths of a text's bodies
pub path_names : (spec : SpecTree) (ts : List TemplateTree) →
    flat_map (template_names Paths) ts ≡ flat_map limits.body_names (flat_map (template_bodies spec) ts)
path_names spec [] = refl
path_names spec (t ∷ ts) =
    (λ j. (append-nil (flat_map (λ (p : ProcessTree). body_names Paths p.body) t.processes
    ++ flat_map (λ (k : TaskTree). body_names Paths k.body) t.tasks ++ [])
    ∙ append-nil (flat_map (λ (p : ProcessTree). body_names Paths p.body) t.processes
    ++ flat_map (λ (k : TaskTree). body_names Paths k.body) t.tasks)
    ∙ sym (of_template spec t limits.body_names (λ (p : ProcessTree). body_names Paths p.body)
    (λ (k : TaskTree). body_names Paths k.body) (λ p. sym (append-nil
    (limits.body_names (process_body_at spec t p))))
    (λ k. sym (append-nil (limits.body_names (task_body_at spec t k)))))) j ++ path_names spec ts j)
    ∙ sym (flat_map-append limits.body_names (template_bodies spec t) (flat_map (template_bodies spec) ts))
