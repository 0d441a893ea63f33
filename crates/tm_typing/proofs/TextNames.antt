-- The paths of all expressions of a text have names.
use Rattle.std.proofs.Common.{◌≡◌, ℕ, ◌+◌, Option, None, Some, List, [], ◌∷◌, ◌++◌, ◌⊎◌, inl, inr, refl, sym, subst, map}
use Rattle.std.specs.Option.{option_to_list, option_map_or}
use Rattle.std.specs.List.{AllByRecursion, flat_map, filter_map, cons_option, enumerate_from}
use Rattle.std.proofs.lemmas.Grind.{flat_map-append}
use Rattle.tm_syntax.specs.declared.token.Token.{Token}
use Rattle.tm_syntax.specs.declared.tree.Param.{Param}
use Rattle.tm_syntax.specs.declared.tree.TaskKind.{TaskKind}
use Rattle.tm_syntax.specs.declared.design.Ty.{Ty}
use Rattle.tm_syntax.specs.Tree.{ExprTree, element, ValueTree, star, result, plain, StmtTree, assign, invoke, branch, repeat, forever, choose, assert, assume, pause, wait, magic, LocalTree, BodyTree, NamedTree, ProcessTree, TaskTree, TemplateTree, SpecTree}
use Rattle.tm_syntax.specs.Scopes.Names.{type_of}
use Rattle.tm_syntax.specs.Scopes.Context.{Context, outside}
use Rattle.tm_syntax.specs.Scopes.Pauses.{task_reached}
use Rattle.tm_syntax.specs.Scopes.Types.{named_type}
use Rattle.tm_syntax.specs.Scopes.Parts.{value_calls, inner_stmts, all_stmts, stmts_in, BodyAt, process_body_at, task_body_at, template_bodies, Asked, unasked, condition, asked_args, value_exprs, target_exprs, stmt_exprs, result_asked, body_exprs, ExprAt, template_exprs, exprs, bodies}
use Rattle.tm_syntax.specs.Grammar.Parts.{IsOptional, optional_none, optional_some}
use Rattle.tm_syntax.specs.Grammar.Statements.{IsLocal, local, IsBody, body, IsReturn, return, IsBraced, braced, IsAnswering, answering}
use Rattle.tm_syntax.specs.Grammar.Declarations.{IsNamed, named, IsProcess, process_fair, process_lazy, IsTaskOf, task_of, IsTask, task_controllable, task_uncontrollable, procedure_typed, procedure_void}
use Rattle.tm_syntax.specs.Grammar.Specification.{DeclTree, an_instance, a_variable, a_goal, a_fairness, a_process, a_task, goal_of, fairness_of, process_of, task_of as task_in, IsDecl, decl_instance, decl_variable, decl_goal, decl_fair, decl_process, decl_task, IsTemplate, template, ItemTree, an_enum, a_template, template_in, IsItem, item_enum, item_template, IsSpec, spec}
use Rattle.tm_typing.proofs.Listed.{In, first_of, later_of, is_first_or_later, in_front, in_behind, in_either, of_map, of_flat, holds_in, one_thing, no_thing, all_join, in_numbered}
use Rattle.tm_typing.proofs.Names.{HasNames, each_all, expr_named, value_parts, value_named, call_named, stmt_parts, AreNamed, StmtNamed, RowNamed, rows_named}

-- the paths of a body have names
pub record BodyNamed (b : BodyTree) : Type 0 where
  pub stmts : AllByRecursion StmtNamed (stmts_in b)
  pub answer : AllByRecursion HasNames (option_to_list b.answer)

-- so have those of a template
pub record TemplateNamed (t : TemplateTree) : Type 0 where
  pub goals : AllByRecursion (λ (n : NamedTree). HasNames n.expr) t.goals
  pub fairs : AllByRecursion (λ (n : NamedTree). HasNames n.expr) t.fairs
  pub processes : AllByRecursion (λ (p : ProcessTree). BodyNamed p.body) t.processes
  pub tasks : AllByRecursion (λ (k : TaskTree). BodyNamed k.body) t.tasks

-- so have those of a declaration
abbrev pub DeclNamed : DeclTree → Type 0
DeclNamed (an_instance _) = Unit {0}
DeclNamed (a_variable _) = Unit {0}
DeclNamed (a_goal n) = HasNames n.expr
DeclNamed (a_fairness n) = HasNames n.expr
DeclNamed (a_process p) = BodyNamed p.body
DeclNamed (a_task k) = BodyNamed k.body

abbrev pub ItemNamed : ItemTree → Type 0
ItemNamed (an_enum _) = Unit {0}
ItemNamed (a_template t) = TemplateNamed t

module _ (text : List ℕ) (May : List Token → ℕ → Type 0) where
  -- the paths of the value of a local have names
  LocalNamed : LocalTree → Type 0
  LocalNamed l = AllByRecursion HasNames (value_parts l.value) × AreNamed (value_calls l.value)

  local_named : (depth : ℕ) (l : LocalTree) (a b : List Token) → IsLocal text May depth l a b → LocalNamed l
  unfolding LocalNamed
  local_named depth _ a b (local {v = v} {d = p} {e = q} _ _ _ x _) =
      (value_named text May depth v p q x, call_named text May depth v p q x)

  -- a local's declaration is a statement
  locals_named : (ls : List LocalTree) → AllByRecursion LocalNamed ls →
      RowNamed (map (λ (l : LocalTree). assign (l.name ∷ []) None l.value) ls)
  unfolding LocalNamed
  locals_named [] all = tt
  locals_named (l ∷ ls) all =
      (record { parts = all.0.0; target = ((λ e. absurd cc), tt); call = all.0.1 }, locals_named ls all.1)

  body_stmts_named : (depth : ℕ) (ls : List LocalTree) (ss : List StmtTree) (a b : List Token) →
      IsBody text May depth ls ss a b →
      RowNamed (map (λ (l : LocalTree). assign (l.name ∷ []) None l.value) ls ++ ss)
  body_stmts_named depth _ _ a b (body {locals = ls} {stmts = ss} {a = p} {b = q} {c = r} x y) =
      subst (AllByRecursion StmtNamed)
      (sym (flat_map-append (λ s. s ∷ inner_stmts s)
      (map (λ (l : LocalTree). assign (l.name ∷ []) None l.value) ls) ss))
      (all_join StmtNamed (all_stmts (map (λ (l : LocalTree). assign (l.name ∷ []) None l.value) ls)) (all_stmts ss)
      (locals_named ls
      (each_all LocalNamed (IsLocal text May depth)
      (local_named depth) ls p q x)) (rows_named text May depth ss q r y))

  braced_named : (depth : ℕ) (b : BodyTree) (c d : List Token) → IsBraced text May depth b c d → BodyNamed b
  braced_named depth _ c d (braced {locals = ls} {stmts = ss} {b = p} {c = q} _ _ x _) =
      record { stmts = body_stmts_named (depth + 1) ls ss p q x; answer = tt }

  answer_named : (depth : ℕ) (o : Option ExprTree) (a b : List Token) → IsOptional (IsReturn text May depth) o a b →
      AllByRecursion HasNames (option_to_list o)
  answer_named depth _ a b optional_none = tt
  answer_named depth _ a b (optional_some {x = e} (return {b = p} {c = q} _ x _)) =
      (expr_named text May 0 depth e p q x, tt)

  answering_named : (depth : ℕ) (b : BodyTree) (c d : List Token) → IsAnswering text May depth b c d → BodyNamed b
  answering_named depth _ c d
      (answering {locals = ls} {stmts = ss} {answer = o} {b = p} {c = q} {d = r} _ _ x y _) = record {
        stmts = body_stmts_named (depth + 1) ls ss p q x;
        answer = answer_named (depth + 1) o q r y;
      }

  process_named : (depth : ℕ) (p : ProcessTree) (a b : List Token) → IsProcess text May depth p a b →
      BodyNamed p.body
  process_named depth _ a b (process_fair {body = bo} {c = p} {d = q} _ _ x) = braced_named depth bo p q x
  process_named depth _ a b (process_lazy {body = bo} {d = p} {e = q} _ _ _ x) = braced_named depth bo p q x

  task_of_named : (depth : ℕ) (Is : BodyTree → List Token → List Token → Type 0) →
      ((b : BodyTree) (c d : List Token) → Is b c d → BodyNamed b) → (kind : TaskKind) (k : TaskTree)
      (a b : List Token) → IsTaskOf text May depth Is kind k a b → BodyNamed k.body
  task_of_named depth Is each kind _ a b (task_of {body = bo} {c = p} {d = q} _ _ x) = each bo p q x

  task_named : (depth : ℕ) (k : TaskTree) (a b : List Token) → IsTask text May depth k a b → BodyNamed k.body
  task_named depth k a b (task_controllable {c = p} {d = q} _ _ x) =
      task_of_named depth (IsBraced text May depth) (braced_named depth) _ k p q x
  task_named depth k a b (task_uncontrollable {c = p} {d = q} _ _ x) =
      task_of_named depth (IsBraced text May depth) (braced_named depth) _ k p q x
  task_named depth k a b (procedure_typed {c = p} {d = q} _ _ x) =
      task_of_named depth (IsAnswering text May depth) (answering_named depth) _ k p q x
  task_named depth k a b (procedure_void {c = p} {d = q} _ _ x) =
      task_of_named depth (IsAnswering text May depth) (answering_named depth) _ k p q x

  goal_named : (depth : ℕ) (n : NamedTree) (a b : List Token) → IsNamed text May depth n a b → HasNames n.expr
  goal_named depth _ a b (named {e = e} {c = p} {d = q} _ _ x _) = expr_named text May 0 depth e p q x

  decl_named : (depth : ℕ) (d : DeclTree) (a b : List Token) → IsDecl text May depth d a b → DeclNamed d
  decl_named depth _ a b (decl_instance _) = tt
  decl_named depth _ a b (decl_variable _) = tt
  decl_named depth _ a b (decl_goal {d = n} {b = p} {c = q} _ x) = goal_named depth n p q x
  decl_named depth _ a b (decl_fair {d = n} {b = p} {c = q} _ x) = goal_named depth n p q x
  decl_named depth _ a b (decl_process {d = d} {a = p} {b = q} x) = process_named depth d p q x
  decl_named depth _ a b (decl_task {d = d} {a = p} {b = q} x) = task_named depth d p q x

  -- what passes through a filter keeps what held of it
  filtered : {A B : Type 0} (h : A → Option B) (Q : A → Type 0) (P : B → Type 0) →
      ((x : A) (y : B) → h x ≡ Some y → Q x → P y) → (xs : List A) → AllByRecursion Q xs →
      AllByRecursion P (filter_map h xs)
  filtered h Q P each [] all = tt
  filtered {A} {B} h Q P each (x ∷ xs) all = by (h x) refl (filtered h Q P each xs all.1)
    where
      by : (o : Option B) → h x ≡ o → AllByRecursion P (filter_map h xs) →
          AllByRecursion P (cons_option o (filter_map h xs))
      by None e rest = rest
      by (Some y) e rest = (each x y e all.0, rest)

  goal_kept : (d : DeclTree) (n : NamedTree) → goal_of d ≡ Some n → DeclNamed d → HasNames n.expr
  goal_kept (an_instance _) n e has = no_thing e
  goal_kept (a_variable _) n e has = no_thing e
  goal_kept (a_goal m) n e has = subst (λ (x : NamedTree). HasNames x.expr) (one_thing refl e) has
  goal_kept (a_fairness _) n e has = no_thing e
  goal_kept (a_process _) n e has = no_thing e
  goal_kept (a_task _) n e has = no_thing e

  fairness_kept : (d : DeclTree) (n : NamedTree) → fairness_of d ≡ Some n → DeclNamed d → HasNames n.expr
  fairness_kept (an_instance _) n e has = no_thing e
  fairness_kept (a_variable _) n e has = no_thing e
  fairness_kept (a_goal _) n e has = no_thing e
  fairness_kept (a_fairness m) n e has = subst (λ (x : NamedTree). HasNames x.expr) (one_thing refl e) has
  fairness_kept (a_process _) n e has = no_thing e
  fairness_kept (a_task _) n e has = no_thing e

  process_kept : (d : DeclTree) (p : ProcessTree) → process_of d ≡ Some p → DeclNamed d → BodyNamed p.body
  process_kept (an_instance _) n e has = no_thing e
  process_kept (a_variable _) n e has = no_thing e
  process_kept (a_goal _) n e has = no_thing e
  process_kept (a_fairness _) n e has = no_thing e
  process_kept (a_process p) n e has = subst (λ (x : ProcessTree). BodyNamed x.body) (one_thing refl e) has
  process_kept (a_task _) n e has = no_thing e

  task_kept : (d : DeclTree) (k : TaskTree) → task_in d ≡ Some k → DeclNamed d → BodyNamed k.body
  task_kept (an_instance _) n e has = no_thing e
  task_kept (a_variable _) n e has = no_thing e
  task_kept (a_goal _) n e has = no_thing e
  task_kept (a_fairness _) n e has = no_thing e
  task_kept (a_process _) n e has = no_thing e
  task_kept (a_task k) n e has = subst (λ (x : TaskTree). BodyNamed x.body) (one_thing refl e) has

  template_named : (depth : ℕ) (t : TemplateTree) (a b : List Token) → IsTemplate text May depth t a b →
      TemplateNamed t
  template_named depth _ a b (template {decls = ds} {d = p} {e = q} _ _ _ x _) =
      let all = each_all DeclNamed (IsDecl text May depth) (decl_named depth) ds p q x in
      record {
        goals = filtered goal_of DeclNamed (λ (n : NamedTree). HasNames n.expr) goal_kept ds all;
        fairs = filtered fairness_of DeclNamed (λ (n : NamedTree). HasNames n.expr) fairness_kept ds all;
        processes = filtered process_of DeclNamed (λ (p : ProcessTree). BodyNamed p.body) process_kept ds all;
        tasks = filtered task_in DeclNamed (λ (k : TaskTree). BodyNamed k.body) task_kept ds all;
      }

  item_named : (i : ItemTree) (a b : List Token) → IsItem text May 0 i a b → ItemNamed i
  item_named _ a b (item_enum _) = tt
  item_named _ a b (item_template {t = t} {a = p} {b = q} x) = template_named 0 t p q x

  template_kept : (i : ItemTree) (t : TemplateTree) → template_in i ≡ Some t → ItemNamed i → TemplateNamed t
  template_kept (an_enum _) t e has = no_thing e
  template_kept (a_template u) t e has = subst TemplateNamed (one_thing refl e) has

  -- the templates of a text
  pub spec_named : (s : SpecTree) (a b : List Token) → IsSpec text May s a b → AllByRecursion TemplateNamed s.templates
  spec_named _ a b (spec {items = is} {last = i} {a = p} {b = q} {c = r} x y) =
      filtered template_in ItemNamed TemplateNamed template_kept (is ++ i ∷ [])
      (all_join ItemNamed is (i ∷ []) (each_all ItemNamed (IsItem text May 0) item_named is p q x)
      (item_named i q r y, tt))

-- an argument is one of those that are written
of_args : (params : List Param) (es : List ExprTree) (a : Asked) → In a (asked_args params es) → In a.expr es
of_args params [] a i = elim i [ ]
of_args [] (e ∷ es) a i = by (is_first_or_later (asked_args [] es) i) (of_args [] es a)
  where
    by : (unasked e ≡ a) ⊎ In a (asked_args [] es) → (In a (asked_args [] es) → In a.expr es) → In a.expr (e ∷ es)
    by (inl same) deeper = subst (λ (x : Asked). In x.expr (e ∷ es)) same first_of
    by (inr j) deeper = later_of (deeper j)
of_args (p ∷ params) (e ∷ es) a i = by (is_first_or_later (asked_args params es) i) (of_args params es a)
  where
    by : (record { ty = Some (type_of p.ty); expr = e } ≡ a) ⊎ In a (asked_args params es) →
        (In a (asked_args params es) → In a.expr es) → In a.expr (e ∷ es)
    by (inl same) deeper = subst (λ (x : Asked). In x.expr (e ∷ es)) same first_of
    by (inr j) deeper = later_of (deeper j)

-- an expression of a statement is one of its parts
of_value : (c : Context) (ty : Option Ty) (v : ValueTree) (a : Asked) → In a (value_exprs c ty v) →
    In a.expr (value_parts v)
of_value c ty (star _) a i = elim i [ ]
of_value c ty (result path es) a i =
    of_args (option_map_or (λ (k : TemplateTree × TaskTree). k.1.params) (task_reached c.spec c.template path) [])
    es a i
of_value c ty (plain e) a i = by (is_first_or_later [] i)
  where
    by : (record { ty = ty; expr = e } ≡ a) ⊎ In a [] → In a.expr (e ∷ [])
    by (inl same) = subst (λ (x : Asked). In x.expr (e ∷ [])) same first_of
    by (inr j) = elim j [ ]

one_condition : (e : ExprTree) (a : Asked) → In a (condition e ∷ []) → In a.expr (e ∷ [])
one_condition e a i = by (is_first_or_later [] i)
  where
    by : (condition e ≡ a) ⊎ In a [] → In a.expr (e ∷ [])
    by (inl same) = subst (λ (x : Asked). In x.expr (e ∷ [])) same first_of
    by (inr j) = elim j [ ]

of_stmt : (c : Context) (s : StmtTree) (a : Asked) → In a (stmt_exprs c s) → In a.expr (stmt_parts s)
of_stmt c (assign names index v) a i =
    by (in_either (target_exprs names index) (value_exprs c (named_type c names) v) i)
  where
    target : (o : Option ExprTree) → In a (target_exprs names o) → In a.expr (map (element names) (option_to_list o))
    target None j = elim j [ ]
    target (Some e) j = of (is_first_or_later [] j)
      where
        of : {e : ExprTree} → (unasked (element names e) ≡ a) ⊎ In a [] → In a.expr (element names e ∷ [])
        of {e} (inl same) = subst (λ (x : Asked). In x.expr (element names e ∷ [])) same first_of
        of (inr k) = elim k [ ]

    by : In a (target_exprs names index) ⊎ In a (value_exprs c (named_type c names) v) →
        In a.expr (map (element names) (option_to_list index) ++ value_parts v)
    by (inl j) = in_front (map (element names) (option_to_list index)) (value_parts v) (target index j)
    by (inr j) =
        in_behind (map (element names) (option_to_list index)) (value_parts v) (of_value c (named_type c names) v a j)
of_stmt c (invoke path es) a i =
    of_args (option_map_or (λ (k : TemplateTree × TaskTree). k.1.params) (task_reached c.spec c.template path) [])
    es a i
of_stmt c (branch e _ _) a i = one_condition e a i
of_stmt c (repeat _ e _) a i = one_condition e a i
of_stmt c (forever _ _) a i = elim i [ ]
of_stmt c (choose _ _) a i = elim i [ ]
of_stmt c (assert _ e) a i = one_condition e a i
of_stmt c (assume _ e) a i = one_condition e a i
of_stmt c (pause _) a i = elim i [ ]
of_stmt c (wait _ e) a i = one_condition e a i
of_stmt c (magic _) a i = elim i [ ]

module _ (s : SpecTree) (all : AllByRecursion TemplateNamed s.templates) where
  body_named : (t : TemplateTree) → TemplateNamed t → (b : BodyAt) → In b (template_bodies s t) → BodyNamed b.body
  body_named t has b i =
      by (in_either (map (process_body_at s t) (enumerate_from 0 t.processes))
      (map (task_body_at s t) (enumerate_from 0 t.tasks)) i)
    where
      by : In b (map (process_body_at s t) (enumerate_from 0 t.processes))
          ⊎ In b (map (task_body_at s t) (enumerate_from 0 t.tasks)) → BodyNamed b.body
      by (inl j) =
          let p = of_map (process_body_at s t) (enumerate_from 0 t.processes) j in
          subst (λ (x : BodyAt). BodyNamed x.body) p.2
          (holds_in (λ (q : ProcessTree). BodyNamed q.body) t.processes has.processes
          (in_numbered 0 t.processes p.0 p.1))
      by (inr j) =
          let k = of_map (task_body_at s t) (enumerate_from 0 t.tasks) j in
          subst (λ (x : BodyAt). BodyNamed x.body) k.2
          (holds_in (λ (q : TaskTree). BodyNamed q.body) t.tasks has.tasks (in_numbered 0 t.tasks k.0 k.1))

  asked_named : (b : BodyAt) → BodyNamed b.body → (a : Asked) → In a (body_exprs b) → HasNames a.expr
  asked_named b has a i =
      by (in_either (flat_map (stmt_exprs b.context) (stmts_in b.body))
      (map (λ (e : ExprTree). record { ty = result_asked b.context.template b.context.body; expr = e })
      (option_to_list b.body.answer)) i)
    where
      by : In a (flat_map (stmt_exprs b.context) (stmts_in b.body))
          ⊎ In a (map (λ (e : ExprTree). record { ty = result_asked b.context.template b.context.body; expr = e })
          (option_to_list b.body.answer)) → HasNames a.expr
      by (inl j) =
          let x = of_flat (stmt_exprs b.context) (stmts_in b.body) j in
          holds_in HasNames (stmt_parts x.0) (holds_in StmtNamed (stmts_in b.body) has.stmts x.1).parts
          (of_stmt b.context x.0 a x.2)
      by (inr j) =
          let e = of_map (λ (e : ExprTree). record { ty = result_asked b.context.template b.context.body; expr = e })
          (option_to_list b.body.answer) j in
          subst (λ (x : Asked). HasNames x.expr) e.2
          (holds_in HasNames (option_to_list b.body.answer) has.answer e.1)

  -- the paths of all expressions of a text have names
  pub exprs_named : (e : ExprAt) → In e (exprs s) → HasNames e.asked.expr
  exprs_named e i =
      let t = of_flat (template_exprs s) s.templates i in
      by t.0 (holds_in TemplateNamed s.templates all t.1)
      (in_either
      (flat_map (λ (b : BodyAt). map (λ (a : Asked). record { context = b.context; asked = a }) (body_exprs b))
      (template_bodies s t.0))
      (map (λ (n : NamedTree). record {
        context = record { spec = s; template = t.0; body = outside };
        asked = condition n.expr;
      }) (t.0.goals ++ t.0.fairs)) t.2)
    where
      by : (t : TemplateTree) → TemplateNamed t →
          In e (flat_map (λ (b : BodyAt). map (λ (a : Asked). record { context = b.context; asked = a })
          (body_exprs b)) (template_bodies s t))
          ⊎ In e (map (λ (n : NamedTree). record {
            context = record { spec = s; template = t; body = outside };
            asked = condition n.expr;
          }) (t.goals ++ t.fairs)) → HasNames e.asked.expr
      by t has (inl j) =
          let b = of_flat (λ (b : BodyAt). map (λ (a : Asked). record { context = b.context; asked = a })
          (body_exprs b)) (template_bodies s t) j in
          let a = of_map (λ (a : Asked). record { context = b.0.context; asked = a }) (body_exprs b.0) b.2 in
          subst (λ (x : ExprAt). HasNames x.asked.expr) a.2
          (asked_named b.0 (body_named t has b.0 b.1) a.0 a.1)
      by t has (inr j) =
          let n = of_map (λ (n : NamedTree). record {
            context = record { spec = s; template = t; body = outside };
            asked = condition n.expr;
          }) (t.goals ++ t.fairs) j in
          subst (λ (x : ExprAt). HasNames x.asked.expr) n.2
          (holds_in (λ (m : NamedTree). HasNames m.expr) (t.goals ++ t.fairs)
          (all_join (λ (m : NamedTree). HasNames m.expr) t.goals t.fairs has.goals has.fairs) n.1)

  -- the targets and calls of all statements of a text have names
  pub stmts_named : (b : BodyAt) → In b (bodies s) → (x : StmtTree) → In x (stmts_in b.body) → StmtNamed x
  stmts_named b i x j =
      let t = of_flat (template_bodies s) s.templates i in
      holds_in StmtNamed (stmts_in b.body)
      (body_named t.0 (holds_in TemplateNamed s.templates all t.1) b t.2).stmts j
