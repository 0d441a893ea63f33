-- Each choice of a text has an alternative: by the grammar, each form at a time.
use Rattle.std.proofs.Common.{ℕ, ◌+◌, ◌≤◌, Option, None, List, [], ◌∷◌, ◌++◌, map, length, sym, subst, arith}
use Rattle.std.specs.Prelude.{IfSome}
use Rattle.std.specs.List.{AllByRecursion, enumerate_from, flat_map}
use Rattle.tm_syntax.specs.declared.token.Token.{Token}
use Rattle.tm_syntax.specs.declared.tree.TaskKind.{TaskKind}
use Rattle.tm_syntax.specs.Tree.{ExprTree, StmtTree, assign, choose, StmtRow, row_of, blocks_of, alternatives_of, LocalTree, BodyTree, ProcessTree, TaskTree, TemplateTree, SpecTree}
use Rattle.tm_syntax.specs.Scopes.Parts.{inner_stmts, row_stmts, block_stmts, all_stmts, stmts_in, BodyAt, bodies, template_bodies, process_body_at, task_body_at}
use Rattle.tm_syntax.specs.Grammar.Parts.{AreEach, each_none, each_more}
use Rattle.tm_syntax.specs.Grammar.Statements.{IsStmt, stmt_assign, stmt_call, stmt_if, stmt_while, stmt_forever, stmt_choice, stmt_assert, stmt_assume, stmt_pause, stmt_wait, stmt_magic, IsIf, if_alone, if_else, if_else_if, IsBlock, block, AreStmts, stmts_none, stmts_more, AreAlternatives, alternatives_one, alternatives_more, IsBody, body, IsBraced, braced, IsAnswering, answering}
use Rattle.tm_syntax.specs.Grammar.Declarations.{IsProcess, process_fair, process_lazy, IsTaskOf, task_of, IsTask, task_controllable, task_uncontrollable, procedure_typed, procedure_void}
use Rattle.tm_syntax.specs.Grammar.Specification.{DeclTree, process_of, task_of as task_in, IsDecl, decl_instance, decl_variable, decl_goal, decl_fair, decl_process, decl_task, IsTemplate, template, ItemTree, template_in, IsItem, item_enum, item_template, IsSpec, spec}
use Rattle.tm_syntax.specs.Grammar.Faults.{IsWithin}
use Rattle.tm_syntax.specs.Faults.{IsOfText}
use Rattle.tm_typing.proofs.Fitting.{all_of_both}
use Rattle.tm_typing.proofs.Listed.{all_join, filter_map_holds, holds_in}
use Rattle.tm_flat_room.proofs.Plain.{row_is}

-- a choice has an alternative
abbrev pub HasOne : StmtTree → Type 0
HasOne (choose _ blocks) = 1 ≤ length (blocks_of blocks)
HasOne _ = Unit {0}

abbrev pub HaveOne : List StmtTree → Type 0
HaveOne ss = AllByRecursion HasOne ss

in_row : (ss : List StmtTree) → HaveOne (all_stmts ss) → HaveOne (row_stmts (row_of ss))
in_row ss all = subst HaveOne (sym (row_is ss)) all

in_flat : (ss ts : List StmtTree) → HaveOne (all_stmts ss) → HaveOne (all_stmts ts) → HaveOne (all_stmts (ss ++ ts))
in_flat [] ts a b = b
in_flat (s ∷ ss) ts a b =
    let front = all_of_both HasOne (s ∷ inner_stmts s) (all_stmts ss) a in
    all_join HasOne (s ∷ inner_stmts s) (all_stmts (ss ++ ts)) front.0 (in_flat ss ts front.1 b)

in_blocks : (rows : List StmtRow) → AllByRecursion (λ r. HaveOne (row_stmts r)) rows →
    HaveOne (block_stmts (alternatives_of rows))
in_blocks [] all = tt
in_blocks (r ∷ rows) all =
    all_join HasOne (row_stmts r) (block_stmts (alternatives_of rows)) all.0 (in_blocks rows all.1)

in_locals : (ls : List LocalTree) →
    HaveOne (all_stmts (map (λ (l : LocalTree). assign (l.name ∷ []) None l.value) ls))
in_locals [] = tt
in_locals (l ∷ ls) = (tt, in_locals ls)

some_alternative : (rows : List StmtRow) (r : StmtRow) →
    1 ≤ length (blocks_of (alternatives_of (rows ++ r ∷ [])))
some_alternative [] r = omega arith
some_alternative (x ∷ rows) r = omega arith

-- of a process or a task
abbrev BodyHas : BodyTree → Type 0
BodyHas b = HaveOne (stmts_in b)

-- of a template
record TemplateHas (t : TemplateTree) : Type 0 where
  processes : AllByRecursion (λ (p : ProcessTree). BodyHas p.body) t.processes
  tasks : AllByRecursion (λ (k : TaskTree). BodyHas k.body) t.tasks

-- of a declaration
record DeclHas (d : DeclTree) : Type 0 where
  processes : IfSome (process_of d) (λ (p : ProcessTree). BodyHas p.body)
  tasks : IfSome (task_in d) (λ (k : TaskTree). BodyHas k.body)

module _ (text : List ℕ) (May : List Token → ℕ → Type 0) where
  mutual
    of_stmt : {depth : ℕ} {t : StmtTree} {a b : List Token} → IsStmt text May depth t a b →
        HaveOne (t ∷ inner_stmts t)
    of_stmt (stmt_assign p sign v end) = (tt, tt)
    of_stmt (stmt_call p es end) = (tt, tt)
    of_stmt (stmt_if x) = of_if x
    of_stmt (stmt_while {body = ts} word c x) = (tt, in_row ts (of_block x))
    of_stmt (stmt_forever {body = ts} word x) = (tt, in_row ts (of_block x))
    of_stmt (stmt_choice {blocks = rows} {last = ts} word xs sep x) = (
      some_alternative rows (row_of ts),
      in_blocks (rows ++ row_of ts ∷ [])
          (all_join (λ r. HaveOne (row_stmts r)) rows (row_of ts ∷ []) (of_alternatives xs)
          (in_row ts (of_block x), tt)),
    )
    of_stmt (stmt_assert word c end) = (tt, tt)
    of_stmt (stmt_assume word c end) = (tt, tt)
    of_stmt (stmt_pause word end) = (tt, tt)
    of_stmt (stmt_wait word c end) = (tt, tt)
    of_stmt (stmt_magic sign end) = (tt, tt)

    of_if : {depth : ℕ} {t : StmtTree} {a b : List Token} → IsIf text May depth t a b → HaveOne (t ∷ inner_stmts t)
    of_if (if_alone {yes_block = ts} word c x) =
        (tt, all_join HasOne (row_stmts (row_of ts)) [] (in_row ts (of_block x)) tt)
    of_if (if_else {yes_block = ts} {no_block = us} word c x other y) = (
      tt,
      all_join HasOne (row_stmts (row_of ts)) (row_stmts (row_of us)) (in_row ts (of_block x)) (in_row us (of_block y)),
    )
    of_if (if_else_if {yes_block = ts} {s = t} word c x other _ y) = (
      tt,
      all_join HasOne (row_stmts (row_of ts)) ((t ∷ inner_stmts t) ++ []) (in_row ts (of_block x))
          (all_join HasOne (t ∷ inner_stmts t) [] (of_if y) tt),
    )

    of_block : {depth : ℕ} {ts : List StmtTree} {a b : List Token} → IsBlock text May depth ts a b →
        HaveOne (all_stmts ts)
    of_block (block left _ xs right) = of_stmts xs

    of_stmts : {depth : ℕ} {ts : List StmtTree} {a b : List Token} → AreStmts text May depth ts a b →
        HaveOne (all_stmts ts)
    of_stmts stmts_none = tt
    of_stmts (stmts_more {ss = ss} {s = t} xs x) =
        in_flat ss (t ∷ []) (of_stmts xs) (all_join HasOne (t ∷ inner_stmts t) [] (of_stmt x) tt)

    of_alternatives : {depth : ℕ} {bs : List StmtRow} {a b : List Token} → AreAlternatives text May depth bs a b →
        AllByRecursion (λ r. HaveOne (row_stmts r)) bs
    of_alternatives (alternatives_one {body = ts} x) = (in_row ts (of_block x), tt)
    of_alternatives (alternatives_more {blocks = rows} {body = ts} xs sep x) =
        all_join (λ r. HaveOne (row_stmts r)) rows (row_of ts ∷ []) (of_alternatives xs) (in_row ts (of_block x), tt)

  of_body : (depth : ℕ) (ls : List LocalTree) (ts : List StmtTree) (answer : Option ExprTree) (a b : List Token) →
      IsBody text May depth ls ts a b → BodyHas (record { locals = ls; stmts = ts; answer = answer })
  of_body depth _ _ answer a b (body {locals = ls} {stmts = ts} xs ys) =
      in_flat (map (λ (l : LocalTree). assign (l.name ∷ []) None l.value) ls) ts (in_locals ls) (of_stmts ys)

  of_braced : (depth : ℕ) (x : BodyTree) (a b : List Token) → IsBraced text May depth x a b → BodyHas x
  of_braced depth _ a b (braced {locals = ls} {stmts = ts} {b = p} {c = q} left _ h right) =
      of_body (depth + 1) ls ts None p q h

  of_answering : (depth : ℕ) (x : BodyTree) (a b : List Token) → IsAnswering text May depth x a b → BodyHas x
  of_answering depth _ a b (answering {locals = ls} {stmts = ts} {answer = o} {b = p} {c = q} left _ h answer right) =
      of_body (depth + 1) ls ts o p q h

  of_process : (depth : ℕ) (x : ProcessTree) (a b : List Token) → IsProcess text May depth x a b → BodyHas x.body
  of_process depth _ a b (process_fair {body = bo} {c = q} {d = r} word n h) = of_braced depth bo q r h
  of_process depth _ a b (process_lazy {body = bo} {d = q} {e = r} lazy word n h) = of_braced depth bo q r h

  of_task_of : (depth : ℕ) (Is : BodyTree → List Token → List Token → Type 0) →
      ((x : BodyTree) (a b : List Token) → Is x a b → BodyHas x) → (kind : TaskKind) (k : TaskTree)
      (a b : List Token) → IsTaskOf text May depth Is kind k a b → BodyHas k.body
  of_task_of depth Is each kind _ a b (task_of {body = bo} {c = r} {d = u} n xs h) = each bo r u h

  of_task : (depth : ℕ) (k : TaskTree) (a b : List Token) → IsTask text May depth k a b → BodyHas k.body
  of_task depth k a b (task_controllable {c = p} {d = q} word sort h) =
      of_task_of depth (IsBraced text May depth) (of_braced depth) _ k p q h
  of_task depth k a b (task_uncontrollable {c = p} {d = q} word sort h) =
      of_task_of depth (IsBraced text May depth) (of_braced depth) _ k p q h
  of_task depth k a b (procedure_typed {c = p} {d = q} word ty h) =
      of_task_of depth (IsAnswering text May depth) (of_answering depth) _ k p q h
  of_task depth k a b (procedure_void {c = p} {d = q} word sort h) =
      of_task_of depth (IsAnswering text May depth) (of_answering depth) _ k p q h

  of_decl : (depth : ℕ) (d : DeclTree) (a b : List Token) → IsDecl text May depth d a b → DeclHas d
  of_decl depth _ a b (decl_instance h) = record { processes = tt; tasks = tt }
  of_decl depth _ a b (decl_variable h) = record { processes = tt; tasks = tt }
  of_decl depth _ a b (decl_goal word h) = record { processes = tt; tasks = tt }
  of_decl depth _ a b (decl_fair word h) = record { processes = tt; tasks = tt }
  of_decl depth _ a b (decl_process {d = x} {a = p} {b = q} h) =
      record { processes = of_process depth x p q h; tasks = tt }
  of_decl depth _ a b (decl_task {d = k} {a = p} {b = q} h) =
      record { processes = tt; tasks = of_task depth k p q h }

  each_has : {X : Type 0} (P : X → Type 0) (Is : X → List Token → List Token → Type 0) →
      ((x : X) (a b : List Token) → Is x a b → P x) → (xs : List X) (a b : List Token) → AreEach Is xs a b →
      AllByRecursion P xs
  each_has P Is each _ a b each_none = tt
  each_has P Is each _ a b (each_more {xs = xs} {x = x} {a = p} {b = q} {c = r} more one) =
      all_join P xs (x ∷ []) (each_has P Is each xs p q more) (each x q r one, tt)

  of_template : (depth : ℕ) (t : TemplateTree) (a b : List Token) → IsTemplate text May depth t a b → TemplateHas t
  of_template depth _ a b (template {decls = ds} {d = r} {e = u} word n xs ys end) =
      let all = each_has DeclHas (IsDecl text May depth) (of_decl depth) ds r u ys in
      record {
        processes = filter_map_holds (λ (p : ProcessTree). BodyHas p.body) process_of ds
            (λ d i. (holds_in DeclHas ds all i).processes);
        tasks = filter_map_holds (λ (k : TaskTree). BodyHas k.body) task_in ds
            (λ d i. (holds_in DeclHas ds all i).tasks);
      }

  of_item : (i : ItemTree) (a b : List Token) → IsItem text May 0 i a b → IfSome (template_in i) TemplateHas
  of_item _ a b (item_enum h) = tt
  of_item _ a b (item_template {t = t} {a = p} {b = q} h) = of_template 0 t p q h

  of_spec : (x : SpecTree) (a b : List Token) → IsSpec text May x a b → AllByRecursion TemplateHas x.templates
  of_spec _ a b (spec {items = is} {last = i} {a = p} {b = q} {c = r} xs x) =
      let all = all_join (λ i. IfSome (template_in i) TemplateHas) is (i ∷ [])
      (each_has (λ i. IfSome (template_in i) TemplateHas) (IsItem text May 0) of_item is p q xs)
      (of_item i q r x, tt) in
      filter_map_holds TemplateHas template_in (is ++ i ∷ [])
      (λ y j. holds_in (λ i. IfSome (template_in i) TemplateHas) (is ++ i ∷ []) all j)

-- what the bodies of templates have, the bodies of a text have
module _ (P : BodyTree → Type 0) where
  in_processes : (x : SpecTree) (t : TemplateTree) (n : ℕ) (ps : List ProcessTree) →
      AllByRecursion (λ (p : ProcessTree). P p.body) ps →
      AllByRecursion (λ (b : BodyAt). P b.body) (map (process_body_at x t) (enumerate_from n ps))
  in_processes x t n [] all = tt
  in_processes x t n (p ∷ ps) all = (all.0, in_processes x t (n + 1) ps all.1)

  in_tasks : (x : SpecTree) (t : TemplateTree) (n : ℕ) (ks : List TaskTree) →
      AllByRecursion (λ (k : TaskTree). P k.body) ks →
      AllByRecursion (λ (b : BodyAt). P b.body) (map (task_body_at x t) (enumerate_from n ks))
  in_tasks x t n [] all = tt
  in_tasks x t n (k ∷ ks) all = (all.0, in_tasks x t (n + 1) ks all.1)

  pub in_bodies : (x : SpecTree) (ts : List TemplateTree) →
      AllByRecursion (λ (t : TemplateTree). AllByRecursion (λ (p : ProcessTree). P p.body) t.processes
      × AllByRecursion (λ (k : TaskTree). P k.body) t.tasks) ts →
      AllByRecursion (λ (b : BodyAt). P b.body) (flat_map (template_bodies x) ts)
  in_bodies x [] all = tt
  in_bodies x (t ∷ ts) all =
      all_join (λ (b : BodyAt). P b.body) (template_bodies x t) (flat_map (template_bodies x) ts)
      (all_join (λ (b : BodyAt). P b.body) (map (process_body_at x t) (enumerate_from 0 t.processes))
      (map (task_body_at x t) (enumerate_from 0 t.tasks)) (in_processes x t 0 t.processes all.0.0)
      (in_tasks x t 0 t.tasks all.0.1))
      (in_bodies x ts all.1)

each_template : (ts : List TemplateTree) → AllByRecursion TemplateHas ts →
    AllByRecursion (λ (t : TemplateTree). AllByRecursion (λ (p : ProcessTree). BodyHas p.body) t.processes
    × AllByRecursion (λ (k : TaskTree). BodyHas k.body) t.tasks) ts
each_template [] all = tt
each_template (t ∷ ts) all = ((all.0.processes, all.0.tasks), each_template ts all.1)

-- each choice of a text has an alternative
pub chosen : (x : SpecTree) → IsOfText x → AllByRecursion (λ (b : BodyAt). HaveOne (stmts_in b.body)) (bodies x)
chosen x of =
    in_bodies BodyHas x x.templates
    (each_template x.templates (of_spec of.text (IsWithin 0) x of.tokens [] of.is_tree))
