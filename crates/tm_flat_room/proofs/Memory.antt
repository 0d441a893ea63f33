-- A list in memory is so short that 64 bits can number its items: of a design in memory, its choices and its enums.
use Rattle.std.proofs.Common.{◌≡◌, ℕ, suc, ◌≤◌, ◌^◌, Option, None, Some, List, [], ◌∷◌, ◌++◌, map, length, refl, sym, ap, subst, arith}
use Rattle.std.specs.List.{AllByRecursion, find}
use Rattle.std.specs.Option.{option_map_or}
use Rattle.std.specs.declared.vec.Vec.{Vec}
use Rattle.std.specs.declared.alloc.Global.{Global}
use Rattle.tm_syntax.specs.declared.design.Design.{Design}
use Rattle.tm_syntax.specs.declared.design.Ty.TheVariants as types
use Rattle.tm_syntax.specs.declared.tree.Body.{Body}
use Rattle.tm_syntax.specs.declared.tree.ProcessDef.{ProcessDef}
use Rattle.tm_syntax.specs.declared.tree.Stmt.{Stmt, Stmt-F, map-Stmt, roll-Stmt}
use Rattle.tm_syntax.specs.declared.tree.Stmt.TheOpen as open_stmt
use Rattle.tm_syntax.specs.declared.tree.Stmt.TheFolds.{ind-Stmt, fold-roll-Stmt}
use Rattle.tm_syntax.specs.declared.tree.TaskDef.{TaskDef}
use Rattle.tm_syntax.specs.declared.tree.Template.{Template}
use Rattle.tm_syntax.specs.Tree.{StmtTree, assign, choose, blocks_of, row_of, alternatives_of, BodyTree, EnumTree, LocalTree, ProcessTree, TaskTree, TemplateTree}
use Rattle.tm_syntax.specs.Tree.View.{body_tree, enum_tree, local_tree, process_tree, stmt_step, stmt_tree, stmt_trees, task_tree, template_tree}
use Rattle.tm_syntax.specs.Scopes.Names.{is_spelled}
use Rattle.tm_syntax.specs.Scopes.Parts.{BodyAt, all_stmts, block_stmts, bodies, inner_stmts, row_stmts, stmts_in}
use Rattle.tm_syntax.specs.Design.Sizes.{type_size}
use Rattle.tm_syntax.specs.Design.View.{design_tree}
use Rattle.tm_typing.proofs.Listed.{all_join, of_find, of_map}
use Rattle.tm_flat_room.proofs.Chosen.{in_bodies}

short : {A : Type 0} (v : Vec A Global) → length v.items ≤ 2 ^ 64
short v = let ok = v.ok in let small = v.small in omega (arith, ok.0, ok.1, small)

-- a choice has at most so many alternatives
abbrev pub HasFew : StmtTree → Type 0
HasFew (choose _ blocks) = length (blocks_of blocks) ≤ 2 ^ 64
HasFew _ = Unit {0}

abbrev AreFew : StmtTree → Type 0
AreFew t = AllByRecursion HasFew (t ∷ inner_stmts t)

module _ {A : Type 0} (f : A → Stmt) (each : (a : A) → AreFew (stmt_tree (f a))) where
  row_few : (xs : List A) → AllByRecursion HasFew (row_stmts (row_of (map stmt_tree (map f xs))))
  row_few [] = tt
  row_few (x ∷ xs) =
      all_join HasFew (stmt_tree (f x) ∷ inner_stmts (stmt_tree (f x))) (row_stmts (row_of (map stmt_tree (map f xs))))
      (each x) (row_few xs)

  blocks_few : (h : Vec Stmt Global → Vec StmtTree Global) (k : Vec A Global → Vec Stmt Global) →
      ((b : Vec A Global) → (h (k b)).items ≡ map stmt_tree (map f b.items)) → (bs : List (Vec A Global)) →
      AllByRecursion HasFew
      (block_stmts (alternatives_of (map (λ (b : Vec StmtTree Global). row_of b.items) (map h (map k bs)))))
  blocks_few h k same [] = tt
  blocks_few h k same (b ∷ bs) =
      all_join HasFew (row_stmts (row_of (h (k b)).items))
      (block_stmts (alternatives_of (map (λ (b : Vec StmtTree Global). row_of b.items) (map h (map k bs)))))
      (subst (λ (xs : List StmtTree). AllByRecursion HasFew (row_stmts (row_of xs))) (sym (same b)) (row_few b.items))
      (blocks_few h k same bs)

  count : (h : Vec Stmt Global → Vec StmtTree Global) (k : Vec A Global → Vec Stmt Global) →
      (bs : List (Vec A Global)) →
      length (blocks_of (alternatives_of (map (λ (b : Vec StmtTree Global). row_of b.items) (map h (map k bs)))))
      ≡ length bs
  count h k [] = refl
  count h k (b ∷ bs) = ap suc (count h k bs)

  -- one layer of a statement
  layer_few : (y : Stmt-F A) → AreFew (stmt_step (map-Stmt Stmt StmtTree stmt_tree (map-Stmt A Stmt f y)))
  layer_few (open_stmt.Assign p i v) = (tt, tt)
  layer_few (open_stmt.Call p args) = (tt, tt)
  layer_few (open_stmt.If e a b) = (
    tt,
    all_join HasFew (row_stmts (row_of (map stmt_tree (map f a.items))))
        (row_stmts (row_of (map stmt_tree (map f b.items)))) (row_few a.items) (row_few b.items),
  )
  layer_few (open_stmt.While at e a) = (tt, row_few a.items)
  layer_few (open_stmt.Forever at a) = (tt, row_few a.items)
  layer_few (open_stmt.Choice at a) =
      (subst (λ n. n ≤ 2 ^ 64) (sym (count _ _ a.items)) (short a), blocks_few _ _ (λ b. refl) a.items)
  layer_few (open_stmt.Assert at e) = (tt, tt)
  layer_few (open_stmt.Assume at e) = (tt, tt)
  layer_few (open_stmt.Pause at) = (tt, tt)
  layer_few (open_stmt.Wait at e) = (tt, tt)
  layer_few (open_stmt.Magic at) = (tt, tt)

stmt_few : (s : Stmt) → AreFew (stmt_tree s)
stmt_few = ind-Stmt (λ s. AreFew (stmt_tree s)) (λ x y is.
    subst (λ z. AreFew (stmt_tree (roll-Stmt z))) is
    (subst AreFew (sym (fold-roll-Stmt StmtTree stmt_step _)) (layer_few (λ e. e.0) (λ e. e.1) y)))

abbrev BodyIsFew : BodyTree → Type 0
BodyIsFew b = AllByRecursion HasFew (stmts_in b)

list_few : (ss : List Stmt) → AllByRecursion HasFew (all_stmts (stmt_trees ss))
list_few [] = tt
list_few (s ∷ ss) =
    all_join HasFew (stmt_tree s ∷ inner_stmts (stmt_tree s)) (all_stmts (stmt_trees ss)) (stmt_few s) (list_few ss)

with_locals : (ls : List LocalTree) (ss : List StmtTree) → AllByRecursion HasFew (all_stmts ss) →
    AllByRecursion HasFew (all_stmts (map (λ (l : LocalTree). assign (l.name ∷ []) None l.value) ls ++ ss))
with_locals [] ss few = few
with_locals (l ∷ ls) ss few = (tt, with_locals ls ss few)

body_few : (b : Body) → BodyIsFew (body_tree b)
body_few b = with_locals (map local_tree b.locals.items) (stmt_trees b.stmts.items) (list_few b.stmts.items)

processes_few : (ps : List ProcessDef) → AllByRecursion (λ (p : ProcessTree). BodyIsFew p.body) (map process_tree ps)
processes_few [] = tt
processes_few (p ∷ ps) = (body_few p.body, processes_few ps)

tasks_few : (ks : List TaskDef) → AllByRecursion (λ (k : TaskTree). BodyIsFew k.body) (map task_tree ks)
tasks_few [] = tt
tasks_few (k ∷ ks) = (body_few k.body, tasks_few ks)

templates_few : (ts : List Template) →
    AllByRecursion (λ (t : TemplateTree). AllByRecursion (λ (p : ProcessTree). BodyIsFew p.body) t.processes
    × AllByRecursion (λ (k : TaskTree). BodyIsFew k.body) t.tasks) (map template_tree ts)
templates_few [] = tt
templates_few (t ∷ ts) = ((processes_few t.processes.items, tasks_few t.tasks.items), templates_few ts)

-- each choice of a design in memory has at most so many alternatives
pub few : (d : Design) → AllByRecursion (λ (b : BodyAt). BodyIsFew b.body) (bodies (design_tree d).spec)
few d =
    in_bodies BodyIsFew (design_tree d).spec (design_tree d).spec.templates (templates_few d.spec.templates.items)

-- each of its enums has at most so many constants
pub enums_short : (d : Design) (name : List ℕ) → type_size (design_tree d).spec (types.Enum name) ≤ 2 ^ 64
enums_short d name =
    by (find (λ (e : EnumTree). is_spelled name e.name) (map enum_tree d.spec.enums.items)) refl
  where
    by : (o : Option EnumTree) →
        find (λ (e : EnumTree). is_spelled name e.name) (map enum_tree d.spec.enums.items) ≡ o →
        option_map_or (λ (e : EnumTree). length e.constants) o 0 ≤ 2 ^ 64
    by None is = omega arith
    by (Some e) is =
        let from = of_map enum_tree d.spec.enums.items
        (of_find (λ (e : EnumTree). is_spelled name e.name) (map enum_tree d.spec.enums.items) is).0 in
        subst (λ (e : EnumTree). length e.constants ≤ 2 ^ 64) from.2 (short from.0.constants)
