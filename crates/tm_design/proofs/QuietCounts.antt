-- Of a body that does not pause no location is counted.
use Rattle.std.proofs.Common.{◌≡◌, ℕ, zero, suc, ◌≤◌, Bool, false, Option, None, Some, List, [], ◌∷◌, ◌++◌, find, map, position, slice_get, refl, sym, ap, ◌∙◌, arith, true≢false}
use Rattle.std.specs.Prelude.{sum_by}
use Rattle.std.proofs.lemmas.List.Sums.{sum_by-append, sum_by-cons}
use Rattle.std.specs.List.{list_any}
use Rattle.std.specs.Option.{option_map, option_map_or, option_and_then}
use Rattle.tm_syntax.specs.declared.tree.Ident.{Ident}
use Rattle.tm_syntax.specs.Tree.{ValueTree, star, result, plain, StmtTree, assign, invoke, branch, repeat, forever, choose, assert, assume, pause, wait, magic, StmtRow, nothing, then, BlockRow, nowhere, or_else, LocalTree, TaskTree, TemplateTree}
use Rattle.tm_syntax.specs.Scopes.Context.{Context, task_body}
use Rattle.tm_syntax.specs.Scopes.Calls.{callee}
use Rattle.tm_syntax.specs.Scopes.Names.{is_spelled, last_name, template_along}
use Rattle.tm_syntax.specs.Scopes.Parts.{BodyAt, inner_stmts, row_stmts, block_stmts, all_stmts, value_calls}
use Rattle.tm_syntax.specs.Scopes.Pauses.{value_pauses, stmt_pauses, row_pauses, block_pauses, body_pauses, task_reached}
use Rattle.tm_syntax.specs.Counts.Bodies.{weight_below}
use Rattle.tm_scope.proofs.Positions.{find-position}
use Rattle.tm_design.proofs.CountedLocations.{counted, of_location}
use Rattle.tm_locations.proofs.QuietBodies.{neither}

module _ (pauses : List Ident → Bool) (call : List Ident → ℕ)
    (quiet : (path : List Ident) → pauses path ≡ false → call path ≡ 0)
  where
    none-two : (ss ts : List StmtTree) → sum_by (counted call) ss ≡ 0 → sum_by (counted call) ts ≡ 0 →
        sum_by (counted call) (ss ++ ts) ≡ 0
    none-two ss ts first second = let many = sum_by-append (counted call) ss ts in omega (arith, first, second, many)

    pub value-none : (v : ValueTree) → value_pauses pauses v ≡ false → sum_by call (value_calls v) ≡ 0
    value-none (star _) e = refl
    value-none (result path _) e =
        let one = sum_by-cons call path [] in let none = quiet path e in omega (arith, one, none)
    value-none (plain _) e = refl

    mutual
      stmt-none : (s : StmtTree) → stmt_pauses pauses s ≡ false → sum_by (counted call) (s ∷ inner_stmts s) ≡ 0
      stmt-none (assign names i v) e =
          let one = sum_by-cons (counted call) (assign names i v) [] in
          let none = value-none v e in
          omega (arith, one, none)
      stmt-none (invoke path es) e =
          let one = sum_by-cons (counted call) (invoke path es) [] in
          let first = sum_by-cons call path [] in
          let none = quiet path e in
          omega (arith, one, first, none)
      stmt-none (branch c a b) e =
          let one = sum_by-cons (counted call) (branch c a b) (row_stmts a ++ row_stmts b) in
          let parts = neither (row_pauses pauses a) (row_pauses pauses b) e in
          let none = none-two (row_stmts a) (row_stmts b) (row-none a parts.0) (row-none b parts.1) in
          omega (arith, one, none)
      stmt-none (repeat at c body) e =
          let one = sum_by-cons (counted call) (repeat at c body) (row_stmts body) in
          let none = row-none body e in
          omega (arith, one, none)
      stmt-none (forever at body) e =
          let one = sum_by-cons (counted call) (forever at body) (row_stmts body) in
          let none = row-none body e in
          omega (arith, one, none)
      stmt-none (choose at blocks) e =
          let one = sum_by-cons (counted call) (choose at blocks) (block_stmts blocks) in
          let none = block-none blocks e in
          omega (arith, one, none)
      stmt-none (assert at c) e = let one = sum_by-cons (counted call) (assert at c) [] in omega (arith, one)
      stmt-none (assume at c) e = let one = sum_by-cons (counted call) (assume at c) [] in omega (arith, one)
      stmt-none (pause _) e = absurd (true≢false e)
      stmt-none (wait _ _) e = absurd (true≢false e)
      stmt-none (magic _) e = absurd (true≢false e)

      row-none : (r : StmtRow) → row_pauses pauses r ≡ false → sum_by (counted call) (row_stmts r) ≡ 0
      row-none nothing e = refl
      row-none (then first others) e =
          let parts = neither (stmt_pauses pauses first) (row_pauses pauses others) e in
          none-two (first ∷ inner_stmts first) (row_stmts others) (stmt-none first parts.0) (row-none others parts.1)

      block-none : (bs : BlockRow) → block_pauses pauses bs ≡ false → sum_by (counted call) (block_stmts bs) ≡ 0
      block-none nowhere e = refl
      block-none (or_else first others) e =
          let parts = neither (row_pauses pauses first) (block_pauses pauses others) e in
          none-two (row_stmts first) (block_stmts others) (row-none first parts.0) (block-none others parts.1)

    stmts-none : (ss : List StmtTree) → list_any (stmt_pauses pauses) ss ≡ false →
        sum_by (counted call) (all_stmts ss) ≡ 0
    stmts-none [] e = refl
    stmts-none (s ∷ ss) e =
        let parts = neither (stmt_pauses pauses s) (list_any (stmt_pauses pauses) ss) e in
        none-two (s ∷ inner_stmts s) (all_stmts ss) (stmt-none s parts.0) (stmts-none ss parts.1)

    pub body-none : (ls : List LocalTree) (ss : List StmtTree) →
        list_any (λ l. value_pauses pauses l.value) ls ≡ false → list_any (stmt_pauses pauses) ss ≡ false →
        sum_by (counted call) (all_stmts (map (λ l. assign (l.name ∷ []) None l.value) ls ++ ss)) ≡ 0
    body-none [] ss locals stmts = stmts-none ss stmts
    body-none (l ∷ ls) ss locals stmts =
        let parts = neither (value_pauses pauses l.value) (list_any (λ l. value_pauses pauses l.value) ls) locals in
        none-two (assign (l.name ∷ []) None l.value ∷ [])
        (all_stmts (map (λ l. assign (l.name ∷ []) None l.value) ls ++ ss))
        (stmt-none (assign (l.name ∷ []) None l.value) parts.0) (body-none ls ss parts.1 stmts)

-- the body of a task in the text
abbrev text_task : Context → TemplateTree → ℕ → TaskTree → BodyAt
text_task c t k task = record { context = record { spec = c.spec; template = t; body = task_body k }; body = task.body }

module _ (n m : ℕ) (deeper : (b : BodyAt) → body_pauses m b.context.spec b.context.template b.body ≡ false →
    weight_below of_location n b ≡ 0) (c : Context) (path : List Ident) where
  of_task : (t : TemplateTree) (k : ℕ) (o : Option TaskTree) →
      option_map_or (λ (p : TemplateTree × TaskTree). body_pauses m c.spec p.0 p.1.body)
      (option_map (λ task. (t, task)) o) false ≡ false →
      option_map_or (weight_below of_location n) (option_map (text_task c t k) o) 0 ≡ 0
  of_task t k None e = refl
  of_task t k (Some task) e = deeper (text_task c t k task) e

  of_number : (t : TemplateTree) (o : Option ℕ) →
      option_map_or (λ (p : TemplateTree × TaskTree). body_pauses m c.spec p.0 p.1.body)
      (option_map (λ task. (t, task)) (option_and_then (slice_get t.tasks) o)) false ≡ false →
      option_map_or (weight_below of_location n)
      (option_and_then (λ k. option_map (text_task c t k) (slice_get t.tasks k)) o) 0 ≡ 0
  of_number t None e = refl
  of_number t (Some k) e = of_task t k (slice_get t.tasks k) e

  of_template : (o : Option TemplateTree) →
      option_map_or (λ (p : TemplateTree × TaskTree). body_pauses m c.spec p.0 p.1.body)
      (option_and_then (λ (t : TemplateTree). option_map (λ task. (t, task))
      (find (λ (task : TaskTree). is_spelled (last_name path) task.name) t.tasks)) o) false ≡ false →
      option_map_or (weight_below of_location n) (option_and_then (λ (t : TemplateTree). option_and_then
      (λ k. option_map (text_task c t k) (slice_get t.tasks k))
      (position (λ (task : TaskTree). is_spelled (last_name path) task.name) t.tasks)) o) 0 ≡ 0
  of_template None e = refl
  of_template (Some t) e =
      of_number t (position (λ (task : TaskTree). is_spelled (last_name path) task.name) t.tasks)
      (ap (λ o. option_map_or (λ (p : TemplateTree × TaskTree). body_pauses m c.spec p.0 p.1.body)
      (option_map (λ task. (t, task)) o) false)
      (sym (find-position (λ (task : TaskTree). is_spelled (last_name path) task.name) t.tasks)) ∙ e)

  -- a call that does not pause counts no location
  pub call-none : option_map_or (λ (p : TemplateTree × TaskTree). body_pauses m c.spec p.0 p.1.body)
      (task_reached c.spec c.template path) false ≡ false →
      option_map_or (weight_below of_location n) (callee c path) 0 ≡ 0
  call-none e = of_template (template_along c.spec c.template path) e

pub quiet-count : (n m : ℕ) → n ≤ m → (b : BodyAt) →
    body_pauses m b.context.spec b.context.template b.body ≡ false → weight_below of_location n b ≡ 0
quiet-count zero m deep b e = refl
quiet-count (suc n) zero deep b e = absurd (omega (arith, deep))
quiet-count (suc n) (suc m) deep b e =
    let pauses : List Ident → Bool = λ path. option_map_or (λ (p : TemplateTree × TaskTree).
    body_pauses m b.context.spec p.0 p.1.body) (task_reached b.context.spec b.context.template path) false in
    let parts = neither (list_any (λ (l : LocalTree). value_pauses pauses l.value) b.body.locals)
    (list_any (stmt_pauses pauses) b.body.stmts) e in
    body-none pauses (λ path. option_map_or (weight_below of_location n) (callee b.context path) 0)
    (λ path. call-none n m (quiet-count n m (omega (arith, deep))) b.context path)
    b.body.locals b.body.stmts parts.0 parts.1
