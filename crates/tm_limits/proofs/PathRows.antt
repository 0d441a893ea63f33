-- The paths of rows of statements, from their ends; and which calls they depend on.
use Rattle.std.proofs.Common.{◌≡◌, ℕ, suc, ◌+◌, ◌-◌, ◌<◌, None, List, [], ◌∷◌, ◌++◌, length, map, drop, get_or, refl, sym, ap, ◌∙◌, subst, arith}
use Rattle.std.specs.Prelude.{Contains}
use Rattle.std.specs.List.{flat_map}
use Rattle.std.specs.Option.{option_map_or}
use Rattle.std.specs.declared.alloc.Global.{Global}
use Rattle.std.specs.declared.vec.Vec.{Vec}
use Rattle.std.proofs.lemmas.List.{at_drop_more}
use Rattle.std.proofs.lemmas.List.Concat.{flat_map-append}
use Rattle.tm_syntax.specs.declared.tree.Ident.{Ident}
use Rattle.tm_syntax.specs.declared.tree.LocalDef.{LocalDef}
use Rattle.tm_syntax.specs.declared.tree.Stmt.{Stmt}
use Rattle.tm_syntax.specs.Tree.{star, result, plain, StmtTree, assign, invoke, branch, repeat, forever, choose, assert, assume, pause, wait, magic, StmtRow, nothing, then, BlockRow, nowhere, or_else, row_of, blocks_of, alternatives_of, LocalTree, BodyTree}
use Rattle.tm_syntax.specs.Tree.View.{local_tree, stmt_tree, stmt_trees, value_tree}
use Rattle.tm_syntax.specs.Design.Sizes.{bits_of_number}
use Rattle.tm_syntax.specs.Scopes.Calls.{body_calls, callee}
use Rattle.tm_syntax.specs.Scopes.Context.{Context}
use Rattle.tm_syntax.specs.Scopes.Parts.{BodyAt, body_stmts, value_calls}
use Rattle.tm_syntax.specs.Counts.Choices as sums
use Rattle.tm_syntax.specs.Counts.Choices.{again, body_paths, block_paths, choosing, either_part, in_row, leavable, row_paths, stmt_paths}
use Rattle.tm_scope.specs.Inner.Calls.{block_calls, row_calls, stmt_calls}
use Rattle.tm_scope.proofs.BodyCalls.{body_calls-parts}
use Rattle.tm_limits.specs.declared.paths.Paths.{Paths}
use Rattle.tm_limits.specs.Inner.PathSums.{AreBest}
use Rattle.tm_limits.proofs.WeightSums.{contains_left, contains_right}

-- ---- which calls paths depend on

module _ (f g : List Ident → sums.Paths) (c : Context) where
  -- the paths of these calls are the same
  abbrev pub SameOn : List (List Ident) → Type 0
  SameOn paths = (path : List Ident) → Contains paths path → f path ≡ g path

  on_left : (xs ys : List (List Ident)) → SameOn (xs ++ ys) → SameOn xs
  on_left xs ys h p among = h p (contains_left xs ys p among)

  on_right : (xs ys : List (List Ident)) → SameOn (xs ++ ys) → SameOn ys
  on_right xs ys h p among = h p (contains_right xs ys p among)

  mutual
    pub stmt-same : (s : StmtTree) → SameOn (stmt_calls s) → stmt_paths f c s ≡ stmt_paths g c s
    stmt-same (assign _ _ (star _)) h = refl
    stmt-same (assign _ _ (result path _)) h = h path (0, (omega arith), refl)
    stmt-same (assign _ _ (plain _)) h = refl
    stmt-same (invoke path _) h = h path (0, (omega arith), refl)
    stmt-same (branch _ a b) h = λ i.
        either_part (row-same a (on_left (row_calls a) (row_calls b) h) i)
        (row-same b (on_right (row_calls a) (row_calls b) h) i)
    stmt-same (repeat _ _ body) h = ap leavable (row-same body h)
    stmt-same (forever _ body) h = ap again (row-same body h)
    stmt-same (choose _ blocks) h =
        ap (in_row (choosing (bits_of_number (length (blocks_of blocks) - 1)))) (block-same blocks h)
    stmt-same (assert _ _) h = refl
    stmt-same (assume _ _) h = refl
    stmt-same (pause _) h = refl
    stmt-same (wait _ _) h = refl
    stmt-same (magic _) h = refl

    pub row-same : (r : StmtRow) → SameOn (row_calls r) → row_paths f c r ≡ row_paths g c r
    row-same nothing h = refl
    row-same (then first others) h = λ i.
        in_row (stmt-same first (on_left (stmt_calls first) (row_calls others) h) i)
        (row-same others (on_right (stmt_calls first) (row_calls others) h) i)

    pub block-same : (bs : BlockRow) → SameOn (block_calls bs) → block_paths f c bs ≡ block_paths g c bs
    block-same nowhere h = refl
    block-same (or_else first others) h = λ i.
        either_part (row-same first (on_left (row_calls first) (block_calls others) h) i)
        (block-same others (on_right (row_calls first) (block_calls others) h) i)

row_calls-of : (ss : List StmtTree) → row_calls (row_of ss) ≡ flat_map stmt_calls ss
row_calls-of [] = refl
row_calls-of (s ∷ ss) = ap (λ xs. stmt_calls s ++ xs) (row_calls-of ss)

of_locals : (ls : List LocalTree) →
    flat_map stmt_calls (map (λ (l : LocalTree). assign (l.name ∷ []) None l.value) ls)
    ≡ flat_map (λ (l : LocalTree). value_calls l.value) ls
of_locals [] = refl
of_locals (l ∷ ls) = ap (λ xs. value_calls l.value ++ xs) (of_locals ls)

body_calls-row : (body : BodyTree) → row_calls (row_of (body_stmts body)) ≡ body_calls body
body_calls-row body =
    row_calls-of (body_stmts body)
    ∙ flat_map-append stmt_calls (map (λ (l : LocalTree). assign (l.name ∷ []) None l.value) body.locals) body.stmts
    ∙ ap (λ xs. xs ++ flat_map stmt_calls body.stmts) (of_locals body.locals)
    ∙ sym (body_calls-parts body)

-- a body's paths, from those of what it calls
abbrev pub lay : BodyAt → (List Ident → sums.Paths) → sums.Paths
lay b within = row_paths within b.context (row_of (body_stmts b.body))

pub lay-step : (d : ℕ) (b : BodyAt) →
    body_paths (suc d) b ≡ lay b (λ path. option_map_or (body_paths d) (callee b.context path) (choosing 0))
lay-step d b = refl

pub lay-agree : (b : BodyAt) (f g : List Ident → sums.Paths) →
    ((path : List Ident) → Contains (body_calls b.body) path → f path ≡ g path) → lay b f ≡ lay b g
lay-agree b f g same =
    row-same f g b.context (row_of (body_stmts b.body))
    (λ path among. same path (subst (λ paths. Contains paths path) (body_calls-row b.body) among))

-- ---- rows from their ends

module _ (within : List Ident → sums.Paths) (c : Context) where
  -- what the paths of a statement are, by what it is as plain data
  pub seen : (kept : Paths) (s : StmtTree) (v : StmtTree) → s ≡ v → AreBest kept (stmt_paths within c v) →
      AreBest kept (stmt_paths within c s)
  seen kept s v is best = subst (λ s. AreBest kept (stmt_paths within c s)) (sym is) best

  -- one more statement before a row
  pub row_before : (xs : List Stmt) (left i : ℕ) (x : Stmt) (first rest new : Paths) → left ≡ i + 1 →
      i < length xs → x ≡ get_or xs i x → AreBest first (stmt_paths within c (stmt_tree x)) →
      AreBest rest (row_paths within c (row_of (stmt_trees (drop left xs)))) →
      ((p q : sums.Paths) → AreBest first p → AreBest rest q → AreBest new (in_row p q)) →
      AreBest new (row_paths within c (row_of (stmt_trees (drop i xs))))
  row_before xs left i x first rest new one_less inside is one others joins =
      subst (λ r. AreBest new (row_paths within c r))
      (sym (at_drop_more (λ ys. row_of (stmt_trees ys)) xs i x inside
      ∙ (λ j. row_of (stmt_trees (sym is j ∷ drop (sym one_less j) xs)))))
      (joins (stmt_paths within c (stmt_tree x)) (row_paths within c (row_of (stmt_trees (drop left xs)))) one others)

  -- the row of the declarations of locals with what stands behind them
  abbrev pub locals_row : List StmtTree → List LocalDef → StmtRow
  locals_row ss ls = row_of (map (λ (l : LocalTree). assign (l.name ∷ []) None l.value) (map local_tree ls) ++ ss)

  -- one more local before them
  pub local_before : (ss : List StmtTree) (xs : List LocalDef) (left i : ℕ) (x : LocalDef) (first rest new : Paths) →
      left ≡ i + 1 → i < length xs → x ≡ get_or xs i x →
      AreBest first (stmt_paths within c (assign (x.name ∷ []) None (value_tree x.value))) →
      AreBest rest (row_paths within c (locals_row ss (drop left xs))) →
      ((p q : sums.Paths) → AreBest first p → AreBest rest q → AreBest new (in_row p q)) →
      AreBest new (row_paths within c (locals_row ss (drop i xs)))
  local_before ss xs left i x first rest new one_less inside is one others joins =
      subst (λ r. AreBest new (row_paths within c r))
      (sym (at_drop_more (locals_row ss) xs i x inside
      ∙ (λ j. locals_row ss (sym is j ∷ drop (sym one_less j) xs))))
      (joins (stmt_paths within c (assign (x.name ∷ []) None (value_tree x.value)))
      (row_paths within c (locals_row ss (drop left xs))) one others)

  -- the blocks of a choice
  abbrev pub blocks_row : List (Vec Stmt Global) → BlockRow
  blocks_row bs = alternatives_of (map (λ b. row_of (stmt_trees b.items)) bs)

  -- one more block before others
  pub block_before : (xs : List (Vec Stmt Global)) (left i : ℕ) (x : Vec Stmt Global) (first rest new : Paths) →
      left ≡ i + 1 → i < length xs → x ≡ get_or xs i x →
      AreBest first (row_paths within c (row_of (stmt_trees x.items))) →
      AreBest rest (block_paths within c (blocks_row (drop left xs))) →
      ((p q : sums.Paths) → AreBest first p → AreBest rest q → AreBest new (either_part p q)) →
      AreBest new (block_paths within c (blocks_row (drop i xs)))
  block_before xs left i x first rest new one_less inside is one others joins =
      subst (λ r. AreBest new (block_paths within c r))
      (sym (at_drop_more blocks_row xs i x inside ∙ (λ j. blocks_row (sym is j ∷ drop (sym one_less j) xs))))
      (joins (row_paths within c (row_of (stmt_trees x.items))) (block_paths within c (blocks_row (drop left xs)))
      one others)

pub length-blocks : (bs : List (Vec Stmt Global)) →
    length (blocks_of (alternatives_of (map (λ b. row_of (stmt_trees b.items)) bs))) ≡ length bs
length-blocks [] = refl
length-blocks (b ∷ bs) = ap suc (length-blocks bs)
