-- Rows of statements and of blocks, seen from the front.
use Rattle.std.proofs.Common.{◌≡◌, ℕ, ◌+◌, ◌<◌, List, [], ◌∷◌, ◌++◌, length, get_or, drop, map, append_assoc, refl, sym, ap, ◌∙◌}
use Rattle.std.proofs.lemmas.List.{at_drop_more}
use Rattle.std.specs.declared.alloc.Global.{Global}
use Rattle.std.specs.declared.vec.Vec.{Vec}
use Rattle.tm_syntax.specs.declared.tree.Stmt.{Stmt}
use Rattle.tm_syntax.specs.Tree.{StmtTree, BlockRow, row_of, alternatives_of}
use Rattle.tm_syntax.specs.Tree.View.{stmt_tree, stmt_trees}
use Rattle.tm_syntax.specs.Scopes.Parts.{all_stmts, block_stmts, inner_stmts, row_stmts}

-- the blocks of a choice
abbrev pub rows_of : List (Vec Stmt Global) → BlockRow
rows_of blocks = alternatives_of (map (λ (b : Vec Stmt Global). row_of (stmt_trees b.items)) blocks)

pub all_stmts-row : (ss : List StmtTree) → row_stmts (row_of ss) ≡ all_stmts ss
all_stmts-row [] = refl
all_stmts-row (s ∷ ss) = ap (λ others. s ∷ inner_stmts s ++ others) (all_stmts-row ss)

pub row_stmts-more : (xs : List Stmt) (i : ℕ) (x : Stmt) → i < length xs → x ≡ get_or xs i x →
    row_stmts (row_of (stmt_trees (drop i xs)))
    ≡ stmt_tree x ∷ inner_stmts (stmt_tree x) ++ row_stmts (row_of (stmt_trees (drop (i + 1) xs)))
row_stmts-more xs i x within is =
    at_drop_more (λ ys. row_stmts (row_of (stmt_trees ys))) xs i x within
    ∙ ap (λ y. stmt_tree y ∷ inner_stmts (stmt_tree y) ++ row_stmts (row_of (stmt_trees (drop (i + 1) xs)))) (sym is)

pub block_stmts-more : (xs : List (Vec Stmt Global)) (i : ℕ) (x : Vec Stmt Global) → i < length xs →
    x ≡ get_or xs i x →
    block_stmts (rows_of (drop i xs))
    ≡ row_stmts (row_of (stmt_trees x.items)) ++ block_stmts (rows_of (drop (i + 1) xs))
block_stmts-more xs i x within is =
    at_drop_more (λ ys. block_stmts (rows_of ys)) xs i x within
    ∙ ap (λ (y : Vec Stmt Global). row_stmts (row_of (stmt_trees y.items)) ++ block_stmts (rows_of (drop (i + 1) xs)))
    (sym is)

-- a list that grows by what the next part holds, where all holds that and the rest
pub grown_more : {X : Type 0} (whole old new here before rest : List X) →
    new ≡ old ++ here → before ≡ here ++ rest → old ++ before ≡ whole → new ++ rest ≡ whole
grown_more whole old new here before rest grown splits invariant =
    ap (λ xs. xs ++ rest) grown
    ∙ append_assoc old here rest
    ∙ ap (λ xs. old ++ xs) (sym splits)
    ∙ invariant
