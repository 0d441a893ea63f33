-- Rows of statements and of blocks, seen from the front.
use Rattle.std.proofs.Common.{◌≡◌, ℕ, ◌+◌, ◌<◌, Bool, true, false, List, [], ◌∷◌, length, get_or, drop, map, refl, sym, ap, ◌∙◌}
use Rattle.std.specs.Prelude.{◌||◌, ◌&&◌}
use Rattle.std.proofs.lemmas.List.{at_drop_more}
use Rattle.std.specs.declared.alloc.Global.{Global}
use Rattle.std.specs.declared.vec.Vec.{Vec}
use Rattle.tm_syntax.specs.declared.tree.Ident.{Ident}
use Rattle.tm_syntax.specs.declared.tree.Stmt.{Stmt}
use Rattle.tm_syntax.specs.Tree.{BlockRow, nowhere, or_else, row_of, alternatives_of}
use Rattle.tm_syntax.specs.Tree.View.{stmt_tree, stmt_trees}
use Rattle.tm_syntax.specs.Scopes.Crossing.{stmt_crosses, row_crosses, blocks_cross}
use Rattle.tm_syntax.specs.Scopes.Pauses.{stmt_pauses, row_pauses, block_pauses}

-- the blocks of a choice
abbrev pub rows_of : List (Vec Stmt Global) → BlockRow
rows_of blocks = alternatives_of (map (λ (b : Vec Stmt Global). row_of (stmt_trees b.items)) blocks)

module _ (called : List Ident → Bool) where
  -- whether all blocks of a row are sure to cross
  abbrev pub all_cross : BlockRow → Bool
  all_cross nowhere = true
  all_cross (or_else first others) = row_crosses called first && all_cross others

  pub all_cross-some : (b : Vec Stmt Global) (bs : List (Vec Stmt Global)) →
      blocks_cross called (rows_of (b ∷ bs)) ≡ all_cross (rows_of (b ∷ bs))
  all_cross-some b [] = last (row_crosses called (row_of (stmt_trees b.items)))
    where
      last : (here : Bool) → here ≡ (here && true)
      last true = refl
      last false = refl
  all_cross-some b (c ∷ cs) =
      ap (λ x. row_crosses called (row_of (stmt_trees b.items)) && x) (all_cross-some c cs)

  pub row_crosses-more : (xs : List Stmt) (i : ℕ) (x : Stmt) → i < length xs → x ≡ get_or xs i x →
      row_crosses called (row_of (stmt_trees (drop i xs)))
      ≡ (stmt_crosses called (stmt_tree x) || row_crosses called (row_of (stmt_trees (drop (i + 1) xs))))
  row_crosses-more xs i x within is =
      at_drop_more (λ ys. row_crosses called (row_of (stmt_trees ys))) xs i x within
      ∙ ap (λ y. stmt_crosses called (stmt_tree y) || row_crosses called (row_of (stmt_trees (drop (i + 1) xs))))
      (sym is)

  pub all_cross-more : (xs : List (Vec Stmt Global)) (i : ℕ) (x : Vec Stmt Global) → i < length xs →
      x ≡ get_or xs i x →
      all_cross (rows_of (drop i xs))
      ≡ (row_crosses called (row_of (stmt_trees x.items)) && all_cross (rows_of (drop (i + 1) xs)))
  all_cross-more xs i x within is =
      at_drop_more (λ ys. all_cross (rows_of ys)) xs i x within
      ∙ ap (λ (y : Vec Stmt Global). row_crosses called (row_of (stmt_trees y.items)) && all_cross
      (rows_of (drop (i + 1) xs)))
      (sym is)

  pub row_pauses-more : (xs : List Stmt) (i : ℕ) (x : Stmt) → i < length xs → x ≡ get_or xs i x →
      row_pauses called (row_of (stmt_trees (drop i xs)))
      ≡ (stmt_pauses called (stmt_tree x) || row_pauses called (row_of (stmt_trees (drop (i + 1) xs))))
  row_pauses-more xs i x within is =
      at_drop_more (λ ys. row_pauses called (row_of (stmt_trees ys))) xs i x within
      ∙ ap (λ y. stmt_pauses called (stmt_tree y) || row_pauses called (row_of (stmt_trees (drop (i + 1) xs)))) (sym is)

  pub block_pauses-more : (xs : List (Vec Stmt Global)) (i : ℕ) (x : Vec Stmt Global) → i < length xs →
      x ≡ get_or xs i x →
      block_pauses called (rows_of (drop i xs))
      ≡ (row_pauses called (row_of (stmt_trees x.items)) || block_pauses called (rows_of (drop (i + 1) xs)))
  block_pauses-more xs i x within is =
      at_drop_more (λ ys. block_pauses called (rows_of ys)) xs i x within
      ∙ ap (λ (y : Vec Stmt Global). row_pauses called (row_of (stmt_trees y.items))
      || block_pauses called (rows_of (drop (i + 1) xs))) (sym is)
