-- What a run gets through is not sure to cross a location.
use Rattle.std.proofs.Common.{◌≡◌, ℕ, zero, suc, Bool, true, false, Some, List, [], ◌∷◌, refl, sym, ap, ◌∙◌}
use Rattle.std.specs.Prelude.{◌&&◌, ◌||◌, slice_get}
use Rattle.tm_syntax.specs.declared.tree.Ident.{Ident}
use Rattle.tm_syntax.specs.Tree.{ExprTree, StmtTree, branch, StmtRow, or_else, row_of, stmts_of, blocks_of, alternatives_of}
use Rattle.tm_syntax.specs.Scopes.Crossing.{stmt_crosses, row_crosses, blocks_cross}

-- the statements of the row of a list are those of the list
pub stmts_of_row : (ss : List StmtTree) → stmts_of (row_of ss) ≡ ss
stmts_of_row [] = refl
stmts_of_row (s ∷ ss) = ap (λ rest. s ∷ rest) (stmts_of_row ss)

-- the blocks of the alternatives of a list are those of the list
pub blocks_of_alternatives : (bs : List StmtRow) → blocks_of (alternatives_of bs) ≡ bs
blocks_of_alternatives [] = refl
blocks_of_alternatives (b ∷ bs) = ap (λ rest. b ∷ rest) (blocks_of_alternatives bs)

module _ (called : List Ident → Bool) where
  and_false : (a b : Bool) → b ≡ false → (a && b) ≡ false
  and_false true b is = is
  and_false false b is = refl

  pub first_passes : (e : ExprTree) (a b : StmtRow) → row_crosses called a ≡ false →
      stmt_crosses called (branch e a b) ≡ false
  first_passes e a b is = ap (λ t. t && row_crosses called b) is

  pub second_passes : (e : ExprTree) (a b : StmtRow) → row_crosses called b ≡ false →
      stmt_crosses called (branch e a b) ≡ false
  second_passes e a b is = and_false (row_crosses called a) (row_crosses called b) is

  -- where a block may be got through, not all are sure to cross
  pub block_passes : (blocks : List StmtRow) (k : ℕ) (block : StmtRow) → slice_get blocks k ≡ Some block →
      row_crosses called block ≡ false → blocks_cross called (alternatives_of blocks) ≡ false
  block_passes [] k block is passes = absurd (cc)
  block_passes (b ∷ []) zero block is passes =
      let same : b ≡ block = cc in ap (row_crosses called) same ∙ passes
  block_passes (b ∷ []) (suc k) block is passes = absurd (cc)
  block_passes (b ∷ c ∷ bs) zero block is passes =
      let same : b ≡ block = cc in
      ap (λ t. t && blocks_cross called (or_else c (alternatives_of bs))) (ap (row_crosses called) same ∙ passes)
  block_passes (b ∷ c ∷ bs) (suc k) block is passes =
      and_false (row_crosses called b) (blocks_cross called (or_else c (alternatives_of bs)))
      (block_passes (c ∷ bs) k block is passes)

  -- behind a statement that may be got through a row is sure to cross where the rest is
  pub row_on : (s : StmtTree) (ss : List StmtTree) → stmt_crosses called s ≡ false →
      row_crosses called (row_of ss) ≡ row_crosses called (row_of (s ∷ ss))
  row_on s ss is = sym (ap (λ t. t || row_crosses called (row_of ss)) is)
