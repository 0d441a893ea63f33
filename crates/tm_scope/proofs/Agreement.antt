-- Whether a body pauses or crosses depends on its calls alone.
use Rattle.std.proofs.Common.{◌≡◌, Bool, List, [], ◌∷◌, ◌++◌, refl}
use Rattle.std.specs.Prelude.{◌||◌, ◌&&◌}
use Rattle.tm_syntax.specs.declared.tree.Ident.{Ident}
use Rattle.tm_syntax.specs.Tree.{ValueTree, star, result, plain, StmtTree, assign, invoke, branch, repeat, forever, choose, assert, assume, pause, wait, magic, StmtRow, nothing, then, BlockRow, nowhere, or_else}
use Rattle.tm_syntax.specs.Scopes.Pauses.{value_pauses, stmt_pauses, row_pauses, block_pauses}
use Rattle.tm_syntax.specs.Scopes.Crossing.{value_crosses, stmt_crosses, row_crosses, blocks_cross}
use Rattle.tm_scope.specs.Inner.Calls.{stmt_calls, row_calls, block_calls}
use Rattle.tm_syntax.specs.Scopes.Parts.{value_calls}

module _ (f g : List Ident → Bool) where
  -- two tests say the same of each of these calls
  abbrev pub AgreeOn : List (List Ident) → Type 0
  AgreeOn [] = Unit {0}
  AgreeOn (path ∷ paths) = (f path ≡ g path) × AgreeOn paths

  pub AgreeOn-front : (xs ys : List (List Ident)) → AgreeOn (xs ++ ys) → AgreeOn xs
  AgreeOn-front [] ys h = tt
  AgreeOn-front (x ∷ xs) ys h = (h.0, AgreeOn-front xs ys h.1)

  pub AgreeOn-back : (xs ys : List (List Ident)) → AgreeOn (xs ++ ys) → AgreeOn ys
  AgreeOn-back [] ys h = h
  AgreeOn-back (x ∷ xs) ys h = AgreeOn-back xs ys h.1

  pub value_pauses-agree : (v : ValueTree) → AgreeOn (value_calls v) → value_pauses f v ≡ value_pauses g v
  value_pauses-agree (star _) h = refl
  value_pauses-agree (result path _) h = h.0
  value_pauses-agree (plain _) h = refl

  mutual
    pub stmt_pauses-agree : (s : StmtTree) → AgreeOn (stmt_calls s) → stmt_pauses f s ≡ stmt_pauses g s
    stmt_pauses-agree (assign _ _ v) h = value_pauses-agree v h
    stmt_pauses-agree (invoke path _) h = h.0
    stmt_pauses-agree (branch _ a b) h = λ i.
        row_pauses-agree a (AgreeOn-front (row_calls a) (row_calls b) h) i
        || row_pauses-agree b (AgreeOn-back (row_calls a) (row_calls b) h) i
    stmt_pauses-agree (repeat _ _ body) h = row_pauses-agree body h
    stmt_pauses-agree (forever _ body) h = row_pauses-agree body h
    stmt_pauses-agree (choose _ blocks) h = block_pauses-agree blocks h
    stmt_pauses-agree (assert _ _) h = refl
    stmt_pauses-agree (assume _ _) h = refl
    stmt_pauses-agree (pause _) h = refl
    stmt_pauses-agree (wait _ _) h = refl
    stmt_pauses-agree (magic _) h = refl

    pub row_pauses-agree : (r : StmtRow) → AgreeOn (row_calls r) → row_pauses f r ≡ row_pauses g r
    row_pauses-agree nothing h = refl
    row_pauses-agree (then first others) h = λ i.
        stmt_pauses-agree first (AgreeOn-front (stmt_calls first) (row_calls others) h) i
        || row_pauses-agree others (AgreeOn-back (stmt_calls first) (row_calls others) h) i

    pub block_pauses-agree : (bs : BlockRow) → AgreeOn (block_calls bs) → block_pauses f bs ≡ block_pauses g bs
    block_pauses-agree nowhere h = refl
    block_pauses-agree (or_else first others) h = λ i.
        row_pauses-agree first (AgreeOn-front (row_calls first) (block_calls others) h) i
        || block_pauses-agree others (AgreeOn-back (row_calls first) (block_calls others) h) i

  pub value_crosses-agree : (v : ValueTree) → AgreeOn (value_calls v) → value_crosses f v ≡ value_crosses g v
  value_crosses-agree (star _) h = refl
  value_crosses-agree (result path _) h = h.0
  value_crosses-agree (plain _) h = refl

  mutual
    pub stmt_crosses-agree : (s : StmtTree) → AgreeOn (stmt_calls s) → stmt_crosses f s ≡ stmt_crosses g s
    stmt_crosses-agree (assign _ _ v) h = value_crosses-agree v h
    stmt_crosses-agree (invoke path _) h = h.0
    stmt_crosses-agree (branch _ a b) h = λ i.
        row_crosses-agree a (AgreeOn-front (row_calls a) (row_calls b) h) i
        && row_crosses-agree b (AgreeOn-back (row_calls a) (row_calls b) h) i
    stmt_crosses-agree (repeat _ _ body) h = refl
    stmt_crosses-agree (forever _ body) h = row_crosses-agree body h
    stmt_crosses-agree (choose _ blocks) h = blocks_cross-agree blocks h
    stmt_crosses-agree (assert _ _) h = refl
    stmt_crosses-agree (assume _ _) h = refl
    stmt_crosses-agree (pause _) h = refl
    stmt_crosses-agree (wait _ _) h = refl
    stmt_crosses-agree (magic _) h = refl

    pub row_crosses-agree : (r : StmtRow) → AgreeOn (row_calls r) → row_crosses f r ≡ row_crosses g r
    row_crosses-agree nothing h = refl
    row_crosses-agree (then first others) h = λ i.
        stmt_crosses-agree first (AgreeOn-front (stmt_calls first) (row_calls others) h) i
        || row_crosses-agree others (AgreeOn-back (stmt_calls first) (row_calls others) h) i

    pub blocks_cross-agree : (bs : BlockRow) → AgreeOn (block_calls bs) → blocks_cross f bs ≡ blocks_cross g bs
    blocks_cross-agree nowhere h = refl
    blocks_cross-agree (or_else last nowhere) h = row_crosses-agree last (AgreeOn-front (row_calls last) [] h)
    blocks_cross-agree (or_else first (or_else next others)) h = λ i.
        row_crosses-agree first (AgreeOn-front (row_calls first) (block_calls (or_else next others)) h) i
        && blocks_cross-agree (or_else next others)
        (AgreeOn-back (row_calls first) (block_calls (or_else next others)) h) i
