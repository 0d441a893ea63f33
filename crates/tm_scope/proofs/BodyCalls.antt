-- The calls of a body are those of its locals and of its statements, by their parts.
use Rattle.std.proofs.Common.{◌≡◌, None, List, [], ◌∷◌, ◌++◌, map, refl, ap, ◌∙◌}
use Rattle.std.specs.List.{flat_map}
use Rattle.std.proofs.lemmas.List.Concat.{flat_map-append}
use Rattle.tm_syntax.specs.Tree.{ValueTree, star, result, plain, StmtTree, assign, invoke, branch, repeat, forever, choose, assert, assume, pause, wait, magic, StmtRow, nothing, then, BlockRow, nowhere, or_else, LocalTree, BodyTree}
use Rattle.tm_syntax.specs.Scopes.Calls.{body_calls}
use Rattle.tm_syntax.specs.Scopes.Parts.{inner_stmts, row_stmts, block_stmts, body_stmts, all_stmts, value_calls, own_calls}
use Rattle.tm_scope.specs.Inner.Calls.{stmt_calls, row_calls, block_calls}

of_value : (v : ValueTree) → (value_calls v ++ []) ≡ value_calls v
of_value (star _) = refl
of_value (result _ _) = refl
of_value (plain _) = refl

mutual
  of_stmt : (s : StmtTree) → flat_map own_calls (s ∷ inner_stmts s) ≡ stmt_calls s
  of_stmt (assign _ _ v) = of_value v
  of_stmt (invoke _ _) = refl
  of_stmt (branch _ a b) =
      flat_map-append own_calls (row_stmts a) (row_stmts b) ∙ (λ i. of_row a i ++ of_row b i)
  of_stmt (repeat _ _ body) = of_row body
  of_stmt (forever _ body) = of_row body
  of_stmt (choose _ blocks) = of_blocks blocks
  of_stmt (assert _ _) = refl
  of_stmt (assume _ _) = refl
  of_stmt (pause _) = refl
  of_stmt (wait _ _) = refl
  of_stmt (magic _) = refl

  of_row : (r : StmtRow) → flat_map own_calls (row_stmts r) ≡ row_calls r
  of_row nothing = refl
  of_row (then first others) =
      flat_map-append own_calls (first ∷ inner_stmts first) (row_stmts others)
      ∙ (λ i. of_stmt first i ++ of_row others i)

  of_blocks : (bs : BlockRow) → flat_map own_calls (block_stmts bs) ≡ block_calls bs
  of_blocks nowhere = refl
  of_blocks (or_else first others) =
      flat_map-append own_calls (row_stmts first) (block_stmts others)
      ∙ (λ i. of_row first i ++ of_blocks others i)

of_all : (ss : List StmtTree) → flat_map own_calls (all_stmts ss) ≡ flat_map stmt_calls ss
of_all [] = refl
of_all (s ∷ ss) =
    flat_map-append own_calls (s ∷ inner_stmts s) (all_stmts ss) ∙ (λ i. of_stmt s i ++ of_all ss i)

of_locals : (ls : List LocalTree) →
    flat_map stmt_calls (map (λ (l : LocalTree). assign (l.name ∷ []) None l.value) ls)
    ≡ flat_map (λ (l : LocalTree). value_calls l.value) ls
of_locals [] = refl
of_locals (l ∷ ls) = ap (λ xs. value_calls l.value ++ xs) (of_locals ls)

-- by its parts
pub body_calls-parts : (body : BodyTree) →
    body_calls body ≡ flat_map (λ l. value_calls l.value) body.locals ++ flat_map stmt_calls body.stmts
body_calls-parts body =
    of_all (body_stmts body)
    ∙ flat_map-append stmt_calls (map (λ (l : LocalTree). assign (l.name ∷ []) None l.value) body.locals) body.stmts
    ∙ ap (λ xs. xs ++ flat_map stmt_calls body.stmts) (of_locals body.locals)
