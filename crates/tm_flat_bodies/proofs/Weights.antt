-- How much there is to be walked of statements, at most, where calls nest at most so deep.
use Rattle.std.proofs.Common.{◌≡◌, ℕ, zero, suc, ◌+◌, Some, List, [], ◌∷◌, ◌++◌, drop, slice_get, ap, ◌∙◌, arith}
use Rattle.std.specs.Option.{option_map_or}
use Rattle.tm_syntax.specs.declared.tree.Ident.{Ident}
use Rattle.tm_syntax.specs.Tree.{StmtTree, StmtRow, alternatives_of, row_of, BodyTree}
use Rattle.tm_syntax.specs.Tree.View.{body_tree}
use Rattle.tm_syntax.specs.Design.{DesignTree}
use Rattle.tm_syntax.specs.Design.Cells.{Called}
use Rattle.tm_scope.specs.Cells.{HasCells, scope_of}
use Rattle.tm_flat_bodies.specs.declared.called.CalledTask.{CalledTask}
use Rattle.tm_flat_bodies.specs.declared.stand.Stand.{Stand}
use Rattle.tm_flat_bodies.specs.declared.waiting.Todo.{Todo}
use Rattle.tm_flat_bodies.specs.Inner.Passing.{IsCalled, local_stmts}
use Rattle.tm_flat_bodies.specs.Inner.Weights.{block_weight, body_weight, call_weight, row_weight, weighs, weights}
use Rattle.tm_flat_bodies.specs.Walks.{WalkTables}

-- what waits in front of other things
pub weights-append : (d : DesignTree) (w : WalkTables) (start : Stand) (us vs : List Todo) →
    weights d w start (us ++ vs) ≡ weights d w start us + weights d w start vs
weights-append d w start [] vs = omega arith
weights-append d w start (u ∷ us) vs =
    let rest = weights-append d w start us vs in
    omega (arith, rest)

-- what is left of a list from an item on
first_dropped : {A : Type 0} (xs : List A) (k : ℕ) (x : A) → slice_get xs k ≡ Some x → drop k xs ≡ x ∷ drop (suc k) xs
first_dropped [] k x is = absurd (cc)
first_dropped (y ∷ ys) zero x is = let same : y ≡ x = cc in ap (λ z. z ∷ ys) same
first_dropped (y ∷ ys) (suc k) x is = first_dropped ys k x is

module _ (within : List Ident → ℕ) where
  -- statements in front of others
  row_weight-append : (ss ts : List StmtTree) →
      row_weight within (row_of (ss ++ ts)) ≡ row_weight within (row_of ss) + row_weight within (row_of ts)
  row_weight-append [] ts = omega arith
  row_weight-append (s ∷ ss) ts = let rest = row_weight-append ss ts in omega (arith, rest)

  -- the weights of a body's locals and statements are that of the row of both
  pub body_parts_weigh : (body : BodyTree) →
      row_weight within (row_of (local_stmts body.locals ++ body.stmts))
      ≡ row_weight within (row_of (local_stmts body.locals)) + row_weight within (row_of body.stmts)
  body_parts_weigh body = row_weight-append (local_stmts body.locals) body.stmts

  -- alternatives from a number on weigh what the first of them does, and the others
  pub first_block_weighs : (bs : List StmtRow) (k : ℕ) (block : StmtRow) → slice_get bs k ≡ Some block →
      block_weight within (alternatives_of (drop k bs))
      ≡ 1 + (row_weight within block + block_weight within (alternatives_of (drop (k + 1) bs)))
  first_block_weighs bs k block is =
      let next : suc k ≡ k + 1 = omega arith in
      ap (λ (rows : List StmtRow). block_weight within (alternatives_of rows))
      (first_dropped bs k block is ∙ ap (λ n. block ∷ drop n bs) next)

-- a called body weighs less than its call
pub call_weighs : (d : DesignTree) (w : WalkTables) (f : Stand) (names : List Ident) (k : CalledTask) →
    HasCells w.tables d → IsCalled w f names k →
    weighs d f names ≡ 1 + body_weight (weighs d k.stand) (body_tree k.task.now.body)
call_weighs d w f names k has is =
    let runs = is.callee.runs d has in
    ap (λ n. call_weight n d (scope_of f.reader.at) names) is.depth
    ∙ ap (λ o. option_map_or (λ (c : Called). 1 + body_weight (call_weight k.stand.depth d c.scope) c.body) o 0) runs.is
    ∙ (λ i. 1 + body_weight (call_weight k.stand.depth d (runs.scope i)) (runs.body i))
