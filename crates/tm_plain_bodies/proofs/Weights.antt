-- How the weights of the parts of what is to be done sum up.
use Rattle.std.proofs.Common.{◌≡◌, ℕ, zero, suc, ◌+◌, ◌<◌, ◌≤◌, Some, List, [], ◌∷◌, ◌++◌, slice_get, ap, ◌∙◌, arith}
use Rattle.std.specs.Option.{option_map_or}
use Rattle.tm_syntax.specs.declared.tree.Ident.{Ident}
use Rattle.tm_syntax.specs.Tree.{StmtTree, assign, invoke, branch, repeat, forever, choose, assert, assume, pause, wait, magic, StmtRow, alternatives_of, row_of, BodyTree}
use Rattle.tm_syntax.specs.Design.{DesignTree}
use Rattle.tm_syntax.specs.Design.Cells.{Called, called}
use Rattle.tm_syntax.specs.Design.Scope.{Scope}
use Rattle.tm_plain_bodies.specs.Frames.{local_stmts}
use Rattle.tm_plain_bodies.specs.Inner.Weights.{block_weight, body_weight, call_weight, row_weight, stmt_weight}

module _ (within : List Ident → ℕ) where
  -- each statement takes a step
  pub stmt_weighs : (s : StmtTree) → 0 < stmt_weight within s
  stmt_weighs (assign _ _ value) = omega arith
  stmt_weighs (invoke names _) = omega arith
  stmt_weighs (branch _ first second) = omega arith
  stmt_weighs (repeat _ _ body) = omega arith
  stmt_weighs (forever _ body) = omega arith
  stmt_weighs (choose _ blocks) = omega arith
  stmt_weighs (assert _ _) = omega arith
  stmt_weighs (assume _ _) = omega arith
  stmt_weighs (pause _) = omega arith
  stmt_weighs (wait _ _) = omega arith
  stmt_weighs (magic _) = omega arith

  -- statements in front of others
  pub row_weight-append : (ss ts : List StmtTree) →
      row_weight within (row_of (ss ++ ts)) ≡ row_weight within (row_of ss) + row_weight within (row_of ts)
  row_weight-append [] ts = omega arith
  row_weight-append (s ∷ ss) ts = let rest = row_weight-append ss ts in omega (arith, rest)

  -- a block weighs no more than all
  pub block_lighter : (bs : List StmtRow) (k : ℕ) (block : StmtRow) → slice_get bs k ≡ Some block →
      row_weight within block ≤ block_weight within (alternatives_of bs)
  block_lighter [] k block is = absurd (cc)
  block_lighter (b ∷ bs) zero block is =
      let same : b ≡ block = cc in
      let weight = ap (row_weight within) same in omega (arith, weight)
  block_lighter (b ∷ bs) (suc k) block is = let rest = block_lighter bs k block is in omega (arith, rest)

-- a called body weighs what its call does
pub call_weight-called : (d : DesignTree) (scope : Scope) (names : List Ident) (depth n : ℕ) (c : Called) →
    depth ≡ suc n → called d scope names ≡ Some c →
    call_weight depth d scope names ≡ body_weight (call_weight n d c.scope) c.body
call_weight-called d scope names depth n c is_suc is =
    ap (λ k. call_weight k d scope names) is_suc
    ∙ ap (λ o. option_map_or (λ (c : Called). body_weight (call_weight n d c.scope) c.body) o 0) is

-- a body weighs more than its locals and its statements
pub body_parts_weigh : (within : List Ident → ℕ) (body : BodyTree) →
    body_weight within body
    ≡ 4 + (row_weight within (row_of (local_stmts body.locals)) + row_weight within (row_of body.stmts))
body_parts_weigh within body = ap (λ n. 4 + n) (row_weight-append within (local_stmts body.locals) body.stmts)
