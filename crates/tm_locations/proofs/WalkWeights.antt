-- How many steps a walk still takes, as parts are left for later.
use Rattle.std.proofs.Common.{◌≡◌, ℕ, suc, ◌+◌, Option, None, Some, List, [], ◌∷◌, ◌++◌, sym, ap, ◌∙◌, arith}
use Rattle.std.proofs.lemmas.Option.{none-some, same_Some}
use Rattle.std.specs.Option.{option_map, option_map_or}
use Rattle.tm_syntax.specs.declared.tree.Ident.{Ident}
use Rattle.tm_syntax.specs.Tree.{BodyTree, row_of}
use Rattle.tm_syntax.specs.Design.{DesignTree}
use Rattle.tm_syntax.specs.Design.Cells.{Called, called}
use Rattle.tm_syntax.specs.Design.Scope.{Scope}
use Rattle.tm_locations.specs.Inner.Walks.{WalkTables, seen}
use Rattle.tm_locations.specs.Inner.Weights.{call_weight, part_weight, row_weight, weight}
use Rattle.tm_locations.specs.declared.walk.Frame.{Frame}
use Rattle.tm_locations.specs.declared.walk.Row.{Row}
use Rattle.tm_locations.specs.declared.walk.Todo.{Todo}
use Rattle.tm_locations.proofs.WalkCalls.{told}

module _ (d : DesignTree) where
  weight-push : (ts : List Todo) (t : Todo) → weight d (ts ++ t ∷ []) ≡ weight d ts + part_weight d t.frame t.row
  weight-push [] t = omega arith
  weight-push (u ∷ ts) t = let rest = weight-push ts t in omega (arith, rest)

  -- a part that is left for later weighs what it weighs
  pub weight-left : (w v : WalkTables) (frame : Frame) (row : Row) (after : ℕ) →
      v ≡ record w { todo = w.todo ++ record { frame = frame; row = row; after = after } ∷ [] } →
      weight d v.todo ≡ weight d w.todo + part_weight d frame row
  weight-left w v frame row after is =
      ap (λ (v : WalkTables). weight d v.todo) is
      ∙ weight-push w.todo (record { frame = frame; row = row; after = after })

  -- a called body weighs what its call does
  pub weight-called : (scope : Scope) (names : List Ident) (inner : Scope) (body : BodyTree) →
      Some (seen inner body) ≡ option_map told (called d scope names) → (depth n : ℕ) → depth ≡ suc n →
      call_weight depth d scope names ≡ row_weight (call_weight n d inner) (row_of body.stmts)
  weight-called scope names inner body is depth n is_suc =
      ap (λ k. call_weight k d scope names) is_suc ∙ by (called d scope names) is
    where
      by : (o : Option Called) → Some (seen inner body) ≡ option_map told o →
          option_map_or (λ (k : Called). row_weight (call_weight n d k.scope) (row_of k.body.stmts)) o 0
          ≡ row_weight (call_weight n d inner) (row_of body.stmts)
      by None e = absurd (none-some (seen inner body) (sym e))
      by (Some k) e =
          ap (λ (p : Scope × BodyTree). row_weight (call_weight n d p.0) (row_of p.1.stmts))
          (sym (same_Some (seen inner body) (told k) e))
