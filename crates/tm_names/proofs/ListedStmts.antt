-- What the statements of a body hold, and the declarations of its locals.
use Rattle.std.proofs.Common.{◌≡◌, List, [], ◌∷◌, ◌++◌, map, append_assoc, refl, sym, ap, ◌∙◌}
use Rattle.std.specs.List.{flat_map}
use Rattle.tm_syntax.specs.Tree.{StmtTree, LocalTree, BodyTree}
use Rattle.tm_syntax.specs.Scopes.Parts.{all_stmts, stmts_in}
use Rattle.tm_names.specs.LocalStmts.{declaration}

module _ {X : Type 0} where
  locals_apart : (f : StmtTree → List X) (ls : List LocalTree) (ss : List StmtTree) →
      flat_map f (all_stmts (map declaration ls ++ ss))
      ≡ flat_map (λ l. f (declaration l)) ls ++ flat_map f (all_stmts ss)
  locals_apart f [] ss = refl
  locals_apart f (l ∷ ls) ss =
      ap (λ xs. f (declaration l) ++ xs) (locals_apart f ls ss)
      ∙ sym (append_assoc (f (declaration l)) (flat_map (λ k. f (declaration k)) ls) (flat_map f (all_stmts ss)))

  -- what the statements of a body hold is what the declarations of its locals hold, and what its statements do
  pub flat_map-stmts_in : (f : StmtTree → List X) (body : BodyTree) →
      flat_map f (stmts_in body)
      ≡ flat_map (λ l. f (declaration l)) body.locals ++ flat_map f (all_stmts body.stmts)
  flat_map-stmts_in f body = locals_apart f body.locals body.stmts

  pub flat_map-none : {Y : Type 0} (ys : List Y) → flat_map {X = Y} {A = X} (λ _. []) ys ≡ []
  flat_map-none [] = refl
  flat_map-none (y ∷ ys) = flat_map-none ys
