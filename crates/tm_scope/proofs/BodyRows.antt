-- The statements of a body as a row, and its locals one by one.
use Rattle.std.proofs.Common.{◌≡◌, ℕ, ◌+◌, ◌<◌, Bool, List, [], ◌∷◌, length, get_or, drop, map, refl, sym, ap, ◌∙◌}
use Rattle.std.specs.Prelude.{◌||◌}
use Rattle.std.specs.List.{list_any}
use Rattle.std.proofs.lemmas.List.{at_drop_more}
use Rattle.tm_syntax.specs.declared.tree.Ident.{Ident}
use Rattle.tm_syntax.specs.declared.tree.LocalDef.{LocalDef}
use Rattle.tm_syntax.specs.Tree.{LocalTree, StmtTree, BodyTree, row_of}
use Rattle.tm_syntax.specs.Tree.View.{local_tree}
use Rattle.tm_syntax.specs.Scopes.Crossing.{stmt_crosses, row_crosses, value_crosses}
use Rattle.tm_syntax.specs.Scopes.Pauses.{stmt_pauses, row_pauses, value_pauses}
use Rattle.tm_scope.specs.Marks.{crosses_by, pauses_by}

module _ (called : List Ident → Bool) where
  row_pauses-list : (ss : List StmtTree) → row_pauses called (row_of ss) ≡ list_any (stmt_pauses called) ss
  row_pauses-list [] = refl
  row_pauses-list (s ∷ ss) = ap (λ b. stmt_pauses called s || b) (row_pauses-list ss)

  row_crosses-list : (ss : List StmtTree) → row_crosses called (row_of ss) ≡ list_any (stmt_crosses called) ss
  row_crosses-list [] = refl
  row_crosses-list (s ∷ ss) = ap (λ b. stmt_crosses called s || b) (row_crosses-list ss)

  pub pauses_by_rows : (body : BodyTree) →
      pauses_by called body
      ≡ (list_any (λ l. value_pauses called l.value) body.locals || row_pauses called (row_of body.stmts))
  pauses_by_rows body =
      ap (λ b. list_any (λ l. value_pauses called l.value) body.locals || b) (sym (row_pauses-list body.stmts))

  pub crosses_by_rows : (body : BodyTree) →
      crosses_by called body
      ≡ (list_any (λ l. value_crosses called l.value) body.locals || row_crosses called (row_of body.stmts))
  crosses_by_rows body =
      ap (λ b. list_any (λ l. value_crosses called l.value) body.locals || b) (sym (row_crosses-list body.stmts))

-- a test of the locals of a body, one further along
module _ (test : LocalTree → Bool) where
  abbrev pub passes : List LocalDef → Bool
  passes ls = list_any test (map local_tree ls)

  pub passes-more : (xs : List LocalDef) (i : ℕ) (x : LocalDef) → i < length xs → x ≡ get_or xs i x →
      passes (drop i xs) ≡ (test (local_tree x) || passes (drop (i + 1) xs))
  passes-more xs i x within is =
      at_drop_more passes xs i x within ∙ ap (λ y. test (local_tree y) || passes (drop (i + 1) xs)) (sym is)
