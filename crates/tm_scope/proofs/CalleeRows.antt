-- What the parts of a body call, part by part.
use Rattle.std.proofs.Common.{◌≡◌, ℕ, ◌+◌, ◌<◌, Option, List, [], ◌∷◌, ◌++◌, append-nil, append_assoc, drop, get_or, length, map, refl, sym, ap, ◌∙◌}
use Rattle.std.specs.List.{filter_map, flat_map}
use Rattle.std.specs.declared.alloc.Global.{Global}
use Rattle.std.specs.declared.vec.Vec.{Vec}
use Rattle.std.proofs.lemmas.List.{at_drop_more}
use Rattle.std.proofs.lemmas.List.Elements.{filter_map-append}
use Rattle.tm_syntax.specs.declared.tree.Ident.{Ident}
use Rattle.tm_syntax.specs.declared.tree.LocalDef.{LocalDef}
use Rattle.tm_syntax.specs.declared.tree.Stmt.{Stmt}
use Rattle.tm_syntax.specs.Tree.{BodyTree, LocalTree, StmtTree, row_of}
use Rattle.tm_syntax.specs.Tree.View.{local_tree, stmt_tree, stmt_trees}
use Rattle.tm_syntax.specs.Scopes.Calls.{body_calls}
use Rattle.tm_syntax.specs.Scopes.Parts.{value_calls}
use Rattle.tm_scope.specs.Inner.Calls.{block_calls, row_calls, stmt_calls}
use Rattle.tm_scope.proofs.BodyCalls.{body_calls-parts}
use Rattle.tm_scope.proofs.CrossingRows.{rows_of}

-- one part more of a whole
pub grown : (old part rest whole new all : List ℕ) → old ++ whole ≡ all → whole ≡ part ++ rest → new ≡ old ++ part →
    new ++ rest ≡ all
grown old part rest whole new all so parts more =
    ap (λ xs. xs ++ rest) more ∙ append_assoc old part rest ∙ ap (λ xs. old ++ xs) (sym parts) ∙ so

-- nothing is left
pub grown_all : (old rest new : List ℕ) → new ++ rest ≡ old → rest ≡ [] → new ≡ old
grown_all old rest new so none = sym (append-nil new) ∙ ap (λ xs. new ++ xs) (sym none) ∙ so

module _ (number : List Ident → Option ℕ) where
  -- two parts, one behind the other
  pub two_more : (old first second : List ℕ) (a b : List (List Ident)) → first ≡ old ++ filter_map number a →
      second ≡ first ++ filter_map number b → second ≡ old ++ filter_map number (a ++ b)
  two_more old first second a b one two =
      two
      ∙ ap (λ xs. xs ++ filter_map number b) one
      ∙ append_assoc old (filter_map number a) (filter_map number b)
      ∙ ap (λ xs. old ++ xs) (sym (filter_map-append number a b))

  abbrev pub row_numbers : List Stmt → List ℕ
  row_numbers ss = filter_map number (row_calls (row_of (stmt_trees ss)))

  abbrev pub block_numbers : List (Vec Stmt Global) → List ℕ
  block_numbers bs = filter_map number (block_calls (rows_of bs))

  abbrev pub local_numbers : List LocalDef → List ℕ
  local_numbers ls = filter_map number (flat_map (λ (l : LocalTree). value_calls l.value) (map local_tree ls))

  pub row_numbers-more : (xs : List Stmt) (i : ℕ) (x : Stmt) → i < length xs → x ≡ get_or xs i x →
      row_numbers (drop i xs) ≡ filter_map number (stmt_calls (stmt_tree x)) ++ row_numbers (drop (i + 1) xs)
  row_numbers-more xs i x within is =
      at_drop_more row_numbers xs i x within
      ∙ ap (λ y. row_numbers (y ∷ drop (i + 1) xs)) (sym is)
      ∙ filter_map-append number (stmt_calls (stmt_tree x)) (row_calls (row_of (stmt_trees (drop (i + 1) xs))))

  pub block_numbers-more : (xs : List (Vec Stmt Global)) (i : ℕ) (x : Vec Stmt Global) → i < length xs →
      x ≡ get_or xs i x → block_numbers (drop i xs) ≡ row_numbers x.items ++ block_numbers (drop (i + 1) xs)
  block_numbers-more xs i x within is =
      at_drop_more block_numbers xs i x within
      ∙ ap (λ y. block_numbers (y ∷ drop (i + 1) xs)) (sym is)
      ∙ filter_map-append number (row_calls (row_of (stmt_trees x.items))) (block_calls (rows_of (drop (i + 1) xs)))

  pub local_numbers-more : (xs : List LocalDef) (i : ℕ) (x : LocalDef) → i < length xs → x ≡ get_or xs i x →
      local_numbers (drop i xs)
      ≡ filter_map number (value_calls (local_tree x).value) ++ local_numbers (drop (i + 1) xs)
  local_numbers-more xs i x within is =
      at_drop_more local_numbers xs i x within
      ∙ ap (λ y. local_numbers (y ∷ drop (i + 1) xs)) (sym is)
      ∙ filter_map-append number (value_calls (local_tree x).value)
      (flat_map (λ (l : LocalTree). value_calls l.value) (map local_tree (drop (i + 1) xs)))

  row_calls-list : (ss : List StmtTree) → row_calls (row_of ss) ≡ flat_map stmt_calls ss
  row_calls-list [] = refl
  row_calls-list (s ∷ ss) = ap (λ xs. stmt_calls s ++ xs) (row_calls-list ss)

  -- the locals of a body and then its statements
  pub body_numbers : (body : BodyTree) →
      filter_map number (flat_map (λ l. value_calls l.value) body.locals ++ row_calls (row_of body.stmts))
      ≡ filter_map number (body_calls body)
  body_numbers body =
      ap (filter_map number)
      (ap (λ xs. flat_map (λ l. value_calls l.value) body.locals ++ xs) (row_calls-list body.stmts)
      ∙ sym (body_calls-parts body))
