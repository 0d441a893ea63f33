-- What is done of a body is done of its locals, and then of its statements.
use Rattle.std.proofs.Common.{◌≡◌, Bool, List, [], ◌∷◌, ◌++◌, map, refl, sym, ap, ◌∙◌, subst}
use Rattle.std.specs.Prelude.{◌||◌}
use Rattle.std.specs.List.{AllByRecursion, flat_map, list_any}
use Rattle.std.proofs.lemmas.List.Concat.{flat_map-append}
use Rattle.tm_base.specs.declared.place.Place.{Place}
use Rattle.tm_syntax.specs.declared.design.Design.{Design}
use Rattle.tm_syntax.specs.declared.tree.Ident.{Ident}
use Rattle.tm_syntax.specs.Tree.{BodyTree, LocalTree, StmtTree, row_of}
use Rattle.tm_syntax.specs.Scopes.Calls.{body_calls}
use Rattle.tm_syntax.specs.Scopes.Crossing.{row_crosses, stmt_crosses, value_crosses}
use Rattle.tm_syntax.specs.Scopes.Parts.{all_stmts, inner_stmts, row_stmts, value_calls}
use Rattle.tm_syntax.specs.Design.View.{design_tree}
use Rattle.tm_syntax.specs.Design.Work.{perform}
use Rattle.tm_scope.specs.Cells.{ScopedCells, scope_of}
use Rattle.tm_scope.specs.Inner.Calls.{row_calls, stmt_calls}
use Rattle.tm_scope.proofs.BodyCalls.{body_calls-parts}
use Rattle.tm_typing.proofs.Fitting.{all_of_both}
use Rattle.tm_plain_bodies.specs.declared.frame.Frame.{Frame}
use Rattle.tm_plain_bodies.specs.Calls.{NestsWithin}
use Rattle.tm_plain_bodies.specs.Frames.{BodyFits, BodyMayPass, RowFits, local_stmts}
use Rattle.tm_states.specs.Promised.{IsPromised}
use Rattle.tm_plain_bodies.specs.Runs.{RowMayPass, body_work, crossing, items_of}
use Rattle.tm_plain_bodies.proofs.Nesting.{nests_both}

map_append : {A B : Type 0} (f : A → B) (xs ys : List A) → map f (xs ++ ys) ≡ map f xs ++ map f ys
map_append f [] ys = refl
map_append f (x ∷ xs) ys = ap (λ zs. f x ∷ zs) (map_append f xs ys)

-- the statements of a row with those within them
row_all : (ss : List StmtTree) → row_stmts (row_of ss) ≡ all_stmts ss
row_all [] = refl
row_all (s ∷ ss) = ap (λ rest. (s ∷ inner_stmts s) ++ rest) (row_all ss)

-- the calls of a row
calls_all : (ss : List StmtTree) → row_calls (row_of ss) ≡ flat_map stmt_calls ss
calls_all [] = refl
calls_all (s ∷ ss) = ap (λ rest. stmt_calls s ++ rest) (calls_all ss)

calls_of_locals : (ls : List LocalTree) →
    row_calls (row_of (local_stmts ls)) ≡ flat_map (λ (l : LocalTree). value_calls l.value) ls
calls_of_locals [] = refl
calls_of_locals (l ∷ ls) = ap (λ rest. value_calls l.value ++ rest) (calls_of_locals ls)

-- whether a row is sure to cross
crosses_any : (called : List Ident → Bool) (ss : List StmtTree) →
    row_crosses called (row_of ss) ≡ list_any (stmt_crosses called) ss
crosses_any called [] = refl
crosses_any called (s ∷ ss) = ap (λ b. stmt_crosses called s || b) (crosses_any called ss)

crosses_locals : (called : List Ident → Bool) (ls : List LocalTree) →
    row_crosses called (row_of (local_stmts ls)) ≡ list_any (λ (l : LocalTree). value_crosses called l.value) ls
crosses_locals called [] = refl
crosses_locals called (l ∷ ls) = ap (λ b. value_crosses called l.value || b) (crosses_locals called ls)

module _ (d : Design) (f : Frame) (body : BodyTree) (h : BodyFits d f body) where
  abbrev Is : StmtTree → Type 0
  Is s = IsPromised h.context s

  promised : AllByRecursion Is (all_stmts (local_stmts body.locals)) × AllByRecursion Is (all_stmts body.stmts)
  promised =
      all_of_both Is (all_stmts (local_stmts body.locals)) (all_stmts body.stmts)
      (subst (AllByRecursion Is)
      (flat_map-append (λ (s : StmtTree). s ∷ inner_stmts s) (local_stmts body.locals) body.stmts) h.promised)

  calls : body_calls body ≡ row_calls (row_of (local_stmts body.locals)) ++ row_calls (row_of body.stmts)
  calls =
      body_calls-parts body
      ∙ (λ i. sym (calls_of_locals body.locals) i ++ sym (calls_all body.stmts) i)

  pub locals_fit : RowFits d f (local_stmts body.locals)
  locals_fit = record {
    tables = h.tables;
    promised = record {
      context = h.context;
      stands = h.stands;
      promised = subst (AllByRecursion Is) (sym (row_all (local_stmts body.locals))) promised.0;
    };
    nested = (nests_both f.depth (design_tree d) (scope_of f.reader.at)
        (row_calls (row_of (local_stmts body.locals))) (row_calls (row_of body.stmts))
        (subst (λ (x : List (List Ident)). NestsWithin f.depth (design_tree d) (scope_of f.reader.at) x) calls
        h.nested)).0;
  }

  pub stmts_fit : RowFits d f body.stmts
  stmts_fit = record {
    tables = h.tables;
    promised = record {
      context = h.context;
      stands = h.stands;
      promised = subst (AllByRecursion Is) (sym (row_all body.stmts)) promised.1;
    };
    nested = (nests_both f.depth (design_tree d) (scope_of f.reader.at)
        (row_calls (row_of (local_stmts body.locals))) (row_calls (row_of body.stmts))
        (subst (λ (x : List (List Ident)). NestsWithin f.depth (design_tree d) (scope_of f.reader.at) x) calls
        h.nested)).1;
  }

-- what is got through of locals and statements is got through of the body
pub body_passes : (s : ScopedCells) (body : BodyTree) → RowMayPass s (local_stmts body.locals) →
    RowMayPass s body.stmts → BodyMayPass s body
body_passes s body locals stmts = λ c stands.
    ap (λ b. b || list_any (stmt_crosses (crossing c)) body.stmts)
    (sym (crosses_locals (crossing c) body.locals) ∙ locals c stands)
    ∙ sym (crosses_any (crossing c) body.stmts) ∙ stmts c stands

-- the work of a body is that of its locals and of its statements
pub body_parts : (s : ScopedCells) (trail : List Place) (body : BodyTree) →
    body_work s trail body ≡ items_of s trail (local_stmts body.locals) ++ items_of s trail body.stmts
body_parts s trail body = map_append (perform (scope_of s.at) trail) (local_stmts body.locals) body.stmts
