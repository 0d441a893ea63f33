-- A body that is sure to cross a location holds one, or calls a body that does.
use Rattle.std.proofs.Common.{◌≡◌, ℕ, zero, suc, Bool, true, false, Option, None, Some, List, [], ◌∷◌, refl}
use Rattle.std.specs.Prelude.{◌||◌, ◌&&◌}
use Rattle.std.specs.Option.{option_map_or}
use Rattle.std.specs.List.{list_any}
use Rattle.tm_syntax.specs.declared.tree.Ident.{Ident}
use Rattle.tm_syntax.specs.Tree.{ValueTree, star, result, plain, StmtTree, assign, invoke, branch, repeat, forever, choose, assert, assume, pause, wait, magic, StmtRow, nothing, then, BlockRow, nowhere, or_else, LocalTree, BodyTree, TaskTree, TemplateTree, SpecTree}
use Rattle.tm_syntax.specs.Scopes.Pauses.{value_pauses, stmt_pauses, row_pauses, block_pauses, task_reached, body_pauses}
use Rattle.tm_syntax.specs.Scopes.Crossing.{value_crosses, stmt_crosses, row_crosses, blocks_cross, body_crosses}

either_first : (a b c d : Bool) → (a ≡ true → c ≡ true) → (b ≡ true → d ≡ true) → (a || b) ≡ true → (c || d) ≡ true
either_first true b c d f g h = rw (f refl) refl
either_first false b true d f g h = refl
either_first false b false d f g h = g h

first_of_both : (a b : Bool) → (a && b) ≡ true → a ≡ true
first_of_both true b h = refl
first_of_both false b h = h

holds_first : (a b : Bool) → a ≡ true → (a || b) ≡ true
holds_first a b h = rw h refl

module _ (crosses pauses : List Ident → Bool) (calls : (path : List Ident) → crosses path ≡ true → pauses path ≡ true)
  where
    value_holds : (v : ValueTree) → value_crosses crosses v ≡ true → value_pauses pauses v ≡ true
    value_holds (star _) h = h
    value_holds (result path _) h = calls path h
    value_holds (plain _) h = h

    mutual
      stmt_holds : (s : StmtTree) → stmt_crosses crosses s ≡ true → stmt_pauses pauses s ≡ true
      stmt_holds (assign _ _ v) h = value_holds v h
      stmt_holds (invoke path _) h = calls path h
      stmt_holds (branch _ a b) h =
          holds_first (row_pauses pauses a) (row_pauses pauses b)
          (row_holds a (first_of_both (row_crosses crosses a) (row_crosses crosses b) h))
      stmt_holds (repeat _ _ _) h = absurd (cc)
      stmt_holds (forever _ body) h = row_holds body h
      stmt_holds (choose _ blocks) h = blocks_hold blocks h
      stmt_holds (assert _ _) h = absurd (cc)
      stmt_holds (assume _ _) h = absurd (cc)
      stmt_holds (pause _) h = refl
      stmt_holds (wait _ _) h = refl
      stmt_holds (magic _) h = refl

      row_holds : (r : StmtRow) → row_crosses crosses r ≡ true → row_pauses pauses r ≡ true
      row_holds nothing h = h
      row_holds (then first others) h =
          either_first (stmt_crosses crosses first) (row_crosses crosses others) (stmt_pauses pauses first)
          (row_pauses pauses others) (stmt_holds first) (row_holds others) h

      blocks_hold : (bs : BlockRow) → blocks_cross crosses bs ≡ true → block_pauses pauses bs ≡ true
      blocks_hold nowhere h = h
      blocks_hold (or_else last nowhere) h = holds_first (row_pauses pauses last) false (row_holds last h)
      blocks_hold (or_else first (or_else next others)) h =
          holds_first (row_pauses pauses first) (block_pauses pauses (or_else next others))
          (row_holds first (first_of_both (row_crosses crosses first) (blocks_cross crosses (or_else next others)) h))

    locals_hold : (ls : List LocalTree) → list_any (λ l. value_crosses crosses l.value) ls ≡ true →
        list_any (λ l. value_pauses pauses l.value) ls ≡ true
    locals_hold [] h = h
    locals_hold (l ∷ ls) h =
        either_first (value_crosses crosses l.value) (list_any (λ l. value_crosses crosses l.value) ls)
        (value_pauses pauses l.value) (list_any (λ l. value_pauses pauses l.value) ls) (value_holds l.value)
        (locals_hold ls) h

    stmts_hold : (ss : List StmtTree) → list_any (stmt_crosses crosses) ss ≡ true →
        list_any (stmt_pauses pauses) ss ≡ true
    stmts_hold [] h = h
    stmts_hold (s ∷ ss) h =
        either_first (stmt_crosses crosses s) (list_any (stmt_crosses crosses) ss) (stmt_pauses pauses s)
        (list_any (stmt_pauses pauses) ss) (stmt_holds s) (stmts_hold ss) h

    body_holds : (b : BodyTree) →
        (list_any (λ l. value_crosses crosses l.value) b.locals || list_any (stmt_crosses crosses) b.stmts) ≡ true →
        (list_any (λ l. value_pauses pauses l.value) b.locals || list_any (stmt_pauses pauses) b.stmts) ≡ true
    body_holds b h =
        either_first (list_any (λ l. value_crosses crosses l.value) b.locals) (list_any (stmt_crosses crosses) b.stmts)
        (list_any (λ l. value_pauses pauses l.value) b.locals) (list_any (stmt_pauses pauses) b.stmts)
        (locals_hold b.locals) (stmts_hold b.stmts) h

-- a body that is sure to cross, where calls nest at most so deep, may pause
pub crossing_pauses : (depth : ℕ) (spec : SpecTree) (t : TemplateTree) (b : BodyTree) →
    body_crosses depth spec t b ≡ true → body_pauses depth spec t b ≡ true
crossing_pauses zero spec t b h = h
crossing_pauses (suc depth) spec t b h =
    body_holds
    (λ path. option_map_or (λ k. body_crosses depth spec k.0 k.1.body) (task_reached spec t path) false)
    (λ path. option_map_or (λ k. body_pauses depth spec k.0 k.1.body) (task_reached spec t path) false)
    (λ path. of_task (crossing_pauses depth) (task_reached spec t path)) b h
  where
    of_task : ((spec : SpecTree) (t : TemplateTree) (b : BodyTree) → body_crosses depth spec t b ≡ true →
        body_pauses depth spec t b ≡ true) → (k : Option (TemplateTree × TaskTree)) →
        option_map_or (λ k. body_crosses depth spec k.0 k.1.body) k false ≡ true →
        option_map_or (λ k. body_pauses depth spec k.0 k.1.body) k false ≡ true
    of_task next None h = h
    of_task next (Some k) h = next spec k.0 k.1.body h
