-- A process has as many locations as its text counts.
use Rattle.std.proofs.Common.{◌≡◌, ℕ, ◌+◌, cond, List, [], ◌∷◌, ◌++◌, length, length-append, refl, arith}
use Rattle.std.specs.Prelude.{sum_by}
use Rattle.std.proofs.lemmas.List.Sums.{sum_by-append, sum_by-cons}
use Rattle.std.specs.List.{AllByRecursion}
use Rattle.tm_base.specs.declared.place.Place.{Place}
use Rattle.tm_syntax.specs.declared.tree.Ident.{Ident}
use Rattle.tm_syntax.specs.Tree.{StmtTree, assign, invoke, branch, repeat, forever, choose, assert, assume, pause, wait, magic, StmtRow, nothing, then, row_of, BlockRow, nowhere, or_else}
use Rattle.tm_syntax.specs.Scopes.Parts.{inner_stmts, row_stmts, block_stmts, all_stmts, value_calls, own_calls}
use Rattle.tm_syntax.specs.Faults.Crossings.{is_location}
use Rattle.tm_syntax.specs.Design.Locations.{Location, stmt_locations, row_locations, block_locations}
use Rattle.tm_syntax.specs.Design.Scope.{Scope}
use Rattle.tm_syntax.specs.Design.Work.{WorkItem, perform, performs}
use Rattle.tm_typing.proofs.Fitting.{all_of_both}

-- one for a location
abbrev pub of_location : StmtTree → ℕ
of_location s = cond (is_location s) 1 0

-- what is counted of a statement, given what is counted of calls
abbrev pub counted : (List Ident → ℕ) → StmtTree → ℕ
counted call s = of_location s + sum_by call (own_calls s)

-- a statement whose value calls nothing that is counted
abbrev pub HasQuietValue : (List Ident → ℕ) → StmtTree → Type 0
HasQuietValue call (assign _ _ v) = sum_by call (value_calls v) ≡ 0
HasQuietValue call _ = Unit {0}

-- where calls have as many locations as are counted, so have statements
module _ (within : List Ident → List WorkItem → List Location) (call : List Ident → ℕ) (scope : Scope)
    (trail : List Place) (same : (path : List Ident) (left : List WorkItem) → length (within path left) ≡ call path)
  where
    two-rows : (xs ys : List Location) (ss ts : List StmtTree) → length xs ≡ sum_by (counted call) ss →
        length ys ≡ sum_by (counted call) ts → length (xs ++ ys) ≡ sum_by (counted call) (ss ++ ts)
    two-rows xs ys ss ts first second =
        let long = length-append xs ys in
        let many = sum_by-append (counted call) ss ts in
        omega (arith, first, second, long, many)

    -- one that is no location and calls nothing
    mutual
      stmt-counted : (s : StmtTree) (after : List WorkItem) → AllByRecursion (HasQuietValue call) (s ∷ inner_stmts s) →
          length (stmt_locations within scope trail s after) ≡ sum_by (counted call) (s ∷ inner_stmts s)
      stmt-counted (assign names i v) after quiet =
          let one = sum_by-cons (counted call) (assign names i v) [] in
          let none = quiet.0 in
          omega (arith, one, none)
      stmt-counted (invoke path es) after quiet =
          let one = sum_by-cons (counted call) (invoke path es) [] in
          let many = same path after in
          let first = sum_by-cons call path [] in
          omega (arith, one, many, first)
      stmt-counted (branch e a b) after quiet =
          let one = sum_by-cons (counted call) (branch e a b) (row_stmts a ++ row_stmts b) in
          let parts = all_of_both (HasQuietValue call) (row_stmts a) (row_stmts b) quiet.1 in
          let rows = two-rows (row_locations within scope trail a after) (row_locations within scope trail b after)
          (row_stmts a) (row_stmts b) (row-counted a after parts.0) (row-counted b after parts.1) in
          omega (arith, one, rows)
      stmt-counted (repeat at e body) after quiet =
          let one = sum_by-cons (counted call) (repeat at e body) (row_stmts body) in
          let rows = row-counted body (perform scope trail (repeat at e body) ∷ after) quiet.1 in
          omega (arith, one, rows)
      stmt-counted (forever at body) after quiet =
          let one = sum_by-cons (counted call) (forever at body) (row_stmts body) in
          let rows = row-counted body (perform scope trail (forever at body) ∷ after) quiet.1 in
          omega (arith, one, rows)
      stmt-counted (choose at blocks) after quiet =
          let one = sum_by-cons (counted call) (choose at blocks) (block_stmts blocks) in
          let rows = block-counted blocks after quiet.1 in
          omega (arith, one, rows)
      stmt-counted (assert at e) after quiet =
          let one = sum_by-cons (counted call) (assert at e) [] in omega (arith, one)
      stmt-counted (assume at e) after quiet =
          let one = sum_by-cons (counted call) (assume at e) [] in omega (arith, one)
      stmt-counted (pause at) after quiet =
          let one = sum_by-cons (counted call) (pause at) [] in omega (arith, one)
      stmt-counted (wait at e) after quiet =
          let one = sum_by-cons (counted call) (wait at e) [] in omega (arith, one)
      stmt-counted (magic at) after quiet =
          let one = sum_by-cons (counted call) (magic at) [] in omega (arith, one)

      row-counted : (r : StmtRow) (after : List WorkItem) → AllByRecursion (HasQuietValue call) (row_stmts r) →
          length (row_locations within scope trail r after) ≡ sum_by (counted call) (row_stmts r)
      row-counted nothing after quiet = refl
      row-counted (then first others) after quiet =
          let parts = all_of_both (HasQuietValue call) (first ∷ inner_stmts first) (row_stmts others) quiet in
          two-rows (stmt_locations within scope trail first (performs scope trail others ++ after))
          (row_locations within scope trail others after) (first ∷ inner_stmts first) (row_stmts others)
          (stmt-counted first (performs scope trail others ++ after) parts.0) (row-counted others after parts.1)

      block-counted : (bs : BlockRow) (after : List WorkItem) → AllByRecursion (HasQuietValue call) (block_stmts bs) →
          length (block_locations within scope trail bs after) ≡ sum_by (counted call) (block_stmts bs)
      block-counted nowhere after quiet = refl
      block-counted (or_else first others) after quiet =
          let parts = all_of_both (HasQuietValue call) (row_stmts first) (block_stmts others) quiet in
          two-rows (row_locations within scope trail first after) (block_locations within scope trail others after)
          (row_stmts first) (block_stmts others) (row-counted first after parts.0) (block-counted others after parts.1)

    -- statements in a row, with those within them
    pub stmts-counted : (ss : List StmtTree) (after : List WorkItem) →
        AllByRecursion (HasQuietValue call) (all_stmts ss) →
        length (row_locations within scope trail (row_of ss) after) ≡ sum_by (counted call) (all_stmts ss)
    stmts-counted [] after quiet = refl
    stmts-counted (s ∷ ss) after quiet =
        let parts = all_of_both (HasQuietValue call) (s ∷ inner_stmts s) (all_stmts ss) quiet in
        two-rows (stmt_locations within scope trail s (performs scope trail (row_of ss) ++ after))
        (row_locations within scope trail (row_of ss) after) (s ∷ inner_stmts s) (all_stmts ss)
        (stmt-counted s (performs scope trail (row_of ss) ++ after) parts.0) (stmts-counted ss after parts.1)
