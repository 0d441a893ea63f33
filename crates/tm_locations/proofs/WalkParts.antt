-- What the parts of a body add to a walk, by the parts that are left for later.
use Rattle.std.proofs.Common.{◌≡◌, ℕ, suc, ◌+◌, ◌-◌, ◌<◌, ◌≤◌, Some, List, [], ◌∷◌, ◌++◌, Bor, drop, get_or, length, map, take, refl, sym, ap, ◌∙◌, subst, arith}
use Rattle.std.proofs.lemmas.List.{take_all}
use Rattle.std.specs.declared.alloc.Global.{Global}
use Rattle.std.specs.declared.vec.Vec.{Vec}
use Rattle.tm_base.specs.declared.place.Place.{Place}
use Rattle.tm_syntax.specs.declared.tree.Body.{Body}
use Rattle.tm_syntax.specs.declared.tree.Ident.{Ident}
use Rattle.tm_syntax.specs.declared.tree.Stmt.{Stmt}
use Rattle.tm_syntax.specs.Tree.{ExprTree, StmtTree, branch, choose, forever, repeat, row_of, alternatives_of}
use Rattle.tm_syntax.specs.Tree.View.{body_tree, stmt_tree, stmt_trees}
use Rattle.tm_syntax.specs.Design.{DesignTree}
use Rattle.tm_syntax.specs.Design.Locations.{Location, row_locations, stmt_locations}
use Rattle.tm_syntax.specs.Design.Cells.{called}
use Rattle.tm_syntax.specs.Design.Work.{WorkItem, call_place, perform, performs}
use Rattle.tm_syntax.specs.Scopes.Pauses.{call_depth}
use Rattle.std.specs.List.{AllZip}
use Rattle.std.specs.Option.{option_map}
use Rattle.tm_scope.specs.Cells.{scope_of}
use Rattle.tm_locations.specs.Locations.{IsRow, IsTrail, no_call, nothing_left}
use Rattle.tm_locations.proofs.WalkTables.{append-nil, walking-grows, walking-take}
use Rattle.tm_locations.specs.Inner.Walks.{WalkTables, IsGrown, IsWalking, IsWork, Owed, Settles, call_locations, part_locations, seen}
use Rattle.tm_locations.specs.Inner.Weights.{call_weight, part_weight, row_weight, stmt_weight, weight}
use Rattle.tm_locations.specs.declared.walk.Frame.{Frame}
use Rattle.tm_locations.specs.declared.walk.Row.{Row}
use Rattle.tm_locations.specs.declared.walk.Row.TheVariants.{Stmts, Blocks}
use Rattle.tm_locations.specs.declared.walk.Todo.{Todo}
use Rattle.tm_locations.proofs.WalkCalls.{entered, told}
use Rattle.tm_locations.proofs.WalkSteps.{settles-behind, settles-left, settles-none, settles-two}
use Rattle.tm_locations.proofs.WalkWeights.{weight-called, weight-left}

-- a row that is left for later behind all others
abbrev pub IsLeft : WalkTables → WalkTables → Frame → Row → ℕ → Type 0
IsLeft w v frame row after = v ≡ record w { todo = w.todo ++ record { frame = frame; row = row; after = after } ∷ [] }

-- a list begins with its first item
pub first-split : {X : Type 0} (xs : List X) (x : X) → 0 < length xs → x ≡ get_or xs 0 x →
    xs ≡ x ∷ take (length xs - 1) (drop 1 xs)
first-split [] x within is = absurd (omega arith)
first-split (y ∷ ys) x within is =
    ap (λ z. z ∷ ys) (sym is) ∙ ap (λ zs. x ∷ zs) (sym (take_all (length (y ∷ ys) - 1) ys (omega arith)))

module _ (d : DesignTree) (frame : Frame) where
  -- the locations of a statement, and of statements in a row
  abbrev pub of_stmt : StmtTree → List Place → List WorkItem → List Location
  of_stmt s trail items =
      stmt_locations (call_locations frame.depth d (scope_of frame.scope) trail) (scope_of frame.scope) trail s items

  abbrev pub of_row : List Stmt → List Place → List WorkItem → List Location
  of_row ss trail items =
      row_locations (call_locations frame.depth d (scope_of frame.scope) trail) (scope_of frame.scope) trail
      (row_of (stmt_trees ss)) items

  -- their steps
  abbrev pub stmt_steps : StmtTree → ℕ
  stmt_steps s = stmt_weight (call_weight frame.depth d (scope_of frame.scope)) s

  abbrev pub row_steps : List Stmt → ℕ
  row_steps ss = row_weight (call_weight frame.depth d (scope_of frame.scope)) (row_of (stmt_trees ss))

  module _ (w v : WalkTables) (after : ℕ) where
    -- along what is known of a statement or a row
    pub settles-stmt : (s t : StmtTree) → s ≡ t → Settles d w v frame after (of_stmt t) →
        Settles d w v frame after (of_stmt s)
    settles-stmt s t is = subst (λ s. Settles d w v frame after (of_stmt s)) (sym is)

    pub lighter-stmt : (s t : StmtTree) → s ≡ t → weight d v.todo ≤ weight d w.todo + stmt_steps t →
        weight d v.todo ≤ weight d w.todo + stmt_steps s
    lighter-stmt s t is = subst (λ s. weight d v.todo ≤ weight d w.todo + stmt_steps s) (sym is)

    pub settles-branch : (s : StmtTree) (e : ExprTree) (a b : Vec Stmt Global) (x y : Bor (List Stmt)) →
        s ≡ branch e (row_of (stmt_trees a.items)) (row_of (stmt_trees b.items)) → x.now ≡ a.items → y.now ≡ b.items →
        Settles d w v frame after
        (λ trail items. part_locations d frame (Stmts x) trail items ++ part_locations d frame (Stmts y) trail items) →
        Settles d w v frame after (of_stmt s)
    settles-branch s e a b x y is first second h =
        settles-stmt s (branch e (row_of (stmt_trees a.items)) (row_of (stmt_trees b.items))) is
        (subst (λ l. Settles d w v frame after (λ trail items. of_row a.items trail items ++ of_row l trail items))
        second
        (subst (λ l. Settles d w v frame after (λ trail items. of_row l trail items ++ of_row y.now trail items))
        first h))

    pub lighter-branch : (s : StmtTree) (e : ExprTree) (a b : Vec Stmt Global) (x y : Bor (List Stmt)) →
        s ≡ branch e (row_of (stmt_trees a.items)) (row_of (stmt_trees b.items)) → x.now ≡ a.items → y.now ≡ b.items →
        weight d v.todo ≡ weight d w.todo + (part_weight d frame (Stmts x) + part_weight d frame (Stmts y)) →
        weight d v.todo ≤ weight d w.todo + stmt_steps s
    lighter-branch s e a b x y is first second h =
        lighter-stmt s (branch e (row_of (stmt_trees a.items)) (row_of (stmt_trees b.items))) is
        (let one : row_steps x.now ≡ row_steps a.items = ap row_steps first in
        let two : row_steps y.now ≡ row_steps b.items = ap row_steps second in
        omega (arith, h, one, two))

    -- a loop, whose body is a vector
    pub settles-loop : (s loop : StmtTree) (a : Vec Stmt Global) (x : Bor (List Stmt)) → x.now ≡ a.items →
        Settles d w v frame after (λ trail items. part_locations d frame (Stmts x) trail
        (perform (scope_of frame.scope) trail s ∷ items)) → s ≡ loop →
        ((t : StmtTree) → t ≡ loop → Settles d w v frame after
        (λ trail items. of_row a.items trail (perform (scope_of frame.scope) trail t ∷ items)) →
        Settles d w v frame after (of_stmt loop)) →
        Settles d w v frame after (of_stmt s)
    settles-loop s loop a x body h is loops =
        settles-stmt s loop is (loops s is (subst (λ l. Settles d w v frame after
        (λ trail items. of_row l trail (perform (scope_of frame.scope) trail s ∷ items))) body h))

    pub settles-repeat : (s : StmtTree) (at : Place) (e : ExprTree) (a : Vec Stmt Global) (x : Bor (List Stmt)) →
        s ≡ repeat at e (row_of (stmt_trees a.items)) → x.now ≡ a.items →
        Settles d w v frame after (λ trail items. part_locations d frame (Stmts x) trail
        (perform (scope_of frame.scope) trail s ∷ items)) → Settles d w v frame after (of_stmt s)
    settles-repeat s at e a x is body h =
        settles-loop s (repeat at e (row_of (stmt_trees a.items))) a x body h is
        (λ t same. subst (λ t. Settles d w v frame after
        (λ trail items. of_row a.items trail (perform (scope_of frame.scope) trail t ∷ items))) same)

    pub settles-forever : (s : StmtTree) (at : Place) (a : Vec Stmt Global) (x : Bor (List Stmt)) →
        s ≡ forever at (row_of (stmt_trees a.items)) → x.now ≡ a.items →
        Settles d w v frame after (λ trail items. part_locations d frame (Stmts x) trail
        (perform (scope_of frame.scope) trail s ∷ items)) → Settles d w v frame after (of_stmt s)
    settles-forever s at a x is body h =
        settles-loop s (forever at (row_of (stmt_trees a.items))) a x body h is
        (λ t same. subst (λ t. Settles d w v frame after
        (λ trail items. of_row a.items trail (perform (scope_of frame.scope) trail t ∷ items))) same)

    -- a choice of blocks
    pub settles-choose : (s : StmtTree) (at : Place) (a : Vec (Vec Stmt Global) Global)
        (x : Bor (List (Vec Stmt Global))) →
        s ≡ choose at (alternatives_of (map (λ b. row_of (stmt_trees b.items)) a.items)) → x.now ≡ a.items →
        IsLeft w v frame (Blocks x) after → Settles d w v frame after (of_stmt s)
    settles-choose s at a x is blocks left =
        settles-stmt s (choose at (alternatives_of (map (λ b. row_of (stmt_trees b.items)) a.items))) is
        (subst (λ (l : List (Vec Stmt Global)). Settles d w v frame after
        (of_stmt (choose at (alternatives_of (map (λ b. row_of (stmt_trees b.items)) l))))) blocks
        (settles-left d w v frame (Blocks x) after left))

    pub lighter-choose : (s : StmtTree) (at : Place) (a : Vec (Vec Stmt Global) Global)
        (x : Bor (List (Vec Stmt Global))) →
        s ≡ choose at (alternatives_of (map (λ b. row_of (stmt_trees b.items)) a.items)) → x.now ≡ a.items →
        IsLeft w v frame (Blocks x) after → weight d v.todo ≤ weight d w.todo + stmt_steps s
    lighter-choose s at a x is blocks left =
        lighter-stmt s (choose at (alternatives_of (map (λ b. row_of (stmt_trees b.items)) a.items))) is
        (subst (λ (l : List (Vec Stmt Global)). weight d v.todo ≤ weight d w.todo
        + stmt_steps (choose at (alternatives_of (map (λ b. row_of (stmt_trees b.items)) l)))) blocks
        (let h = weight-left d w v frame (Blocks x) after left in omega (arith, h)))

  -- no statements, and no blocks
  module _ (w : WalkTables) (after : ℕ) where
    pub settles-no_row : (ss : Bor (List Stmt)) → ss.now ≡ [] →
        Settles d w w frame after (part_locations d frame (Stmts ss))
    settles-no_row ss none =
        settles-none d w w frame after (part_locations d frame (Stmts ss)) refl
        (λ trail items. ap (λ l. of_row l trail items) none)

    pub lighter-no_row : (ss : Bor (List Stmt)) → ss.now ≡ [] →
        weight d w.todo < weight d w.todo + part_weight d frame (Stmts ss)
    lighter-no_row ss none = let one : row_steps ss.now ≡ 1 = ap row_steps none in omega (arith, one)

    pub settles-no_blocks : (bs : Bor (List (Vec Stmt Global))) → bs.now ≡ [] →
        Settles d w w frame after (part_locations d frame (Blocks bs))
    settles-no_blocks bs none =
        settles-none d w w frame after (part_locations d frame (Blocks bs)) refl
        (λ trail items. ap (λ l. part_locations d frame (Blocks (record bs { now = l })) trail items) none)

    pub lighter-no_blocks : (bs : Bor (List (Vec Stmt Global))) → bs.now ≡ [] →
        weight d w.todo < weight d w.todo + part_weight d frame (Blocks bs)
    lighter-no_blocks bs none =
        let one : part_weight d frame (Blocks bs) ≡ 1 =
        ap (λ l. part_weight d frame (Blocks (record bs { now = l }))) none in
        omega (arith, one)

  -- the first statement of a row, and the others behind it
  module _ (w u x v : WalkTables) (after number : ℕ) (ss os : Bor (List Stmt)) (first : Stmt)
      (left : IsLeft w u frame (Stmts os) after) (are : ss.now ≡ first ∷ os.now) (grown : IsGrown u x) where
    pub settles-row : IsWork u x frame after number
        (λ trail items. performs (scope_of frame.scope) trail (row_of (stmt_trees os.now)) ++ items) →
        Settles d x v frame number (of_stmt (stmt_tree first)) →
        Settles d w v frame after (part_locations d frame (Stmts ss))
    settles-row work inner =
        subst (λ l. Settles d w v frame after (of_row l)) (sym are)
        (settles-two d w u v frame (Stmts os) after
        (λ trail items. of_stmt (stmt_tree first) trail
        (performs (scope_of frame.scope) trail (row_of (stmt_trees os.now)) ++ items)) left
        (settles-behind d u x v frame after number
        (λ trail items. performs (scope_of frame.scope) trail (row_of (stmt_trees os.now)) ++ items)
        (of_stmt (stmt_tree first)) grown work inner))

    pub lighter-row : weight d v.todo ≤ weight d x.todo + stmt_steps (stmt_tree first) →
        weight d v.todo < weight d w.todo + part_weight d frame (Stmts ss)
    lighter-row inner =
        subst (λ l. weight d v.todo < weight d w.todo + row_steps l) (sym are)
        (let h = weight-left d w u frame (Stmts os) after left in
        let same : weight d x.todo ≡ weight d u.todo = ap (weight d) grown.todo in
        omega (arith, inner, h, same))

  -- the first of some blocks, and the others behind it
  module _ (w u v : WalkTables) (after : ℕ) (bs os : Bor (List (Vec Stmt Global))) (first : Vec Stmt Global)
      (slice : Bor (List Stmt)) (left : IsLeft w u frame (Blocks os) after) (are : bs.now ≡ first ∷ os.now)
      (is : slice.now ≡ first.items) (leave : IsLeft u v frame (Stmts slice) after) where
    abbrev Blocked : List (Vec Stmt Global) → Bor (List (Vec Stmt Global))
    Blocked l = record bs { now = l }

    pub settles-blocks : Settles d w v frame after (part_locations d frame (Blocks bs))
    settles-blocks =
        subst (λ l. Settles d w v frame after (part_locations d frame (Blocks (Blocked l)))) (sym are)
        (subst (λ l. Settles d w v frame after
        (λ trail items. of_row l trail items ++ part_locations d frame (Blocks os) trail items)) is
        (settles-two d w u v frame (Blocks os) after (part_locations d frame (Stmts slice)) left
        (settles-left d u v frame (Stmts slice) after leave)))

    pub lighter-blocks : weight d v.todo < weight d w.todo + part_weight d frame (Blocks bs)
    lighter-blocks =
        subst (λ l. weight d v.todo < weight d w.todo + part_weight d frame (Blocks (Blocked l))) (sym are)
        (let one = weight-left d w u frame (Blocks os) after left in
        let two = weight-left d u v frame (Stmts slice) after leave in
        let same : row_steps slice.now ≡ row_steps first.items = ap row_steps is in
        omega (arith, one, two, same))

-- a called body, whose statements are left for later behind a trail with the call
module _ (d : DesignTree) (frame inner : Frame) (names : List Ident) (body : Body) (slice : Bor (List Stmt))
    (deeper : frame.depth ≡ suc inner.depth)
    (is : Some (seen (scope_of inner.scope) (body_tree body)) ≡ option_map told (called d (scope_of frame.scope) names))
    (stmts : slice.now ≡ body.stmts.items)
  where
    called-locations : (trail : List Place) (items : List WorkItem) →
        call_locations frame.depth d (scope_of frame.scope) trail names items
        ≡ part_locations d inner (Stmts slice) (call_place names ++ trail) items
    called-locations trail items =
        entered d (scope_of frame.scope) names (scope_of inner.scope) (body_tree body) is frame.depth inner.depth deeper
        trail items
        ∙ ap (λ l. of_row d inner l (call_place names ++ trail) items) (sym stmts)

    module _ (w u v : WalkTables) (after : ℕ) (grown : IsGrown w u) (left : IsLeft u v inner (Stmts slice) after) where
      pub settles-called : ((before : List Place) → IsTrail w.trails frame.trail before →
          IsTrail u.trails inner.trail (call_place names ++ before)) →
          Settles d w v frame after
          (λ trail items. call_locations frame.depth d (scope_of frame.scope) trail names items)
      settles-called entering = λ trail items all it ir deep walking.
          settles-left d u v inner (Stmts slice) after left (call_place names ++ trail) items all (entering trail it)
          (grown.rests after items ir) (omega (arith, deep, deeper))
          (subst (λ next. IsWalking d u next all) (called-locations trail items)
          (walking-grows d w u grown (call_locations frame.depth d (scope_of frame.scope) trail names items) all
          walking))

      pub lighter-called : weight d v.todo
          ≤ weight d w.todo + call_weight frame.depth d (scope_of frame.scope) names
      lighter-called =
          let all = weight-left d u v inner (Stmts slice) after left in
          let same : weight d u.todo ≡ weight d w.todo = ap (weight d) grown.todo in
          let steps : row_steps d inner slice.now ≡ row_steps d inner body.stmts.items = ap (row_steps d inner) stmts in
          let call = weight-called d (scope_of frame.scope) names (scope_of inner.scope) (body_tree body) is frame.depth
          inner.depth deeper in
          omega (arith, all, same, steps, call)

module _ (d : DesignTree) where
  -- a walk begins with all that is to be walked
  pub walking-begun : (w v : WalkTables) (frame : Frame) (row : Row) →
      w ≡ record { rows = []; rests = []; trails = []; todo = [] } → IsLeft w v frame row 0 → frame.trail ≡ 0 →
      frame.depth ≤ call_depth d.spec → IsWalking d v [] (part_locations d frame row [] [])
  walking-begun w v frame row empty left no_trail deep =
      settles-left d w v frame row 0 left [] [] (part_locations d frame row [] [])
      (subst (λ k. IsTrail w.trails k []) (sym no_trail) no_call) nothing_left deep
      (subst (λ w. IsWalking d w (part_locations d frame row [] []) (part_locations d frame row [] [])) (sym empty)
      (record {
        found = [];
        left = [];
        are = sym (append-nil (part_locations d frame row [] []));
        rows = tt;
        owed = refl;
      }))

  -- one part is taken and walked
  pub walking-stepped : (w v x : WalkTables) (t : Todo) (all : List Location) →
      w ≡ record v { todo = v.todo ++ t ∷ [] } → IsWalking d w [] all →
      Settles d v x t.frame t.after (part_locations d t.frame t.row) → IsWalking d x [] all
  walking-stepped w v x t all is walking settles =
      let taken = walking-take d w v t all is walking in
      let todo = taken.1 in
      settles todo.trail todo.items all todo.is_trail todo.is_rest todo.deep
      (subst (λ l. IsWalking d v l all) todo.are taken.2)

  pub lighter-stepped : (w v x : WalkTables) (t : Todo) → w ≡ record v { todo = v.todo ++ t ∷ [] } →
      weight d x.todo < weight d v.todo + part_weight d t.frame t.row → weight d x.todo < weight d w.todo
  lighter-stepped w v x t is less =
      let h = weight-left d v w t.frame t.row t.after is in omega (arith, h, less)

  -- where nothing is left to be walked, all is found
  pub walking-ended : (w : WalkTables) (all : List Location) → w.todo ≡ [] → IsWalking d w [] all →
      AllZip (IsRow w.trails w.rests) w.rows all
  walking-ended w all none walking =
      let nothing : walking.left ≡ [] =
      subst (λ ts. Owed d w.trails w.rests ts walking.left) none walking.owed in
      subst (λ ls. AllZip (IsRow w.trails w.rests) w.rows ls)
      (sym (walking.are ∙ ap (λ ls. walking.found ++ ls) nothing ∙ append-nil walking.found)) walking.rows
