-- The steps of a walk: what each settles, and how many are left.
use Rattle.std.proofs.Common.{◌≡◌, ℕ, suc, ◌+◌, ◌-◌, ◌<◌, ◌≤◌, Bool, true, false, None, Some, List, [], ◌∷◌, ◌++◌, Bor, append-nil, drop, take, get_or, length, map, refl, sym, ap, ◌∙◌, subst, arith}
use Rattle.std.specs.List.{flat_map}
use Rattle.std.proofs.lemmas.List.{length-map, take_all}
use Rattle.std.proofs.lemmas.List.Concat.{flat_map-append}
use Rattle.std.specs.declared.alloc.Global.{Global}
use Rattle.std.specs.declared.vec.Vec.{Vec}
use Rattle.tm_syntax.specs.declared.tree.LocalDef.{LocalDef}
use Rattle.tm_syntax.specs.declared.tree.Stmt.{Stmt}
use Rattle.tm_syntax.specs.Tree.{ExprTree, StmtTree, assign, StmtRow, nothing, then, BlockRow, nowhere, or_else, BodyTree, row_of, alternatives_of}
use Rattle.tm_syntax.specs.Tree.View.{local_tree, stmt_tree, stmt_trees, value_tree}
use Rattle.tm_syntax.specs.Scopes.Parts.{all_stmts, block_stmts, inner_stmts, own_calls, row_stmts, stmts_in}
use Rattle.tm_syntax.specs.Scopes.Pauses.{call_depth}
use Rattle.tm_syntax.specs.Design.{DesignTree}
use Rattle.tm_syntax.specs.Design.Atoms.{Atom, body_atoms, expr_atoms, stmt_conditions}
use Rattle.tm_syntax.specs.Design.Cells.{Called}
use Rattle.tm_syntax.specs.Design.Scope.{Scope, Site, site}
use Rattle.tm_scope.specs.Cells.{CellTables, HasCells, scope_of}
use Rattle.tm_scope.specs.declared.cells.site_body.SiteBody.{SiteBody}
use Rattle.tm_scope.specs.declared.members.SiteTask.{SiteTask}
use Rattle.tm_atoms.specs.declared.walk.Row.{Row}
use Rattle.tm_atoms.specs.declared.walk.Row.TheVariants.{Locals, Stmts, Blocks}
use Rattle.tm_atoms.specs.declared.walk.Todo.{Todo}
use Rattle.tm_atoms.specs.Pool.{with_atoms}
use Rattle.tm_atoms.specs.Inner.Pools.{Adds, noted_atoms}
use Rattle.tm_atoms.specs.Inner.Walks.{HasNoted, IsIdle, IsRoot, IsTaskNoted, IsWalking, Leads, Owes, Settles, WalkTables, call_atoms, has_entered, part_stmts, stmts_atoms}
use Rattle.tm_atoms.specs.Inner.Weights.{block_weight, part_weight, row_weight, stmt_weight, todo_weight, unentered_weight, weight}
use Rattle.tm_atoms.proofs.Noting.{all-later}
use Rattle.tm_atoms.proofs.Walking.{owes-noted, settles-left, settles-nothing}

-- a part of a scope, as it is left for later
abbrev pub part : SiteBody → Row → Todo
part scope row = record { scope = scope; row = row }

-- the statements of a row
rows-are : (ss : List StmtTree) → row_stmts (row_of ss) ≡ all_stmts ss
rows-are [] = refl
rows-are (s ∷ ss) = ap (λ rest. s ∷ (inner_stmts s ++ rest)) (rows-are ss)

-- the statements of blocks
blocks-are : (bs : List (Vec Stmt Global)) →
    block_stmts (alternatives_of (map (λ b. row_of (stmt_trees b.items)) bs))
    ≡ flat_map (λ b. all_stmts (stmt_trees b.items)) bs
blocks-are [] = refl
blocks-are (b ∷ bs) = λ i. rows-are (stmt_trees b.items) i ++ blocks-are bs i

-- the atoms of a condition
pub condition-atoms : {X : Type 0} (xs : List X) → ((xs ++ []) ++ []) ++ [] ≡ xs
condition-atoms xs = append-nil ((xs ++ []) ++ []) ∙ append-nil (xs ++ []) ∙ append-nil xs

module _ (d : DesignTree) (rank : Scope → ℕ) where
  -- a part that is left for later
  pub settles-pushed : (w v : WalkTables) (t : Todo) → v ≡ record w { todo = t ∷ w.todo } →
      Settles d rank w v (scope_of t.scope) (part_stmts t.row)
  settles-pushed w v t is = λ all numbered owes.
      subst (λ v. IsWalking d rank all v) (sym is) (record { numbered = numbered; leads = owes })

  -- a statement whose atoms are noted
  pub settles-noted : (w v : WalkTables) (scope : Scope) (s : StmtTree) (atoms : List Atom) →
      stmts_atoms d scope (s ∷ []) ≡ atoms → v.entered ≡ w.entered → v.todo ≡ w.todo →
      ((at : Site) → site d scope.instance ≡ Some at → Adds d w.pool v.pool atoms) →
      Settles d rank w v scope (s ∷ [])
  settles-noted w v scope s atoms are entered todo adds = λ all numbered owes.
      let added = adds owes.at owes.there numbered in
      record {
        numbered = added.numbered;
        leads = subst (λ tasks. Leads d rank all v.todo (noted_atoms v.pool) tasks) (sym entered)
            (subst (λ ts. Leads d rank all ts (noted_atoms v.pool) w.entered) (sym todo)
            (owes-noted d rank scope (noted_atoms w.pool) w.entered
            (λ later tasks. Leads d rank all w.todo later tasks) (s ∷ []) owes (noted_atoms v.pool)
            (added.are ∙ ap (with_atoms d (noted_atoms w.pool)) (sym are))));
      }

  -- a statement without atoms
  pub settles-quiet : (w : WalkTables) (scope : Scope) (s : StmtTree) → stmts_atoms d scope (s ∷ []) ≡ [] →
      Settles d rank w w scope (s ∷ [])
  settles-quiet w scope s none = λ all numbered owes. record {
    numbered = numbered;
    leads = owes-noted d rank scope (noted_atoms w.pool) w.entered
        (λ later tasks. Leads d rank all w.todo later tasks) (s ∷ []) owes (noted_atoms w.pool)
        (ap (with_atoms d (noted_atoms w.pool)) (sym none));
  }

  -- a statement whose condition is noted
  pub settles-condition : (x : CellTables) → HasCells x d → (w v : WalkTables) (scope : Scope) (s : StmtTree)
      (e : ExprTree) → stmt_conditions s ≡ e ∷ [] → own_calls s ≡ [] → HasNoted x w v scope e →
      Settles d rank w v scope (s ∷ [])
  settles-condition x over w v scope s e conditions calls noted =
      settles-noted w v scope s (expr_atoms d scope e)
      ((λ i. (flat_map (expr_atoms d scope) (conditions i) ++ flat_map (call_atoms d scope) (calls i)) ++ [])
      ∙ condition-atoms (expr_atoms d scope e)) noted.entered noted.todo (noted.adds d over)

  -- a statement without conditions and calls
  pub settles-plain : (w : WalkTables) (scope : Scope) (s : StmtTree) → stmt_conditions s ≡ [] → own_calls s ≡ [] →
      Settles d rank w w scope (s ∷ [])
  settles-plain w scope s conditions calls =
      settles-quiet w scope s
      (λ i. (flat_map (expr_atoms d scope) (conditions i) ++ flat_map (call_atoms d scope) (calls i)) ++ [])

  -- a statement, by another one that it is
  pub settles-stmt : (w v : WalkTables) (scope : Scope) (s t : StmtTree) → s ≡ t →
      Settles d rank w v scope (t ∷ inner_stmts t) → Settles d rank w v scope (s ∷ inner_stmts s)
  settles-stmt w v scope s t is settled =
      subst (λ s. Settles d rank w v scope (s ∷ inner_stmts s)) (sym is) settled

  module _ (w u v : WalkTables) (scope : SiteBody) where
    -- the first of some locals
    pub settles-locals : (ls others : Bor (List LocalDef)) (first : LocalDef) → ls.now ≡ first ∷ others.now →
        u ≡ record w { todo = part scope (Locals others) ∷ w.todo } →
        Settles d rank u v (scope_of scope) (assign (first.name ∷ []) None (value_tree first.value) ∷ []) →
        Settles d rank w v (scope_of scope) (part_stmts (Locals ls))
    settles-locals ls others first are left inner =
        subst (λ l. Settles d rank w v (scope_of scope)
        (all_stmts (map (λ l. assign (l.name ∷ []) None l.value) (map local_tree l)))) (sym are)
        (settles-left d rank w u v (part scope (Locals others))
        (assign (first.name ∷ []) None (value_tree first.value) ∷ []) left inner)

    -- the first of some statements
    pub settles-row : (ss others : Bor (List Stmt)) (first : Stmt) → ss.now ≡ first ∷ others.now →
        u ≡ record w { todo = part scope (Stmts others) ∷ w.todo } →
        Settles d rank u v (scope_of scope) (stmt_tree first ∷ inner_stmts (stmt_tree first)) →
        Settles d rank w v (scope_of scope) (part_stmts (Stmts ss))
    settles-row ss others first are left inner =
        subst (λ l. Settles d rank w v (scope_of scope) (all_stmts (stmt_trees l))) (sym are)
        (settles-left d rank w u v (part scope (Stmts others))
        (stmt_tree first ∷ inner_stmts (stmt_tree first)) left inner)

    -- the first of some blocks
    pub settles-blocks : (bs others : Bor (List (Vec Stmt Global))) (first : Vec Stmt Global)
        (slice : Bor (List Stmt)) → bs.now ≡ first ∷ others.now → slice.now ≡ first.items →
        u ≡ record w { todo = part scope (Blocks others) ∷ w.todo } →
        v ≡ record u { todo = part scope (Stmts slice) ∷ u.todo } →
        Settles d rank w v (scope_of scope) (part_stmts (Blocks bs))
    settles-blocks bs others first slice are is left leave =
        subst (λ l. Settles d rank w v (scope_of scope) (flat_map (λ b. all_stmts (stmt_trees b.items)) l)) (sym are)
        (subst (λ l. Settles d rank w v (scope_of scope)
        (all_stmts (stmt_trees l) ++ flat_map (λ b. all_stmts (stmt_trees b.items)) others.now)) is
        (settles-left d rank w u v (part scope (Blocks others)) (all_stmts (stmt_trees slice.now)) left
        (settles-pushed u v (part scope (Stmts slice)) leave)))

    -- a statement before a row that it holds
    pub settles-held : (s : StmtTree) (slice : Bor (List Stmt)) →
        u ≡ record w { todo = part scope (Stmts slice) ∷ w.todo } → Settles d rank u v (scope_of scope) (s ∷ []) →
        Settles d rank w v (scope_of scope) (s ∷ part_stmts (Stmts slice))
    settles-held s slice left inner = settles-left d rank w u v (part scope (Stmts slice)) (s ∷ []) left inner

    -- a statement before a row that it holds, where the row is a vector
    pub settles-vector : (s : StmtTree) (a : Vec Stmt Global) (slice : Bor (List Stmt)) → slice.now ≡ a.items →
        Settles d rank w v (scope_of scope) (s ∷ part_stmts (Stmts slice)) →
        Settles d rank w v (scope_of scope) (s ∷ row_stmts (row_of (stmt_trees a.items)))
    settles-vector s a slice is held =
        subst (λ ss. Settles d rank w v (scope_of scope) (s ∷ ss))
        (ap (λ l. all_stmts (stmt_trees l)) is ∙ sym (rows-are (stmt_trees a.items))) held

    -- a statement before blocks that it holds
    pub settles-choice : (s : StmtTree) (a : Vec (Vec Stmt Global) Global) (slice : Bor (List (Vec Stmt Global))) →
        slice.now ≡ a.items → u ≡ record w { todo = part scope (Blocks slice) ∷ w.todo } →
        Settles d rank u v (scope_of scope) (s ∷ []) →
        Settles d rank w v (scope_of scope)
        (s ∷ block_stmts (alternatives_of (map (λ b. row_of (stmt_trees b.items)) a.items)))
    settles-choice s a slice is left inner =
        subst (λ ss. Settles d rank w v (scope_of scope) (s ∷ ss))
        (ap (flat_map (λ (b : Vec Stmt Global). all_stmts (stmt_trees b.items))) is ∙ sym (blocks-are a.items))
        (settles-left d rank w u v (part scope (Blocks slice)) (s ∷ []) left inner)

  -- a statement before two rows that it holds
  pub settles-branches : (w u v x : WalkTables) (scope : SiteBody) (s : StmtTree) (first second : Bor (List Stmt)) →
      u ≡ record w { todo = part scope (Stmts second) ∷ w.todo } →
      v ≡ record u { todo = part scope (Stmts first) ∷ u.todo } →
      Settles d rank v x (scope_of scope) (s ∷ []) →
      Settles d rank w x (scope_of scope) (s ∷ (part_stmts (Stmts first) ++ part_stmts (Stmts second)))
  settles-branches w u v x scope s first second left leave inner =
      settles-left d rank w u x (part scope (Stmts second)) (s ∷ part_stmts (Stmts first)) left
      (settles-held u v x scope s first leave inner)

  -- a statement before two rows that it holds, where the rows are vectors
  pub settles-vectors : (w x : WalkTables) (scope : SiteBody) (s : StmtTree) (a b : Vec Stmt Global)
      (first second : Bor (List Stmt)) → first.now ≡ a.items → second.now ≡ b.items →
      Settles d rank w x (scope_of scope) (s ∷ (part_stmts (Stmts first) ++ part_stmts (Stmts second))) →
      Settles d rank w x (scope_of scope)
      (s ∷ (row_stmts (row_of (stmt_trees a.items)) ++ row_stmts (row_of (stmt_trees b.items))))
  settles-vectors w x scope s a b first second is_first is_second held =
      subst (λ ss. Settles d rank w x (scope_of scope) (s ∷ ss))
      (λ i. (ap (λ l. all_stmts (stmt_trees l)) is_first ∙ sym (rows-are (stmt_trees a.items))) i
      ++ (ap (λ l. all_stmts (stmt_trees l)) is_second ∙ sym (rows-are (stmt_trees b.items))) i) held

  -- a body that is left to be walked next
  pub settles-body : (w u v : WalkTables) (scope : SiteBody) (locals : List LocalDef) (stmts : List Stmt)
      (ls : Bor (List LocalDef)) (ss : Bor (List Stmt)) → ls.now ≡ locals → ss.now ≡ stmts →
      u ≡ record w { todo = part scope (Stmts ss) ∷ w.todo } →
      v ≡ record u { todo = part scope (Locals ls) ∷ u.todo } →
      Settles d rank w v (scope_of scope)
      (all_stmts (map (λ l. assign (l.name ∷ []) None l.value) (map local_tree locals) ++ stmt_trees stmts))
  settles-body w u v scope locals stmts ls ss is_locals is_stmts left leave =
      subst (λ all. Settles d rank w v (scope_of scope) all)
      ((λ i. all_stmts (map (λ l. assign (l.name ∷ []) None l.value) (map local_tree (is_locals i)))
      ++ all_stmts (stmt_trees (is_stmts i)))
      ∙ sym (flat_map-append (λ (s : StmtTree). s ∷ inner_stmts s)
      (map (λ l. assign (l.name ∷ []) None l.value) (map local_tree locals)) (stmt_trees stmts)))
      (settles-left d rank w u v (part scope (Stmts ss)) (part_stmts (Locals ls)) left
      (settles-pushed u v (part scope (Locals ls)) leave))

module _ (d : DesignTree) where
  -- the steps of a part that is left for later
  pub weight-left : (w u : WalkTables) (t : Todo) → u ≡ record w { todo = t ∷ w.todo } →
      weight d u ≡ weight d w + part_weight t.row
  weight-left w u t is =
      let more : (part_weight t.row + todo_weight w.todo) + unentered_weight d w.entered
      ≡ (todo_weight w.todo + unentered_weight d w.entered) + part_weight t.row = omega arith in
      ap (weight d) is ∙ more

  -- the first of a part, and the others left for later
  pub lighter-first : (w u v : WalkTables) (t : Todo) (first whole : ℕ) → u ≡ record w { todo = t ∷ w.todo } →
      whole ≡ 1 + (first + part_weight t.row) → weight d v ≤ weight d u + first → weight d v < weight d w + whole
  lighter-first w u v t first whole left is inner = let e = weight-left w u t left in omega (arith, e, is, inner)

  -- one part that a statement holds
  pub lighter-held : (w u v : WalkTables) (t : Todo) (whole : ℕ) → u ≡ record w { todo = t ∷ w.todo } →
      part_weight t.row ≡ whole → weight d v ≤ weight d u → weight d v ≤ weight d w + whole
  lighter-held w u v t whole left is inner = let e = weight-left w u t left in omega (arith, e, is, inner)

  -- two of them
  pub lighter-branches : (w u v x : WalkTables) (t s : Todo) (first second : ℕ) → u ≡ record w { todo = t ∷ w.todo } →
      v ≡ record u { todo = s ∷ u.todo } → part_weight t.row ≡ second → part_weight s.row ≡ first →
      weight d x ≤ weight d v → weight d x ≤ weight d w + (first + second)
  lighter-branches w u v x t s first second left leave is_second is_first inner =
      let e = weight-left w u t left in
      let f = weight-left u v s leave in
      omega (arith, e, f, is_first, is_second, inner)

  -- a body that is left to be walked next
  pub weight-body : (w u v : WalkTables) (scope : SiteBody) (locals : List LocalDef) (stmts : List Stmt)
      (ls : Bor (List LocalDef)) (ss : Bor (List Stmt)) → ls.now ≡ locals → ss.now ≡ stmts →
      u ≡ record w { todo = part scope (Stmts ss) ∷ w.todo } →
      v ≡ record u { todo = part scope (Locals ls) ∷ u.todo } →
      weight d v ≡ weight d w + ((1 + length (map local_tree locals)) + row_weight (row_of (stmt_trees stmts)))
  weight-body w u v scope locals stmts ls ss is_locals is_stmts left leave =
      let e = weight-left w u (part scope (Stmts ss)) left in
      let f = weight-left u v (part scope (Locals ls)) leave in
      let one : length ls.now ≡ length (map local_tree locals) =
      ap length is_locals ∙ sym (length-map locals local_tree) in
      let two : row_weight (row_of (stmt_trees ss.now)) ≡ row_weight (row_of (stmt_trees stmts)) =
      ap (λ l. row_weight (row_of (stmt_trees l))) is_stmts in
      omega (arith, e, f, one, two)

  -- nothing has changed but the pool
  pub weight-same : (w v : WalkTables) → v.entered ≡ w.entered → v.todo ≡ w.todo → weight d v ≤ weight d w
  weight-same w v entered todo =
      let e : weight d v ≡ weight d w = λ i. todo_weight (todo i) + unentered_weight d (entered i) in omega (arith, e)

-- nothing is left of a part
pub settles-empty : (d : DesignTree) (rank : Scope → ℕ) (w : WalkTables) (scope : Scope) (ss : List StmtTree) →
    ss ≡ [] →
    Settles d rank w w scope ss
settles-empty d rank w scope ss none = subst (λ ss. Settles d rank w w scope ss) (sym none)
    (settles-nothing d rank w scope)

row-some : (r : StmtRow) → 1 ≤ row_weight r
row-some nothing = omega arith
row-some (then first others) = omega arith

blocks-some : (bs : BlockRow) → 1 ≤ block_weight bs
blocks-some nowhere = omega arith
blocks-some (or_else first others) = omega arith

-- each part is a step
pub part-some : (d : DesignTree) (w : WalkTables) (row : Row) → weight d w < weight d w + part_weight row
part-some d w (Locals ls) = omega arith
part-some d w (Stmts ss) = omega (arith, row-some (row_of (stmt_trees ss.now)))
part-some d w (Blocks bs) = omega (arith, blocks-some (alternatives_of (map (λ b. row_of (stmt_trees b.items)) bs.now)))

-- a list begins with its first item
pub first-split : {X : Type 0} (xs : List X) (x : X) → 0 < length xs → x ≡ get_or xs 0 x →
    xs ≡ x ∷ take (length xs - 1) (drop 1 xs)
first-split [] x within is = absurd (omega arith)
first-split (y ∷ ys) x within is =
    ap (λ z. z ∷ ys) (sym is) ∙ ap (λ zs. x ∷ zs) (sym (take_all (length (y ∷ ys) - 1) ys (omega arith)))

module _ (d : DesignTree) (w u v : WalkTables) (scope : SiteBody) where
  -- the first of some locals
  pub lighter-locals : (ls others : Bor (List LocalDef)) (first : LocalDef) → ls.now ≡ first ∷ others.now →
      u ≡ record w { todo = part scope (Locals others) ∷ w.todo } → weight d v ≤ weight d u →
      weight d v < weight d w + part_weight (Locals ls)
  lighter-locals ls others first are left inner =
      let e = weight-left d w u (part scope (Locals others)) left in
      let count : length ls.now ≡ suc (length others.now) = ap length are in
      omega (arith, e, count, inner)

  -- the first of some blocks
  pub lighter-blocks : (bs others : Bor (List (Vec Stmt Global))) (first : Vec Stmt Global) (slice : Bor (List Stmt)) →
      bs.now ≡ first ∷ others.now → slice.now ≡ first.items →
      u ≡ record w { todo = part scope (Blocks others) ∷ w.todo } →
      v ≡ record u { todo = part scope (Stmts slice) ∷ u.todo } → weight d v < weight d w + part_weight (Blocks bs)
  lighter-blocks bs others first slice are is left leave =
      let e = weight-left d w u (part scope (Blocks others)) left in
      let f = weight-left d u v (part scope (Stmts slice)) leave in
      let one : row_weight (row_of (stmt_trees slice.now)) ≡ row_weight (row_of (stmt_trees first.items)) =
      ap (λ l. row_weight (row_of (stmt_trees l))) is in
      let whole : part_weight (Blocks bs)
      ≡ 1 + (row_weight (row_of (stmt_trees first.items)) + part_weight (Blocks others)) =
      ap (λ l. block_weight (alternatives_of (map (λ (b : Vec Stmt Global). row_of (stmt_trees b.items)) l))) are in
      omega (arith, e, f, one, whole)

module _ (d : DesignTree) (rank : Scope → ℕ) (all : List Atom) (w : WalkTables) where
  -- what is to be walked next is walked
  pub walking-stepped : (ts : List Todo) (t : Todo) (u : WalkTables) → w.todo ≡ t ∷ ts → IsWalking d rank all w →
      Settles d rank (record w { todo = ts }) u (scope_of t.scope) (part_stmts t.row) → IsWalking d rank all u
  walking-stepped ts t u is walking settled =
      settled all walking.numbered
      (subst (λ ts. Leads d rank all ts (noted_atoms w.pool) w.entered) is walking.leads)

  -- nothing is to be walked any more
  pub walking-ended : w.todo ≡ [] → IsWalking d rank all w → IsIdle d w × (noted_atoms w.pool ≡ all)
  walking-ended none walking =
      let end = subst (λ ts. Leads d rank all ts (noted_atoms w.pool) w.entered) none walking.leads in
      (record { numbered = walking.numbered; noted = end.1; todo = none }, end.0)

-- a step makes a walk lighter
pub lighter-stepped : (d : DesignTree) (w u : WalkTables) (ts : List Todo) (t : Todo) → w.todo ≡ t ∷ ts →
    weight d u < weight d (record w { todo = ts }) + part_weight t.row → weight d u < weight d w
lighter-stepped d w u ts t is less =
    let e : todo_weight w.todo ≡ part_weight t.row + todo_weight ts = ap todo_weight is in omega (arith, e, less)

-- a body is to be walked where nothing else is
pub owes-root : (d : DesignTree) (rank : Scope → ℕ) (w : WalkTables) (scope : Scope) (body : BodyTree) →
    IsRoot d rank (scope, body) → IsIdle d w →
    Owes d rank scope (stmts_in body) (noted_atoms w.pool) w.entered
    (λ later entered. Leads d rank
    (with_atoms d (noted_atoms w.pool) (stmts_atoms d scope (stmts_in body))) w.todo later entered)
owes-root d rank w scope body root idle = record {
  at = root.at;
  there = root.there;
  descend = root.descend;
  lower = λ task k among called below. idle.noted task k among called;
  goes = λ later entered is noted.
      subst (λ ts. Leads d rank (with_atoms d (noted_atoms w.pool) (stmts_atoms d scope (stmts_in body))) ts later
      entered)
      (sym idle.todo) (
        is,
        λ task k among called.
            by later is task k (has_entered w.entered task) refl (λ before. idle.noted task k before called)
            (λ before. noted task k among before called),
      );
}
  where
    by : (later : List Atom) → later ≡ with_atoms d (noted_atoms w.pool) (stmts_atoms d scope (stmts_in body)) →
        (task : SiteTask) (k : Called) (b : Bool) → has_entered w.entered task ≡ b →
        (has_entered w.entered task ≡ true → IsTaskNoted d (noted_atoms w.pool) k) →
        (has_entered w.entered task ≡ false → IsTaskNoted d later k) → IsTaskNoted d later k
    by later is task k true e old new =
        subst (λ pool. IsTaskNoted d pool k) (sym is)
        (all-later d (noted_atoms w.pool) (stmts_atoms d scope (stmts_in body))
        (body_atoms (call_depth d.spec) d k.scope k.body) (old e))
    by later is task k false e old new = new e

-- the steps of a statement, by another one that it is
pub lighter-stmt : (d : DesignTree) (w v : WalkTables) (s t : StmtTree) → s ≡ t →
    weight d v ≤ weight d w + stmt_weight t → weight d v ≤ weight d w + stmt_weight s
lighter-stmt d w v s t is less = subst (λ s. weight d v ≤ weight d w + stmt_weight s) (sym is) less

-- the steps of a row that is a vector
pub row-weight : (a : Vec Stmt Global) (slice : Bor (List Stmt)) → slice.now ≡ a.items →
    part_weight (Stmts slice) ≡ row_weight (row_of (stmt_trees a.items))
row-weight a slice is = ap (λ l. row_weight (row_of (stmt_trees l))) is

-- and of blocks
pub blocks-weight : (a : Vec (Vec Stmt Global) Global) (slice : Bor (List (Vec Stmt Global))) → slice.now ≡ a.items →
    part_weight (Blocks slice) ≡ block_weight (alternatives_of (map (λ b. row_of (stmt_trees b.items)) a.items))
blocks-weight a slice is =
    ap (λ l. block_weight (alternatives_of (map (λ (b : Vec Stmt Global). row_of (stmt_trees b.items)) l))) is
