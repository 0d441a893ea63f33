-- What bodies weigh, by what the bodies that they call do.
use Rattle.std.proofs.Common.{◌≡◌, ℕ, zero, suc, ◌+◌, ◌<◌, None, List, [], ◌∷◌, ◌++◌, length, map, take, get_or, refl, sym, ap, ◌∙◌, arith}
use Rattle.std.specs.Prelude.{Contains, sum_by}
use Rattle.std.specs.List.{flat_map}
use Rattle.std.specs.Option.{option_map_or}
use Rattle.std.specs.declared.alloc.Global.{Global}
use Rattle.std.specs.declared.vec.Vec.{Vec}
use Rattle.std.proofs.lemmas.List.Concat.{flat_map-append}
use Rattle.std.proofs.lemmas.List.Sums.{sum_by-append, sum_by-cons}
use Rattle.tm_syntax.specs.declared.tree.Ident.{Ident}
use Rattle.tm_syntax.specs.declared.tree.LocalDef.{LocalDef}
use Rattle.tm_syntax.specs.declared.tree.Stmt.{Stmt}
use Rattle.tm_syntax.specs.Tree.{LocalTree, StmtTree, alternatives_of, assign, row_of}
use Rattle.tm_syntax.specs.Tree.View.{local_tree, stmt_tree, stmt_trees, value_tree}
use Rattle.tm_syntax.specs.Scopes.Calls.{body_calls, callee}
use Rattle.tm_syntax.specs.Scopes.Parts.{BodyAt, all_stmts, block_stmts, inner_stmts, own_calls, row_stmts, stmts_in, value_calls}
use Rattle.tm_syntax.specs.Counts.Bodies.{weight_below}
use Rattle.tm_limits.specs.Amount.{capped}
use Rattle.tm_limits.specs.Inner.Weights.{WeightTable, call_weight, sum_weights, weight_of}
use Rattle.tm_limits.proofs.Sums.{sum_more}

-- ---- rows and blocks

-- what a statement weighs, with those within it
abbrev pub stmt_sum : WeightTable → Stmt → ℕ
stmt_sum x s = sum_weights x (stmt_tree s ∷ inner_stmts (stmt_tree s))

-- what a row of statements weighs
abbrev pub row_sum : WeightTable → List Stmt → ℕ
row_sum x ss = sum_weights x (row_stmts (row_of (stmt_trees ss)))

pub row_sum-is : (x : WeightTable) (ss : List Stmt) → row_sum x ss ≡ sum_by (stmt_sum x) ss
row_sum-is x [] = refl
row_sum-is x (s ∷ ss) =
    sum_by-append (λ s. weight_of x.weight s + sum_by (call_weight x) (own_calls s))
    (stmt_tree s ∷ inner_stmts (stmt_tree s)) (row_stmts (row_of (stmt_trees ss)))
    ∙ ap (λ n. stmt_sum x s + n) (row_sum-is x ss) ∙ sym (sum_by-cons (stmt_sum x) s ss)

pub block_sum-is : (x : WeightTable) (bs : List (Vec Stmt Global)) →
    sum_weights x (block_stmts (alternatives_of (map (λ b. row_of (stmt_trees b.items)) bs)))
    ≡ sum_by (λ b. row_sum x b.items) bs
block_sum-is x [] = refl
block_sum-is x (b ∷ bs) =
    sum_by-append (λ s. weight_of x.weight s + sum_by (call_weight x) (own_calls s))
    (row_stmts (row_of (stmt_trees b.items)))
    (block_stmts (alternatives_of (map (λ b. row_of (stmt_trees b.items)) bs)))
    ∙ ap (λ n. row_sum x b.items + n) (block_sum-is x bs) ∙ sym (sum_by-cons (λ b. row_sum x b.items) b bs)

pub sums_append : (x : WeightTable) (ss rs : List StmtTree) →
    sum_weights x (ss ++ rs) ≡ sum_weights x ss + sum_weights x rs
sums_append x ss rs = sum_by-append (λ s. weight_of x.weight s + sum_by (call_weight x) (own_calls s)) ss rs

-- what the declaration of a local weighs
abbrev pub local_sum : WeightTable → LocalDef → ℕ
local_sum x l =
    weight_of x.weight (assign (l.name ∷ []) None (value_tree l.value))
    + sum_by (call_weight x) (value_calls (value_tree l.value))

-- what the declarations of locals weigh
abbrev pub locals_sum : WeightTable → List LocalDef → ℕ
locals_sum x ls =
    sum_weights x (map (λ (l : LocalTree). assign (l.name ∷ []) None l.value) (map local_tree ls))

pub locals_sum-is : (x : WeightTable) (ls : List LocalDef) → locals_sum x ls ≡ sum_by (local_sum x) ls
locals_sum-is x [] = refl
locals_sum-is x (l ∷ ls) =
    sum_by-cons (λ s. weight_of x.weight s + sum_by (call_weight x) (own_calls s))
    (assign (l.name ∷ []) None (value_tree l.value))
    (map (λ (l : LocalTree). assign (l.name ∷ []) None l.value) (map local_tree ls))
    ∙ ap (λ n. local_sum x l + n) (locals_sum-is x ls) ∙ sym (sum_by-cons (local_sum x) l ls)

pub locals_more : (x : WeightTable) (ls : List LocalDef) (i : ℕ) (l : LocalDef) (new : ℕ) → i < length ls →
    l ≡ get_or ls i l → new ≡ capped (locals_sum x (take i ls) + local_sum x l) →
    new ≡ capped (locals_sum x (take (i + 1) ls))
locals_more x ls i l new within is grown =
    sum_more (local_sum x) ls i l new within is
    (grown ∙ ap (λ n. capped (n + local_sum x l)) (locals_sum-is x (take i ls)))
    ∙ ap capped (sym (locals_sum-is x (take (i + 1) ls)))

-- what a body weighs: its locals and its statements
pub body_sum : (x : WeightTable) (ls : List LocalDef) (ss : List Stmt) →
    sum_weights x (all_stmts (map (λ (l : LocalTree). assign (l.name ∷ []) None l.value) (map local_tree ls)
    ++ stmt_trees ss)) ≡ locals_sum x ls + row_sum x ss
body_sum x ls ss =
    ap (sum_weights x) (flat_map-append (λ s. s ∷ inner_stmts s)
    (map (λ (l : LocalTree). assign (l.name ∷ []) None l.value) (map local_tree ls)) (stmt_trees ss))
    ∙ sum_by-append (λ s. weight_of x.weight s + sum_by (call_weight x) (own_calls s))
    (all_stmts (map (λ (l : LocalTree). assign (l.name ∷ []) None l.value) (map local_tree ls)))
    (all_stmts (stmt_trees ss))
    ∙ (λ i. sum_weights x (of_locals ls i) + sum_weights x (of_row (stmt_trees ss) i))
  where
    of_locals : (ls : List LocalDef) →
        all_stmts (map (λ (l : LocalTree). assign (l.name ∷ []) None l.value) (map local_tree ls))
        ≡ map (λ (l : LocalTree). assign (l.name ∷ []) None l.value) (map local_tree ls)
    of_locals [] = refl
    of_locals (l ∷ ls) = ap (λ ss. assign (l.name ∷ []) None (value_tree l.value) ∷ ss) (of_locals ls)

    of_row : (ss : List StmtTree) → all_stmts ss ≡ row_stmts (row_of ss)
    of_row [] = refl
    of_row (s ∷ ss) = ap (λ rest. s ∷ inner_stmts s ++ rest) (of_row ss)

-- ---- calls

pub contains_left : {X : Type 0} (xs ys : List X) (y : X) → Contains xs y → Contains (xs ++ ys) y
contains_left [] ys y h = absurd (let below : h.0 < 0 = h.1 in omega arith)
contains_left (x ∷ xs) ys y (zero, below, is) = (0, (omega arith), is)
contains_left (x ∷ xs) ys y (suc k, below, is) =
    let rest = contains_left xs ys y (k, (omega arith), is) in
    let less : rest.0 < length (xs ++ ys) = rest.1 in
    (suc rest.0, (omega arith), rest.2)

pub contains_right : {X : Type 0} (xs ys : List X) (y : X) → Contains ys y → Contains (xs ++ ys) y
contains_right [] ys y h = h
contains_right (x ∷ xs) ys y h =
    let rest = contains_right xs ys y h in
    let less : rest.0 < length (xs ++ ys) = rest.1 in
    (suc rest.0, (omega arith), rest.2)

-- two ways to weigh calls that agree on some calls
own-same : (f g : List Ident → ℕ) (paths : List (List Ident)) →
    ((path : List Ident) → Contains paths path → f path ≡ g path) → sum_by f paths ≡ sum_by g paths
own-same f g [] same = refl
own-same f g (path ∷ paths) same =
    sum_by-cons f path paths
    ∙ (λ i. same path (contains_left (path ∷ []) paths path (0, (omega arith), refl)) i
    + own-same f g paths (λ p among. same p (contains_right (path ∷ []) paths p among)) i)
    ∙ sym (sum_by-cons g path paths)

pub sum-same : (weight : StmtTree → ℕ) (f g : List Ident → ℕ) (ss : List StmtTree) →
    ((path : List Ident) → Contains (flat_map own_calls ss) path → f path ≡ g path) →
    sum_by (λ s. weight s + sum_by f (own_calls s)) ss ≡ sum_by (λ s. weight s + sum_by g (own_calls s)) ss
sum-same weight f g [] same = refl
sum-same weight f g (s ∷ ss) same =
    sum_by-cons (λ s. weight s + sum_by f (own_calls s)) s ss
    ∙ (λ i. weight s
    + own-same f g (own_calls s) (λ p among. same p (contains_left (own_calls s) (flat_map own_calls ss) p among)) i
    + sum-same weight f g ss (λ p among. same p (contains_right (own_calls s) (flat_map own_calls ss) p among)) i)
    ∙ sym (sum_by-cons (λ s. weight s + sum_by g (own_calls s)) s ss)

-- where calls are weighed up to the greatest number, so is the sum
own-capped : (f g : List Ident → ℕ) (paths : List (List Ident)) →
    ((path : List Ident) → Contains paths path → f path ≡ capped (g path)) →
    capped (sum_by f paths) ≡ capped (sum_by g paths)
own-capped f g [] same = refl
own-capped f g (path ∷ paths) same =
    let one = sum_by-cons f path paths in
    let two = sum_by-cons g path paths in
    let first = same path (contains_left (path ∷ []) paths path (0, (omega arith), refl)) in
    let rest = own-capped f g paths (λ p among. same p (contains_right (path ∷ []) paths p among)) in
    omega (arith, one, two, first, rest)

pub sum-capped : (weight : StmtTree → ℕ) (f g : List Ident → ℕ) (ss : List StmtTree) →
    ((path : List Ident) → Contains (flat_map own_calls ss) path → f path ≡ capped (g path)) →
    capped (sum_by (λ s. weight s + sum_by f (own_calls s)) ss)
    ≡ capped (sum_by (λ s. weight s + sum_by g (own_calls s)) ss)
sum-capped weight f g [] same = refl
sum-capped weight f g (s ∷ ss) same =
    let one = sum_by-cons (λ s. weight s + sum_by f (own_calls s)) s ss in
    let two = sum_by-cons (λ s. weight s + sum_by g (own_calls s)) s ss in
    let first =
    own-capped f g (own_calls s) (λ p among. same p (contains_left (own_calls s) (flat_map own_calls ss) p among)) in
    let rest =
    sum-capped weight f g ss (λ p among. same p (contains_right (own_calls s) (flat_map own_calls ss) p among)) in
    omega (arith, one, two, first, rest)

-- ---- bodies

-- a body's weight to a depth of calls, from the weights of what it calls
abbrev pub weigh : (StmtTree → ℕ) → BodyAt → (List Ident → ℕ) → ℕ
weigh weight b call = sum_by (λ s. weight s + sum_by call (own_calls s)) (stmts_in b.body)

pub weigh-step : (weight : StmtTree → ℕ) (d : ℕ) (b : BodyAt) → weight_below weight (suc d) b
    ≡ weigh weight b (λ path. option_map_or (weight_below weight d) (callee b.context path) 0)
weigh-step weight d b = refl

pub weigh-agree : (weight : StmtTree → ℕ) (b : BodyAt) (f g : List Ident → ℕ) →
    ((path : List Ident) → Contains (body_calls b.body) path → f path ≡ g path) → weigh weight b f ≡ weigh weight b g
weigh-agree weight b f g same = sum-same weight f g (stmts_in b.body) same
