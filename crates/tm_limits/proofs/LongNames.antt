-- The first long name of the parts of a text, one behind the other.
use Rattle.std.proofs.Common.{◌≡◌, ℕ, ◌+◌, ◌<◌, Option, None, List, [], ◌∷◌, ◌++◌, length, map, take, get_or, nat_lt, append_assoc, refl, sym, ap, ◌∙◌}
use Rattle.std.specs.List.{filter, flat_map}
use Rattle.std.specs.Option.{option_to_list}
use Rattle.std.proofs.lemmas.List.{append-nil, take_more}
use Rattle.std.proofs.lemmas.List.Concat.{flat_map-append}
use Rattle.std.proofs.lemmas.List.Elements.{filter-append}
use Rattle.std.proofs.lemmas.List.Folds.{flat_map-map}
use Rattle.std.specs.declared.alloc.Global.{Global}
use Rattle.std.specs.declared.vec.Vec.{Vec}
use Rattle.tm_syntax.specs.declared.tree.Ident.{Ident}
use Rattle.tm_syntax.specs.declared.tree.LocalDef.{LocalDef}
use Rattle.tm_syntax.specs.declared.tree.Param.{Param}
use Rattle.tm_syntax.specs.declared.tree.Stmt.{Stmt}
use Rattle.tm_syntax.specs.declared.tree.TypeName.{TypeName}
use Rattle.tm_syntax.specs.Tree.{LocalTree, NamedTree, ProcessTree, StmtTree, TaskTree, TemplateTree, VarTree, alternatives_of, assign, row_of}
use Rattle.tm_syntax.specs.Tree.View.{local_tree, stmt_tree, stmt_trees, value_tree}
use Rattle.tm_syntax.specs.Scopes.Parts.{all_stmts, block_stmts, inner_stmts, row_stmts, template_types, written_result}
use Rattle.tm_syntax.specs.Faults.Limits.{type_names}
use Rattle.tm_syntax.specs.Places.{earliest, earliest_of}
use Rattle.tm_syntax.proofs.Places.{earliest-append}
use Rattle.tm_scope.proofs.Entries.{map-push}
use Rattle.tm_limits.specs.declared.names.bodies.Sought.{Sought}
use Rattle.tm_limits.specs.LongNames.{first_long, own_names, task_types}

-- the first of two lists is the earlier one of their firsts
pub long_both : (xs ys : List Ident) →
    first_long (xs ++ ys) ≡ earliest_of (λ (n : Ident). n.place) (first_long xs) (first_long ys)
long_both xs ys =
    ap (earliest (λ (n : Ident). n.place)) (filter-append (λ (n : Ident). nat_lt 63 (length n.text)) xs ys)
    ∙ earliest-append (λ (n : Ident). n.place) (filter (λ (n : Ident). nat_lt 63 (length n.text)) xs)
    (filter (λ (n : Ident). nat_lt 63 (length n.text)) ys)

-- what was found in two parts, one behind the other, is found in the whole
abbrev pub Joins : Option Ident → Option Ident → Option Ident → Type 0
Joins a b r = (xs ys : List Ident) → a ≡ first_long xs → b ≡ first_long ys → r ≡ first_long (xs ++ ys)

pub earliest-joins : (a b r : Option Ident) → r ≡ earliest_of (λ (n : Ident). n.place) a b → Joins a b r
earliest-joins a b r is = λ xs ys first second.
    is ∙ (λ j. earliest_of (λ (n : Ident). n.place) (first j) (second j)) ∙ sym (long_both xs ys)

pub long_joined : (a b r : Option Ident) (xs ys : List Ident) → Joins a b r → a ≡ first_long xs →
    b ≡ first_long ys → r ≡ first_long (xs ++ ys)
long_joined a b r xs ys joins first second = joins xs ys first second

-- one more part
pub long_more : {W X : Type 0} (names : X → List Ident) (view : W → X) (ws : List W) (i : ℕ) (w : W)
    (old here new : Option Ident) → i < length ws → w ≡ get_or ws i w → here ≡ first_long (names (view w)) →
    Joins old here new → old ≡ first_long (flat_map names (map view (take i ws))) →
    new ≡ first_long (flat_map names (map view (take (i + 1) ws)))
long_more names view ws i w old here new within is found grown before =
    long_joined old here new (flat_map names (map view (take i ws))) (names (view w)) grown before found
    ∙ ap first_long (ap (λ ns. flat_map names (map view (take i ws)) ++ ns) (sym (append-nil (names (view w))))
    ∙ sym (flat_map-append names (map view (take i ws)) (view w ∷ []))
    ∙ ap (flat_map names) (sym (map-push view (take i ws) w)
    ∙ ap (λ y. map view (take i ws ++ y ∷ [])) is ∙ ap (map view) (sym (take_more ws i w within))))

pub long_more_plain : {W : Type 0} (names : W → List Ident) (ws : List W) (i : ℕ) (w : W)
    (old here new : Option Ident) → i < length ws → w ≡ get_or ws i w → here ≡ first_long (names w) →
    Joins old here new → old ≡ first_long (flat_map names (take i ws)) →
    new ≡ first_long (flat_map names (take (i + 1) ws))
long_more_plain names ws i w old here new within is found grown before =
    long_joined old here new (flat_map names (take i ws)) (names w) grown before found
    ∙ ap first_long (ap (λ ns. flat_map names (take i ws) ++ ns) (sym (append-nil (names w)))
    ∙ sym (flat_map-append names (take i ws) (w ∷ []))
    ∙ ap (flat_map names) (ap (λ y. take i ws ++ y ∷ []) is ∙ sym (take_more ws i w within)))

-- the names of a statement with those within it
abbrev pub stmt_names : Sought → Stmt → List Ident
stmt_names sought s = own_names sought (stmt_tree s) ++ flat_map (own_names sought) (inner_stmts (stmt_tree s))

pub row_names : (sought : Sought) (ss : List Stmt) →
    flat_map (own_names sought) (row_stmts (row_of (stmt_trees ss))) ≡ flat_map (stmt_names sought) ss
row_names sought [] = refl
row_names sought (s ∷ ss) =
    flat_map-append (own_names sought) (stmt_tree s ∷ inner_stmts (stmt_tree s)) (row_stmts (row_of (stmt_trees ss)))
    ∙ ap (λ ns. stmt_names sought s ++ ns) (row_names sought ss)

pub block_names : (sought : Sought) (bs : List (Vec Stmt Global)) →
    flat_map (own_names sought) (block_stmts (alternatives_of (map (λ b. row_of (stmt_trees b.items)) bs)))
    ≡ flat_map (λ b. flat_map (stmt_names sought) b.items) bs
block_names sought [] = refl
block_names sought (b ∷ bs) =
    flat_map-append (own_names sought) (row_stmts (row_of (stmt_trees b.items)))
    (block_stmts (alternatives_of (map (λ b. row_of (stmt_trees b.items)) bs)))
    ∙ (λ j. row_names sought b.items j ++ block_names sought bs j)

-- one more name
pub long_pushed : (ns : List Ident) (i : ℕ) (n : Ident) (old here new : Option Ident) → i < length ns →
    n ≡ get_or ns i n → here ≡ first_long (n ∷ []) → Joins old here new →
    old ≡ first_long (take i ns) → new ≡ first_long (take (i + 1) ns)
long_pushed ns i n old here new within is found grown before =
    long_joined old here new (take i ns) (n ∷ []) grown before found
    ∙ ap first_long (ap (λ y. take i ns ++ y ∷ []) is ∙ sym (take_more ns i n within))

-- what was found in two parts, of which the second is told in another way
pub long_next : (a b r : Option Ident) (xs ys zs : List Ident) → Joins a b r →
    a ≡ first_long xs → b ≡ first_long ys → ys ≡ zs → r ≡ first_long (xs ++ zs)
long_next a b r xs ys zs is first second same = long_joined a b r xs zs is first (second ∙ ap first_long same)

-- the names of goals and of fairness conditions, one behind the other
pub both_named : (front : List Ident) (gs fs : List NamedTree) →
    front ++ map (λ (n : NamedTree). n.name) gs ++ map (λ (n : NamedTree). n.name) fs
    ≡ front ++ map (λ (n : NamedTree). n.name) (gs ++ fs)
both_named front gs fs =
    append_assoc front (map (λ (n : NamedTree). n.name) gs) (map (λ (n : NamedTree). n.name) fs)
    ∙ ap (λ ns. front ++ ns) (joined gs)
  where
    joined : (gs : List NamedTree) →
        map (λ (n : NamedTree). n.name) gs ++ map (λ (n : NamedTree). n.name) fs
        ≡ map (λ (n : NamedTree). n.name) (gs ++ fs)
    joined [] = refl
    joined (g ∷ gs) = ap (λ ns. g.name ∷ ns) (joined gs)

locals_stmts : (ls : List LocalDef) →
    all_stmts (map (λ (l : LocalTree). assign (l.name ∷ []) None l.value) (map local_tree ls))
    ≡ map (λ (l : LocalTree). assign (l.name ∷ []) None l.value) (map local_tree ls)
locals_stmts [] = refl
locals_stmts (l ∷ ls) = ap (λ ss. assign (l.name ∷ []) None (value_tree l.value) ∷ ss) (locals_stmts ls)

row_stmts-all : (ss : List StmtTree) → all_stmts ss ≡ row_stmts (row_of ss)
row_stmts-all [] = refl
row_stmts-all (s ∷ ss) = ap (λ rest. s ∷ inner_stmts s ++ rest) (row_stmts-all ss)

-- the names of a body's statements: those of its locals and of its row
pub body_names-parts : (sought : Sought) (ls : List LocalDef) (ss : List Stmt) →
    flat_map (own_names sought) (all_stmts (map (λ (l : LocalTree). assign (l.name ∷ []) None l.value)
    (map local_tree ls) ++ stmt_trees ss))
    ≡ flat_map (own_names sought) (map (λ (l : LocalTree). assign (l.name ∷ []) None l.value) (map local_tree ls))
    ++ flat_map (own_names sought) (row_stmts (row_of (stmt_trees ss)))
body_names-parts sought ls ss =
    ap (flat_map (own_names sought)) (flat_map-append (λ s. s ∷ inner_stmts s)
    (map (λ (l : LocalTree). assign (l.name ∷ []) None l.value) (map local_tree ls)) (stmt_trees ss)
    ∙ (λ j. locals_stmts ls j ++ row_stmts-all (stmt_trees ss) j))
    ∙ flat_map-append (own_names sought)
    (map (λ (l : LocalTree). assign (l.name ∷ []) None l.value) (map local_tree ls))
    (row_stmts (row_of (stmt_trees ss)))

-- the types that processes and tasks write
abbrev of_processes : List ProcessTree → List TypeName
of_processes ps = flat_map (λ (p : ProcessTree). map (λ (l : LocalTree). l.ty) p.body.locals) ps

abbrev of_tasks : List TaskTree → List TypeName
of_tasks ks =
    flat_map (λ (k : TaskTree). option_to_list (written_result k.kind) ++ map (λ (p : Param). p.ty) k.params
    ++ map (λ (l : LocalTree). l.ty) k.body.locals) ks

names_of_processes : (ps : List ProcessTree) → flat_map type_names (of_processes ps)
    ≡ flat_map (λ (p : ProcessTree). flat_map (λ (l : LocalTree). type_names l.ty) p.body.locals) ps
names_of_processes [] = refl
names_of_processes (p ∷ ps) =
    flat_map-append type_names (map (λ (l : LocalTree). l.ty) p.body.locals) (of_processes ps)
    ∙ (λ j. flat_map-map type_names (λ (l : LocalTree). l.ty) p.body.locals j ++ names_of_processes ps j)

names_of_tasks : (ks : List TaskTree) → flat_map type_names (of_tasks ks) ≡ flat_map task_types ks
names_of_tasks [] = refl
names_of_tasks (k ∷ ks) =
    flat_map-append type_names (option_to_list (written_result k.kind) ++ map (λ (p : Param). p.ty) k.params
    ++ map (λ (l : LocalTree). l.ty) k.body.locals) (of_tasks ks)
    ∙ ap (λ ns. ns ++ flat_map type_names (of_tasks ks))
    (flat_map-append type_names (option_to_list (written_result k.kind) ++ map (λ (p : Param). p.ty) k.params)
    (map (λ (l : LocalTree). l.ty) k.body.locals)
    ∙ ap (λ ns. ns ++ flat_map type_names (map (λ (l : LocalTree). l.ty) k.body.locals))
    (flat_map-append type_names (option_to_list (written_result k.kind)) (map (λ (p : Param). p.ty) k.params)))
    ∙ (λ j. flat_map type_names (option_to_list (written_result k.kind))
    ++ flat_map-map type_names (λ (p : Param). p.ty) k.params j
    ++ flat_map-map type_names (λ (l : LocalTree). l.ty) k.body.locals j ++ names_of_tasks ks j)

-- the names among the types that a template writes, by its parts
pub template_types-names : (t : TemplateTree) → flat_map type_names (template_types t)
    ≡ flat_map (λ (v : VarTree). type_names v.ty) t.vars
    ++ flat_map (λ (p : ProcessTree). flat_map (λ (l : LocalTree). type_names l.ty) p.body.locals) t.processes
    ++ flat_map task_types t.tasks
template_types-names t =
    flat_map-append type_names (map (λ (v : VarTree). v.ty) t.vars ++ of_processes t.processes) (of_tasks t.tasks)
    ∙ ap (λ ns. ns ++ flat_map type_names (of_tasks t.tasks))
    (flat_map-append type_names (map (λ (v : VarTree). v.ty) t.vars) (of_processes t.processes))
    ∙ (λ j. flat_map-map type_names (λ (v : VarTree). v.ty) t.vars j ++ names_of_processes t.processes j
    ++ names_of_tasks t.tasks j)
