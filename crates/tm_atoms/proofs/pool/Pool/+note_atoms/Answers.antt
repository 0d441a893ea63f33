use Rattle.std.proofs.Common.{[], ◌∷◌, ◌++◌, sym, ap, ◌∙◌}
use Rattle.std.proofs.lemmas.Result.{on_ok_weaker}
use Rattle.tm_syntax.specs.Tree.{ExprTree}
use Rattle.tm_syntax.specs.Tree.View.{expr_tree}
use Rattle.tm_syntax.specs.Scopes.Types.{either_type}
use Rattle.tm_syntax.specs.Design.Atoms.{expr_atoms}
use Rattle.tm_syntax.specs.Design.Scope.{type_in}
use Rattle.tm_scope.specs.Cells.{scope_of}
use Rattle.tm_atoms.specs.Inner.Pools.{PoolTables, is_whole, pool_of}
use Rattle.tm_atoms.proofs.ExprAtoms.{adds-by, adds-three, element-atoms, path-atoms, whole-atoms, within-atoms}
use Rattle.tm_atoms.proofs.Pools.{adds-none, adds-then}
use Rattle.tm_atoms.proofs.pool.Pool.+note_atoms.Goals as goal

pub returns-in-Truth : goal.returns-in-Truth
returns-in-Truth t c = λ d over.
    let p : PoolTables = pool_of c.args.self.now in
    adds-by d p p [] (expr_atoms d (scope_of c.args.at) (expr_tree c.args.e.now))
    (ap (λ (t : ExprTree). expr_atoms d (scope_of c.args.at) t) (ap expr_tree c.in-Truth.is)) (adds-none d p)

pub returns-in-Number : goal.returns-in-Number
returns-in-Number t c = λ d over.
    let p : PoolTables = pool_of c.args.self.now in
    adds-by d p p [] (expr_atoms d (scope_of c.args.at) (expr_tree c.args.e.now))
    (ap (λ (t : ExprTree). expr_atoms d (scope_of c.args.at) t) (ap expr_tree c.in-Number.is)) (adds-none d p)

pub returns-in-Shift : goal.returns-in-Shift
returns-in-Shift t c = λ d over.
    let p : PoolTables = pool_of c.args.self.now in
    adds-by d p p [] (expr_atoms d (scope_of c.args.at) (expr_tree c.args.e.now))
    (ap (λ (t : ExprTree). expr_atoms d (scope_of c.args.at) t) (ap expr_tree c.in-Shift.is)) (adds-none d p)

pub returns-in-Cast : goal.returns-in-Cast
returns-in-Cast t c = λ d over.
    let p : PoolTables = pool_of c.args.self.now in
    adds-by d p p [] (expr_atoms d (scope_of c.args.at) (expr_tree c.args.e.now))
    (ap (λ (t : ExprTree). expr_atoms d (scope_of c.args.at) t) (ap expr_tree c.in-Cast.is)) (adds-none d p)

pub returns-in-Path : goal.returns-in-Path
returns-in-Path t c =
    on_ok_weaker c.note.result (λ h d over.
    let tree = expr_tree c.args.e.now in
    adds-by d (pool_of c.args.self.now) (pool_of c.note.new.self)
    (record { scope = scope_of c.args.at; expr = tree } ∷ [])
    (expr_atoms d (scope_of c.args.at) tree)
    (path-atoms d (scope_of c.args.at) tree c.in-Path.field-0.names.items (ap expr_tree c.in-Path.is)) (h d over))
    c.note.ensures

pub returns-in-Group : goal.returns-in-Group
returns-in-Group t c =
    on_ok_weaker c.note_atoms.result (λ h d over.
    let scope = scope_of c.args.at in
    adds-by d (pool_of c.args.self.now) (pool_of c.note_atoms.new.self)
    (expr_atoms d scope (expr_tree c.deref.result.now)) (expr_atoms d scope (expr_tree c.args.e.now))
    (ap (λ (t : ExprTree). expr_atoms d scope t) (ap expr_tree c.in-Group.is)
    ∙ ap (λ e. expr_atoms d scope (expr_tree e)) (sym c.deref.ensures)) (h d over)) c.note_atoms.ensures

pub returns-in-Unary : goal.returns-in-Unary
returns-in-Unary t c =
    on_ok_weaker c.note_atoms-in-Unary.result (λ h d over.
    let scope = scope_of c.args.at in
    adds-by d (pool_of c.args.self.now) (pool_of c.note_atoms-in-Unary.new.self)
    (expr_atoms d scope (expr_tree c.deref-in-Unary.result.now)) (expr_atoms d scope (expr_tree c.args.e.now))
    (ap (λ (t : ExprTree). expr_atoms d scope t) (ap expr_tree c.in-Unary.is)
    ∙ ap (λ e. expr_atoms d scope (expr_tree e)) (sym c.deref-in-Unary.ensures)) (h d over))
    c.note_atoms-in-Unary.ensures

pub returns-in-Element : goal.returns-in-Element
returns-in-Element t c =
    on_ok_weaker c.note-in-Element.result (λ h d over.
    let tree = expr_tree c.args.e.now in
    adds-by d (pool_of c.args.self.now) (pool_of c.note-in-Element.new.self)
    (record { scope = scope_of c.args.at; expr = tree } ∷ []) (expr_atoms d (scope_of c.args.at) tree)
    (element-atoms d (scope_of c.args.at) tree c.in-Element.field-0.names.items (expr_tree c.in-Element.field-1.value)
    (ap expr_tree c.in-Element.is)) (h d over)) c.note-in-Element.ensures

pub returns-then-joins_whole : goal.returns-then-joins_whole
returns-then-joins_whole t c =
    on_ok_weaker c.note-then-joins_whole.result (λ h d over.
    let scope = scope_of c.args.at in
    let tree = expr_tree c.args.e.now in
    adds-by d (pool_of c.args.self.now) (pool_of c.note-then-joins_whole.new.self)
    (record { scope = scope; expr = tree } ∷ []) (expr_atoms d scope tree)
    (whole-atoms d scope tree c.in-Binary.field-0 c.in-Binary.op (expr_tree c.in-Binary.a.value)
    (expr_tree c.in-Binary.b.value) (ap expr_tree c.in-Binary.is) c.joins_whole.result
    (c.joins_whole.ensures d over
    ∙ λ i. is_whole c.in-Binary.op
    (either_type (type_in d (scope_of (c.requires i)) (expr_tree (c.deref-in-Binary.ensures i)))
    (type_in d (scope_of (c.requires i)) (expr_tree (c.deref-in-Binary-2.ensures i))))) c.if-joins_whole.true)
    (h d over)) c.note-then-joins_whole.ensures

pub returns-in_ok-note_atoms-in-Binary : goal.returns-in_ok-note_atoms-in-Binary
returns-in_ok-note_atoms-in-Binary t c =
    on_ok_weaker c.note_atoms-else-joins_whole-2.result (λ h d over.
    let scope = scope_of c.args.at in
    let tree = expr_tree c.args.e.now in
    let p : PoolTables = pool_of c.args.self.now in
    let q : PoolTables = pool_of c.note_atoms-else-joins_whole.new.self in
    let r : PoolTables = pool_of c.note_atoms-else-joins_whole-2.new.self in
    let first = expr_tree c.deref-else-joins_whole.result.now in
    let second = expr_tree c.deref-else-joins_whole-2.result.now in
    adds-by d p r (expr_atoms d scope first ++ expr_atoms d scope second) (expr_atoms d scope tree)
    (within-atoms d scope tree c.in-Binary.field-0 c.in-Binary.op (expr_tree c.in-Binary.a.value)
    (expr_tree c.in-Binary.b.value) (ap expr_tree c.in-Binary.is) c.joins_whole.result
    (c.joins_whole.ensures d over
    ∙ λ i. is_whole c.in-Binary.op
    (either_type (type_in d (scope_of (c.requires i)) (expr_tree (c.deref-in-Binary.ensures i)))
    (type_in d (scope_of (c.requires i)) (expr_tree (c.deref-in-Binary-2.ensures i))))) c.if-joins_whole.false
    ∙ λ i. expr_atoms d scope (expr_tree (sym c.deref-else-joins_whole.ensures i))
    ++ expr_atoms d scope (expr_tree (sym c.deref-else-joins_whole-2.ensures i)))
    (adds-then d p q r (expr_atoms d scope first) (expr_atoms d scope second)
    (c.in_ok-note_atoms-in-Binary.ensures d over) (h d over))) c.note_atoms-else-joins_whole-2.ensures

pub returns-in_ok-note_atoms-in-Conditional-2 : goal.returns-in_ok-note_atoms-in-Conditional-2
returns-in_ok-note_atoms-in-Conditional-2 t c =
    on_ok_weaker c.note_atoms-in-Conditional-3.result (λ h d over.
    let scope = scope_of c.args.at in
    let p : PoolTables = pool_of c.args.self.now in
    let q : PoolTables = pool_of c.note_atoms-in-Conditional.new.self in
    let r : PoolTables = pool_of c.note_atoms-in-Conditional-2.new.self in
    let s : PoolTables = pool_of c.note_atoms-in-Conditional-3.new.self in
    let one = expr_tree c.deref-in-Conditional.result.now in
    let two = expr_tree c.deref-in-Conditional-2.result.now in
    let three = expr_tree c.deref-in-Conditional-3.result.now in
    adds-by d p s (expr_atoms d scope one ++ expr_atoms d scope two ++ expr_atoms d scope three)
    (expr_atoms d scope (expr_tree c.args.e.now))
    (ap (λ (t : ExprTree). expr_atoms d scope t) (ap expr_tree c.in-Conditional.is)
    ∙ λ i. expr_atoms d scope (expr_tree (sym c.deref-in-Conditional.ensures i))
    ++ expr_atoms d scope (expr_tree (sym c.deref-in-Conditional-2.ensures i))
    ++ expr_atoms d scope (expr_tree (sym c.deref-in-Conditional-3.ensures i)))
    (adds-three d p q r s (expr_atoms d scope one) (expr_atoms d scope two) (expr_atoms d scope three)
    (c.in_ok-note_atoms-in-Conditional.ensures d over) (c.in_ok-note_atoms-in-Conditional-2.ensures d over)
    (h d over))) c.note_atoms-in-Conditional-3.ensures
