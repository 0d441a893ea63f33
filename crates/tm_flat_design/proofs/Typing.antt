-- The statements of a body have the types that their places ask for.
use Rattle.std.proofs.Common.{◌≡◌, Option, None, Some, List, [], refl, sym, ◌∙◌, subst}
use Rattle.std.specs.List.{AllByRecursion}
use Rattle.tm_syntax.specs.declared.design.Design.{Design}
use Rattle.tm_syntax.specs.declared.design.Ty.{Ty}
use Rattle.tm_syntax.specs.declared.design.Ty.TheVariants as types
use Rattle.tm_syntax.specs.declared.tree.Ident.{Ident}
use Rattle.tm_syntax.specs.Tree.{BlockRow, ExprTree, StmtRow, StmtTree, ValueTree, assert, assign, assume, branch, choose, element, forever, invoke, magic, nothing, nowhere, or_else, pause, plain, repeat, result, star, then, wait}
use Rattle.tm_syntax.specs.Scopes.Context.{Context}
use Rattle.tm_syntax.specs.Scopes.Names.{type_of}
use Rattle.tm_syntax.specs.Scopes.Parts.{Asked, block_stmts, call_args, inner_stmts, row_stmts, stmt_exprs, target_exprs}
use Rattle.tm_syntax.specs.Scopes.Types.{named_type}
use Rattle.tm_syntax.specs.Design.{DesignTree}
use Rattle.tm_syntax.specs.Design.Scope.{context}
use Rattle.tm_syntax.specs.Design.View.{design_tree}
use Rattle.tm_syntax.specs.Faults.{IsOfText, IsSound}
use Rattle.tm_syntax.specs.Faults.Operands.{is_assigned, wrong_sort}
use Rattle.tm_syntax.specs.Scopes.Declared.{meaning}
use Rattle.tm_scope.specs.Cells.{ScopedCells, scope_of}
use Rattle.tm_scope.specs.declared.cells.site_body.SiteBody.{SiteBody}
use Rattle.tm_typing.specs.HasType.{HasType, IsOfSort, an_element, an_element_at}
use Rattle.tm_typing.specs.Promises.{HasAskedType}
use Rattle.tm_typing.specs.Statements.{TargetResolves}
use Rattle.tm_typing.proofs.Fitting.{all_of_both, both_empty}
use Rattle.tm_typing.proofs.Sound.{checked}
use Rattle.tm_design.specs.Typed.{HasTypeAt, context_at}
use Rattle.tm_design.proofs.Contexts.{context_here}
use Rattle.tm_design.proofs.SettledDesigns.{IsKnown, known_of}
use Rattle.tm_plain_bodies.specs.Tables.{body_of}
use Rattle.tm_plain_bodies.proofs.Found.{own_cells}
use Rattle.tm_flat_bodies.specs.Asked.{BlocksAreTyped, RowIsTyped, StmtIsTyped, TargetIsTyped, ValueIsTyped}
use Rattle.tm_flat_design.proofs.Alike.{cell_alike, length_alike}
use Rattle.tm_flat_design.proofs.Promising.{IsAsked}
use Rattle.tm_flat_design.proofs.Targets.{element_found, target_there}
use Rattle.tm_flat_design.proofs.WalkedTasks.{call_typed, result_typed}

-- the type of a target
abbrev target_ty : (c : Context) (names : List Ident) (index : Option ExprTree) → TargetResolves c names index → Ty
target_ty c names None h = h.ty
target_ty c names (Some e) h = h.0

of_element : (c : Context) (names : List Ident) (e : ExprTree) (ty : Ty) → HasType c ty (element names e) →
    named_type c names ≡ Some ty
of_element c names e ty (an_element_at _ named _ _ _) = named
of_element c names e ty (an_element _ named _ _ _ _) = named

target_named : (c : Context) (names : List Ident) (index : Option ExprTree) (h : TargetResolves c names index) →
    named_type c names ≡ Some (target_ty c names index h)
target_named c names None h = h.is
target_named c names (Some e) h = of_element c names e h.0 h.1

-- what the expressions of an assignment are asked for
abbrev AreTyped : Context → List Asked → Type 0
AreTyped c es = AllByRecursion (λ (a : Asked). HasAskedType (record { context = c; asked = a })) es

value_asked : (c : Context) (names : List Ident) (index : Option ExprTree) (e : ExprTree) →
    AreTyped c (stmt_exprs c (assign names index (plain e))) → (ty : Ty) → named_type c names ≡ Some ty → HasType c ty e
value_asked c names None e h ty is = h.0 ty is
value_asked c names (Some i) e h ty is = h.1.0 ty is

args_asked : (c : Context) (target : List Ident) (index : Option ExprTree) (names : List Ident)
    (es : List ExprTree) → AreTyped c (stmt_exprs c (assign target index (result names es))) →
    AreTyped c (call_args c names es)
args_asked c target index names es h =
    (all_of_both (λ (a : Asked). HasAskedType (record { context = c; asked = a })) (target_exprs target index)
    (call_args c names es) h).1

module _ (d : Design) (sound : IsSound (design_tree d)) (of : IsOfText (design_tree d).spec) (at : SiteBody)
    (c : Context) (stands : context_at (body_of d at) ≡ Some c) where
  abbrev tree : DesignTree
  tree = design_tree d

  abbrev body : ScopedCells
  body = body_of d at

  known : IsKnown tree
  known = known_of tree (checked tree sound of) sound.numbered

  here : context tree (scope_of at) ≡ Some c
  here = context_here body tree (own_cells d) ∙ stands

  typed_here : (ty : Ty) (e : ExprTree) → HasType c ty e → HasTypeAt body ty e
  typed_here ty e typed = record { context = c; stands = stands; typed = typed }

  -- ---- assignments
  target_typed : (names : List Ident) (index : Option ExprTree) (v : ValueTree) (a : IsAsked c (assign names index v)) →
      TargetIsTyped body (target_ty c names index a.promised.resolves.0) names index
  target_typed names None v a = (
    record {
      context = c;
      stands = stands;
      sized = a.promised.resolves.0.sized;
      named = a.promised.resolves.0.is;
    },
    λ e has.
        let sort : IsOfSort is_assigned c names =
        (both_empty (wrong_sort is_assigned (meaning c names)) [] a.targets).0 in
        let x = target_there tree known (scope_of at) c here names a.promised.resolves.0.ty a.promised.resolves.0.is
        sort in (
          x.0,
          sym (cell_alike tree e (sym has.text) (sym has.instances) (sym has.vars) (scope_of at) names None) ∙ x.1,
        ),
  )
  target_typed names (Some index) v a = (
    typed_here a.promised.resolves.0.0 (element names index) a.promised.resolves.0.1,
    λ e has size k long below.
        let x = element_found tree known (scope_of at) c here names size k
        (length_alike tree e (sym has.text) (sym has.instances) (sym has.vars) (scope_of at) names ∙ long) below in (
          x.0,
          sym (cell_alike tree e (sym has.text) (sym has.instances) (sym has.vars) (scope_of at) names (Some k)) ∙ x.1,
        ),
  )

  value_typed : (names : List Ident) (index : Option ExprTree) (v : ValueTree) (a : IsAsked c (assign names index v)) →
      ValueIsTyped body (target_ty c names index a.promised.resolves.0) v
  value_typed names index (star p) a = tt
  value_typed names index (plain e) a =
      typed_here (target_ty c names index a.promised.resolves.0) e
      (value_asked c names index e a.promised.exprs (target_ty c names index a.promised.resolves.0)
      (target_named c names index a.promised.resolves.0))
  value_typed names index (result path es) a =
      let h = a.promised.resolves.1 in
      let same : target_ty c names index a.promised.resolves.0 ≡ type_of h.ty =
      h.fits (target_ty c names index a.promised.resolves.0) (target_named c names index a.promised.resolves.0) in
      subst (λ (ty : Ty). ValueIsTyped body ty (result path es)) (sym same)
      (result_typed d sound of at c stands names path es h (args_asked c names index path es a.promised.exprs))

  -- ---- statements
  mutual
    stmt_typed : (s : StmtTree) → IsAsked c s → AllByRecursion (IsAsked c) (inner_stmts s) → StmtIsTyped body s
    stmt_typed (assign names index v) a inner =
        (target_ty c names index a.promised.resolves.0, target_typed names index v a, value_typed names index v a)
    stmt_typed (invoke names es) a inner =
        call_typed d sound of at c stands names es a.promised.resolves a.promised.exprs
    stmt_typed (branch e first second) a inner =
        let parts = all_of_both (IsAsked c) (row_stmts first) (row_stmts second) inner in (
          typed_here types.Bool e (a.promised.exprs.0 types.Bool refl),
          row_typed first parts.0,
          row_typed second parts.1,
        )
    stmt_typed (repeat p e row) a inner =
        (typed_here types.Bool e (a.promised.exprs.0 types.Bool refl), row_typed row inner)
    stmt_typed (forever p row) a inner = row_typed row inner
    stmt_typed (choose p blocks) a inner = blocks_typed blocks inner
    stmt_typed (assert p e) a inner = typed_here types.Bool e (a.promised.exprs.0 types.Bool refl)
    stmt_typed (assume p e) a inner = typed_here types.Bool e (a.promised.exprs.0 types.Bool refl)
    stmt_typed (pause p) a inner = tt
    stmt_typed (wait p e) a inner = tt
    stmt_typed (magic p) a inner = tt

    pub row_typed : (row : StmtRow) → AllByRecursion (IsAsked c) (row_stmts row) → RowIsTyped body row
    row_typed nothing asked = tt
    row_typed (then s others) asked =
        let parts = all_of_both (IsAsked c) (inner_stmts s) (row_stmts others) asked.1 in
        (stmt_typed s asked.0 parts.0, row_typed others parts.1)

    blocks_typed : (blocks : BlockRow) → AllByRecursion (IsAsked c) (block_stmts blocks) → BlocksAreTyped body blocks
    blocks_typed nowhere asked = tt
    blocks_typed (or_else row others) asked =
        let parts = all_of_both (IsAsked c) (row_stmts row) (block_stmts others) asked in
        (row_typed row parts.0, blocks_typed others parts.1)
