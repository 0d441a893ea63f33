-- What is promised of a statement is promised of its parts.
use Rattle.std.proofs.Common.{◌≡◌, ℕ, zero, suc, Bool, true, false, Option, None, Some, List, [], ◌∷◌, ◌++◌, refl, sym, subst, map}
use Rattle.std.specs.Prelude.{slice_get}
use Rattle.std.specs.List.{AllByRecursion, flat_map}
use Rattle.std.specs.Option.{option_to_list}
use Rattle.tm_base.specs.declared.place.Place.{Place}
use Rattle.tm_syntax.specs.declared.design.Ty.{Ty}
use Rattle.tm_syntax.specs.declared.design.Ty.TheVariants as types
use Rattle.tm_syntax.specs.declared.tree.Ident.{Ident}
use Rattle.tm_syntax.specs.Tree.{ExprTree, element, plain, StmtTree, assign, branch, repeat, forever, choose, assert, assume, StmtRow, then, BlockRow, nowhere, or_else, blocks_of, SpecTree, NamedTree}
use Rattle.tm_syntax.specs.Scopes.Context.{Context, outside}
use Rattle.tm_syntax.specs.Scopes.Parts.{Asked, BodyAt, bodies, stmts_in, exprs, stmt_exprs, inner_stmts, row_stmts, block_stmts, template_exprs, template_bodies, body_exprs, condition, result_asked}
use Rattle.tm_syntax.specs.Scopes.Types.{named_type}
use Rattle.tm_syntax.specs.Faults.{IsTyped}
use Rattle.tm_syntax.specs.Scopes.Crossing.{call_crosses, row_crosses}
use Rattle.tm_syntax.specs.Faults.Crossings.{loop_faults}
use Rattle.tm_syntax.specs.Faults.Marks.{place_unless}
use Rattle.tm_typing.specs.HasType.{HasType, an_element_at, an_element}
use Rattle.tm_typing.specs.Promises.{HasAskedType}
use Rattle.tm_typing.specs.Statements.{StmtResolves, TargetResolves}
use Rattle.tm_typing.proofs.Fitting.{all_of_both}
use Rattle.tm_typing.proofs.Listed.{In, first_of, later_of, in_flat, in_behind, in_front, in_map, of_flat, holds_in, none_of}
use Rattle.tm_typing.proofs.Promises.{exprs_typed}
use Rattle.tm_typing.proofs.Statements.{bodies_resolve}
use Rattle.tm_states.specs.Promised.{IsPromised, StmtIsPromised, RowIsPromised, BlocksArePromised}

module _ (c : Context) where
  -- the blocks of a statement
  pub branch_rows : (e : ExprTree) (a b : StmtRow) → StmtIsPromised c (branch e a b) →
      RowIsPromised c a × RowIsPromised c b
  branch_rows e a b h = all_of_both (IsPromised c) (row_stmts a) (row_stmts b) h.1

  pub repeat_row : (at : Place) (e : ExprTree) (a : StmtRow) → StmtIsPromised c (repeat at e a) → RowIsPromised c a
  repeat_row at e a h = h.1

  pub forever_row : (at : Place) (a : StmtRow) → StmtIsPromised c (forever at a) → RowIsPromised c a
  forever_row at a h = h.1

  pub choose_blocks : (at : Place) (a : BlockRow) → StmtIsPromised c (choose at a) → BlocksArePromised c a
  choose_blocks at a h = h.1

  -- the statements of a row
  pub row_first : (s : StmtTree) (others : StmtRow) → RowIsPromised c (then s others) →
      StmtIsPromised c s × RowIsPromised c others
  row_first s others h = all_of_both (IsPromised c) (s ∷ inner_stmts s) (row_stmts others) h

  -- the block of a number
  pub block_at : (blocks : BlockRow) (k : ℕ) (block : StmtRow) → BlocksArePromised c blocks →
      slice_get (blocks_of blocks) k ≡ Some block → RowIsPromised c block
  block_at nowhere k block h is = absurd (cc)
  block_at (or_else b bs) k block h is =
      let parts = all_of_both (IsPromised c) (row_stmts b) (block_stmts bs) h in
      by k is parts.0 (λ j. block_at bs j block parts.1)
    where
      by : (k : ℕ) → slice_get (b ∷ blocks_of bs) k ≡ Some block → RowIsPromised c b →
          ((j : ℕ) → slice_get (blocks_of bs) j ≡ Some block → RowIsPromised c block) → RowIsPromised c block
      by zero is first rest = let same : b ≡ block = cc in subst (RowIsPromised c) same first
      by (suc k) is first rest = rest k is

  -- a condition
  pub assert_typed : (at : Place) (e : ExprTree) → StmtIsPromised c (assert at e) → HasType c types.Bool e
  assert_typed at e h = h.0.exprs.0 types.Bool refl

  pub assume_typed : (at : Place) (e : ExprTree) → StmtIsPromised c (assume at e) → HasType c types.Bool e
  assume_typed at e h = h.0.exprs.0 types.Bool refl

  pub branch_typed : (e : ExprTree) (a b : StmtRow) → StmtIsPromised c (branch e a b) → HasType c types.Bool e
  branch_typed e a b h = h.0.exprs.0 types.Bool refl

  pub repeat_typed : (at : Place) (e : ExprTree) (a : StmtRow) → StmtIsPromised c (repeat at e a) →
      HasType c types.Bool e
  repeat_typed at e a h = h.0.exprs.0 types.Bool refl

  -- the type of an element is that of its array's elements
  of_element : (names : List Ident) (e : ExprTree) (ty : Ty) → HasType c ty (element names e) →
      named_type c names ≡ Some ty
  of_element names e ty (an_element_at _ named _ _ _) = named
  of_element names e ty (an_element _ named _ _ _ _) = named

  -- what a path that is assigned means has a type
  pub target_named : (names : List Ident) (index : Option ExprTree) → TargetResolves c names index →
      (ty : Ty) × (named_type c names ≡ Some ty)
  target_named names None h = (h.ty, h.is)
  target_named names (Some e) h = (h.0, of_element names e h.0 h.1)

  -- the value that is assigned has this type
  value_asked : (names : List Ident) (index : Option ExprTree) (e : ExprTree) →
      AllByRecursion (λ (a : Asked). HasAskedType (record { context = c; asked = a }))
      (stmt_exprs c (assign names index (plain e))) →
      (ty : Ty) → named_type c names ≡ Some ty → HasType c ty e
  value_asked names None e h ty is = h.0 ty is
  value_asked names (Some i) e h ty is = h.1.0 ty is

  pub value_typed : (names : List Ident) (index : Option ExprTree) (e : ExprTree) →
      StmtIsPromised c (assign names index (plain e)) →
      (ty : Ty) × (named_type c names ≡ Some ty) × HasType c ty e
  value_typed names index e h =
      let named = target_named names index h.0.resolves.0 in
      (named.0, named.1, value_asked names index e h.0.exprs named.0 named.1)

-- statements of a checked text are promised
pub body_promised : (spec : SpecTree) → IsTyped spec → (b : BodyAt) → In b (bodies spec) →
    AllByRecursion (IsPromised b.context) (stmts_in b.body)
body_promised spec checked b i = all_hold (IsPromised b.context) (stmts_in b.body) (λ s j. record {
  exprs = all_hold (λ (a : Asked). HasAskedType (record { context = b.context; asked = a })) (stmt_exprs b.context s)
      (λ a k. holds_in HasAskedType {x = record { context = b.context; asked = a }} (exprs spec)
      (exprs_typed spec checked) (expr_in a s j k));
  resolves = holds_in (StmtResolves b.context) {x = s} (stmts_in b.body)
      (holds_in (λ (b : BodyAt). AllByRecursion (StmtResolves b.context) (stmts_in b.body)) {x = b} (bodies spec)
      (bodies_resolve spec checked) i) j;
  crosses =
      none_of (loop_faults b.context.spec b.context.template) (stmts_in b.body)
      (none_of (λ (b : BodyAt). flat_map (loop_faults b.context.spec b.context.template) (stmts_in b.body))
      (bodies spec) checked.crossing i) j;
})
  where
    all_hold : {A : Type 0} (P : A → Type 0) (xs : List A) → ((x : A) → In x xs → P x) → AllByRecursion P xs
    all_hold P [] f = tt
    all_hold P (x ∷ xs) f = (f x first_of, all_hold P xs (λ y i. f y (later_of i)))

    expr_in : (a : Asked) (s : StmtTree) → In s (stmts_in b.body) → In a (stmt_exprs b.context s) →
        In (record { context = b.context; asked = a }) (exprs spec)
    expr_in a s j k =
        let t = of_flat (template_bodies spec) spec.templates i in
        in_flat (template_exprs spec) spec.templates t.1
        (in_front
        (flat_map (λ (b : BodyAt). map (λ (x : Asked). record { context = b.context; asked = x }) (body_exprs b))
        (template_bodies spec t.0))
        (map (λ (n : NamedTree). record {
          context = record { spec = spec; template = t.0; body = outside };
          asked = condition n.expr;
        }) (t.0.goals ++ t.0.fairs))
        (in_flat (λ (b : BodyAt). map (λ (x : Asked). record { context = b.context; asked = x }) (body_exprs b))
        (template_bodies spec t.0) t.2
        (in_map (λ (x : Asked). record { context = b.context; asked = x }) (body_exprs b)
        (in_front (flat_map (stmt_exprs b.context) (stmts_in b.body))
        (map (λ (e : ExprTree). record { ty = result_asked b.context.template b.context.body; expr = e })
        (option_to_list b.body.answer))
        (in_flat (stmt_exprs b.context) (stmts_in b.body) j k)))))

-- what a body returns has the type that its place asks for
pub answer_promised : (spec : SpecTree) → IsTyped spec → (b : BodyAt) → In b (bodies spec) → (e : ExprTree) →
    b.body.answer ≡ Some e → (ty : Ty) → result_asked b.context.template b.context.body ≡ Some ty →
    HasType b.context ty e
answer_promised spec checked b i e is ty asked =
    let a : Asked = record { ty = result_asked b.context.template b.context.body; expr = e } in
    let t = of_flat (template_bodies spec) spec.templates i in
    holds_in HasAskedType {x = record { context = b.context; asked = a }} (exprs spec) (exprs_typed spec checked)
    (in_flat (template_exprs spec) spec.templates t.1
    (in_front
    (flat_map (λ (b : BodyAt). map (λ (x : Asked). record { context = b.context; asked = x }) (body_exprs b))
    (template_bodies spec t.0))
    (map (λ (n : NamedTree). record {
      context = record { spec = spec; template = t.0; body = outside };
      asked = condition n.expr;
    }) (t.0.goals ++ t.0.fairs))
    (in_flat (λ (b : BodyAt). map (λ (x : Asked). record { context = b.context; asked = x }) (body_exprs b))
    (template_bodies spec t.0) t.2
    (in_map (λ (x : Asked). record { context = b.context; asked = x }) (body_exprs b)
    (in_behind (flat_map (stmt_exprs b.context) (stmts_in b.body))
    (map (λ (e : ExprTree). record { ty = result_asked b.context.template b.context.body; expr = e })
    (option_to_list b.body.answer))
    (in_map (λ (e : ExprTree). record { ty = result_asked b.context.template b.context.body; expr = e })
    (option_to_list b.body.answer) (subst (λ o. In e (option_to_list o)) (sym is) first_of))))))) ty asked

-- a loop is sure to cross
sure : (b : Bool) (at : Place) → place_unless b at ≡ [] → b ≡ true
sure true at none = refl
sure false at none = absurd (cc)

pub repeat_sure : (c : Context) (at : Place) (e : ExprTree) (body : StmtRow) → StmtIsPromised c (repeat at e body) →
    row_crosses (call_crosses c.spec c.template) body ≡ true
repeat_sure c at e body h = sure (row_crosses (call_crosses c.spec c.template) body) at h.0.crosses

pub forever_sure : (c : Context) (at : Place) (body : StmtRow) → StmtIsPromised c (forever at body) →
    row_crosses (call_crosses c.spec c.template) body ≡ true
forever_sure c at body h = sure (row_crosses (call_crosses c.spec c.template) body) at h.0.crosses
