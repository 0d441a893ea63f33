use Rattle.std.proofs.Common.{◌≡◌, ◌≢◌, ℕ, ◌<◌, ◌≤◌, true, false, Some, sym, ap, ◌∙◌, subst, rules, arith}
use Rattle.std.specs.Prelude.{◌==◌, IfOk, nat_le, unwrap_or}
use Rattle.std.proofs.lemmas.Result.{IfErr-weaker, IfOk-weaker}
use Rattle.std.proofs.lemmas.Bool.Decides.{nat_tests}
use Rattle.tm_base.specs.declared.place.Place.{Place}
use Rattle.tm_base.specs.Arithmetic.{resize}
use Rattle.tm_base.specs.Shift as bits
use Rattle.tm_syntax.specs.Tree as trees
use Rattle.tm_syntax.specs.Tree.View.{expr_tree}
use Rattle.tm_syntax.specs.Design.Cells.{cell}
use Rattle.tm_syntax.specs.Design.Sizes.{width}
use Rattle.tm_scope.specs.Cells.{scope_of}
use Rattle.tm_scope.specs.Types.{ty_of}
use Rattle.tm_sem.specs.Value as meaning
use Rattle.tm_design.specs.Typed.{HasTypeAt}
use Rattle.tm_plain_exprs.specs.Valued.{IsOperandType, IsValued, Overruns}
use Rattle.tm_plain_exprs.proofs.Forms.{group_valued, group_overruns, unary_valued, unary_overruns, shift_valued, shift_overruns, cast_valued, cast_overruns, first_chosen, second_chosen, test_overruns, first_overruns, second_overruns, decided_valued, binary_valued, second_operand_overruns, first_operand_overruns, element_valued, index_within, index_past_end, index_overruns}
use Rattle.tm_plain_exprs.proofs.Leaves.{truth_valued, number_valued, path_valued, read_or}
use Rattle.tm_plain_exprs.proofs.Wholes.{form_typed, whole_valued, whole_overruns, joined_valued, joined_overruns}
use Rattle.tm_design.proofs.OperandParts.{sized_at, group_part, unary_part, shift_part, shift_by, test_part, first_part, second_part, cast_width, cast_operand, cast_own, index_part, length_read}
use Rattle.tm_plain_exprs.proofs.Sizes.{expr_size}
use Rattle.tm_plain_exprs.proofs.Stops.{on_err}
use Rattle.tm_plain_exprs.proofs.reader.Reader.+value.Goals as goal

past : (a b : ℕ) → a ≤ b → nat_le a b ≡ true
past a b less = grind (arith, nat_tests)

within : (a b : ℕ) → b < a → nat_le a b ≡ false
within a b less = grind (arith, nat_tests)

none_is : (n : ℕ) → n ≡ 0 → (n == 0) ≡ true
none_is n is = ap (λ m. m == 0) is

some_is : (n : ℕ) → n ≢ 0 → (n == 0) ≡ false
some_is n other = grind (arith, nat_tests)

-- ---- prefix operators
pub unary-value-requires : goal.unary-value-requires
unary-value-requires t c = (
  search rules,
  unary_part c.args.self.now (ty_of c.args.asked) c.requires.0 c.args.op
      (expr_tree c.args.e.now) c.requires.1,
)

pub unary-width_of-requires : goal.unary-width_of-requires
unary-width_of-requires t c = sized_at c.args.self.now c.requires.1

pub unary-unary_value-requires : goal.unary-unary_value-requires
unary-unary_value-requires t c = c.width_of.ensures.is_width

pub unary-returns-in_err-operand-clause-overrun : goal.unary-returns-in_err-operand-clause-overrun
unary-returns-in_err-operand-clause-overrun t c = on_err c.from_residual.result (λ at.
    unary_overruns c.args.self.now c.args.store.now at c.args.op (expr_tree c.args.e.now)
    c.in_err-operand.ensures.overrun)

pub unary-returns-clause-value : goal.unary-returns-clause-value
unary-returns-clause-value t c = λ at.
    let s = c.args.self.now in
    let k = c.args.store.now in
    let e = expr_tree c.args.e.now in
    let asked = ty_of c.args.asked in
    let n = c.in_ok-operand.operand in
    subst (IsValued s k asked (trees.unary at c.args.op e))
    (sym (c.unary_value.ensures ∙ ap (λ w. meaning.unary_value c.args.op w n) c.width_of.ensures.width))
    (unary_valued s k asked at c.args.op e n (unary_part s asked c.requires.0 c.args.op e c.requires.1)
    c.in_ok-operand.ensures.value)

-- ---- operators between two expressions
pub joined-width_of-requires : goal.joined-width_of-requires
joined-width_of-requires t c = sized_at c.args.self.now c.requires

pub joined-binary_value-requires : goal.joined-binary_value-requires
joined-binary_value-requires t c = c.width_of.ensures.is_width

pub joined-returns-then-decides-clause-value : goal.joined-returns-then-decides-clause-value
joined-returns-then-decides-clause-value t c = λ at asked a meets valued.
    let s = c.args.self.now in
    let k = c.args.store.now in
    let b = expr_tree c.args.b.now in
    let ty = ty_of c.args.ty in
    let n = c.args.first in
    subst (IsValued s k asked (trees.binary at c.args.op a b))
    (sym (c.binary_value.ensures ∙ ap (λ w. meaning.binary_value c.args.op w n 0) c.width_of.ensures.width))
    (decided_valued s k at c.args.op asked ty a b n (λ of. meets.meets of.design of.cells) valued
    (sym c.decides.ensures ∙ c.if-decides.true))

pub joined-returns-in_err-second-clause-overrun : goal.joined-returns-in_err-second-clause-overrun
joined-returns-in_err-second-clause-overrun t c = on_err c.from_residual.result (λ at asked a meets valued.
    second_operand_overruns c.args.self.now c.args.store.now at c.args.op asked (ty_of c.args.ty) a
    (expr_tree c.args.b.now) c.args.first (λ of. meets.meets of.design of.cells) valued
    (sym c.decides.ensures ∙ c.if-decides.false) c.in_err-second.ensures.overrun)

pub joined-width_of-requires-2 : goal.joined-width_of-requires-2
joined-width_of-requires-2 t c = sized_at c.args.self.now c.requires

pub joined-binary_value-requires-2 : goal.joined-binary_value-requires-2
joined-binary_value-requires-2 t c = c.width_of-2.ensures.is_width

pub joined-returns-clause-value : goal.joined-returns-clause-value
joined-returns-clause-value t c = λ at asked a meets valued.
    let s = c.args.self.now in
    let k = c.args.store.now in
    let b = expr_tree c.args.b.now in
    let ty = ty_of c.args.ty in
    let n = c.args.first in
    let p = c.in_ok-second.second in
    subst (IsValued s k asked (trees.binary at c.args.op a b))
    (sym (c.binary_value-2.ensures ∙ ap (λ w. meaning.binary_value c.args.op w n p) c.width_of-2.ensures.width))
    (binary_valued s k at c.args.op asked ty a b n (λ of. meets.meets of.design of.cells) valued p
    (sym c.decides.ensures ∙ c.if-decides.false) c.in_ok-second.ensures.value)

-- ---- shifts
pub shifted-value-requires : goal.shifted-value-requires
shifted-value-requires t c = (
  search rules,
  shift_part c.args.self.now (ty_of c.args.asked) c.requires.0 c.args.op
      (expr_tree c.args.e.now) c.args.by.now c.requires.1,
)

pub shifted-width_of-requires : goal.shifted-width_of-requires
shifted-width_of-requires t c = sized_at c.args.self.now c.requires.1

pub shifted-shift_amount-requires : goal.shifted-shift_amount-requires
shifted-shift_amount-requires t c =
    shift_by c.args.self.now (ty_of c.args.asked) c.requires.0 c.args.op (expr_tree c.args.e.now) c.args.by.now
    c.requires.1

pub shifted-returns-in_err-operand-clause-overrun : goal.shifted-returns-in_err-operand-clause-overrun
shifted-returns-in_err-operand-clause-overrun t c = on_err c.from_residual.result (λ at.
    shift_overruns c.args.self.now c.args.store.now at c.args.op (expr_tree c.args.e.now) c.args.by.now
    c.in_err-operand.ensures.overrun)

pub shifted-returns-clause-value : goal.shifted-returns-clause-value
shifted-returns-clause-value t c = λ at.
    let s = c.args.self.now in
    let k = c.args.store.now in
    let e = expr_tree c.args.e.now in
    let by = c.args.by.now in
    let asked = ty_of c.args.asked in
    let n = c.in_ok-operand.operand in
    subst (IsValued s k asked (trees.shift at c.args.op e by))
    (sym (c.shift.ensures ∙ ap (λ w. bits.shift c.args.op w n c.shift_amount.result) c.width_of.ensures.width
    ∙ ap (bits.shift c.args.op (width asked) n) c.shift_amount.ensures))
    (shift_valued s k asked at c.args.op e by n (shift_part s asked c.requires.0 c.args.op e by c.requires.1)
    c.in_ok-operand.ensures.value)

-- ---- casts
pub cast-value-requires : goal.cast-value-requires
cast-value-requires t c = (
  search rules,
  cast_operand c.args.self.now (ty_of c.args.asked) c.requires.0 c.args.to.now
      (expr_tree c.args.e.now) c.requires.1 (ty_of c.cast_type-own.result) c.cast_type-own.ensures,
)

pub cast-width_in-requires : goal.cast-width_in-requires
cast-width_in-requires t c =
    cast_width c.args.self.now (ty_of c.args.asked) c.requires.0 c.args.to.now (expr_tree c.args.e.now) c.requires.1

pub cast-returns-in_err-operand-clause-overrun : goal.cast-returns-in_err-operand-clause-overrun
cast-returns-in_err-operand-clause-overrun t c = on_err c.from_residual.result (λ at.
    cast_overruns c.args.self.now c.args.store.now at c.args.to.now (expr_tree c.args.e.now)
    c.in_err-operand.ensures.overrun)

pub cast-returns-clause-value : goal.cast-returns-clause-value
cast-returns-clause-value t c = λ at.
    let s = c.args.self.now in
    let k = c.args.store.now in
    let e = expr_tree c.args.e.now in
    let to = c.args.to.now in
    let asked = ty_of c.args.asked in
    let own = ty_of c.cast_type-own.result in
    let n = c.in_ok-operand.operand in
    subst (IsValued s k asked (trees.cast at to e))
    (sym (c.resize.ensures ∙ ap (λ w. resize w n) c.width_in.ensures.width))
    (cast_valued s k asked own at to e n
    (λ of. cast_own s asked c.requires.0 to e c.requires.1 own c.cast_type-own.ensures of.design of.cells)
    c.in_ok-operand.ensures.value)

-- ---- elements
pub element-index-requires : goal.element-index-requires
element-index-requires t c = (search rules, (ty_of c.args.asked, c.requires))

pub element-returns-in_err-number-clause-overrun : goal.element-returns-in_err-number-clause-overrun
element-returns-in_err-number-clause-overrun t c =
    on_err c.from_residual.result c.in_err-number.ensures.overrun

pub element-returns-clause-value : goal.element-returns-clause-value
element-returns-clause-value t c =
    let s = c.args.self.now in
    let path = c.args.path.now in
    let n = c.in_ok-number.number in
    element_valued s c.args.store.now path (expr_tree c.args.index.now) n c.in_ok-number.ensures.value
    (ty_of c.args.asked) c.unwrap_or.result
    (λ of. read_or (meaning.read of.memory) (cell of.design (scope_of s.at) path (Some n)) 0
    ∙ sym (c.unwrap_or.ensures ∙ ap (λ o. unwrap_or o 0) (c.cell_value.ensures of)))

-- ---- indices
pub index-value-requires : goal.index-value-requires
index-value-requires t c = (
  search rules,
  index_part c.args.self.now c.requires.0 c.args.path.now (expr_tree c.args.index.now) c.requires.1
      c.length-length.result c.length-length.ensures (ty_of c.index_type-ty.result) c.index_type-ty.ensures
      (omega arith),
)

pub index-returns-in_err-number-clause-overrun : goal.index-returns-in_err-number-clause-overrun
index-returns-in_err-number-clause-overrun t c = on_err c.from_residual.result
    (index_overruns c.args.self.now c.args.store.now c.args.path.now (expr_tree c.args.index.now)
    c.in_err-number.ensures.overrun)

pub index-returns-then-length-number-clause-overrun : goal.index-returns-then-length-number-clause-overrun
index-returns-then-length-number-clause-overrun t c =
    let s = c.args.self.now in
    let path = c.args.path.now in
    let index = expr_tree c.args.index.now in
    let ty = ty_of c.index_type-ty.result in
    let long = c.length-length.result in
    let n = c.in_ok-number.number in
    index_past_end s c.args.store.now path index ty n
    (λ of. sym (c.index_type-ty.ensures of.design of.cells)) c.in_ok-number.ensures.value
    (λ of. ap (λ l. nat_le l n) (length_read s c.requires.0 path index c.requires.1 long c.length-length.ensures
    of.design of.cells) ∙ past long n c.if-length-number.true)

pub index-returns-clause-value : goal.index-returns-clause-value
index-returns-clause-value t c =
    let s = c.args.self.now in
    let path = c.args.path.now in
    let index = expr_tree c.args.index.now in
    let ty = ty_of c.index_type-ty.result in
    let long = c.length-length.result in
    let n = c.in_ok-number.number in
    index_within s c.args.store.now path index ty n
    (λ of. sym (c.index_type-ty.ensures of.design of.cells)) c.in_ok-number.ensures.value
    (λ of. ap (λ l. nat_le l n) (length_read s c.requires.0 path index c.requires.1 long c.length-length.ensures
    of.design of.cells) ∙ within long n c.if-length-number.false)

-- ---- all forms
pub value-unary-requires : goal.value-unary-requires
value-unary-requires t c =
    let is : expr_tree c.args.e.now ≡ trees.unary c.in-Unary.field-0 c.in-Unary.op (expr_tree
    c.deref-in-Unary.result.now) = search rules in (
      omega (arith, c.decreases, ap expr_size is),
      form_typed c.args.self.now c.args.store.now (expr_tree c.args.e.now) (λ at. trees.unary at
          c.in-Unary.op (expr_tree c.deref-in-Unary.result.now)) c.in-Unary.field-0 is (ty_of c.args.asked) c.requires,
    )

pub value-returns-in-Unary-clause-value : goal.value-returns-in-Unary-clause-value
value-returns-in-Unary-clause-value t c =
    let is : expr_tree c.args.e.now ≡ trees.unary c.in-Unary.field-0 c.in-Unary.op (expr_tree
    c.deref-in-Unary.result.now) = search rules in
    whole_valued c.args.self.now c.args.store.now (expr_tree c.args.e.now) (λ at. trees.unary at c.in-Unary.op
    (expr_tree c.deref-in-Unary.result.now)) c.in-Unary.field-0 is (ty_of c.args.asked) c.unary.result
    c.unary.ensures.value

pub value-returns-in-Unary-clause-overrun : goal.value-returns-in-Unary-clause-overrun
value-returns-in-Unary-clause-overrun t c =
    let is : expr_tree c.args.e.now ≡ trees.unary c.in-Unary.field-0 c.in-Unary.op (expr_tree
    c.deref-in-Unary.result.now) = search rules in
    whole_overruns c.args.self.now c.args.store.now (expr_tree c.args.e.now) (λ at. trees.unary at c.in-Unary.op
    (expr_tree c.deref-in-Unary.result.now)) c.in-Unary.field-0 is c.unary.result c.unary.ensures.overrun

pub value-shifted-requires : goal.value-shifted-requires
value-shifted-requires t c =
    let is : expr_tree c.args.e.now ≡ trees.shift c.in-Shift.field-0 c.in-Shift.op (expr_tree
    c.deref-in-Shift.result.now) c.in-Shift.by = search rules in (
      omega (arith, c.decreases, ap expr_size is),
      form_typed c.args.self.now c.args.store.now (expr_tree c.args.e.now) (λ at. trees.shift at
          c.in-Shift.op (expr_tree c.deref-in-Shift.result.now) c.in-Shift.by) c.in-Shift.field-0 is
          (ty_of c.args.asked)
          c.requires,
    )

pub value-returns-in-Shift-clause-value : goal.value-returns-in-Shift-clause-value
value-returns-in-Shift-clause-value t c =
    let is : expr_tree c.args.e.now ≡ trees.shift c.in-Shift.field-0 c.in-Shift.op (expr_tree
    c.deref-in-Shift.result.now) c.in-Shift.by = search rules in
    whole_valued c.args.self.now c.args.store.now (expr_tree c.args.e.now) (λ at. trees.shift at c.in-Shift.op
    (expr_tree c.deref-in-Shift.result.now) c.in-Shift.by) c.in-Shift.field-0 is (ty_of c.args.asked) c.shifted.result
    c.shifted.ensures.value

pub value-returns-in-Shift-clause-overrun : goal.value-returns-in-Shift-clause-overrun
value-returns-in-Shift-clause-overrun t c =
    let is : expr_tree c.args.e.now ≡ trees.shift c.in-Shift.field-0 c.in-Shift.op (expr_tree
    c.deref-in-Shift.result.now) c.in-Shift.by = search rules in
    whole_overruns c.args.self.now c.args.store.now (expr_tree c.args.e.now) (λ at. trees.shift at c.in-Shift.op
    (expr_tree c.deref-in-Shift.result.now) c.in-Shift.by) c.in-Shift.field-0 is c.shifted.result
    c.shifted.ensures.overrun

pub value-cast-requires : goal.value-cast-requires
value-cast-requires t c =
    let is : expr_tree c.args.e.now ≡ trees.cast c.in-Cast.field-0 c.in-Cast.to (expr_tree c.deref-in-Cast.result.now)
    = search rules in (
      omega (arith, c.decreases, ap expr_size is),
      form_typed c.args.self.now c.args.store.now (expr_tree c.args.e.now) (λ at. trees.cast at
          c.in-Cast.to (expr_tree c.deref-in-Cast.result.now)) c.in-Cast.field-0 is (ty_of c.args.asked) c.requires,
    )

pub value-returns-in-Cast-clause-value : goal.value-returns-in-Cast-clause-value
value-returns-in-Cast-clause-value t c =
    let is : expr_tree c.args.e.now ≡ trees.cast c.in-Cast.field-0 c.in-Cast.to (expr_tree c.deref-in-Cast.result.now)
    = search rules in
    whole_valued c.args.self.now c.args.store.now (expr_tree c.args.e.now) (λ at. trees.cast at c.in-Cast.to
    (expr_tree c.deref-in-Cast.result.now)) c.in-Cast.field-0 is (ty_of c.args.asked) c.cast.result c.cast.ensures.value

pub value-returns-in-Cast-clause-overrun : goal.value-returns-in-Cast-clause-overrun
value-returns-in-Cast-clause-overrun t c =
    let is : expr_tree c.args.e.now ≡ trees.cast c.in-Cast.field-0 c.in-Cast.to (expr_tree c.deref-in-Cast.result.now)
    = search rules in
    whole_overruns c.args.self.now c.args.store.now (expr_tree c.args.e.now) (λ at. trees.cast at c.in-Cast.to
    (expr_tree c.deref-in-Cast.result.now)) c.in-Cast.field-0 is c.cast.result c.cast.ensures.overrun

pub value-value-requires : goal.value-value-requires
value-value-requires t c =
    let is : expr_tree c.args.e.now ≡ trees.group c.in-Group.field-0 (expr_tree c.deref.result.now) = search rules in (
      omega (arith, c.decreases, ap expr_size is),
      group_part c.args.self.now (ty_of c.args.asked) c.in-Group.field-0 (expr_tree c.deref.result.now)
          (subst (HasTypeAt c.args.self.now (ty_of c.args.asked)) is c.requires),
    )

pub value-returns-in-Group-clause-value : goal.value-returns-in-Group-clause-value
value-returns-in-Group-clause-value t c =
    let is : expr_tree c.args.e.now ≡ trees.group c.in-Group.field-0 (expr_tree c.deref.result.now) = search rules in
    whole_valued c.args.self.now c.args.store.now (expr_tree c.args.e.now) (λ at. trees.group at (expr_tree
    c.deref.result.now)) c.in-Group.field-0 is (ty_of c.args.asked) c.value.result
    (IfOk-weaker c.value.result (IsValued c.args.self.now c.args.store.now (ty_of c.args.asked) (expr_tree
    c.deref.result.now))
    (λ n. (at : Place) → IsValued c.args.self.now c.args.store.now (ty_of c.args.asked) (trees.group at (expr_tree
    c.deref.result.now)) n)
    (λ n h at. group_valued c.args.self.now c.args.store.now (ty_of c.args.asked) at (expr_tree c.deref.result.now) n
    h) c.value.ensures.value)

pub value-returns-in-Group-clause-overrun : goal.value-returns-in-Group-clause-overrun
value-returns-in-Group-clause-overrun t c =
    let is : expr_tree c.args.e.now ≡ trees.group c.in-Group.field-0 (expr_tree c.deref.result.now) = search rules in
    whole_overruns c.args.self.now c.args.store.now (expr_tree c.args.e.now) (λ at. trees.group at (expr_tree
    c.deref.result.now)) c.in-Group.field-0 is c.value.result
    (IfErr-weaker c.value.result _ _ (λ _ over at. group_overruns c.args.self.now c.args.store.now at
    (expr_tree c.deref.result.now) over) c.value.ensures.overrun)

pub value-returns-in-Truth-clause-value : goal.value-returns-in-Truth-clause-value
value-returns-in-Truth-clause-value t c =
    truth_valued c.args.self.now c.args.store.now (ty_of c.args.asked) (expr_tree c.args.e.now) c.in-Truth.field-0
    c.in-Truth.truth _ (search rules) c.bit.ensures

pub value-returns-in-Number-clause-value : goal.value-returns-in-Number-clause-value
value-returns-in-Number-clause-value t c =
    number_valued c.args.self.now c.args.store.now (ty_of c.args.asked) (expr_tree c.args.e.now) c.in-Number.number _
    (search rules) c.unwrap_or.ensures

pub value-returns-in-Path-clause-value : goal.value-returns-in-Path-clause-value
value-returns-in-Path-clause-value t c =
    let is : expr_tree c.args.e.now ≡ trees.path c.as_slice.result.now = search rules in
    path_valued c.args.self.now c.args.store.now (ty_of c.args.asked) (expr_tree c.args.e.now) c.as_slice.result.now _
    is c.path_value.ensures

pub value-operand_type-ty-requires : goal.value-operand_type-ty-requires
value-operand_type-ty-requires t c =
    let is : expr_tree c.args.e.now ≡ trees.binary c.in-Binary.field-0 c.in-Binary.op (expr_tree
    c.deref-in-Binary.result.now) (expr_tree c.deref-in-Binary-2.result.now) = search rules in
    form_typed c.args.self.now c.args.store.now (expr_tree c.args.e.now) (λ at. trees.binary at c.in-Binary.op
    (expr_tree c.deref-in-Binary.result.now) (expr_tree c.deref-in-Binary-2.result.now)) c.in-Binary.field-0 is (ty_of
    c.args.asked) c.requires

pub value-value-requires-in-Binary : goal.value-value-requires-in-Binary
value-value-requires-in-Binary t c =
    let is : expr_tree c.args.e.now ≡ trees.binary c.in-Binary.field-0 c.in-Binary.op (expr_tree
    c.deref-in-Binary-3.result.now) (expr_tree c.deref-in-Binary-2.result.now) = search rules in
    let same : c.deref-in-Binary.result.now ≡ c.deref-in-Binary-3.result.now = cc in (
      omega (arith, c.decreases, ap expr_size is),
      subst (λ e. HasTypeAt c.args.self.now (ty_of c.operand_type-ty.result) (expr_tree e)) same
          c.operand_type-ty.ensures.first,
    )

pub value-returns-in_err-first-in-Binary-clause-overrun : goal.value-returns-in_err-first-in-Binary-clause-overrun
value-returns-in_err-first-in-Binary-clause-overrun t c =
    let is : expr_tree c.args.e.now ≡ trees.binary c.in-Binary.field-0 c.in-Binary.op (expr_tree
    c.deref-in-Binary-3.result.now) (expr_tree c.deref-in-Binary-2.result.now) = search rules in
    on_err c.from_residual.result (subst (Overruns c.args.self.now c.args.store.now) (sym is)
    (first_operand_overruns c.args.self.now c.args.store.now c.in-Binary.field-0 c.in-Binary.op (expr_tree
    c.deref-in-Binary-3.result.now) (expr_tree c.deref-in-Binary-2.result.now)
    c.in_err-first-in-Binary.ensures.overrun))

pub value-joined-requires : goal.value-joined-requires
value-joined-requires t c =
    let is : expr_tree c.args.e.now ≡ trees.binary c.in-Binary.field-0 c.in-Binary.op (expr_tree
    c.deref-in-Binary-3.result.now) (expr_tree c.deref-in-Binary-4.result.now) = search rules in
    let same : c.deref-in-Binary-2.result.now ≡ c.deref-in-Binary-4.result.now = cc in (
      omega (arith, c.decreases, ap expr_size is),
      subst (λ e. HasTypeAt c.args.self.now (ty_of c.operand_type-ty.result) (expr_tree e)) same
          c.operand_type-ty.ensures.second,
    )

pub value-returns-in_ok-first-in-Binary-clause-value : goal.value-returns-in_ok-first-in-Binary-clause-value
value-returns-in_ok-first-in-Binary-clause-value t c =
    let is : expr_tree c.args.e.now ≡ trees.binary c.in-Binary.field-0 c.in-Binary.op (expr_tree
    c.deref-in-Binary-3.result.now) (expr_tree c.deref-in-Binary-4.result.now) = search rules in
    let one : c.deref-in-Binary.result.now ≡ c.deref-in-Binary-3.result.now = cc in
    let two : c.deref-in-Binary-2.result.now ≡ c.deref-in-Binary-4.result.now = cc in
    joined_valued c.args.self.now c.args.store.now c.in-Binary.field-0 c.in-Binary.op (ty_of c.args.asked) (ty_of
    c.operand_type-ty.result) (expr_tree c.deref-in-Binary-3.result.now) (expr_tree c.deref-in-Binary-4.result.now)
    (expr_tree c.args.e.now) c.in_ok-first-in-Binary.first is
    (subst (λ e. IsOperandType c.args.self.now c.in-Binary.op (ty_of c.args.asked) (expr_tree e) (expr_tree
    c.deref-in-Binary-4.result.now) (ty_of c.operand_type-ty.result)) one
    (subst (λ e. IsOperandType c.args.self.now c.in-Binary.op (ty_of c.args.asked) (expr_tree
    c.deref-in-Binary.result.now) (expr_tree e) (ty_of c.operand_type-ty.result)) two
    c.operand_type-ty.ensures)) c.in_ok-first-in-Binary.ensures.value c.joined.result c.joined.ensures.value

pub value-returns-in_ok-first-in-Binary-clause-overrun : goal.value-returns-in_ok-first-in-Binary-clause-overrun
value-returns-in_ok-first-in-Binary-clause-overrun t c =
    let is : expr_tree c.args.e.now ≡ trees.binary c.in-Binary.field-0 c.in-Binary.op (expr_tree
    c.deref-in-Binary-3.result.now) (expr_tree c.deref-in-Binary-4.result.now) = search rules in
    let one : c.deref-in-Binary.result.now ≡ c.deref-in-Binary-3.result.now = cc in
    let two : c.deref-in-Binary-2.result.now ≡ c.deref-in-Binary-4.result.now = cc in
    joined_overruns c.args.self.now c.args.store.now c.in-Binary.field-0 c.in-Binary.op (ty_of c.args.asked) (ty_of
    c.operand_type-ty.result) (expr_tree c.deref-in-Binary-3.result.now) (expr_tree c.deref-in-Binary-4.result.now)
    (expr_tree c.args.e.now) c.in_ok-first-in-Binary.first is
    (subst (λ e. IsOperandType c.args.self.now c.in-Binary.op (ty_of c.args.asked) (expr_tree e) (expr_tree
    c.deref-in-Binary-4.result.now) (ty_of c.operand_type-ty.result)) one
    (subst (λ e. IsOperandType c.args.self.now c.in-Binary.op (ty_of c.args.asked) (expr_tree
    c.deref-in-Binary.result.now) (expr_tree e) (ty_of c.operand_type-ty.result)) two
    c.operand_type-ty.ensures)) c.in_ok-first-in-Binary.ensures.value c.joined.result c.joined.ensures.overrun

pub value-value-requires-in-Conditional : goal.value-value-requires-in-Conditional
value-value-requires-in-Conditional t c =
    let is : expr_tree c.args.e.now ≡ trees.conditional c.in-Conditional.field-0 (expr_tree
    c.deref-in-Conditional.result.now) (expr_tree c.in-Conditional.a.value) (expr_tree c.in-Conditional.b.value) =
    search rules in
    let typed = subst (HasTypeAt c.args.self.now (ty_of c.args.asked)) is c.requires in (
      omega (arith, c.decreases, ap expr_size is),
      test_part c.args.self.now (ty_of c.args.asked) c.in-Conditional.field-0 (expr_tree
          c.deref-in-Conditional.result.now) (expr_tree c.in-Conditional.a.value) (expr_tree c.in-Conditional.b.value)
          typed,
    )

pub value-returns-in_err-tested-in-Conditional-clause-overrun :
    goal.value-returns-in_err-tested-in-Conditional-clause-overrun
value-returns-in_err-tested-in-Conditional-clause-overrun t c =
    let is : expr_tree c.args.e.now ≡ trees.conditional c.in-Conditional.field-0 (expr_tree
    c.deref-in-Conditional.result.now) (expr_tree c.in-Conditional.a.value) (expr_tree c.in-Conditional.b.value) =
    search rules in
    on_err c.from_residual-in_err-tested-in-Conditional.result
    (subst (Overruns c.args.self.now c.args.store.now) (sym is)
    (test_overruns c.args.self.now c.args.store.now c.in-Conditional.field-0 (expr_tree
    c.deref-in-Conditional.result.now) (expr_tree c.in-Conditional.a.value) (expr_tree c.in-Conditional.b.value)
    c.in_err-tested-in-Conditional.ensures.overrun))

pub value-value-requires-then-tested-eq0 : goal.value-value-requires-then-tested-eq0
value-value-requires-then-tested-eq0 t c =
    let is : expr_tree c.args.e.now ≡ trees.conditional c.in-Conditional.field-0 (expr_tree
    c.deref-in-Conditional.result.now) (expr_tree c.in-Conditional.a.value) (expr_tree
    c.deref-then-tested-eq0.result.now) = search rules in
    let typed = subst (HasTypeAt c.args.self.now (ty_of c.args.asked)) is c.requires in (
      omega (arith, c.decreases, ap expr_size is),
      second_part c.args.self.now (ty_of c.args.asked) c.in-Conditional.field-0 (expr_tree
          c.deref-in-Conditional.result.now) (expr_tree c.in-Conditional.a.value) (expr_tree
          c.deref-then-tested-eq0.result.now) typed,
    )

pub value-returns-then-tested-eq0-clause-value : goal.value-returns-then-tested-eq0-clause-value
value-returns-then-tested-eq0-clause-value t c =
    let is : expr_tree c.args.e.now ≡ trees.conditional c.in-Conditional.field-0 (expr_tree
    c.deref-in-Conditional.result.now) (expr_tree c.in-Conditional.a.value) (expr_tree
    c.deref-then-tested-eq0.result.now) = search rules in
    let typed = subst (HasTypeAt c.args.self.now (ty_of c.args.asked)) is c.requires in
    whole_valued c.args.self.now c.args.store.now (expr_tree c.args.e.now) (λ at. trees.conditional at (expr_tree
    c.deref-in-Conditional.result.now) (expr_tree c.in-Conditional.a.value) (expr_tree
    c.deref-then-tested-eq0.result.now)) c.in-Conditional.field-0 is (ty_of c.args.asked) c.value-then-tested-eq0.result
    (IfOk-weaker c.value-then-tested-eq0.result (IsValued c.args.self.now c.args.store.now (ty_of c.args.asked)
    (expr_tree c.deref-then-tested-eq0.result.now))
    (λ n. (at : Place) → IsValued c.args.self.now c.args.store.now (ty_of c.args.asked) (trees.conditional at
    (expr_tree c.deref-in-Conditional.result.now) (expr_tree c.in-Conditional.a.value) (expr_tree
    c.deref-then-tested-eq0.result.now)) n)
    (λ n h at. second_chosen c.args.self.now c.args.store.now (ty_of c.args.asked) at (expr_tree
    c.deref-in-Conditional.result.now) (expr_tree c.in-Conditional.a.value) (expr_tree
    c.deref-then-tested-eq0.result.now) (first_part c.args.self.now (ty_of c.args.asked) c.in-Conditional.field-0
    (expr_tree c.deref-in-Conditional.result.now) (expr_tree c.in-Conditional.a.value) (expr_tree
    c.deref-then-tested-eq0.result.now) typed)
    (second_part c.args.self.now (ty_of c.args.asked) c.in-Conditional.field-0 (expr_tree
    c.deref-in-Conditional.result.now) (expr_tree c.in-Conditional.a.value) (expr_tree
    c.deref-then-tested-eq0.result.now) typed) c.in_ok-tested-in-Conditional.tested n (none_is
    c.in_ok-tested-in-Conditional.tested c.if-tested-eq0.true)
    c.in_ok-tested-in-Conditional.ensures.value h) c.value-then-tested-eq0.ensures.value)

pub value-returns-then-tested-eq0-clause-overrun : goal.value-returns-then-tested-eq0-clause-overrun
value-returns-then-tested-eq0-clause-overrun t c =
    let is : expr_tree c.args.e.now ≡ trees.conditional c.in-Conditional.field-0 (expr_tree
    c.deref-in-Conditional.result.now) (expr_tree c.in-Conditional.a.value) (expr_tree
    c.deref-then-tested-eq0.result.now) = search rules in
    IfErr-weaker c.value-then-tested-eq0.result _ _
    (λ _ over. subst (Overruns c.args.self.now c.args.store.now) (sym is)
    (second_overruns c.args.self.now c.args.store.now c.in-Conditional.field-0 (expr_tree
    c.deref-in-Conditional.result.now) (expr_tree c.in-Conditional.a.value) (expr_tree
    c.deref-then-tested-eq0.result.now) c.in_ok-tested-in-Conditional.tested (none_is
    c.in_ok-tested-in-Conditional.tested c.if-tested-eq0.true)
    c.in_ok-tested-in-Conditional.ensures.value over)) c.value-then-tested-eq0.ensures.overrun

pub value-value-requires-else-tested-eq0 : goal.value-value-requires-else-tested-eq0
value-value-requires-else-tested-eq0 t c =
    let is : expr_tree c.args.e.now ≡ trees.conditional c.in-Conditional.field-0 (expr_tree
    c.deref-in-Conditional.result.now) (expr_tree c.deref-else-tested-eq0.result.now) (expr_tree
    c.in-Conditional.b.value) = search rules in
    let typed = subst (HasTypeAt c.args.self.now (ty_of c.args.asked)) is c.requires in (
      omega (arith, c.decreases, ap expr_size is),
      first_part c.args.self.now (ty_of c.args.asked) c.in-Conditional.field-0 (expr_tree
          c.deref-in-Conditional.result.now) (expr_tree c.deref-else-tested-eq0.result.now) (expr_tree
          c.in-Conditional.b.value) typed,
    )

pub value-returns-else-tested-eq0-clause-value : goal.value-returns-else-tested-eq0-clause-value
value-returns-else-tested-eq0-clause-value t c =
    let is : expr_tree c.args.e.now ≡ trees.conditional c.in-Conditional.field-0 (expr_tree
    c.deref-in-Conditional.result.now) (expr_tree c.deref-else-tested-eq0.result.now) (expr_tree
    c.in-Conditional.b.value) = search rules in
    let typed = subst (HasTypeAt c.args.self.now (ty_of c.args.asked)) is c.requires in
    whole_valued c.args.self.now c.args.store.now (expr_tree c.args.e.now) (λ at. trees.conditional at (expr_tree
    c.deref-in-Conditional.result.now) (expr_tree c.deref-else-tested-eq0.result.now) (expr_tree
    c.in-Conditional.b.value)) c.in-Conditional.field-0 is (ty_of c.args.asked) c.value-else-tested-eq0.result
    (IfOk-weaker c.value-else-tested-eq0.result (IsValued c.args.self.now c.args.store.now (ty_of c.args.asked)
    (expr_tree c.deref-else-tested-eq0.result.now))
    (λ n. (at : Place) → IsValued c.args.self.now c.args.store.now (ty_of c.args.asked) (trees.conditional at
    (expr_tree c.deref-in-Conditional.result.now) (expr_tree c.deref-else-tested-eq0.result.now) (expr_tree
    c.in-Conditional.b.value)) n)
    (λ n h at. first_chosen c.args.self.now c.args.store.now (ty_of c.args.asked) at (expr_tree
    c.deref-in-Conditional.result.now) (expr_tree c.deref-else-tested-eq0.result.now) (expr_tree
    c.in-Conditional.b.value) (first_part c.args.self.now (ty_of c.args.asked) c.in-Conditional.field-0 (expr_tree
    c.deref-in-Conditional.result.now) (expr_tree c.deref-else-tested-eq0.result.now) (expr_tree
    c.in-Conditional.b.value) typed)
    (second_part c.args.self.now (ty_of c.args.asked) c.in-Conditional.field-0 (expr_tree
    c.deref-in-Conditional.result.now) (expr_tree c.deref-else-tested-eq0.result.now) (expr_tree
    c.in-Conditional.b.value) typed) c.in_ok-tested-in-Conditional.tested n (some_is
    c.in_ok-tested-in-Conditional.tested c.if-tested-eq0.false)
    c.in_ok-tested-in-Conditional.ensures.value h) c.value-else-tested-eq0.ensures.value)

pub value-returns-else-tested-eq0-clause-overrun : goal.value-returns-else-tested-eq0-clause-overrun
value-returns-else-tested-eq0-clause-overrun t c =
    let is : expr_tree c.args.e.now ≡ trees.conditional c.in-Conditional.field-0 (expr_tree
    c.deref-in-Conditional.result.now) (expr_tree c.deref-else-tested-eq0.result.now) (expr_tree
    c.in-Conditional.b.value) = search rules in
    IfErr-weaker c.value-else-tested-eq0.result _ _
    (λ _ over. subst (Overruns c.args.self.now c.args.store.now) (sym is)
    (first_overruns c.args.self.now c.args.store.now c.in-Conditional.field-0 (expr_tree
    c.deref-in-Conditional.result.now) (expr_tree c.deref-else-tested-eq0.result.now) (expr_tree
    c.in-Conditional.b.value) c.in_ok-tested-in-Conditional.tested (some_is c.in_ok-tested-in-Conditional.tested
    c.if-tested-eq0.false)
    c.in_ok-tested-in-Conditional.ensures.value over)) c.value-else-tested-eq0.ensures.overrun

pub value-element-requires : goal.value-element-requires
value-element-requires t c =
    let is : expr_tree c.args.e.now ≡ trees.element c.as_slice-in-Element.result.now (expr_tree
    c.deref-in-Element.result.now) = search rules in
    (omega (arith, c.decreases, ap expr_size is), subst (HasTypeAt c.args.self.now (ty_of c.args.asked)) is c.requires)

pub value-returns-in-Element-clause-value : goal.value-returns-in-Element-clause-value
value-returns-in-Element-clause-value t c =
    let is : expr_tree c.args.e.now ≡ trees.element c.as_slice-in-Element.result.now (expr_tree
    c.deref-in-Element.result.now) = search rules in
    subst (λ e. IfOk c.element.result (IsValued c.args.self.now c.args.store.now (ty_of c.args.asked) e)) (sym is)
    c.element.ensures.value

pub value-returns-in-Element-clause-overrun : goal.value-returns-in-Element-clause-overrun
value-returns-in-Element-clause-overrun t c =
    let is : expr_tree c.args.e.now ≡ trees.element c.as_slice-in-Element.result.now (expr_tree
    c.deref-in-Element.result.now) = search rules in
    IfErr-weaker c.element.result _ _ (λ _. subst (Overruns c.args.self.now c.args.store.now) (sym is))
    c.element.ensures.overrun
