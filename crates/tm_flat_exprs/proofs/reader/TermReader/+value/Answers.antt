use Rattle.std.proofs.Common.{ℕ, ◌^◌, ◌≤◌, sym, ap, ◌∙◌, subst, arith}
use Rattle.std.specs.Prelude.{IfOk, min}
use Rattle.tm_syntax.specs.declared.tree.Expr.{Expr}
use Rattle.std.proofs.lemmas.Result.{IfOk-weaker}
use Rattle.tm_syntax.specs.Tree.{path, group, unary, binary, shift, conditional, cast, element}
use Rattle.tm_syntax.specs.Tree.View.{expr_tree}
use Rattle.tm_scope.specs.Types.{ty_of}
use Rattle.tm_term.specs.declared.term.Term.{Term}
use Rattle.tm_term.specs.declared.term.Term.TheVariants.{Resize}
use Rattle.tm_term.specs.Table.{Fits, term_width}
use Rattle.tm_term.specs.Value.{term_value}
use Rattle.tm_term.proofs.Valued.{Extends-trans}
use Rattle.tm_flat_exprs.specs.Made.{Makes}
use Rattle.tm_flat_exprs.specs.Operators.{shifted_term}
use Rattle.tm_flat_exprs.specs.Valued.{Finds, FindsElements}
use Rattle.tm_flat_exprs.proofs.Along.{same_found}
use Rattle.tm_flat_exprs.proofs.Forms.{binary_found, cast_found, chosen_found, group_found, shift_below, shift_found}
use Rattle.tm_flat_exprs.proofs.Forms.{unary_found}
use Rattle.tm_flat_exprs.proofs.Later.{term_along, truth_along}
use Rattle.tm_design.proofs.Contexts.{index_told, valued_told}
use Rattle.tm_design.proofs.OperandParts.{cast_operand, cast_own, cast_width, first_part, index_part, second_part, shift_by}
use Rattle.tm_design.proofs.OperandParts.{sized_at}
use Rattle.tm_flat_exprs.proofs.Reading.{element_found, element_has_type, length_told}
use Rattle.tm_flat_exprs.proofs.reader.TermReader.+value.Goals as goal

-- ---- prefix operators
pub unary-make-requires : goal.unary-make-requires
unary-make-requires t c = c.in_ok-operand.ensures.value.0

pub unary-returns : goal.unary-returns
unary-returns t c = λ at.
    unary_found c.args.self.now c.args.memory.now (ty_of c.args.asked) c.requires.typed.0 at c.args.op
    (expr_tree c.args.e.now) c.args.terms.now c.value.new.terms c.make.new.terms c.in_ok-operand.operand
    c.in_ok-value.value c.requires.typed.1 c.in_ok-operand.ensures c.in_ok-value.ensures

-- ---- operators between two
pub binary-joined-requires-clause-alike : goal.binary-joined-requires-clause-alike
binary-joined-requires-clause-alike t c =
    let x = c.in_ok-first.first.value in
    let first = c.in_ok-first.ensures.value in
    let second = c.in_ok-second.ensures in
    (second.grown.known x first.0, second.value.0, second.grown.widths x first.0 ∙ first.1 ∙ sym second.value.1)

pub binary-joined-requires-clause-conjunction : goal.binary-joined-requires-clause-conjunction
binary-joined-requires-clause-conjunction t c = λ is.
    c.in_ok-second.ensures.grown.widths c.in_ok-first.first.value c.in_ok-first.ensures.value.0
    ∙ c.in_ok-first.ensures.value.1
    ∙ c.operand_type-ty.ensures.conjunction is

pub binary-joined-requires-clause-disjunction : goal.binary-joined-requires-clause-disjunction
binary-joined-requires-clause-disjunction t c = λ is.
    c.in_ok-second.ensures.grown.widths c.in_ok-first.first.value c.in_ok-first.ensures.value.0
    ∙ c.in_ok-first.ensures.value.1
    ∙ c.operand_type-ty.ensures.disjunction is

pub binary-joined_overrun-requires-clause-conjunction : goal.binary-joined_overrun-requires-clause-conjunction
binary-joined_overrun-requires-clause-conjunction t c = λ is.
    let later = Extends-trans c.value.new.terms c.value-2.new.terms c.joined.new.terms
    c.in_ok-second.ensures.grown c.in_ok-value.ensures.grown in (
      later.known c.in_ok-first.first.value c.in_ok-first.ensures.value.0,
      later.widths c.in_ok-first.first.value c.in_ok-first.ensures.value.0
          ∙ c.in_ok-first.ensures.value.1
          ∙ c.operand_type-ty.ensures.conjunction is,
    )

pub binary-joined_overrun-requires-clause-disjunction : goal.binary-joined_overrun-requires-clause-disjunction
binary-joined_overrun-requires-clause-disjunction t c = λ is.
    let later = Extends-trans c.value.new.terms c.value-2.new.terms c.joined.new.terms
    c.in_ok-second.ensures.grown c.in_ok-value.ensures.grown in (
      later.known c.in_ok-first.first.value c.in_ok-first.ensures.value.0,
      later.widths c.in_ok-first.first.value c.in_ok-first.ensures.value.0
          ∙ c.in_ok-first.ensures.value.1
          ∙ c.operand_type-ty.ensures.disjunction is,
    )

pub binary-joined_overrun-requires-clause-first : goal.binary-joined_overrun-requires-clause-first
binary-joined_overrun-requires-clause-first t c =
    truth_along c.value.new.terms c.joined.new.terms c.in_ok-first.first.overrun
    (Extends-trans c.value.new.terms c.value-2.new.terms c.joined.new.terms
    c.in_ok-second.ensures.grown c.in_ok-value.ensures.grown) c.in_ok-first.ensures.overrun

pub binary-joined_overrun-requires-clause-second : goal.binary-joined_overrun-requires-clause-second
binary-joined_overrun-requires-clause-second t c =
    truth_along c.value-2.new.terms c.joined.new.terms c.in_ok-second.second.overrun
    c.in_ok-value.ensures.grown c.in_ok-second.ensures.overrun

pub binary-returns : goal.binary-returns
binary-returns t c = λ at.
    binary_found c.args.self.now c.args.memory.now (ty_of c.args.asked) (ty_of c.operand_type-ty.result) at c.args.op
    (expr_tree c.args.a.now) (expr_tree c.args.b.now) c.args.terms.now c.value.new.terms c.value-2.new.terms
    c.joined.new.terms c.joined_overrun.new.terms c.in_ok-first.first c.in_ok-second.second
    c.in_ok-value.value c.in_ok-overrun.overrun c.operand_type-ty.ensures c.in_ok-first.ensures c.in_ok-second.ensures
    c.in_ok-value.ensures c.in_ok-overrun.ensures

-- ---- shifts
pub shifted-shift_amount-requires : goal.shifted-shift_amount-requires
shifted-shift_amount-requires t c =
    shift_by c.args.self.now (ty_of c.args.asked) c.requires.typed.0 c.args.op (expr_tree c.args.e.now) c.args.by.now
    c.requires.typed.1

pub shifted-make-requires : goal.shifted-make-requires
shifted-make-requires t c =
    subst (λ (term : Term). Fits c.value.new.terms term)
    (sym (c.shifted_term.ensures ∙ ap (shifted_term c.args.op c.in_ok-operand.operand.value) c.shift_amount.ensures))
    (shift_below c.args.self.now c.args.memory.now (ty_of c.args.asked) c.requires.typed.0 c.args.op
    (expr_tree c.args.e.now) c.args.by.now c.args.terms.now c.value.new.terms c.in_ok-operand.operand
    c.requires.typed.1 c.in_ok-operand.ensures)

pub shifted-returns : goal.shifted-returns
shifted-returns t c = λ at.
    shift_found c.args.self.now c.args.memory.now (ty_of c.args.asked) c.requires.typed.0 at c.args.op
    (expr_tree c.args.e.now) c.args.by.now c.args.terms.now c.value.new.terms c.make.new.terms
    c.in_ok-operand.operand c.in_ok-value.value c.requires.typed.1 c.in_ok-operand.ensures
    (subst (λ (term : Term). Makes c.value.new.terms c.make.new.terms
    (term_width c.value.new.terms term) c.in_ok-value.value (λ u v. term_value u v term))
    (c.shifted_term.ensures ∙ ap (shifted_term c.args.op c.in_ok-operand.operand.value) c.shift_amount.ensures)
    c.in_ok-value.ensures)

-- ---- conditionals
pub chosen-make-requires : goal.chosen-make-requires
chosen-make-requires t c =
    let test = c.in_ok-tested.tested.value in
    let one = c.in_ok-first.first.value in
    let tested = c.in_ok-tested.ensures.value in
    let first = c.in_ok-first.ensures in
    let second = c.in_ok-second.ensures in (
      second.grown.known test (first.grown.known test tested.0),
      second.grown.widths test (first.grown.known test tested.0) ∙ first.grown.widths test tested.0 ∙ tested.1,
      (
        second.grown.known one first.value.0,
        second.value.0,
        second.grown.widths one first.value.0 ∙ first.value.1 ∙ sym second.value.1,
      ),
    )

pub chosen-chosen_overrun-requires : goal.chosen-chosen_overrun-requires
chosen-chosen_overrun-requires t c =
    let made = c.in_ok-value.ensures in
    let last = Extends-trans c.value-2.new.terms c.value-3.new.terms c.make.new.terms
    c.in_ok-second.ensures.grown made.grown in
    let whole = Extends-trans c.value.new.terms c.value-2.new.terms c.make.new.terms
    c.in_ok-first.ensures.grown last in
    record {
      sound = made.sound;
      test = term_along c.value.new.terms c.make.new.terms 1 c.in_ok-tested.tested.value whole
          c.in_ok-tested.ensures.value;
      tested = truth_along c.value.new.terms c.make.new.terms c.in_ok-tested.tested.overrun whole
          c.in_ok-tested.ensures.overrun;
      first = truth_along c.value-2.new.terms c.make.new.terms c.in_ok-first.first.overrun last
          c.in_ok-first.ensures.overrun;
      second = truth_along c.value-3.new.terms c.make.new.terms c.in_ok-second.second.overrun made.grown
          c.in_ok-second.ensures.overrun;
    }

pub chosen-returns : goal.chosen-returns
chosen-returns t c = λ at.
    chosen_found c.args.self.now c.args.memory.now (ty_of c.args.asked) c.requires.typed.0 at
    (expr_tree c.args.test.now) (expr_tree c.args.a.now) (expr_tree c.args.b.now) c.args.terms.now
    c.value.new.terms c.value-2.new.terms c.value-3.new.terms c.make.new.terms
    c.chosen_overrun.new.terms c.in_ok-tested.tested c.in_ok-first.first c.in_ok-second.second
    c.in_ok-value.value c.in_ok-overrun.overrun c.requires.typed.1 c.in_ok-tested.ensures c.in_ok-first.ensures
    c.in_ok-second.ensures c.in_ok-value.ensures c.in_ok-overrun.ensures

-- ---- casts
pub cast-value-requires : goal.cast-value-requires
cast-value-requires t c = (
  omega (arith, c.decreases),
  (
    cast_operand c.args.self.now (ty_of c.args.asked) c.requires.typed.0 c.args.to.now (expr_tree c.args.e.now)
        c.requires.typed.1 (ty_of c.valued_type-own.result)
        (valued_told c.self.inside.scope c.args.self.now c.self.view_is (ty_of c.args.asked) (expr_tree c.args.e.now)
        (ty_of c.valued_type-own.result) c.valued_type-own.ensures),
    c.requires.ready,
  ),
)

pub cast-width_in-requires : goal.cast-width_in-requires
cast-width_in-requires t c =
    cast_width c.args.self.now (ty_of c.args.asked) c.requires.typed.0 c.args.to.now (expr_tree c.args.e.now)
    c.requires.typed.1

pub cast-make-requires : goal.cast-make-requires
cast-make-requires t c = (c.width_in.ensures.is_width, c.in_ok-operand.ensures.value.0)

pub cast-returns : goal.cast-returns
cast-returns t c = λ at.
    cast_found c.args.self.now c.args.memory.now (ty_of c.args.asked) (ty_of c.valued_type-own.result)
    c.requires.typed.0 at c.args.to.now (expr_tree c.args.e.now) c.args.terms.now c.value.new.terms
    c.make.new.terms c.in_ok-operand.operand c.in_ok-value.value c.requires.typed.1
    (λ u v of.
    cast_own c.args.self.now (ty_of c.args.asked) c.requires.typed.0 c.args.to.now (expr_tree c.args.e.now)
    c.requires.typed.1 (ty_of c.valued_type-own.result)
    (valued_told c.self.inside.scope c.args.self.now c.self.view_is (ty_of c.args.asked) (expr_tree c.args.e.now)
    (ty_of c.valued_type-own.result) c.valued_type-own.ensures) of.design of.cells)
    c.in_ok-operand.ensures
    (subst (λ (w : ℕ). Makes c.value.new.terms c.make.new.terms
    (term_width c.value.new.terms (Resize w c.in_ok-operand.operand.value)) c.in_ok-value.value
    (λ u v. term_value u v (Resize w c.in_ok-operand.operand.value))) c.width_in.ensures.width c.in_ok-value.ensures)

-- ---- elements
pub element-returns-in-Number : goal.element-returns-in-Number
element-returns-in-Number t c =
    subst (λ (e : Expr). IfOk c.element_of_number.result (Finds c.args.self.now c.args.memory.now
    (ty_of c.args.asked) (element c.args.path.now (expr_tree e)) c.args.terms.now c.element_of_number.new.terms))
    (sym c.in-Number.is) c.element_of_number.ensures

pub element-width-requires : goal.element-width-requires
element-width-requires t c = c.in_ok-number.ensures.value.0

pub element-elements-requires-clause-sized : goal.element-elements-requires-clause-sized
element-elements-requires-clause-sized t c = sized_at c.args.self.now c.requires.typed

pub element-elements-requires-clause-typed : goal.element-elements-requires-clause-typed
element-elements-requires-clause-typed t c = λ k.
    element_has_type c.args.self.now c.args.memory.now (ty_of c.args.asked) c.args.path.now
    (expr_tree c.args.index.now) k c.value.new.terms c.in_ok-number.ensures.ready c.requires.typed

pub element-elements-requires-clause-within : goal.element-elements-requires-clause-within
element-elements-requires-clause-within t c =
    subst (λ (w : ℕ). c.reachable-count.result ≤ 2 ^ w) c.width.ensures.width
    (omega (arith, c.reachable-count.ensures))

pub element-past_end-requires-clause-known : goal.element-past_end-requires-clause-known
element-past_end-requires-clause-known t c =
    c.in_ok-value.ensures.grown.known c.in_ok-number.number.value c.in_ok-number.ensures.value.0

pub element-either-requires-clause-first : goal.element-either-requires-clause-first
element-either-requires-clause-first t c =
    truth_along c.value.new.terms c.past_end.new.terms c.in_ok-number.number.overrun
    (Extends-trans c.value.new.terms c.elements.new.terms c.past_end.new.terms
    c.in_ok-value.ensures.grown c.in_ok-past.ensures.grown) c.in_ok-number.ensures.overrun

pub element-returns : goal.element-returns
element-returns t c =
    element_found c.args.self.now c.args.memory.now (ty_of c.args.asked) c.args.path.now (expr_tree c.args.index.now)
    (ty_of c.index_type-ty.result) c.length-length.result c.args.terms.now c.value.new.terms
    c.elements.new.terms c.past_end.new.terms c.either.new.terms c.in_ok-number.number
    c.in_ok-value.value c.in_ok-past.past c.in_ok-overrun.overrun c.requires.typed
    (λ d has.
    sym (index_told c.self.inside.scope c.args.self.now c.self.view_is (expr_tree c.args.index.now)
    (ty_of c.index_type-ty.result) c.index_type-ty.ensures d has))
    (length_told c.args.self.now c.args.memory.now (ty_of c.args.asked) c.args.path.now (expr_tree c.args.index.now)
    c.length-length.result c.requires.typed c.length-length.ensures)
    c.in_ok-number.ensures
    (subst (λ (n : ℕ). FindsElements c.args.self.now c.args.memory.now (ty_of c.args.asked) c.args.path.now
    c.in_ok-number.number.value n c.value.new.terms c.elements.new.terms c.in_ok-value.value)
    (c.reachable-count.ensures ∙ ap (λ w. min c.length-length.result (2 ^ w)) c.width.ensures.width)
    c.in_ok-value.ensures)
    c.in_ok-past.ensures c.in_ok-overrun.ensures

-- ---- each form
pub value-returns-in-Truth : goal.value-returns-in-Truth
value-returns-in-Truth t c =
    same_found c.args.self.now c.args.memory.now (ty_of c.args.asked) c.args.terms.now c.truth_term.new.terms
    c.truth_term.result _ (expr_tree c.args.e.now)
    (ap expr_tree (sym c.in-Truth.is))
    (c.truth_term.ensures c.in-Truth.field-0)

pub value-returns-in-Number : goal.value-returns-in-Number
value-returns-in-Number t c =
    same_found c.args.self.now c.args.memory.now (ty_of c.args.asked) c.args.terms.now c.literal_term.new.terms
    c.literal_term.result _ (expr_tree c.args.e.now)
    (ap expr_tree (sym c.in-Number.is))
    c.literal_term.ensures

pub value-returns-in-Path : goal.value-returns-in-Path
value-returns-in-Path t c =
    same_found c.args.self.now c.args.memory.now (ty_of c.args.asked) c.args.terms.now c.path_term.new.terms
    c.path_term.result _ (expr_tree c.args.e.now)
    (ap path c.as_slice.ensures.value ∙ ap expr_tree (sym c.in-Path.is))
    c.path_term.ensures

pub value-returns-in-Group : goal.value-returns-in-Group
value-returns-in-Group t c =
    let s = c.args.self.now in
    let k = c.args.memory.now in
    let asked = ty_of c.args.asked in
    let e = expr_tree c.deref.result.now in
    let at = c.in-Group.field-0 in
    same_found s k asked c.args.terms.now c.value.new.terms c.value.result (group at e) (expr_tree c.args.e.now)
    ((λ i. group at (expr_tree (c.deref.ensures i))) ∙ ap expr_tree (sym c.in-Group.is))
    (IfOk-weaker c.value.result (Finds s k asked e c.args.terms.now c.value.new.terms)
    (Finds s k asked (group at e) c.args.terms.now c.value.new.terms)
    (λ r h. group_found s k asked at e c.args.terms.now c.value.new.terms r h) c.value.ensures)

pub value-returns-in-Unary : goal.value-returns-in-Unary
value-returns-in-Unary t c =
    same_found c.args.self.now c.args.memory.now (ty_of c.args.asked) c.args.terms.now c.unary.new.terms
    c.unary.result _ (expr_tree c.args.e.now)
    ((λ i. unary c.in-Unary.field-0 c.in-Unary.op (expr_tree (c.deref-in-Unary.ensures i)))
    ∙ ap expr_tree (sym c.in-Unary.is))
    (c.unary.ensures c.in-Unary.field-0)

pub value-returns-in-Binary : goal.value-returns-in-Binary
value-returns-in-Binary t c =
    same_found c.args.self.now c.args.memory.now (ty_of c.args.asked) c.args.terms.now c.binary.new.terms
    c.binary.result _ (expr_tree c.args.e.now)
    ((λ i. binary c.in-Binary.field-0 c.in-Binary.op (expr_tree (c.deref-in-Binary.ensures i))
    (expr_tree (c.deref-in-Binary-2.ensures i))) ∙ ap expr_tree (sym c.in-Binary.is))
    (c.binary.ensures c.in-Binary.field-0)

pub value-returns-in-Shift : goal.value-returns-in-Shift
value-returns-in-Shift t c =
    same_found c.args.self.now c.args.memory.now (ty_of c.args.asked) c.args.terms.now c.shifted.new.terms
    c.shifted.result _ (expr_tree c.args.e.now)
    ((λ i. shift c.in-Shift.field-0 c.in-Shift.op (expr_tree (c.deref-in-Shift.ensures i)) c.in-Shift.by)
    ∙ ap expr_tree (sym c.in-Shift.is))
    (c.shifted.ensures c.in-Shift.field-0)

pub value-returns-in-Conditional : goal.value-returns-in-Conditional
value-returns-in-Conditional t c =
    same_found c.args.self.now c.args.memory.now (ty_of c.args.asked) c.args.terms.now c.chosen.new.terms
    c.chosen.result _ (expr_tree c.args.e.now)
    ((λ i. conditional c.in-Conditional.field-0 (expr_tree (c.deref-in-Conditional.ensures i))
    (expr_tree (c.deref-in-Conditional-2.ensures i)) (expr_tree (c.deref-in-Conditional-3.ensures i)))
    ∙ ap expr_tree (sym c.in-Conditional.is))
    (c.chosen.ensures c.in-Conditional.field-0)

pub value-returns-in-Cast : goal.value-returns-in-Cast
value-returns-in-Cast t c =
    same_found c.args.self.now c.args.memory.now (ty_of c.args.asked) c.args.terms.now c.cast.new.terms
    c.cast.result _ (expr_tree c.args.e.now)
    ((λ i. cast c.in-Cast.field-0 c.in-Cast.to (expr_tree (c.deref-in-Cast.ensures i)))
    ∙ ap expr_tree (sym c.in-Cast.is))
    (c.cast.ensures c.in-Cast.field-0)

pub value-returns-in-Element : goal.value-returns-in-Element
value-returns-in-Element t c =
    same_found c.args.self.now c.args.memory.now (ty_of c.args.asked) c.args.terms.now c.element.new.terms
    c.element.result _ (expr_tree c.args.e.now)
    ((λ i. element (c.as_slice-in-Element.ensures.value i) (expr_tree (c.deref-in-Element.ensures i)))
    ∙ ap expr_tree (sym c.in-Element.is))
    c.element.ensures

-- ---- the second and third operands, and an index
pub binary-value-requires-2 : goal.binary-value-requires-2
binary-value-requires-2 t c =
    (omega (arith, c.decreases), (c.operand_type-ty.ensures.second, c.in_ok-first.ensures.ready))

pub chosen-value-requires-2 : goal.chosen-value-requires-2
chosen-value-requires-2 t c = (
  omega (arith, c.decreases),
  (
    first_part c.args.self.now (ty_of c.args.asked) c.requires.typed.0 (expr_tree c.args.test.now)
        (expr_tree c.args.a.now) (expr_tree c.args.b.now) c.requires.typed.1,
    c.in_ok-tested.ensures.ready,
  ),
)

pub chosen-value-requires-3 : goal.chosen-value-requires-3
chosen-value-requires-3 t c = (
  omega (arith, c.decreases),
  (
    second_part c.args.self.now (ty_of c.args.asked) c.requires.typed.0 (expr_tree c.args.test.now)
        (expr_tree c.args.a.now) (expr_tree c.args.b.now) c.requires.typed.1,
    c.in_ok-first.ensures.ready,
  ),
)

pub element-value-requires : goal.element-value-requires
element-value-requires t c = (
  omega (arith, c.decreases),
  (
    index_part c.args.self.now (ty_of c.args.asked) c.args.path.now (expr_tree c.args.index.now) c.requires.typed
        c.length-length.result c.length-length.ensures (ty_of c.index_type-ty.result)
        (index_told c.self.inside.scope c.args.self.now c.self.view_is (expr_tree c.args.index.now)
        (ty_of c.index_type-ty.result) c.index_type-ty.ensures) (omega (arith, c.length-length.type_inv)),
    c.requires.ready,
  ),
)
