-- Where each cell holds a value of its type, the value of an expression is one of its type.
use Rattle.std.proofs.Common.{◌≡◌, ℕ, ◌^◌, ◌<◌, ◌≤◌, ◌==◌, Bool, true, false, Option, None, Some, List, refl, sym, ap, ◌∙◌, subst, arith}
use Rattle.std.specs.Prelude.{unwrap_or, if◌then◌else◌}
use Rattle.std.specs.Option.{option_and_then, option_map_or}
use Rattle.tm_base.proofs.Bounds.{resize-below, complement-below, sum-below, difference-below, shift_left-below, shift_right-below, bit_and-below, bit_or-below, bit_xor-below, bit-below}
use Rattle.tm_base.specs.Arithmetic.{bit, resize}
use Rattle.tm_base.specs.Shift as bits
use Rattle.tm_base.specs.declared.shift_operator.ShiftOperator.{ShiftOperator}
use Rattle.tm_base.specs.declared.shift_operator.ShiftOperator.TheVariants.{Left, Right}
use Rattle.tm_syntax.specs.declared.tree.Ident.{Ident}
use Rattle.tm_syntax.specs.declared.tree.UnaryOperator.TheVariants.{Complement}
use Rattle.tm_syntax.specs.declared.tree.BinaryOperator.{BinaryOperator}
use Rattle.tm_syntax.specs.declared.tree.BinaryOperator.TheVariants.{Add, Subtract, And, Or, Xor}
use Rattle.tm_syntax.specs.declared.design.Ty.{Ty}
use Rattle.tm_syntax.specs.declared.design.Ty.TheVariants as types
use Rattle.tm_syntax.specs.Tree.{ExprTree, path}
use Rattle.tm_syntax.specs.Scopes.Context.{Context}
use Rattle.tm_syntax.specs.Scopes.Names.{number_of}
use Rattle.tm_syntax.specs.Scopes.Types.{constant_type, either_type, named_type, own_type, valued_in}
use Rattle.tm_syntax.specs.Design.{DesignTree, IsDesign}
use Rattle.tm_syntax.specs.Design.Cells.{Cell, cell}
use Rattle.tm_syntax.specs.Design.Scope.{Scope, context, joint_type, type_in}
use Rattle.tm_syntax.specs.Design.Sizes.{type_bits, type_size, width}
use Rattle.tm_syntax.specs.Faults.{IsTyped}
use Rattle.tm_syntax.specs.Faults.Operands.{is_valued}
use Rattle.tm_sem.specs.Value.{Memory, binary_value, path_value, read, unary_value, value}
use Rattle.tm_typing.specs.HasType.{IsOfSort, HasType, adds, subtracts, ands, ors, xors, and_also, or_else, equals, differs, is_less, is_at_most, is_greater, is_at_least}
use Rattle.tm_typing.specs.HasType.{a_truth, a_number, a_path, a_group, a_negation, a_complement, arithmetic, logic, a_comparison, a_shift, a_conditional, a_cast, an_element_at, an_element}
use Rattle.tm_typing.proofs.Valuing.{valued}
use Rattle.tm_design.proofs.Contexts.{joined_in}
use Rattle.tm_design.specs.Settled.{AreSettled, constant_at}
use Rattle.tm_design.specs.Values.{HasValues}
use Rattle.tm_design.proofs.ConstantValues.{value_below_bits}
use Rattle.tm_design.proofs.SettledDesigns.{checked_settled}
use Rattle.tm_design.proofs.SettledValues.{values}
use Rattle.tm_states.specs.States.{HoldsValues}

truth_below : (b : Bool) → bit b < 2
truth_below b = bit-below b

either_below : (test : Bool) (x y size : ℕ) → x < size → y < size → (if test then x else y) < size
either_below true x y size first second = first
either_below false x y size first second = second

shifted_below : (op : ShiftOperator) (w x by : ℕ) → x < 2 ^ w → bits.shift op w x by < 2 ^ w
shifted_below Left w x by less = shift_left-below w x by
shifted_below Right w x by less = shift_right-below w x by less

module _ (d : DesignTree) (settled : AreSettled d) (filled : HasValues d) (m : Memory) (holds : HoldsValues d m)
    (scope : Scope) (c : Context) (stands : context d scope ≡ Some c) where
  type_is : (e : ExprTree) → type_in d scope e ≡ own_type c e
  type_is e = ap (option_and_then (λ c. own_type c e)) stands

  -- an expression of a type is valued in it
  valued_here : {ty : Ty} {e : ExprTree} → HasType c ty e → valued_in ty (type_in d scope e) ≡ ty
  valued_here {ty = ty} {e = e} h = ap (valued_in ty) (type_is e) ∙ valued h

  -- so are two that are joined
  joined_here : {ty : Ty} {a b : ExprTree} → HasType c ty a → HasType c ty b → joint_type d scope ty a b ≡ ty
  joined_here {ty = ty} {a = a} {b = b} x y =
      joined_in ty (type_in d scope a) (type_in d scope b) (valued_here x) (valued_here y)

  filled_by_name : (names : List Ident) (ty : Ty) → named_type c names ≡ Some ty → 0 < type_size d.spec ty
  filled_by_name names ty named =
      filled.types scope c names ty stands (ap (λ o. either_type o (constant_type c.spec names)) named)

  -- what a path means holds a value of the path's type
  path_below : (names : List Ident) (ty : Ty) → IsOfSort is_valued c names → own_type c (path names) ≡ Some ty →
      path_value d scope m names None < type_size d.spec ty
  path_below names ty fits own = by (cell d scope names None) refl
    where
      by : (o : Option Cell) → cell d scope names None ≡ o →
          option_map_or (read m) o (constant_at d names) < type_size d.spec ty
      by None is = filled.constants scope c names ty stands own fits is
      by (Some found) is =
          holds.cells scope names None found ty is (settled.variables scope c names ty found stands own is)
          (filled.types scope c names ty stands own)

  -- so does an element of an array; one past the end has the value 0
  element_below : (names : List Ident) (ty : Ty) (index : ℕ) → named_type c names ≡ Some ty →
      option_map_or (read m) (cell d scope names (Some index)) 0 < type_size d.spec ty
  element_below names ty index named = by (cell d scope names (Some index)) refl
    where
      by : (o : Option Cell) → cell d scope names (Some index) ≡ o →
          option_map_or (read m) o 0 < type_size d.spec ty
      by None is = filled_by_name names ty named
      by (Some found) is =
          holds.cells scope names (Some index) found ty is
          (settled.elements scope c names index ty found stands named is) (filled_by_name names ty named)

  -- operands of one type of numbers, joined in it
  joins_below : (op : BinaryOperator) (w : ℕ) (a b : ExprTree) → HasType c (types.Uint w) a →
      HasType c (types.Uint w) b →
      binary_value op w (value d scope m (types.Uint w) a) (value d scope m (types.Uint w) b) < 2 ^ w →
      binary_value op (width (joint_type d scope (types.Uint w) a b))
      (value d scope m (joint_type d scope (types.Uint w) a b) a)
      (value d scope m (joint_type d scope (types.Uint w) a b) b) < 2 ^ w
  joins_below op w a b x y below =
      subst (λ t. binary_value op (width t) (value d scope m t a) (value d scope m t b) < 2 ^ w)
      (sym (joined_here x y)) below

  below : {ty : Ty} {e : ExprTree} → HasType c ty e → value d scope m ty e < type_size d.spec ty
  below (a_truth {b = b}) = truth_below b
  below (a_number {width = w} sized is less) = subst (λ x. x < 2 ^ w) (sym (ap (λ o. unwrap_or o 0) is)) less
  below (a_path {ty = ty} {names = names} sized fits own) = path_below names ty fits own
  below (a_group h) = below h
  below (a_negation h) = truth_below _
  below (a_complement {width = w} {e = e} h) =
      subst (λ t. unary_value Complement (width t) (value d scope m t e) < 2 ^ w) (sym (valued_here h))
      (complement-below w (value d scope m (types.Uint w) e))
  below (arithmetic {width = w} {a = a} {b = b} adds x y) = joins_below Add w a b x y (sum-below w _ _)
  below (arithmetic {width = w} {a = a} {b = b} subtracts x y) =
      joins_below Subtract w a b x y (difference-below w _ _)
  below (arithmetic {width = w} {a = a} {b = b} ands x y) =
      joins_below And w a b x y (bit_and-below w _ _ (below x))
  below (arithmetic {width = w} {a = a} {b = b} ors x y) =
      joins_below Or w a b x y (bit_or-below w _ _ (below x) (below y))
  below (arithmetic {width = w} {a = a} {b = b} xors x y) =
      joins_below Xor w a b x y (bit_xor-below w _ _ (below x) (below y))
  below (logic {a = a} {b = b} and_also x y) =
      either_below (value d scope m types.Bool a == 0) 0 (value d scope m types.Bool b) 2 (omega arith) (below y)
  below (logic {a = a} {b = b} or_else x y) =
      either_below (value d scope m types.Bool a == 0) (value d scope m types.Bool b) 1 2 (below y) (omega arith)
  below (a_comparison equals own x y) = truth_below _
  below (a_comparison differs own x y) = truth_below _
  below (a_comparison is_less own x y) = truth_below _
  below (a_comparison is_at_most own x y) = truth_below _
  below (a_comparison is_greater own x y) = truth_below _
  below (a_comparison is_at_least own x y) = truth_below _
  below (a_shift {width = w} {op = op} {e = e} {by = by} h is less) =
      subst (λ t. bits.shift op (width t) (value d scope m t e) (number_of by) < 2 ^ w) (sym (valued_here h))
      (shifted_below op w (value d scope m (types.Uint w) e) (number_of by) (below h))
  below (a_conditional {ty = ty} {e = e} {a = a} {b = b} test x y) =
      subst (λ t. (if value d scope m types.Bool e == 0 then value d scope m t b else value d scope m t a)
      < type_size d.spec ty) (sym (joined_here x y))
      (either_below (value d scope m types.Bool e == 0) (value d scope m ty b) (value d scope m ty a)
      (type_size d.spec ty) (below y) (below x))
  below (a_cast {width = w} {to = to} {e = e} sized is own h) =
      let inner = value d scope m (valued_in (types.Uint w) (type_in d scope e)) e in
      subst (λ k. resize (number_of to) inner < 2 ^ k) (ap (λ o. unwrap_or o 0) is) (resize-below (number_of to) inner)
  below (an_element_at {ty = ty} {names = names} sized named long is less) = element_below names ty _ named
  below (an_element {ty = ty} {names = names} sized named long inside own h) = element_below names ty _ named

pub values_below : (d : DesignTree) → IsTyped d.spec → IsDesign d → (m : Memory) → HoldsValues d m →
    (scope : Scope) (c : Context) → context d scope ≡ Some c → (ty : Ty) (e : ExprTree) → HasType c ty e →
    value d scope m ty e < type_size d.spec ty
values_below d typed numbered m holds scope c stands ty e h =
    below d (checked_settled d typed numbered) (values d typed numbered) m holds scope c stands h

pub bits_below : (d : DesignTree) → IsTyped d.spec → IsDesign d → (m : Memory) → HoldsValues d m → (scope : Scope)
    (c : Context) → context d scope ≡ Some c → (ty : Ty) (e : ExprTree) → HasType c ty e →
    type_size d.spec ty ≤ 2 ^ 64 → value d scope m ty e < 2 ^ type_bits d.spec ty
bits_below d typed numbered m holds scope c stands ty e h most =
    let less = values_below d typed numbered m holds scope c stands ty e h in
    value_below_bits d.spec ty (value d scope m ty e) less (omega (arith, less, most))
