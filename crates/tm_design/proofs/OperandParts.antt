-- The types of the parts of an expression, by its form.
use Rattle.std.proofs.Common.{◌≡◌, ℕ, ◌^◌, ◌<◌, ◌≤◌, Some, List, refl, sym, ap, ◌∙◌, subst, arith}
use Rattle.std.specs.Prelude.{unwrap_or}
use Rattle.tm_base.specs.declared.place.Place.{Place}
use Rattle.tm_base.specs.declared.shift_operator.ShiftOperator.{ShiftOperator}
use Rattle.tm_syntax.specs.declared.tree.Ident.{Ident}
use Rattle.tm_syntax.specs.declared.tree.Num.{Num}
use Rattle.tm_syntax.specs.declared.tree.UnaryOperator.{UnaryOperator}
use Rattle.tm_syntax.specs.declared.tree.BinaryOperator.{BinaryOperator}
use Rattle.tm_syntax.specs.declared.tree.BinaryOperator.TheVariants.{AndAlso, OrElse}
use Rattle.tm_syntax.specs.declared.design.Ty.{Ty}
use Rattle.tm_syntax.specs.declared.design.Ty.TheVariants as types
use Rattle.tm_syntax.specs.Tree.{ExprTree, group, unary, binary, shift, conditional, cast, element}
use Rattle.tm_syntax.specs.Scopes.Context.{Context}
use Rattle.tm_syntax.specs.Scopes.Names.{number_of}
use Rattle.tm_syntax.specs.Scopes.Types.{either_type, own_type, array_length, valued_in}
use Rattle.tm_syntax.specs.Design.{DesignTree}
use Rattle.tm_syntax.specs.Design.Scope.{Scope, type_in, joint_type, operand_type, index_type, length_in}
use Rattle.tm_syntax.specs.Design.Sizes.{width}
use Rattle.tm_scope.specs.Cells.{HasCells, ScopedCells, scope_of}
use Rattle.tm_typing.specs.HasType.{IsWidth, IsSized, IsValueOf, HasType, adds, subtracts, ands, ors, xors}
use Rattle.tm_typing.specs.HasType.{and_also, or_else, equals, differs, is_less, is_at_most, is_greater, is_at_least}
use Rattle.tm_typing.specs.HasType.{a_number, a_group, a_negation, a_complement, arithmetic, logic, a_comparison}
use Rattle.tm_typing.specs.HasType.{a_shift, a_conditional, a_cast, an_element_at, an_element}
use Rattle.tm_typing.proofs.Joining.{is_sized}
use Rattle.tm_design.specs.declared.sorts.OperatorSort.{OperatorSort}
use Rattle.tm_design.specs.declared.sorts.OperatorSort.TheVariants.{Arithmetic, Comparison, Conjunction, Disjunction}
use Rattle.tm_design.specs.Sorts.{sort_of}
use Rattle.tm_design.specs.Typed.{context_at, HasTypeAt}
use Rattle.tm_design.proofs.Contexts.{type_is, length_is, valued_here, joined_in, some_cells, some_design}

-- no width is above 64
pub width_at_most : (ty : Ty) → IsSized ty → width ty ≤ 64
width_at_most types.Bool sized = omega arith
width_at_most (types.Uint n) sized = sized.high
width_at_most (types.Enum name) sized = omega arith

number_value : (n : Num) (v : ℕ) → IsValueOf n v → number_of n ≡ v
number_value n v is = ap (λ o. unwrap_or o 0) is

of_group : {c : Context} {ty : Ty} {at : Place} {e : ExprTree} → HasType c ty (group at e) → HasType c ty e
of_group (a_group h) = h

of_unary : {c : Context} {ty : Ty} {at : Place} {op : UnaryOperator} {e : ExprTree} → HasType c ty (unary at op e) →
    HasType c ty e
of_unary (a_negation h) = h
of_unary (a_complement h) = h

-- the two operands have one type: that of the whole, or of the one that has a type of its own, or they are truths
pub record Operands (c : Context) (op : BinaryOperator) (asked : Ty) (a b : ExprTree) : Type 0 where
  pub ty : Ty
  pub first : HasType c ty a
  pub second : HasType c ty b
  pub arithmetic : sort_of op ≡ Arithmetic → ty ≡ asked
  pub number : sort_of op ≡ Arithmetic → (w : ℕ) × (ty ≡ types.Uint w)
  pub comparison : sort_of op ≡ Comparison → either_type (own_type c a) (own_type c b) ≡ Some ty
  pub conjunction : sort_of op ≡ Conjunction → ty ≡ types.Bool
  pub disjunction : sort_of op ≡ Disjunction → ty ≡ types.Bool
  pub truth : (sort_of op ≡ Arithmetic → ⊥) → asked ≡ types.Bool

joins : (c : Context) (op : BinaryOperator) (w : ℕ) (a b : ExprTree) → sort_of op ≡ Arithmetic →
    HasType c (types.Uint w) a → HasType c (types.Uint w) b → Operands c op (types.Uint w) a b
joins c op w a b is first second = record {
  ty = types.Uint w;
  first = first;
  second = second;
  arithmetic = λ _. refl;
  number = λ _. (w, refl);
  comparison = λ h. absurd (let e = sym is ∙ h in cc);
  conjunction = λ h. absurd (let e = sym is ∙ h in cc);
  disjunction = λ h. absurd (let e = sym is ∙ h in cc);
  truth = λ h. absurd (h is);
}

compares : (c : Context) (op : BinaryOperator) (ty : Ty) (a b : ExprTree) → sort_of op ≡ Comparison →
    either_type (own_type c a) (own_type c b) ≡ Some ty → HasType c ty a → HasType c ty b →
    Operands c op types.Bool a b
compares c op ty a b is own first second = record {
  ty = ty;
  first = first;
  second = second;
  arithmetic = λ h. absurd (let e = sym is ∙ h in cc);
  number = λ h. absurd (let e = sym is ∙ h in cc);
  comparison = λ _. own;
  conjunction = λ h. absurd (let e = sym is ∙ h in cc);
  disjunction = λ h. absurd (let e = sym is ∙ h in cc);
  truth = λ _. refl;
}

pub of_binary : (c : Context) (ty : Ty) (at : Place) (op : BinaryOperator) (a b : ExprTree) →
    HasType c ty (binary at op a b) → Operands c op ty a b
of_binary c ty at op a b (arithmetic {width = w} adds x y) = joins c op w a b refl x y
of_binary c ty at op a b (arithmetic {width = w} subtracts x y) = joins c op w a b refl x y
of_binary c ty at op a b (arithmetic {width = w} ands x y) = joins c op w a b refl x y
of_binary c ty at op a b (arithmetic {width = w} ors x y) = joins c op w a b refl x y
of_binary c ty at op a b (arithmetic {width = w} xors x y) = joins c op w a b refl x y
of_binary c ty at op a b (logic and_also x y) = record {
  ty = types.Bool;
  first = x;
  second = y;
  arithmetic = λ h. absurd (cc);
  number = λ h. absurd (cc);
  comparison = λ h. absurd (cc);
  conjunction = λ _. refl;
  disjunction = λ h. absurd (cc);
  truth = λ _. refl;
}
of_binary c ty at op a b (logic or_else x y) = record {
  ty = types.Bool;
  first = x;
  second = y;
  arithmetic = λ h. absurd (cc);
  number = λ h. absurd (cc);
  comparison = λ h. absurd (cc);
  conjunction = λ h. absurd (cc);
  disjunction = λ _. refl;
  truth = λ _. refl;
}
of_binary c ty at op a b (a_comparison {ty = own} equals is x y) = compares c op own a b refl is x y
of_binary c ty at op a b (a_comparison {ty = own} differs is x y) = compares c op own a b refl is x y
of_binary c ty at op a b (a_comparison {ty = own} is_less is x y) = compares c op own a b refl is x y
of_binary c ty at op a b (a_comparison {ty = own} is_at_most is x y) = compares c op own a b refl is x y
of_binary c ty at op a b (a_comparison {ty = own} is_greater is x y) = compares c op own a b refl is x y
of_binary c ty at op a b (a_comparison {ty = own} is_at_least is x y) = compares c op own a b refl is x y

-- what is shifted has the type of the whole, and is shifted by less than its width
pub record Shifted (c : Context) (ty : Ty) (e : ExprTree) (by : Num) : Type 0 where
  pub typed : HasType c ty e
  pub below : number_of by < width ty

pub of_shift : (c : Context) (ty : Ty) (at : Place) (op : ShiftOperator) (e : ExprTree) (by : Num) →
    HasType c ty (shift at op e by) → Shifted c ty e by
of_shift c ty at op e by (a_shift {width = w} {v = v} h is less) =
    record { typed = h; below = subst (λ n. n < w) (sym (number_value by v is)) less }

-- the test is a truth, and both branches have the type of the whole
pub record Choice (c : Context) (ty : Ty) (test a b : ExprTree) : Type 0 where
  pub tested : HasType c types.Bool test
  pub first : HasType c ty a
  pub second : HasType c ty b

pub of_conditional : (c : Context) (ty : Ty) (at : Place) (test a b : ExprTree) →
    HasType c ty (conditional at test a b) → Choice c ty test a b
of_conditional c ty at test a b (a_conditional t x y) = record { tested = t; first = x; second = y }

-- what is cast has a type of its own, and the cast is to a width that numbers can have
pub record Castable (c : Context) (ty : Ty) (to : Num) (e : ExprTree) : Type 0 where
  pub own : Ty
  pub is : own_type c e ≡ Some own
  pub typed : HasType c own e
  pub sized : IsWidth (number_of to)

pub of_cast : (c : Context) (ty : Ty) (at : Place) (to : Num) (e : ExprTree) → HasType c ty (cast at to e) →
    Castable c ty to e
of_cast c ty at to e (a_cast {width = w} {from = from} sized is own h) = record {
  own = types.Uint from;
  is = own;
  typed = h;
  sized = subst IsWidth (sym (number_value to w is)) sized;
}

-- an index has the type in which it is valued, where its array has a length below 2 ^ 64
pub of_element : (c : Context) (ty : Ty) (names : List Ident) (e : ExprTree) →
    unwrap_or (array_length c names) 0 < 2 ^ 64 → HasType c ty (element names e) →
    HasType c (valued_in (types.Uint 64) (own_type c e)) e
of_element c ty names e short (an_element_at {size = size} {v = v} _ _ length is less) =
    let known : unwrap_or (array_length c names) 0 ≡ size = ap (λ o. unwrap_or o 0) length in
    a_number (record { low = omega arith; high = omega arith }) is (omega arith)
of_element c ty names e short (an_element {from = w} _ _ _ _ own h) =
    subst (λ o. HasType c (valued_in (types.Uint 64) o) e) (sym own) h

-- an operator that is none of logic joins its operands
joint_operands : (d : DesignTree) (scope : Scope) (op : BinaryOperator) (asked : Ty) (a b : ExprTree) →
    (sort_of op ≡ Conjunction → ⊥) → (sort_of op ≡ Disjunction → ⊥) →
    operand_type d scope op asked a b ≡ joint_type d scope asked a b
joint_operands d scope AndAlso asked a b other never = absurd (other refl)
joint_operands d scope OrElse asked a b other never = absurd (never refl)
joint_operands d scope _ asked a b other never = refl

-- the operands of an operator of logic are truths
truths_operands : (d : DesignTree) (scope : Scope) (op : BinaryOperator) (asked : Ty) (a b : ExprTree) →
    sort_of op ≡ Conjunction → operand_type d scope op asked a b ≡ types.Bool
truths_operands d scope AndAlso asked a b is = refl
truths_operands d scope _ asked a b is = absurd (cc)

either_operands : (d : DesignTree) (scope : Scope) (op : BinaryOperator) (asked : Ty) (a b : ExprTree) →
    sort_of op ≡ Disjunction → operand_type d scope op asked a b ≡ types.Bool
either_operands d scope OrElse asked a b is = refl
either_operands d scope _ asked a b is = absurd (cc)

-- what the type of an expression of a body says of its parts
module _ (s : ScopedCells) where
  here : {ty own : Ty} {whole e : ExprTree} (h : HasTypeAt s ty whole) → HasType h.context own e → HasTypeAt s own e
  here h typed = record { context = h.context; stands = h.stands; typed = typed }

  pub sized_at : {ty : Ty} {e : ExprTree} → HasTypeAt s ty e → IsSized ty
  sized_at h = is_sized h.typed

  pub group_part : (ty : Ty) (at : Place) (e : ExprTree) → HasTypeAt s ty (group at e) → HasTypeAt s ty e
  group_part ty at e h = here h (of_group h.typed)

  pub unary_part : (ty : Ty) (at : Place) (op : UnaryOperator) (e : ExprTree) → HasTypeAt s ty (unary at op e) →
      HasTypeAt s ty e
  unary_part ty at op e h = here h (of_unary h.typed)

  pub shift_part : (ty : Ty) (at : Place) (op : ShiftOperator) (e : ExprTree) (by : Num) →
      HasTypeAt s ty (shift at op e by) → HasTypeAt s ty e
  shift_part ty at op e by h = here h (of_shift h.context ty at op e by h.typed).typed

  pub shift_by : (ty : Ty) (at : Place) (op : ShiftOperator) (e : ExprTree) (by : Num) →
      HasTypeAt s ty (shift at op e by) → number_of by < 64
  shift_by ty at op e by h =
      let less = (of_shift h.context ty at op e by h.typed).below in
      let most = width_at_most ty (is_sized h.typed) in omega arith

  module _ (ty : Ty) (at : Place) (test a b : ExprTree) (h : HasTypeAt s ty (conditional at test a b)) where
    pub test_part : HasTypeAt s types.Bool test
    test_part = here h (of_conditional h.context ty at test a b h.typed).tested

    pub first_part : HasTypeAt s ty a
    first_part = here h (of_conditional h.context ty at test a b h.typed).first

    pub second_part : HasTypeAt s ty b
    second_part = here h (of_conditional h.context ty at test a b h.typed).second

  module _ (asked : Ty) (at : Place) (op : BinaryOperator) (a b : ExprTree) (h : HasTypeAt s asked (binary at op a b))
    where
      abbrev pub operands : Operands h.context op asked a b
      operands = of_binary h.context asked at op a b h.typed

      -- operands of the type that the whole has are valued in it
      joined : HasType h.context asked a → HasType h.context asked b → (d : DesignTree) → HasCells s.tables d →
          joint_type d (scope_of s.at) asked a b ≡ asked
      joined first second d has =
          joined_in asked (type_in d (scope_of s.at) a) (type_in d (scope_of s.at) b)
          (valued_here s asked a (here h first) d has) (valued_here s asked b (here h second) d has)

      -- operands of which one has a type of its own are valued in that
      compared : (ty : Ty) → either_type (own_type h.context a) (own_type h.context b) ≡ Some ty → (d : DesignTree) →
          HasCells s.tables d → joint_type d (scope_of s.at) asked a b ≡ ty
      compared ty own d has =
          ap (λ t. valued_in asked (either_type t (type_in d (scope_of s.at) b)))
          (type_is s h.context h.stands d has a)
          ∙ ap (λ t. valued_in asked (either_type (own_type h.context a) t)) (type_is s h.context h.stands d has b)
          ∙ ap (valued_in asked) own

      -- the operator asks its operands for their type
      pub asks : (d : DesignTree) → HasCells s.tables d →
          operand_type d (scope_of s.at) op asked a b ≡ operands.ty
      asks d has = by (sort_of op) refl
        where
          by : (sort : OperatorSort) → sort_of op ≡ sort →
              operand_type d (scope_of s.at) op asked a b ≡ operands.ty
          by Arithmetic is =
              joint_operands d (scope_of s.at) op asked a b (λ e. let f = sym is ∙ e in cc)
              (λ e. let f = sym is ∙ e in cc)
              ∙ joined (subst (λ t. HasType h.context t a) (operands.arithmetic is) operands.first)
              (subst (λ t. HasType h.context t b) (operands.arithmetic is) operands.second) d has
              ∙ sym (operands.arithmetic is)
          by Comparison is =
              joint_operands d (scope_of s.at) op asked a b (λ e. let f = sym is ∙ e in cc)
              (λ e. let f = sym is ∙ e in cc)
              ∙ compared operands.ty (operands.comparison is) d has
          by Conjunction is =
              truths_operands d (scope_of s.at) op asked a b is ∙ sym (operands.conjunction is)
          by Disjunction is =
              either_operands d (scope_of s.at) op asked a b is ∙ sym (operands.disjunction is)

      -- each sort of operators
      pub asks_asked : sort_of op ≡ Arithmetic → (d : DesignTree) → HasCells s.tables d →
          asked ≡ operand_type d (scope_of s.at) op asked a b
      asks_asked is d has = sym (asks d has ∙ operands.arithmetic is)

      pub asks_joint : sort_of op ≡ Comparison → (d : DesignTree) → HasCells s.tables d →
          joint_type d (scope_of s.at) asked a b ≡ operand_type d (scope_of s.at) op asked a b
      asks_joint is d has =
          sym (joint_operands d (scope_of s.at) op asked a b (λ e. let f = sym is ∙ e in cc)
          (λ e. let f = sym is ∙ e in cc))

      module _ (ty : Ty) (is : (d : DesignTree) → HasCells s.tables d →
          ty ≡ operand_type d (scope_of s.at) op asked a b) where
        -- the type that is asked for is that of the operands
        pub operand_is : operands.ty ≡ ty
        operand_is =
            sym (is (some_design s.tables) (some_cells s.tables) ∙ asks (some_design s.tables) (some_cells s.tables))

        pub first_operand : HasTypeAt s ty a
        first_operand = here h (subst (λ t. HasType h.context t a) operand_is operands.first)

        pub second_operand : HasTypeAt s ty b
        second_operand = here h (subst (λ t. HasType h.context t b) operand_is operands.second)

  module _ (asked : Ty) (at : Place) (to : Num) (e : ExprTree) (h : HasTypeAt s asked (cast at to e)) where
    cast_parts : Castable h.context asked to e
    cast_parts = of_cast h.context asked at to e h.typed

    pub cast_width : IsWidth (number_of to)
    cast_width = cast_parts.sized

    own_is : (d : DesignTree) → HasCells s.tables d → type_in d (scope_of s.at) e ≡ Some cast_parts.own
    own_is d has = type_is s h.context h.stands d has e ∙ cast_parts.is

    module _ (ty : Ty) (is : (d : DesignTree) → HasCells s.tables d →
        ty ≡ valued_in asked (type_in d (scope_of s.at) e)) where
      cast_is : cast_parts.own ≡ ty
      cast_is =
          sym (is (some_design s.tables) (some_cells s.tables)
          ∙ ap (valued_in asked) (own_is (some_design s.tables) (some_cells s.tables)))

      pub cast_operand : HasTypeAt s ty e
      cast_operand = here h (subst (λ t. HasType h.context t e) cast_is cast_parts.typed)

      pub cast_own : (d : DesignTree) → HasCells s.tables d → type_in d (scope_of s.at) e ≡ Some ty
      cast_own d has = own_is d has ∙ ap Some cast_is

  module _ (asked : Ty) (names : List Ident) (e : ExprTree) (h : HasTypeAt s asked (element names e)) (length : ℕ)
      (long : (c : Context) → context_at s ≡ Some c → length ≡ unwrap_or (array_length c names) 0) where
    pub index_part : (ty : Ty) →
        ((d : DesignTree) → HasCells s.tables d → ty ≡ index_type d (scope_of s.at) e) → length < 2 ^ 64 →
        HasTypeAt s ty e
    index_part ty is short =
        here h (subst (λ t. HasType h.context t e)
        (sym (is (some_design s.tables) (some_cells s.tables)
        ∙ ap (valued_in (types.Uint 64)) (type_is s h.context h.stands (some_design s.tables) (some_cells s.tables) e)))
        (of_element h.context asked names e (subst (λ n. n < 2 ^ 64) (long h.context h.stands) short) h.typed))

    pub length_read : (d : DesignTree) → HasCells s.tables d → unwrap_or (length_in d (scope_of s.at) names) 0 ≡ length
    length_read d has =
        ap (λ o. unwrap_or o 0) (length_is s h.context h.stands d has names) ∙ sym (long h.context h.stands)
