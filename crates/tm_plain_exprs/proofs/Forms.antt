-- The value of each form of an expression, by those of its parts.
use Rattle.std.proofs.Common.{◌≡◌, ℕ, ◌==◌, Bool, true, false, Some, List, refl, sym, ap, ◌∙◌}
use Rattle.std.specs.Prelude.{◌&&◌, ◌||◌, not, nat_le, unwrap_or, if◌then◌else◌}
use Rattle.std.specs.Option.{option_map_or}
use Rattle.tm_base.specs.declared.place.Place.{Place}
use Rattle.tm_base.specs.Arithmetic.{resize}
use Rattle.tm_base.specs.Shift as bits
use Rattle.tm_base.specs.declared.shift_operator.ShiftOperator.{ShiftOperator}
use Rattle.tm_syntax.specs.declared.tree.Ident.{Ident}
use Rattle.tm_syntax.specs.declared.tree.Num.{Num}
use Rattle.tm_syntax.specs.declared.tree.UnaryOperator.{UnaryOperator}
use Rattle.tm_syntax.specs.declared.tree.BinaryOperator.{BinaryOperator}
use Rattle.tm_syntax.specs.declared.tree.BinaryOperator.TheVariants.{AndAlso, OrElse}
use Rattle.tm_syntax.specs.declared.design.Ty.{Ty}
use Rattle.tm_syntax.specs.declared.design.Ty.TheVariants as types
use Rattle.tm_syntax.specs.Tree.{ExprTree, group, unary, binary, shift, conditional, cast, element}
use Rattle.tm_syntax.specs.Scopes.Names.{number_of}
use Rattle.tm_syntax.specs.Scopes.Types.{valued_in}
use Rattle.tm_syntax.specs.Design.Scope.{type_in, joint_type, operand_type, index_type, length_in}
use Rattle.tm_syntax.specs.Design.Cells.{cell}
use Rattle.tm_syntax.specs.Design.Sizes.{width}
use Rattle.tm_scope.specs.Cells.{ScopedCells, scope_of}
use Rattle.tm_sem.specs.Value.{read, value, overruns, binary_value, unary_value, holds_in, is_past_end}
use Rattle.tm_plain_exprs.specs.Kept.{Kept}
use Rattle.tm_plain_exprs.specs.Operators.{decides}
use Rattle.tm_design.specs.Typed.{HasTypeAt}
use Rattle.tm_plain_exprs.specs.Valued.{Told, IsIndex, IsValued, Overruns}
use Rattle.tm_design.proofs.Contexts.{joined_in, valued_here}

-- where the first operand decides, the second one does not matter
decided_value : (op : BinaryOperator) (w n p q : ℕ) → decides op n ≡ true → binary_value op w n p ≡ binary_value op w
    n q
decided_value AndAlso w n p q h = ap (λ t. if t then 0 else p) h ∙ sym (ap (λ t. if t then 0 else q) h)
decided_value OrElse w n p q h = decided_or (n == 0) h
  where
    decided_or : (t : Bool) → not t ≡ true → (if t then p else 1) ≡ (if t then q else 1)
    decided_or true h = absurd (cc)
    decided_or false h = refl
decided_value _ w n p q h = absurd (cc)

and_rest : (t o : Bool) → (not t && o) ≡ (if t then false else o)
and_rest true o = refl
and_rest false o = refl

or_rest : (t o : Bool) → (not (not t) && o) ≡ (if not t then false else o)
or_rest true o = refl
or_rest false o = refl

module _ (s : ScopedCells) (k : Kept) where
  pub group_valued : (asked : Ty) (at : Place) (e : ExprTree) (n : ℕ) → IsValued s k asked e n →
      IsValued s k asked (group at e) n
  group_valued asked at e n h = record { value = h.value; within = h.within }

  pub group_overruns : (at : Place) (e : ExprTree) → Overruns s k e → Overruns s k (group at e)
  group_overruns at e h = record { is = h.is }

  pub unary_valued : (asked : Ty) (at : Place) (op : UnaryOperator) (e : ExprTree) (n : ℕ) → HasTypeAt s asked e →
      IsValued s k asked e n → IsValued s k asked (unary at op e) (unary_value op (width asked) n)
  unary_valued asked at op e n typed h = record {
    value = λ of.
        ap (λ ty. unary_value op (width ty) (value of.design (scope_of s.at) of.memory ty e))
        (valued_here s asked e typed of.design of.cells)
        ∙ ap (unary_value op (width asked)) (h.value of);
    within = h.within;
  }

  pub unary_overruns : (at : Place) (op : UnaryOperator) (e : ExprTree) → Overruns s k e → Overruns s k (unary at op e)
  unary_overruns at op e h = record { is = h.is }

  pub shift_valued : (asked : Ty) (at : Place) (op : ShiftOperator) (e : ExprTree) (by : Num) (n : ℕ) →
      HasTypeAt s asked e → IsValued s k asked e n →
      IsValued s k asked (shift at op e by) (bits.shift op (width asked) n (number_of by))
  shift_valued asked at op e by n typed h = record {
    value = λ of.
        ap (λ ty. bits.shift op (width ty) (value of.design (scope_of s.at) of.memory ty e) (number_of by))
        (valued_here s asked e typed of.design of.cells)
        ∙ ap (λ n. bits.shift op (width asked) n (number_of by)) (h.value of);
    within = h.within;
  }

  pub shift_overruns : (at : Place) (op : ShiftOperator) (e : ExprTree) (by : Num) → Overruns s k e →
      Overruns s k (shift at op e by)
  shift_overruns at op e by h = record { is = h.is }

  pub cast_valued : (asked own : Ty) (at : Place) (to : Num) (e : ExprTree) (n : ℕ) →
      ((of : Told s k) → type_in of.design (scope_of s.at) e ≡ Some own) → IsValued s k own e n →
      IsValued s k asked (cast at to e) (resize (number_of to) n)
  cast_valued asked own at to e n is h = record {
    value = λ of.
        ap (λ o. resize (number_of to) (value of.design (scope_of s.at) of.memory (valued_in asked o) e)) (is of)
        ∙ ap (resize (number_of to)) (h.value of);
    within = h.within;
  }

  pub cast_overruns : (at : Place) (to : Num) (e : ExprTree) → Overruns s k e → Overruns s k (cast at to e)
  cast_overruns at to e h = record { is = h.is }

  -- the branch that is chosen has the value of the whole
  module _ (asked : Ty) (at : Place) (test a b : ExprTree) (first : HasTypeAt s asked a) (second : HasTypeAt s asked b)
    where
      joint : (of : Told s k) → joint_type of.design (scope_of s.at) asked a b ≡ asked
      joint of =
          joined_in asked (type_in of.design (scope_of s.at) a) (type_in of.design (scope_of s.at) b)
          (valued_here s asked a first of.design of.cells) (valued_here s asked b second of.design of.cells)

      pub first_chosen : (t n : ℕ) → (t == 0) ≡ false → IsValued s k types.Bool test t → IsValued s k asked a n →
          IsValued s k asked (conditional at test a b) n
      first_chosen t n some tested h = record {
        value = λ of.
            let d = of.design in
            let sc = scope_of s.at in
            let m = of.memory in
            ap (λ v. if v == 0 then value d sc m (joint_type d sc asked a b) b
            else value d sc m (joint_type d sc asked a b) a) (tested.value of)
            ∙ ap (λ v. if v then value d sc m (joint_type d sc asked a b) b
            else value d sc m (joint_type d sc asked a b) a) some
            ∙ ap (λ ty. value d sc m ty a) (joint of)
            ∙ h.value of;
        within = λ of.
            let d = of.design in
            let sc = scope_of s.at in
            let m = of.memory in
            ap (λ v. v || (if holds_in d sc m test then overruns d sc m a else overruns d sc m b)) (tested.within of)
            ∙ ap (λ v. if not (v == 0) then overruns d sc m a else overruns d sc m b) (tested.value of)
            ∙ ap (λ v. if not v then overruns d sc m a else overruns d sc m b) some
            ∙ h.within of;
      }

      pub second_chosen : (t n : ℕ) → (t == 0) ≡ true → IsValued s k types.Bool test t → IsValued s k asked b n →
          IsValued s k asked (conditional at test a b) n
      second_chosen t n none tested h = record {
        value = λ of.
            let d = of.design in
            let sc = scope_of s.at in
            let m = of.memory in
            ap (λ v. if v == 0 then value d sc m (joint_type d sc asked a b) b
            else value d sc m (joint_type d sc asked a b) a) (tested.value of)
            ∙ ap (λ v. if v then value d sc m (joint_type d sc asked a b) b
            else value d sc m (joint_type d sc asked a b) a) none
            ∙ ap (λ ty. value d sc m ty b) (joint of)
            ∙ h.value of;
        within = λ of.
            let d = of.design in
            let sc = scope_of s.at in
            let m = of.memory in
            ap (λ v. v || (if holds_in d sc m test then overruns d sc m a else overruns d sc m b)) (tested.within of)
            ∙ ap (λ v. if not (v == 0) then overruns d sc m a else overruns d sc m b) (tested.value of)
            ∙ ap (λ v. if not v then overruns d sc m a else overruns d sc m b) none
            ∙ h.within of;
      }

  pub test_overruns : (at : Place) (test a b : ExprTree) → Overruns s k test → Overruns s k (conditional at test a b)
  test_overruns at test a b h = record {
    is = λ of. ap (λ v. v || (if holds_in of.design (scope_of s.at) of.memory test
        then overruns of.design (scope_of s.at) of.memory a else overruns of.design (scope_of s.at) of.memory b))
        (h.is of);
  }

  pub first_overruns : (at : Place) (test a b : ExprTree) (t : ℕ) → (t == 0) ≡ false →
      IsValued s k types.Bool test t → Overruns s k a → Overruns s k (conditional at test a b)
  first_overruns at test a b t some tested h = record {
    is = λ of.
        let d = of.design in
        let sc = scope_of s.at in
        let m = of.memory in
        ap (λ v. v || (if holds_in d sc m test then overruns d sc m a else overruns d sc m b)) (tested.within of)
        ∙ ap (λ v. if not (v == 0) then overruns d sc m a else overruns d sc m b) (tested.value of)
        ∙ ap (λ v. if not v then overruns d sc m a else overruns d sc m b) some
        ∙ h.is of;
  }

  pub second_overruns : (at : Place) (test a b : ExprTree) (t : ℕ) → (t == 0) ≡ true →
      IsValued s k types.Bool test t → Overruns s k b → Overruns s k (conditional at test a b)
  second_overruns at test a b t none tested h = record {
    is = λ of.
        let d = of.design in
        let sc = scope_of s.at in
        let m = of.memory in
        ap (λ v. v || (if holds_in d sc m test then overruns d sc m a else overruns d sc m b)) (tested.within of)
        ∙ ap (λ v. if not (v == 0) then overruns d sc m a else overruns d sc m b) (tested.value of)
        ∙ ap (λ v. if not v then overruns d sc m a else overruns d sc m b) none
        ∙ h.is of;
  }

  -- what an operator overruns by, where its first operand has a value
  rest_overruns : (of : Told s k) (at : Place) (op : BinaryOperator) (asked ty : Ty) (a b : ExprTree) (n : ℕ) →
      operand_type of.design (scope_of s.at) op asked a b ≡ ty → IsValued s k ty a n →
      overruns of.design (scope_of s.at) of.memory (binary at op a b)
      ≡ (if decides op n then false else overruns of.design (scope_of s.at) of.memory b)
  rest_overruns of at AndAlso asked ty a b n meets h =
      let d = of.design in
      let sc = scope_of s.at in
      let m = of.memory in
      ap (λ o. o || (not (value d sc m types.Bool a == 0) && overruns d sc m b)) (h.within of)
      ∙ ap (λ t. not (value d sc m t a == 0) && overruns d sc m b) meets
      ∙ ap (λ v. not (v == 0) && overruns d sc m b) (h.value of)
      ∙ and_rest (n == 0) (overruns d sc m b)
  rest_overruns of at OrElse asked ty a b n meets h =
      let d = of.design in
      let sc = scope_of s.at in
      let m = of.memory in
      ap (λ o. o || (not (not (value d sc m types.Bool a == 0)) && overruns d sc m b)) (h.within of)
      ∙ ap (λ t. not (not (value d sc m t a == 0)) && overruns d sc m b) meets
      ∙ ap (λ v. not (not (v == 0)) && overruns d sc m b) (h.value of)
      ∙ or_rest (n == 0) (overruns d sc m b)
  rest_overruns of at _ asked ty a b n meets h =
      ap (λ o. o || overruns of.design (scope_of s.at) of.memory b) (h.within of)

  -- the value of what an operator joins, by that of its first operand
  joined_value : (of : Told s k) (at : Place) (op : BinaryOperator) (asked ty : Ty) (a b : ExprTree) (n : ℕ) →
      operand_type of.design (scope_of s.at) op asked a b ≡ ty → IsValued s k ty a n →
      value of.design (scope_of s.at) of.memory asked (binary at op a b)
      ≡ binary_value op (width ty) n (value of.design (scope_of s.at) of.memory ty b)
  joined_value of at op asked ty a b n meets h =
      let d = of.design in
      let sc = scope_of s.at in
      let m = of.memory in
      ap (λ t. binary_value op (width t) (value d sc m t a) (value d sc m t b)) meets
      ∙ ap (λ v. binary_value op (width ty) v (value d sc m ty b)) (h.value of)

  module _ (at : Place) (op : BinaryOperator) (asked ty : Ty) (a b : ExprTree) (n : ℕ)
      (meets : (of : Told s k) → operand_type of.design (scope_of s.at) op asked a b ≡ ty) (h : IsValued s k ty a n)
    where
      pub decided_valued : decides op n ≡ true → IsValued s k asked (binary at op a b) (binary_value op (width ty) n 0)
      decided_valued done = record {
        value = λ of.
            joined_value of at op asked ty a b n (meets of) h
            ∙ decided_value op (width ty) n (value of.design (scope_of s.at) of.memory ty b) 0 done;
        within = λ of.
            rest_overruns of at op asked ty a b n (meets of) h
            ∙ ap (λ t. if t then false else overruns of.design (scope_of s.at) of.memory b) done;
      }

      pub binary_valued : (p : ℕ) → decides op n ≡ false → IsValued s k ty b p →
          IsValued s k asked (binary at op a b) (binary_value op (width ty) n p)
      binary_valued p open_ second = record {
        value = λ of.
            joined_value of at op asked ty a b n (meets of) h ∙ ap (binary_value op (width ty) n) (second.value of);
        within = λ of.
            rest_overruns of at op asked ty a b n (meets of) h
            ∙ ap (λ t. if t then false else overruns of.design (scope_of s.at) of.memory b) open_
            ∙ second.within of;
      }

      pub second_operand_overruns : decides op n ≡ false → Overruns s k b → Overruns s k (binary at op a b)
      second_operand_overruns open_ second = record {
        is = λ of.
            rest_overruns of at op asked ty a b n (meets of) h
            ∙ ap (λ t. if t then false else overruns of.design (scope_of s.at) of.memory b) open_
            ∙ second.is of;
      }

  pub first_operand_overruns : (at : Place) (op : BinaryOperator) (a b : ExprTree) → Overruns s k a →
      Overruns s k (binary at op a b)
  first_operand_overruns at AndAlso a b h = record {
    is = λ of. ap (λ o. o || (holds_in of.design (scope_of s.at) of.memory a
        && overruns of.design (scope_of s.at) of.memory b)) (h.is of);
  }
  first_operand_overruns at OrElse a b h = record {
    is = λ of. ap (λ o. o || (not (holds_in of.design (scope_of s.at) of.memory a)
        && overruns of.design (scope_of s.at) of.memory b)) (h.is of);
  }
  first_operand_overruns at _ a b h = record {
    is = λ of. ap (λ o. o || overruns of.design (scope_of s.at) of.memory b) (h.is of);
  }

  -- an element of an array, and an index past its end
  module _ (names : List Ident) (e : ExprTree) (ty : Ty) (n : ℕ)
      (meets : (of : Told s k) → index_type of.design (scope_of s.at) e ≡ ty) (h : IsValued s k ty e n) where
    past_end : (of : Told s k) → overruns of.design (scope_of s.at) of.memory (element names e)
        ≡ nat_le (unwrap_or (length_in of.design (scope_of s.at) names) 0) n
    past_end of =
        let d = of.design in
        let sc = scope_of s.at in
        let m = of.memory in
        let long = unwrap_or (length_in d sc names) 0 in
        ap (λ o. o || nat_le long (value d sc m (index_type d sc e) e)) (h.within of)
        ∙ ap (λ t. nat_le long (value d sc m t e)) (meets of)
        ∙ ap (nat_le long) (h.value of)

    pub index_within : ((of : Told s k) → nat_le (unwrap_or (length_in of.design (scope_of s.at) names) 0) n ≡ false) →
        IsIndex s k names e n
    index_within short = record {
      value = λ of. ap (λ t. value of.design (scope_of s.at) of.memory t e) (meets of) ∙ h.value of;
      within = λ of. past_end of ∙ short of;
    }

    pub index_past_end : ((of : Told s k) → nat_le (unwrap_or (length_in of.design (scope_of s.at) names) 0) n ≡ true) →
        Overruns s k (element names e)
    index_past_end long = record { is = λ of. past_end of ∙ long of }

  pub element_valued : (names : List Ident) (e : ExprTree) (n : ℕ) → IsIndex s k names e n → (asked : Ty) (v : ℕ) →
      ((of : Told s k) → option_map_or (read of.memory) (cell of.design (scope_of s.at) names (Some n)) 0 ≡ v) →
      IsValued s k asked (element names e) v
  element_valued names e n h asked v found = record {
    value = λ of.
        ap (λ i. option_map_or (read of.memory) (cell of.design (scope_of s.at) names (Some i)) 0) (h.value of)
        ∙ found of;
    within = h.within;
  }

  pub index_overruns : (names : List Ident) (e : ExprTree) → Overruns s k e → Overruns s k (element names e)
  index_overruns names e h = record {
    is = λ of. ap (λ o. o || is_past_end of.design (scope_of s.at) of.memory names e) (h.is of);
  }
