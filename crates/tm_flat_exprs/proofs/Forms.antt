-- The terms of each form of an expression, by those of its parts.
use Rattle.std.proofs.Common.{◌≡◌, ℕ, ◌^◌, ◌<◌, ◌==◌, Bool, true, false, Option, None, Some, List, refl, sym, ap, ◌∙◌}
use Rattle.std.proofs.Common.{subst}
use Rattle.std.specs.Prelude.{◌&&◌, ◌||◌, not, unwrap_or, if◌then◌else◌}
use Rattle.tm_base.specs.declared.place.Place.{Place}
use Rattle.tm_base.specs.Arithmetic.{bit, complement, resize}
use Rattle.tm_base.specs.Shift as bits
use Rattle.tm_base.specs.declared.shift_operator.ShiftOperator.{ShiftOperator}
use Rattle.tm_base.specs.declared.shift_operator.ShiftOperator.TheVariants.{Left, Right}
use Rattle.tm_syntax.specs.declared.tree.Num.{Num}
use Rattle.tm_syntax.specs.declared.tree.UnaryOperator.{UnaryOperator}
use Rattle.tm_syntax.specs.declared.tree.BinaryOperator.{BinaryOperator}
use Rattle.tm_syntax.specs.declared.tree.BinaryOperator.TheVariants.{AndAlso, OrElse}
use Rattle.tm_syntax.specs.declared.design.Ty.{Ty}
use Rattle.tm_syntax.specs.declared.design.Ty.TheVariants as types
use Rattle.tm_syntax.specs.Tree.{ExprTree, SpecTree, truth, number, group, unary, binary, shift, conditional, cast}
use Rattle.tm_syntax.specs.Tree.View.{spec_tree}
use Rattle.tm_syntax.specs.Scopes.Context.{Context}
use Rattle.tm_syntax.specs.Scopes.Names.{number_of}
use Rattle.tm_syntax.specs.Scopes.Types.{valued_in}
use Rattle.tm_syntax.specs.Design.Scope.{type_in, joint_type, operand_type}
use Rattle.tm_syntax.specs.Design.Sizes.{type_bits, width}
use Rattle.tm_scope.specs.Cells.{ScopedCells, scope_of}
use Rattle.tm_term.specs.declared.term.Term.TheVariants.{Const, Not, Ite, Resize}
use Rattle.tm_term.specs.declared.term.TermId.{TermId}
use Rattle.tm_term.specs.Table.{Table, Fits, width_of, term_width}
use Rattle.tm_term.specs.Value.{value_of, term_value, Extends}
use Rattle.tm_term.proofs.Valued.{Extends-trans}
use Rattle.tm_typing.specs.HasType.{HasType, a_truth, a_number, a_negation, a_complement, a_shift, a_cast}
use Rattle.tm_sem.specs.Value.{value, overruns, binary_value, unary_value}
use Rattle.tm_flat_exprs.specs.declared.valued.Valued.{Valued}
use Rattle.tm_flat_exprs.specs.Kept.{KeptTerms}
use Rattle.tm_flat_exprs.specs.Made.{Makes, MakesTruth, truth_at}
use Rattle.tm_design.specs.Sorts.{sort_of}
use Rattle.tm_flat_exprs.specs.Operators.{chosen_overrun, joined_overrun, joined_width, shifted_term}
use Rattle.tm_design.specs.Typed.{HasTypeAt}
use Rattle.tm_flat_exprs.specs.Valued.{bits_in, IsReady, Told, IsValued, Finds, IsOperandType}
use Rattle.tm_flat_exprs.proofs.Along.{ready_along, overrun_along, means_along}
use Rattle.tm_design.proofs.Contexts.{joined_in, valued_here}
use Rattle.tm_flat_exprs.proofs.Later.{denied}
use Rattle.tm_design.proofs.OperandParts.{of_shift, unary_part, shift_part, first_part, second_part}

-- ---- what the types say of the widths
denial_of : {c : Context} {ty : Ty} {at : Place} {op : UnaryOperator} {e : ExprTree} (spec : SpecTree) →
    HasType c ty (unary at op e) → (x : ℕ) → unary_value op (width ty) x ≡ complement (type_bits spec ty) x
denial_of spec (a_negation h) x = sym (denied x)
denial_of spec (a_complement h) x = refl

shift_of : {c : Context} {ty : Ty} {at : Place} {op : ShiftOperator} {e : ExprTree} {by : Num} (spec : SpecTree) →
    HasType c ty (shift at op e by) → width ty ≡ type_bits spec ty
shift_of spec (a_shift h is below) = refl

cast_of : {c : Context} {ty : Ty} {at : Place} {to : Num} {e : ExprTree} (spec : SpecTree) →
    HasType c ty (cast at to e) → number_of to ≡ type_bits spec ty
cast_of spec (a_cast sized is own h) = ap (λ o. unwrap_or o 0) is

truth_of : {c : Context} {ty : Ty} {at : Place} {b : Bool} (spec : SpecTree) → HasType c ty (truth at b) →
    type_bits spec ty ≡ 1
truth_of spec a_truth = refl

number_below : {c : Context} {ty : Ty} {n : Num} (spec : SpecTree) → HasType c ty (number n) →
    number_of n < 2 ^ type_bits spec ty
number_below spec (a_number {width = w} sized is below) =
    subst (λ x. x < 2 ^ w) (sym (ap (λ o. unwrap_or o 0) is)) below

-- the value of the term of a shift
shifted_value : (op : ShiftOperator) (u : Table) (v : List ℕ) (a : TermId) (by w : ℕ) → width_of u a ≡ w →
    bits.shift op w (value_of u v a) by ≡ term_value u v (shifted_term op a by)
shifted_value Left u v a by w is = ap (λ k. bits.shift Left k (value_of u v a) by) (sym is)
shifted_value Right u v a by w is = refl

shifted_width : (op : ShiftOperator) (t : Table) (a : TermId) (by : ℕ) →
    term_width t (shifted_term op a by) ≡ width_of t a
shifted_width Left t a by = refl
shifted_width Right t a by = refl

module _ (s : ScopedCells) (k : KeptTerms) where
  pub truth_found : (asked : Ty) (was at : Place) (b : Bool) (t n : Table) (id : TermId) →
      HasTypeAt s asked (truth was b) → IsReady s t k →
      Makes t n (term_width t (Const 1 (bit b))) id (λ u v. term_value u v (Const 1 (bit b))) →
      Finds s k asked (truth at b) t n (record { value = id; overrun = None })
  truth_found asked was at b t n id typed ready made = record {
    grown = made.grown;
    ready = ready_along s t n k made.grown made.sound ready;
    value = (made.term.0, made.term.1 ∙ sym (truth_of (spec_tree s.tables.spec) typed.typed));
    overrun = tt;
    means = λ u more v are. record { value = λ of. sym (made.value u more v are); overrun = λ of. refl };
  }

  pub literal_below : (asked : Ty) (n : Num) → HasTypeAt s asked (number n) → number_of n < 2 ^ bits_in s asked
  literal_below asked n typed = number_below (spec_tree s.tables.spec) typed.typed

  pub literal_found : (asked : Ty) (n : Num) (t m : Table) (id : TermId) → IsReady s t k →
      Makes t m (bits_in s asked) id (λ u v. number_of n) →
      Finds s k asked (number n) t m (record { value = id; overrun = None })
  literal_found asked n t m id ready made = record {
    grown = made.grown;
    ready = ready_along s t m k made.grown made.sound ready;
    value = made.term;
    overrun = tt;
    means = λ u more v are. record { value = λ of. sym (made.value u more v are); overrun = λ of. refl };
  }

  pub group_found : (asked : Ty) (at : Place) (e : ExprTree) (t n : Table) (x : Valued) → Finds s k asked e t n x →
      Finds s k asked (group at e) t n x
  group_found asked at e t n x found = record {
    grown = found.grown;
    ready = found.ready;
    value = found.value;
    overrun = found.overrun;
    means = λ u more v are. record {
      value = (found.means u more v are).value;
      overrun = (found.means u more v are).overrun;
    };
  }

  pub unary_found : (asked : Ty) (was at : Place) (op : UnaryOperator) (e : ExprTree) (t n m : Table) (x : Valued)
      (id : TermId) → HasTypeAt s asked (unary was op e) → Finds s k asked e t n x →
      Makes n m (term_width n (Not x.value)) id (λ u v. term_value u v (Not x.value)) →
      Finds s k asked (unary at op e) t m (record { value = id; overrun = x.overrun })
  unary_found asked was at op e t n m x id typed found made = record {
    grown = Extends-trans t n m found.grown made.grown;
    ready = ready_along s n m k made.grown made.sound found.ready;
    value = (made.term.0, made.term.1 ∙ found.value.1);
    overrun = overrun_along s k asked e t n x found m made.grown;
    means = λ u more v are.
        let part : IsValued s k asked e u v x = means_along s k asked e t n x found m made.grown u more v are in
        let all : Extends n u = Extends-trans n m u made.grown more in
        record {
          value = λ of.
              ap (λ ty. unary_value op (width ty) (value of.design (scope_of s.at) of.memory ty e))
              (valued_here s asked e (unary_part s asked was op e typed) of.design of.cells)
              ∙ ap (unary_value op (width asked)) (part.value of)
              ∙ denial_of (spec_tree s.tables.spec) typed.typed (value_of u v x.value)
              ∙ ap (λ w. complement w (value_of u v x.value)) (sym (all.widths x.value found.value.0 ∙ found.value.1))
              ∙ sym (made.value u more v are);
          overrun = part.overrun;
        };
  }

  pub shift_found : (asked : Ty) (was at : Place) (op : ShiftOperator) (e : ExprTree) (by : Num) (t n m : Table)
      (x : Valued) (id : TermId) → HasTypeAt s asked (shift was op e by) → Finds s k asked e t n x →
      Makes n m (term_width n (shifted_term op x.value (number_of by))) id
      (λ u v. term_value u v (shifted_term op x.value (number_of by))) →
      Finds s k asked (shift at op e by) t m (record { value = id; overrun = x.overrun })
  shift_found asked was at op e by t n m x id typed found made = record {
    grown = Extends-trans t n m found.grown made.grown;
    ready = ready_along s n m k made.grown made.sound found.ready;
    value = (made.term.0, made.term.1 ∙ shifted_width op n x.value (number_of by) ∙ found.value.1);
    overrun = overrun_along s k asked e t n x found m made.grown;
    means = λ u more v are.
        let part : IsValued s k asked e u v x = means_along s k asked e t n x found m made.grown u more v are in
        let all : Extends n u = Extends-trans n m u made.grown more in
        record {
          value = λ of.
              ap (λ ty. bits.shift op (width ty) (value of.design (scope_of s.at) of.memory ty e) (number_of by))
              (valued_here s asked e (shift_part s asked was op e by typed) of.design of.cells)
              ∙ ap (λ n. bits.shift op (width asked) n (number_of by)) (part.value of)
              ∙ shifted_value op u v x.value (number_of by) (width asked)
              (all.widths x.value found.value.0 ∙ found.value.1
              ∙ sym (shift_of (spec_tree s.tables.spec) typed.typed))
              ∙ sym (made.value u more v are);
          overrun = part.overrun;
        };
  }

  -- a number is shifted by less than its width
  pub shift_below : (asked : Ty) (was : Place) (op : ShiftOperator) (e : ExprTree) (by : Num) (t n : Table)
      (x : Valued) → HasTypeAt s asked (shift was op e by) → Finds s k asked e t n x →
      Fits n (shifted_term op x.value (number_of by))
  shift_below asked was op e by t n x typed found = by_sort op
    where
      less : number_of by < width_of n x.value
      less =
          subst (λ w. number_of by < w)
          (shift_of (spec_tree s.tables.spec) typed.typed ∙ sym found.value.1)
          (of_shift typed.context asked was op e by typed.typed).below

      by_sort : (op : ShiftOperator) → Fits n (shifted_term op x.value (number_of by))
      by_sort Left = (found.value.0, less)
      by_sort Right = (found.value.0, less)

  pub cast_found : (asked own : Ty) (was at : Place) (to : Num) (e : ExprTree) (t n m : Table) (x : Valued)
      (id : TermId) →
      HasTypeAt s asked (cast was to e) →
      ((u : Table) (v : List ℕ) (of : Told s u v k) → type_in of.design (scope_of s.at) e ≡ Some own) →
      Finds s k own e t n x →
      Makes n m (term_width n (Resize (number_of to) x.value)) id
      (λ u v. term_value u v (Resize (number_of to) x.value)) →
      Finds s k asked (cast at to e) t m (record { value = id; overrun = x.overrun })
  cast_found asked own was at to e t n m x id typed is found made = record {
    grown = Extends-trans t n m found.grown made.grown;
    ready = ready_along s n m k made.grown made.sound found.ready;
    value = (made.term.0, made.term.1 ∙ cast_of (spec_tree s.tables.spec) typed.typed);
    overrun = overrun_along s k own e t n x found m made.grown;
    means = λ u more v are.
        let part : IsValued s k own e u v x = means_along s k own e t n x found m made.grown u more v are in
        record {
          value = λ of.
              ap (λ o. resize (number_of to) (value of.design (scope_of s.at) of.memory (valued_in asked o) e))
              (is u v of)
              ∙ ap (resize (number_of to)) (part.value of)
              ∙ sym (made.value u more v are);
          overrun = part.overrun;
        };
  }

  -- whether an operator overruns, by its parts
  overrun_joins : (at : Place) (op : BinaryOperator) (asked ty : Ty) (a b : ExprTree) (u : Table) (v : List ℕ)
      (of : Told s u v k) (m : ℕ) (p q : Bool) → operand_type of.design (scope_of s.at) op asked a b ≡ ty →
      value of.design (scope_of s.at) of.memory ty a ≡ m → overruns of.design (scope_of s.at) of.memory a ≡ p →
      overruns of.design (scope_of s.at) of.memory b ≡ q →
      overruns of.design (scope_of s.at) of.memory (binary at op a b) ≡ joined_overrun op m p q
  overrun_joins at AndAlso asked ty a b u v of m p q meets is first second =
      let here : value of.design (scope_of s.at) of.memory types.Bool a ≡ m =
      ap (λ t. value of.design (scope_of s.at) of.memory t a) meets ∙ is in
      (λ i. first i || not (here i == 0) && second i)
  overrun_joins at OrElse asked ty a b u v of m p q meets is first second =
      let here : value of.design (scope_of s.at) of.memory types.Bool a ≡ m =
      ap (λ t. value of.design (scope_of s.at) of.memory t a) meets ∙ is in
      (λ i. first i || not (not (here i == 0)) && second i)
  overrun_joins at _ asked ty a b u v of m p q meets is first second = (λ i. first i || second i)

  pub binary_found : (asked ty : Ty) (at : Place) (op : BinaryOperator) (a b : ExprTree) (t n p q r : Table)
      (x y : Valued) (id : TermId) (over : Option TermId) → IsOperandType s op asked a b ty →
      Finds s k ty a t n x → Finds s k ty b n p y →
      Makes p q (joined_width (sort_of op) (width_of p x.value)) id
      (λ u v. binary_value op (width_of p x.value) (value_of u v x.value) (value_of u v y.value)) →
      MakesTruth q r over
      (λ u v. joined_overrun op (value_of u v x.value) (truth_at u v x.overrun) (truth_at u v y.overrun)) →
      Finds s k asked (binary at op a b) t r (record { value = id; overrun = over })
  binary_found asked ty at op a b t n p q r x y id over operands first second made overrun =
      let later : Extends p r = Extends-trans p q r made.grown overrun.grown in
      let wide : width_of p x.value ≡ bits_in s ty = second.grown.widths x.value first.value.0 ∙ first.value.1 in
      record {
        grown = Extends-trans t n r first.grown (Extends-trans n p r second.grown later);
        ready = ready_along s p r k later overrun.sound second.ready;
        value = (
          overrun.grown.known id made.term.0,
          overrun.grown.widths id made.term.0
              ∙ made.term.1
              ∙ ap (joined_width (sort_of op)) wide
              ∙ operands.bits,
        );
        overrun = overrun.term;
        means = λ u more v are.
            let one : IsValued s k ty a u v x =
            means_along s k ty a t n x first r (Extends-trans n p r second.grown later) u more v are in
            let other : IsValued s k ty b u v y = means_along s k ty b n p y second r later u more v are in
            record {
              value = λ of.
                  ap (λ t. binary_value op (width t) (value of.design (scope_of s.at) of.memory t a)
                  (value of.design (scope_of s.at) of.memory t b)) (operands.meets of.design of.cells)
                  ∙ (λ i. binary_value op (width ty) (one.value of i) (other.value of i))
                  ∙ sym (operands.arithmetic (value_of u v x.value) (value_of u v y.value))
                  ∙ ap (λ w. binary_value op w (value_of u v x.value) (value_of u v y.value)) (sym wide)
                  ∙ sym (made.value u (Extends-trans q r u overrun.grown more) v are);
              overrun = λ of.
                  overrun_joins at op asked ty a b u v of (value_of u v x.value) (truth_at u v x.overrun)
                  (truth_at u v y.overrun) (operands.meets of.design of.cells) (one.value of) (one.overrun of)
                  (other.overrun of)
                  ∙ sym (overrun.truth u more v are);
            };
      }

  -- ---- conditionals
  flipped : (t : Bool) (x y : ℕ) → (if t then y else x) ≡ (if not t then x else y)
  flipped true x y = refl
  flipped false x y = refl

  either_branch : (t p q : Bool) → (if t then p else q) ≡ (t && p || not t && q)
  either_branch true true q = refl
  either_branch true false q = refl
  either_branch false p q = refl

  pub chosen_found : (asked : Ty) (was at : Place) (test a b : ExprTree) (t n p q r z : Table) (w x y : Valued)
      (id : TermId) (over : Option TermId) → HasTypeAt s asked (conditional was test a b) →
      Finds s k types.Bool test t n w → Finds s k asked a n p x → Finds s k asked b p q y →
      Makes q r (term_width q (Ite w.value x.value y.value)) id
      (λ u v. term_value u v (Ite w.value x.value y.value)) →
      MakesTruth r z over
      (λ u v. chosen_overrun (value_of u v w.value) (truth_at u v w.overrun) (truth_at u v x.overrun)
      (truth_at u v y.overrun)) →
      Finds s k asked (conditional at test a b) t z (record { value = id; overrun = over })
  chosen_found asked was at test a b t n p q r z w x y id over typed tested first second made overrun =
      let last : Extends q z = Extends-trans q r z made.grown overrun.grown in
      let middle : Extends p z = Extends-trans p q z second.grown last in
      let whole : Extends n z = Extends-trans n p z first.grown middle in
      record {
        grown = Extends-trans t n z tested.grown whole;
        ready = ready_along s q z k last overrun.sound second.ready;
        value = (
          overrun.grown.known id made.term.0,
          overrun.grown.widths id made.term.0
              ∙ made.term.1
              ∙ second.grown.widths x.value first.value.0
              ∙ first.value.1,
        );
        overrun = overrun.term;
        means = λ u more v are.
            let test_is : IsValued s k types.Bool test u v w =
            means_along s k types.Bool test t n w tested z whole u more v are in
            let first_is : IsValued s k asked a u v x =
            means_along s k asked a n p x first z middle u more v are in
            let second_is : IsValued s k asked b u v y =
            means_along s k asked b p q y second z last u more v are in
            record {
              value = λ of.
                  let d = of.design in
                  let sc = scope_of s.at in
                  let m = of.memory in
                  let joint : joint_type d sc asked a b ≡ asked =
                  joined_in asked (type_in d sc a) (type_in d sc b)
                  (valued_here s asked a (first_part s asked was test a b typed) d of.cells)
                  (valued_here s asked b (second_part s asked was test a b typed) d of.cells) in
                  ap (λ ty. if value d sc m types.Bool test == 0 then value d sc m ty b else value d sc m ty a) joint
                  ∙ (λ i. if test_is.value of i == 0 then second_is.value of i else first_is.value of i)
                  ∙ flipped (value_of u v w.value == 0) (value_of u v x.value) (value_of u v y.value)
                  ∙ sym (made.value u (Extends-trans r z u overrun.grown more) v are);
              overrun = λ of.
                  (λ i. test_is.overrun of i
                  || (if not (test_is.value of i == 0) then first_is.overrun of i else second_is.overrun of i))
                  ∙ ap (λ o. truth_at u v w.overrun || o)
                  (either_branch (not (value_of u v w.value == 0)) (truth_at u v x.overrun) (truth_at u v y.overrun))
                  ∙ sym (overrun.truth u more v are);
            };
      }
