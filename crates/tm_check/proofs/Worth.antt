-- Terms that are worth what their parts are worth under an operator.
use Rattle.std.proofs.Common.{◌≡◌, ℕ, ◌%◌, ◌^◌, ◌<◌, ◌≤◌, ◌==◌, Bool, true, false, not, List, Result, Ok, Err, IfOk}
use Rattle.std.proofs.Common.{length, get_or, slice_index, refl, sym, ap, ◌∙◌, subst, arith, cond}
use Rattle.std.specs.Prelude.{◌&&◌, ◌||◌, bit_and, bit_or, bit_xor, nat_le, nat_lt}
use Rattle.std.specs.declared.alloc.AllocError.{AllocError}
use Rattle.std.proofs.Math.Nat.{mod-eq_of_lt, pow-le-pow_right}
use Rattle.std.proofs.lemmas.Bool.Decides.{nat_tests}
use Rattle.tm_check.specs.Operators.{binary_term, joined_term, shifted_term}
use Rattle.tm_check.specs.Worth.{AreCompared, IsInputNumber, IsWorth}
use Rattle.tm_base.specs.Arithmetic as bits
use Rattle.tm_base.specs.Shift.{shift}
use Rattle.tm_base.specs.declared.shift_operator.ShiftOperator.{ShiftOperator}
use Rattle.tm_base.specs.declared.shift_operator.ShiftOperator.TheVariants.{Left, Right}
use Rattle.tm_cir.specs.declared.block.Comparison.{Comparison}
use Rattle.tm_cir.specs.declared.block.Comparison.TheVariants.{Equal, NotEqual, Less, LessEqual, Greater, GreaterEqual}
use Rattle.tm_cir.specs.declared.block.Junction.{Junction}
use Rattle.tm_cir.specs.declared.block.Junction.TheVariants as truths
use Rattle.tm_cir.specs.declared.block.NumOperator.{NumOperator}
use Rattle.tm_cir.specs.declared.block.NumOperator.TheVariants as numbers
use Rattle.tm_cir.specs.Meaning.{binary_value, comparison_value, junction_value}
use Rattle.tm_flat.specs.Steps.{IsTerm}
use Rattle.tm_term.specs.declared.term.Term.{Term}
use Rattle.tm_term.specs.declared.term.Term.TheVariants as terms
use Rattle.tm_term.specs.declared.term.TermId.{TermId}
use Rattle.tm_term.specs.Table.{Fits, IsKnown, Table, term_width, width_of}
use Rattle.tm_term.specs.Value.{AreInputs, Extends, term_value, value_of}

-- a term was made
pub record IsMade (t u : Table) (term : Term) (id : TermId) : Type 0 where
  pub extends : Extends t u
  pub known : IsKnown u id
  pub width : width_of u id ≡ term_width t term
  pub value : (values : List ℕ) → value_of u values id ≡ term_value t values term

module _ (t u : Table) (e : Extends t u) where
  pub inputs_back : (values : List ℕ) → AreInputs u values → AreInputs t values
  inputs_back values are = record {
    count = are.count ∙ ap length e.inputs;
    in_range = λ i below.
        subst (λ (ws : List ℕ). get_or values i 0 < 2 ^ get_or ws i 0) e.inputs (are.in_range i below);
  }

  pub term_kept : (width : ℕ) (id : TermId) → IsTerm t width id → IsTerm u width id
  term_kept width id is = (e.known id is.0, e.widths id is.0 ∙ is.1)

  pub worth_kept : (width : ℕ) (f : List ℕ → ℕ) (id : TermId) → IsWorth t width f id → IsWorth u width f id
  worth_kept width f id is = record {
    term = term_kept width id is.term;
    worth = λ values are. e.values values id is.term.0 ∙ is.worth values (inputs_back values are);
  }

-- a term is worth what its value is
pub worth_made : (t u : Table) (term : Term) (id : TermId) (width : ℕ) (f : List ℕ → ℕ) → IsMade t u term id →
    term_width t term ≡ width →
    ((values : List ℕ) → AreInputs t values → term_value t values term ≡ f values) → IsWorth u width f id
worth_made t u term id width f made wide value = record {
  term = (made.known, made.width ∙ wide);
  worth = λ values are. made.value values ∙ value values (inputs_back t u made.extends values are);
}

-- a term is worth its value
pub value_worth : (t : Table) (width : ℕ) (id : TermId) → IsTerm t width id →
    IsWorth t width (λ values. value_of t values id) id
value_worth t width id is = record { term = is; worth = λ values are. refl }

module _ (t u : Table) (id : TermId) where
  pub const_worth : (n : ℕ) → IsMade t u (terms.Const 64 n) id → IsWorth u 64 (λ values. n) id
  const_worth n made = worth_made t u (terms.Const 64 n) id 64 (λ values. n) made refl (λ values are. refl)

  pub not_worth : (width : ℕ) (a : TermId) (f : List ℕ → ℕ) → IsWorth t width f a → IsMade t u (terms.Not a) id →
      IsWorth u width (λ values. bits.complement width (f values)) id
  not_worth width a f is made =
      worth_made t u (terms.Not a) id width (λ values. bits.complement width (f values)) made is.term.1
      (λ values are. λ i. bits.complement (is.term.1 i) (is.worth values are i))

  pub shift_worth : (op : ShiftOperator) (a : TermId) (by : ℕ) (f : List ℕ → ℕ) → IsWorth t 64 f a →
      IsMade t u (shifted_term op a by) id → IsWorth u 64 (λ values. shift op 64 (f values) by) id
  shift_worth Left a by f is made =
      worth_made t u (terms.Shl a by) id 64 (λ values. shift Left 64 (f values) by) made is.term.1
      (λ values are. λ i. bits.shift_left (is.term.1 i) (is.worth values are i) by)
  shift_worth Right a by f is made =
      worth_made t u (terms.Shr a by) id 64 (λ values. shift Right 64 (f values) by) made is.term.1
      (λ values are. λ i. bits.shift_right (is.worth values are i) by)

  module _ (a b : TermId) (f g : List ℕ → ℕ) where
    pub binary_worth : (op : NumOperator) → IsWorth t 64 f a → IsWorth t 64 g b → IsMade t u (binary_term op a b) id →
        IsWorth u 64 (λ values. binary_value op (f values) (g values)) id
    binary_worth numbers.Add one other made =
        worth_made t u (terms.Add a b) id 64 (λ values. bits.sum 64 (f values) (g values)) made one.term.1
        (λ values are. λ i. bits.sum (one.term.1 i) (one.worth values are i) (other.worth values are i))
    binary_worth numbers.Subtract one other made =
        worth_made t u (terms.Sub a b) id 64 (λ values. bits.difference 64 (f values) (g values)) made one.term.1
        (λ values are. λ i. bits.difference (one.term.1 i) (one.worth values are i) (other.worth values are i))
    binary_worth numbers.And one other made =
        worth_made t u (terms.And a b) id 64 (λ values. bit_and (f values) (g values)) made one.term.1
        (λ values are. λ i. bit_and (one.worth values are i) (other.worth values are i))
    binary_worth numbers.Or one other made =
        worth_made t u (terms.Or a b) id 64 (λ values. bit_or (f values) (g values)) made one.term.1
        (λ values are. λ i. bit_or (one.worth values are i) (other.worth values are i))
    binary_worth numbers.Xor one other made =
        worth_made t u (terms.Xor a b) id 64 (λ values. bit_xor (f values) (g values)) made one.term.1
        (λ values are. λ i. bit_xor (one.worth values are i) (other.worth values are i))

    pub equal_worth : IsWorth t 64 f a → IsWorth t 64 g b → IsMade t u (terms.Eq a b) id →
        IsWorth u 1 (λ values. bits.equal (f values) (g values)) id
    equal_worth one other made =
        worth_made t u (terms.Eq a b) id 1 (λ values. bits.equal (f values) (g values)) made refl
        (λ values are. λ i. bits.equal (one.worth values are i) (other.worth values are i))

    pub less_worth : IsWorth t 64 f a → IsWorth t 64 g b → IsMade t u (terms.Less a b) id →
        IsWorth u 1 (λ values. bits.less (f values) (g values)) id
    less_worth one other made =
        worth_made t u (terms.Less a b) id 1 (λ values. bits.less (f values) (g values)) made refl
        (λ values are. λ i. bits.less (one.worth values are i) (other.worth values are i))

-- ---- truths, as numbers of one bit
-- a test of a test is that test
once : (b : Bool) → bits.bit (bits.is_nonzero (bits.bit b)) ≡ bits.bit b
once true = refl
once false = refl

turned : (b : Bool) → bits.complement 1 (bits.bit b) ≡ bits.bit (not b)
turned true = refl
turned false = refl

not_zero : (b : Bool) → bits.complement 1 (bits.bit (not b)) ≡ bits.bit (bits.is_nonzero (bits.bit b))
not_zero true = refl
not_zero false = refl

pub compared_once : (op : Comparison) (a b : ℕ) →
    comparison_value op a b ≡ bits.bit (bits.is_nonzero (comparison_value op a b))
compared_once Equal a b = sym (once (a == b))
compared_once NotEqual a b = sym (once (not (a == b)))
compared_once Less a b = sym (once (nat_lt a b))
compared_once LessEqual a b = sym (once (nat_le a b))
compared_once Greater a b = sym (once (nat_lt b a))
compared_once GreaterEqual a b = sym (once (nat_le b a))

pub not_truth : (n : ℕ) →
    bits.complement 1 (bits.bit (bits.is_nonzero n)) ≡ bits.bit (bits.is_nonzero (bits.bit (n == 0)))
not_truth n = not_zero (n == 0)

both_bits : (a b : Bool) → bit_and (bits.bit a) (bits.bit b) ≡ bits.bit (bits.is_nonzero (bits.bit (a && b)))
both_bits true true = refl
both_bits true false = refl
both_bits false true = refl
both_bits false false = refl

some_bit : (a b : Bool) → bit_or (bits.bit a) (bits.bit b) ≡ bits.bit (bits.is_nonzero (bits.bit (a || b)))
some_bit true true = refl
some_bit true false = refl
some_bit false true = refl
some_bit false false = refl

-- what is chosen by a test is chosen by its bit
chosen : (b : Bool) (x y : ℕ) → bits.choice (bits.bit b) x y ≡ cond b x y
chosen true x y = refl
chosen false x y = refl

at_most : (a b : ℕ) → not (nat_lt b a) ≡ nat_le a b
at_most a b = grind (arith, nat_tests)

module _ (t u : Table) (id a b : TermId) (f g : List ℕ → ℕ) where
  pub joined_worth : (op : Junction) → IsWorth t 1 (λ values. bits.bit (bits.is_nonzero (f values))) a →
      IsWorth t 1 (λ values. bits.bit (bits.is_nonzero (g values))) b → IsMade t u (joined_term op a b) id →
      IsWorth u 1 (λ values. bits.bit (bits.is_nonzero (junction_value op (f values) (g values)))) id
  joined_worth truths.And one other made =
      worth_made t u (terms.And a b) id 1
      (λ values. bits.bit (bits.is_nonzero (junction_value truths.And (f values) (g values)))) made one.term.1
      (λ values are.
      (λ i. bit_and (one.worth values are i) (other.worth values are i))
      ∙ both_bits (bits.is_nonzero (f values)) (bits.is_nonzero (g values)))
  joined_worth truths.Or one other made =
      worth_made t u (terms.Or a b) id 1
      (λ values. bits.bit (bits.is_nonzero (junction_value truths.Or (f values) (g values)))) made one.term.1
      (λ values are.
      (λ i. bit_or (one.worth values are i) (other.worth values are i))
      ∙ some_bit (bits.is_nonzero (f values)) (bits.is_nonzero (g values)))

  pub chosen_worth : (c : TermId) (h : List ℕ → ℕ) → IsWorth t 1 (λ values. bits.bit (bits.is_nonzero (h values))) c →
      IsWorth t 64 f a → IsWorth t 64 g b → IsMade t u (terms.Ite c a b) id →
      IsWorth u 64 (λ values. bits.choice (h values) (f values) (g values)) id
  chosen_worth c h test one other made =
      worth_made t u (terms.Ite c a b) id 64 (λ values. bits.choice (h values) (f values) (g values)) made one.term.1
      (λ values are.
      (λ i. bits.choice (test.worth values are i) (one.worth values are i) (other.worth values are i))
      ∙ chosen (bits.is_nonzero (h values)) (f values) (g values))

-- ---- operators that fit
pub binary_made : (t : Table) (op : NumOperator) (a b : TermId) → IsTerm t 64 a → IsTerm t 64 b →
    Fits t (binary_term op a b)
binary_made t numbers.Add a b one other = (one.0, other.0, one.1 ∙ sym other.1)
binary_made t numbers.Subtract a b one other = (one.0, other.0, one.1 ∙ sym other.1)
binary_made t numbers.And a b one other = (one.0, other.0, one.1 ∙ sym other.1)
binary_made t numbers.Or a b one other = (one.0, other.0, one.1 ∙ sym other.1)
binary_made t numbers.Xor a b one other = (one.0, other.0, one.1 ∙ sym other.1)

pub joined_made : (t : Table) (op : Junction) (a b : TermId) → IsTerm t 1 a → IsTerm t 1 b →
    Fits t (joined_term op a b)
joined_made t truths.And a b one other = (one.0, other.0, one.1 ∙ sym other.1)
joined_made t truths.Or a b one other = (one.0, other.0, one.1 ∙ sym other.1)

pub shift_made : (t : Table) (op : ShiftOperator) (a : TermId) (by : ℕ) → IsTerm t 64 a → by < 64 →
    Fits t (shifted_term op a by)
shift_made t Left a by is below = (is.0, subst (λ (w : ℕ). by < w) (sym is.1) below)
shift_made t Right a by is below = (is.0, subst (λ (w : ℕ). by < w) (sym is.1) below)

-- ---- tests
pub not_truth_worth : (t u : Table) (id a : TermId) (f : List ℕ → ℕ) →
    IsWorth t 1 (λ values. bits.bit (bits.is_nonzero (f values))) a → IsMade t u (terms.Not a) id →
    IsWorth u 1 (λ values. bits.bit (bits.is_nonzero (bits.bit (f values == 0)))) id
not_truth_worth t u id a f is made =
    worth_made t u (terms.Not a) id 1 (λ values. bits.bit (bits.is_nonzero (bits.bit (f values == 0)))) made is.term.1
    (λ values are.
    (λ i. bits.complement (is.term.1 i) (is.worth values are i)) ∙ not_truth (f values))

pub compared_worth : (t u : Table) (op : Comparison) (a b id : TermId) (f g : List ℕ → ℕ) → IsWorth t 64 f a →
    IsWorth t 64 g b → AreCompared t u op a b id →
    IsWorth u 1 (λ values. bits.bit (bits.is_nonzero (comparison_value op (f values) (g values)))) id
compared_worth t u op a b id f g one other is =
    let found = is f g one other in
    record {
      term = found.term;
      worth = λ values are. found.worth values are ∙ compared_once op (f values) (g values);
    }

-- the complement of a test that is made at once
pub nonzero_worth : (t u w : Table) (a zero id : TermId) (f : List ℕ → ℕ) → IsWorth t 64 f a → Extends u w →
    IsMade t u (terms.Const 64 0) zero →
    IsWorth w 1 (λ values. bits.complement 1 (term_value u values (terms.Eq a zero))) id →
    IsWorth w 1 (λ values. bits.bit (bits.is_nonzero (f values))) id
nonzero_worth t u w a zero id f is e made test = record {
  term = test.term;
  worth = λ values are.
      let back = inputs_back u w e values are in
      let kept = worth_kept t u made.extends 64 f a is in
      test.worth values are
      ∙ (λ i. bits.complement 1 (bits.equal (kept.worth values back i) (made.value values i)))
      ∙ turned (f values == 0);
}

-- a comparison that is made, and one whose complement is
pub equal_is : (t u : Table) (a b id : TermId) → IsMade t u (terms.Eq a b) id → AreCompared t u Equal a b id
equal_is t u a b id made f g one other = equal_worth t u id a b f g one other made

pub less_is : (t u : Table) (a b id : TermId) → IsMade t u (terms.Less a b) id → AreCompared t u Less a b id
less_is t u a b id made f g one other = less_worth t u id a b f g one other made

pub greater_is : (t u : Table) (a b id : TermId) → IsMade t u (terms.Less b a) id → AreCompared t u Greater a b id
greater_is t u a b id made f g one other = less_worth t u id b a g f other one made

pub other_is : (t u : Table) (a b id : TermId) → Extends t u →
    IsWorth u 1 (λ values. bits.complement 1 (term_value t values (terms.Eq a b))) id →
    AreCompared t u NotEqual a b id
other_is t u a b id e is f g one other = record {
  term = is.term;
  worth = λ values are.
      let back = inputs_back t u e values are in
      is.worth values are
      ∙ (λ i. bits.complement 1 (bits.equal (one.worth values back i) (other.worth values back i)))
      ∙ turned (f values == g values);
}

-- one that is not below another is at least it
at_least_is : (t u : Table) (a b id : TermId) (f g : List ℕ → ℕ) → Extends t u →
    IsWorth u 1 (λ values. bits.complement 1 (term_value t values (terms.Less a b))) id → IsWorth t 64 f a →
    IsWorth t 64 g b → IsWorth u 1 (λ values. bits.less_equal (g values) (f values)) id
at_least_is t u a b id f g e is one other = record {
  term = is.term;
  worth = λ values are.
      let back = inputs_back t u e values are in
      is.worth values are
      ∙ (λ i. bits.complement 1 (bits.less (one.worth values back i) (other.worth values back i)))
      ∙ turned (nat_lt (f values) (g values))
      ∙ ap bits.bit (at_most (g values) (f values));
}

pub less_equal_is : (t u : Table) (a b id : TermId) → Extends t u →
    IsWorth u 1 (λ values. bits.complement 1 (term_value t values (terms.Less b a))) id →
    AreCompared t u LessEqual a b id
less_equal_is t u a b id e is f g one other = at_least_is t u b a id g f e is other one

pub greater_equal_is : (t u : Table) (a b id : TermId) → Extends t u →
    IsWorth u 1 (λ values. bits.complement 1 (term_value t values (terms.Less a b))) id →
    AreCompared t u GreaterEqual a b id
greater_equal_is t u a b id e is f g one other = at_least_is t u a b id f g e is one other

-- the input of a number, in 64 bits
pub input_worth : (t u w : Table) (own id : TermId) (input : ℕ) → get_or t.inputs input 0 ≤ 64 → input < length
    t.inputs →
    IsMade t u (terms.Input input) own → IsMade u w (terms.Resize 64 own) id → IsInputNumber w input id
input_worth t u w own id input narrow there read made =
    worth_made u w (terms.Resize 64 own) id 64 (λ values. slice_index values input) made refl
    (λ values are.
    let back = inputs_back t u read.extends values are in
    let small : get_or values input 0 < 2 ^ get_or t.inputs input 0 =
    back.in_range input (omega (arith, back.count)) in
    let two : 0 < 2 = omega arith in
    let power : 2 ^ get_or t.inputs input 0 ≤ 2 ^ 64 = pow-le-pow_right two narrow in
    ap (λ n. n % 2 ^ 64) (read.value values) ∙ mod-eq_of_lt (omega arith))

-- ---- what calls answer
pub made_ok : (t u : Table) (term : Term) (r : Result TermId AllocError) → Extends t u →
    IfOk r (λ id. IsKnown u id) → IfOk r (λ id. width_of u id ≡ term_width t term) →
    IfOk r (λ id. (values : List ℕ) → value_of u values id ≡ term_value t values term) → IfOk r (IsMade t u term)
made_ok t u term (Ok id) e known width value = record { extends = e; known = known; width = width; value = value }
made_ok t u term (Err x) e known width value = tt
