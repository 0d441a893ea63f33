-- An expression whose paths resolve, and of which neither F6 nor F7 holds, has a type.
use Rattle.std.proofs.Common.{◌≡◌, ℕ, ◌^◌, ◌<◌, Bool, true, false, Option, None, Some, List, [], ◌++◌, ◌&&◌, refl, sym, ap, ◌∙◌, subst, arith, rules}
use Rattle.std.specs.Prelude.{min, nat_lt, nat_le, unwrap_or}
use Rattle.std.specs.Option.{option_map_or}
use Rattle.std.proofs.lemmas.Bool.Decides.{nat_tests}
use Rattle.tm_base.specs.declared.place.Place.{Place}
use Rattle.tm_syntax.specs.declared.tree.Ident.{Ident}
use Rattle.tm_syntax.specs.declared.tree.Num.{Num}
use Rattle.tm_syntax.specs.declared.tree.UnaryOperator.TheVariants.{Complement, Not}
use Rattle.tm_syntax.specs.declared.tree.BinaryOperator.{BinaryOperator}
use Rattle.tm_syntax.specs.declared.tree.BinaryOperator.TheVariants as operator
use Rattle.tm_syntax.specs.declared.design.Ty.{Ty}
use Rattle.tm_syntax.specs.declared.design.Ty.TheVariants as types
use Rattle.tm_syntax.specs.Tree.{ExprTree, truth, number, path, group, unary, binary, shift, conditional, cast, element}
use Rattle.tm_syntax.specs.Scopes.Context.{Context, BodyName, process_body, task_body, outside}
use Rattle.tm_syntax.specs.Scopes.Types.{either_type, own_type, valued_in, named_type, array_length}
use Rattle.tm_syntax.specs.Scopes.Declared.{meaning}
use Rattle.tm_syntax.specs.Faults.Names.{expr_paths}
use Rattle.tm_syntax.specs.Faults.Operands.{is_indexed, wrong_sort, Finding, finding, may_be_bool, may_be_uint, are_alike, are_comparable, are_addable, are_ordered, is_number_typed, branches_fit, index_fits, judged, index_faults, expr_place, expr_faults}
use Rattle.tm_syntax.specs.Faults.Literals.{is_from_to, width_faults, number_fits, shift_fits, is_below, written_length, joint, index_numbers, expr_numbers}
use Rattle.tm_syntax.specs.Faults.Marks.{place_unless}
use Rattle.tm_typing.specs.HasType.{IsWidth, IsValueOf, IsArithmetic, adds, subtracts, ands, ors, xors, IsLogical, and_also, or_else, Compares, equals, differs, is_less, is_at_most, is_greater, is_at_least, Suits, HasType, a_truth, a_number, a_path, a_group, a_negation, a_complement, arithmetic, logic, a_comparison, a_shift, a_conditional, a_cast, an_element_at, an_element}
use Rattle.tm_typing.specs.Resolving.{IsArrayPath, Resolves, AreResolved}
use Rattle.tm_typing.proofs.Fitting.{contrary, both_empty, all_of_both, both_true, fits_there, judged_well, is_bool, is_number}
use Rattle.tm_typing.proofs.Joining.{Fits, joined, compared, numeric, numeric_alone, suits_any}

-- a number that fits a type of numbers is below 2 to the power of its width
number_below : (w : ℕ) (n : Num) → IsWidth w → number_fits (types.Uint w) n ≡ true →
    (v : ℕ) × IsValueOf n v × (v < 2 ^ w)
number_below w n width fits = of_value n.value refl fits
  where
    of_value : (o : Option ℕ) → n.value ≡ o → option_map_or (λ v. nat_lt v (2 ^ min w 64)) o false ≡ true →
        (v : ℕ) × IsValueOf n v × (v < 2 ^ w)
    of_value None is e = contrary e
    of_value (Some v) is e =
        let width_is : min w 64 ≡ w = (let high = width.high in grind (arith, nat_tests)) in
        let below : nat_lt v (2 ^ w) ≡ true = subst (λ k. nat_lt v (2 ^ k) ≡ true) width_is e in
        (v, is, grind (arith, nat_tests))

-- a width that is at no fault
pub width_of : (n : Num) → width_faults n ≡ [] → (w : ℕ) × IsValueOf n w × IsWidth w
width_of n none = of_value n.value refl (fits_there (is_from_to 1 64 n) n.place none)
  where
    of_value : (o : Option ℕ) → n.value ≡ o → option_map_or (λ v. nat_le 1 v && nat_le v 64) o false ≡ true →
        (w : ℕ) × IsValueOf n w × IsWidth w
    of_value None is e = contrary e
    of_value (Some w) is e =
        let parts = both_true (nat_le 1 w) (nat_le w 64) e in
        let low = parts.0 in
        let high = parts.1 in
        (w, is, record { low = grind (arith, nat_tests); high = grind (arith, nat_tests) })

-- a shift that is at no fault is by less than the width
shift_below : (w : ℕ) (by : Num) → shift_fits (types.Uint w) by ≡ true → (v : ℕ) × IsValueOf by v × (v < w)
shift_below w by fits = of_value by.value refl fits
  where
    of_value : (o : Option ℕ) → by.value ≡ o → option_map_or (λ v. nat_lt v w) o false ≡ true →
        (v : ℕ) × IsValueOf by v × (v < w)
    of_value None is e = contrary e
    of_value (Some v) is e = (v, is, grind (arith, nat_tests))

-- an index that is a number, and at no fault, is below the length
index_below : (length n : Num) (size : ℕ) → IsValueOf length size → is_below (Some length) n ≡ true →
    (v : ℕ) × IsValueOf n v × (v < size)
index_below length n size is_size fits = of_value n.value refl fits
  where
    of_value : (o : Option ℕ) → n.value ≡ o →
        option_map_or (λ v. option_map_or (λ s. nat_lt v s) length.value true) o false ≡ true →
        (v : ℕ) × IsValueOf n v × (v < size)
    of_value None is e = contrary e
    of_value (Some v) is e =
        let below : nat_lt v size ≡ true = subst (λ o. option_map_or (λ s. nat_lt v s) o true ≡ true) is_size e in
        (v, is, grind (arith, nat_tests))

-- the length of an array as a number
array_size : (c : Context) (names : List Ident) (length : Num) (size : ℕ) → written_length c names ≡ Some length →
    IsValueOf length size → array_length c names ≡ Some size
array_size c names length size written is = search rules

-- an index: a number, or an expression that asks for a type of its own, in a body alone
data Index (i : ExprTree) : Type 0 where
  written_index : (n : Num) → i ≡ number n → Index i
  computed_index : ((k : ℕ) (f : Finding) → index_fits (process_body k) i f ≡ is_number_typed f) →
      ((k : ℕ) (f : Finding) → index_fits (task_body k) i f ≡ is_number_typed f) →
      ((f : Finding) → index_fits outside i f ≡ false) →
      ((c : Context) (names : List Ident) (within : List Place) → index_numbers c names i within ≡ within) → Index i

index_is : (i : ExprTree) → Index i
index_is (number n) = written_index n refl
index_is (truth _ _) = computed_index (λ _ _. refl) (λ _ _. refl) (λ _. refl) (λ _ _ _. refl)
index_is (path _) = computed_index (λ _ _. refl) (λ _ _. refl) (λ _. refl) (λ _ _ _. refl)
index_is (group _ _) = computed_index (λ _ _. refl) (λ _ _. refl) (λ _. refl) (λ _ _ _. refl)
index_is (unary _ _ _) = computed_index (λ _ _. refl) (λ _ _. refl) (λ _. refl) (λ _ _ _. refl)
index_is (binary _ _ _ _) = computed_index (λ _ _. refl) (λ _ _. refl) (λ _. refl) (λ _ _ _. refl)
index_is (shift _ _ _ _) = computed_index (λ _ _. refl) (λ _ _. refl) (λ _. refl) (λ _ _ _. refl)
index_is (conditional _ _ _ _) = computed_index (λ _ _. refl) (λ _ _. refl) (λ _. refl) (λ _ _ _. refl)
index_is (cast _ _ _) = computed_index (λ _ _. refl) (λ _ _. refl) (λ _. refl) (λ _ _ _. refl)
index_is (element _ _) = computed_index (λ _ _. refl) (λ _ _. refl) (λ _. refl) (λ _ _ _. refl)

-- an index that is no number has a type of numbers of its own where it fits
typed_index : (body : BodyName) (i : ExprTree) (f : Finding) →
    ((k : ℕ) (f : Finding) → index_fits (process_body k) i f ≡ is_number_typed f) →
    ((k : ℕ) (f : Finding) → index_fits (task_body k) i f ≡ is_number_typed f) →
    ((f : Finding) → index_fits outside i f ≡ false) → index_fits body i f ≡ true → is_number_typed f ≡ true
typed_index (process_body k) i f process task out fits = sym (process k f) ∙ fits
typed_index (task_body k) i f process task out fits = sym (task k f) ∙ fits
typed_index outside i f process task out fits = contrary (sym (out f) ∙ fits)

module _ (c : Context) where
  -- of an operator between numbers
  of_numbers : (asked : Ty) (at : Place) (op : BinaryOperator) (a b : ExprTree) → IsArithmetic op →
      Fits c a (own_type c a) → Fits c b (own_type c b) →
      are_addable (finding [] (own_type c a)) (finding [] (own_type c b)) ≡ true →
      expr_numbers c (joint c asked a b) a ≡ [] → expr_numbers c (joint c asked a b) b ≡ [] →
      Suits (either_type (own_type c a) (own_type c b)) asked →
      HasType c (valued_in asked (either_type (own_type c a) (own_type c b))) (binary at op a b)
  of_numbers asked at op a b is fa fb fits na nb suits =
      let tests = both_true (may_be_uint (finding [] (own_type c a)) && may_be_uint (finding [] (own_type c b)))
      (are_alike (finding [] (own_type c a)) (finding [] (own_type c b))) fits in
      let each = both_true (may_be_uint (finding [] (own_type c a))) (may_be_uint (finding [] (own_type c b)))
      tests.0 in
      let both = joined c a b asked (own_type c a) (own_type c b) fa fb tests.1 na nb suits in
      let w = numeric (own_type c a) (own_type c b) asked each.0 each.1 suits in
      subst (λ ty. HasType c ty (binary at op a b)) (sym w.1)
      (arithmetic is (subst (λ ty. HasType c ty a) w.1 both.0) (subst (λ ty. HasType c ty b) w.1 both.1))

  -- of a comparison
  of_compared : (asked : Ty) (at : Place) (op : BinaryOperator) (a b : ExprTree) →
      ((ty : Ty) → either_type (own_type c a) (own_type c b) ≡ Some ty → Compares ty op) →
      Fits c a (own_type c a) → Fits c b (own_type c b) →
      are_comparable (finding [] (own_type c a)) (finding [] (own_type c b)) ≡ true →
      expr_numbers c (joint c asked a b) a ≡ [] → expr_numbers c (joint c asked a b) b ≡ [] →
      HasType c types.Bool (binary at op a b)
  of_compared asked at op a b compares fa fb fits na nb =
      let t = compared (own_type c a) (own_type c b) fits in
      let both = joined c a b asked (own_type c a) (own_type c b) fa fb t.2 na nb
      (suits_any (either_type (own_type c a) (own_type c b)) t.0 asked t.1) in
      a_comparison (compares t.0 t.1) t.1
      (subst (λ own. HasType c (valued_in asked own) a) t.1 both.0)
      (subst (λ own. HasType c (valued_in asked own) b) t.1 both.1)

  -- of a comparison of numbers
  of_ordered : (asked : Ty) (at : Place) (op : BinaryOperator) (a b : ExprTree) →
      ((w : ℕ) → Compares (types.Uint w) op) →
      Fits c a (own_type c a) → Fits c b (own_type c b) →
      are_ordered (finding [] (own_type c a)) (finding [] (own_type c b)) ≡ true →
      expr_numbers c (joint c asked a b) a ≡ [] → expr_numbers c (joint c asked a b) b ≡ [] →
      HasType c types.Bool (binary at op a b)
  of_ordered asked at op a b compares fa fb fits na nb =
      let tests = both_true (may_be_uint (finding [] (own_type c a)) && may_be_uint (finding [] (own_type c b)))
      (are_comparable (finding [] (own_type c a)) (finding [] (own_type c b))) fits in
      let each = both_true (may_be_uint (finding [] (own_type c a))) (may_be_uint (finding [] (own_type c b)))
      tests.0 in
      of_compared asked at op a b
      (λ ty own.
      let w = numeric (own_type c a) (own_type c b) ty each.0 each.1
      (suits_any (either_type (own_type c a) (own_type c b)) ty ty own) in
      subst (λ t. Compares t op) (sym (subst (λ o. valued_in ty o ≡ types.Uint w.0) own w.1)) (compares w.0))
      fa fb tests.1 na nb

  -- what may stand for a truth is one
  of_truth : (e : ExprTree) → Fits c e (own_type c e) → may_be_bool (finding [] (own_type c e)) ≡ true →
      expr_numbers c types.Bool e ≡ [] → HasType c types.Bool e
  of_truth e fe fits none =
      let own = is_bool (own_type c e) fits in
      subst (λ o. HasType c (valued_in types.Bool o) e) own
      (fe types.Bool none (suits_any (own_type c e) types.Bool types.Bool own))

  -- of an operator between truths
  of_truths : (at : Place) (op : BinaryOperator) (a b : ExprTree) → IsLogical op →
      Fits c a (own_type c a) → Fits c b (own_type c b) →
      may_be_bool (finding [] (own_type c a)) && may_be_bool (finding [] (own_type c b)) ≡ true →
      expr_numbers c types.Bool a ≡ [] → expr_numbers c types.Bool b ≡ [] → HasType c types.Bool (binary at op a b)
  of_truths at op a b is fa fb fits na nb =
      let tests = both_true (may_be_bool (finding [] (own_type c a))) (may_be_bool (finding [] (own_type c b))) fits in
      logic is (of_truth a fa tests.0 na) (of_truth b fb tests.1 nb)

  -- what has a type of numbers of its own has that type
  of_number : (e : ExprTree) → Fits c e (own_type c e) → is_number_typed (finding [] (own_type c e)) ≡ true →
      expr_numbers c types.Bool e ≡ [] → (w : ℕ) × (own_type c e ≡ Some (types.Uint w)) × HasType c (types.Uint w) e
  of_number e fe fits none =
      let own = is_number (own_type c e) fits in (
        own.0,
        own.1,
        subst (λ o. HasType c (valued_in types.Bool o) e) own.1
            (fe types.Bool none (suits_any (own_type c e) (types.Uint own.0) types.Bool own.1)),
      )

  -- of one that may be a number
  of_uint : (asked : Ty) (e : ExprTree) → Fits c e (own_type c e) → may_be_uint (finding [] (own_type c e)) ≡ true →
      expr_numbers c asked e ≡ [] → Suits (own_type c e) asked →
      (w : ℕ) × (valued_in asked (own_type c e) ≡ types.Uint w) × HasType c (types.Uint w) e
  of_uint asked e fe fits none suits =
      let w = numeric_alone (own_type c e) asked fits suits in
      (w.0, w.1, subst (λ ty. HasType c ty e) w.1 (fe asked none suits))

  -- of an element
  of_element : (names : List Ident) (e : ExprTree) → IsArrayPath c names → Fits c e (own_type c e) →
      index_fits c.body e (finding [] (own_type c e)) ≡ true →
      index_numbers c names e (expr_numbers c types.Bool e) ≡ [] → (asked : Ty) →
      HasType c (valued_in asked (named_type c names)) (element names e)
  of_element names e array fe fits none asked =
      subst (λ own. HasType c (valued_in asked own) (element names e)) (sym array.is) (by (index_is e))
    where
      size_is : array_length c names ≡ Some array.size
      size_is = array_size c names array.length array.size array.written array.value

      by : Index e → HasType c array.ty (element names e)
      by (written_index n is) =
          let free = subst (λ (i : ExprTree). index_numbers c names i (expr_numbers c types.Bool i) ≡ []) is none in
          let below = fits_there (is_below (written_length c names) n) n.place free in
          let v = index_below array.length n array.size array.value
          (subst (λ o. is_below o n ≡ true) array.written below) in
          subst (λ (i : ExprTree). HasType c array.ty (element names i)) (sym is)
          (an_element_at array.sized array.is size_is v.1 v.2)
      by (computed_index process task out numbers) =
          let n = of_number e fe (typed_index c.body e (finding [] (own_type c e)) process task out fits)
          (sym (numbers c names (expr_numbers c types.Bool e)) ∙ none) in
          an_element array.sized array.is size_is
          (λ in_none. contrary (sym (out (finding [] (own_type c e)))
          ∙ subst (λ b. index_fits b e (finding [] (own_type c e)) ≡ true) in_none fits)) n.1 n.2

-- of an operator between two expressions that fit where they are at no fault
module _ (c : Context) (asked : Ty) (at : Place) (a b : ExprTree) (ha : expr_faults c a ≡ [] → Fits c a (own_type c a))
    (hb : expr_faults c b ≡ [] → Fits c b (own_type c b)) where
  both_well : (fits : Bool) → judged (expr_faults c a ++ expr_faults c b) fits at ≡ [] →
      (fits ≡ true) × (expr_faults c a ≡ []) × (expr_faults c b ≡ [])
  both_well fits none =
      let j = judged_well (expr_faults c a ++ expr_faults c b) fits at none in
      let each = both_empty (expr_faults c a) (expr_faults c b) j.1 in (j.0, each.0, each.1)

  -- what fits with the faults that there are within fits with none
  without : (P : Finding → Finding → Bool) → expr_faults c a ≡ [] → expr_faults c b ≡ [] →
      P (finding (expr_faults c a) (own_type c a)) (finding (expr_faults c b) (own_type c b)) ≡ true →
      P (finding [] (own_type c a)) (finding [] (own_type c b)) ≡ true
  without P ea eb fits =
      subst (λ y. P (finding [] (own_type c a)) (finding y (own_type c b)) ≡ true) eb
      (subst (λ x. P (finding x (own_type c a)) (finding (expr_faults c b) (own_type c b)) ≡ true) ea fits)

  fits_with : (P : Finding → Finding → Bool) →
      judged (expr_faults c a ++ expr_faults c b)
      (P (finding (expr_faults c a) (own_type c a)) (finding (expr_faults c b) (own_type c b))) at ≡ [] →
      (P (finding [] (own_type c a)) (finding [] (own_type c b)) ≡ true)
      × (expr_faults c a ≡ []) × (expr_faults c b ≡ [])
  fits_with P none =
      let w = both_well (P (finding (expr_faults c a) (own_type c a)) (finding (expr_faults c b) (own_type c b)))
      none in
      (without P w.1 w.2 w.0, w.1, w.2)

  numbers_of : (ty : Ty) → expr_numbers c ty a ++ expr_numbers c ty b ≡ [] →
      (expr_numbers c ty a ≡ []) × (expr_numbers c ty b ≡ [])
  numbers_of ty none = both_empty (expr_numbers c ty a) (expr_numbers c ty b) none

  arithmetic_of : (o : BinaryOperator) → IsArithmetic o →
      judged (expr_faults c a ++ expr_faults c b)
      (are_addable (finding (expr_faults c a) (own_type c a)) (finding (expr_faults c b) (own_type c b))) at ≡ [] →
      expr_numbers c (joint c asked a b) a ++ expr_numbers c (joint c asked a b) b ≡ [] →
      Suits (either_type (own_type c a) (own_type c b)) asked →
      HasType c (valued_in asked (either_type (own_type c a) (own_type c b))) (binary at o a b)
  arithmetic_of o is w n s =
      let fits = fits_with are_addable w in
      let free = numbers_of (joint c asked a b) n in
      of_numbers c asked at o a b is (ha fits.1) (hb fits.2) fits.0 free.0 free.1 s

  compared_of : (o : BinaryOperator) → ((ty : Ty) → Compares ty o) →
      judged (expr_faults c a ++ expr_faults c b)
      (are_comparable (finding (expr_faults c a) (own_type c a)) (finding (expr_faults c b) (own_type c b))) at
      ≡ [] →
      expr_numbers c (joint c asked a b) a ++ expr_numbers c (joint c asked a b) b ≡ [] →
      HasType c types.Bool (binary at o a b)
  compared_of o is w n =
      let fits = fits_with are_comparable w in
      let free = numbers_of (joint c asked a b) n in
      of_compared c asked at o a b (λ ty _. is ty) (ha fits.1) (hb fits.2) fits.0
      free.0 free.1

  ordered_of : (o : BinaryOperator) → ((w : ℕ) → Compares (types.Uint w) o) →
      judged (expr_faults c a ++ expr_faults c b)
      (are_ordered (finding (expr_faults c a) (own_type c a)) (finding (expr_faults c b) (own_type c b))) at ≡ [] →
      expr_numbers c (joint c asked a b) a ++ expr_numbers c (joint c asked a b) b ≡ [] →
      HasType c types.Bool (binary at o a b)
  ordered_of o is w n =
      let fits = fits_with are_ordered w in
      let free = numbers_of (joint c asked a b) n in
      of_ordered c asked at o a b is (ha fits.1) (hb fits.2) fits.0 free.0 free.1

  logic_of : (o : BinaryOperator) → IsLogical o →
      judged (expr_faults c a ++ expr_faults c b)
      (may_be_bool (finding (expr_faults c a) (own_type c a))
      && may_be_bool (finding (expr_faults c b) (own_type c b))) at ≡ [] →
      expr_numbers c types.Bool a ++ expr_numbers c types.Bool b ≡ [] → HasType c types.Bool (binary at o a b)
  logic_of o is w n =
      let fits = fits_with (λ x y. may_be_bool x && may_be_bool y) w in
      let free = numbers_of types.Bool n in
      of_truths c at o a b is (ha fits.1) (hb fits.2) fits.0 free.0 free.1

  of_binary : (o : BinaryOperator) → expr_faults c (binary at o a b) ≡ [] →
      expr_numbers c asked (binary at o a b) ≡ [] →
      Suits (own_type c (binary at o a b)) asked →
      HasType c (valued_in asked (own_type c (binary at o a b))) (binary at o a b)
  of_binary operator.Add w n s = arithmetic_of operator.Add adds w n s
  of_binary operator.Subtract w n s = arithmetic_of operator.Subtract subtracts w n s
  of_binary operator.And w n s = arithmetic_of operator.And ands w n s
  of_binary operator.Or w n s = arithmetic_of operator.Or ors w n s
  of_binary operator.Xor w n s = arithmetic_of operator.Xor xors w n s
  of_binary operator.Equal w n s = compared_of operator.Equal (λ _. equals) w n
  of_binary operator.NotEqual w n s = compared_of operator.NotEqual (λ _. differs) w n
  of_binary operator.Less w n s = ordered_of operator.Less (λ _. is_less) w n
  of_binary operator.LessEqual w n s = ordered_of operator.LessEqual (λ _. is_at_most) w n
  of_binary operator.Greater w n s = ordered_of operator.Greater (λ _. is_greater) w n
  of_binary operator.GreaterEqual w n s = ordered_of operator.GreaterEqual (λ _. is_at_least) w n
  of_binary operator.AndAlso w n s = logic_of operator.AndAlso and_also w n
  of_binary operator.OrElse w n s = logic_of operator.OrElse or_else w n

-- an expression whose paths resolve, and of which neither F6 nor F7 holds, fits where its place suits it
pub typed : (c : Context) (e : ExprTree) → AreResolved c e → expr_faults c e ≡ [] → Fits c e (own_type c e)
typed c (truth at b) paths well asked numbers suits = a_truth
typed c (number n) paths well asked numbers suits =
    let fits = fits_there (number_fits asked n) n.place numbers in
    let v = number_below suits.0 n suits.1 (subst (λ ty. number_fits ty n ≡ true) suits.2 fits) in
    subst (λ ty. HasType c ty (number n)) (sym suits.2) (a_number suits.1 v.1 v.2)
typed c (path names) paths well asked numbers suits =
    let is = paths.0.value well in
    subst (λ own. HasType c (valued_in asked own) (path names)) (sym is.is) (a_path is.sized well is.is)
typed c (group at e) paths well asked numbers suits = a_group (typed c e paths well asked numbers suits)
typed c (unary at Not e) paths well asked numbers suits =
    let j = judged_well (expr_faults c e) (may_be_bool (finding (expr_faults c e) (own_type c e))) at well in
    let fits = subst (λ x. may_be_bool (finding x (own_type c e)) ≡ true) j.1 j.0 in
    a_negation (of_truth c e (typed c e paths j.1) fits numbers)
typed c (unary at Complement e) paths well asked numbers suits =
    let j = judged_well (expr_faults c e) (may_be_uint (finding (expr_faults c e) (own_type c e))) at well in
    let fits = subst (λ x. may_be_uint (finding x (own_type c e)) ≡ true) j.1 j.0 in
    let n = of_uint c asked e (typed c e paths j.1) fits numbers suits in
    subst (λ ty. HasType c ty (unary at Complement e)) (sym n.1) (a_complement n.2)
typed c (binary at op a b) paths well asked numbers suits =
    let split = all_of_both (Resolves c) (expr_paths a) (expr_paths b) paths in
    of_binary c asked at a b (typed c a split.0) (typed c b split.1) op well numbers suits
typed c (shift at op e by) paths well asked numbers suits =
    let j = judged_well (expr_faults c e) (may_be_uint (finding (expr_faults c e) (own_type c e))) at well in
    let fits = subst (λ x. may_be_uint (finding x (own_type c e)) ≡ true) j.1 j.0 in
    let parts = both_empty (expr_numbers c asked e)
    (place_unless (shift_fits (valued_in asked (own_type c e)) by) by.place) numbers in
    let n = of_uint c asked e (typed c e paths j.1) fits parts.0 suits in
    let below = fits_there (shift_fits (valued_in asked (own_type c e)) by) by.place parts.1 in
    let v = shift_below n.0 by (subst (λ ty. shift_fits ty by ≡ true) n.1 below) in
    subst (λ ty. HasType c ty (shift at op e by)) (sym n.1) (a_shift n.2 v.1 v.2)
typed c (conditional at e a b) paths well asked numbers suits =
    let first = all_of_both (Resolves c) (expr_paths e ++ expr_paths a) (expr_paths b) paths in
    let more = all_of_both (Resolves c) (expr_paths e) (expr_paths a) first.0 in
    let j = judged_well (expr_faults c e ++ expr_faults c a ++ expr_faults c b)
    (branches_fit (finding (expr_faults c e) (own_type c e)) (finding (expr_faults c a) (own_type c a))
    (finding (expr_faults c b) (own_type c b))) at well in
    let free = both_empty (expr_faults c e ++ expr_faults c a) (expr_faults c b) j.1 in
    let also = both_empty (expr_faults c e) (expr_faults c a) free.0 in
    let fits : branches_fit (finding [] (own_type c e)) (finding [] (own_type c a)) (finding [] (own_type c b)) ≡ true
    = subst (λ z. branches_fit (finding [] (own_type c e)) (finding [] (own_type c a)) (finding z (own_type c b))
    ≡ true) free.1
    (subst (λ y. branches_fit (finding [] (own_type c e)) (finding y (own_type c a))
    (finding (expr_faults c b) (own_type c b)) ≡ true) also.1
    (subst (λ x. branches_fit (finding x (own_type c e)) (finding (expr_faults c a) (own_type c a))
    (finding (expr_faults c b) (own_type c b)) ≡ true) also.0 j.0)) in
    let tests = both_true (may_be_bool (finding [] (own_type c e)))
    (are_alike (finding [] (own_type c a)) (finding [] (own_type c b))) fits in
    let counted = both_empty (expr_numbers c types.Bool e ++ expr_numbers c (joint c asked a b) a)
    (expr_numbers c (joint c asked a b) b) numbers in
    let within = both_empty (expr_numbers c types.Bool e) (expr_numbers c (joint c asked a b) a) counted.0 in
    let both = joined c a b asked (own_type c a) (own_type c b) (typed c a more.1 also.1) (typed c b first.1 free.1)
    tests.1 within.1 counted.1 suits in
    a_conditional (of_truth c e (typed c e more.0 also.0) tests.0 within.0) both.0 both.1
typed c (cast at to e) paths well asked numbers suits =
    let j = judged_well (expr_faults c e) (is_number_typed (finding (expr_faults c e) (own_type c e))) (expr_place e)
    well in
    let fits = subst (λ x. is_number_typed (finding x (own_type c e)) ≡ true) j.1 j.0 in
    let parts = both_empty (width_faults to) (expr_numbers c types.Bool e) numbers in
    let w = width_of to parts.0 in
    let n = of_number c e (typed c e paths j.1) fits parts.1 in
    subst (λ (k : ℕ). HasType c (types.Uint k) (cast at to e)) (sym (ap (λ o. unwrap_or o (2 ^ 64)) w.1))
    (a_cast w.2 w.1 n.1 n.2)
typed c (element names e) paths well asked numbers suits =
    let parts = both_empty (wrong_sort is_indexed (meaning c names))
    (index_faults c.body e (expr_faults c e) (own_type c e)) well in
    let j = judged_well (expr_faults c e) (index_fits c.body e (finding (expr_faults c e) (own_type c e)))
    (expr_place e) parts.1 in
    let fits = subst (λ x. index_fits c.body e (finding x (own_type c e)) ≡ true) j.1 j.0 in
    of_element c names e (paths.0.array parts.0) (typed c e paths.1 j.1) fits numbers asked
