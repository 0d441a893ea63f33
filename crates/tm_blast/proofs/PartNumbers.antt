-- What terms of one and of two parts mean, from the numbers of their parts.
use Rattle.std.proofs.Common.{◌≡◌, ℕ, ◌<◌, Bool, List, [], ◌∷◌, length, map, drop, get_or, Vec, ◌^◌, refl, sym, ap, ◌∙◌, subst, arith}
use Rattle.std.specs.Prelude.{All, reverse, slice_index}
use Rattle.std.specs.declared.alloc.Global.{Global}
use Rattle.std.proofs.lemmas.List.{get_or-map, length-map}
use Rattle.tm_dd.specs.declared.node.NodeId.{NodeId}
use Rattle.tm_dd.specs.declared.node.TheConstants.{FALSE, TRUE}
use Rattle.tm_dd.specs.NodeId.{complement as turned}
use Rattle.tm_dd.specs.Table.{Table, Knows, means}
use Rattle.tm_term.specs.declared.term.Term.{Term}
use Rattle.tm_term.specs.declared.term.Term.TheVariants.{Const, Input, Not, And, Or, Xor, Add, Sub, Shl, Shr, Eq, Less, Resize}
use Rattle.tm_term.specs.declared.term.TermId.{TermId}
use Rattle.tm_term.specs.Table.{Table as Terms, Fits, term_width}
use Rattle.tm_term.specs.Value.{term_value}
use Rattle.tm_base.specs.Arithmetic.{difference}
use Rattle.tm_base.specs.Bits.{number_of}
use Rattle.tm_blast.specs.declared.cell.Cell.TheVariants as cells
use Rattle.tm_blast.specs.declared.compare.Comparison.TheVariants as comparisons
use Rattle.tm_blast.specs.Bits.{values_in, input_values, AreLevels}
use Rattle.tm_blast.specs.Cell.{rippled, compared, placed, bits_of, MeanBits}
use Rattle.tm_blast.specs.Numbers.{level_lists, number_in, MeanNumber}
use Rattle.tm_blast.specs.Shapes.{single_width, single_value, pair_width, pair_value}
use Rattle.tm_blast.proofs.TermNumbers.{number_itself, number_in-below, number-and, number-or, number-xor, number-sum, number-difference, number-equal, number-less, number-complement, number-shift_left, number-shift_right, number-resize, number-constant, number-input}

-- ids are the bits of a term of two parts
abbrev pub IsPairOf : Table → Table → List NodeId → List NodeId → Term → List NodeId → Type 0
IsPairOf s u a b term ids =
    MeanNumber u ids (pair_width term (length a))
    (λ v. pair_value term (length a) (number_in s a v) (number_in s b v))

module _ (s u : Table) (a b : List NodeId) (known_a : All (Knows s) a) (known_b : All (Knows s) b)
    (same : length a ≡ length b) (term : Term) (x y : TermId) (ids : List NodeId) where
  as_long : MeanNumber s b (length a) (number_in s b)
  as_long = subst (λ w. MeanNumber s b w (number_in s b)) (sym same) (number_itself s b known_b)

  here : (shape : Term) → term ≡ shape → IsPairOf s u a b shape ids → IsPairOf s u a b term ids
  here shape is = subst (λ t. IsPairOf s u a b t ids) (sym is)

  pub pair-And : term ≡ And x y
      → MeanBits u ids (λ v. rippled cells.And (means s FALSE v) (values_in s a v) (values_in s b v))
      → IsPairOf s u a b term ids
  pair-And is are = here (And x y) is (number-and s a b (length a) (number_in s a) (number_in s b)
      (number_itself s a known_a) as_long u ids FALSE are)

  pub pair-Or : term ≡ Or x y
      → MeanBits u ids (λ v. rippled cells.Or (means s FALSE v) (values_in s a v) (values_in s b v))
      → IsPairOf s u a b term ids
  pair-Or is are = here (Or x y) is (number-or s a b (length a) (number_in s a) (number_in s b)
      (number_itself s a known_a) as_long u ids FALSE are)

  pub pair-Xor : term ≡ Xor x y
      → MeanBits u ids (λ v. rippled cells.Xor (means s FALSE v) (values_in s a v) (values_in s b v))
      → IsPairOf s u a b term ids
  pair-Xor is are = here (Xor x y) is (number-xor s a b (length a) (number_in s a) (number_in s b)
      (number_itself s a known_a) as_long u ids FALSE are)

  pub pair-Add : term ≡ Add x y
      → MeanBits u ids (λ v. rippled cells.Sum (means s FALSE v) (values_in s a v) (values_in s b v))
      → IsPairOf s u a b term ids
  pair-Add is are = here (Add x y) is (number-sum s a b (length a) (number_in s a) (number_in s b)
      (number_itself s a known_a) as_long u ids are)

  pub pair-Sub : term ≡ Sub x y
      → MeanNumber u ids (length a) (λ v. difference (length a) (number_in s a v) (number_in s b v))
      → IsPairOf s u a b term ids
  pair-Sub is are = here (Sub x y) is are

  pub pair-Eq : term ≡ Eq x y
      → MeanBits u ids (λ v. compared comparisons.Equal (means s TRUE v) (values_in s a v) (values_in s b v) ∷ [])
      → IsPairOf s u a b term ids
  pair-Eq is are = here (Eq x y) is (number-equal s a b (length a) (number_in s a) (number_in s b)
      (number_itself s a known_a) as_long u ids are)

  pub pair-Less : term ≡ Less x y
      → MeanBits u ids (λ v. compared comparisons.Less (means s FALSE v) (values_in s a v) (values_in s b v) ∷ [])
      → IsPairOf s u a b term ids
  pair-Less is are = here (Less x y) is (number-less s a b (length a) (number_in s a) (number_in s b)
      (number_itself s a known_a) as_long u ids are)

-- a difference, where the second number's bits were turned over
pub difference_bits : (s u : Table) (a b others ids : List NodeId) → All (Knows s) a → All (Knows s) b
    → length a ≡ length b → others ≡ map turned b
    → MeanBits u ids (λ v. rippled cells.Sum (means s TRUE v) (values_in s a v) (values_in s others v))
    → MeanNumber u ids (length a) (λ v. difference (length a) (number_in s a v) (number_in s b v))
difference_bits s u a b others ids known_a known_b same is are =
    let long : MeanNumber s b (length a) (number_in s b) =
    subst (λ w. MeanNumber s b w (number_in s b)) (sym same) (number_itself s b known_b) in
    let opposite = number-complement s b others (length a) (number_in s b) is long in
    number-difference s a others (length a) (number_in s a) _ (number_itself s a known_a) opposite u ids
    (number_in s b) (λ v. refl)
    (λ v. subst (λ w. number_in s b v < 2 ^ w) (sym same) (number_in-below s b v)) are

-- ids are the bits of a term of one part
abbrev pub IsSingleOf : Table → List NodeId → ℕ → Term → List NodeId → Type 0
IsSingleOf s a width term ids =
    MeanNumber s ids (single_width term width) (λ v. single_value term width (number_in s a v))

module _ (s : Table) (a : List NodeId) (known_a : All (Knows s) a) (width : ℕ) (long : length a ≡ width) (term : Term)
    (x : TermId) (ids : List NodeId) where
  own : MeanNumber s a width (number_in s a)
  own = subst (λ w. MeanNumber s a w (number_in s a)) long (number_itself s a known_a)

  there : (shape : Term) → term ≡ shape → IsSingleOf s a width shape ids → IsSingleOf s a width term ids
  there shape is = subst (λ t. IsSingleOf s a width t ids) (sym is)

  pub single-Not : term ≡ Not x → ids ≡ map turned a → IsSingleOf s a width term ids
  single-Not is are = there (Not x) is (number-complement s a ids width (number_in s a) are own)

  pub single-Shl : (by : ℕ) → term ≡ Shl x by → MeanBits s ids (λ v. placed by width (values_in s a v))
      → IsSingleOf s a width term ids
  single-Shl by is are = there (Shl x by) is (number-shift_left s a ids width by width (number_in s a) own are)

  pub single-Shr : (by : ℕ) → term ≡ Shr x by → MeanBits s ids (λ v. placed 0 width (values_in s (drop by a) v))
      → IsSingleOf s a width term ids
  single-Shr by is are = there (Shr x by) is (number-shift_right s a ids width by (number_in s a) own are)

  pub single-Resize : (to : ℕ) → term ≡ Resize to x → MeanBits s ids (λ v. placed 0 to (values_in s a v))
      → IsSingleOf s a width term ids
  single-Resize to is are = there (Resize to x) is (number-resize s a ids width to (number_in s a) own are)

-- ---- terms without parts
-- the levels of an input
pub levels_at : (levels : List (Vec ℕ Global)) (i : ℕ) (list : Vec ℕ Global) (d : List ℕ) → i < length levels
    → list ≡ get_or levels i list → get_or (level_lists levels) i d ≡ list.items
levels_at levels i list d within is =
    let items : Vec ℕ Global → List ℕ = λ l. l.items in
    get_or-map items levels i list d within ∙ ap items (sym is)

-- ids are the bits of a term
abbrev pub IsTermOf : Terms → List (List ℕ) → Table → Term → List NodeId → Type 0
IsTermOf t levels u term ids =
    MeanNumber u ids (term_width t term) (λ v. term_value t (input_values levels v) term)

pub leaf-Const : (t : Terms) (levels : List (List ℕ)) (u : Table) (term : Term) (width n : ℕ) (ids : List NodeId)
    → Fits t term → term ≡ Const width n → MeanBits u ids (λ v. bits_of width n) → IsTermOf t levels u term ids
leaf-Const t levels u term width n ids fits is are =
    let shape_fits = subst (Fits t) is fits in
    subst (λ x. IsTermOf t levels u x ids) (sym is) (number-constant u ids width n shape_fits.1 are)

pub leaf-Input : (t : Terms) (levels : List (Vec ℕ Global)) (u : Table) (count : ℕ) (term : Term) (i : ℕ)
    (list : Vec ℕ Global) (ids : List NodeId) → Fits t term → term ≡ Input i → AreLevels t count (level_lists levels)
    → list ≡ get_or levels i list → MeanBits u ids (λ v. map v (reverse list.items))
    → IsTermOf t (level_lists levels) u term ids
leaf-Input t levels u count term i list ids fits is are_levels is_list are =
    let known = subst (Fits t) is fits in
    let items : Vec ℕ Global → List ℕ = λ l. l.items in
    let within : i < length levels = omega (arith, known, are_levels.inputs, length-map levels items) in
    let within_lists : i < length (level_lists levels) = omega (arith, length-map levels items) in
    let here : get_or (level_lists levels) i [] ≡ list.items = levels_at levels i list [] within is_list in
    let long : length list.items ≡ slice_index t.inputs i =
    ap length (sym here) ∙ are_levels.widths i [] within_lists in
    let own = number-input u ids list.items (slice_index t.inputs i) long are in
    let value : (v : ℕ → Bool) → number_of (map v list.items) ≡ slice_index (input_values (level_lists levels) v) i =
    λ v. let of_list : List ℕ → ℕ = λ l. number_of (map v l) in
    ap of_list (sym here) ∙ sym (get_or-map of_list (level_lists levels) i [] 0 within_lists) in
    subst (λ x. IsTermOf t (level_lists levels) u x ids) (sym is)
    record { known = own.known; count = own.count; number = λ v. own.number v ∙ value v }
