-- What the bits of a term mean, from what those of its parts mean.
use Rattle.std.proofs.Common.{◌≡◌, ℕ, ◌+◌, ◌-◌, ◌*◌, ◌/◌, ◌%◌, ◌^◌, ◌<◌, Bool, true, false, List, [], ◌∷◌, ◌++◌, length, map, drop, refl, sym, ap, ◌∙◌, subst, arith}
use Rattle.std.specs.Prelude.{All, reverse, not, if◌then◌else◌, bit_and, bit_or, bit_xor}
use Rattle.std.proofs.lemmas.List.{length-map, length-reverse, reverse-reverse, get_or-reverse, drop-map, reverse-append, map-append}
use Rattle.std.proofs.lemmas.List.Elements.{All-map, All-weaker}
use Rattle.tm_base.specs.Arithmetic.{resize, complement, sum, difference, shift_left, shift_right, bit, equal, less, choice}
use Rattle.tm_base.specs.Bits.{number_of, number_from_lowest}
use Rattle.tm_base.proofs.BitLists.{number_of-reverse, number_from_lowest-below}
use Rattle.tm_base.proofs.Bounds.{shift_right-below}
use Rattle.tm_base.proofs.Cuts.{resize-same}
use Rattle.tm_dd.specs.NodeId.{complement as turned}
use Rattle.tm_dd.specs.declared.node.NodeId.{NodeId}
use Rattle.tm_dd.specs.declared.node.TheConstants.{FALSE, TRUE}
use Rattle.tm_dd.specs.Table.{Table, Knows, means}
use Rattle.tm_dd.proofs.CallerLaws.{means-FALSE, means-TRUE, means-complement, Knows-complement}
use Rattle.tm_term.specs.declared.term.Term.{Term}
use Rattle.tm_term.specs.declared.term.TermId.{TermId}
use Rattle.tm_term.specs.Table.{Table as Terms, width_of, term_width}
use Rattle.tm_term.specs.Value.{value_of, term_value}
use Rattle.tm_blast.specs.declared.cell.Cell.TheVariants as cells
use Rattle.tm_blast.specs.declared.compare.Comparison.TheVariants as comparisons
use Rattle.tm_blast.specs.Bits.{values_in, input_values, AreBits}
use Rattle.tm_blast.specs.Cell.{rippled, compared, placed, bits_of, MeanBits}
use Rattle.tm_blast.specs.Numbers.{number_in, MeanNumber}
use Rattle.tm_blast.proofs.Numbers.{length-rippled, number-And, number-Or, number-Xor, number-Choice, number-Sum, number-not, test-Less, test-Equal, number-placed, number-bits_of, length-bits_of, number-drop}
use Rattle.tm_blast.proofs.Places.{length-placed}

-- ---- lists of ids
map-reverse : {X Y : Type 0} (f : X → Y) (xs : List X) → map f (reverse xs) ≡ reverse (map f xs)
map-reverse f [] = refl
map-reverse f (x ∷ xs) =
    ap (map f) (reverse-append (x ∷ []) xs)
    ∙ map-append f (reverse xs) (x ∷ [])
    ∙ ap (λ ys. ys ++ f x ∷ []) (map-reverse f xs)
    ∙ sym (reverse-append (f x ∷ []) (map f xs))

All-reverse : (s : Table) (ids : List NodeId) → All (Knows s) ids → All (Knows s) (reverse ids)
All-reverse s ids known k d h =
    let within : k < length ids = omega (arith, length-reverse ids) in
    rw (get_or-reverse ids k d within) (known (length ids - 1 - k) d (omega arith))

length-values_in : (s : Table) (ids : List NodeId) (v : ℕ → Bool) → length (values_in s ids v) ≡ length ids
length-values_in s ids v = let f : NodeId → Bool = λ id. means s id v in length-map ids f

-- as many ids as the bits that they mean, whose number is that of a width
pub number_from_bits : (u : Table) (ids : List NodeId) (bits : (ℕ → Bool) → List Bool) (width : ℕ)
    (value : (ℕ → Bool) → ℕ) → MeanBits u ids bits → ((v : ℕ → Bool) → length (bits v) ≡ width)
    → ((v : ℕ → Bool) → number_from_lowest (bits v) ≡ value v) → MeanNumber u ids width value
number_from_bits u ids bits width value are long is =
    let v : ℕ → Bool = λ level. false in
    record {
      known = are.known;
      count = sym (length-values_in u ids v) ∙ ap length (are.meaning v) ∙ long v;
      number = λ v. ap number_from_lowest (are.meaning v) ∙ is v;
    }

single : (b : Bool) → number_from_lowest (b ∷ []) ≡ bit b
single b = omega arith

-- ---- operators between two numbers of one width
module _ (s : Table) (a b : List NodeId) (width : ℕ) (f g : (ℕ → Bool) → ℕ) (is_a : MeanNumber s a width f)
    (is_b : MeanNumber s b width g) (u : Table) (ids : List NodeId) where
  same : (v : ℕ → Bool) → length (values_in s a v) ≡ length (values_in s b v)
  same v = length-values_in s a v ∙ is_a.count ∙ sym is_b.count ∙ sym (length-values_in s b v)

  wide : (v : ℕ → Bool) → length (values_in s a v) ≡ width
  wide v = length-values_in s a v ∙ is_a.count

  pub number-and : (first : NodeId) →
      MeanBits u ids (λ v. rippled cells.And (means s first v) (values_in s a v) (values_in s b v)) →
      MeanNumber u ids width (λ v. bit_and (f v) (g v))
  number-and first are =
      number_from_bits u ids _ width _ are (λ v. length-rippled cells.And _ _ _ (same v) ∙ wide v)
      (λ v. number-And _ _ _ (same v) ∙ (λ k. bit_and (is_a.number v k) (is_b.number v k)))

  pub number-or : (first : NodeId) →
      MeanBits u ids (λ v. rippled cells.Or (means s first v) (values_in s a v) (values_in s b v)) →
      MeanNumber u ids width (λ v. bit_or (f v) (g v))
  number-or first are =
      number_from_bits u ids _ width _ are (λ v. length-rippled cells.Or _ _ _ (same v) ∙ wide v)
      (λ v. number-Or _ _ _ (same v) ∙ (λ k. bit_or (is_a.number v k) (is_b.number v k)))

  pub number-xor : (first : NodeId) →
      MeanBits u ids (λ v. rippled cells.Xor (means s first v) (values_in s a v) (values_in s b v)) →
      MeanNumber u ids width (λ v. bit_xor (f v) (g v))
  number-xor first are =
      number_from_bits u ids _ width _ are (λ v. length-rippled cells.Xor _ _ _ (same v) ∙ wide v)
      (λ v. number-Xor _ _ _ (same v) ∙ (λ k. bit_xor (is_a.number v k) (is_b.number v k)))

  pub number-sum : MeanBits u ids (λ v. rippled cells.Sum (means s FALSE v) (values_in s a v) (values_in s b v)) →
      MeanNumber u ids width (λ v. sum width (f v) (g v))
  number-sum are =
      number_from_bits u ids _ width _ are (λ v. length-rippled cells.Sum _ _ _ (same v) ∙ wide v)
      (λ v. let none : f v + g v + 0 ≡ f v + g v = omega arith in
      number-Sum _ _ _ (same v)
      ∙ (λ k. (is_a.number v k + is_b.number v k + bit (means-FALSE s v k)) % 2 ^ wide v k)
      ∙ ap (λ n. n % 2 ^ width) none)

  pub number-choice : (test : NodeId) (c : (ℕ → Bool) → ℕ) → ((v : ℕ → Bool) → bit (means s test v) ≡ c v) →
      MeanBits u ids (λ v. rippled cells.Choice (means s test v) (values_in s a v) (values_in s b v)) →
      MeanNumber u ids width (λ v. choice (c v) (f v) (g v))
  number-choice test c is_c are =
      number_from_bits u ids _ width _ are (λ v. length-rippled cells.Choice _ _ _ (same v) ∙ wide v)
      (λ v. number-Choice _ _ _ (same v) ∙ chosen (means s test v) _ _
      ∙ (λ k. choice (is_c v k) (is_a.number v k) (is_b.number v k))) where
        chosen : (t : Bool) (x y : ℕ) → (if t then x else y) ≡ choice (bit t) x y
        chosen true x y = refl
        chosen false x y = refl

  pub number-equal :
      MeanBits u ids (λ v. compared comparisons.Equal (means s TRUE v) (values_in s a v) (values_in s b v) ∷ []) →
      MeanNumber u ids 1 (λ v. equal (f v) (g v))
  number-equal are =
      number_from_bits u ids _ 1 _ are (λ v. refl)
      (λ v. single _
      ∙ (λ k. bit (compared comparisons.Equal (means-TRUE s v k) (values_in s a v) (values_in s b v)))
      ∙ ap bit (test-Equal _ _ (same v)) ∙ (λ k. equal (is_a.number v k) (is_b.number v k)))

  pub number-less :
      MeanBits u ids (λ v. compared comparisons.Less (means s FALSE v) (values_in s a v) (values_in s b v) ∷ []) →
      MeanNumber u ids 1 (λ v. less (f v) (g v))
  number-less are =
      number_from_bits u ids _ 1 _ are (λ v. refl)
      (λ v. single _
      ∙ (λ k. bit (compared comparisons.Less (means-FALSE s v k) (values_in s a v) (values_in s b v)))
      ∙ ap bit (test-Less _ _ (same v)) ∙ (λ k. less (is_a.number v k) (is_b.number v k)))

  -- the sum with a complement, and one more
  pub number-difference : (h : (ℕ → Bool) → ℕ) → ((v : ℕ → Bool) → g v ≡ complement width (h v))
      → ((v : ℕ → Bool) → h v < 2 ^ width)
      → MeanBits u ids (λ v. rippled cells.Sum (means s TRUE v) (values_in s a v) (values_in s b v))
      → MeanNumber u ids width (λ v. difference width (f v) (h v))
  number-difference h turned below are =
      number_from_bits u ids _ width _ are (λ v. length-rippled cells.Sum _ _ _ (same v) ∙ wide v)
      (λ v. let whole : f v + complement width (h v) + 1 ≡ f v + (2 ^ width - h v) = omega (arith, below v) in
      number-Sum _ _ _ (same v)
      ∙ (λ k. (is_a.number v k + is_b.number v k + bit (means-TRUE s v k)) % 2 ^ wide v k)
      ∙ ap (λ n. (f v + n + 1) % 2 ^ width) (turned v)
      ∙ ap (λ n. n % 2 ^ width) whole)

-- ---- each bit turned over
values_in-complement : (s : Table) (a : List NodeId) (v : ℕ → Bool) →
    values_in s (map turned a) v ≡ map not (values_in s a v)
values_in-complement s [] v = refl
values_in-complement s (x ∷ xs) v = λ k. means-complement s x v k ∷ values_in-complement s xs v k

pub All-turned : (s : Table) (a : List NodeId) → All (Knows s) a → All (Knows s) (map turned a)
All-turned s a known = All-map (Knows s) turned a (All-weaker (Knows s) _ (Knows-complement s) a known)

pub number-complement : (s : Table) (a ids : List NodeId) (width : ℕ) (f : (ℕ → Bool) → ℕ) → ids ≡ map turned a
    → MeanNumber s a width f → MeanNumber s ids width (λ v. complement width (f v))
number-complement s a ids width f is are =
    subst (λ zs. MeanNumber s zs width (λ v. complement width (f v))) (sym is) record {
      known = All-turned s a are.known;
      count = length-map a turned ∙ are.count;
      number = λ v.
          ap number_from_lowest (values_in-complement s a v)
          ∙ number-not (values_in s a v)
          ∙ (λ k. complement (long v k) (are.number v k));
    } where
      long : (v : ℕ → Bool) → length (values_in s a v) ≡ width
      long v = length-values_in s a v ∙ are.count

-- a list of known ids means its own number, which is below 2 to its length
pub number_itself : (s : Table) (a : List NodeId) → All (Knows s) a → MeanNumber s a (length a) (number_in s a)
number_itself s a known = record { known = known; count = refl; number = λ v. refl }

pub number_in-below : (s : Table) (a : List NodeId) (v : ℕ → Bool) → number_in s a v < 2 ^ length a
number_in-below s a v =
    subst (λ n. number_in s a v < 2 ^ n) (length-values_in s a v) (number_from_lowest-below (values_in s a v))

-- ---- shifts and other widths
pub number-shift_left : (s : Table) (a ids : List NodeId) (width low to : ℕ) (f : (ℕ → Bool) → ℕ)
    → MeanNumber s a width f → MeanBits s ids (λ v. placed low to (values_in s a v))
    → MeanNumber s ids to (λ v. shift_left to (f v) low)
number-shift_left s a ids width low to f is are =
    number_from_bits s ids _ to _ are (λ v. length-placed low to (values_in s a v))
    (λ v. number-placed low to (values_in s a v) ∙ ap (λ n. n * 2 ^ low % 2 ^ to) (is.number v))

pub number-resize : (s : Table) (a ids : List NodeId) (width to : ℕ) (f : (ℕ → Bool) → ℕ) → MeanNumber s a width f
    → MeanBits s ids (λ v. placed 0 to (values_in s a v)) → MeanNumber s ids to (λ v. resize to (f v))
number-resize s a ids width to f is are =
    let moved = number-shift_left s a ids width 0 to f is are in
    record {
      known = moved.known;
      count = moved.count;
      number = λ v. let once : f v * 1 ≡ f v = omega arith in moved.number v ∙ ap (λ n. n % 2 ^ to) once;
    }

pub number-shift_right : (s : Table) (a ids : List NodeId) (width by : ℕ) (f : (ℕ → Bool) → ℕ) → MeanNumber s a width f
    → MeanBits s ids (λ v. placed 0 width (values_in s (drop by a) v)) →
    MeanNumber s ids width (λ v. shift_right (f v) by)
number-shift_right s a ids width by f is are =
    number_from_bits s ids _ width _ are (λ v. length-placed 0 width (values_in s (drop by a) v))
    (λ v.
    let g : NodeId → Bool = λ id. means s id v in
    let high : number_in s (drop by a) v ≡ number_in s a v / 2 ^ by =
    ap number_from_lowest (sym (drop-map g by a)) ∙ number-drop by (values_in s a v) in
    let once : number_in s a v / 2 ^ by * 1 ≡ number_in s a v / 2 ^ by = omega arith in
    let below : number_in s a v / 2 ^ by < 2 ^ width =
    shift_right-below width (number_in s a v) by
    (subst (λ n. number_in s a v < 2 ^ n) is.count (number_in-below s a v)) in
    number-placed 0 width (values_in s (drop by a) v)
    ∙ ap (λ n. n * 1 % 2 ^ width) high
    ∙ ap (λ n. n % 2 ^ width) once
    ∙ resize-same width (number_in s a v / 2 ^ by) below
    ∙ ap (λ n. n / 2 ^ by) (is.number v))

-- ---- constants and inputs
pub number-constant : (s : Table) (ids : List NodeId) (width n : ℕ) → n < 2 ^ width
    → MeanBits s ids (λ v. bits_of width n) → MeanNumber s ids width (λ v. n)
number-constant s ids width n below are =
    number_from_bits s ids _ width _ are (λ v. length-bits_of width n)
    (λ v. number-bits_of width n ∙ resize-same width n below)

pub number-input : (u : Table) (ids : List NodeId) (levels : List ℕ) (width : ℕ) → length levels ≡ width
    → MeanBits u ids (λ v. map v (reverse levels)) → MeanNumber u ids width (λ v. number_of (map v levels))
number-input u ids levels width long are =
    number_from_bits u ids _ width _ are
    (λ v. length-map (reverse levels) v ∙ length-reverse levels ∙ long)
    (λ v.
    sym (number_of-reverse (map v (reverse levels)))
    ∙ ap number_of (sym (map-reverse v (reverse levels)))
    ∙ ap (λ ls. number_of (map v ls)) (reverse-reverse levels))

-- ---- the bits of a term
module _ (t : Terms) (levels : List (List ℕ)) (s : Table) (id : TermId) where
  -- what was made of a part, the least significant bit first
  pub part_number : (ids : List NodeId) → AreBits t levels s id (reverse ids)
      → MeanNumber s ids (width_of t id) (λ v. value_of t (input_values levels v) id)
  part_number ids are = record {
    known = subst (All (Knows s)) (reverse-reverse ids) (All-reverse s (reverse ids) are.known);
    count = sym (length-reverse ids) ∙ are.width;
    number = λ v.
        let g : NodeId → Bool = λ id. means s id v in
        sym (number_of-reverse (values_in s ids v)) ∙ ap number_of (sym (map-reverse g ids)) ∙ are.value v;
  }

  pub made_bits : (ids : List NodeId) → (term shape : Term) → term ≡ shape → width_of t id ≡ term_width t term
      → ((values : List ℕ) → value_of t values id ≡ term_value t values term)
      → MeanNumber s ids (term_width t shape) (λ v. term_value t (input_values levels v) shape)
      → AreBits t levels s id (reverse ids)
  made_bits ids term shape is is_width is_value are = record {
    known = All-reverse s ids are.known;
    width = length-reverse ids ∙ are.count ∙ sym (is_width ∙ ap (term_width t) is);
    value = λ v.
        let g : NodeId → Bool = λ id. means s id v in
        ap number_of (map-reverse g ids) ∙ number_of-reverse (values_in s ids v) ∙ are.number v
        ∙ sym (is_value (input_values levels v) ∙ ap (term_value t (input_values levels v)) is);
  }
