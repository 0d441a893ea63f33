-- The truth of the location at which a process stands.
use Rattle.std.proofs.Common.{◌≡◌, ◌⊎◌, inl, inr, ℕ, zero, suc, ◌+◌, ◌^◌, ◌<◌, ◌≤◌, Bool, true, false, Bor, Option, None, Some, List, [], ◌∷◌, ◌++◌, length, map, slice_get, slice_index, refl, sym, ap, ◌∙◌, subst, arith}
use Rattle.std.specs.Prelude.{◌||◌, unwrap_or, if◌then◌else◌}
use Rattle.std.specs.List.{AllZip, list_any, range_with_len}
use Rattle.std.specs.Option.{option_map, option_map_or}
use Rattle.std.specs.Slice.{IsItemAt}
use Rattle.std.proofs.lemmas.List.{map-id}
use Rattle.std.proofs.lemmas.List.Folds.{list_any-append}
use Rattle.std.proofs.lemmas.List.FromFn.{map-range_with_len_more}
use Rattle.std.proofs.lemmas.Option.{slice_get-map, slice_get_past}
use Rattle.std.proofs.lemmas.Slice.Zip.{AllZip-long}
use Rattle.tm_base.specs.Arithmetic.{is_nonzero}
use Rattle.tm_syntax.specs.Design.{DesignTree}
use Rattle.tm_syntax.specs.Design.Locations.{Location, end_number, is_magic_at, locations}
use Rattle.tm_syntax.specs.Design.Sizes.{bits_of_number}
use Rattle.tm_locations.proofs.TableCallees.{item-read}
use Rattle.tm_term.specs.declared.term.TermId.{TermId}
use Rattle.tm_term.specs.Table.{Table, IsSound, width_of}
use Rattle.tm_term.specs.Value.{value_of, Extends}
use Rattle.tm_term.proofs.Valued.{Extends-trans}
use Rattle.tm_flat.specs.declared.flat.FlatStep.{FlatStep}
use Rattle.tm_flat.specs.Flat.{StepTerms, step_terms}
use Rattle.tm_flat.specs.Inputs.{AreSmall}
use Rattle.tm_flat.specs.IsFlat.{location_numbers}
use Rattle.tm_flat.specs.Steps.{IsProcessStep, IsTerm}
use Rattle.tm_flat.proofs.Widths.{number_has_bits}
use Rattle.tm_flat_exprs.specs.Made.{IsTruth, Makes, MakesTruth, truth_at}
use Rattle.tm_flat_exprs.proofs.Later.{Extends-refl, or_never, term_along}
use Rattle.tm_flat_states.specs.Actors.{legal_truth, magic_truth}
use Rattle.tm_flat_states.specs.Truths.{AreTruths, numbered_truth}
use Rattle.tm_flat_states.proofs.Lists.{get_range, range_long}
use Rattle.tm_flat_states.proofs.Numbered.{number_of}

-- ---- truths that are listed by number
within_or_past : (x n : ℕ) → (x < n) ⊎ (n ≤ x)
within_or_past x zero = inr (omega arith)
within_or_past zero (suc n) = inl (omega arith)
within_or_past (suc x) (suc n) = by (within_or_past x n)
  where
    by : (x < n) ⊎ (n ≤ x) → (suc x < suc n) ⊎ (suc n ≤ suc x)
    by (inl below) = inl (omega arith)
    by (inr past) = inr (omega arith)

module _ (f : ℕ → Option TermId) (n : ℕ) (past_none : (x : ℕ) → n ≤ x → f x ≡ None) where
  -- what is past the end is none in any case
  numbered_is : (x : ℕ) → numbered_truth (map f (range_with_len 0 n)) x ≡ f x
  numbered_is x = by (within_or_past x n)
    where
      by : (x < n) ⊎ (n ≤ x) → numbered_truth (map f (range_with_len 0 n)) x ≡ f x
      by (inl below) =
          let at : 0 + x ≡ x = omega arith in
          ap (λ o. unwrap_or o None) (slice_get-map f (range_with_len 0 n) x ∙ ap (option_map f)
          (get_range 0 n x below))
          ∙ ap f at
      by (inr past) =
          let long = range_long 0 n in
          ap (λ o. unwrap_or o None) (slice_get-map f (range_with_len 0 n) x
          ∙ ap (option_map f) (slice_get_past (range_with_len 0 n) x (omega (arith, long, past))))
          ∙ sym (past_none x past)

listed_each : (P : Option TermId → Type 0) (f : ℕ → Option TermId) → ((k : ℕ) → P (f k)) → (ks : List ℕ) (n : ℕ)
    (id : Option TermId) → slice_get (map f ks) n ≡ Some id → P id
listed_each P f each [] n id is = absurd (cc)
listed_each P f each (k ∷ ks) zero id is = let same : f k ≡ id = cc in subst P same (each k)
listed_each P f each (k ∷ ks) (suc n) id is = listed_each P f each ks n id is

-- the truth that a place has, where it is chosen by the number of a term
module _ (t l n : Table) (place : TermId) (w i : ℕ) (f : ℕ → Option TermId) (many : ℕ)
    (truths taken : List (Option TermId))
    (id : Option TermId) (past_none : (x : ℕ) → many ≤ x → f x ≡ None) (made : Makes t l w place
    (λ u v. slice_index v i))
    (m : Table) (grown : Extends l m) (are : truths ≡ map f (range_with_len 0 many)) (same : taken ≡ truths)
    (found : MakesTruth m n id (λ u v. truth_at u v (numbered_truth taken (value_of u v place)))) where
  pub picked : MakesTruth t n id (λ u v. truth_at u v (f (slice_index v i)))
  picked =
      let later : Extends l n = Extends-trans l m n grown found.grown in
      record {
        grown = Extends-trans t l n made.grown later;
        sound = found.sound;
        term = found.term;
        truth = λ u more v inputs.
            found.truth u more v inputs
            ∙ ap (λ ts. truth_at u v (numbered_truth ts (value_of u v place))) (same ∙ are)
            ∙ ap (truth_at u v) (numbered_is f many past_none (value_of u v place))
            ∙ ap (λ x. truth_at u v (f x)) (made.value u (Extends-trans l n u later more) v inputs);
      }

-- as many truths as a process has locations are numbers of the width
pub few_truths : (d : DesignTree) (p : ℕ) → AreSmall d → (t l m : Table) (place : TermId) (g : Table → List ℕ → ℕ) →
    Makes t l (bits_of_number (end_number d p)) place g → Extends l m →
    (truths taken : List (Option TermId)) (many : ℕ) →
    length truths ≡ many → many ≡ end_number d p + 1 → taken ≡ truths → length taken ≤ 2 ^ width_of m place
few_truths d p small t l m place g made grown truths taken many long count same =
    let below : end_number d p < 2 ^ bits_of_number (end_number d p) =
    number_has_bits (end_number d p) (small.locations p) in
    let w : width_of m place ≡ bits_of_number (end_number d p) =
    grown.widths place made.term.0 ∙ made.term.1 in
    let one = ap length same in
    subst (λ k. length taken ≤ 2 ^ k) (sym w) (omega (arith, below, one, long, count))

-- ---- magic blocks
pub magic_past : (d : DesignTree) (p x : ℕ) → end_number d p + 1 ≤ x → is_magic_at d p x ≡ false
magic_past d p zero past = refl
magic_past d p (suc k) past =
    ap (λ o. option_map_or (λ (l : Location). l.is_magic) o false)
    (slice_get_past (locations d p) k (omega (arith, past)))

module _ (d : DesignTree) (p : ℕ) (always : TermId) where
  pub magic_none_past : (x : ℕ) → end_number d p + 1 ≤ x → magic_truth d p always x ≡ None
  magic_none_past x past = ap (λ b. if b then Some always else None) (magic_past d p x past)

  pub are_magic_truths : (m : Table) (truths taken : List (Option TermId)) → IsTerm m 1 always →
      truths ≡ map (magic_truth d p always) (location_numbers d p) → taken ≡ truths → AreTruths m taken
  are_magic_truths m truths taken one are same = subst (AreTruths m) (sym (same ∙ are)) (record {
    each = λ n id is. listed_each (IsTruth m) (magic_truth d p always) each (location_numbers d p) n id is;
  })
    where
      each : (k : ℕ) → IsTruth m (magic_truth d p always k)
      each k = by (is_magic_at d p k)
        where
          by : (b : Bool) → IsTruth m (if b then Some always else None)
          by true = one
          by false = tt

  -- a truth that holds at magic blocks alone
  pub magic_found : (t l m n : Table) (id : Option TermId) (i : ℕ) → Makes l m 1 always (λ u v. 1) → Extends m n →
      MakesTruth t n id (λ u v. truth_at u v (magic_truth d p always (slice_index v i))) →
      MakesTruth t n id (λ u v. is_magic_at d p (slice_index v i))
  magic_found t l m n id i one grown found = record {
    grown = found.grown;
    sound = found.sound;
    term = found.term;
    truth = λ u more v are.
        found.truth u more v are
        ∙ by u v (one.value u (Extends-trans m n u grown more) v are) (is_magic_at d p (slice_index v i));
  }
    where
      by : (u : Table) (v : List ℕ) → value_of u v always ≡ 1 → (b : Bool) →
          truth_at u v (if b then Some always else None) ≡ b
      by u v is true = ap is_nonzero is
      by u v is false = refl

-- ---- steps
module _ (t : Table) (d : DesignTree) (p : ℕ) (steps : List StepTerms)
    (are : AllZip (IsProcessStep t d p) (location_numbers d p) steps) where
  pub steps_many : length steps ≡ end_number d p + 1
  steps_many =
      AllZip-long (IsProcessStep t d p) (location_numbers d p) steps are ∙ range_long 0 (end_number d p + 1)

  pub legal_none_past : (x : ℕ) → length steps ≤ x → legal_truth d p steps x ≡ None
  legal_none_past x past =
      ap (λ (o : Option StepTerms). if is_magic_at d p x then None else option_map (λ (s : StepTerms). s.legal) o)
      (slice_get_past steps x past)
      ∙ by (is_magic_at d p x) None refl
    where
      by : (b : Bool) (o : Option TermId) → o ≡ None → (if b then None else o) ≡ None
      by true o is = refl
      by false o is = is

  pub are_legal_truths : (m : Table) (truths taken : List (Option TermId)) (n : ℕ) → Extends t m →
      truths ≡ map (legal_truth d p steps) (range_with_len 0 n) → taken ≡ truths → AreTruths m taken
  are_legal_truths m truths taken n grown listed same = subst (AreTruths m) (sym (same ∙ listed)) (record {
    each = λ k id is. listed_each (IsTruth m) (legal_truth d p steps) each (range_with_len 0 n) k id is;
  })
    where
      of : (k : ℕ) (o : Option StepTerms) → slice_get steps k ≡ o →
          IsTruth m (option_map (λ (s : StepTerms). s.legal) o)
      of k None is = tt
      of k (Some step) is =
          term_along t m 1 step.legal grown
          (number_of (IsProcessStep t d p) 0 (end_number d p + 1) steps are k step is).terms.legal

      each : (k : ℕ) → IsTruth m (legal_truth d p steps k)
      each k = by (is_magic_at d p k)
        where
          by : (b : Bool) → IsTruth m (if b then None else option_map (λ (s : StepTerms). s.legal) (slice_get steps k))
          by true = tt
          by false = of k (slice_get steps k) refl

-- ---- one process more
pub any_first : (t : Table) (P : Table → List ℕ → ℕ → Bool) → IsSound t →
    MakesTruth t t None (λ u v. list_any (P u v) (range_with_len 0 0))
any_first t P sound = record { grown = Extends-refl t; sound = sound; term = tt; truth = λ u more v are. refl }

any_more : (f : ℕ → Bool) (n : ℕ) →
    (list_any f (range_with_len 0 n) || f n) ≡ list_any f (range_with_len 0 (n + 1))
any_more f n =
    let more : range_with_len 0 (n + 1) ≡ range_with_len 0 n ++ n ∷ [] =
    sym (map-id (range_with_len 0 (n + 1))) ∙ map-range_with_len_more (λ k. k) 0 n n (omega arith)
    ∙ ap (λ ks. ks ++ n ∷ []) (map-id (range_with_len 0 n)) in
    ap (λ b. list_any f (range_with_len 0 n) || b) (sym (or_never (f n)))
    ∙ sym (list_any-append f (range_with_len 0 n) (n ∷ []))
    ∙ ap (list_any f) (sym more)

pub any_found : (t m n : Table) (P : List ℕ → ℕ → Bool) (i : ℕ) (before id : Option TermId) →
    MakesTruth t m before (λ u v. list_any (P v) (range_with_len 0 i)) →
    MakesTruth m n id (λ u v. truth_at u v before || P v i) →
    MakesTruth t n id (λ u v. list_any (P v) (range_with_len 0 (i + 1)))
any_found t m n P i before id so_far made = record {
  grown = Extends-trans t m n so_far.grown made.grown;
  sound = made.sound;
  term = made.term;
  truth = λ u more v are.
      made.truth u more v are
      ∙ ap (λ b. b || P v i) (so_far.truth u (Extends-trans m n u made.grown more) v are)
      ∙ any_more (P v) i;
}

-- ---- the truth of a location, as it is read
pub legal_magic : (d : DesignTree) (p : ℕ) (steps : List StepTerms) (k : ℕ) → is_magic_at d p k ≡ true →
    None ≡ legal_truth d p steps k
legal_magic d p steps k is =
    sym (ap (λ b. if b then None else option_map (λ (s : StepTerms). s.legal) (slice_get steps k)) is)

module _ (d : DesignTree) (p : ℕ) (steps : List FlatStep) (k : ℕ) (plain : is_magic_at d p k ≡ false) where
  of_steps : (o : Option FlatStep) → slice_get steps k ≡ o →
      option_map (λ (s : FlatStep). s.legal) o ≡ legal_truth d p (map step_terms steps) k
  of_steps o is =
      by o
      ∙ sym (ap (λ b. if b then None else option_map (λ (s : StepTerms). s.legal) (slice_get (map step_terms steps) k))
      plain
      ∙ ap (option_map (λ (s : StepTerms). s.legal)) (slice_get-map step_terms steps k ∙ ap (option_map step_terms) is))
    where
      by : (o : Option FlatStep) → option_map (λ (s : FlatStep). s.legal) o
          ≡ option_map (λ (s : StepTerms). s.legal) (option_map step_terms o)
      by None = refl
      by (Some s) = refl

  pub legal_some : (step : Bor FlatStep) → IsItemAt steps k (Some step) →
      Some step.now.legal ≡ legal_truth d p (map step_terms steps) k
  legal_some step is = of_steps (Some step.now) (item-read steps steps k (Some step) refl is)

  pub legal_none : IsItemAt steps k None → None ≡ legal_truth d p (map step_terms steps) k
  legal_none is = of_steps None (item-read steps steps k None refl is)
