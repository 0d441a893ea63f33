-- The first predicate of a pool that tells two states apart, by its term.
use Rattle.std.proofs.Common.{◌≡◌, ℕ, suc, Bool, true, false, List, [], ◌∷◌, Some, length, slice_get, refl, sym, ap, ◌∙◌, subst}
use Rattle.std.specs.List.{AllZip}
use Rattle.std.proofs.lemmas.List.Elements.{All-nil, All-cons}
use Rattle.tm_base.specs.Arithmetic.{bit}
use Rattle.tm_flat.specs.Inputs.{input_values}
use Rattle.tm_flat.proofs.Ranges.{are_inputs}
use Rattle.tm_flat_pool.specs.Cells.{SameCell}
use Rattle.tm_flat_pool.specs.PoolTerms.{IsPredicateTerm}
use Rattle.tm_flat_pool.specs.Predicates.{Predicate, pool, predicate_holds}
use Rattle.tm_game.specs.Game.{GameData}
use Rattle.tm_refine.specs.Pooled.{CanDecide, no_bits}
use Rattle.tm_refine.specs.Reasons.{TellsFirst}
use Rattle.tm_refine.specs.Telling.{AgreeBelow, AreKnown, DiffersAt}
use Rattle.tm_refine.proofs.PoolParts.{listed_valid, valid_listed}
use Rattle.tm_refine.specs.PoolTests.{left_of, no_bits_set, right_of, zip_get}
use Rattle.tm_sem.specs.State.{StateData}
use Rattle.tm_sem.specs.Step.{IsState}
use Rattle.tm_solve.proofs.Items.{get_below}
use Rattle.tm_syntax.specs.Design.{DesignTree}
use Rattle.tm_term.specs.declared.term.TermId.{TermId}
use Rattle.tm_term.specs.Table.{Table}
use Rattle.tm_term.specs.Value.{AreInputs, value_of}

bit_same : (a b : Bool) → bit a ≡ bit b → a ≡ b
bit_same true true e = refl
bit_same true false e = absurd (cc)
bit_same false true e = absurd (cc)
bit_same false false e = refl

-- the values of the inputs at a state
abbrev inputs_at : StateData → List ℕ
inputs_at s = input_values s no_bits no_bits

module _ (d : DesignTree) (g : GameData) (can : CanDecide d g) where
  abbrev R : Predicate → TermId → Type 0
  R p id = IsPredicateTerm g.terms d p id

  pub pool_known : AreKnown g.terms g.flat.pool
  pool_known i id got =
      (left_of R (slice_get (pool d) i) (slice_get g.flat.pool i) id
      (zip_get R (pool d) g.flat.pool i can.pool.predicates) got).2.term.0

  pub inputs_fit : (s : StateData) → IsState d s → AreInputs g.terms (inputs_at s)
  inputs_fit s valid =
      are_inputs d can.solve.exact.ordered.of.small g.terms s no_bits no_bits can.solve.exact.ordered.of.flat.inputs
      valid no_bits_set no_bits_set

  module _ (s t : StateData) (valid_s : IsState d s) (valid_t : IsState d t) where
    same_value : (p : Predicate) (id : TermId) → R p id → predicate_holds d s p ≡ predicate_holds d t p →
        value_of g.terms (inputs_at s) id ≡ value_of g.terms (inputs_at t) id
    same_value p id is e =
        is.holds s no_bits no_bits valid_s no_bits_set no_bits_set
        ∙ ap bit e
        ∙ sym (is.holds t no_bits no_bits valid_t no_bits_set no_bits_set)

    same_truth : (p : Predicate) (id : TermId) → R p id →
        value_of g.terms (inputs_at s) id ≡ value_of g.terms (inputs_at t) id →
        predicate_holds d s p ≡ predicate_holds d t p
    same_truth p id is e =
        bit_same (predicate_holds d s p) (predicate_holds d t p)
        (sym (is.holds s no_bits no_bits valid_s no_bits_set no_bits_set)
        ∙ e
        ∙ is.holds t no_bits no_bits valid_t no_bits_set no_bits_set)

    pub tells_first : (k : ℕ) → DiffersAt g.terms (inputs_at s) (inputs_at t) g.flat.pool k →
        TellsFirst d (pool d) s t k
    tells_first k differs =
        let here = left_of R (slice_get (pool d) k) (slice_get g.flat.pool k) differs.id
        (zip_get R (pool d) g.flat.pool k can.pool.predicates) differs.at in
        record {
          predicate = here.0;
          at = here.1;
          apart = λ e. differs.apart (same_value here.0 differs.id here.2 e);
          before = λ i p less got.
              let there = right_of R (slice_get (pool d) i) (slice_get g.flat.pool i) p
              (zip_get R (pool d) g.flat.pool i can.pool.predicates) got in
              same_truth p there.0 there.2 (differs.before i there.0 less there.1);
        }

    agree_all : (ps : List Predicate) (ids : List TermId) → AllZip R ps ids →
        ((i : ℕ) (id : TermId) → slice_get ids i ≡ Some id →
        value_of g.terms (inputs_at s) id ≡ value_of g.terms (inputs_at t) id) → SameCell d ps s t
    agree_all [] [] all same = All-nil (λ p. predicate_holds d s p ≡ predicate_holds d t p)
    agree_all [] (id ∷ ids) all same = absurd all
    agree_all (p ∷ ps) [] all same = absurd all
    agree_all (p ∷ ps) (id ∷ ids) all same =
        All-cons (λ q. predicate_holds d s q ≡ predicate_holds d t q) p ps
        (same_truth p id all.0 (same 0 id refl))
        (agree_all ps ids all.1 (λ i x got. same (suc i) x got))

    pub one_cell_where : AgreeBelow g.terms (inputs_at s) (inputs_at t) g.flat.pool (length g.flat.pool) →
        SameCell d (pool d) s t
    one_cell_where agree =
        agree_all (pool d) g.flat.pool can.pool.predicates
        (λ i id got. agree i id (get_below g.flat.pool i id got) got)

-- a valid state is one of each design that can be decided
pub valid_in : (g : GameData) (d e : DesignTree) → CanDecide d g → CanDecide e g → (s : StateData) → IsState d s →
    IsState e s
valid_in g d e can there s valid =
    listed_valid e g there.solve.exact s (valid_listed d g can.solve.exact s valid)

-- the predicate of the first term that has two values, in each design
pub tells_each : (g : GameData) (d : DesignTree) → CanDecide d g → (s t : StateData) → IsState d s → IsState d t →
    (k : ℕ) → DiffersAt g.terms (inputs_at s) (inputs_at t) g.flat.pool k → (e : DesignTree) → CanDecide e g →
    TellsFirst e (pool e) s t k
tells_each g d can s t valid_s valid_t k differs e there =
    tells_first e g there s t (valid_in g d e can there s valid_s) (valid_in g d e can there t valid_t) k differs

-- ---- what was read is what the game has
module _ (t u : Table) (a b : List ℕ) (s : StateData) (r : StateData) (ids js : List TermId) (same : t ≡ u)
    (left : a ≡ inputs_at s) (right : b ≡ inputs_at r) (pool_is : ids ≡ js) where
  pub agree_told : AgreeBelow t a b ids (length ids) → AgreeBelow u (inputs_at s) (inputs_at r) js (length js)
  agree_told agree =
      subst (λ (x : Table × List ℕ × List ℕ × List TermId). AgreeBelow x.0 x.1 x.2 x.3 (length x.3))
      (λ i. (same i, left i, right i, pool_is i)) agree

  pub differs_told : (k : ℕ) → DiffersAt t a b ids k → DiffersAt u (inputs_at s) (inputs_at r) js k
  differs_told k differs =
      subst (λ (x : Table × List ℕ × List ℕ × List TermId). DiffersAt x.0 x.1 x.2 x.3 k)
      (λ i. (same i, left i, right i, pool_is i)) differs

pub known_told : (t u : Table) (ids js : List TermId) → t ≡ u → ids ≡ js → AreKnown u js → AreKnown t ids
known_told t u ids js same pool_is known =
    subst (λ (x : Table × List TermId). AreKnown x.0 x.1) (sym (λ i. (same i, pool_is i))) known

pub inputs_told : (t u : Table) (a b : List ℕ) → t ≡ u → a ≡ b → AreInputs u b → AreInputs t a
inputs_told t u a b same is fit =
    subst (λ (x : Table × List ℕ). AreInputs x.0 x.1) (sym (λ i. (same i, is i))) fit
