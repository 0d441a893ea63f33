-- Inputs as terms.
use Rattle.std.proofs.Common.{◌≡◌, ◌⊎◌, inl, inr, ℕ, ◌+◌, ◌<◌, Some, List, [], ◌∷◌, ◌++◌, length, slice_get, slice_index, refl, sym, ap, ◌∙◌, subst, arith}
use Rattle.tm_term.specs.declared.term.Term.TheVariants.{Input}
use Rattle.tm_term.specs.declared.term.TermId.{TermId}
use Rattle.tm_term.specs.Table.{Table, IsSound, term_of}
use Rattle.tm_term.specs.Value.{value_of, Extends}
use Rattle.tm_term.proofs.Growth.{has_term, known_term}
use Rattle.tm_term.proofs.Valued.{Extends-trans, value_of-term}
use Rattle.tm_flat.specs.Steps.{IsInput, IsTerm}
use Rattle.tm_flat_moves.specs.Begun.{AreInputTerms}
use Rattle.tm_flat_moves.proofs.Lists.{get_pushed}

pub input_along : (t n : Table) (i : ℕ) (id : TermId) → Extends t n → IsInput t i id → IsInput n i id
input_along t n i id grown is = grown.terms id (known_term t id (Input i) is) ∙ is

-- an input has its width
pub input_term : (t : Table) (i : ℕ) (id : TermId) → IsSound t → IsInput t i id →
    IsTerm t (slice_index t.inputs i) id
input_term t i id sound is =
    let has = has_term t id (Input i) sound is in (known_term t id (Input i) is, has.entry.sized)

-- and the value that it is given
pub input_value : (t u : Table) (i : ℕ) (id : TermId) → IsSound t → IsInput t i id → Extends t u → (v : List ℕ) →
    value_of u v id ≡ slice_index v i
input_value t u i id sound is more v =
    more.values v id (known_term t id (Input i) is) ∙ value_of-term t v sound id (Input i) is

-- ---- inputs that are made one behind the other
pub inputs_more : (t m n : Table) (first i : ℕ) (ids more : List TermId) (id : TermId) →
    AreInputTerms t m first i ids → Extends m n → IsSound n → term_of n id ≡ Some (Input (first + i)) →
    more ≡ ids ++ id ∷ [] → AreInputTerms t n first (i + 1) more
inputs_more t m n first i ids more id so_far grown sound is pushed =
    subst (AreInputTerms t n first (i + 1)) (sym pushed) (record {
      grown = Extends-trans t m n so_far.grown grown;
      sound = sound;
      as_many = long ids so_far.as_many;
      each = λ k x at. by k x (get_pushed ids id k x at);
    })
  where
    long : (l : List TermId) → length l ≡ i → length (l ++ id ∷ []) ≡ i + 1
    long l count = pushed_long l ∙ ap (λ k. k + 1) count
      where
        pushed_long : (l : List TermId) → length (l ++ id ∷ []) ≡ length l + 1
        pushed_long [] = refl
        pushed_long (x ∷ l) = let rest = pushed_long l in omega (arith, rest)

    by : (k : ℕ) (x : TermId) → (slice_get ids k ≡ Some x) ⊎ ((k ≡ length ids) × (id ≡ x)) → IsInput n (first + k) x
    by k x (inl here) = input_along m n (first + k) x grown (so_far.each k x here)
    by k x (inr last) =
        subst (λ j. IsInput n (first + j) x) (sym (last.0 ∙ so_far.as_many)) (subst (IsInput n (first + i)) last.1 is)
