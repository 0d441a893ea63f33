-- The first of some valid states, by the order of their bits, is one.
use Rattle.std.proofs.Common.{◌≡◌, Bool, true, false, List, [], ◌∷◌, length, sym, ap, ◌∙◌, refl, arith}
use Rattle.std.proofs.Common.{true≢false}
use Rattle.tm_flat.specs.Inputs.{AreSmall}
use Rattle.tm_game_pool.proofs.OneState.{bits_counted, same_bits}
use Rattle.tm_sem.specs.State.{StateData}
use Rattle.tm_sem.specs.StateBits.{comes_before, state_bits}
use Rattle.tm_sem.specs.Step.{IsState}
use Rattle.tm_syntax.specs.Design.{DesignTree}
use Rattle.tm_verdict.specs.Reported.{IsFirstOf}

-- of two lists of as many bits one comes before the other, or they are one
neither_before : (xs ys : List Bool) → length xs ≡ length ys → comes_before xs ys ≡ false →
    comes_before ys xs ≡ false → xs ≡ ys
neither_before [] [] long one other = refl
neither_before [] (y ∷ ys) long one other = absurd (omega arith)
neither_before (x ∷ xs) [] long one other = absurd (omega arith)
neither_before (true ∷ xs) (true ∷ ys) long one other =
    ap (λ bits. true ∷ bits) (neither_before xs ys (omega arith) one other)
neither_before (false ∷ xs) (false ∷ ys) long one other =
    ap (λ bits. false ∷ bits) (neither_before xs ys (omega arith) one other)
neither_before (true ∷ xs) (false ∷ ys) long one other = absurd (true≢false other)
neither_before (false ∷ xs) (true ∷ ys) long one other = absurd (true≢false one)

module _ (d : DesignTree) (small : AreSmall d) where
  -- the first of a set is one
  pub one_first : (set : StateData → Type 0) → ((s : StateData) → set s → IsState d s) → (s t : StateData) →
      IsFirstOf d set s → IsFirstOf d set t → s ≡ t
  one_first set valid s t one other =
      same_bits d small s t (valid s one.here) (valid t other.here)
      (neither_before (state_bits d s) (state_bits d t)
      (bits_counted d small s (valid s one.here) ∙ sym (bits_counted d small t (valid t other.here)))
      (other.none_before s one.here) (one.none_before t other.here))
