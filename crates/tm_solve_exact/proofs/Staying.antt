-- Sets of states and the states from which the driver stays in them, over a game over bits that is a design's.
use Rattle.std.proofs.Common.{◌≡◌, ℕ, zero, suc, Bool, true, false, ◌&&◌, not, ◌∷◌, refl, sym, ap, ◌∙◌, subst, arith}
use Rattle.std.specs.Prelude.{◌↔◌}
use Rattle.tm_game_bits.specs.Coding.{Coding, IsCoding, IsIn}
use Rattle.tm_game_bits.specs.GameOf.{IsGameOf}
use Rattle.tm_game_bits.proofs.Predecessors.{forced_is, stays_is}
use Rattle.tm_dd.specs.Table.{assignment}
use Rattle.tm_game_bits.specs.Forcing as bits
use Rattle.tm_game_bits.specs.Functions.{Assignment, Function, GameFunctions, outside}
use Rattle.tm_game_bits.specs.States.{AreOneState, ReadsState}
use Rattle.tm_sem.specs.Forcing.{Forced, Stays}
use Rattle.tm_sem.specs.State.{StateData}
use Rattle.tm_sem.specs.Step.{IsState}
use Rattle.tm_solve.specs.Sets.{IsAmong, StateSet}
use Rattle.tm_syntax.specs.Design.{DesignTree}
use Rattle.tm_solve_exact.specs.Exact.{bit_set, first_values, states_of, stays_out}
use Rattle.tm_solve_exact.specs.Deciding.{forced_there, stays_here, stays_there}
use Rattle.tm_solve_exact.specs.Listed.{and_both, and_parts, listed, listed_only, not_not}

pub iff_same : (a b : Bool) → (a ≡ true → b ≡ true) → (b ≡ true → a ≡ true) → a ≡ b
iff_same true true f g = refl
iff_same false false f g = refl
iff_same true false f g = sym (f refl)
iff_same false true f g = g refl

first_same : (count : ℕ) (v w : Assignment) → AreOneState count v w → first_values count v ≡ first_values count w
first_same zero v w same = refl
first_same (suc n) v w same =
    let first : v 0 ≡ w 0 = same 0 (omega arith) in
    let rest : first_values n (λ level. v (suc level)) ≡ first_values n (λ level. w (suc level)) =
    first_same n (λ level. v (suc level)) (λ level. w (suc level)) (λ k below. same (suc k) (omega (arith, below))) in
    λ i. first i ∷ rest i

first_are : (count : ℕ) (v : Assignment) → AreOneState count (assignment (first_values count v)) v
first_are zero v k below = absurd (omega arith)
first_are (suc n) v zero below = refl
first_are (suc n) v (suc k) below = first_are n (λ level. v (suc level)) k (omega (arith, below))

-- a set that is no other outside of it is itself
pub twice_outside : (f : Function) → outside (outside f) ≡ f
twice_outside f = λ i w. not_not (f w) i

module _ (d : DesignTree) (c : Coding) (coding : IsCoding d c) (valid : Function)
    (valid_is : (v : Assignment) → (valid v ≡ true) ↔ IsState d (c.state_of v)) where
  pub valid_reads : ReadsState c.count valid
  valid_reads v w same =
      let state = coding.same v w same in
      iff_same (valid v) (valid w)
      (λ h. (valid_is w).1 (subst (IsState d) state ((valid_is v).0 h)))
      (λ h. (valid_is v).1 (subst (IsState d) (sym state) ((valid_is w).0 h)))

  -- ---- the valid states
  pub among_valid : (s : StateData) → IsAmong s (states_of c valid) → IsState d s
  among_valid s among =
      let found = listed_only c valid s among in
      subst (IsState d) (sym found.2) ((valid_is found.0).0 found.1)

  pub told_among : (v : Assignment) → valid v ≡ true → IsAmong (c.state_of v) (states_of c valid)
  told_among v there =
      let near = first_are c.count v in
      subst (λ (s : StateData). IsAmong s (states_of c valid))
      (coding.same (assignment (first_values c.count v)) v near)
      (listed c valid v (valid_reads (assignment (first_values c.count v)) v near ∙ there))

  pub valid_among : (s : StateData) → IsState d s → IsAmong s (states_of c valid)
  valid_among s state =
      let back = coding.back s state in
      subst (λ (t : StateData). IsAmong t (states_of c valid)) back
      (told_among (c.assignment_of s) ((valid_is (c.assignment_of s)).1 (subst (IsState d) (sym back) state)))

  -- ---- sets
  pub bit_set_is : (a : StateSet) (v : Assignment) → bit_set c valid a v ≡ (valid v && a (c.state_of v))
  bit_set_is a v =
      let near = first_are c.count v in
      let one = valid_reads (assignment (first_values c.count v)) v near in
      let two = coding.same (assignment (first_values c.count v)) v near in
      λ i. one i && a (two i)

  pub bit_set_reads : (a : StateSet) → ReadsState c.count (bit_set c valid a)
  bit_set_reads a v w same =
      bit_set_is a v
      ∙ (λ i. valid_reads v w same i && a (coding.same v w same i))
      ∙ sym (bit_set_is a w)

  -- the states of a set of values of levels, as such a set
  pub bit_set_back : (f : Function) → ReadsState c.count f → ((v : Assignment) → f v ≡ true → valid v ≡ true) →
      bit_set c valid (λ s. f (c.assignment_of s)) ≡ f
  bit_set_back f reads within = λ i v. here v i
    where
      here : (v : Assignment) → bit_set c valid (λ s. f (c.assignment_of s)) v ≡ f v
      here v =
          let again = reads (c.assignment_of (c.state_of v)) v
          (coding.one (c.assignment_of (c.state_of v)) v (coding.again v)) in
          bit_set_is (λ s. f (c.assignment_of s)) v
          ∙ iff_same (valid v && f (c.assignment_of (c.state_of v))) (f v)
          (λ h. sym again ∙ (and_parts (valid v) (f (c.assignment_of (c.state_of v))) h).1)
          (λ h. and_both (valid v) (f (c.assignment_of (c.state_of v))) (within v h) (again ∙ h))

  -- ---- staying
  module _ (g : GameFunctions) (game : IsGameOf d c g) (set : Function) (reads : ReadsState c.count set) where
    pub stays_told : (v : Assignment) → stays_out g (outside set) v ≡ true → Stays d (IsIn c set) (c.state_of v)
    stays_told v h =
        (stays_is d c g coding game set reads v).0
        (subst (λ (f : Function). bits.Stays g f v) (twice_outside set) (stays_there g (outside set) v h))

    pub stays_back : (v : Assignment) → Stays d (IsIn c set) (c.state_of v) → stays_out g (outside set) v ≡ true
    stays_back v h =
        stays_here g (outside set) v
        (subst (λ (f : Function). bits.Stays g f v) (sym (twice_outside set))
        ((stays_is d c g coding game set reads v).1 h))

    outside_reads : ReadsState c.count (outside set)
    outside_reads v w same = ap not (reads v w same)

    pub forced_told : (v : Assignment) → IsState d (c.state_of v) → stays_out g (outside set) v ≡ false →
        Forced d (IsIn c (outside set)) (c.state_of v)
    forced_told v state h =
        ((forced_is d c g coding game (outside set) outside_reads v).0
        (forced_there g (outside set) v ((game.valid v).1 state) h)).1

    -- a game over bits of the same design tells the same
    pub stays_same : (other : GameFunctions) → IsGameOf d c other → (v : Assignment) →
        stays_out other (outside set) v ≡ stays_out g (outside set) v
    stays_same other other_game v =
        iff_same (stays_out other (outside set) v) (stays_out g (outside set) v)
        (λ h.
        stays_back v
        ((stays_is d c other coding other_game set reads v).0
        (subst (λ (f : Function). bits.Stays other f v) (twice_outside set) (stays_there other (outside set) v h))))
        (λ h.
        stays_here other (outside set) v
        (subst (λ (f : Function). bits.Stays other f v) (sym (twice_outside set))
        ((stays_is d c other coding other_game set reads v).1 (stays_told v h))))
