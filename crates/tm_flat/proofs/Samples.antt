-- What the sample and the design that writes to an array do where their choices are read as bits.
use Rattle.std.proofs.Common.{◌≡◌, ℕ, zero, suc, ◌≤◌, ◌^◌, None, Some, [], ◌∷◌, refl, arith, codes}
use Rattle.std.proofs.lemmas.Fmt.{decimal_digit}
use Rattle.tm_syntax.specs.Scopes.Context.{process_body}
use Rattle.tm_syntax.specs.Design.Scope.{Scope}
use Rattle.tm_syntax.specs.Design.Locations.{rest}
use Rattle.tm_syntax.specs.Design.{IsDesign, subtree, none_left}
use Rattle.tm_sem.specs.declared.state.Move.TheVariants.{Process}
use Rattle.tm_sem.specs.declared.state.Outcome.TheVariants.{Next, Error, NoOutcome}
use Rattle.tm_sem.specs.ArrayWrite.{array_design, array_start, last_written}
use Rattle.tm_flat.specs.BitStep.{outcome_at, HasRoom}
use Rattle.tm_flat.specs.Fitting.{TargetFits, ItemsFit}
use Rattle.tm_flat.specs.Inputs.{room, bits_in}
use Rattle.tm_flat.specs.Sample.{name_at, sample, sample_start, sample_paused}

pub is_design : IsDesign sample
is_design = record {
  instances = record { path = refl; template = refl; ports = refl; all = subtree refl refl none_left };
  vars = refl;
  processes = refl;
  tasks = refl;
  goals = refl;
  fairs = refl;
}

-- ---- its choices fit into the bits that there are
abbrev here : Scope
here = record { instance = 0; body = process_body 0 }

color_fits : TargetFits sample here (name_at (codes "c") 7 23 ∷ [])
color_fits None = omega arith
color_fits (Some k) = omega arith

number_fits : TargetFits sample here (name_at (codes "n") 7 86 ∷ [])
number_fits None = omega arith
number_fits (Some k) = omega arith

truth_fits : TargetFits sample here (name_at (codes "b") 7 59 ∷ [])
truth_fits None = omega arith
truth_fits (Some k) = omega arith

loop_fits : ItemsFit room sample (rest sample 0 0) 0
unfolding room
loop_fits =
    let three : 3 ≤ 2 ^ 2 = omega arith in
    let calls : (4 ≤ room) × (4 ≤ room) × (4 ≤ room) = (omega arith, omega arith, omega arith) in
    let second : (4 ≤ room) × TargetFits sample here (name_at (codes "b") 7 59 ∷ []) × (5 ≤ room) =
    (omega arith, truth_fits, omega arith) in
    let third : (4 ≤ room) × Unit {0} × (4 ≤ room) = (omega arith, tt, omega arith) in (
      omega arith,
      (
        refl,
        (
          omega arith,
          color_fits,
          (
            omega arith,
            (three, omega arith, (calls, (second, (third, tt)))),
            (omega arith, number_fits, (omega arith, tt, tt)),
          ),
        ),
      ),
      tt,
    )

items_fit : (p k : ℕ) → ItemsFit room sample (rest sample p k) 0
unfolding room
items_fit zero zero = loop_fits
items_fit zero (suc zero) = loop_fits
items_fit zero (suc (suc k)) = omega arith
items_fit (suc p) zero = omega arith
items_fit (suc p) (suc k) = omega arith

pub has_room : HasRoom sample
has_room = record {
  processes = items_fit;
  tasks = λ n callee known. absurd (cc);
  arguments = λ n callee known. absurd (cc);
}

-- ---- its steps
-- blue, the first alternative, and 1
pub first_alternative : outcome_at sample sample_start (Process 0) (bits_in (1 ∷ 0 ∷ 0 ∷ 0 ∷ 1 ∷ 0 ∷ 1 ∷ [])) ≡
    Next (sample_paused 2 1 0)
first_alternative = refl

-- green, the second alternative, true, and 2
pub second_alternative : outcome_at sample sample_start (Process 0) (bits_in (0 ∷ 1 ∷ 0 ∷ 1 ∷ 1 ∷ 1 ∷ 0 ∷ [])) ≡
    Next (sample_paused 1 2 1)
second_alternative = refl

-- an assumption that fails
pub third_alternative : outcome_at sample sample_start (Process 0) (bits_in (0 ∷ 1 ∷ 1 ∷ 0 ∷ [])) ≡ NoOutcome
third_alternative = refl

-- an alternative that is not there
pub fourth_alternative : outcome_at sample sample_start (Process 0) (bits_in (0 ∷ 1 ∷ 1 ∷ 1 ∷ [])) ≡ NoOutcome
fourth_alternative = refl

-- a color that is not there
pub fourth_color : outcome_at sample sample_start (Process 0) (bits_in (1 ∷ 1 ∷ [])) ≡ NoOutcome
fourth_color = refl

pub last_element : outcome_at array_design array_start (Process 0) (bits_in (1 ∷ 0 ∷ [])) ≡ Next last_written
last_element = rw (decimal_digit 2 (omega arith)) refl

pub past_the_end : outcome_at array_design array_start (Process 0) (bits_in (1 ∷ 1 ∷ [])) ≡ Error
past_the_end = refl
