-- Which numbers the inputs may have where they tell such a state.
use Rattle.std.specs.Prelude.{◌≡◌, ◌↔◌, ⊤, ℕ, ◌+◌, ◌-◌, ◌^◌, ◌<◌, ◌≤◌, List, [], ◌∷◌, ◌++◌, length, map, replicate}
use Rattle.std.specs.List.{range_with_len}
use Rattle.std.specs.Option.{option_map_or}
use Rattle.tm_syntax.specs.declared.design.Var.{Var}
use Rattle.tm_syntax.specs.Tree.{SpecTree}
use Rattle.tm_syntax.specs.Design.{DesignTree}
use Rattle.tm_syntax.specs.Design.Locations.{end_number}
use Rattle.tm_syntax.specs.Design.Sizes.{type_size}
use Rattle.tm_term.specs.declared.term.TermId.{TermId}
use Rattle.tm_term.specs.Table.{Table, IsSound}
use Rattle.tm_term.specs.Value.{AreInputs, value_of, Extends}
use Rattle.tm_flat.specs.Steps.{IsTerm}
use Rattle.tm_flat_states.specs.declared.bounds.Bound.{Bound}
use Rattle.tm_flat_states.specs.declared.bounds.Bound.TheVariants.{AtMost, Exactly}

-- a number is within a bound
abbrev pub Meets : Bound → ℕ → Type 0
Meets (AtMost most) n = n ≤ most
Meets (Exactly one) n = n ≡ one

-- the greatest number within a bound
abbrev pub bound_number : Bound → ℕ
bound_number (AtMost most) = most
bound_number (Exactly one) = one

-- there are as many numbers as bounds, or more, and the first ones are within these
abbrev pub MeetAll : List Bound → List ℕ → Type 0
MeetAll [] v = ⊤
MeetAll (b ∷ bs) [] = ⊥
MeetAll (b ∷ bs) (n ∷ v) = Meets b n × MeetAll bs v

-- there are as many widths as bounds, or more, and each bound is a number of its width
abbrev pub FitAll : List ℕ → List Bound → Type 0
FitAll ws [] = ⊤
FitAll [] (b ∷ bs) = ⊥
FitAll (w ∷ ws) (b ∷ bs) = (bound_number b < 2 ^ w) × FitAll ws bs

-- a truth was made, which holds exactly where this holds of the values of others
pub record MakesTest (t n : Table) (id : TermId) (Holds : Table → List ℕ → Type 0) : Type 0 where
  pub grown : Extends t n
  pub sound : IsSound n
  pub term : IsTerm n 1 id
  pub holds : (u : Table) → Extends n u → (v : List ℕ) → AreInputs u v → (value_of u v id ≡ 1) ↔ Holds u v

-- a value of a variable is one of its type
abbrev pub value_bound : SpecTree → Var → Bound
value_bound spec v = AtMost (type_size spec v.ty - 1)

-- at first it is the declared one, if one is declared
abbrev pub first_bound : SpecTree → Var → Bound
first_bound spec v = option_map_or Exactly v.init (value_bound spec v)

-- the numbers of a valid state
abbrev pub valid_bounds : DesignTree → List Bound
valid_bounds d =
    map (value_bound d.spec) d.vars
    ++ map (λ p. AtMost (end_number d p)) (range_with_len 0 (length d.processes))
    ++ AtMost (1 + length d.processes) ∷ []

-- the numbers of an initial state
abbrev pub initial_bounds : DesignTree → List Bound
initial_bounds d = map (first_bound d.spec) d.vars ++ replicate (length d.processes) (Exactly 0) ++ Exactly 0 ∷ []
