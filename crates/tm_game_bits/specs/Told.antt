-- A game over bits that the terms of a design tell: what its truths and next numbers are, at all values of levels.
use Rattle.std.specs.Prelude.{◌≡◌, ◌↔◌, ℕ, ◌==◌, Bool, true, false, Option, Some, List, [], All, Any, length, map, slice_get, slice_index}
use Rattle.std.specs.List.{range_with_len}
use Rattle.std.specs.Option.{option_and_then}
use Rattle.tm_base.specs.Arithmetic.{bit}
use Rattle.tm_game_bits.specs.Choices.{ListsChoices}
use Rattle.tm_game_bits.specs.Functions.{Assignment, Function, StepFunctions, GameFunctions, after}
use Rattle.tm_term.specs.declared.term.TermId.{TermId}
use Rattle.tm_term.specs.Table.{Table}
use Rattle.tm_term.specs.Value.{value_of}
use Rattle.tm_syntax.specs.Design.{DesignTree}
use Rattle.tm_sem.specs.StateBits.{state_numbers}
use Rattle.tm_flat.specs.Flat.{StepTerms, FlatTerms}
use Rattle.tm_flat.specs.Inputs.{room, input_values}
use Rattle.tm_flat.specs.IsFlat.{step_from}
use Rattle.tm_game_bits.specs.Inputs.{arguments_at, choice_level, choices_at}
use Rattle.tm_game_bits.specs.AssignedStates.{state_of}

-- the values of all inputs that values of levels give
abbrev pub inputs_at : DesignTree → List ℕ → Assignment → List ℕ
inputs_at d order v = input_values (state_of d order v) (choices_at order v) (arguments_at order v)

-- a term is 1 where a function is true, and else 0
abbrev pub IsTruth : Table → DesignTree → List ℕ → TermId → Function → Type 0
IsTruth t d order id f = (v : Assignment) → value_of t (inputs_at d order v) id ≡ bit (f v)

-- the levels of the bits of choices
abbrev pub choice_levels : List ℕ → List ℕ
choice_levels order = range_with_len (choice_level order) room

-- the levels of the bits of arguments
abbrev pub argument_levels : List ℕ → List ℕ
argument_levels order = range_with_len (length order) room

-- where a guard holds, a step over bits is what terms tell; elsewhere it has no outcome
pub record IsStepOf (t : Table) (d : DesignTree) (order : List ℕ) (guard : Function) (given : List ℕ)
    (terms : StepTerms) (step : StepFunctions) : Type 0 where
  pub guarded : (v : Assignment) → step.legal v ≡ true → guard v ≡ true
  pub legal : (v : Assignment) → guard v ≡ true → value_of t (inputs_at d order v) terms.legal ≡ bit (step.legal v)
  pub error : IsTruth t d order terms.error step.error
  pub next : (v : Assignment) →
      state_numbers (state_of d order (after step.next v)) ≡ map (value_of t (inputs_at d order v)) terms.next
  pub choices : ListsChoices (choice_levels order) step.choices (λ v. value_of t (inputs_at d order v)) terms
  pub arguments : step.arguments ≡ given

-- whether a process stands at a location
abbrev pub stands_at : DesignTree → List ℕ → ℕ → ℕ → Function
stands_at d order p k v = slice_index (state_of d order v).places p == k

-- a change that leaves the state as it is, but for who moved last
abbrev pub Passes : DesignTree → List ℕ → ℕ → List (ℕ × Function) → Type 0
Passes d order last next =
    (v : Assignment) → state_of d order (after next v) ≡ record (state_of d order v) { last = last }

-- whether a location is a magic block, by the tables of a design
abbrev pub magic_at : FlatTerms → ℕ → ℕ → Option Bool
magic_at f p k = option_and_then (λ magics. slice_get magics k) (slice_get f.magic p)

-- a step over bits is that of a process from a location, which is a magic block or not
abbrev pub IsFrom : Table → DesignTree → List ℕ → FlatTerms → Bool → ℕ → ℕ → StepFunctions → Type 0
IsFrom t d order f magic p k step =
    (magic_at f p k ≡ Some magic) × (terms : StepTerms) × (step_from f p k ≡ Some terms)
    × IsStepOf t d order (stands_at d order p k) [] terms step

-- a step over bits is that of a controllable task
abbrev pub IsOfTask : Table → DesignTree → List ℕ → FlatTerms → ℕ → StepFunctions → Type 0
IsOfTask t d order f n step =
    (terms : StepTerms) × (slice_get f.tasks n ≡ Some terms)
    × IsStepOf t d order (λ v. true) (argument_levels order) terms step

-- a step over bits is the driver's idle one, which it can take at its turn
pub record IsIdle (d : DesignTree) (order : List ℕ) (turn : Function) (step : StepFunctions) : Type 0 where
  pub legal : (v : Assignment) → step.legal v ≡ turn v
  pub error : (v : Assignment) → step.error v ≡ false
  pub next : Passes d order 1 step.next
  pub choices : step.choices ≡ []
  pub arguments : step.arguments ≡ []

-- a step over bits of the driver: to idle, to leave a magic block, or to call a task
pub data IsOfDriver (t : Table) (d : DesignTree) (order : List ℕ) (f : FlatTerms) (turn : Function)
    (step : StepFunctions) : Type 0 where
  idles : IsIdle d order turn step → IsOfDriver t d order f turn step
  leaves : (p k : ℕ) → IsFrom t d order f true p k step → IsOfDriver t d order f turn step
  calls : (n : ℕ) → IsOfTask t d order f n step → IsOfDriver t d order f turn step

-- a game over bits that the terms of a design tell: it has their steps, each at least once, and no others
pub record IsTold (t : Table) (d : DesignTree) (order : List ℕ) (f : FlatTerms) (g : GameFunctions) : Type 0 where
  pub valid : IsTruth t d order f.valid g.valid
  pub turn : (v : Assignment) →
      (g.turn v ≡ true) ↔ ((p k : ℕ) × (magic_at f p k ≡ Some true) × (stands_at d order p k v ≡ true))
  pub stutter : Passes d order 0 g.stutter
  pub environment : All (λ (step : StepFunctions). (p k : ℕ) × IsFrom t d order f false p k step) g.environment
  pub processes : (p k : ℕ) → magic_at f p k ≡ Some false → Any (IsFrom t d order f false p k) g.environment
  pub driver : All (IsOfDriver t d order f g.turn) g.driver
  pub idle : Any (IsIdle d order g.turn) g.driver
  pub leaving : (p k : ℕ) → magic_at f p k ≡ Some true → Any (IsFrom t d order f true p k) g.driver
  pub calling : (n : ℕ) (terms : StepTerms) → slice_get f.tasks n ≡ Some terms →
      Any (IsOfTask t d order f n) g.driver
