-- The game over bits that guarded updates tell: its steps are made of the values of their terms.
use Rattle.std.specs.Prelude.{ℕ, zero, suc, ◌==◌, Bool, true, false, ◌&&◌, Option, None, Some, List, [], ◌∷◌, ◌++◌, length, map, slice_index, slice_index_or}
use Rattle.std.specs.List.{list_any, range_with_len}
use Rattle.tm_game_bits.specs.Inputs.{arguments_at, choices_at}
use Rattle.tm_flat.specs.Flat.{FlatTerms, StepTerms}
use Rattle.tm_flat.specs.Inputs.{input_values}
use Rattle.tm_flat.specs.IsFlat.{step_from}
use Rattle.tm_game_bits.specs.Functions.{Assignment, Function, StepFunctions, GameFunctions}
use Rattle.tm_sem.specs.StateBits.{state_numbers}
use Rattle.tm_term.specs.declared.term.TermId.{TermId}
use Rattle.tm_term.specs.Table.{Table}
use Rattle.tm_term.specs.Value.{value_of}
use Rattle.tm_game_bits.specs.Told.{argument_levels, choice_levels, magic_at}
use Rattle.tm_solve_exact.specs.Coding.{levels_of, state_in}

-- the values of all inputs that values of levels give
abbrev pub inputs_in : FlatTerms → List ℕ → Assignment → List ℕ
inputs_in f order v = input_values (state_in f order v) (choices_at order v) (arguments_at order v)

-- where a term is 1
abbrev pub truth_in : Table → FlatTerms → List ℕ → TermId → Function
truth_in t f order id v = value_of t (inputs_in f order v) id == 1

-- each level of a state becomes its bit of the numbers that follow
abbrev pub next_in : FlatTerms → List ℕ → (Assignment → List ℕ) → List (ℕ × Function)
next_in f order numbers =
    map (λ level. (level, (λ v. levels_of f order (numbers v) level))) (range_with_len 0 (length order))

-- the numbers of a state, but for who moved last
abbrev pub passed_in : FlatTerms → List ℕ → ℕ → Assignment → List ℕ
passed_in f order last v = state_numbers (record (state_in f order v) { last = last })

-- a step, which can have an outcome where a guard holds alone
abbrev pub step_in : Table → FlatTerms → List ℕ → Function → List ℕ → StepTerms → StepFunctions
step_in t f order guard given terms = record {
  legal = λ v. guard v && truth_in t f order terms.legal v;
  error = truth_in t f order terms.error;
  next = next_in f order (λ v. map (value_of t (inputs_in f order v)) terms.next);
  choices = choice_levels order;
  arguments = given;
}

-- whether a process stands at a location
abbrev pub stands_in : FlatTerms → List ℕ → ℕ → ℕ → Function
stands_in f order p k v = slice_index (state_in f order v).places p == k

-- what a function lists at the numbers below one
abbrev pub listed_below : {A : Type 0} → (ℕ → List A) → ℕ → List A
listed_below at zero = []
listed_below at (suc n) = at n ++ listed_below at n

-- the step of a process from a location, where it is of this sort and there are terms for it
abbrev pub step_of_sort : Table → FlatTerms → List ℕ → Bool → ℕ → ℕ → Option Bool → Option StepTerms →
    List StepFunctions
step_of_sort t f order true p k (Some true) (Some terms) = step_in t f order (stands_in f order p k) [] terms ∷ []
step_of_sort t f order false p k (Some false) (Some terms) = step_in t f order (stands_in f order p k) [] terms ∷ []
step_of_sort t f order _ p k _ _ = []

-- how many locations the table of magic blocks has for a process
abbrev pub locations_in : FlatTerms → ℕ → ℕ
locations_in f p = length (slice_index_or f.magic p [])

-- the steps from the locations that are magic blocks, or from all others
abbrev pub steps_of_sort : Table → FlatTerms → List ℕ → Bool → List StepFunctions
steps_of_sort t f order sort =
    listed_below
    (λ p. listed_below (λ k. step_of_sort t f order sort p k (magic_at f p k) (step_from f p k)) (locations_in f p))
    (length f.magic)

-- whether an entry of the table of magic blocks says that there is one
abbrev pub is_magic : Option Bool → Bool
is_magic (Some magic) = magic
is_magic None = false

-- whether the driver can be picked: some process stands at a magic block
abbrev pub picks_in : FlatTerms → List ℕ → Function
picks_in f order v =
    list_any
    (λ p.
    list_any (λ k. is_magic (magic_at f p k) && stands_in f order p k v) (range_with_len 0 (locations_in f p)))
    (range_with_len 0 (length f.magic))

-- the idle step of the driver
abbrev pub idle_in : FlatTerms → List ℕ → StepFunctions
idle_in f order = record {
  legal = picks_in f order;
  error = λ v. false;
  next = next_in f order (passed_in f order 1);
  choices = [];
  arguments = [];
}

-- the steps of the controllable tasks
abbrev pub tasks_in : Table → FlatTerms → List ℕ → List StepFunctions
tasks_in t f order = map (step_in t f order (λ v. true) (argument_levels order)) f.tasks

-- the game
abbrev pub functions_in : Table → FlatTerms → List ℕ → GameFunctions
functions_in t f order = record {
  valid = truth_in t f order f.valid;
  turn = picks_in f order;
  stutter = next_in f order (passed_in f order 0);
  environment = steps_of_sort t f order false;
  driver = idle_in f order ∷ tasks_in t f order ++ steps_of_sort t f order true;
}
