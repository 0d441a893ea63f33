-- A design as guarded updates, as contracts see it: plain data, with a list in the place of each vector.
use Rattle.std.specs.Prelude.{ℕ, Bool, List, map}
use Rattle.tm_term.specs.declared.term.TermId.{TermId}
use Rattle.tm_flat.specs.declared.flat.FlatStep.{FlatStep}
use Rattle.tm_flat.specs.declared.flat.Flat.{Flat}

-- a step: whether it has an outcome, whether that is an error, and the numbers of the state that follows
pub record StepTerms : Type 0 where
  pub legal : TermId
  pub error : TermId
  pub next : List TermId

-- a design: a step for each process and location and for each controllable task, with the widths of its parameters,
-- and its predicates
pub record FlatTerms : Type 0 where
  pub processes : List (List StepTerms)
  pub tasks : List StepTerms
  pub parameters : List (List ℕ)
  pub magic : List (List Bool)
  pub goals : List TermId
  pub fairs : List TermId
  pub initial : TermId
  pub valid : TermId
  pub pool : List TermId
  pub first : ℕ
  pub widths : List ℕ

-- what contracts see of a step
abbrev pub step_terms : FlatStep → StepTerms
step_terms s = record { legal = s.legal; error = s.error; next = s.next.items }

-- what contracts see of a design
abbrev pub flat_terms : Flat → FlatTerms
flat_terms f = record {
  processes = map (λ steps. map step_terms steps.items) f.processes.items;
  tasks = map step_terms f.tasks.items;
  parameters = map (λ widths. widths.items) f.parameters.items;
  magic = map (λ magics. magics.items) f.magic.items;
  goals = f.goals.items;
  fairs = f.fairs.items;
  initial = f.initial;
  valid = f.valid;
  pool = f.pool.items;
  first = f.first;
  widths = f.widths.items;
}
