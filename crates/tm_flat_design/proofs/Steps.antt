-- Steps that are made one after the other.
use Rattle.std.proofs.Common.{◌≡◌, ℕ, ◌+◌, List, [], ◌∷◌, ◌++◌, map, sym, ◌∙◌, subst, arith}
use Rattle.std.proofs.lemmas.List.{map-append}
use Rattle.std.specs.List.{AllZip, range_with_len}
use Rattle.std.specs.declared.alloc.Global.{Global}
use Rattle.std.specs.declared.vec.Vec.{Vec}
use Rattle.tm_syntax.specs.declared.design.Design.{Design}
use Rattle.tm_syntax.specs.Design.{DesignTree}
use Rattle.tm_term.specs.Table.{Table, IsSound}
use Rattle.tm_term.specs.Value.{Extends}
use Rattle.tm_term.proofs.Valued.{Extends-trans}
use Rattle.tm_flat.specs.declared.flat.FlatStep.{FlatStep}
use Rattle.tm_flat.specs.Flat.{StepTerms, step_terms}
use Rattle.tm_flat.specs.IsFlat.{location_numbers}
use Rattle.tm_flat.specs.Steps.{IsProcessStep, IsTaskStep}
use Rattle.tm_flat.proofs.Growth.{process_kept, task_kept}
use Rattle.tm_flat_states.specs.Marks.{MakesSuch}
use Rattle.tm_flat_states.proofs.Numbered.{range_pushed}
use Rattle.tm_flat_moves.specs.Made.{MakesStep}
use Rattle.tm_flat_design.specs.Making.{AreOver, AreProcesses, AreSteps, AreTasks}

-- one more in a list that goes along with the numbers from 0 on
one_pushed : {X : Type 0} (R : ℕ → X → Type 0) (n : ℕ) (xs : List X) (x : X) → AllZip R (range_with_len 0 n) xs →
    R n x → AllZip R (range_with_len 0 (n + 1)) (xs ++ x ∷ [])
one_pushed R n xs x all one =
    let at : n ≡ 0 + n = omega arith in range_pushed R 0 n xs x all (subst (λ k. R k x) at one)

-- one step more, of which something is said by numbers
step_pushed : (R : ℕ → StepTerms → Type 0) (n : ℕ) (steps : List FlatStep) (step : FlatStep) →
    AllZip R (range_with_len 0 n) (map step_terms steps) → R n (step_terms step) →
    AllZip R (range_with_len 0 (n + 1)) (map step_terms (steps ++ step ∷ []))
step_pushed R n steps step all one =
    subst (AllZip R (range_with_len 0 (n + 1))) (sym (map-append step_terms steps (step ∷ [])))
    (one_pushed R n (map step_terms steps) (step_terms step) all one)

-- the steps with one more
pub one_more : (t m n : Table) (d : DesignTree) (p k : ℕ) (steps : List FlatStep) (step : FlatStep) →
    MakesSuch t m (AreSteps d p k) steps → MakesStep m n (IsProcessStep n d p k) step →
    MakesSuch t n (AreSteps d p (k + 1)) (steps ++ step ∷ [])
one_more t m n d p k steps step made next = record {
  grown = Extends-trans t m n made.grown next.grown;
  sound = next.sound;
  is = λ u later.
      step_pushed (IsProcessStep u d p) k steps step (made.is u (Extends-trans m n u next.grown later))
      (process_kept n u later d p k (step_terms step) next.is);
}

-- the processes with one more
pub one_process_more : (t m n : Table) (d : DesignTree) (p count : ℕ) (all : List (Vec FlatStep Global))
    (steps : Vec FlatStep Global) → MakesSuch t m (AreProcesses d p) all →
    location_numbers d p ≡ range_with_len 0 count → MakesSuch m n (AreSteps d p count) steps.items →
    MakesSuch t n (AreProcesses d (p + 1)) (all ++ steps ∷ [])
one_process_more t m n d p count all steps made numbers next = record {
  grown = Extends-trans t m n made.grown next.grown;
  sound = next.sound;
  is = λ u later.
      let here = subst (λ (ns : List ℕ). AllZip (IsProcessStep u d p) ns (map step_terms steps.items)) (sym numbers)
      (next.is u later) in
      one_pushed
      (λ q (some : Vec FlatStep Global).
      AllZip (IsProcessStep u d q) (location_numbers d q) (map step_terms some.items))
      p all steps (made.is u (Extends-trans m n u next.grown later)) here;
}

-- the tasks with one more
pub one_task_more : (t m n : Table) (d : DesignTree) (k : ℕ) (steps : List FlatStep) (step : FlatStep) →
    MakesSuch t m (AreTasks d k) steps → MakesStep m n (IsTaskStep n d k) step →
    MakesSuch t n (AreTasks d (k + 1)) (steps ++ step ∷ [])
one_task_more t m n d k steps step made next = record {
  grown = Extends-trans t m n made.grown next.grown;
  sound = next.sound;
  is = λ u later.
      step_pushed (IsTaskStep u d) k steps step (made.is u (Extends-trans m n u next.grown later))
      (task_kept n u later d k (step_terms step) next.is);
}

-- terms over the inputs of a design stay so where some are added
pub over_later : (d : Design) (t n : Table) → Extends t n → IsSound n → AreOver d t → AreOver d n
over_later d t n grown sound over = record { sound = sound; inputs = grown.inputs ∙ over.inputs }

-- what was made over terms that were added was made over the terms before
pub made_behind : {A : Type 0} (t m n : Table) (IsSuch : Table → A → Type 0) (made : A) → Extends t m →
    MakesSuch m n IsSuch made → MakesSuch t n IsSuch made
made_behind t m n IsSuch made grown is = record {
  grown = Extends-trans t m n grown is.grown;
  sound = is.sound;
  is = is.is;
}
