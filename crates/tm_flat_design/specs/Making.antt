-- A design as guarded updates, as it is made part by part.
use Rattle.std.specs.Prelude.{◌≡◌, ◌+◌, ◌<◌, ◌≤◌, ◌^◌, ℕ, All, List, length, map}
use Rattle.std.specs.List.{AllZip, range_with_len}
use Rattle.std.specs.declared.alloc.Global.{Global}
use Rattle.std.specs.declared.vec.Vec.{Vec}
use Rattle.tm_syntax.specs.declared.design.Design.{Design}
use Rattle.tm_syntax.specs.Design.{DesignTree}
use Rattle.tm_syntax.specs.Design.Atoms.{first_atoms}
use Rattle.tm_syntax.specs.Design.Locations.{end_number, is_magic_at, rest}
use Rattle.tm_syntax.specs.Design.View.{design_tree}
use Rattle.tm_term.specs.Table.{Table, IsSound}
use Rattle.tm_sem.specs.Fairness.{conditions}
use Rattle.tm_sem.specs.Step.{IsInitial, IsState}
use Rattle.tm_flat.specs.declared.flat.Flat.{Flat}
use Rattle.tm_flat.specs.declared.flat.FlatStep.{FlatStep}
use Rattle.tm_flat.specs.Flat.{flat_terms, step_terms}
use Rattle.tm_flat.specs.IsFlat.{AreWidths, IsFairTerm, IsFlat, IsGoalTerm, IsStateTerm, location_numbers, process_numbers}
use Rattle.tm_flat.specs.Inputs.{first_choice, input_widths, room}
use Rattle.tm_flat.specs.Steps.{IsProcessStep, IsTaskStep}
use Rattle.tm_plain.specs.Machine.{AreLocated, IsRunnable}
use Rattle.tm_flat_moves.specs.Items.{MayBeWalked}
use Rattle.tm_flat_moves.specs.Movable.{IsMovable, tables_by}
use Rattle.tm_flat_moves.specs.declared.mover.Mover.{Mover}
use Rattle.tm_flat_pool.specs.Predicates.{pool}
use Rattle.tm_flat_pool.specs.PoolTerms.{IsPredicateTerm}
use Rattle.tm_flat_pool.specs.declared.pool.PoolTerms.{PoolTerms}
use Rattle.tm_flat_design.specs.declared.claims.Claims.{Claims}
use Rattle.tm_flat_design.specs.declared.layout.Layout.{Layout}
use Rattle.tm_flat_design.specs.declared.moves.Moves.{Moves}
use Rattle.tm_flat_design.specs.declared.updater.Updater.{Updater}

-- the design is one of a text that keeps its facts, these are the locations of its processes, and its inputs can be
-- numbered
pub record MayUpdate (u : Updater) : Type 0 where
  pub runnable : IsRunnable u.design.now
  pub located : AreLocated u.design.now (length u.design.now.processes.items) u.locations.now
  pub few : first_choice (design_tree u.design.now) + (room + room) < 2 ^ 32

-- terms over the inputs of a design
pub record AreOver (d : Design) (t : Table) : Type 0 where
  pub sound : IsSound t
  pub inputs : t.inputs ≡ input_widths (design_tree d)

-- the steps of a process may be made from each of its locations
pub record MayMove (m : Mover) (t : Table) : Type 0 where
  pub process : m.process < length m.design.now.processes.items
  pub movable : IsMovable (tables_by m) (design_tree m.design.now) m.process t
  pub work : (k : ℕ) → MayBeWalked (tables_by m) (rest (design_tree m.design.now) m.process k)

-- these are steps of a process from its first locations, of so many
abbrev pub AreSteps : DesignTree → ℕ → ℕ → Table → List FlatStep → Type 0
AreSteps d p count u steps = AllZip (IsProcessStep u d p) (range_with_len 0 count) (map step_terms steps)

-- these are the steps of the first processes, of so many, from each of their locations
abbrev pub AreProcesses : DesignTree → ℕ → Table → List (Vec FlatStep Global) → Type 0
AreProcesses d count u all =
    AllZip (λ p (steps : Vec FlatStep Global). AreSteps d p (end_number d p + 1) u steps.items) (range_with_len 0 count)
    all

-- these are the steps of the first controllable tasks, of so many
abbrev pub AreTasks : DesignTree → ℕ → Table → List FlatStep → Type 0
AreTasks d count u steps = AllZip (IsTaskStep u d) (range_with_len 0 count) (map step_terms steps)

-- the steps of the processes of a design, and of its controllable tasks
pub record AreMoves (d : DesignTree) (u : Table) (m : Moves) : Type 0 where
  pub processes : AreProcesses d (length d.processes) u m.processes.items
  pub tasks : AreTasks d (length d.tasks) u m.tasks.items

-- what a design says of states: its goals, its fairness conditions, and which states are initial and valid
pub record AreClaims (d : DesignTree) (u : Table) (c : Claims) : Type 0 where
  pub goals : AllZip (IsGoalTerm u d) (range_with_len 0 (length d.goals)) c.goals.items
  pub fairs : AllZip (IsFairTerm u d) (range_with_len 0 (length (conditions d))) c.fairs.items
  pub initial : IsStateTerm u d (IsInitial d) c.initial
  pub valid : IsStateTerm u d (IsState d) c.valid

-- what a design tells of its numbers: the widths of its inputs and of the parameters of its controllable tasks, and
-- which of its locations are magic blocks
pub record IsLayout (d : DesignTree) (l : Layout) : Type 0 where
  pub widths : l.widths.items ≡ input_widths d
  pub parameters : AllZip (AreWidths d) (range_with_len 0 (length d.tasks))
      (map (λ widths. widths.items) l.parameters.items)
  pub narrow : All (λ widths. All (λ w. w ≤ room) widths) (map (λ widths. widths.items) l.parameters.items)
  pub magic : map (λ places. places.items) l.magic.items
      ≡ map (λ p. map (is_magic_at d p) (location_numbers d p)) (process_numbers d)

-- the predicates of the pool of a design as terms, and how many of them the abstraction begins with
pub record ArePredicates (d : DesignTree) (u : Table) (p : PoolTerms) : Type 0 where
  pub ids : AllZip (IsPredicateTerm u d) (pool d) p.ids.items
  pub first : p.first ≡ first_atoms d

-- a design as guarded updates, with its pool
pub record IsWhole (d : DesignTree) (u : Table) (f : Flat) : Type 0 where
  pub flat : IsFlat u d (flat_terms f)
  pub ids : AllZip (IsPredicateTerm u d) (pool d) f.pool.items
  pub first : f.first ≡ first_atoms d
