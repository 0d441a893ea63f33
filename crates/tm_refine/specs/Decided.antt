-- What a decision says of a design: who wins, over which predicates, and why these were tracked.
-- d a design, t a trace of predicates, ids what the ids of a solution mean.
use Rattle.std.specs.Prelude.{◌≡◌, ℕ, ◌<◌, ◌≤◌, List, Option, None, Some, length}
use Rattle.std.specs.List.{range_with_len}
use Rattle.tm_flat_pool.specs.Cells.{AreDriverUnions, AreLevelUnions, Undecided}
use Rattle.tm_flat_pool.specs.Predicates.{pool}
use Rattle.tm_game_pool.specs.Separating.{predicates_at}
use Rattle.tm_refine.specs.Reasons.{AreReasons, tracked_by}
use Rattle.tm_refine.specs.declared.trace.Decision.{Decision}
use Rattle.tm_refine.specs.declared.trace.Decision.TheVariants as decision
use Rattle.tm_refine.specs.declared.trace.Trace.{Trace}
use Rattle.tm_sem.specs.Certificates.{MeetsEnvironment, MeetsMoveForm}
use Rattle.tm_solve.specs.Ids.{Ids}
use Rattle.tm_solve.specs.Iterates.{KnowsAll, driver_sets, levels_of}
use Rattle.tm_syntax.specs.Design.{DesignTree}
use Rattle.tm_syntax.specs.Design.Atoms.{first_atoms}

-- the numbers of the predicates that a trace tracks at its end
abbrev pub numbers_of : Trace → List ℕ
numbers_of t = tracked_by (range_with_len 0 t.first) t.added.items

-- a trace is honest: its first predicates are the atoms of goals and declared fairness conditions, and each later one
-- was added for a reason
pub record IsHonest (d : DesignTree) (t : Trace) : Type 0 where
  pub first : t.first ≡ first_atoms d
  pub reasons : AreReasons d (pool d) (range_with_len 0 t.first) t.added.items

-- a budget is spent: that many predicates were added, fewer are tracked than there are, and they leave the design
-- undecided
pub record IsSpent (d : DesignTree) (budget : Option ℕ) (t : Trace) : Type 0 where
  pub all_spent : budget ≡ Some (length t.added.items)
  pub fewer : length (numbers_of t) < length (pool d)
  pub undecided : Undecided d (predicates_at (pool d) (numbers_of t))

-- a decision with its trace: a certificate of the side that wins, whose sets are unions of the last cells, or a budget
-- that is spent
abbrev pub IsDecided : DesignTree → Option ℕ → Ids → Decision → Type 0
IsDecided d budget ids (decision.Driver it t) =
    IsHonest d t × MeetsMoveForm d (driver_sets ids it)
    × AreDriverUnions d (predicates_at (pool d) (numbers_of t)) (driver_sets ids it)
IsDecided d budget ids (decision.Environment it t) =
    IsHonest d t × MeetsEnvironment d (levels_of ids it)
    × AreLevelUnions d (predicates_at (pool d) (numbers_of t)) (levels_of ids it)
IsDecided d budget ids (decision.Spent t) = IsHonest d t × IsSpent d budget t

-- no more predicates were added than a budget allows
abbrev pub IsWithin : Option ℕ → Trace → Type 0
IsWithin None t = Unit {0}
IsWithin (Some n) t = length t.added.items ≤ n

-- nor does a decision add more, whatever it is
abbrev pub KeepsTo : Option ℕ → Decision → Type 0
KeepsTo budget (decision.Driver it t) = IsWithin budget t
KeepsTo budget (decision.Environment it t) = IsWithin budget t
KeepsTo budget (decision.Spent t) = IsWithin budget t

-- the ids of a decision are known
abbrev pub KnowsDecision : Ids → Decision → Type 0
KnowsDecision ids (decision.Driver it t) = KnowsAll ids it
KnowsDecision ids (decision.Environment it t) = KnowsAll ids it
KnowsDecision ids (decision.Spent t) = Unit {0}
