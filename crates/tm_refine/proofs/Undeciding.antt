-- Where the lower region leaves out an initial state the driver has no certificate over these cells.
use Rattle.std.proofs.Common.{◌≡◌, Bool, true, false, not, List}
use Rattle.tm_syntax.specs.Design.{DesignTree}
use Rattle.tm_sem.specs.Certificates.{DriverSets, MeetsMoveForm}
use Rattle.tm_flat_pool.specs.Predicates.{Predicate}
use Rattle.tm_flat_pool.specs.Cells.{AreDriverUnions}
use Rattle.tm_solve.specs.Sets.{StateSet}
use Rattle.tm_solve.specs.Game.{Game}
use Rattle.tm_solve.specs.Operator.{Operator}
use Rattle.tm_solve.specs.Exact.{IsGameOf, LeavesOut}
use Rattle.tm_solve.specs.Fixpoints.{InRegion, Holds}
use Rattle.tm_refine.specs.Parts.{TellCells, lower_game}
use Rattle.tm_refine.proofs.DriverKeeps.{driver_keeps}

not_both : (a : Bool) → a ≡ true → not a ≡ true → ⊥
not_both true e f = cc
not_both false e f = cc

module _ {d : DesignTree} {op : Operator} {g : Game} (exact : IsGameOf d op g) (predicates : List Predicate)
    (ps : List StateSet) (cells : TellCells d predicates ps) (low : StateSet)
    (lower : Holds g.states low (InRegion (lower_game ps g))) (out : LeavesOut d low) where
  -- no certificate of the driver holds an initial state that the lower region leaves out
  pub no_driver : (c : DriverSets) → AreDriverUnions d predicates c → ¬ MeetsMoveForm d c
  no_driver c unions meets =
      let here = meets.c1 out.0 out.1 in
      let among = exact.all out.0 here.0 in
      not_both (low out.0)
      (lower.all out.0 among (driver_keeps exact predicates ps cells c meets unions out.0 among here.1)) out.2.1
