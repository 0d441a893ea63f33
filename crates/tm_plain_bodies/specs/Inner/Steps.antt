-- What a step does of what is left to be done.
use Rattle.std.specs.Prelude.{◌≡◌, ◌<◌, Result, Ok, Err, List, ◌++◌}
use Rattle.std.specs.List.{AllByRecursion}
use Rattle.tm_base.specs.declared.place.Place.{Place}
use Rattle.tm_syntax.specs.declared.design.Design.{Design}
use Rattle.tm_syntax.specs.declared.tree.Ident.{Ident}
use Rattle.tm_syntax.specs.Design.Work.{WorkItem, call_place}
use Rattle.tm_scope.specs.Cells.{CellTables}
use Rattle.tm_sem.specs.Value.{Memory}
use Rattle.tm_sem.specs.Run.{Ending, Run}
use Rattle.tm_plain_bodies.specs.declared.course.Course.{Course}
use Rattle.tm_plain_bodies.specs.declared.halt.Halt.{Halt}
use Rattle.tm_plain_bodies.specs.Inner.Owed.{Comes, Fits, IsAskedFor, Owed, trail_of, work_of}
use Rattle.tm_plain_bodies.specs.Inner.Weights.{weight}
use Rattle.tm_plain_bodies.specs.Runs.{Does, HaltsWithin, Stands, behind}
use Rattle.tm_plain_bodies.specs.Tables.{tables_of}
use Rattle.tm_plain_exprs.specs.Kept.{Keeps}

-- from where a machine has come to, a run leads on over what is left then as it led over what was left before
pub record GoesOver (x : CellTables) (old new : List Owed) (from to : Course) : Type 0 where
  pub trail : (base : List Place) → from.trail ≡ trail_of base old → to.trail ≡ trail_of base new
  pub goes : (base calls : List Place) → from.trail ≡ trail_of base old → (o : Stands x from.store) →
      AllByRecursion (IsAskedFor o.design x) old →
      (m : Memory) × Keeps x to.store m × AllByRecursion (IsAskedFor o.design x) new
      × ((rest : List WorkItem) (e : Ending) → Run o.design (work_of x (base ++ calls) new ++ rest) m to.choices e →
      Run o.design (work_of x (base ++ calls) old ++ rest) o.memory from.choices e)

-- a machine halts within what is left
abbrev pub HaltsOver : CellTables → List Owed → Course → Course → Halt → Type 0
HaltsOver x old from to h =
    (base calls : List Place) → from.trail ≡ trail_of base old →
    HaltsWithin x (work_of x (base ++ calls) old) (behind calls from) (behind calls to) h

-- a step goes over what is left, of which less is left then
pub record Stepped (d : Design) (old new : List Owed) (from to : Course) : Type 0 where
  pub over : GoesOver (tables_of d) old new from to
  pub fits : AllByRecursion (Fits d) old → AllByRecursion (Fits d) new
  pub comes : Comes d new → Comes d old
  pub lighter : weight d new < weight d old

-- a machine does a step, or halts in it
abbrev pub Steps : {A : Type 0} → Design → List Owed → List Owed → Course → Course → Result A Halt → Type 0
Steps d old new from to (Ok done) = Stepped d old new from to
Steps d old new from to (Err h) = HaltsOver (tables_of d) old from to h

-- a machine does all that is left
abbrev pub Finishes : {A : Type 0} → Design → List Owed → Course → Course → Result A Halt → Type 0
Finishes d ts from to r =
    (calls : List Place) →
    Does (tables_of d) (work_of (tables_of d) (from.trail ++ calls) ts) (behind calls from) (behind calls to) r

-- the call of a path is entered
pub record IsEntered (path : List Ident) (from to : Course) : Type 0 where
  pub trail : to.trail ≡ call_place path ++ from.trail
  pub store : to.store ≡ from.store
  pub choices : to.choices ≡ from.choices
