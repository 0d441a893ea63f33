-- What is done of a statement is done of the form that it is.
use Rattle.std.proofs.Common.{◌≡◌, Result, List, ◌∷◌, ◌++◌, sym, subst}
use Rattle.tm_base.specs.declared.place.Place.{Place}
use Rattle.tm_syntax.specs.declared.design.Design.{Design}
use Rattle.tm_syntax.specs.Tree.{StmtTree}
use Rattle.tm_scope.specs.Cells.{ScopedCells}
use Rattle.tm_plain_bodies.specs.declared.course.Course.{Course}
use Rattle.tm_plain_bodies.specs.declared.halt.Halt.{Halt}
use Rattle.tm_plain_bodies.specs.declared.todo.Level.{Level}
use Rattle.tm_plain_bodies.specs.Inner.Owed.{Owed, one}
use Rattle.tm_plain_bodies.specs.Inner.Steps.{Steps}
use Rattle.tm_plain_bodies.specs.Runs.{DoesStmt, HaltsWithin, behind, item_of}

module _ (s : ScopedCells) (from to : Course) (whole form : StmtTree) (is : whole ≡ form) where
  pub as_does : {A : Type 0} (r : Result A Halt) → DoesStmt s form from to r → DoesStmt s whole from to r
  as_does r h = subst (λ t. DoesStmt s t from to r) (sym is) h

  pub as_halts : (h : Halt) →
      ((calls : List Place) → HaltsWithin s.tables (item_of s (from.trail ++ calls) form) (behind calls from)
      (behind calls to) h) →
      (calls : List Place) → HaltsWithin s.tables (item_of s (from.trail ++ calls) whole) (behind calls from)
      (behind calls to) h
  as_halts h halts calls =
      subst (λ t. HaltsWithin s.tables (item_of s (from.trail ++ calls) t) (behind calls from) (behind calls to) h)
      (sym is) (halts calls)

pub as_steps : {A : Type 0} (d : Design) (level : Level) (ts new : List Owed) (from to : Course)
    (whole form : StmtTree) → whole ≡ form → (r : Result A Halt) → Steps d (one level form ∷ ts) new from to r →
    Steps d (one level whole ∷ ts) new from to r
as_steps d level ts new from to whole form is r h =
    subst (λ s. Steps d (one level s ∷ ts) new from to r) (sym is) h
