-- The arguments of calls, and what parameters get.
use Rattle.std.specs.Prelude.{◌≡◌, ℕ, ⊤, true, false, Option, None, Some, List}
use Rattle.std.specs.Option.{option_and_then}
use Rattle.std.specs.List.{AllZip, list_any, zip}
use Rattle.tm_syntax.specs.declared.design.Ty.{Ty}
use Rattle.tm_syntax.specs.declared.tree.Param.{Param}
use Rattle.tm_syntax.specs.Tree.{ExprTree}
use Rattle.tm_syntax.specs.Scopes.Names.{type_of}
use Rattle.tm_syntax.specs.Design.Cells.{Called}
use Rattle.tm_scope.specs.Cells.{ScopedCells, cell_at, scope_of}
use Rattle.tm_scope.specs.declared.cells.site_body.SiteBody.{SiteBody}
use Rattle.tm_scope.specs.declared.cells.site_body.CellNumber.{CellNumber}
use Rattle.tm_sem.specs.Value.{Memory, overruns}
use Rattle.tm_sem.specs.Run.{put_in, with_arguments}
use Rattle.tm_design.specs.Parameters.{called_by}
use Rattle.tm_plain_bodies.specs.declared.course.Course.{Course}
use Rattle.tm_plain_bodies.specs.declared.halt.Halt.{Halt}
use Rattle.tm_plain_bodies.specs.declared.halt.Halt.TheVariants as halt
use Rattle.tm_design.specs.StepCells.{AreApart}
use Rattle.tm_plain_exprs.specs.Kept.{Kept, Keeps}
use Rattle.tm_plain_bodies.specs.Runs.{HaltsAt, Stands, at_end}
use Rattle.tm_plain_exprs.specs.Valued.{IsValued, Told}

-- these are the values of the arguments, each asked for its parameter's type, and none overruns
abbrev pub AreValued : ScopedCells → Kept → List Param → List ExprTree → List ℕ → Type 0
AreValued s k params args values =
    AllZip (λ (p : Param × ExprTree) n. IsValued s k (type_of p.0.ty) p.1 n) (zip params args) values

-- a machine halts at some arguments: one overruns, or memory is wanting
abbrev pub HaltsAtSome : ScopedCells → Course → List ExprTree → Halt → Type 0
HaltsAtSome s from args halt.Memory = ⊤
HaltsAtSome s from args h =
    ((of : Told s from.store) → list_any (overruns of.design (scope_of s.at) of.memory) args ≡ true)
    × (h ≡ at_end from.choices halt.Failed)

-- the parameters of a task have got the values of arguments, none of which overruns
pub record AreGiven (s : ScopedCells) (at : SiteBody) (args : List ExprTree) (from to : Course) : Type 0 where
  pub trail : to.trail ≡ from.trail
  pub choices : to.choices ≡ from.choices
  pub keeps : (o : Stands s.tables from.store) (c : Called) → called_by o.design at.instance at.body ≡ Some c →
      Keeps s.tables to.store (with_arguments o.design (scope_of s.at) o.memory c.params args)
  pub within : (of : Told s from.store) → list_any (overruns of.design (scope_of s.at) of.memory) args ≡ false

-- a cell has got what a procedure returns, if it returns something, which does not overrun
pub record IsAnswered (outer inner : ScopedCells) (ty : Ty) (answer : Option ExprTree) (cell : Option CellNumber)
    (from to : Course) : Type 0 where
  pub trail : to.trail ≡ from.trail
  pub choices : to.choices ≡ from.choices
  pub value : (e : ExprTree) → answer ≡ Some e → (n : ℕ) × IsValued inner from.store ty e n
      × ((m : Memory) → AreApart outer.tables → Keeps outer.tables from.store m →
      Keeps outer.tables to.store (put_in m (option_and_then (cell_at outer.tables outer.at) cell) n))
  pub nothing : answer ≡ None → to.store ≡ from.store

-- a machine halts at what a procedure returns: it overruns, or memory is wanting
abbrev pub HaltsAtAnswer : ScopedCells → Option ExprTree → Course → Halt → Type 0
HaltsAtAnswer inner None from h = h ≡ halt.Memory
HaltsAtAnswer inner (Some e) from h = HaltsAt inner from e h
