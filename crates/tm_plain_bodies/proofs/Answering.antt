-- What a procedure returns, where a cell gets it.
use Rattle.std.proofs.Common.{◌≡◌, ℕ, Option, Some, sym, ap, ◌∙◌, subst}
use Rattle.std.specs.Option.{option_and_then, option_map_or}
use Rattle.std.proofs.lemmas.Option.{none-some}
use Rattle.tm_syntax.specs.declared.design.Ty.{Ty}
use Rattle.tm_syntax.specs.Tree.{ExprTree}
use Rattle.tm_scope.specs.Cells.{ScopedCells, cell_at}
use Rattle.tm_scope.specs.declared.cells.site_body.CellNumber.{CellNumber}
use Rattle.tm_sem.specs.Run.{put_in}
use Rattle.tm_sem.specs.Value.{Memory}
use Rattle.tm_design.specs.StepCells.{AreApart}
use Rattle.tm_plain_exprs.specs.Kept.{Keeps}
use Rattle.tm_plain_exprs.specs.Valued.{IsValued}
use Rattle.tm_plain_bodies.specs.declared.course.Course.{Course}
use Rattle.tm_plain_bodies.specs.Arguments.{IsAnswered}
use Rattle.tm_plain_bodies.specs.Runs.{IsSame}

pub answered_so : (outer inner : ScopedCells) (ty own : Ty) (answer : Option ExprTree) (e : ExprTree)
    (cell : Option CellNumber) (from mid to : Course) (n : ℕ) → answer ≡ Some e → own ≡ ty → IsSame from mid →
    to.trail ≡ mid.trail → to.choices ≡ mid.choices → IsValued inner from.store own e n →
    ((m : Memory) → AreApart outer.tables → Keeps outer.tables mid.store m →
    Keeps outer.tables to.store (put_in m (option_and_then (cell_at outer.tables outer.at) cell) n)) →
    IsAnswered outer inner ty answer cell from to
answered_so outer inner ty own answer e cell from mid to n there is same trail choices valued puts = record {
  trail = trail ∙ same.trail;
  choices = choices ∙ same.choices;
  value = λ f at.
      let one : e ≡ f = ap (λ o. option_map_or (λ (x : ExprTree). x) o e) (sym there ∙ at) in (
        n,
        subst (λ x. IsValued inner from.store ty x n) one
            (subst (λ t. IsValued inner from.store t e n) is valued),
        λ m apart keeps. puts m apart (subst (λ k. Keeps outer.tables k m) (sym same.store) keeps),
      );
  nothing = λ none. absurd (none-some e (sym none ∙ there));
}
