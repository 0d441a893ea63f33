-- What holds of a course holds of it with further calls behind its trail.
use Rattle.std.proofs.Common.{Option, None, Some, List, ◌++◌, ap}
use Rattle.tm_base.specs.declared.place.Place.{Place}
use Rattle.tm_syntax.specs.declared.tree.Ident.{Ident}
use Rattle.tm_syntax.specs.Tree.{ExprTree, element}
use Rattle.tm_scope.specs.Cells.{ScopedCells}
use Rattle.tm_scope.specs.declared.cells.site_body.SiteBody.{SiteBody}
use Rattle.tm_plain_bodies.specs.declared.course.Course.{Course}
use Rattle.tm_plain_bodies.specs.declared.halt.Halt.{Halt}
use Rattle.tm_plain_bodies.specs.declared.halt.Halt.TheVariants as halt
use Rattle.tm_plain_bodies.specs.Arguments.{AreGiven, HaltsAtAnswer, HaltsAtSome}
use Rattle.tm_plain_bodies.specs.Runs.{HaltsAt, HaltsAtTarget, IsSame, behind}

module _ (calls : List Place) (from : Course) where
  pub halts_behind : (s : ScopedCells) (e : ExprTree) (h : Halt) → HaltsAt s from e h →
      HaltsAt s (behind calls from) e h
  halts_behind s e (halt.Stopped at) k = k
  halts_behind s e halt.Failed k = k
  halts_behind s e halt.Blocked k = k
  halts_behind s e halt.Memory k = tt

  pub target_behind : (s : ScopedCells) (names : List Ident) (index : Option ExprTree) (h : Halt) →
      HaltsAtTarget s from names index h → HaltsAtTarget s (behind calls from) names index h
  target_behind s names None h k = k
  target_behind s names (Some e) h k = halts_behind s (element names e) h k

  pub some_behind : (s : ScopedCells) (args : List ExprTree) (h : Halt) → HaltsAtSome s from args h →
      HaltsAtSome s (behind calls from) args h
  some_behind s args (halt.Stopped at) k = k
  some_behind s args halt.Failed k = k
  some_behind s args halt.Blocked k = k
  some_behind s args halt.Memory k = tt

  pub answer_behind : (s : ScopedCells) (answer : Option ExprTree) (h : Halt) → HaltsAtAnswer s answer from h →
      HaltsAtAnswer s answer (behind calls from) h
  answer_behind s None h k = k
  answer_behind s (Some e) h k = halts_behind s e h k

  module _ (to : Course) where
    pub same_behind : IsSame from to → IsSame (behind calls from) (behind calls to)
    same_behind same = record {
      store = same.store;
      trail = ap (λ trail. trail ++ calls) same.trail;
      choices = same.choices;
    }

    pub given_behind : (s : ScopedCells) (at : SiteBody) (args : List ExprTree) → AreGiven s at args from to →
        AreGiven s at args (behind calls from) (behind calls to)
    given_behind s at args g = record {
      trail = ap (λ trail. trail ++ calls) g.trail;
      choices = g.choices;
      keeps = g.keeps;
      within = g.within;
    }
