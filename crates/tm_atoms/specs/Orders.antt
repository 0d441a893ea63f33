-- Orders of the calls of a text.
use Rattle.std.specs.Prelude.{◌≤◌, List, length}
use Rattle.tm_syntax.specs.declared.member.Member.{Member}
use Rattle.tm_syntax.specs.Tree.{SpecTree}
use Rattle.tm_syntax.specs.Scopes.Pauses.{call_depth}
use Rattle.tm_scope.specs.CallOrder.{CoversTasks, IsCallOrder}

-- the tasks of a text have an order in which each stands behind all that it calls
pub record HasCallOrder (spec : SpecTree) : Type 0 where
  pub order : List Member
  pub ordered : IsCallOrder spec order
  pub covers : CoversTasks spec order
  pub short : length order ≤ call_depth spec
