-- A design with the tables by which it is run.
use Rattle.std.specs.Prelude.{◌≤◌, List, length}
use Rattle.tm_syntax.specs.declared.design.Design.{Design}
use Rattle.tm_syntax.specs.declared.member.Member.{Member}
use Rattle.tm_syntax.specs.Tree.View.{spec_tree}
use Rattle.tm_syntax.specs.Scopes.Pauses.{call_depth}
use Rattle.tm_syntax.specs.Design.View.{design_tree}
use Rattle.tm_syntax.specs.Faults.{IsOfText, IsSound}
use Rattle.tm_scope.specs.CallOrder.{CoversTasks, IsCallOrder}
use Rattle.tm_scope.specs.Cells.{CellTables, ScopedCells}
use Rattle.tm_scope.specs.Instances.{InstanceTables}
use Rattle.tm_scope.specs.declared.cells.site_body.SiteBody.{SiteBody}

-- the tables of cells of a design
abbrev pub tables_of : Design → CellTables
tables_of d = record { spec = d.spec; instances = d.instances.items; vars = d.vars.items }

-- the instances of a design
abbrev pub sites_of : Design → InstanceTables
sites_of d = record { spec = d.spec; instances = d.instances.items }

-- a body of an instance of a design, with these tables
abbrev pub body_of : Design → SiteBody → ScopedCells
body_of d at = record { tables = tables_of d; at = at }

-- a design that keeps its facts, and an order of the tasks of its text in which each stands behind all that it calls
pub record IsReady (d : Design) (order : List Member) : Type 0 where
  pub sound : IsSound (design_tree d)
  pub read : IsOfText (spec_tree d.spec)
  pub ordered : IsCallOrder (spec_tree d.spec) order
  pub covers : CoversTasks (spec_tree d.spec) order
  pub short : length order ≤ call_depth (spec_tree d.spec)
