-- A statement that is a row by itself.
use Rattle.std.proofs.Common.{Option, None, Some, refl}
use Rattle.tm_syntax.specs.Tree.{StmtTree, nothing, then}
use Rattle.tm_flat_stmts.specs.Flows.{FlowTerms}
use Rattle.tm_flat_bodies.specs.declared.course.Course.{Course}
use Rattle.tm_flat_bodies.specs.declared.stand.Stand.{Stand}
use Rattle.tm_flat_bodies.specs.Walks.{RowLeads, RowWalks, StmtLeads, StmtWalks, WalkTables}
use Rattle.tm_flat_bodies.proofs.Rows.{RowSoFar, row_begins, row_halts, row_next, row_step, row_through}

module _ (w : WalkTables) (f : Stand) (s : StmtTree) (now : Course) (here : FlowTerms)
    (walks : RowWalks w f (then s nothing) now here) where
  far : RowSoFar w f (then s nothing) (then s nothing) now here now here
  far = row_begins w f (then s nothing) (then s nothing) now here refl walks

  pub one_walks : StmtWalks w f s now here
  one_walks = row_next w f (then s nothing) (then s nothing) s nothing now here now here refl far

  pub one_leads : (mid : Course) (left : Option FlowTerms) → StmtLeads w f s now mid here left →
      RowLeads w f (then s nothing) now mid here left
  one_leads mid None leads =
      row_halts w f (then s nothing) (then s nothing) s nothing now here now here refl far mid leads
  one_leads mid (Some there) leads =
      row_through w f (then s nothing) nothing now here mid there refl
      (row_step w f (then s nothing) (then s nothing) s nothing now here now here refl far walks.stand.walkable mid
      there
      leads)
