use Rattle.tm_syntax.specs.Tree.View.{stmt_trees}
use Rattle.tm_plain_bodies.proofs.Finishing.{fits_here, row_finished}
use Rattle.tm_plain_bodies.proofs.runner.Runner.perform_row.Goals as goal

pub run_row-requires-clause-fits : goal.run_row-requires-clause-fits
run_row-requires-clause-fits c =
    fits_here c.args.self.now c.args.frame.now (stmt_trees c.args.stmts.now) c.requires c.level.result c.level.ensures

pub returns : goal.returns
returns c = record {
  does =
      row_finished c.args.self.now c.args.frame.now (stmt_trees c.args.stmts.now) c.requires.tables c.level.result
      c.level.ensures c.args.course.now c.run_row.new.course c.run_row.result c.run_row.ensures;
}
