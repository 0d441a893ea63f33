use Rattle.tm_syntax.specs.Tree.View.{body_tree}
use Rattle.tm_plain_bodies.proofs.Finishing.{body_finished, body_fits_here}
use Rattle.tm_plain_bodies.proofs.runner.Runner.perform_body.Goals as goal

pub run_body-requires : goal.run_body-requires
run_body-requires c =
    body_fits_here c.args.self.now c.args.frame.now (body_tree c.args.body.now) c.requires c.level.result
    c.level.ensures

pub returns : goal.returns
returns c = record {
  does =
      body_finished c.args.self.now c.args.frame.now (body_tree c.args.body.now) c.requires.tables c.level.result
      c.level.ensures c.args.course.now c.run_body.new.course c.run_body.result c.run_body.ensures;
}
