use Rattle.tm_syntax.specs.Tree.View.{spec_tree}
use Rattle.tm_limits.proofs.shares.task_counts.Goals as goal

pub returns : goal.returns
returns c = record {
  order = c.args.order.now;
  ordered = c.requires.ordered;
  covers = c.requires.covers;
  short = c.requires.short;
  pausing = c.ordered_tasks_are_pausing.ensures (spec_tree c.args.scopes.now) c.args.order.now c.in-Ok.given
      c.requires.covers c.in-Ok.ensures;
  statements = c.in-Ok-weights.ensures;
  locations = c.in-Ok-weights-2.ensures;
  paths = c.in-Ok-task_paths.ensures;
}
