use Rattle.tm_syntax.specs.Tree.View.{spec_tree}
use Rattle.test_text.proofs.pausing.pausing_of.Goals as goal

pub returns : goal.returns
returns c =
    c.ordered_tasks_are_pausing.ensures (spec_tree c.args.scopes.now) c.args.calls.now c.in_ok-tasks.tasks
    c.requires.covers c.in_ok-tasks.ensures
