use Rattle.std.proofs.Common.{map, ap, ◌∙◌}
use Rattle.std.proofs.lemmas.Result.{IfOk-weaker}
use Rattle.tm_cir.specs.View.{num_tree, truth_tree, block_trees}
use Rattle.tm_struct.specs.View.{action_tree}
use Rattle.tm_struct.proofs.Laid.{test_there, call_there, leave_there, idle_there, go_there}
use Rattle.tm_struct.proofs.laying.+lay.Goals as goal

pub returns-in_ok-truth-in-If : goal.returns-in_ok-truth-in-If
returns-in_ok-truth-in-If t c =
    IfOk-weaker c.put.result _ _
    (λ number put.
    test_there (block_trees c.args.laid.now.items) (block_trees c.lay.new.laid.items)
    (block_trees c.lay-in-If.new.laid.items) (block_trees c.put.new.laid.items) c.args.starts.now
    c.in_ok-first-in-If.first c.in_ok-second-in-If.second number (truth_tree c.in-If.truth) _
    (action_tree c.in-If.first.value) (action_tree c.in-If.second.value) (action_tree c.deref-in-If.result.now)
    (action_tree c.deref.result.now) (action_tree c.args.tree.now) c.in_ok-second-in-If.ensures
    (ap action_tree c.deref.ensures) c.in_ok-first-in-If.ensures (ap action_tree c.deref-in-If.ensures)
    c.in_ok-truth-in-If.ensures put (ap action_tree c.in-If.is)) c.put.ensures

pub returns-in_ok-copied_nums-in-Call : goal.returns-in_ok-copied_nums-in-Call
returns-in_ok-copied_nums-in-Call t c =
    IfOk-weaker c.put-in-Call.result _ _
    (λ number put.
    call_there (block_trees c.args.laid.now.items) (block_trees c.put-in-Call.new.laid.items) c.args.starts.now number
    c.in-Call.task (map num_tree c.in-Call.args.items) _ (action_tree c.args.tree.now)
    (c.in_ok-copied_nums-in-Call.ensures ∙ ap (map num_tree) c.deref-in-Call.ensures.value) put
    (ap action_tree c.in-Call.is)) c.put-in-Call.ensures

pub returns-in-Leave : goal.returns-in-Leave
returns-in-Leave t c =
    IfOk-weaker c.put-in-Leave.result _ _
    (λ number put.
    leave_there (block_trees c.args.laid.now.items) (block_trees c.put-in-Leave.new.laid.items) c.args.starts.now number
    c.in-Leave.process (action_tree c.args.tree.now) put (ap action_tree c.in-Leave.is)) c.put-in-Leave.ensures

pub returns-in-Go : goal.returns-in-Go
returns-in-Go t c =
    go_there (block_trees c.args.laid.now.items) c.args.starts.now c.in-Go.number (action_tree c.args.tree.now)
    c.requires.within c.requires.names (ap action_tree c.in-Go.is)

pub returns-in-Idle : goal.returns-in-Idle
returns-in-Idle t c =
    IfOk-weaker c.put-in-Idle.result _ _
    (λ number put.
    idle_there (block_trees c.args.laid.now.items) (block_trees c.put-in-Idle.new.laid.items) c.args.starts.now number
    (action_tree c.args.tree.now) put (ap action_tree c.in-Idle.is)) c.put-in-Idle.ensures
