use Rattle.tm_syntax.specs.Scopes.Crossing.{body_crosses}
use Rattle.tm_syntax.specs.Scopes.Pauses.{call_depth, may_pause}
use Rattle.tm_syntax.specs.Tree.View.{spec_tree}
use Rattle.tm_scope.proofs.CallTests.{calls_known}
use Rattle.tm_scope.proofs.calls.order.tasks_tell_calls.Goals as goal

pub returns : goal.returns
returns c = record {
  crosses = λ s order tasks from t covers passing at.
      calls_known s (λ k. body_crosses (call_depth (spec_tree s)) (spec_tree s) k.0 k.1.body) order tasks from t covers
      passing at;
  pauses = λ s order tasks from t covers passing at.
      calls_known s (λ k. may_pause (spec_tree s) k.0 k.1) order tasks from t covers passing at;
}
