-- The tasks that pass a test tell of each call whether it does.
use Rattle.std.proofs.Common.{◌≡◌, List, subst}
use Rattle.tm_syntax.specs.declared.member.Member.{Member}
use Rattle.tm_syntax.specs.declared.tree.Spec.{Spec}
use Rattle.tm_syntax.specs.Scopes.Crossing.{body_crosses, call_crosses}
use Rattle.tm_syntax.specs.Scopes.Pauses.{call_depth, may_pause}
use Rattle.tm_syntax.specs.Tree.View.{spec_tree}
use Rattle.tm_syntax.specs.Faults.Crossings.{call_pauses}
use Rattle.tm_scope.specs.CallOrder.{CoversTasks}
use Rattle.tm_scope.specs.Marks.{ArePassing, crosses_at, pauses_at}
use Rattle.tm_scope.proofs.CallTests.{calls_known}
use Rattle.tm_types.specs.CallMarks.{TellCalls}

-- which calls are sure to cross
pub crossing_told : (s scoped : Spec) (order tasks : List Member) → scoped ≡ s →
    CoversTasks (spec_tree scoped) order → ArePassing (crosses_at (spec_tree scoped)) order tasks →
    TellCalls s tasks (call_crosses (spec_tree s))
crossing_told s scoped order tasks same covers passing =
    subst (λ (u : Spec). TellCalls u tasks (call_crosses (spec_tree u))) same (record {
      tell = λ from t at. calls_known scoped
          (λ k. body_crosses (call_depth (spec_tree scoped)) (spec_tree scoped) k.0 k.1.body) order tasks from t covers
          passing at;
    })

-- which calls pause
pub pausing_told : (s scoped : Spec) (order tasks : List Member) → scoped ≡ s →
    CoversTasks (spec_tree scoped) order → ArePassing (pauses_at (spec_tree scoped)) order tasks →
    TellCalls s tasks (call_pauses (spec_tree s))
pausing_told s scoped order tasks same covers passing =
    subst (λ (u : Spec). TellCalls u tasks (call_pauses (spec_tree u))) same (record {
      tell = λ from t at. calls_known scoped (λ k. may_pause (spec_tree scoped) k.0 k.1) order tasks from t covers
          passing at;
    })
