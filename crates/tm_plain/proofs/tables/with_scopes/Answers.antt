use Rattle.std.proofs.Common.{length, ◌≤◌, sym, subst}
use Rattle.tm_syntax.specs.declared.member.Member.{Member}
use Rattle.tm_syntax.specs.declared.tree.Spec.{Spec}
use Rattle.tm_syntax.specs.Tree.View.{spec_tree}
use Rattle.tm_syntax.specs.Scopes.Calls.{Reaches}
use Rattle.tm_syntax.specs.Scopes.Pauses.{call_depth}
use Rattle.tm_scope.specs.CallOrder.{CoversTasks, IsCallOrder}
use Rattle.tm_scope.specs.Cells.{ArePausing}
use Rattle.tm_plain.proofs.tables.with_scopes.Goals as goal

pub ordered_calls-requires : goal.ordered_calls-requires
ordered_calls-requires c =
    subst (λ (spec : Spec). (m : Member) → Reaches (spec_tree spec) m m → ⊥) (sym c.requires.scopes)
    c.requires.sound.no_call_cycle

pub invariant_of-result : goal.invariant_of-result
invariant_of-result c =
    let is = c.requires.scopes in
    let order = c.in-Ok.order.items in
    record {
      runnable = record { sound = c.requires.sound; read = c.requires.read };
      text = is;
      may_pause = subst (λ (spec : Spec). ArePausing (spec_tree spec) c.in-Ok.pausing) is c.in-Ok.ensures.pausing;
      ordered = subst (λ (spec : Spec). IsCallOrder (spec_tree spec) order) is c.in-Ok.ensures.ordered;
      covers = subst (λ (spec : Spec). CoversTasks (spec_tree spec) order) is c.in-Ok.ensures.covers;
      short = subst (λ (spec : Spec). length order ≤ call_depth (spec_tree spec)) is c.in-Ok.ensures.short;
    }
