use Rattle.std.proofs.Common.{List, length, ◌≤◌, sym, subst}
use Rattle.tm_syntax.specs.declared.member.Member.{Member}
use Rattle.tm_syntax.specs.Tree.View.{spec_tree}
use Rattle.tm_syntax.specs.Scopes.Pauses.{call_depth}
use Rattle.tm_scope.specs.CallOrder.{CoversTasks, IsCallOrder}
use Rattle.tm_plain.proofs.tables.ordered_calls.Goals as goal

pub pausing_of-requires : goal.pausing_of-requires
pausing_of-requires c =
    let spec = spec_tree c.args.scopes.now in
    record {
      ordered = subst (IsCallOrder spec) (sym c.as_slice.ensures.value) c.in-Ok.ensures.ordered;
      covers = subst (CoversTasks spec) (sym c.as_slice.ensures.value) c.in-Ok.ensures.covers;
      short = subst (λ (order : List Member). length order ≤ call_depth spec) (sym c.as_slice.ensures.value)
          c.in-Ok.ensures.short;
    }
