use Rattle.std.proofs.Common.{rules, ℕ, List, subst}
use Rattle.tm_dd.specs.declared.node.NodeId.{NodeId}
use Rattle.tm_game_bits.specs.Diagrams.{KnowsChanges}
use Rattle.test_game.proofs.forcing.known.knows_step.Goals as goal

pub returns-then-knows_both : goal.returns-then-knows_both
returns-then-knows_both c = λ passed. record {
  legal = search rules;
  error = search rules;
  next = subst (λ (changes : List (ℕ × NodeId)). KnowsChanges c.args.dd.now.table changes) c.deref.ensures.value
      (c.knows_changes.ensures passed);
}
