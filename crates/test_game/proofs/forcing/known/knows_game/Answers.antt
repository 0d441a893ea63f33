use Rattle.std.proofs.Common.{ℕ, List, All, subst}
use Rattle.tm_dd.specs.declared.node.NodeId.{NodeId}
use Rattle.tm_game_bits.specs.declared.step.StepDiagrams.{StepDiagrams}
use Rattle.tm_game_bits.specs.Diagrams.{KnowsChanges, KnowsStep}
use Rattle.test_game.proofs.forcing.known.knows_game.Goals as goal

pub returns : goal.returns
returns c = λ passed.
    let table = c.args.dd.now.table in
    let known_steps = λ (steps : List StepDiagrams). All (KnowsStep table) steps in
    let known = c.knows_parts.ensures in
    record {
      valid = known.valid passed;
      turn = known.turn passed;
      stutter = subst (λ (changes : List (ℕ × NodeId)). KnowsChanges table changes) c.deref.ensures.value
          (known.stutter passed);
      environment = subst known_steps c.deref-2.ensures.value (known.environment passed);
      driver = subst known_steps c.deref-3.ensures.value (known.driver passed);
    }
