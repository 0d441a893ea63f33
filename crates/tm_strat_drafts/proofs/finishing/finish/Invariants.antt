use Rattle.tm_strat_drafts.specs.Drafts.{AreTurned}
use Rattle.tm_strat_drafts.proofs.finishing.finish.Given as goal

abbrev pub invariant-loop-passed : goal.invariant-loop-passed
invariant-loop-passed l = AreTurned l.drafts l.root l.blocks.items l.passed
