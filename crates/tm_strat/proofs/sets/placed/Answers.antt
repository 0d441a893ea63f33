use Rattle.std.proofs.Common.{rules}
use Rattle.tm_strat.proofs.Carrying.{parts_known}
use Rattle.tm_strat.proofs.sets.placed.Goals as goal

pub compose-requires-clause-parts : goal.compose-requires-clause-parts
compose-requires-clause-parts c =
    parts_known c.args.game.now.diagrams.table c.args.parts.now (search rules)
