use Rattle.std.proofs.Common.{arith}
use Rattle.std.proofs.lemmas.Grind.{common_steps}
use Rattle.tm_play.proofs.SplitLines.{lines_at, lines_last}
use Rattle.tm_play.proofs.input.lines.split_line.Goals as goal

pub returns-then-end-text-clause-first : goal.returns-then-end-text-clause-first
returns-then-end-text-clause-first c =
    let cut = lines_at c.args.text.now c.line_end-end.result c.line_end-end.ensures (omega arith) in
    grind (arith, common_steps, cut)

pub returns-else-end-text-clause-first : goal.returns-else-end-text-clause-first
returns-else-end-text-clause-first c =
    let whole = lines_last c.args.text.now c.line_end-end.result c.line_end-end.ensures (omega arith) (cc) in
    grind (arith, common_steps, whole)
