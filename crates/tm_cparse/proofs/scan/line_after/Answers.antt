use Rattle.std.proofs.Common.{arith, ap, ◌∙◌, ◌+◌}
use Rattle.std.specs.Prelude.{count_by}
use Rattle.std.proofs.lemmas.List.{take_all}
use Rattle.tm_syntax.specs.Tokens.{is_line_feed}
use Rattle.tm_cparse.proofs.Scans.{line_more}
use Rattle.tm_cparse.proofs.scan.line_after.Goals as goal

pub loop-byte-preserved : goal.loop-byte-preserved
loop-byte-preserved c =
    line_more c.args.line c.loop-byte.last c.line_behind-last.result c.args.bytes.now c.loop-byte.byte-index
    (omega arith)
    c.loop-byte.invariant c.line_behind-last.ensures

pub returns : goal.returns
returns c =
    c.loop-byte.invariant
    ∙ ap (λ l. c.args.line + count_by is_line_feed l) (take_all c.loop-byte.byte-index c.args.bytes.now (omega arith))
