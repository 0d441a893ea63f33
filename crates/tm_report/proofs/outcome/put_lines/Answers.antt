use Rattle.std.proofs.Common.{List, ℕ, arith}
use Rattle.std.specs.Borrow.{Bor}
use Rattle.tm_play.proofs.Putting.{on_err}
use Rattle.tm_report.proofs.PutLines.{cut_within}
use Rattle.tm_report.proofs.outcome.put_lines.Goals as goal

pub returns-in_err-put_line-clause-err : goal.returns-in_err-put_line-clause-err
returns-in_err-put_line-clause-err g c =
    on_err c.from_residual.result
    (λ told. cut_within (λ (l : Bor (List ℕ)). l.now) c.args.lines.now c.loop-line.line-index _ c.as_bytes.result.now
    (g.O.Sink.written c.args.out.now) (g.O.Sink.written c.loop-line.out) (g.O.Sink.written c.put_line.new.out)
    (omega arith) c.as_bytes.ensures.value
    (c.loop-line.invariant.0 told) (c.in_err-put_line.ensures.err told))
