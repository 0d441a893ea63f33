use Rattle.std.proofs.Common.{◌∙◌}
use Rattle.std.specs.Prelude.{IsTrue}
use Rattle.tm_report.specs.Report.{ending_text}
use Rattle.tm_report.proofs.PutLines.{err_as, ok_as}
use Rattle.tm_report.proofs.outcome.put_ending.Goals as goal

pub returns-in_ok-line-in-Play-clause-err : goal.returns-in_ok-line-in-Play-clause-err
returns-in_ok-line-in-Play-clause-err g c =
    err_as c.put_line.result (IsTrue g.O.Sink.tells) c.deref.result.now (ending_text c.args.ending.now)
    (g.O.Sink.written c.args.out.now) (g.O.Sink.written c.put_line.new.out)
    (rw c.in-Play.is (c.deref.ensures.value ∙ c.in_ok-line-in-Play.ensures)) c.put_line.ensures.err

pub returns-in_ok-line-in-Generated-clause-err : goal.returns-in_ok-line-in-Generated-clause-err
returns-in_ok-line-in-Generated-clause-err g c =
    err_as c.put_line-in-Generated.result (IsTrue g.O.Sink.tells) c.deref-in-Generated.result.now
    (ending_text c.args.ending.now) (g.O.Sink.written c.args.out.now)
    (g.O.Sink.written c.put_line-in-Generated.new.out)
    (rw c.in-Generated.is (c.deref-in-Generated.ensures.value ∙ c.in_ok-line-in-Generated.ensures))
    c.put_line-in-Generated.ensures.err

pub returns-in-Migrated-clause-ok : goal.returns-in-Migrated-clause-ok
returns-in-Migrated-clause-ok g c =
    ok_as c.put_line-in-Migrated.result (IsTrue g.O.Sink.tells) c.migrated_line.result.now
    (ending_text c.args.ending.now) (g.O.Sink.written c.args.out.now) (g.O.Sink.written c.put_line-in-Migrated.new.out)
    (rw c.in-Migrated.is c.migrated_line.ensures) c.put_line-in-Migrated.ensures.ok

pub returns-in-Migrated-clause-err : goal.returns-in-Migrated-clause-err
returns-in-Migrated-clause-err g c =
    err_as c.put_line-in-Migrated.result (IsTrue g.O.Sink.tells) c.migrated_line.result.now
    (ending_text c.args.ending.now) (g.O.Sink.written c.args.out.now) (g.O.Sink.written c.put_line-in-Migrated.new.out)
    (rw c.in-Migrated.is c.migrated_line.ensures) c.put_line-in-Migrated.ensures.err

pub returns-in_ok-line-in-Structured-clause-err : goal.returns-in_ok-line-in-Structured-clause-err
returns-in_ok-line-in-Structured-clause-err g c =
    err_as c.put_line-in-Structured.result (IsTrue g.O.Sink.tells) c.deref-in-Structured.result.now
    (ending_text c.args.ending.now) (g.O.Sink.written c.args.out.now)
    (g.O.Sink.written c.put_line-in-Structured.new.out)
    (rw c.in-Structured.is (c.deref-in-Structured.ensures.value ∙ c.in_ok-line-in-Structured.ensures))
    c.put_line-in-Structured.ensures.err

pub returns-in_ok-line-in-Unstructured-clause-err : goal.returns-in_ok-line-in-Unstructured-clause-err
returns-in_ok-line-in-Unstructured-clause-err g c =
    err_as c.put_line-in-Unstructured.result (IsTrue g.O.Sink.tells) c.deref-in-Unstructured.result.now
    (ending_text c.args.ending.now) (g.O.Sink.written c.args.out.now)
    (g.O.Sink.written c.put_line-in-Unstructured.new.out)
    (rw c.in-Unstructured.is (c.deref-in-Unstructured.ensures.value ∙ c.in_ok-line-in-Unstructured.ensures))
    c.put_line-in-Unstructured.ensures.err
