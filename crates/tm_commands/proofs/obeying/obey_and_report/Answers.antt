use Rattle.std.proofs.Common.{map, sym, subst, Result}
use Rattle.std.specs.String.{string_bytes}
use Rattle.tm_report.specs.declared.ending.Ending.{Ending}
use Rattle.tm_report.specs.declared.ending.Failure.{Failure}
use Rattle.tm_commands.specs.Words.{command_of}
use Rattle.tm_commands.specs.World.{files_data}
use Rattle.tm_report.specs.Output.{sink_data}
use Rattle.tm_commands.proofs.Accepting.{accepts_good, accepts_lost}
use Rattle.tm_commands.proofs.Finding.{always_decides, finds_good, finds_lost, traces_honestly}
use Rattle.tm_commands.proofs.Reporting.{Keeps, keeps_whole, keeps_cut}
use Rattle.tm_commands.proofs.obeying.obey_and_report.Goals as goal

pub returns-in-Ok : goal.returns-in-Ok
returns-in-Ok g c =
    let kept = subst (λ (o : Result Ending Failure). Keeps (command_of (map string_bytes c.args.words.now))
    (files_data g.F.Files c.args.files.now) (files_data g.F.Files c.obey_words-outcome.new.files)
    (sink_data g.O.Sink c.args.out.now) (sink_data g.O.Sink c.put_outcome.new.out) o) (sym c.status_of.ensures)
    (keeps_whole (command_of (map string_bytes c.args.words.now)) (files_data g.F.Files c.args.files.now)
    (files_data g.F.Files c.obey_words-outcome.new.files) g.O.Sink c.args.out.now c.obey_words-outcome.new.out
    c.put_outcome.new.out c.obey_words-outcome.result c.obey_words-outcome.ensures.obeys c.in-Ok.ensures.ok
    c.put_outcome.ensures.no_fewer_faults) in record {
      cause = kept.cause;
      complete = kept.complete;
      found_good = finds_good (command_of (map string_bytes c.args.words.now)) (files_data g.F.Files c.args.files.now)
          (files_data g.F.Files c.obey_words-outcome.new.files) _ kept.possible kept.files;
      found_lost = finds_lost (command_of (map string_bytes c.args.words.now)) (files_data g.F.Files c.args.files.now)
          (files_data g.F.Files c.obey_words-outcome.new.files) _ kept.possible kept.files;
      decided = always_decides (files_data g.F.Files c.args.files.now)
          (files_data g.F.Files c.obey_words-outcome.new.files) (sink_data g.O.Sink c.args.out.now)
          (sink_data g.O.Sink c.put_outcome.new.out) (command_of (map string_bytes c.args.words.now)) _ kept.cause
          kept.fault;
      traced = traces_honestly (command_of (map string_bytes c.args.words.now)) (files_data g.F.Files c.args.files.now)
          (files_data g.F.Files c.obey_words-outcome.new.files) _ kept.possible kept.files kept.cause;
      good = accepts_good (command_of (map string_bytes c.args.words.now)) (files_data g.F.Files c.args.files.now) _
          kept.cause kept.possible;
      lost = accepts_lost (command_of (map string_bytes c.args.words.now)) (files_data g.F.Files c.args.files.now) _
          kept.cause kept.possible;
      possible = kept.possible;
      long = kept.long;
      fault = kept.fault;
      order = c.obey_words-outcome.ensures.counts;
      no_fewer_faults = kept.no_fewer_faults;
      report = kept.report;
      last_line = kept.last_line;
      files = kept.files;
    }

pub returns-in-Err : goal.returns-in-Err
returns-in-Err g c =
    let kept = subst (λ (o : Result Ending Failure). Keeps (command_of (map string_bytes c.args.words.now))
    (files_data g.F.Files c.args.files.now) (files_data g.F.Files c.obey_words-outcome.new.files)
    (sink_data g.O.Sink c.args.out.now) (sink_data g.O.Sink c.put_outcome.new.out) o) (sym c.status_of-in-Err.ensures)
    (keeps_cut (command_of (map string_bytes c.args.words.now)) (files_data g.F.Files c.args.files.now)
    (files_data g.F.Files c.obey_words-outcome.new.files) g.O.Sink c.args.out.now c.obey_words-outcome.new.out
    c.put_outcome.new.out c.obey_words-outcome.result c.in-Err.failure c.obey_words-outcome.ensures.obeys
    c.in-Err.ensures.err c.in-Err.ensures.failure c.in-Err.ensures.told
    c.put_outcome.ensures.no_fewer_faults) in record {
      cause = kept.cause;
      complete = kept.complete;
      found_good = finds_good (command_of (map string_bytes c.args.words.now)) (files_data g.F.Files c.args.files.now)
          (files_data g.F.Files c.obey_words-outcome.new.files) _ kept.possible kept.files;
      found_lost = finds_lost (command_of (map string_bytes c.args.words.now)) (files_data g.F.Files c.args.files.now)
          (files_data g.F.Files c.obey_words-outcome.new.files) _ kept.possible kept.files;
      decided = always_decides (files_data g.F.Files c.args.files.now)
          (files_data g.F.Files c.obey_words-outcome.new.files) (sink_data g.O.Sink c.args.out.now)
          (sink_data g.O.Sink c.put_outcome.new.out) (command_of (map string_bytes c.args.words.now)) _ kept.cause
          kept.fault;
      traced = traces_honestly (command_of (map string_bytes c.args.words.now)) (files_data g.F.Files c.args.files.now)
          (files_data g.F.Files c.obey_words-outcome.new.files) _ kept.possible kept.files kept.cause;
      good = accepts_good (command_of (map string_bytes c.args.words.now)) (files_data g.F.Files c.args.files.now) _
          kept.cause kept.possible;
      lost = accepts_lost (command_of (map string_bytes c.args.words.now)) (files_data g.F.Files c.args.files.now) _
          kept.cause kept.possible;
      possible = kept.possible;
      long = kept.long;
      fault = kept.fault;
      order = c.obey_words-outcome.ensures.counts;
      no_fewer_faults = kept.no_fewer_faults;
      report = kept.report;
      last_line = kept.last_line;
      files = kept.files;
    }
