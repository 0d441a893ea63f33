use Rattle.std.proofs.Common.{Option, ◌∙◌, ap, sym, map, option_map, rules, subst}
use Rattle.std.specs.String.{string_bytes}
use Rattle.tm_commands.specs.Order.{IsDue}
use Rattle.tm_commands.specs.Words.{Command, command_of, command_view}
use Rattle.tm_commands.specs.World.{OnlyCounts, files_data}
use Rattle.tm_report.specs.Output.{sink_data}
use Rattle.tm_commands.proofs.Loading.{counts_none}
use Rattle.tm_commands.proofs.Running.{unread_words_obey, usage_obeys}
use Rattle.tm_commands.proofs.obeying.obey_words.Goals as goal

pub returns-in_err-read_words-clause-obeys : goal.returns-in_err-read_words-clause-obeys
returns-in_err-read_words-clause-obeys g c =
    unread_words_obey (command_of (map string_bytes c.args.words.now)) (files_data g.F.Files c.args.files.now)
    (sink_data g.O.Sink c.args.out.now) c.from_residual.result (search rules)

pub returns-in-None-clause-obeys : goal.returns-in-None-clause-obeys
returns-in-None-clause-obeys g c =
    usage_obeys (command_of (map string_bytes c.args.words.now)) (files_data g.F.Files c.args.files.now)
    (sink_data g.O.Sink c.args.out.now)
    (ap (option_map command_view) (sym c.in-None.is) ∙ c.in_ok-read_words.ensures)

pub obey-requires : goal.obey-requires
obey-requires g c = (
  map string_bytes c.args.words.now,
  sym (ap (option_map command_view) (sym c.in-Some.is) ∙ c.in_ok-read_words.ensures),
)

pub returns-in_err-read_words-clause-counts : goal.returns-in_err-read_words-clause-counts
returns-in_err-read_words-clause-counts g c =
    counts_none (IsDue (g.F.Files.contents c.args.files.now) (command_of (map string_bytes c.args.words.now)))
    (files_data g.F.Files c.args.files.now)

pub returns-in-None-clause-counts : goal.returns-in-None-clause-counts
returns-in-None-clause-counts g c =
    counts_none (IsDue (g.F.Files.contents c.args.files.now) (command_of (map string_bytes c.args.words.now)))
    (files_data g.F.Files c.args.files.now)

pub returns-in-Some-clause-counts : goal.returns-in-Some-clause-counts
returns-in-Some-clause-counts g c =
    subst (λ (command : Option Command). OnlyCounts (IsDue (g.F.Files.contents c.args.files.now) command)
    (files_data g.F.Files c.args.files.now) (files_data g.F.Files c.obey.new.files))
    (ap (option_map command_view) (sym c.in-Some.is) ∙ c.in_ok-read_words.ensures) c.obey.ensures.counts
