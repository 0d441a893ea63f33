use Rattle.std.proofs.Common.{◌≡◌, Err, rules}
use Rattle.tm_syntax.specs.Design.View.{design_tree}
use Rattle.tm_report.specs.declared.ending.Bad.TheVariants.{TooLong, Choices}
use Rattle.tm_report.specs.declared.ending.Ending.TheVariants.{BadText}
use Rattle.tm_play.specs.Choices.{reading_of}
use Rattle.tm_commands.specs.Inputs.{NoScript, long_choices, bad_choices, RefusesScript, refuses_long_choices}
use Rattle.tm_commands.specs.Inputs.{refuses_bad_choices}
use Rattle.tm_commands.specs.World.{files_data}
use Rattle.tm_commands.specs.Inner.Stopping.{IsRefusal}
use Rattle.tm_commands.proofs.Loading.{refused_by}
use Rattle.tm_commands.proofs.input.load.load_script.Goals as goal

pub returns-in_default-clause-stopped : goal.returns-in_default-clause-stopped
returns-in_default-clause-stopped g c =
    let refusal : IsRefusal (NoScript (g.F.Files.contents c.args.files.now) c.args.choices.now
    (design_tree c.args.design.now)) (RefusesScript c.args.choices.now) (files_data g.F.Files c.args.files.now)
    (files_data g.F.Files c.read_file.new.files) (BadText c.args.choices.now TooLong) =
    record {
      cause = λ told. long_choices (c.in_ok-text.ensures.long (cc) told);
      named = refuses_long_choices;
      long = record { specification = λ is. cc; file = λ name is. c.in_ok-text.ensures.taken (cc) };
    } in
    refused_by c.args.choices.now (BadText c.args.choices.now TooLong) c.bad_text.result refusal
    c.bad_text.ensures

pub returns-in-Err-BadLine-clause-stopped : goal.returns-in-Err-BadLine-clause-stopped
returns-in-Err-BadLine-clause-stopped g c =
    let bad : reading_of (design_tree c.args.design.now).processes c.in-Some.text.items ≡ Err c.in-Err-BadLine.line =
    search rules in
    let refusal : IsRefusal (NoScript (g.F.Files.contents c.args.files.now) c.args.choices.now
    (design_tree c.args.design.now)) (RefusesScript c.args.choices.now) (files_data g.F.Files c.args.files.now)
    (files_data g.F.Files c.read_file.new.files) (BadText c.args.choices.now (Choices c.in-Err-BadLine.line)) =
    record {
      cause = λ told. bad_choices (record {
        text = c.in-Some.text.items;
        told = (rw c.in-Some.is at c.in_ok-text.ensures.whole) told;
        short = rw c.in-Some.is at c.in_ok-text.ensures.within;
        reads = bad;
      });
      named = refuses_bad_choices;
      long = record { specification = λ is. cc; file = λ name is. cc };
    } in
    refused_by c.args.choices.now (BadText c.args.choices.now (Choices c.in-Err-BadLine.line))
    c.bad_text-in-Err-BadLine.result refusal c.bad_text-in-Err-BadLine.ensures
