use Rattle.std.proofs.Common.{◌≡◌, ℕ, List, rules, subst}
use Rattle.tm_syntax.specs.Design.View.{design_tree}
use Rattle.tm_cparse.specs.Faults.{HasFault}
use Rattle.tm_report.specs.declared.ending.Bad.TheVariants.{TooLong, Driver}
use Rattle.tm_report.specs.declared.ending.Ending.TheVariants.{BadText}
use Rattle.tm_commands.specs.Inputs.{NoBlocks, long_driver, bad_driver, RefusesBlocks, refuses_long_driver}
use Rattle.tm_commands.specs.Inputs.{refuses_bad_driver}
use Rattle.tm_commands.specs.World.{files_data}
use Rattle.tm_commands.specs.Inner.Stopping.{IsRefusal}
use Rattle.tm_commands.proofs.Loading.{refused_by}
use Rattle.tm_commands.proofs.input.load.load_blocks.Goals as goal

pub returns-in_default-clause-stopped : goal.returns-in_default-clause-stopped
returns-in_default-clause-stopped g c =
    let refusal : IsRefusal (NoBlocks (g.F.Files.contents c.args.files.now) c.args.driver.now
    (design_tree c.args.design.now)) (RefusesBlocks c.args.driver.now) (files_data g.F.Files c.args.files.now)
    (files_data g.F.Files c.read_file.new.files) (BadText c.args.driver.now TooLong) =
    record {
      cause = λ told. long_driver (c.in_ok-text.ensures.long (cc) told);
      named = refuses_long_driver;
      long = record { specification = λ is. cc; file = λ name is. c.in_ok-text.ensures.taken (cc) };
    } in
    refused_by c.args.driver.now (BadText c.args.driver.now TooLong) c.bad_text.result refusal c.bad_text.ensures

pub returns-in-Err-Bad-clause-stopped : goal.returns-in-Err-Bad-clause-stopped
returns-in-Err-Bad-clause-stopped g c =
    let same : c.deref.result.now ≡ c.in-Some.text.items = search rules in
    let fault : HasFault (design_tree c.args.design.now) c.deref.result.now c.in-Err-Bad.bad = search rules in
    let refusal : IsRefusal (NoBlocks (g.F.Files.contents c.args.files.now) c.args.driver.now
    (design_tree c.args.design.now)) (RefusesBlocks c.args.driver.now) (files_data g.F.Files c.args.files.now)
    (files_data g.F.Files c.read_file.new.files) (BadText c.args.driver.now (Driver c.in-Err-Bad.bad)) =
    record {
      cause = λ told. bad_driver (record {
        text = c.in-Some.text.items;
        told = (rw c.in-Some.is at c.in_ok-text.ensures.whole) told;
        short = rw c.in-Some.is at c.in_ok-text.ensures.within;
        fault = subst (λ (t : List ℕ). HasFault (design_tree c.args.design.now) t c.in-Err-Bad.bad) same
            fault;
      });
      named = refuses_bad_driver;
      long = record { specification = λ is. cc; file = λ name is. cc };
    } in
    refused_by c.args.driver.now (BadText c.args.driver.now (Driver c.in-Err-Bad.bad))
    c.bad_text-in-Err-Bad.result refusal c.bad_text-in-Err-Bad.ensures
