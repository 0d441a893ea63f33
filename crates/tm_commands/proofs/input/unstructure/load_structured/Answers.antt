use Rattle.std.proofs.Common.{◌≡◌, ℕ, List, rules, subst}
use Rattle.tm_syntax.specs.Design.View.{design_tree}
use Rattle.tm_struct_parse.specs.Faults.{HasFault}
use Rattle.tm_report.specs.declared.ending.Bad.TheVariants.{TooLong, Structured}
use Rattle.tm_report.specs.declared.ending.Ending.TheVariants.{BadText}
use Rattle.tm_commands.specs.Inputs.{NoStructured, long_struct, bad_struct, RefusesStructured, refuses_long_struct}
use Rattle.tm_commands.specs.Inputs.{refuses_bad_struct}
use Rattle.tm_commands.specs.World.{files_data}
use Rattle.tm_commands.specs.Inner.Stopping.{IsRefusal}
use Rattle.tm_commands.proofs.Loading.{refused_by}
use Rattle.tm_commands.proofs.input.unstructure.load_structured.Goals as goal

pub returns-in_default-clause-stopped : goal.returns-in_default-clause-stopped
returns-in_default-clause-stopped g c =
    let refusal : IsRefusal (NoStructured (g.F.Files.contents c.args.files.now) c.args.structured.now
    (design_tree c.args.design.now)) (RefusesStructured c.args.structured.now)
    (files_data g.F.Files c.args.files.now) (files_data g.F.Files c.read_file.new.files)
    (BadText c.args.structured.now TooLong) =
    record {
      cause = λ told. long_struct (c.in_ok-text.ensures.long (cc) told);
      named = refuses_long_struct;
      long = record { specification = λ is. cc; file = λ name is. c.in_ok-text.ensures.taken (cc) };
    } in
    refused_by c.args.structured.now (BadText c.args.structured.now TooLong) c.bad_text.result refusal
    c.bad_text.ensures

pub returns-in-Err-Bad-clause-stopped : goal.returns-in-Err-Bad-clause-stopped
returns-in-Err-Bad-clause-stopped g c =
    let same : c.deref.result.now ≡ c.in-Some.text.items = search rules in
    let fault : HasFault (design_tree c.args.design.now) c.deref.result.now c.in-Err-Bad.bad = search rules in
    let refusal : IsRefusal (NoStructured (g.F.Files.contents c.args.files.now) c.args.structured.now
    (design_tree c.args.design.now)) (RefusesStructured c.args.structured.now)
    (files_data g.F.Files c.args.files.now) (files_data g.F.Files c.read_file.new.files)
    (BadText c.args.structured.now (Structured c.in-Err-Bad.bad)) =
    record {
      cause = λ told. bad_struct (record {
        text = c.in-Some.text.items;
        told = (rw c.in-Some.is at c.in_ok-text.ensures.whole) told;
        short = rw c.in-Some.is at c.in_ok-text.ensures.within;
        fault = subst (λ (t : List ℕ). HasFault (design_tree c.args.design.now) t c.in-Err-Bad.bad) same
            fault;
      });
      named = refuses_bad_struct;
      long = record { specification = λ is. cc; file = λ name is. cc };
    } in
    refused_by c.args.structured.now (BadText c.args.structured.now (Structured c.in-Err-Bad.bad))
    c.bad_text-in-Err-Bad.result refusal c.bad_text-in-Err-Bad.ensures
