use Rattle.std.proofs.Common.{◌≡◌, rules, sym, subst}
use Rattle.tm_syntax.specs.declared.fault.Faulty.{Faulty as Fault}
use Rattle.tm_syntax.specs.Design.View.{design_tree}
use Rattle.tm_report.specs.declared.ending.Ending.TheVariants.{Faulty}
use Rattle.tm_commands.specs.Headline.{long_fault}
use Rattle.tm_commands.specs.Inputs.{NoSpecification, faulty_spec, RefusesSpecification, refuses_specification}
use Rattle.tm_commands.specs.World.{files_data}
use Rattle.tm_commands.specs.Inner.Stopping.{IsRefusal}
use Rattle.tm_commands.proofs.Loading.{long_spec}
use Rattle.tm_commands.proofs.Specifying.{text_is_read, text_refuses}
use Rattle.tm_commands.proofs.input.specification.load_specification.Goals as goal

pub returns-in_default-clause-stopped : goal.returns-in_default-clause-stopped
returns-in_default-clause-stopped g c =
    let refusal : IsRefusal (NoSpecification (g.F.Files.contents c.args.files.now) c.args.spec.now) RefusesSpecification
    (files_data g.F.Files c.args.files.now) (files_data g.F.Files c.read_file.new.files) (Faulty long_fault) =
    record {
      cause =
          λ told. faulty_spec (long_spec (g.F.Files.contents c.args.files.now) c.args.spec.now
          (c.in_ok-text.ensures.long (cc) told));
      named = refuses_specification;
      long = record { specification = λ is. c.in_ok-text.ensures.taken (cc); file = λ name is. cc };
    } in
    subst (λ (f : Fault).
    IsRefusal (NoSpecification (g.F.Files.contents c.args.files.now) c.args.spec.now) RefusesSpecification
    (files_data g.F.Files c.args.files.now) (files_data g.F.Files c.read_file.new.files)
    (Faulty f)) (sym c.long_fault.ensures) refusal

pub returns-in-Ok-clause-read : goal.returns-in-Ok-clause-read
returns-in-Ok-clause-read g c =
    let same : c.deref.result.now ≡ c.in-Some.text.items = search rules in
    text_is_read (files_data g.F.Files c.args.files.now) (files_data g.F.Files c.read_file.new.files)
    c.args.spec.now c.in-Some.text.items c.deref.result.now (rw c.in-Some.is at c.in_ok-text.ensures.whole)
    (rw c.in-Some.is at c.in_ok-text.ensures.within) same c.in-Ok.ensures.read.0 (design_tree c.in-Ok.read.design)
    c.in-Ok.ensures.read.1

pub returns-clause-stopped : goal.returns-clause-stopped
returns-clause-stopped g c =
    let same : c.deref.result.now ≡ c.in-Some.text.items = search rules in
    text_refuses (files_data g.F.Files c.args.files.now) (files_data g.F.Files c.read_file.new.files)
    c.args.spec.now c.in-Some.text.items c.deref.result.now (rw c.in-Some.is at c.in_ok-text.ensures.whole)
    (rw c.in-Some.is at c.in_ok-text.ensures.within) same c.in-Err.error c.refusal.result c.in-Err.ensures.faulty
    c.refusal.ensures
