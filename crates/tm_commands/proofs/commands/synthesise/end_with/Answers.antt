use Rattle.std.proofs.Common.{Option, ℕ, subst, sym}
use Rattle.tm_report.specs.Output.{sink_data}
use Rattle.tm_syntax.specs.Design.View.{design_tree}
use Rattle.tm_synth.specs.Found.{IsFound, KeepsTo}
use Rattle.tm_synth.specs.declared.found.Synthesis.{Synthesis}
use Rattle.tm_commands.specs.Inner.Synthesising.{Synthesises}
use Rattle.tm_commands.specs.World.{files_data}
use Rattle.tm_commands.proofs.commands.synthesise.end_with.Goals as goal

pub end_with_driver-requires-clause-found : goal.end_with_driver-requires-clause-found
end_with_driver-requires-clause-found g c =
    subst (λ (s : Synthesis). IsFound (design_tree c.args.design.now) c.args.budget s) c.in-Driver.is c.requires.found

pub returns-in-Driver : goal.returns-in-Driver
returns-in-Driver g c =
    c.end_with_driver.ensures c.args.budget
    (subst (λ (s : Synthesis). KeepsTo c.args.budget s) c.in-Driver.is c.requires.within)

pub end_with_environment-requires : goal.end_with_environment-requires
end_with_environment-requires g c =
    subst (λ (s : Synthesis). IsFound (design_tree c.args.design.now) c.args.budget s) c.in-Environment.is
    c.requires.found

pub returns-in-Environment : goal.returns-in-Environment
returns-in-Environment g c =
    c.end_with_environment.ensures c.args.budget
    (subst (λ (s : Synthesis). KeepsTo c.args.budget s) c.in-Environment.is c.requires.within)

pub returns-in-Some : goal.returns-in-Some
returns-in-Some g c =
    subst
    (λ (budget : Option ℕ). Synthesises (design_tree c.args.design.now) budget c.args.name.now
    (files_data g.F.Files c.args.files.now) (files_data g.F.Files c.args.files.now)
    (sink_data g.O.Sink c.args.out.now) (sink_data g.O.Sink c.end_with_budget.new.out) c.end_with_budget.result)
    (sym c.in-Some.is) (c.end_with_budget.ensures c.args.name.now (files_data g.F.Files c.args.files.now))
