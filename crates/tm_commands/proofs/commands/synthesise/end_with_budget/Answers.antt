use Rattle.std.proofs.Common.{Some, [], ◌∷◌, refl}
use Rattle.tm_report.specs.Output.{sink_data}
use Rattle.tm_report.specs.Report.{budget_text}
use Rattle.tm_report.specs.declared.ending.Ending.TheVariants.{Budget}
use Rattle.tm_syntax.specs.Design.View.{design_tree}
use Rattle.tm_commands.specs.Inner.Synthesising.{spends}
use Rattle.tm_commands.specs.Synthesise.{cert_name, driver_name}
use Rattle.tm_commands.proofs.Running.{touches_none}
use Rattle.tm_commands.proofs.Synthesising.{cut_synthesises, put_synthesises}
use Rattle.tm_commands.proofs.commands.synthesise.end_with_budget.Goals as goal

pub returns-in-Ok : goal.returns-in-Ok
returns-in-Ok g c =
    λ name files. put_synthesises (design_tree c.args.design.now) (Some c.args.budget) name files files
    (budget_text (design_tree c.args.design.now) c.args.budget c.args.trace) (Budget c.args.budget c.args.trace)
    (spends c.args.budget c.args.trace refl c.requires refl)
    (touches_none [] (driver_name name ∷ cert_name name ∷ []) files) (sink_data g.O.Sink c.args.out.now)
    (sink_data g.O.Sink c.put_budget.new.out) c.put_budget.result _ c.in-Ok.is c.put_budget.ensures

pub returns-in-Err : goal.returns-in-Err
returns-in-Err g c =
    λ name files. cut_synthesises (design_tree c.args.design.now) (Some c.args.budget) name files files
    (budget_text (design_tree c.args.design.now) c.args.budget c.args.trace) (Budget c.args.budget c.args.trace)
    (spends c.args.budget c.args.trace refl c.requires refl)
    (touches_none [] (driver_name name ∷ cert_name name ∷ []) files) (sink_data g.O.Sink c.args.out.now)
    (sink_data g.O.Sink c.put_budget.new.out) c.put_budget.result c.in-Err.failure c.in-Err.is c.put_budget.ensures
