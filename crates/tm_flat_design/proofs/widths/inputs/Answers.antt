use Rattle.std.proofs.Common.{sym, subst}
use Rattle.std.proofs.lemmas.Result.{IfOk-weaker}
use Rattle.tm_plain.specs.Machine.{IsRunnable}
use Rattle.tm_flat_design.proofs.WideInputs.{widths_are, widths_wide}
use Rattle.tm_flat_design.proofs.widths.inputs.Goals as goal

pub inputs_by-widths-requires : goal.inputs_by-widths-requires
inputs_by-widths-requires c =
    subst IsRunnable (sym c.in-Ok.ensures) (record { sound = c.requires.sound; read = c.requires.read })

pub returns-clause-widths : goal.returns-clause-widths
returns-clause-widths c =
    IfOk-weaker c.inputs_by-widths.result _ _ (widths_are c.args.design.now c.in-Ok.tables c.in-Ok.ensures)
    c.inputs_by-widths.ensures

pub returns-clause-in_range : goal.returns-clause-in_range
returns-clause-in_range c =
    let d = c.args.design.now in
    let markable = c.sound_designs_of_texts_are_markable.ensures d c.requires.sound c.requires.read in
    IfOk-weaker c.inputs_by-widths.result _ _
    (λ widths are. widths_wide d c.in-Ok.tables c.in-Ok.ensures widths are markable.values)
    c.inputs_by-widths.ensures
