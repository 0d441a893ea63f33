use Rattle.std.proofs.Common.{rules}
use Rattle.tm_cir.specs.View.{truth_tree}
use Rattle.tm_cparse.specs.View.{tokens_of}
use Rattle.tm_cparse.specs.Inner.Parts.{part_tree}
use Rattle.tm_cparse.proofs.Readings.{moved_close, closed_fits, refused_close}
use Rattle.tm_cparse.proofs.expression.close.Goals as goal

pub returns-in-Err-clause-refused : goal.returns-in-Err-clause-refused
returns-in-Err-clause-refused c =
    let h = refused_close (part_tree c.args.part) (truth_tree c.args.operand) c.args.spots.now _ c.requires.closes
    c.requires.operand c.in-Err.ensures.refused in
    search rules

pub returns-in_ok-closed-in-Ok-clause-moved : goal.returns-in_ok-closed-in-Ok-clause-moved
returns-in_ok-closed-in-Ok-clause-moved c = λ root ps.
    moved_close root ps (part_tree c.args.part) (truth_tree c.args.operand) (truth_tree c.in_ok-closed-in-Ok.field-0)
    (tokens_of c.args.spots.now) (tokens_of c.in-Ok.rest.now) c.in_ok-closed-in-Ok.ensures c.in-Ok.ensures.taken

pub returns-in_ok-closed-in-Ok-clause-operand : goal.returns-in_ok-closed-in-Ok-clause-operand
returns-in_ok-closed-in-Ok-clause-operand c = λ root ps fit.
    closed_fits root ps (part_tree c.args.part) (truth_tree c.args.operand) (truth_tree c.in_ok-closed-in-Ok.field-0)
    c.requires.closes fit c.requires.operand c.in_ok-closed-in-Ok.ensures
