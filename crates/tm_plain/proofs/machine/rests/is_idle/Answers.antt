use Rattle.std.proofs.Common.{[], ap, sym, ◌∙◌}
use Rattle.tm_syntax.specs.Tree.View.{local_tree, stmt_tree}
use Rattle.tm_locations.specs.Locations.{work_stmts}
use Rattle.tm_plain_bodies.specs.Frames.{local_stmt}
use Rattle.tm_plain.proofs.Empties.{empty_so, filled_so}
use Rattle.tm_plain.proofs.Working.{nothing_mapped, something_mapped}
use Rattle.tm_plain.proofs.machine.rests.is_idle.Goals as goal

pub returns-in-Locals-clause-idle : goal.returns-in-Locals-clause-idle
returns-in-Locals-clause-idle c = λ is.
    let ls = c.in-Locals.locals.now in
    ap work_stmts c.in-Locals.is
    ∙ nothing_mapped local_stmt _ (nothing_mapped local_tree ls (empty_so ls c.is_empty.result c.is_empty.ensures is))

pub returns-in-Locals-clause-filled : goal.returns-in-Locals-clause-filled
returns-in-Locals-clause-filled c = λ is none.
    let ls = c.in-Locals.locals.now in
    something_mapped local_stmt _ (something_mapped local_tree ls
    (filled_so ls c.is_empty.result c.is_empty.ensures is)) (sym (ap work_stmts c.in-Locals.is) ∙ none)

pub returns-in-Stmts-clause-idle : goal.returns-in-Stmts-clause-idle
returns-in-Stmts-clause-idle c = λ is.
    let ss = c.in-Stmts.stmts.now in
    ap work_stmts c.in-Stmts.is
    ∙ nothing_mapped stmt_tree ss (empty_so ss c.is_empty-in-Stmts.result c.is_empty-in-Stmts.ensures is)

pub returns-in-Stmts-clause-filled : goal.returns-in-Stmts-clause-filled
returns-in-Stmts-clause-filled c = λ is none.
    let ss = c.in-Stmts.stmts.now in
    something_mapped stmt_tree ss (filled_so ss c.is_empty-in-Stmts.result c.is_empty-in-Stmts.ensures is)
    (sym (ap work_stmts c.in-Stmts.is) ∙ none)

pub returns-in-Assume-clause-filled : goal.returns-in-Assume-clause-filled
returns-in-Assume-clause-filled c = λ is none.
    let nothing = sym (ap work_stmts c.in-Assume.is) ∙ none in cc
