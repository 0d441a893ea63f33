use Rattle.std.proofs.Common.{sym, subst}
use Rattle.std.proofs.lemmas.Result.{on_ok_weaker}
use Rattle.tm_scope.specs.Cells.{scope_of}
use Rattle.tm_atoms.specs.declared.walk.Row.{Row}
use Rattle.tm_atoms.specs.Inner.Walks.{Settles, part_stmts, tables_of}
use Rattle.tm_atoms.proofs.walk.Walk.step.Goals as goal

pub returns-in-Locals-clause-settles : goal.returns-in-Locals-clause-settles
returns-in-Locals-clause-settles c =
    on_ok_weaker c.walk_locals.result (λ h d over rank ranked.
    subst (λ (row : Row). Settles d rank (tables_of c.args.self.now) (tables_of c.walk_locals.new.self)
    (scope_of c.args.todo.scope) (part_stmts row)) (sym c.in-Locals.is) (h d over rank ranked))
    c.walk_locals.ensures.settles

pub returns-in-Stmts-clause-settles : goal.returns-in-Stmts-clause-settles
returns-in-Stmts-clause-settles c =
    on_ok_weaker c.walk_row.result (λ h d over rank ranked.
    subst (λ (row : Row). Settles d rank (tables_of c.args.self.now) (tables_of c.walk_row.new.self)
    (scope_of c.args.todo.scope) (part_stmts row)) (sym c.in-Stmts.is) (h d over rank ranked))
    c.walk_row.ensures.settles

pub returns-in-Blocks-clause-settles : goal.returns-in-Blocks-clause-settles
returns-in-Blocks-clause-settles c =
    on_ok_weaker c.walk_blocks.result (λ h d over rank ranked.
    subst (λ (row : Row). Settles d rank (tables_of c.args.self.now) (tables_of c.walk_blocks.new.self)
    (scope_of c.args.todo.scope) (part_stmts row)) (sym c.in-Blocks.is) (h d rank)) c.walk_blocks.ensures.settles
