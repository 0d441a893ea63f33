use Rattle.std.proofs.Common.{[], ◌∷◌, None, map, ap, refl, arith}
use Rattle.tm_syntax.specs.Tree.{assign}
use Rattle.tm_syntax.specs.Tree.View.{local_tree, value_tree}
use Rattle.tm_syntax.specs.Scopes.Parts.{all_stmts}
use Rattle.tm_scope.proofs.Entries.{empty_list}
use Rattle.tm_scope.specs.Cells.{scope_of}
use Rattle.tm_atoms.specs.declared.walk.Row.TheVariants.{Locals}
use Rattle.tm_atoms.specs.Inner.Walks.{WalkTables, tables_of}
use Rattle.tm_atoms.proofs.WalkSteps.{first-split, lighter-locals, part-some, settles-empty, settles-locals}
use Rattle.tm_atoms.proofs.walk.Walk.walk_locals.Goals as goal

pub returns-in_default-clause-settles : goal.returns-in_default-clause-settles
returns-in_default-clause-settles c = λ d over rank ranked.
    settles-empty d rank (tables_of c.args.self.now) (scope_of c.args.scope) _
    (ap (λ ls. all_stmts (map (λ l. assign (l.name ∷ []) None l.value) (map local_tree ls)))
    (empty_list c.args.locals.now (omega arith)))

pub returns-in_default-clause-lighter : goal.returns-in_default-clause-lighter
returns-in_default-clause-lighter c = λ d over. part-some d (tables_of c.args.self.now) (Locals c.args.locals)

pub returns-clause-settles : goal.returns-clause-settles
returns-clause-settles c = λ d over rank ranked.
    let w : WalkTables = tables_of c.args.self.now in
    let u : WalkTables = tables_of c.leave.new.self in
    let v : WalkTables = tables_of c.walk_value.new.self in
    let first = c.first-item.result in
    settles-locals d rank w u v c.args.scope c.args.locals _ first
    (first-split c.args.locals.now first (omega arith) c.first-item.is) c.in_ok-leave.ensures
    (c.in_ok-walk_value.ensures.settles d over rank ranked
    (assign (first.name ∷ []) None (value_tree first.value)) refl refl)

pub returns-clause-lighter : goal.returns-clause-lighter
returns-clause-lighter c = λ d over.
    let w : WalkTables = tables_of c.args.self.now in
    let u : WalkTables = tables_of c.leave.new.self in
    let v : WalkTables = tables_of c.walk_value.new.self in
    lighter-locals d w u v c.args.scope c.args.locals _ c.first-item.result
    (first-split c.args.locals.now c.first-item.result (omega arith) c.first-item.is) c.in_ok-leave.ensures
    (c.in_ok-walk_value.ensures.lighter d over)
