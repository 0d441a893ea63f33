use Rattle.std.proofs.Common.{◌≡◌, ◌++◌, length, refl, sym, ◌∙◌, subst}
use Rattle.std.proofs.lemmas.Bool.{eqb-true}
use Rattle.tm_syntax.specs.Tree.{row_of}
use Rattle.tm_syntax.specs.Tree.View.{stmt_trees}
use Rattle.tm_syntax.specs.Design.Work.{performs}
use Rattle.tm_scope.specs.Cells.{scope_of}
use Rattle.tm_scope.proofs.Entries.{empty_list}
use Rattle.tm_locations.specs.Inner.Walks.{tables_of}
use Rattle.tm_locations.specs.Locations.{IsRest}
use Rattle.tm_locations.proofs.WalkSteps.{grown-same, performs-row}
use Rattle.tm_locations.proofs.walk.Walk.rest_of_row.Goals as goal

pub returns-then-is_empty-clause-grown : goal.returns-then-is_empty-clause-grown
returns-then-is_empty-clause-grown c = grown-same (tables_of c.args.self.now) (tables_of c.args.self.now) refl

pub returns-then-is_empty-clause-work : goal.returns-then-is_empty-clause-work
returns-then-is_empty-clause-work c = λ trail items it ir.
    let none : length c.args.others.now ≡ 0 =
    eqb-true (length c.args.others.now) 0 (sym c.is_empty.ensures ∙ c.if-is_empty.true) in
    subst (λ l. IsRest c.args.self.now.trails.keys c.args.self.now.rests.items c.args.after
    (performs (scope_of c.args.frame.scope) trail (row_of (stmt_trees l)) ++ items))
    (sym (empty_list c.args.others.now none)) ir

pub returns-clause-work : goal.returns-clause-work
returns-clause-work c = λ trail items it ir.
    subst (λ front. IsRest c.rest.new.self.trails.keys c.rest.new.self.rests.items c.in_ok-number.number
    (front ++ items)) (performs-row (scope_of c.args.frame.scope) trail (stmt_trees c.args.others.now))
    (c.in_ok-number.ensures.work trail items it ir)
