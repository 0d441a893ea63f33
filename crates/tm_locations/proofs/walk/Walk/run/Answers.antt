use Rattle.std.proofs.Common.{◌≡◌, refl, sym, ap, ◌∙◌}
use Rattle.tm_scope.proofs.Entries.{empty_list}
use Rattle.tm_scope.specs.Instances.{bare_design}
use Rattle.tm_locations.specs.Inner.Walks.{WalkTables, tables_of}
use Rattle.tm_locations.proofs.WalkParts.{lighter-stepped, walking-ended, walking-stepped}
use Rattle.tm_locations.proofs.walk.Walk.run.Goals as goal

pub loop-todo-init : goal.loop-todo-init
loop-todo-init c = λ d over by_text all walking. walking

pub loop-todo-preserved : goal.loop-todo-preserved
loop-todo-preserved c = λ d over by_text all walking.
    let w : WalkTables = tables_of c.loop-todo.self in
    let v : WalkTables = record w { todo = c.pop.new.self.items } in
    walking-stepped d w v (tables_of c.step.new.self) c.in-Some.todo all
    (ap (λ todo. record w { todo = todo }) c.in-Some.ensures.items) (c.loop-todo.invariant d over by_text all walking)
    (c.in_ok-step.ensures.settles d over by_text)

pub loop-todo-smaller : goal.loop-todo-smaller
loop-todo-smaller c =
    let w : WalkTables = tables_of c.loop-todo.self in
    let v : WalkTables = record w { todo = c.pop.new.self.items } in
    let d = bare_design c.args.callees.now in
    lighter-stepped d w v (tables_of c.step.new.self) c.in-Some.todo
    (ap (λ todo. record w { todo = todo }) c.in-Some.ensures.items)
    (c.in_ok-step.ensures.lighter d (record { text = refl; instances = refl }))

pub returns : goal.returns
returns c = λ d over by_text all walking.
    let w = c.loop-todo.self in
    let none : w.todo.len ≡ 0 = c.in_default.ensures.cases.0 in
    walking-ended d (tables_of w) all (empty_list w.todo.items (sym w.todo.ok.0 ∙ none))
    (c.loop-todo.invariant d over by_text all walking)
