use Rattle.std.proofs.Common.{◌≡◌, List, [], ◌∷◌, append-nil, reverse, refl, sym, ap, ◌∙◌, subst}
use Rattle.std.proofs.lemmas.List.{reverse-append}
use Rattle.tm_scope.proofs.Entries.{empty_list}
use Rattle.tm_atoms.specs.Inner.Bodies.{cell_design}
use Rattle.tm_atoms.specs.declared.walk.Todo.{Todo}
use Rattle.tm_atoms.specs.Inner.Walks.{IsWalking, WalkTables, tables_of}
use Rattle.tm_atoms.proofs.WalkSteps.{lighter-stepped, walking-ended, walking-stepped}
use Rattle.tm_atoms.proofs.walk.Walk.run.Goals as goal

pub loop-todo-init : goal.loop-todo-init
loop-todo-init c = λ d over rank ranked all walking. walking

pub loop-todo-preserved : goal.loop-todo-preserved
loop-todo-preserved c = λ d over rank ranked all walking.
    walking-stepped d rank all (tables_of c.loop-todo.self) (reverse c.pop.new.self.items) c.in-Some.todo
    (tables_of c.step.new.self)
    (ap reverse c.in-Some.ensures.items ∙ reverse-append c.pop.new.self.items (c.in-Some.todo ∷ []))
    (c.loop-todo.invariant d over rank ranked all walking) (c.in_ok-step.ensures.settles d over rank ranked)

pub loop-todo-smaller : goal.loop-todo-smaller
loop-todo-smaller c =
    let d = cell_design c.args.bodies.now in
    lighter-stepped d (tables_of c.loop-todo.self) (tables_of c.step.new.self) (reverse c.pop.new.self.items)
    c.in-Some.todo (ap reverse c.in-Some.ensures.items ∙ reverse-append c.pop.new.self.items (c.in-Some.todo ∷ []))
    (c.in_ok-step.ensures.lighter d (record { text = refl; instances = refl; vars = refl }))

pub returns : goal.returns
returns c = λ d over rank ranked all walking.
    let w = c.loop-todo.self in
    let v : WalkTables = record (tables_of w) { todo = reverse c.pop.new.self.items } in
    let same : w.todo.items ≡ c.pop.new.self.items = c.in_default.ensures.items ∙ append-nil c.pop.new.self.items in
    let none : w.todo.items ≡ [] = empty_list w.todo.items (sym w.todo.ok.0 ∙ c.in_default.ensures.cases.0) in
    walking-ended d rank all v (ap reverse (sym same ∙ none))
    (subst (λ (items : List Todo). IsWalking d rank all (record (tables_of w) { todo = reverse items })) same
    (c.loop-todo.invariant d over rank ranked all walking))
