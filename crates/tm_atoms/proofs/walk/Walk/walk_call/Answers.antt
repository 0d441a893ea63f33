use Rattle.std.proofs.Common.{◌≡◌, Bool, true, false, not, sym, ◌∙◌, arith, true≢false}
use Rattle.std.proofs.lemmas.Result.{on_ok_weaker}
use Rattle.tm_syntax.specs.Tree.View.{body_tree}
use Rattle.tm_scope.specs.Cells.{scope_of}
use Rattle.tm_atoms.specs.Inner.Walks.{WalkTables, has_entered, tables_of}
use Rattle.tm_atoms.proofs.WalkCalls.{lighter-entered, lighter-entering, settles-entered, settles-entering, settles-uncalled}
use Rattle.tm_atoms.proofs.walk.Walk.walk_call.Goals as goal

-- what is new was not there
was-absent : (new there : Bool) → new ≡ not there → new ≡ true → there ≡ false
was-absent new true is e = absurd (true≢false (sym e ∙ is))
was-absent new false is e = cc

-- what is not new was there
was-there : (new there : Bool) → new ≡ not there → new ≡ false → there ≡ true
was-there new true is e = cc
was-there new false is e = absurd (true≢false (sym is ∙ e))

pub returns-in_default-clause-settles : goal.returns-in_default-clause-settles
returns-in_default-clause-settles c = λ d over rank ranked s conditions calls.
    settles-uncalled d rank (tables_of c.args.self.now) (scope_of c.args.scope) c.args.path.now s conditions calls
    (c.in_default.ensures.none d over (scope_of c.args.scope).body)

pub returns-in_default-clause-lighter : goal.returns-in_default-clause-lighter
returns-in_default-clause-lighter c = λ d over. omega arith

pub returns-then-is_new-clause-settles : goal.returns-then-is_new-clause-settles
returns-then-is_new-clause-settles c =
    let w : WalkTables = tables_of c.args.self.now in
    let task = c.in-Some.called.task in
    on_ok_weaker c.enter.result (λ h d over rank ranked s conditions calls.
    settles-entering d rank w (scope_of c.args.scope) c.args.path.now s conditions calls task
    (body_tree c.in-Some.called.body.now) (c.in-Some.ensures.called d over (scope_of c.args.scope).body)
    c.insert_full.new.self.keys c.in_ok-is_new.ensures.keys ranked
    (was-absent c.in_ok-is_new.is_new (has_entered w.entered task) c.in_ok-is_new.ensures.added c.if-is_new.true)
    (tables_of c.enter.new.self) (h d rank)) c.enter.ensures.settles

pub returns-then-is_new-clause-lighter : goal.returns-then-is_new-clause-lighter
returns-then-is_new-clause-lighter c =
    let w : WalkTables = tables_of c.args.self.now in
    let task = c.in-Some.called.task in
    on_ok_weaker c.enter.result (λ h d over.
    lighter-entering d w task c.insert_full.new.self.keys c.in_ok-is_new.ensures.keys (scope_of c.args.scope)
    c.args.path.now (body_tree c.in-Some.called.body.now)
    (c.in-Some.ensures.called d over (scope_of c.args.scope).body)
    (was-absent c.in_ok-is_new.is_new (has_entered w.entered task) c.in_ok-is_new.ensures.added c.if-is_new.true)
    (tables_of c.enter.new.self) (h d)) c.enter.ensures.weight

pub returns-else-is_new-clause-settles : goal.returns-else-is_new-clause-settles
returns-else-is_new-clause-settles c = λ d over rank ranked s conditions calls.
    let w : WalkTables = tables_of c.args.self.now in
    let task = c.in-Some.called.task in
    settles-entered d rank w (scope_of c.args.scope) c.args.path.now s conditions calls task
    (body_tree c.in-Some.called.body.now) (c.in-Some.ensures.called d over (scope_of c.args.scope).body)
    c.insert_full.new.self.keys c.in_ok-is_new.ensures.keys
    (was-there c.in_ok-is_new.is_new (has_entered w.entered task) c.in_ok-is_new.ensures.added c.if-is_new.false)

pub returns-else-is_new-clause-lighter : goal.returns-else-is_new-clause-lighter
returns-else-is_new-clause-lighter c = λ d over.
    let w : WalkTables = tables_of c.args.self.now in
    let task = c.in-Some.called.task in
    lighter-entered d w task c.insert_full.new.self.keys c.in_ok-is_new.ensures.keys
    (was-there c.in_ok-is_new.is_new (has_entered w.entered task) c.in_ok-is_new.ensures.added c.if-is_new.false)
