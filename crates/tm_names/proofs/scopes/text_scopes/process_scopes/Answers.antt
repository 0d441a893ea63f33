use Rattle.std.proofs.Common.{List, [], map, sym, subst, arith}
use Rattle.std.proofs.lemmas.List.{take_all}
use Rattle.tm_syntax.specs.declared.tree.ProcessDef.{ProcessDef}
use Rattle.tm_syntax.specs.Tree.View.{process_tree}
use Rattle.tm_names.specs.declared.scopes.scope.Scope.{Scope}
use Rattle.tm_names.specs.TextScopes.{Each, none, IsProcessScope}
use Rattle.tm_names.proofs.ScopeLists.{each_more}
use Rattle.tm_names.proofs.scopes.text_scopes.process_scopes.Goals as goal

pub loop-process-init : goal.loop-process-init
loop-process-init c = λ around is.
    subst (λ (ys : List Scope). Each (IsProcessScope around c.args.members.now) [] ys)
    (sym c.new-scopes.ensures.items) none

pub loop-process-preserved : goal.loop-process-preserved
loop-process-preserved c = λ around is.
    each_more (IsProcessScope around c.args.members.now) process_tree c.args.processes.now c.loop-process.process-index
    c.process-item.result c.loop-process.scopes.items c.push.new.self.items c.in_ok-process_scope.field-0
    (omega (arith, c.loop-process-test.true)) c.process-item.is c.in_ok-push.ensures.items
    (c.in_ok-process_scope.ensures around is) (c.loop-process.invariant around is)

pub returns : goal.returns
returns c = λ around is.
    subst (λ (xs : List ProcessDef). Each (IsProcessScope around c.args.members.now) (map process_tree xs)
    c.loop-process.scopes.items)
    (take_all c.loop-process.process-index c.args.processes.now (omega (arith, c.loop-process-test.false)))
    (c.loop-process.invariant around is)
