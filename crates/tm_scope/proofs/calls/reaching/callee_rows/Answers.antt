use Rattle.std.proofs.Common.{◌<◌, ◌++◌, ◌∷◌, [], get_or, length, map, sym, take, ap, ◌∙◌}
use Rattle.std.proofs.lemmas.List.{take_more}
use Rattle.tm_syntax.specs.declared.member.Member.{Member}
use Rattle.tm_scope.specs.Graph.{graph_of}
use Rattle.tm_scope.specs.Inner.CallGraphs.{callees_at}
use Rattle.tm_scope.proofs.Entries.{map-push}
use Rattle.tm_scope.proofs.calls.reaching.callee_rows.Goals as goal

pub loop-caller-preserved : goal.loop-caller-preserved
loop-caller-preserved c =
    let row = callees_at c.args.scopes.now c.args.tasks.now in
    let callers = c.args.callers.now in
    let i = c.loop-caller.caller-index in
    let m : Member = get_or callers i (record { template = 0; index = 0 }) in
    let within : i < length callers = c.loop-caller-test.true in
    let new = c.in_ok-task_callees.field-0 in
    ap graph_of c.in_ok-push.ensures.items
    ∙ map-push (λ r. r.items) c.loop-caller.rows.items new
    ∙ (λ k. c.loop-caller.invariant k ++ c.in_ok-task_callees.ensures k ∷ [])
    ∙ sym (ap (map row) (take_more callers i (record { template = 0; index = 0 }) within)
    ∙ map-push row (take i callers) m)
