use Rattle.std.proofs.Common.{◌≡◌, [], map, ap, ◌∙◌, arith}
use Rattle.std.proofs.lemmas.List.{take_all}
use Rattle.tm_scope.specs.Inner.Tables.{process_slots}
use Rattle.tm_scope.proofs.Fills.{filled_more}
use Rattle.tm_scope.proofs.scopes.bodies.bodies_of_processes.Goals as goal

pub loop-process-init : goal.loop-process-init
loop-process-init c = c.new-bodies.ensures.items

pub loop-process-preserved : goal.loop-process-preserved
loop-process-preserved c =
    let made : c.in_ok-new.field-0 ≡ process_slots c.process-item.result =
    c.in_ok-new.ensures ∙ ap (λ ls. record { params = []; locals = ls }) c.as_slice.ensures.value in
    filled_more process_slots c.args.processes.now c.loop-process.process-index c.process-item.result
    c.loop-process.bodies.items
    c.push.new.self.items c.in_ok-new.field-0 (omega arith) c.process-item.is made c.in_ok-push.ensures.items
    c.loop-process.invariant

pub returns : goal.returns
returns c =
    c.loop-process.invariant ∙ ap (map process_slots)
    (take_all c.loop-process.process-index c.args.processes.now (omega arith))
