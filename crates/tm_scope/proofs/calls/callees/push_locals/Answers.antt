use Rattle.std.proofs.Common.{◌+◌, drop, arith}
use Rattle.std.specs.List.{filter_map}
use Rattle.std.proofs.lemmas.List.{at_drop_all}
use Rattle.tm_syntax.specs.Scopes.Parts.{value_calls}
use Rattle.tm_syntax.specs.Tree.View.{local_tree}
use Rattle.tm_scope.specs.Marks.{marked_number}
use Rattle.tm_scope.proofs.CalleeRows.{grown, grown_all, local_numbers, local_numbers-more}
use Rattle.tm_scope.proofs.calls.callees.push_locals.Goals as goal

pub loop-local-preserved : goal.loop-local-preserved
loop-local-preserved c =
    let number = marked_number c.args.calls.now in
    let xs = c.args.locals.now in
    let i = c.loop-local.local-index in
    let x = c.local-item.result in
    grown c.loop-local.all.items (filter_map number (value_calls (local_tree x).value))
    (local_numbers number (drop (i + 1) xs)) (local_numbers number (drop i xs)) _ _ c.loop-local.invariant
    (local_numbers-more number xs i x (omega arith) c.local-item.is) c.in_ok-push_value.ensures

pub returns : goal.returns
returns c =
    let number = marked_number c.args.calls.now in
    let xs = c.args.locals.now in
    let i = c.loop-local.local-index in
    grown_all _ (local_numbers number (drop i xs)) c.loop-local.all.items c.loop-local.invariant
    (at_drop_all (local_numbers number) xs i (omega arith))
