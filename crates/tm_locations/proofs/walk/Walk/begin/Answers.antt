use Rattle.std.proofs.Common.{◌∙◌, sym, ap, refl, subst, []}
use Rattle.tm_syntax.specs.Tree.View.{body_tree}
use Rattle.tm_scope.specs.Cells.{scope_of}
use Rattle.tm_locations.specs.Inner.Walks.{WalkTables, IsWalking, call_locations, tables_of}
use Rattle.tm_locations.specs.declared.walk.Frame.{Frame}
use Rattle.tm_locations.specs.declared.walk.Row.TheVariants.{Stmts}
use Rattle.tm_locations.proofs.QuietBodies.{locals-quiet}
use Rattle.tm_locations.proofs.WalkParts.{of_row, walking-begun}
use Rattle.tm_locations.proofs.walk.Walk.begin.Goals as goal

pub returns : goal.returns
returns c = λ d deep.
    let w : WalkTables = tables_of c.args.self.now in
    let v : WalkTables = tables_of c.leave.new.self in
    let frame : Frame = record { scope = c.args.scope; trail = 0; depth = c.args.depth } in
    let body = body_tree c.args.body.now in
    subst (λ ls. IsWalking d v [] ls)
    (ap (λ ss. of_row d frame ss [] []) c.as_slice.ensures.value
    ∙ sym (locals-quiet (call_locations c.args.depth d (scope_of c.args.scope) []) (scope_of c.args.scope) []
    body.locals body.stmts []))
    (walking-begun d w v frame (Stmts c.as_slice.result) c.requires c.in_ok-leave.ensures refl deep)
