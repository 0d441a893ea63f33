use Rattle.std.proofs.Common.{◌≡◌, List, map, ap, ◌∙◌}
use Rattle.std.specs.List.{flat_map}
use Rattle.tm_syntax.specs.declared.tree.LocalDef.{LocalDef}
use Rattle.tm_syntax.specs.declared.tree.Stmt.{Stmt}
use Rattle.tm_syntax.specs.Tree.View.{local_tree, stmt_trees}
use Rattle.tm_syntax.specs.Scopes.Parts.{all_stmts}
use Rattle.tm_scope.specs.Marks.{is_marked}
use Rattle.tm_types.specs.Firsts.{first_of}
use Rattle.tm_types.specs.Inner.Crossings.{locations_of, pausing_local}
use Rattle.tm_types.proofs.crossings.locations.first_location.Goals as goal

pub returns : goal.returns
returns c =
    let called = is_marked c.args.calls.now in
    let body = c.args.body.now in
    let of_locals = λ (ls : List LocalDef). first_of (flat_map (pausing_local called) (map local_tree ls)) in
    let of_stmts = λ (ss : List Stmt). first_of (flat_map (locations_of called) (all_stmts (stmt_trees ss))) in
    let in_locals : c.locals_location-in_locals.result ≡ of_locals body.locals.items =
    c.locals_location-in_locals.ensures ∙ ap of_locals c.as_slice.ensures.value in
    let in_stmts : c.in-Ok.given ≡ of_stmts body.stmts.items =
    c.in-Ok.ensures ∙ ap of_stmts c.as_slice-2.ensures.value in
    c.earlier_place.ensures.joined _ _ in_locals in_stmts
