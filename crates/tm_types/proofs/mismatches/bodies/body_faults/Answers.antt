use Rattle.std.proofs.Common.{map, sym, ap, ◌∙◌}
use Rattle.std.specs.List.{flat_map}
use Rattle.tm_syntax.specs.Tree.{LocalTree}
use Rattle.tm_syntax.specs.Tree.View.{body_tree, local_tree, stmt_trees}
use Rattle.tm_syntax.specs.Scopes.Parts.{all_stmts}
use Rattle.tm_scope.specs.Context.{context_of}
use Rattle.tm_types.specs.Firsts.{first_of}
use Rattle.tm_names.specs.LocalStmts.{declaration}
use Rattle.tm_types.specs.Inner.StmtFaults.{stmt_faults}
use Rattle.tm_names.proofs.ListedStmts.{flat_map-stmts_in}
use Rattle.tm_types.proofs.mismatches.bodies.body_faults.Goals as goal

pub returns : goal.returns
returns c =
    let body = c.args.body.now in
    let faults = stmt_faults (context_of c.args.at.now) in
    let of_local = λ (l : LocalTree). faults (declaration l) in
    c.earlier_place.ensures.joined (flat_map of_local (map local_tree body.locals.items))
    (flat_map faults (all_stmts (stmt_trees body.stmts.items)))
    (c.locals_faults-in_locals.ensures
    ∙ ap (λ ls. first_of (flat_map of_local (map local_tree ls))) c.as_slice.ensures.value)
    (c.in-Ok.ensures
    ∙ ap (λ ss. first_of (flat_map faults (all_stmts (stmt_trees ss)))) c.as_slice-2.ensures.value)
    ∙ ap first_of (sym (flat_map-stmts_in faults (body_tree body)))
