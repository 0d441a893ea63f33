use Rattle.std.proofs.Common.{not, sym, ap, ◌∙◌}
use Rattle.std.specs.Option.{option_map}
use Rattle.tm_syntax.specs.Tree.View.{expr_tree}
use Rattle.tm_syntax.specs.Faults.Mismatches.{result_fits}
use Rattle.tm_types.proofs.TypedResults.{with_result, without_result}
use Rattle.tm_types.proofs.mismatches.declared.result_fits.Goals as goal

pub returns-in-Some : goal.returns-in-Some
returns-in-Some c =
    c.is_typed.ensures
    ∙ with_result c.args.kind.now (expr_tree c.in-Some.field-0)
    ∙ ap (λ o. result_fits c.args.kind.now (option_map expr_tree o)) (sym c.in-Some.is)

pub returns-in-None : goal.returns-in-None
returns-in-None c =
    ap not c.is_typed-in-None.ensures
    ∙ without_result c.args.kind.now
    ∙ ap (λ o. result_fits c.args.kind.now (option_map expr_tree o)) (sym c.in-None.is)
