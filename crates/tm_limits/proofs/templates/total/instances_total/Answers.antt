use Rattle.std.proofs.Common.{◌≡◌, ℕ, List, Some, None, get_or, slice_get, sym, ap, ◌∙◌, arith}
use Rattle.std.specs.Prelude.{codes}
use Rattle.std.specs.Option.{option_map_or}
use Rattle.tm_syntax.specs.Tree.{SpecTree}
use Rattle.tm_syntax.specs.Tree.View.{spec_tree}
use Rattle.tm_syntax.specs.Scopes.Names.{template_number}
use Rattle.tm_limits.specs.Amount.{capped}
use Rattle.tm_scope.specs.Graph.{graph_of}
use Rattle.tm_limits.proofs.TemplateTotals.{counts_read, main_stands, none_of_main, whole_of_main}
use Rattle.tm_limits.proofs.templates.total.instances_total.Goals as goal

pub returns-in-Some : goal.returns-in-Some
returns-in-Some c = λ count own.
    let spec : SpecTree = spec_tree c.args.scopes.now in
    let graph = graph_of c.args.graph.now in
    let order : List ℕ = c.args.order.now in
    let by = c.args.combination in
    let main : ℕ = c.in-Some.main in
    let named : template_number spec (codes "main") ≡ Some main =
    sym c.template_number.ensures.number ∙ c.in-Some.is in
    let place = main_stands spec graph order main c.requires.ordered named in
    c.count_at.ensures
    ∙ ap (λ (xs : List ℕ). get_or xs main 0) c.as_slice.ensures.value
    ∙ c.in_ok-totals.ensures (λ k. option_map_or count (slice_get spec.templates k) 0)
    (λ k. ap (λ (xs : List ℕ). get_or xs k 0) own ∙ counts_read count spec.templates k) place.0 main place.1
    ∙ ap capped (whole_of_main spec by count graph order main c.requires.ordered named)

pub returns : goal.returns
returns c = λ count own.
    let spec : SpecTree = spec_tree c.args.scopes.now in
    let named : template_number spec (codes "main") ≡ None =
    sym c.template_number.ensures.number ∙ c.in-None.is in
    let nothing : 0 ≡ capped 0 = omega arith in
    nothing ∙ ap capped (none_of_main spec c.args.combination count named)
