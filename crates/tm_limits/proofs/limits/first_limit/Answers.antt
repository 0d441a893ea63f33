use Rattle.std.proofs.Common.{◌≡◌, None, Some, length, sym, ap, ◌∙◌}
use Rattle.std.specs.Prelude.{MatchOption}
use Rattle.std.specs.Option.{option_copied}
use Rattle.tm_syntax.specs.declared.fault.FaultKind.TheVariants as kind
use Rattle.tm_syntax.specs.declared.fault.Quantity.{Quantity}
use Rattle.tm_syntax.specs.declared.tree.Spec.{Spec}
use Rattle.tm_syntax.specs.Tree.View.{spec_tree}
use Rattle.tm_syntax.specs.Places.{text_start}
use Rattle.tm_syntax.specs.Faults.{fault}
use Rattle.tm_syntax.specs.Faults.Limits.{above, all_names, count_of, first_above}
use Rattle.tm_scope.proofs.OrderClauses.{if_ok}
use Rattle.tm_limits.specs.FirstLimit.{IsFirstLimit}
use Rattle.tm_limits.specs.LongNames.{first_long}
use Rattle.tm_limits.proofs.FirstLimits.{none_long, of_counts, of_name}
use Rattle.tm_limits.proofs.limits.first_limit.Goals as goal

pub returns-in-Some : goal.returns-in-Some
returns-in-Some c =
    let spec = spec_tree c.args.scopes.now in
    let name = c.in-Some.name.now in
    of_name spec name c.above.result
    (ap (λ (s : Spec). first_long (all_names (spec_tree s))) (sym c.spec.ensures)
    ∙ sym c.first_long_name.ensures ∙ ap option_copied c.in-Some.is)
    (c.above.ensures (length name.text) c.length_of.ensures)

pub returns : goal.returns
returns c =
    let spec = spec_tree c.args.scopes.now in
    let none = none_long spec (ap (λ (s : Spec). first_long (all_names (spec_tree s))) (sym c.spec.ensures)
    ∙ sym c.first_long_name.ensures ∙ ap option_copied c.in_default.is) in
    if_ok c.first_above-found.result (λ o. MatchOption o (first_above spec ≡ None)
    (λ f. (what : Quantity) × (first_above spec ≡ Some what)
    × (f ≡ fault kind.Limit (above text_start what (count_of spec what))))) (IsFirstLimit spec)
    (of_counts spec none) c.first_above-found.ensures
