use Rattle.std.proofs.Common.{◌≡◌, ◌<◌, ◌≤◌, ℕ, Some, length, get_or, slice_get, refl, sym, ap, ◌∙◌, arith}
use Rattle.std.proofs.lemmas.Option.{get_or_from_slice_get, slice_get-get_or}
use Rattle.tm_syntax.specs.declared.fault.Quantity.{Quantity}
use Rattle.tm_syntax.specs.declared.fault.Quantity.TheVariants as quantity
use Rattle.tm_syntax.specs.Tree.View.{spec_tree}
use Rattle.tm_syntax.specs.Faults.Limits.{count_of, counted, limit_of}
use Rattle.tm_limits.specs.Amount.{capped}
use Rattle.tm_limits.proofs.FirstAbove.{above_here, none_above, not_above}
use Rattle.tm_limits.proofs.InstanceShares.{count_is_whole}
use Rattle.tm_limits.proofs.limits.first_above.Goals as goal

pub loop-quantity-init : goal.loop-quantity-init
loop-quantity-init c = refl

pub loop-quantity-preserved : goal.loop-quantity-preserved
loop-quantity-preserved c =
    let spec = spec_tree c.args.scopes.now in
    let i : ℕ = c.loop-quantity.quantity-index in
    let q : Quantity = get_or counted i quantity.Specification in
    let within : i < length counted = omega arith in
    let at : slice_get counted i ≡ Some q = slice_get-get_or counted i quantity.Specification within in
    let fits : c.in_ok-found.found ≤ limit_of q = omega (arith, c.limit_of.ensures) in
    not_above spec i c.in_ok-found.found q within (sym (get_or_from_slice_get counted i q q at)) c.in_ok-found.ensures
    fits c.loop-quantity.invariant

pub returns-then-found-limit_of : goal.returns-then-found-limit_of
returns-then-found-limit_of c =
    let spec = spec_tree c.args.scopes.now in
    let i : ℕ = c.loop-quantity.quantity-index in
    let q : Quantity = get_or counted i quantity.Specification in
    let within : i < length counted = omega arith in
    let at : slice_get counted i ≡ Some q = slice_get-get_or counted i quantity.Specification within in
    let over : limit_of q < c.in_ok-found.found = omega (arith, c.limit_of.ensures) in (
      q,
      above_here spec i c.in_ok-found.found q within (sym (get_or_from_slice_get counted i q q at))
          c.in_ok-found.ensures over c.loop-quantity.invariant,
      c.above.ensures (count_of spec q) (c.in_ok-found.ensures ∙ ap capped (sym (count_is_whole spec q))),
    )

pub returns : goal.returns
returns c =
    none_above (spec_tree c.args.scopes.now) c.loop-quantity.quantity-index (omega arith) c.loop-quantity.invariant
