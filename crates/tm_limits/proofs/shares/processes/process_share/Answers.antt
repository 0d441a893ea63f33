use Rattle.std.proofs.Common.{◌≡◌, refl, sym, map, ap, ◌∙◌, subst}
use Rattle.tm_syntax.specs.declared.fault.Quantity.{Quantity}
use Rattle.tm_syntax.specs.Counts.Bodies.{local_bits, location_bits, weight_of}
use Rattle.tm_syntax.specs.Scopes.Context.{process_body}
use Rattle.tm_syntax.specs.Scopes.Parts.{process_body_at}
use Rattle.tm_syntax.specs.Tree.View.{local_tree, process_tree, spec_tree, template_tree}
use Rattle.tm_limits.specs.declared.weights.Weight.TheVariants.{Locations}
use Rattle.tm_limits.specs.Amount.{capped}
use Rattle.tm_limits.specs.Inner.Weights as weights
use Rattle.tm_limits.specs.Shares.{process_share}
use Rattle.tm_limits.proofs.shares.processes.process_share.Goals as goal

pub returns-in-Statements : goal.returns-in-Statements
returns-in-Statements c = λ t at.
    subst (λ (q : Quantity). c.weight_of_body.result ≡ capped (process_share (spec_tree c.args.scopes.now) q
    (template_tree t) (c.args.index, process_tree c.args.process.now))) (sym c.in-Statements.is)
    (c.weight_of_body.ensures t (process_body c.args.index) at)

pub returns-in-State : goal.returns-in-State
returns-in-State c = λ t at.
    let spec = spec_tree c.args.scopes.now in
    let p = process_tree c.args.process.now in
    subst (λ (q : Quantity). c.sum.result ≡ capped (process_share spec q (template_tree t) (c.args.index, p)))
    (sym c.in-State.is)
    (c.sum.ensures (local_bits spec p.body.locals)
    (location_bits (process_body_at spec (template_tree t) (c.args.index, p)))
    (c.locals_bits.ensures ∙ ap (λ ls. capped (local_bits spec (map local_tree ls))) c.as_slice.ensures.value)
    (c.location_bits.ensures t (process_body c.args.index) at))

pub returns-in-Locations : goal.returns-in-Locations
returns-in-Locations c = λ t at.
    let spec = spec_tree c.args.scopes.now in
    let p = process_tree c.args.process.now in
    subst (λ (q : Quantity). c.sum-in-Locations.result ≡ capped (process_share spec q (template_tree t)
    (c.args.index, p))) (sym c.in-Locations.is)
    (c.sum-in-Locations.ensures 2
    (weight_of (weights.weight_of Locations) (process_body_at spec (template_tree t) (c.args.index, p))) refl
    (c.weight_of_body-in-Locations.ensures t (process_body c.args.index) at))
