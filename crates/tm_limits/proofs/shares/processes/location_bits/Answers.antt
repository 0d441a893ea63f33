use Rattle.std.proofs.Common.{◌≡◌, ◌+◌, ◌-◌, ℕ, refl, ap, ◌∙◌, arith}
use Rattle.tm_syntax.specs.Design.Sizes.{bits_of_number}
use Rattle.tm_syntax.specs.Counts.Bodies.{weight_of}
use Rattle.tm_syntax.specs.Scopes.Parts.{BodyAt}
use Rattle.tm_syntax.specs.Tree.View.{body_tree, spec_tree, template_tree}
use Rattle.tm_limits.specs.Inner.Weights as weights
use Rattle.tm_limits.specs.declared.weights.Weight.TheVariants.{Locations}
use Rattle.tm_limits.proofs.shares.processes.location_bits.Goals as goal

pub returns : goal.returns
returns c = λ t name at.
    let b : BodyAt = record {
      context = record { spec = spec_tree c.args.scopes.now; template = template_tree t; body = name };
      body = body_tree c.args.body.now;
    } in
    let inside : ℕ = weight_of (weights.weight_of Locations) b in
    let less : 1 + inside ≡ 2 + inside - 1 = omega arith in
    let bits : c.bits_of_number.result ≡ bits_of_number (2 + inside - 1) =
    c.bits_of_number.ensures (1 + inside)
    (c.sum.ensures 1 inside refl (c.weight_of_body-inside.ensures t name at)) ∙ ap bits_of_number less in
    let fits = c.bits_of_number.type_inv in
    omega (arith, bits, fits)
