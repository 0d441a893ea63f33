use Rattle.std.proofs.Common.{List, map, ap, ◌∙◌}
use Rattle.std.specs.List.{flat_map}
use Rattle.tm_syntax.specs.Tree.{SpecTree}
use Rattle.tm_syntax.specs.Scopes.Parts.{exprs}
use Rattle.tm_syntax.specs.Tree.View.{spec_tree, template_tree}
use Rattle.tm_syntax.specs.Faults.Literals.{asked_numbers}
use Rattle.tm_types.specs.Firsts.{first_of}
use Rattle.tm_types.specs.Inner.Numbers.{declared_numbers}
use Rattle.tm_types.specs.Inner.TextParts.{exprs_of}
use Rattle.tm_types.specs.declared.parts.TextPart.{TextPart}
use Rattle.tm_types.proofs.literals.text.first_misfit.Goals as goal

pub returns : goal.returns
returns c =
    let spec : SpecTree = spec_tree c.args.spec.now in
    c.earlier_place.ensures.joined (flat_map declared_numbers spec.templates) (flat_map asked_numbers (exprs spec))
    (c.in-Ok.ensures
    ∙ ap (λ ts. first_of (flat_map declared_numbers (map template_tree ts))) c.as_slice.ensures.value)
    (c.exprs_numbers-in_exprs.ensures
    ∙ ap (λ (ps : List TextPart). first_of (flat_map asked_numbers (flat_map exprs_of ps))) c.as_slice-2.ensures.value
    ∙ ap (λ es. first_of (flat_map asked_numbers es)) c.requires.parts.exprs)
