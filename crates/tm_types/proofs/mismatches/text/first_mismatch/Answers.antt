use Rattle.std.proofs.Common.{List, ◌++◌, subst, sym, ap, ◌∙◌}
use Rattle.std.specs.List.{All, flat_map}
use Rattle.tm_syntax.specs.Tree.{SpecTree}
use Rattle.tm_syntax.specs.Scopes.Parts.{bodies, exprs}
use Rattle.tm_syntax.specs.Tree.View.{spec_tree}
use Rattle.tm_syntax.specs.Faults.Mismatches.{asked_faults, body_faults, template_faults}
use Rattle.tm_types.specs.Firsts.{first_of}
use Rattle.tm_types.specs.Inner.TextParts.{IsOwnHead, bodies_of, exprs_of, in_head}
use Rattle.tm_types.specs.declared.parts.TextHead.{TextHead}
use Rattle.tm_types.specs.declared.parts.TextPart.{TextPart}
use Rattle.tm_types.proofs.TextHeads.{heads_own, in_heads}
use Rattle.tm_types.proofs.mismatches.text.first_mismatch.Goals as goal

pub heads_faults-requires : goal.heads_faults-requires
heads_faults-requires c =
    subst (All IsOwnHead) (sym c.as_slice.ensures.value)
    (heads_own c.args.spec.now c.args.text.now.heads.items c.requires.heads)

pub returns : goal.returns
returns c =
    let spec : SpecTree = spec_tree c.args.spec.now in
    let text = c.args.text.now in
    let heads = flat_map (template_faults spec) spec.templates in
    let in_bodies = flat_map body_faults (bodies spec) in
    c.earlier_place.ensures.joined (heads ++ in_bodies) (flat_map asked_faults (exprs spec))
    (c.earlier_place-declared.ensures.joined heads in_bodies
    (c.in-Ok.ensures
    ∙ ap (λ (hs : List TextHead). first_of (flat_map (in_head template_faults) hs)) c.as_slice.ensures.value
    ∙ ap first_of (in_heads template_faults c.args.spec.now text.heads.items c.requires.heads))
    (c.in-Ok-bodies_faults.ensures
    ∙ ap (λ (ps : List TextPart). first_of (flat_map body_faults (flat_map bodies_of ps))) c.as_slice-2.ensures.value
    ∙ ap (λ bs. first_of (flat_map body_faults bs)) c.requires.parts.bodies))
    (c.exprs_faults-in_exprs.ensures
    ∙ ap (λ (ps : List TextPart). first_of (flat_map asked_faults (flat_map exprs_of ps))) c.as_slice-3.ensures.value
    ∙ ap (λ es. first_of (flat_map asked_faults es)) c.requires.parts.exprs)
