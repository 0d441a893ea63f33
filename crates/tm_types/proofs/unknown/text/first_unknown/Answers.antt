use Rattle.std.proofs.Common.{List, subst, sym, ap, ◌∙◌}
use Rattle.std.specs.List.{All, flat_map}
use Rattle.tm_syntax.specs.declared.tree.Spec.{Spec}
use Rattle.tm_syntax.specs.Tree.{SpecTree}
use Rattle.tm_syntax.specs.Scopes.Parts.{bodies, exprs}
use Rattle.tm_syntax.specs.Tree.View.{spec_tree}
use Rattle.tm_syntax.specs.Faults.Marks.{first_mark}
use Rattle.tm_syntax.specs.Faults.Names.{unknown_in_body, unknown_in_expr, unknown_in_template, unknown_main}
use Rattle.tm_types.specs.Inner.TextParts.{IsOwnHead, bodies_of, exprs_of, in_head}
use Rattle.tm_types.specs.declared.parts.TextHead.{TextHead}
use Rattle.tm_types.specs.declared.parts.TextPart.{TextPart}
use Rattle.tm_types.proofs.TextHeads.{heads_own, in_heads}
use Rattle.tm_types.proofs.unknown.text.first_unknown.Goals as goal

pub unknown_in_heads-requires : goal.unknown_in_heads-requires
unknown_in_heads-requires c =
    subst (All IsOwnHead) (sym c.as_slice.ensures.value)
    (heads_own c.args.spec.now c.args.text.now.heads.items c.requires.heads)

pub returns : goal.returns
returns c =
    let spec : SpecTree = spec_tree c.args.spec.now in
    let text = c.args.text.now in
    c.earliest_of_four.ensures (unknown_main spec) (flat_map (unknown_in_template spec) spec.templates)
    (flat_map unknown_in_expr (exprs spec)) (flat_map unknown_in_body (bodies spec))
    (c.unknown_main-in_main.ensures ∙ ap (λ (s : Spec). first_mark (unknown_main (spec_tree s))) c.requires.names)
    (c.in-Ok.ensures
    ∙ ap (λ (hs : List TextHead). first_mark (flat_map (in_head unknown_in_template) hs)) c.as_slice.ensures.value
    ∙ ap first_mark (in_heads unknown_in_template c.args.spec.now text.heads.items c.requires.heads))
    (c.unknown_in_all_exprs-in_exprs.ensures
    ∙ ap (λ (ps : List TextPart). first_mark (flat_map unknown_in_expr (flat_map exprs_of ps)))
    c.as_slice-3.ensures.value
    ∙ ap (λ es. first_mark (flat_map unknown_in_expr es)) c.requires.parts.exprs)
    (c.in-Ok-unknown_in_all_bodies.ensures
    ∙ ap (λ (ps : List TextPart). first_mark (flat_map unknown_in_body (flat_map bodies_of ps)))
    c.as_slice-2.ensures.value
    ∙ ap (λ bs. first_mark (flat_map unknown_in_body bs)) c.requires.parts.bodies)
