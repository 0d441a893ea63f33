use Rattle.std.proofs.Common.{ap, sym, ◌∙◌, subst}
use Rattle.tm_syntax.specs.declared.tree.Spec.{Spec}
use Rattle.tm_syntax.specs.Tree.View.{spec_tree}
use Rattle.tm_types.specs.Inner.TextParts.{AreTextHeads, AreTextParts}
use Rattle.tm_types.proofs.parts.divided_text.Goals as goal

pub text_heads-requires : goal.text_heads-requires
text_heads-requires c = c.as_slice.ensures.value ∙ ap (λ (s : Spec). s.templates.items) (sym c.requires)

pub text_parts-requires : goal.text_parts-requires
text_parts-requires c = c.as_slice-2.ensures.value ∙ ap (λ (s : Spec). s.templates.items) (sym c.requires)

pub returns : goal.returns
returns c = record {
  names = c.requires;
  heads = subst (λ (s : Spec). AreTextHeads s c.in-Ok.given.items) c.requires c.in-Ok.ensures;
  parts =
      subst (λ (s : Spec). AreTextParts (spec_tree s) c.in-Ok-text_parts.given.items) c.requires
      c.in-Ok-text_parts.ensures;
}
