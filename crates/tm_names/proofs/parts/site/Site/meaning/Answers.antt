use Rattle.std.proofs.Common.{◌≡◌, sym, ap, ◌∙◌}
use Rattle.std.specs.Option.{option_map}
use Rattle.tm_syntax.specs.declared.tree.Ident.{Ident}
use Rattle.tm_syntax.specs.declared.tree.Spec.{Spec}
use Rattle.tm_syntax.specs.Tree.View.{spec_tree}
use Rattle.tm_syntax.specs.Scopes.Declared.{sort_here}
use Rattle.tm_scope.specs.Context.{BodyPlace, context_of}
use Rattle.tm_names.specs.Sorts.{sort_of}
use Rattle.tm_names.specs.Inner.Meanings.{meaning_from}
use Rattle.tm_names.proofs.PathMeanings.{whole_path}
use Rattle.tm_names.proofs.parts.site.Site.meaning.Goals as goal

pub returns : goal.returns
returns c =
    let at = context_of c.args.self.now in
    let path = c.args.path.now in
    let name = c.index-path-0.result in
    let spec : c.self.inside.names.now ≡ c.args.self.now.spec =
    sym c.self.invariant.same ∙ ap (λ (p : BodyPlace). p.spec) c.self.view_is in
    c.meaning_from.ensures
    ∙ ap (λ (s : Spec). meaning_from (spec_tree s) (option_map sort_of c.sort_here.result) path) spec
    ∙ ap (λ o. meaning_from at.spec o path) (c.sort_here.ensures ∙ ap (sort_here at)
    (c.as_bytes.ensures ∙ ap (λ (n : Ident). n.text) (sym c.index-path-0.is)))
    ∙ whole_path at.spec (sort_here at) path name c.index-path-0.is
