use Rattle.std.proofs.Common.{◌<◌, length, map, slice_get, refl, sym, ap, ◌∙◌, subst, arith}
use Rattle.std.specs.Option.{option_map}
use Rattle.std.proofs.lemmas.Option.{slice_get-map, slice_get_read}
use Rattle.tm_syntax.specs.declared.tree.Spec.{Spec}
use Rattle.tm_syntax.specs.Tree.View.{spec_tree, template_tree}
use Rattle.tm_names.proofs.PathMeanings.{there}
use Rattle.tm_names.proofs.Together.{each_at, each_within}
use Rattle.tm_names.proofs.names.text_names.TextNames.template_scopes.Goals as goal

pub index-requires : goal.index-requires
index-requires c =
    let items = c.self.inside.spec.now.templates.items in
    let known = there items c.args.number
    (subst (λ (u : Spec). c.args.number < length u.templates.items) (sym c.self.view_is) c.requires) in
    let kept : c.args.number < length c.self.inside.scopes.now.templates.items =
    each_within (map template_tree items) c.self.inside.scopes.now.templates.items c.args.number
    (template_tree known.0) c.self.invariant.found.templates
    (slice_get-map template_tree items c.args.number ∙ ap (option_map template_tree) known.1) in
    omega arith

pub returns : goal.returns
returns c = λ t is.
    let items = c.self.inside.scopes.now.templates.items in
    let is_there = ap (λ (u : Spec). slice_get (spec_tree u).templates c.args.number) c.self.view_is ∙ is in
    let within : c.args.number < length items =
    each_within (spec_tree c.self.inside.spec.now).templates items c.args.number t c.self.invariant.found.templates
    is_there in
    each_at (spec_tree c.self.inside.spec.now).templates items c.args.number t c.index.result.now
    c.self.invariant.found.templates is_there
    (slice_get_read items (length items) c.args.number c.index.result.now refl within c.index.ensures)
