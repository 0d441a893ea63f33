use Rattle.std.proofs.Common.{◌≡◌, ◌<◌, Some, length, drop, get_or, slice_get, refl, sym, ap, ◌∙◌, arith}
use Rattle.std.specs.Option.{option_map, option_map_or}
use Rattle.std.proofs.lemmas.Option.{slice_get-get_or, slice_get-map, slice_get_read}
use Rattle.tm_syntax.specs.declared.tree.Ident.{Ident}
use Rattle.tm_syntax.specs.Tree.{TemplateTree, SpecTree}
use Rattle.tm_syntax.specs.Tree.View.{spec_tree, template_tree}
use Rattle.tm_syntax.specs.Scopes.Declared.{Meaning, members, sort_in, unclear}
use Rattle.tm_names.specs.Sorts.{sort_of}
use Rattle.tm_names.specs.Inner.Meanings.{meaning_from}
use Rattle.tm_names.proofs.PathMeanings.{leads_on, there}
use Rattle.tm_names.proofs.names.meaning.meaning_from.Goals as goal

pub returns-in-Err : goal.returns-in-Err
returns-in-Err c =
    let spec : SpecTree = spec_tree c.args.names.now in
    let path = c.args.path.now in
    let index = c.loop-index.index in
    let name : Ident = c.index-path-index.result in
    let within : index < length path = omega arith in
    let next : Ident = get_or path index name in
    sym (c.in-Err.ensures.leads (λ t. meaning_from spec (sort_in (members t) next.text) (drop index path)))
    ∙ sym (leads_on spec (option_map sort_of c.loop-index.sort) path index name next c.loop-index.invariant.0 within
    c.index-path-index.is (slice_get-get_or path index name within))
    ∙ c.loop-index.invariant.2

pub loop-index-preserved : goal.loop-index-preserved
loop-index-preserved c =
    let spec : SpecTree = spec_tree c.args.names.now in
    let path = c.args.path.now in
    let index = c.loop-index.index in
    let name : Ident = c.index-path-index.result in
    let next : Ident = c.index-path-index-in-Ok.result in
    let within : index < length path = omega arith in
    let items = c.args.names.now.templates.items in
    let found = there items c.in-Ok.number c.in-Ok.ensures.within in
    let known : slice_get spec.templates c.in-Ok.number ≡ Some (template_tree found.0) =
    slice_get-map template_tree items c.in-Ok.number ∙ ap (option_map template_tree) found.1 in
    let onward : TemplateTree → Meaning = λ t. meaning_from spec (sort_in (members t) next.text) (drop index path) in (
      omega arith,
      omega arith,
      ap (λ n. meaning_from spec (option_map sort_of c.member_sort-sort.result) (drop n path)) (omega arith)
          ∙ ap (λ o. meaning_from spec o (drop index path))
          (c.member_sort-sort.ensures (template_tree found.0) known
          ∙ ap (sort_in (members (template_tree found.0)))
          (c.as_bytes.ensures ∙ ap (λ (n : Ident). n.text) (sym c.index-path-index-in-Ok.is)))
          ∙ sym (c.in-Ok.ensures.leads onward ∙ ap (λ o. option_map_or onward o unclear) known)
          ∙ sym (leads_on spec (option_map sort_of c.loop-index.sort) path index name next c.loop-index.invariant.0
          within
          c.index-path-index.is (slice_get_read path (length path) index next refl within c.index-path-index-in-Ok.is))
          ∙ c.loop-index.invariant.2,
    )
