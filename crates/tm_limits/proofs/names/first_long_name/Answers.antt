use Rattle.std.proofs.Common.{List, ◌++◌, ◌∷◌, map, ap, ◌∙◌}
use Rattle.std.specs.List.{flat_map}
use Rattle.tm_syntax.specs.declared.tree.Ident.{Ident}
use Rattle.tm_syntax.specs.Tree.{EnumTree}
use Rattle.tm_syntax.specs.Tree.View.{enum_tree, spec_tree, template_tree}
use Rattle.tm_syntax.specs.Scopes.Parts.{ExprAt, bodies, exprs}
use Rattle.tm_syntax.specs.Faults.Limits.{declared_names, used_names}
use Rattle.tm_syntax.specs.Faults.Limits as limits
use Rattle.tm_syntax.specs.Faults.Names.{expr_paths}
use Rattle.tm_limits.specs.declared.names.bodies.Sought.TheVariants.{Expressions, Paths}
use Rattle.tm_limits.specs.LongNames.{first_long, template_names}
use Rattle.tm_limits.proofs.LongNames.{long_joined}
use Rattle.tm_limits.proofs.NameParts.{expression_names, path_names}
use Rattle.tm_limits.proofs.names.first_long_name.Goals as goal

pub returns : goal.returns
returns c =
    let spec = spec_tree c.args.spec.now in
    let value = c.as_slice-templates.ensures.value in
    let enums : List Ident = flat_map (λ (e : EnumTree). e.name ∷ e.constants) spec.enums in
    let declared : List Ident = flat_map declared_names spec.templates in
    let used : List Ident = flat_map used_names spec.templates in
    let expressions : List Ident =
    flat_map (λ (e : ExprAt). flat_map (λ p. p) (expr_paths e.asked.expr)) (exprs spec) in
    let paths : List Ident = flat_map limits.body_names (bodies spec) in
    long_joined _ _ _ (enums ++ declared ++ used ++ expressions) paths c.earlier.ensures
    (long_joined _ _ _ (enums ++ declared ++ used) expressions c.earlier-expressions.ensures
    (long_joined _ _ _ (enums ++ declared) used c.earlier-used.ensures
    (long_joined _ _ _ enums declared c.earlier-declared.ensures
    (c.enums_long.ensures ∙ ap (λ es. first_long (flat_map (λ (e : EnumTree). e.name ∷ e.constants) (map enum_tree es)))
    c.as_slice.ensures.value)
    (c.declared_long.ensures ∙ ap (λ ts. first_long (flat_map declared_names (map template_tree ts))) value))
    (c.used_long.ensures ∙ ap (λ ts. first_long (flat_map used_names (map template_tree ts))) value))
    (c.templates_long.ensures
    ∙ ap (λ ts. first_long (flat_map (template_names Expressions) (map template_tree ts))) value
    ∙ ap first_long (expression_names spec spec.templates)))
    (c.templates_long-2.ensures ∙ ap (λ ts. first_long (flat_map (template_names Paths) (map template_tree ts))) value
    ∙ ap first_long (path_names spec spec.templates))
