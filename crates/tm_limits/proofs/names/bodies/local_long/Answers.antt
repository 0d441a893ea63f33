use Rattle.std.proofs.Common.{◌≡◌, [], ◌∷◌, None, sym, ap, ◌∙◌}
use Rattle.std.specs.List.{flat_map}
use Rattle.std.specs.Option.{option_copied}
use Rattle.tm_syntax.specs.Tree.{assign}
use Rattle.tm_syntax.specs.Tree.View.{value_tree}
use Rattle.tm_syntax.specs.Scopes.Parts.{value_calls}
use Rattle.tm_limits.specs.declared.names.bodies.Sought.{Sought}
use Rattle.tm_limits.specs.LongNames.{first_long, own_names}
use Rattle.tm_limits.proofs.names.bodies.local_long.Goals as goal

pub returns-in-Paths : goal.returns-in-Paths
returns-in-Paths c =
    let name = c.args.local.now.name in
    let value = value_tree c.args.local.now.value in
    let target : option_copied c.names_long-target.result ≡ first_long (name ∷ []) =
    c.names_long-target.ensures ∙ ap first_long c.from_ref.ensures.value in
    c.earlier.ensures (name ∷ []) (flat_map (λ p. p) (value_calls value)) target c.called_long.ensures
    ∙ ap (λ (s : Sought). first_long (own_names s (assign (name ∷ []) None value))) (sym c.in-Paths.is)
