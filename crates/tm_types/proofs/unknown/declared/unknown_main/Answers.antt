use Rattle.std.proofs.Common.{None, Some, codes, refl, ap, ◌∙◌}
use Rattle.tm_syntax.specs.declared.tree.Spec.{Spec}
use Rattle.tm_syntax.specs.Tree.View.{spec_tree}
use Rattle.tm_syntax.specs.Scopes.Names.{template_number}
use Rattle.tm_types.proofs.MainTemplates.{main_found}
use Rattle.tm_types.proofs.unknown.declared.unknown_main.Goals as goal

pub returns-in-Some : goal.returns-in-Some
returns-in-Some c =
    main_found (spec_tree c.args.names.now) (codes "main") (Some _) refl
    (c.in-Some.ensures.number ∙ ap (λ (s : Spec). template_number (spec_tree s) (codes "main")) c.tables.ensures)

pub returns-in-None : goal.returns-in-None
returns-in-None c =
    main_found (spec_tree c.args.names.now) (codes "main") None refl
    (c.in-None.ensures.number ∙ ap (λ (s : Spec). template_number (spec_tree s) (codes "main")) c.tables.ensures)
