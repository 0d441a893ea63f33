use Rattle.std.proofs.Common.{sym, ◌∙◌}
use Rattle.tm_syntax.specs.Tree.View.{spec_tree}
use Rattle.tm_inst.proofs.HeldKnown.{main_there}
use Rattle.tm_inst.proofs.parts.main_number.Goals as goal

pub unreachable-requires : goal.unreachable-requires
unreachable-requires c =
    main_there (spec_tree c.args.scopes.now) c.requires (sym c.template_number.ensures.number ∙ c.in-None.is)
