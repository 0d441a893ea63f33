use Rattle.tm_syntax.specs.declared.design.Ty.TheVariants as types
use Rattle.tm_syntax.specs.Tree.View.{expr_tree}
use Rattle.tm_plain_exprs.proofs.Outside.{never_overruns}
use Rattle.tm_plain_exprs.proofs.reader.Reader.holds_outside.Goals as goal

pub unreachable-requires : goal.unreachable-requires
unreachable-requires c =
    never_overruns c.args.self.now c.args.store.now types.Bool (expr_tree c.args.e.now) c.requires.typed
    c.requires.outside
    c.requires.kept.0 c.requires.kept.1 c.in-Err.ensures.overrun
