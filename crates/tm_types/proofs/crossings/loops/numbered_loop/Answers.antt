use Rattle.std.proofs.Common.{◌≡◌, subst}
use Rattle.std.specs.Prelude.{IfOk}
use Rattle.tm_syntax.specs.Tree.View.{template_tree}
use Rattle.tm_scope.specs.Marks.{CallTable, is_marked}
use Rattle.tm_types.specs.Firsts.{first_of}
use Rattle.tm_types.specs.Inner.Crossings.{body_loops, in_bodies}
use Rattle.tm_types.proofs.crossings.loops.numbered_loop.Goals as goal

pub returns : goal.returns
returns c =
    subst (λ (table : CallTable). IfOk c.template_loop.result (λ first. first
    ≡ first_of (in_bodies (body_loops (is_marked table)) (template_tree c.args.template.now)))) c.new-calls.ensures
    c.template_loop.ensures
