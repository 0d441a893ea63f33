use Rattle.tm_syntax.specs.Design.View.{design_tree}
use Rattle.tm_syntax.specs.Design.Scope.{site}
use Rattle.tm_plain_bodies.specs.Tables.{body_of}
use Rattle.tm_design.proofs.Found.{body_found}
use Rattle.tm_plain_bodies.proofs.Stacks.{body_there}
use Rattle.tm_plain_bodies.proofs.runner.Runner.frame_here.Goals as goal

pub unreachable-requires : goal.unreachable-requires
unreachable-requires c =
    body_there c.args.self.now c.args.level.at c.reader.result c.reader.ensures c.in-None.is c.requires.0 c.requires.1

pub returns : goal.returns
returns c =
    let d = c.args.self.now in
    let at = c.args.level.at in
    let found = body_found (site (design_tree d) at.instance) (body_of d at) c.in-Some.reader c.reader.result
    c.reader.ensures c.in-Some.is in
    λ i. record { reader = found i; depth = c.args.level.depth }
