use Rattle.std.proofs.Common.{◌≡◌, Option, None, subst}
use Rattle.std.specs.Prelude.{IfNone, IfSome}
use Rattle.tm_syntax.specs.Design.View.{design_tree}
use Rattle.tm_syntax.specs.Design.Scope.{site}
use Rattle.tm_locations.specs.Locations.{work_stmts}
use Rattle.tm_plain_bodies.specs.declared.frame.Frame.{Frame}
use Rattle.tm_plain_bodies.specs.Frames.{IsFrame}
use Rattle.tm_plain.proofs.Working.{some_body}
use Rattle.tm_plain.proofs.machine.Machine.work_in.Goals as goal

pub work_by-requires-clause-frame : goal.work_by-requires-clause-frame
work_by-requires-clause-frame c =
    subst (λ (o : Option Frame). IfSome o (IsFrame c.args.self.now c.args.node.now.scope)) c.in-Some.is
    c.requires.frame

pub unreachable-requires : goal.unreachable-requires
unreachable-requires c =
    let d = c.args.self.now in
    let at = c.args.node.now.scope in
    some_body d at (work_stmts c.args.node.now.work) c.requires.filled c.requires.stand
    (subst (λ (o : Option Frame). IfNone o (site (design_tree d) at.instance ≡ None)) c.in-None.is c.requires.none)
