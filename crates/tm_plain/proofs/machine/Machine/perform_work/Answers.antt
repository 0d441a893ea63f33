use Rattle.std.proofs.Common.{◌≡◌, None, ◌∙◌, subst}
use Rattle.std.specs.Prelude.{IfNone, IfSome}
use Rattle.tm_syntax.specs.declared.design.Design.{Design}
use Rattle.tm_syntax.specs.Design.View.{design_tree}
use Rattle.tm_syntax.specs.Design.Scope.{site}
use Rattle.tm_locations.specs.Locations.{work_stmts}
use Rattle.tm_plain_bodies.specs.Frames.{IsFrame}
use Rattle.tm_plain.proofs.Working.{nothing_done}
use Rattle.tm_plain.proofs.machine.Machine.perform_work.Goals as goal

pub returns-then-is_idle : goal.returns-then-is_idle
returns-then-is_idle c =
    nothing_done c.args.self.now c.args.node.now.scope {A = Unit {0}} tt (work_stmts c.args.node.now.work)
    (c.is_idle.ensures.idle c.if-is_idle.true) c.args.course.now

pub work_in-requires-clause-filled : goal.work_in-requires-clause-filled
work_in-requires-clause-filled c = c.is_idle.ensures.filled c.if-is_idle.false

pub work_in-requires-clause-frame : goal.work_in-requires-clause-frame
work_in-requires-clause-frame c =
    subst (λ (d : Design). IfSome c.frame-found.result (IsFrame d c.args.node.now.scope))
    (c.self.invariant.0 ∙ c.self.view_is) c.frame-found.ensures.found

pub work_in-requires-clause-none : goal.work_in-requires-clause-none
work_in-requires-clause-none c =
    subst (λ (d : Design). IfNone c.frame-found.result
    (site (design_tree d) c.args.node.now.scope.instance ≡ None))
    (c.self.invariant.0 ∙ c.self.view_is) c.frame-found.ensures.none
