use Rattle.std.proofs.Common.{Some, ap, ◌∙◌}
use Rattle.std.proofs.lemmas.Result.{IfOk-weaker}
use Rattle.tm_ddops.specs.Changed.{change_at}
use Rattle.tm_ddops.proofs.Changing.{after_change, after_kept}
use Rattle.tm_ddops.proofs.rewrite.Walks.joined.Goals as goal

pub returns-in-None-clause-answer : goal.returns-in-None-clause-answer
returns-in-None-clause-answer c =
    IfOk-weaker c.branch_at.result _ _
    (λ id x. after_kept c.args.store.now c.branch_at.new.store c.branch_at.ensures.extends c.branch_at.ensures.reduced
    (change_at c.args.changes.now) c.args.f c.requires.known c.requires.inner c.args.lo c.args.hi
    c.requires.lo c.requires.hi c.node-level.result c.node-level.ensures.value c.in-None.is id x)
    c.branch_at.ensures.answer

pub branch_under-requires-clause-part : goal.branch_under-requires-clause-part
branch_under-requires-clause-part c part is =
    c.requires.lo.parts c.node-level.result.level c.node-level.ensures.is_node.below part
    (c.in-Some.is ∙ ap (λ x. Some x) is)

pub returns-in-Some-clause-answer : goal.returns-in-Some-clause-answer
returns-in-Some-clause-answer c =
    IfOk-weaker c.branch_under.result _ _
    (λ id x. after_change c.args.store.now c.branch_under.new.store c.branch_under.ensures.extends
    c.branch_under.ensures.reduced
    (change_at c.args.changes.now) c.args.f c.requires.known c.requires.inner c.args.lo c.args.hi
    c.requires.lo c.requires.hi c.node-level.result c.node-level.ensures.value c.in-Some.change
    c.node-level.ensures.is_node.below c.in-Some.is id x)
    c.branch_under.ensures.answer
