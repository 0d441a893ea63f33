use Rattle.std.proofs.Common.{get_or, arith}
use Rattle.std.proofs.lemmas.Result.{IfOk-weaker}
use Rattle.tm_reorder.proofs.Branches.{other_parts, own_parts, part_at}
use Rattle.tm_reorder.proofs.raising.part_of.Goals as goal

pub returns-then-entry-level-clause-part : goal.returns-then-entry-level-clause-part
returns-then-entry-level-clause-part c = λ old k are branch.
    let now = c.args.graph.now.entries.keys in
    let parts = c.args.parts.now in
    own_parts old c.args.level k c.args.entry branch now (get_or parts c.args.entry.lo (0, 0))
    (get_or parts c.args.entry.hi (0, 0)) c.if-entry-level.true
    (part_at old now c.args.level k parts are c.args.entry.lo (omega (arith, branch.lo_before, are.count)))
    (part_at old now c.args.level k parts are c.args.entry.hi (omega (arith, branch.hi_before, are.count)))

pub returns-then-is_above-clause-part : goal.returns-then-is_above-clause-part
returns-then-is_above-clause-part c =
    let now = c.args.graph.now.entries.keys in
    IfOk-weaker c.kept_whole.result _ _
    (λ part is old k are branch. is old k branch
    (part_at old now c.args.level k c.args.parts.now are c.args.entry.lo (omega (arith, branch.lo_before, are.count)))
    (part_at old now c.args.level k c.args.parts.now are c.args.entry.hi (omega (arith, branch.hi_before, are.count))))
    c.kept_whole.ensures.part

pub returns-else-not-are_whole-clause-part : goal.returns-else-not-are_whole-clause-part
returns-else-not-are_whole-clause-part c =
    let now = c.args.graph.now.entries.keys in
    let parts = c.args.parts.now in
    IfOk-weaker c.branches.result _ _
    (λ part is old k are branch.
    other_parts old c.args.level k c.args.entry branch now c.branches.new.self.entries.keys
    (get_or parts c.args.entry.lo (0, 0)) (get_or parts c.args.entry.hi (0, 0)) part
    (part_at old now c.args.level k parts are c.args.entry.lo (omega (arith, branch.lo_before, are.count)))
    (part_at old now c.args.level k parts are c.args.entry.hi (omega (arith, branch.hi_before, are.count)))
    is)
    c.branches.ensures.answer
