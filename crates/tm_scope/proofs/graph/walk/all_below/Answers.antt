use Rattle.std.proofs.Common.{◌≡◌, ◌≤◌, length, ap, ◌∙◌, arith}
use Rattle.tm_scope.proofs.Fills.{counted_more}
use Rattle.tm_scope.proofs.graph.walk.all_below.Goals as goal

pub loop-number-init : goal.loop-number-init
loop-number-init c = (ap length c.new-all.ensures.items, λ k below. absurd (omega (arith, below)))

pub loop-number-preserved : goal.loop-number-preserved
loop-number-preserved c =
    counted_more c.loop-number.number c.loop-number.all.items c.push.new.self.items c.in_ok-push.ensures.items
    c.loop-number.invariant

pub returns-clause-each : goal.returns-clause-each
returns-clause-each c = λ k below.
    let past : c.args.count ≤ c.loop-number.number = c.loop-number-test.false in
    c.loop-number.invariant.1 k (omega (arith, below))

pub returns-clause-length : goal.returns-clause-length
returns-clause-length c =
    let past : c.args.count ≤ c.loop-number.number = c.loop-number-test.false in
    let upto : c.loop-number.number ≤ c.args.count = c.loop-number.auto.number-end in
    let all : c.loop-number.number ≡ c.args.count = omega arith in
    c.loop-number.invariant.0 ∙ all
