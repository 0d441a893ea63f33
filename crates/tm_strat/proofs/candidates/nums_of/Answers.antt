use Rattle.std.proofs.Common.{arith}
use Rattle.tm_strat.proofs.Fitted.{nums_more}
use Rattle.tm_strat.proofs.Written.{all_arguments, arguments_more}
use Rattle.tm_strat.proofs.candidates.nums_of.Goals as goal

pub loop-index-preserved : goal.loop-index-preserved
loop-index-preserved c = (
  nums_more c.args.counts.vars c.args.counts.processes c.loop-index.nums.items c.push.new.self.items c.in_ok-num.num
      c.loop-index.invariant.0 c.in_ok-num.ensures.fits c.in_ok-push.ensures.items,
  arguments_more c.args.counts c.args.arguments.now c.loop-index.index c.argument_in-argument.result
      c.loop-index.nums.items c.push.new.self.items c.in_ok-num.num c.argument_in-argument.ensures
      c.loop-index.invariant.1 c.in_ok-num.ensures.tree c.in_ok-push.ensures.items,
)

pub returns-clause-trees : goal.returns-clause-trees
returns-clause-trees c =
    let last = c.loop-index-test.false in
    all_arguments c.args.counts c.args.arguments.now c.loop-index.index c.loop-index.nums.items (omega (arith, last))
    c.loop-index.invariant.1
