use Rattle.std.proofs.Common.{◌-◌, arith}
use Rattle.tm_term.specs.declared.term.Term.TheVariants.{Input}
use Rattle.tm_term.proofs.Growth.{known_term}
use Rattle.tm_sem.specs.StateBits.{downwards}
use Rattle.tm_flat_pool.proofs.PushedBits.{each_done, none_yet, one_more, weight_at}
use Rattle.tm_flat_pool.proofs.bits.push_each.Goals as goal

pub loop-passed-init : goal.loop-passed-init
loop-passed-init c = none_yet c.args.index c.args.terms.now c.args.ids.now.items c.requires.sound

pub bit_term-requires-clause-known : goal.bit_term-requires-clause-known
bit_term-requires-clause-known c =
    c.loop-passed.invariant.grown.known c.args.input
    (known_term c.args.terms.now c.args.input (Input c.args.index) c.requires.input)

pub bit_term-requires-clause-weight : goal.bit_term-requires-clause-weight
bit_term-requires-clause-weight c =
    let known = known_term c.args.terms.now c.args.input (Input c.args.index) c.requires.input in
    let same = c.loop-passed.invariant.grown.widths c.args.input known in
    omega (arith, same, c.requires.width, c.loop-passed-test.true)

pub loop-passed-preserved : goal.loop-passed-preserved
loop-passed-preserved c =
    one_more c.args.index (downwards c.args.width) c.loop-passed.passed (c.args.width - 1 - c.loop-passed.passed)
    c.args.terms.now c.loop-passed.terms c.bit_term.new.terms c.args.ids.now.items c.loop-passed.ids.items
    c.push.new.self.items c.in_ok-id.id c.args.input c.requires.sound c.requires.input
    (weight_at c.args.width c.loop-passed.passed (omega (arith, c.loop-passed-test.true)))
    c.loop-passed.invariant c.in_ok-id.ensures c.in_ok-push.ensures.items

pub returns : goal.returns
returns c =
    each_done c.args.index c.args.width c.loop-passed.passed c.args.terms.now c.loop-passed.terms c.args.ids.now.items
    c.loop-passed.ids.items (omega (arith, c.loop-passed-test.false)) c.loop-passed.invariant
