use Rattle.std.proofs.Common.{◌≡◌, length, get_or, ap, arith}
use Rattle.tm_reorder.proofs.ClampedBits.{begun, level_below, one_more, pushed}
use Rattle.tm_reorder.proofs.clamping.push_number.Goals as goal

pub loop-passed-init : goal.loop-passed-init
loop-passed-init c =
    let first = begun c.args.dd.now.table c.args.levels.now c.args.field c.args.bits.now.items c.requires.field.fits
    c.requires.known in
    record { extends = first.extends; count = first.count; tight = first.tight_known; so_far = first }

pub push_clamped-requires-clause-level : goal.push_clamped-requires-clause-level
push_clamped-requires-clause-level c =
    level_below c.args.levels.now c.args.dd.now.table.levels c.loop-passed.dd.table.levels c.len.result
    c.requires.levels c.loop-passed.invariant.extends.same_levels
    (omega (
      arith,
      c.len.ensures,
      c.loop-passed.bits.ok.0,
      c.loop-passed.invariant.count,
      c.requires.room,
      c.loop-passed-test.true,
    ))

pub loop-passed-preserved : goal.loop-passed-preserved
loop-passed-preserved c =
    let at : c.len.result ≡ length c.loop-passed.bits.items = omega (arith, c.len.ensures, c.loop-passed.bits.ok.0) in
    let more = one_more c.args.dd.now.table c.args.levels.now c.args.field c.args.bits.now.items c.loop-passed.dd.table
    c.loop-passed.bits.items c.loop-passed.passed c.loop-passed.tight c.loop-passed.invariant.so_far
    c.loop-passed-test.true c.push_clamped.new.dd.table _ c.has_bit-one.result
    c.push_clamped.new.bits.items _ c.push_clamped.ensures.extends (ap (λ n. get_or c.args.levels.now n 0) at)
    c.has_bit-one.ensures c.in_ok-tight.ensures.pushed in
    record { extends = more.extends; count = more.count; tight = more.tight_known; so_far = more }

pub returns-clause-pushed : goal.returns-clause-pushed
returns-clause-pushed c =
    pushed c.args.dd.now.table c.args.levels.now c.args.field c.args.bits.now.items c.loop-passed.dd.table
    c.loop-passed.bits.items c.loop-passed.passed c.loop-passed.tight (omega arith) c.loop-passed.invariant.so_far
