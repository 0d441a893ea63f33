use Rattle.std.proofs.Common.{◌≡◌, length, get_or, ap, arith}
use Rattle.std.specs.Prelude.{⊤}
use Rattle.tm_dd.proofs.CallerLaws.{Extends-refl, Extends-trans}
use Rattle.tm_reorder.proofs.ClampedBits.{level_below, none_pushed, one_pushed, pushed_such}
use Rattle.tm_reorder.proofs.clamping.push_levels.Goals as goal

pub loop-place-init : goal.loop-place-init
loop-place-init c = record {
  extends = Extends-refl c.args.dd.now.table;
  count = omega arith;
  pushed = none_pushed c.args.dd.now.table c.args.levels.now c.args.bits.now.items c.requires.known;
}

pub bit_of-requires : goal.bit_of-requires
bit_of-requires c =
    level_below c.args.levels.now c.args.dd.now.table.levels c.loop-place.dd.table.levels c.len.result
    c.requires.levels c.loop-place.invariant.extends.same_levels
    (omega (
      arith,
      c.len.ensures,
      c.loop-place.bits.ok.0,
      c.loop-place.invariant.count,
      c.requires.room,
      c.loop-place-test.true,
    ))

pub loop-place-preserved : goal.loop-place-preserved
loop-place-preserved c =
    let at : c.len.result ≡ length c.loop-place.bits.items = omega (arith, c.len.ensures, c.loop-place.bits.ok.0) in
    let more = one_pushed c.args.dd.now.table c.args.levels.now c.args.bits.now.items c.loop-place.dd.table
    c.bit_of.new.dd.table c.loop-place.bits.items c.push.new.self.items c.loop-place._place _
    c.in_ok-bit.bit c.bit_of.ensures.extends c.loop-place.invariant.pushed
    (ap (λ n. get_or c.args.levels.now n 0) at)
    c.in_ok-bit.ensures.answer c.in_ok-push.ensures.items in
    record {
      extends = Extends-trans c.args.dd.now.table c.loop-place.dd.table c.bit_of.new.dd.table
          c.loop-place.invariant.extends c.bit_of.ensures.extends;
      count = more.count;
      pushed = more;
    }

pub returns-clause-pushed : goal.returns-clause-pushed
returns-clause-pushed c =
    pushed_such c.args.dd.now.table c.loop-place.dd.table c.args.levels.now c.args.count c.loop-place._place (λ v. ⊤)
    c.args.bits.now.items c.loop-place.bits.items (omega arith) c.loop-place.invariant.pushed
