use Rattle.std.proofs.Common.{refl, sym, rules, arith}
use Rattle.tm_game_bits.proofs.Orders.{length_order}
use Rattle.tm_judge.proofs.Moving.{driver_in_order, few_places, moved_driver, whole_order}
use Rattle.tm_syntax.specs.Design.View.{design_tree}
use Rattle.tm_synth.proofs.Files.{driver_written}
use Rattle.tm_synth.proofs.driver.write_cert.Goals as goal

pub driver_in_order-requires-clause-bits : goal.driver_in_order-requires-clause-bits
driver_in_order-requires-clause-bits c = sym (length_order _ c.args.weight.now c.requires.weight.order)

pub driver_in_order-requires-clause-count : goal.driver_in_order-requires-clause-count
driver_in_order-requires-clause-count c =
    few_places (design_tree c.args.design.now) c.args.weight.now c.args.weight.now c.requires.weight.order refl
    c.requires.can.1.sound

pub driver_in_order-requires-clause-order : goal.driver_in_order-requires-clause-order
driver_in_order-requires-clause-order c =
    whole_order (design_tree c.args.design.now) c.args.weight.now c.args.weight.now c.requires.weight.order refl

pub driver_in_order-requires-clause-fits : goal.driver_in_order-requires-clause-fits
driver_in_order-requires-clause-fits c =
    driver_in_order (design_tree c.args.design.now) c.args.weight.now c.args.weight.now c.requires.weight.order refl
    c.requires.can.0 c.args.cert.now c.requires.can.1

pub overflow_cast-weight : goal.overflow_cast-weight
overflow_cast-weight c =
    omega (
      arith,
      few_places (design_tree c.args.design.now) c.args.weight.now c.args.weight.now c.requires.weight.order refl
          c.requires.can.1.sound,
    )

pub returns-in-Ok-written : goal.returns-in-Ok-written
returns-in-Ok-written c =
    let d = design_tree c.args.design.now in
    driver_written d c.args.weight.now c.requires.weight _ refl c.requires.can.0 c.args.cert.now c.in-Ok.moved
    c.in-Ok-written.bytes.items _ c.in-Ok.ensures.order c.in-Ok.ensures.sets c.in-Ok.ensures.ranks
    (moved_driver d c.args.weight.now c.args.weight.now c.requires.weight.order refl c.requires.can.0 c.args.cert.now
    c.in-Ok.moved c.requires.can.1 c.in-Ok.ensures.fits)
    c.in-Ok-written.ensures.reads_back (search rules)
