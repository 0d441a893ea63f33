use Rattle.std.proofs.Common.{refl, sym, arith}
use Rattle.std.proofs.lemmas.Result.{IfOk-weaker}
use Rattle.tm_game_bits.proofs.Orders.{length_order}
use Rattle.tm_judge.proofs.Moving.{environment_in_order, few_places, moved_environment, whole_order}
use Rattle.tm_syntax.specs.Design.View.{design_tree}
use Rattle.tm_synth.proofs.Files.{loss_written}
use Rattle.tm_synth.proofs.environment.write_cert.Goals as goal

pub environment_in_order-requires-clause-bits : goal.environment_in_order-requires-clause-bits
environment_in_order-requires-clause-bits c = sym (length_order _ c.args.weight.now c.requires.weight.order)

pub environment_in_order-requires-clause-count : goal.environment_in_order-requires-clause-count
environment_in_order-requires-clause-count c =
    few_places (design_tree c.args.design.now) c.args.weight.now c.args.weight.now c.requires.weight.order refl
    c.requires.can.sound

pub environment_in_order-requires-clause-order : goal.environment_in_order-requires-clause-order
environment_in_order-requires-clause-order c =
    whole_order (design_tree c.args.design.now) c.args.weight.now c.args.weight.now c.requires.weight.order refl

pub environment_in_order-requires-clause-fits : goal.environment_in_order-requires-clause-fits
environment_in_order-requires-clause-fits c =
    environment_in_order (design_tree c.args.design.now) c.args.weight.now c.args.weight.now c.requires.weight.order
    refl c.args.cert.now c.requires.can

pub overflow_cast-weight : goal.overflow_cast-weight
overflow_cast-weight c =
    omega (
      arith,
      few_places (design_tree c.args.design.now) c.args.weight.now c.args.weight.now c.requires.weight.order refl
          c.requires.can.sound,
    )

pub returns : goal.returns
returns c =
    let d = design_tree c.args.design.now in
    IfOk-weaker c.write_shaped-written.result _ _
    (λ text written.
    loss_written d c.args.weight.now c.requires.weight _ refl c.args.cert.now c.in-Ok.moved text.items
    c.in-Ok.ensures.order c.in-Ok.ensures.sets
    (moved_environment d c.args.weight.now c.args.weight.now c.requires.weight.order refl c.args.cert.now
    c.in-Ok.moved c.requires.can c.in-Ok.ensures.fits)
    written)
    c.write_shaped-written.ensures.reads_back
