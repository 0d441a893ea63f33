use Rattle.std.proofs.Common.{sym, ◌∙◌}
use Rattle.tm_flat_pool.proofs.PushedBits.{alone_pushed, input_pushed}
use Rattle.tm_flat_pool.proofs.bits.push_bits.Goals as goal

pub returns-then-width-eq1 : goal.returns-then-width-eq1
returns-then-width-eq1 c =
    alone_pushed c.args.terms.now c.mk.new.self c.args.index c.width-width.result c.in_ok-input.input
    c.args.ids.now.items c.push.new.self.items c.in_ok-input.ensures.earlier c.in_ok-input.ensures.sound
    c.in_ok-input.ensures.term c.requires.inside c.if-width-eq1.true
    (c.in_ok-input.ensures.known, sym c.width-width.ensures.width)
    (c.width-width.ensures.width ∙ c.in_ok-input.ensures.width) c.in_ok-push.ensures.items

pub returns : goal.returns
returns c =
    input_pushed c.args.terms.now c.mk.new.self c.push_each.new.terms c.args.index c.width-width.result
    c.args.ids.now.items c.push_each.new.ids.items c.in_ok-input.ensures.earlier
    (c.width-width.ensures.width ∙ c.in_ok-input.ensures.width) c.in_ok-push_each.ensures
