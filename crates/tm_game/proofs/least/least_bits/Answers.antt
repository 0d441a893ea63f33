use Rattle.std.proofs.Common.{◌∙◌, arith}
use Rattle.tm_dd.proofs.CallerLaws.{Extends-trans}
use Rattle.tm_game.proofs.LeastStates.{found_both, levels_below}
use Rattle.tm_game.proofs.least.least_bits.Goals as goal

pub least-requires-clause-levels : goal.least-requires-clause-levels
least-requires-clause-levels c =
    levels_below c.args.order.now c.deref.result.now c.and.new.self.table.levels c.requires.order
    (c.deref.ensures.value ∙ c.in_ok-levels.ensures)
    (omega (arith, c.requires.levels, c.and.ensures.grows.extends.same_levels))

pub returns-clause-least : goal.returns-clause-least
returns-clause-least c =
    found_both c.args.dd.now.table c.and.new.self.table c.least.new.dd.table c.and.ensures.grows.extends c.args.valid
    c.args.set c.in_ok-both.both c.requires.valid c.requires.set c.in_ok-both.ensures.answer c.args.order.now
    c.deref.result.now (c.deref.ensures.value ∙ c.in_ok-levels.ensures) c.in_ok-bits.bits c.in_ok-bits.ensures.least

pub returns-in_err-bits-clause-extends : goal.returns-in_err-bits-clause-extends
returns-in_err-bits-clause-extends c = Extends-trans _ _ _ c.and.ensures.grows.extends c.least.ensures.extends

pub returns-clause-extends : goal.returns-clause-extends
returns-clause-extends c = Extends-trans _ _ _ c.and.ensures.grows.extends c.least.ensures.extends
