use Rattle.std.proofs.Common.{sym, subst}
use Rattle.tm_game_bits.specs.Inputs.{input_levels}
use Rattle.tm_blast.specs.Bits.{AreBits}
use Rattle.tm_game.specs.Game.{GameData, IsOf}
use Rattle.tm_game.proofs.Extending.{grows_from}
use Rattle.tm_game.proofs.TermBits.{bits_extended, bits_told}
use Rattle.tm_game.proofs.game.Game.bits.Goals as goal
use Rattle.tm_game_steps.proofs.Ready.{levels_there, made_there}
use Rattle.tm_sem.specs.StateBits.{state_widths}
use Rattle.tm_syntax.specs.Design.{DesignTree}
use Rattle.tm_term.specs.Table.{IsKnown}

pub bits-requires-clause-known : goal.bits-requires-clause-known
bits-requires-clause-known c =
    subst (λ (g : GameData). IsKnown g.terms c.args.id) (sym c.self.view_is) c.requires

pub bits-requires-clause-levels : goal.bits-requires-clause-levels
bits-requires-clause-levels c =
    levels_there c.self.inside.encoding c.deref.result.now c.deref.ensures.value c.self.inside.dd.table
    c.self.inside.bits c.self.invariant.ready

pub bits-requires-clause-made : goal.bits-requires-clause-made
bits-requires-clause-made c =
    made_there c.self.inside.encoding c.deref.result.now c.deref.ensures.value c.self.inside.dd.table
    c.self.inside.bits c.self.invariant.ready

pub invariant_of-self : goal.invariant_of-self
invariant_of-self c =
    bits_extended c.self.inside c.bits.new.self c.bits.new.dd c.deref.result.now c.deref.ensures.value
    c.self.invariant c.bits.ensures.earlier c.bits.ensures.made

pub invariant_of-self-2 : goal.invariant_of-self-2
invariant_of-self-2 c =
    bits_extended c.self.inside c.bits.new.self c.bits.new.dd c.deref.result.now c.deref.ensures.value
    c.self.invariant c.bits.ensures.earlier c.bits.ensures.made

pub returns-in_err-ids-clause-grows : goal.returns-in_err-ids-clause-grows
returns-in_err-ids-clause-grows c =
    grows_from c.self.inside _ c.self.view_is c.bits.new.dd c.self.inside.recent c.bits.ensures.earlier

pub returns-clause-grows : goal.returns-clause-grows
returns-clause-grows c =
    grows_from c.self.inside _ c.self.view_is c.bits.new.dd c.self.inside.recent c.bits.ensures.earlier

pub returns-clause-bits : goal.returns-clause-bits
returns-clause-bits c =
    subst (λ (g : GameData). (d : DesignTree) → IsOf d g → AreBits g.terms (input_levels g.order (state_widths d))
    c.bits.new.dd.table c.args.id c.in_ok-ids.ids.items) c.self.view_is
    (λ d of.
    bits_told c.self.inside c.self.invariant d of c.deref.result.now c.deref.ensures.value c.bits.new.dd.table c.args.id
    c.in_ok-ids.ids.items c.in_ok-ids.ensures.bits)
