use Rattle.std.proofs.Common.{ℕ, ◌+◌, subst, arith}
use Rattle.std.specs.Prelude.{bit_or, slice_index}
use Rattle.tm_base.specs.Arithmetic.{resize, shift_left}
use Rattle.tm_term.specs.Value.{value_of}
use Rattle.tm_flat_exprs.specs.Made.{Makes}
use Rattle.tm_flat_stmts.proofs.ReadingBits.{first_bit, more_bits}
use Rattle.tm_flat_stmts.proofs.choices.choice_number.Goals as goal

pub loop-index-init : goal.loop-index-init
loop-index-init c =
    first_bit c.args.terms.now c.args.first c.args.position c.args.width c.requires.bits c.make.new.terms
    c.make-2.new.terms c.in_ok-top.top c.in_ok-id.id c.in_ok-top.ensures.grown c.requires.width c.in_ok-id.ensures
    (λ u more v inputs. c.in_ok-top.ensures.value u more v inputs)

pub loop-index-preserved : goal.loop-index-preserved
loop-index-preserved c =
    more_bits c.args.terms.now c.args.first c.args.position c.args.width c.requires.bits c.loop-index.index
    (omega (arith, c.loop-index-test.true)) c.loop-index.terms c.one_more_bit.new.terms c.loop-index.id
    c.in_ok-id-2.id c.loop-index.invariant
    (subst (λ (k : ℕ). Makes c.loop-index.terms c.one_more_bit.new.terms c.args.width c.in_ok-id-2.id
    (λ u v. bit_or (shift_left c.args.width (value_of u v c.loop-index.id) 1)
    (resize c.args.width (slice_index v (c.args.first + c.args.position + k))))) c.from.ensures
    c.in_ok-id-2.ensures)
