use Rattle.std.proofs.Common.{ℕ, ◌<◌, List, length, sym, ◌∙◌, subst}
use Rattle.std.proofs.lemmas.Option.{slice_get_within}
use Rattle.tm_term.proofs.Valued.{Extends-trans}
use Rattle.tm_flat_stmts.proofs.ReadingBits.{bit_joined}
use Rattle.tm_flat_stmts.proofs.choices.one_more_bit.Goals as goal

pub make-requires : goal.make-requires
make-requires c = (c.requires.term.0, subst (λ (w : ℕ). 1 < w) (sym c.requires.term.1) c.requires.many)

pub make-requires-2 : goal.make-requires-2
make-requires-2 c =
    subst (λ (xs : List ℕ). c.args.input < length xs) (sym c.in_ok-twice.ensures.grown.inputs)
    (slice_get_within c.args.terms.now.inputs c.args.input 1 c.requires.input)

pub make-requires-3 : goal.make-requires-3
make-requires-3 c = (c.requires.width, c.in_ok-bit.ensures.term.0)

pub make-requires-4 : goal.make-requires-4
make-requires-4 c =
    let late = Extends-trans c.make.new.terms c.make-2.new.terms c.make-3.new.terms c.in_ok-bit.ensures.grown
    c.in_ok-low.ensures.grown in (
      late.known c.in_ok-twice.twice c.in_ok-twice.ensures.term.0,
      c.in_ok-low.ensures.term.0,
      late.widths c.in_ok-twice.twice c.in_ok-twice.ensures.term.0
          ∙ c.in_ok-twice.ensures.term.1
          ∙ c.requires.term.1
          ∙ sym c.in_ok-low.ensures.term.1,
    )

pub returns : goal.returns
returns c =
    bit_joined c.args.terms.now c.make.new.terms c.make-2.new.terms c.make-3.new.terms c.make-4.new.terms c.args.width
    _ c.args.input c.args.id c.in_ok-twice.twice c.in_ok-bit.bit c.in_ok-low.low c.in_ok-next.next c.requires.term
    c.in_ok-twice.ensures c.in_ok-bit.ensures c.in_ok-low.ensures c.in_ok-next.ensures
