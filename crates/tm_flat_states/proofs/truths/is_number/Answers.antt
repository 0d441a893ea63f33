use Rattle.std.proofs.Common.{subst, sym, ◌<◌, ◌^◌}
use Rattle.tm_flat_states.proofs.Choosing.{makes_number, number_alike}
use Rattle.tm_flat_states.proofs.truths.is_number.Goals as goal

pub make-requires : goal.make-requires
make-requires c = (
  c.width-width.ensures.in_range,
  subst (λ w. c.args.number < 2 ^ w) (sym c.width-width.ensures.width)
      c.requires.within,
)

pub make-requires-2 : goal.make-requires-2
make-requires-2 c =
    number_alike c.args.terms.now c.make.new.terms c.args.of c.in_ok-constant.constant c.width-width.result
    c.args.number
    c.width-width.ensures.width c.requires.known c.in_ok-constant.ensures

pub returns : goal.returns
returns c =
    makes_number c.args.terms.now c.make.new.terms c.make-2.new.terms c.args.of c.in_ok-constant.constant c.in_ok-id.id
    c.args.number c.width-width.result c.in_ok-constant.ensures c.in_ok-id.ensures
