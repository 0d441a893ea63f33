use Rattle.std.proofs.Common.{◌<◌, ◌^◌, subst, sym}
use Rattle.tm_flat_states.proofs.Bounding.{makes_at_most}
use Rattle.tm_flat_states.proofs.Choosing.{alike_number}
use Rattle.tm_flat_states.proofs.bounds.is_at_most.Goals as goal

pub make-requires : goal.make-requires
make-requires c = (
  c.width-width.ensures.in_range,
  subst (λ w. c.args.most < 2 ^ w) (sym c.width-width.ensures.width)
      c.requires.within,
)

pub make-requires-2 : goal.make-requires-2
make-requires-2 c =
    alike_number c.args.terms.now c.make.new.terms c.args.of c.in_ok-constant.constant c.width-width.result c.args.most
    c.width-width.ensures.width c.requires.known c.in_ok-constant.ensures

pub returns : goal.returns
returns c =
    makes_at_most c.args.terms.now c.make.new.terms c.make-2.new.terms c.denial.new.terms c.args.of
    c.in_ok-constant.constant c.in_ok-above.above c.in_ok-id.id c.args.most c.width-width.result
    c.in_ok-constant.ensures
    c.in_ok-above.ensures c.in_ok-id.ensures
