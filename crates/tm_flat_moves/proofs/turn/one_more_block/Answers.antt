use Rattle.std.proofs.Common.{◌==◌, ◌&&◌, ◌||◌, sym, ap, ◌∙◌}
use Rattle.tm_term.specs.Value.{value_of}
use Rattle.tm_flat_exprs.proofs.Later.{Extends-refl}
use Rattle.tm_flat_exprs.specs.Made.{truth_at}
use Rattle.tm_flat_moves.proofs.Picking.{or_false}
use Rattle.tm_flat_moves.proofs.turn.one_more_block.Goals as goal

pub returns : goal.returns
returns c = record {
  grown = Extends-refl c.args.terms.now;
  sound = c.requires.sound;
  term = c.requires.before;
  truth = λ u more v are.
      sym (ap (λ b. truth_at u v c.args.before || (b && (value_of u v c.args.place == c.args.number))) c.if-row.false
      ∙ or_false (truth_at u v c.args.before));
}
