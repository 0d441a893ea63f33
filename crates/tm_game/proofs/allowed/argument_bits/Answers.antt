use Rattle.std.proofs.Common.{◌++◌, ℕ, Bool, List, sym, ap, ◌∙◌, arith}
use Rattle.std.proofs.lemmas.List.{length-map}
use Rattle.tm_flat.specs.Flat.{step_terms}
use Rattle.tm_game.specs.Inner.Called.{have_widths}
use Rattle.tm_game.proofs.Calling.{row_there}
use Rattle.tm_game.proofs.allowed.argument_bits.Goals as goal
use Rattle.tm_sem.specs.StateBits.{bits_of_numbers}

pub returns : goal.returns
returns c = record {
  callable = record {
    there = omega (arith, c.if-task-len.false, c.len.ensures, length-map c.args.flat.now.tasks.items step_terms);
    widths = c.in-Some.widths.now.items;
    are = row_there c.args.flat.now c.deref.result.now c.args.task c.in-Some.widths c.deref.ensures.value
        c.in-Some.ensures.lookup;
    fit = ap (λ (ws : List ℕ). have_widths ws c.args.arguments.now) (sym c.deref-2.ensures.value)
        ∙ sym c.have_widths.ensures
        ∙ c.if-not-have_widths.false;
  };
  bits_are = c.in_ok-push_numbers.ensures
      ∙ ap (λ (bs : List Bool). bs ++ bits_of_numbers c.deref-3.result.now c.args.arguments.now)
      c.new-bits.ensures.items
      ∙ ap (λ (ws : List ℕ). bits_of_numbers ws c.args.arguments.now) c.deref-3.ensures.value;
}
