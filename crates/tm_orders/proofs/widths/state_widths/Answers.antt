use Rattle.std.proofs.Common.{◌≡◌, ◌-◌, ◌≤◌, length, sym, ap, ◌∙◌, subst, arith}
use Rattle.std.specs.Prelude.{All}
use Rattle.std.proofs.lemmas.List.Elements.{All-take, All-weaker}
use Rattle.tm_base.specs.Arithmetic.{IsWidth}
use Rattle.tm_syntax.specs.Design.View.{design_tree}
use Rattle.tm_orders.proofs.StateWidths.{count_inputs, first_widths}
use Rattle.tm_orders.proofs.widths.state_widths.Goals as goal

pub overflow_sub-count : goal.overflow_sub-count
overflow_sub-count c =
    omega (
      arith,
      c.in_ok-widths.widths.ok.0,
      ap length c.in_ok-widths.ensures.widths,
      count_inputs (design_tree c.args.design.now),
    )

pub returns-clause-widths : goal.returns-clause-widths
returns-clause-widths c =
    let count : c.len-count.result - 128 ≡ length c.in_ok-widths.widths.items - 128 =
    omega (arith, c.in_ok-widths.widths.ok.0) in
    c.truncate.ensures.items
    ∙ first_widths (design_tree c.args.design.now) c.in_ok-widths.widths.items c.in_ok-widths.ensures.widths _ count

pub returns-clause-small : goal.returns-clause-small
returns-clause-small c =
    subst (All (λ w. w ≤ 64)) (sym c.truncate.ensures.items)
    (All-take (λ w. w ≤ 64) _ c.in_ok-widths.widths.items
    (All-weaker IsWidth (λ w. w ≤ 64) (λ w is. is.1) c.in_ok-widths.widths.items c.in_ok-widths.ensures.in_range))
