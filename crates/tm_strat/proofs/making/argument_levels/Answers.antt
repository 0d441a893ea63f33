use Rattle.std.proofs.Common.{ℕ, ◌+◌, List, ◌++◌, ◌∷◌, [], sym, ap, ◌∙◌, arith}
use Rattle.std.specs.List.{range_with_len}
use Rattle.tm_strat.proofs.Constants.{room_is}
use Rattle.tm_strat.proofs.Levels.{range_more}
use Rattle.tm_strat.proofs.making.argument_levels.Goals as goal

pub loop-index-init : goal.loop-index-init
loop-index-init c = c.new-levels.ensures.items

pub loop-index-preserved : goal.loop-index-preserved
loop-index-preserved c =
    c.in_ok-push.ensures.items
    ∙ ap (λ (l : List ℕ). l ++ (c.args.first + c.loop-index.index) ∷ []) c.loop-index.invariant
    ∙ sym (range_more c.args.first c.loop-index.index)

pub returns : goal.returns
returns c =
    let ends = c.loop-index.auto.index-end in
    let last = c.loop-index-test.false in
    c.loop-index.invariant ∙ ap (range_with_len c.args.first) (omega (arith, ends, last, room_is))
