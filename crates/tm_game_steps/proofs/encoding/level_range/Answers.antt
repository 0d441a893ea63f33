use Rattle.std.proofs.Common.{ap, sym, ◌≡◌, ◌∙◌, ◌+◌, ◌∷◌, ◌++◌, [], List, ℕ, arith}
use Rattle.std.specs.List.{range_with_len}
use Rattle.tm_game_steps.proofs.Ranges.{range_more}
use Rattle.tm_game_steps.proofs.encoding.level_range.Goals as goal

pub loop-bit-preserved : goal.loop-bit-preserved
loop-bit-preserved c =
    c.in_ok-push.ensures.items
    ∙ ap (λ (xs : List ℕ). xs ++ (c.args.first + c.loop-bit.bit) ∷ []) c.loop-bit.invariant
    ∙ sym (range_more c.args.first c.loop-bit.bit)

pub returns : goal.returns
returns c =
    let all : c.loop-bit.bit ≡ c.args.count = omega (arith, c.loop-bit.auto.bit-end, c.loop-bit-test.false) in
    c.loop-bit.invariant ∙ ap (range_with_len c.args.first) all
