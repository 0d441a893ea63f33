use Rattle.std.proofs.Common.{◌≡◌, ℕ, ◌<◌, All, length, ap, subst, ◌∙◌}
use Rattle.tm_abs.proofs.ValidParts.{some_kept}
use Rattle.tm_flat.specs.Flat.{FlatTerms}
use Rattle.tm_syntax.specs.Design.View.{design_tree}
use Rattle.bench.proofs.cells.parted.Goals as goal

pub new-requires-clause-pool : goal.new-requires-clause-pool
new-requires-clause-pool c =
    ∣ (design_tree c.args.design.now, record { of = c.in_ok-game.ensures.of; pool = c.in_ok-game.ensures.pool }) ∣₁

pub new-requires-clause-tracked : goal.new-requires-clause-tracked
new-requires-clause-tracked c =
    let same : c.len-pool.result ≡ length c.in_ok-game.game.flat.pool =
    (c.len-pool.ensures ∙ c.flat.result.now.pool.ok.0) ∙ ap (λ (t : FlatTerms). length t.pool) c.flat.ensures in
    subst (λ (n : ℕ). All (λ k. k < n) c.in_ok-numbers.numbers.items) same c.in_ok-numbers.ensures

pub count-requires-clause-pool : goal.count-requires-clause-pool
count-requires-clause-pool c =
    some_kept c.in_ok-game.game c.new.new.game c.new.ensures.grows
    (∣ (design_tree c.args.design.now, record { of = c.in_ok-game.ensures.of; pool = c.in_ok-game.ensures.pool }) ∣₁)
