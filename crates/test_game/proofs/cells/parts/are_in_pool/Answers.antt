use Rattle.std.proofs.Common.{◌<◌, ◌∙◌, ℕ, All, ap, length, subst}
use Rattle.tm_flat.specs.Flat.{FlatTerms}
use Rattle.test_game.proofs.cells.parts.are_in_pool.Goals as goal

pub returns : goal.returns
returns c = λ passed.
    subst (λ (n : ℕ). All (λ k. k < n) c.args.numbers.now)
    ((c.len.ensures ∙ c.flat.result.now.pool.ok.0) ∙ ap (λ (t : FlatTerms). length t.pool) c.flat.ensures)
    (c.are_below.ensures passed)
