use Rattle.std.proofs.Common.{◌-◌, ◌*◌, ◌^◌, ◌∙◌, arith}
use Rattle.std.specs.Prelude.{min}
use Rattle.tm_limits.proofs.Products.{product_stops}
use Rattle.tm_limits.proofs.amount.product.Goals as goal

pub returns : goal.returns
returns c = λ m n first second.
    c.saturating_mul.ensures
    ∙ (λ i. min (first i * second i) (2 ^ 64 - 1))
    ∙ product_stops (2 ^ 64 - 1) m n (omega arith)
