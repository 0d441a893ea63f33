use Rattle.std.proofs.Common.{ℕ, ◌+◌, ◌-◌, ◌++◌, take, ap, ◌∙◌, arith}
use Rattle.std.specs.Prelude.{replicate}
use Rattle.tm_refine.specs.Pooled.{no_bits}
use Rattle.tm_refine.specs.PoolTests.{inputs_full}
use Rattle.tm_refine.proofs.telling.inputs_of.Goals as goal

pub returns : goal.returns
returns c =
    inputs_full c.in_ok-inputs.inputs.items c.resize.new.self.items (c.len.result + 128)
    (omega (arith, c.len.ensures, c.in_ok-inputs.inputs.ok.0))
    (c.in_ok-resize.ensures.items
    ∙ ap (λ (n : ℕ). take (c.len.result + 128) c.in_ok-inputs.inputs.items
    ++ replicate (c.len.result + 128 - n) 0) c.in_ok-inputs.inputs.ok.0)
    ∙ ap (λ l. l ++ no_bits ++ no_bits) c.in_ok-inputs.ensures
