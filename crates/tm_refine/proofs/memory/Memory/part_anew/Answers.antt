use Rattle.std.proofs.Common.{sym, ◌∙◌}
use Rattle.std.proofs.Math.Logic.{∥∥₁_elim}
use Rattle.std.proofs.lemmas.Option.{none-some}
use Rattle.std.proofs.lemmas.Result.{IfOk-weaker}
use Rattle.tm_abs.proofs.Kept.{cells_prop}
use Rattle.tm_refine.proofs.Memories.{part_over_cells}
use Rattle.tm_solve_exact.specs.Exact.{set_of}
use Rattle.tm_refine.proofs.memory.Memory.part_anew.Goals as goal

pub part_over-requires-clause-cells : goal.part_over-requires-clause-cells
part_over-requires-clause-cells c =
    ∥∥₁_elim c.requires.remembers (cells_prop c.args.game.now c.in-Some.cells)
    (λ are. (are c.in-Some.cells c.in-Some.is).0)

pub returns-clause-value : goal.returns-clause-value
returns-clause-value c =
    let g = c.args.game.now in
    IfOk-weaker c.part_over.result _ _
    (λ id is.
    part_over_cells g c.part_over.new.game c.args.self.now (set_of g c.args.set) id c.in-Some.cells c.in-Some.is
    is) c.part_over.ensures.value

pub unreachable-requires : goal.unreachable-requires
unreachable-requires c =
    absurd (none-some c.requires.over.2.0 (sym c.in-None.is ∙ c.requires.over.2.1))
