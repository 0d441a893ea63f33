use Rattle.std.proofs.Math.Logic.{∥∥₁_elim}
use Rattle.tm_refine.proofs.PoolKeeps.{design_of}
use Rattle.tm_solve_exact.proofs.Truncated.{set_prop}
use Rattle.tm_solve_exact.proofs.Whole.{whole_any}
use Rattle.tm_refine.proofs.pooled_arena.PooledArena.hint.Goals as goal

pub returns-in-Some : goal.returns-in-Some
returns-in-Some c = record {
  known = ∥∥₁_elim c.args.self.now.hint_known (set_prop c.args.self.now.exact.game c.in-Some.set)
      (λ known. known c.in-Some.set c.in-Some.is);
}

pub returns-in-None : goal.returns-in-None
returns-in-None c = record {
  known = (whole_any c.args.self.now.exact.game (design_of c.args.self.now.exact.game c.args.self.now.can)
      c.valid.result c.valid.ensures.value).known;
}
