use Rattle.std.proofs.Common.{◌≡◌, ◌-◌, ◌<◌, ◌≤◌, ℕ, drop, length, sym, subst, arith}
use Rattle.std.proofs.lemmas.List.{at_drop_all}
use Rattle.tm_syntax.specs.Counts.Choices.{row_paths}
use Rattle.tm_scope.specs.Context.{context_of}
use Rattle.tm_limits.specs.Inner.PathSums.{AreBest}
use Rattle.tm_limits.proofs.PathRows.{local_before, locals_row}
use Rattle.tm_limits.proofs.choices.locals_paths.Goals as goal

pub loop-left-init : goal.loop-left-init
loop-left-init c = record {
  short = omega arith;
  best = λ within ss known behind.
      subst (λ r. AreBest c.args.behind (row_paths within (context_of c.args.calls.now.place) r))
      (sym (at_drop_all (locals_row within (context_of c.args.calls.now.place) ss) c.args.locals.now
      (length c.args.locals.now)
      (omega arith))) behind;
}

pub loop-left-preserved : goal.loop-left-preserved
loop-left-preserved c =
    let left : ℕ = c.loop-left.left in
    let some : 0 < left = omega arith in
    let short : left ≤ length c.args.locals.now = c.loop-left.invariant.short in
    record {
      short = omega arith;
      best = λ within ss known behind.
          local_before within (context_of c.args.calls.now.place) ss c.args.locals.now left (left - 1)
          c.index-locals-left.result c.local_paths.result c.loop-left.paths c.then-paths.result (omega arith)
          (omega arith) c.index-locals-left.is (c.local_paths.ensures within known)
          (c.loop-left.invariant.best within ss known behind) c.then-paths.ensures;
    }

pub returns : goal.returns
returns c = λ within ss known behind.
    let done : c.loop-left.left ≡ 0 = omega arith in
    subst (λ n. AreBest c.loop-left.paths (row_paths within (context_of c.args.calls.now.place)
    (locals_row within (context_of c.args.calls.now.place) ss (drop n c.args.locals.now)))) done
    (c.loop-left.invariant.best within ss known behind)
