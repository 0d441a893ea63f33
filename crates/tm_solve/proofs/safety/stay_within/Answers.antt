use Rattle.tm_solve.proofs.Following.{follows_then, is_at, is_kept, told_same, told_other}
use Rattle.tm_solve.proofs.RoundSteps.{removed_at}
use Rattle.tm_solve.proofs.SafetySteps.{kept_at, keeps_stays, keeps_then, kept_shrinks, same_safe, turn_keeps}
use Rattle.tm_solve.proofs.safety.stay_within.Goals as goal

pub returns-then-same-clause-safe : goal.returns-then-same-clause-safe
returns-then-same-clause-safe g c =
    let inv = c.steps.invariant in
    let kept = kept_at c.steps.z c.in_ok-made.made c.in_ok-safe.safe inv.follows c.part.ensures.follows
    inv.keeps.known c.in_ok-made.ensures.value c.in_ok-safe.ensures.value in
    let step = follows_then c.part.ensures.follows c.meet.ensures.follows in
    same_safe (g.P.Pre.game c.args.pre.now) c.steps.z c.in_ok-safe.safe inv.keeps.known step.extends kept
    (told_same c.if-same.ensures)

pub returns-then-same-clause-keeps : goal.returns-then-same-clause-keeps
returns-then-same-clause-keeps g c =
    let inv = c.steps.invariant in
    let step = follows_then c.part.ensures.follows c.meet.ensures.follows in
    keeps_stays step.extends inv.keeps.known inv.keeps

pub steps-smaller : goal.steps-smaller
steps-smaller g c =
    let inv = c.steps.invariant in
    let kept = kept_at c.steps.z c.in_ok-made.made c.in_ok-safe.safe inv.follows c.part.ensures.follows
    inv.keeps.known c.in_ok-made.ensures.value c.in_ok-safe.ensures.value in
    let step = follows_then c.part.ensures.follows c.meet.ensures.follows in
    let to_kept = follows_then inv.follows step in
    let to_removed = follows_then to_kept c.without.ensures.follows in
    kept_shrinks (g.P.Pre.game c.args.pre.now) c.steps.z c.in_ok-safe.safe inv.keeps.known step.extends kept
    c.without.ensures.follows.extends c.remove.ensures.follows.extends c.in_ok-z.z
    (is_at to_removed.game c.in_ok-z.ensures.left) to_kept.exact (told_other c.if-same.ensures)

pub steps-preserved : goal.steps-preserved
steps-preserved g c =
    let inv = c.steps.invariant in
    let kept = kept_at c.steps.z c.in_ok-made.made c.in_ok-safe.safe inv.follows c.part.ensures.follows
    inv.keeps.known c.in_ok-made.ensures.value c.in_ok-safe.ensures.value in
    let step = follows_then c.part.ensures.follows c.meet.ensures.follows in
    let to_kept = follows_then inv.follows step in
    let to_removed = follows_then to_kept c.without.ensures.follows in
    let all = follows_then to_removed c.remove.ensures.follows in
    let adds = removed_at (g.P.Pre.game c.args.pre.now) (g.P.Pre.game c.without.new.self)
    (g.P.Pre.ids c.remove.new.pre) c.steps.z 0 _ c.in_ok-z.z _ _ to_removed.game c.in_ok-z.ensures.levels in
    record {
      follows = all;
      whole = is_kept c.remove.ensures.follows.extends
          (is_kept c.without.ensures.follows.extends (is_kept step.extends inv.whole));
      keeps = keeps_then inv.keeps
          (turn_keeps (g.P.Pre.game c.args.pre.now) c.steps.z c.in_ok-safe.safe inv.keeps.known step.extends kept
          c.without.ensures.follows.extends c.remove.ensures.follows.extends c.in_ok-z.z
          (is_at to_removed.game c.in_ok-z.ensures.left) (g.met.P.Pre.monotone c.args.pre.now)
          (g.met.P.Pre.absorbing c.args.pre.now) c.requires.goal c.whole-whole.result c.in_ok-removed.removed
          c.fairs-fairs.result _ _ _ (is_kept step.extends inv.whole)
          (is_at to_kept.game c.in_ok-removed.ensures.value) c.in_ok-chains.ensures c.fairs-fairs.ensures.value
          all.exact adds);
    }
