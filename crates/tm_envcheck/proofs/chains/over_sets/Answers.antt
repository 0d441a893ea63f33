use Rattle.std.proofs.Common.{length, sym, subst, arith}
use Rattle.std.proofs.lemmas.Option.{slice_get-get_or}
use Rattle.tm_envcheck.specs.Tried.{AreTried}
use Rattle.tm_envcheck.proofs.ChainParts.{set_there}
use Rattle.tm_envcheck.proofs.Growing.{can_kept, over_kept, set_told_kept, told_kept}
use Rattle.tm_game.proofs.Growing.{grows_none, grows_then, set_kept}
use Rattle.tm_game.proofs.MadeSets.{false_set, false_test}
use Rattle.tm_verdict.specs.Environment.{level_meaning, set_parts}
use Rattle.tm_verdict.proofs.Trying.{refused_stops, tried_all, tried_more, tried_none}
use Rattle.tm_envcheck.proofs.chains.over_sets.Goals as goal

pub loop-set-init : goal.loop-set-init
loop-set-init c = record {
  grows = grows_none c.args.game.now;
  before = false_set c.args.game.now;
  lower = λ d. sym (false_test d c.args.game.now);
  tried = λ d of k i can tells there. tried_none (level_meaning d of) (set_parts k i) (length c.args.chain.now);
}

pub try_set-requires-clause-level : goal.try_set-requires-clause-level
try_set-requires-clause-level c =
    over_kept c.args.game.now c.loop-set.game c.loop-set.invariant.grows c.args.level.now c.requires.level

pub try_set-requires-clause-before : goal.try_set-requires-clause-before
try_set-requires-clause-before c =
    set_kept c.args.game.now c.loop-set.game c.loop-set.invariant.grows c.loop-set.before c.loop-set.invariant.before

pub try_set-requires-clause-set : goal.try_set-requires-clause-set
try_set-requires-clause-set c =
    set_kept c.args.game.now c.loop-set.game c.loop-set.invariant.grows _
    (c.requires.chain c.loop-set.set-index _
    (slice_get-get_or c.args.chain.now c.loop-set.set-index (record { 0 = 0 }) c.loop-set-test.true))

pub returns-in_err-try_set-clause-grows : goal.returns-in_err-try_set-clause-grows
returns-in_err-try_set-clause-grows c = grows_then _ _ _ c.loop-set.invariant.grows c.try_set.ensures.grows

pub returns-in-Refused-clause-grows : goal.returns-in-Refused-clause-grows
returns-in-Refused-clause-grows c = grows_then _ _ _ c.loop-set.invariant.grows c.try_set.ensures.grows

pub returns-in-Refused-clause-tried : goal.returns-in-Refused-clause-tried
returns-in-Refused-clause-tried c = λ d of k i can tells there.
    let at = slice_get-get_or c.args.chain.now c.loop-set.set-index (record { 0 = 0 }) c.loop-set-test.true in
    let is = c.requires.chain c.loop-set.set-index _ at in
    let told = set_there d c.args.game.now of k c.args.level.now tells i c.args.chain.now there c.loop-set.set-index _
    at
    c.loop-set.before (c.loop-set.invariant.lower d) in
    refused_stops (level_meaning d of) (set_parts k i) (length c.args.chain.now) c.loop-set.set-index
    c.in-Refused.condition c.in-Refused.goal c.in-Refused.state c.loop-set-test.true
    (c.loop-set.invariant.tried d of k i can tells there)
    (subst (AreTried d of (set_parts k i c.loop-set.set-index)) c.in-Refused.is
    (c.in_ok-try_set.ensures.tried d of k i c.loop-set.set-index
    (can_kept c.args.game.now c.loop-set.game c.loop-set.invariant.grows d can)
    (told_kept c.args.game.now c.loop-set.game c.loop-set.invariant.grows d of k c.args.level.now c.requires.level
    tells)
    (set_told_kept c.args.game.now c.loop-set.game c.loop-set.invariant.grows d of k i c.loop-set.set-index
    c.loop-set.before _ c.loop-set.invariant.before is told)))

pub loop-set-preserved : goal.loop-set-preserved
loop-set-preserved c =
    let at = slice_get-get_or c.args.chain.now c.loop-set.set-index (record { 0 = 0 }) c.loop-set-test.true in
    let is = c.requires.chain c.loop-set.set-index _ at in
    record {
      grows = grows_then _ _ _ c.loop-set.invariant.grows c.try_set.ensures.grows;
      before = is;
      lower = λ d.
          Rattle.tm_envcheck.proofs.ChainParts.set_before_next d c.args.game.now c.args.chain.now c.loop-set.set-index
          _ at;
      tried = λ d of k i can tells there.
          let told = set_there d c.args.game.now of k c.args.level.now tells i c.args.chain.now there
          c.loop-set.set-index _ at c.loop-set.before (c.loop-set.invariant.lower d) in
          tried_more (level_meaning d of) (set_parts k i) (length c.args.chain.now) c.loop-set.set-index
          c.loop-set-test.true (c.loop-set.invariant.tried d of k i can tells there)
          (subst (AreTried d of (set_parts k i c.loop-set.set-index)) c.in-Accepted.is
          (c.in_ok-try_set.ensures.tried d of k i c.loop-set.set-index
          (can_kept c.args.game.now c.loop-set.game c.loop-set.invariant.grows d can)
          (told_kept c.args.game.now c.loop-set.game c.loop-set.invariant.grows d of k c.args.level.now
          c.requires.level tells)
          (set_told_kept c.args.game.now c.loop-set.game c.loop-set.invariant.grows d of k i c.loop-set.set-index
          c.loop-set.before _ c.loop-set.invariant.before is told)));
    }

pub returns-clause-tried : goal.returns-clause-tried
returns-clause-tried c = λ d of k i can tells there.
    tried_all (level_meaning d of) (set_parts k i) (length c.args.chain.now) c.loop-set.set-index (omega arith)
    (c.loop-set.invariant.tried d of k i can tells there)
