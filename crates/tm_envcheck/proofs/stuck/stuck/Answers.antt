use Rattle.std.proofs.Common.{sym, ◌∙◌, arith}
use Rattle.std.proofs.lemmas.List.{length-map}
use Rattle.std.proofs.lemmas.Option.{slice_get-get_or}
use Rattle.tm_dd.specs.declared.node.TheConstants.{FALSE}
use Rattle.tm_dd.proofs.Meaning.{means-FALSE}
use Rattle.tm_envcheck.specs.Inner.Told.{chain_told}
use Rattle.tm_envcheck.proofs.ChainParts.{set_before_next}
use Rattle.tm_envcheck.proofs.Growing.{means_at, ready_kept}
use Rattle.tm_envcheck.proofs.Falling.{settled_more, stuck_all, stuck_first, stuck_more, union_more}
use Rattle.tm_game.specs.Least.{test_of}
use Rattle.tm_game.proofs.Growing.{grows_none, grows_then, of_kept, set_kept}
use Rattle.tm_game.proofs.MadeSets.{false_set, false_test}
use Rattle.tm_envcheck.proofs.stuck.stuck.Goals as goal

pub loop-set-init : goal.loop-set-init
loop-set-init c = record {
  grows = grows_none c.args.game.now;
  failing = false_set c.args.game.now;
  held = false_set c.args.game.now;
  before = false_set c.args.game.now;
  union = λ v. means-FALSE c.args.game.now.diagrams.table v;
  lower = λ d. sym (false_test d c.args.game.now);
  value = λ d of s valid.
      stuck_first d (chain_told d c.args.game.now c.args.chain.now) (test_of d c.args.game.now c.args.unmet)
      (test_of d c.args.game.now c.args.below) s (test_of d c.args.game.now FALSE s)
      (λ i. false_test d c.args.game.now i s);
  settled = λ d of s valid x below. absurd (omega (arith, below));
}

pub stuck_at-requires-clause-ready : goal.stuck_at-requires-clause-ready
stuck_at-requires-clause-ready c = ready_kept c.args.game.now c.loop-set.game c.loop-set.invariant.grows
    c.requires.ready

pub stuck_at-requires-clause-unmet : goal.stuck_at-requires-clause-unmet
stuck_at-requires-clause-unmet c = set_kept c.args.game.now c.loop-set.game c.loop-set.invariant.grows c.args.unmet
    c.requires.unmet

pub stuck_at-requires-clause-before : goal.stuck_at-requires-clause-before
stuck_at-requires-clause-before c = set_kept c.args.game.now c.loop-set.game c.loop-set.invariant.grows
    c.loop-set.before c.loop-set.invariant.before

pub stuck_at-requires-clause-below : goal.stuck_at-requires-clause-below
stuck_at-requires-clause-below c = set_kept c.args.game.now c.loop-set.game c.loop-set.invariant.grows c.args.below
    c.requires.below

pub stuck_at-requires-clause-set : goal.stuck_at-requires-clause-set
stuck_at-requires-clause-set c =
    set_kept c.args.game.now c.loop-set.game c.loop-set.invariant.grows _
    (c.requires.chain c.loop-set.set-index _
    (slice_get-get_or c.args.chain.now c.loop-set.set-index (record { 0 = 0 }) c.loop-set-test.true))

pub returns-in_err-here-clause-grows : goal.returns-in_err-here-clause-grows
returns-in_err-here-clause-grows c = grows_then _ _ _ c.loop-set.invariant.grows c.stuck_at.ensures.grows

pub either-requires-clause-a : goal.either-requires-clause-a
either-requires-clause-a c =
    set_kept c.loop-set.game c.stuck_at.new.game c.stuck_at.ensures.grows c.loop-set.failing
    c.loop-set.invariant.failing

pub returns-in_err-failing-clause-grows : goal.returns-in_err-failing-clause-grows
returns-in_err-failing-clause-grows c = grows_then _ _ _ c.loop-set.invariant.grows (grows_then _ _ _
    c.stuck_at.ensures.grows c.either.ensures.grows)

pub either-requires-in-loop-set-clause-a : goal.either-requires-in-loop-set-clause-a
either-requires-in-loop-set-clause-a c =
    set_kept c.stuck_at.new.game c.either.new.game c.either.ensures.grows c.loop-set.held
    (set_kept c.loop-set.game c.stuck_at.new.game c.stuck_at.ensures.grows c.loop-set.held c.loop-set.invariant.held)

pub either-requires-in-loop-set-clause-b : goal.either-requires-in-loop-set-clause-b
either-requires-in-loop-set-clause-b c =
    set_kept c.stuck_at.new.game c.either.new.game c.either.ensures.grows _
    (set_kept c.loop-set.game c.stuck_at.new.game c.stuck_at.ensures.grows _
    (set_kept c.args.game.now c.loop-set.game c.loop-set.invariant.grows _
    (c.requires.chain c.loop-set.set-index _
    (slice_get-get_or c.args.chain.now c.loop-set.set-index (record { 0 = 0 }) c.loop-set-test.true))))

pub returns-in_err-held-clause-grows : goal.returns-in_err-held-clause-grows
returns-in_err-held-clause-grows c =
    grows_then _ _ _ c.loop-set.invariant.grows (grows_then _ _ _ c.stuck_at.ensures.grows (grows_then _ _ _
    c.either.ensures.grows c.either-in-loop-set.ensures.grows))

pub loop-set-preserved : goal.loop-set-preserved
loop-set-preserved c =
    let at = slice_get-get_or c.args.chain.now c.loop-set.set-index (record { 0 = 0 }) c.loop-set-test.true in
    let is = c.requires.chain c.loop-set.set-index _ at in
    let first = grows_then c.loop-set.game c.stuck_at.new.game c.either.new.game c.stuck_at.ensures.grows
    c.either.ensures.grows in
    let to_two = grows_then c.args.game.now c.loop-set.game c.either.new.game c.loop-set.invariant.grows first in
    record {
      grows = grows_then _ _ _ c.loop-set.invariant.grows (grows_then _ _ _ first c.either-in-loop-set.ensures.grows);
      failing = set_kept c.either.new.game c.either-in-loop-set.new.game c.either-in-loop-set.ensures.grows
          c.in_ok-failing.failing c.in_ok-failing.ensures.set;
      held = c.in_ok-held.ensures.set;
      before = is;
      union = union_more c.args.game.now c.either.new.game c.either-in-loop-set.new.game to_two c.args.chain.now
          c.loop-set.set-index c.loop-set.held
          c.in_ok-held.held c.loop-set-test.true (record { 0 = 0 }) is
          (λ v.
          means_at c.loop-set.game c.either.new.game first c.loop-set.held c.loop-set.invariant.held v
          ∙ c.loop-set.invariant.union v) c.in_ok-held.ensures.value;
      lower = λ d. set_before_next d c.args.game.now c.args.chain.now c.loop-set.set-index _ at;
      value = λ d of s valid.
          stuck_more d c.args.game.now c.loop-set.game c.loop-set.invariant.grows c.args.chain.now
          c.loop-set.set-index _
          c.loop-set-test.true at c.args.unmet c.args.below c.loop-set.before c.loop-set.held c.requires.unmet
          c.requires.below c.loop-set.invariant.before is (c.loop-set.invariant.lower d) c.loop-set.invariant.union
          c.stuck_at.new.game c.either.new.game c.stuck_at.ensures.grows c.in_ok-here.here
          c.loop-set.failing c.in_ok-failing.failing c.loop-set.invariant.failing c.either.ensures.grows
          c.in_ok-failing.ensures.value c.either-in-loop-set.new.game c.either-in-loop-set.ensures.grows
          c.in_ok-failing.ensures.set s
          (c.in_ok-here.ensures.value d (of_kept c.args.game.now c.loop-set.game c.loop-set.invariant.grows d of) s
          valid) (c.loop-set.invariant.value d of s valid);
      settled = λ d of s valid.
          settled_more d c.args.game.now c.loop-set.game c.loop-set.invariant.grows c.args.chain.now
          c.loop-set.set-index _
          c.loop-set-test.true at c.args.unmet c.args.below c.loop-set.before c.loop-set.held c.requires.unmet
          c.requires.below c.loop-set.invariant.before is (c.loop-set.invariant.lower d) c.loop-set.invariant.union s
          (c.loop-set.invariant.settled d of s valid)
          (c.in_ok-here.ensures.decided d (of_kept c.args.game.now c.loop-set.game c.loop-set.invariant.grows d of) s
          valid);
    }

pub returns-clause-value : goal.returns-clause-value
returns-clause-value c = λ d of s valid.
    stuck_all d (chain_told d c.args.game.now c.args.chain.now) (test_of d c.args.game.now c.args.unmet)
    (test_of d c.args.game.now c.args.below) c.loop-set.set-index s (test_of d c.loop-set.game c.loop-set.failing s)
    (omega (arith, length-map c.args.chain.now (test_of d c.args.game.now)))
    (c.loop-set.invariant.value d of s valid)

pub returns-clause-settled : goal.returns-clause-settled
returns-clause-settled c = λ d of s valid x below. c.loop-set.invariant.settled d of s valid x (omega (arith, below))
