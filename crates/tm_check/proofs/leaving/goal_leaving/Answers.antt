use Rattle.std.proofs.Common.{◌≡◌, ℕ, ◌+◌, ◌-◌, List, [], ◌∷◌, ◌++◌, true, Some, length, sym, ap, ◌∙◌, subst, arith}
use Rattle.std.proofs.lemmas.Option.{slice_get-get_or}
use Rattle.tm_check.specs.declared.replies.Replies.{Replies}
use Rattle.tm_check.proofs.Found.{all_found}
use Rattle.tm_check.proofs.Keeping.{answers_kept, told_kept}
use Rattle.tm_check.proofs.LeavingRanks.{AreFirstLeaving, all_left, leaving_all, leaving_more, leaving_none, plays_of}
use Rattle.tm_check.proofs.Parts.{ranked_here}
use Rattle.tm_check.proofs.States.{set_is}
use Rattle.tm_check.specs.Leaving.{AreAnswers}
use Rattle.tm_check.specs.Told.{IsTold}
use Rattle.tm_check.proofs.leaving.goal_leaving.Goals as goal
use Rattle.tm_cir.specs.Answer.{Answers}
use Rattle.tm_cir.specs.Tree.{BlockTree}
use Rattle.tm_dd.specs.declared.node.NodeId.{NodeId}
use Rattle.tm_verdict.specs.Found.{MayLeave, within_rank}
use Rattle.tm_game.specs.Game.{IsSet, IsStates}
use Rattle.tm_sem.specs.Certificates.{AreRanked, DriverSets, RankedSet}
use Rattle.tm_syntax.specs.Design.{DesignTree}
use Rattle.tm_game.proofs.Growing.{grows_none, grows_then}

pub may_leave-requires-clause-set : goal.may_leave-requires-clause-set
may_leave-requires-clause-set c =
    let has = c.requires.answers in
    let ranked = (ranked_here has.0 has.1 has.2 c.args.game.now c.args.told.now has.3 c.args.goal c.requires.goal).0 in
    subst (IsSet c.args.game.now) (sym c.all_ranked-ranked.ensures)
    (set_is has.0 c.args.game.now has.3.of has.3.sized (λ st. within_rank ranked (length ranked) st ≡ true) _
    (all_found has.0 has.1 has.2 c.args.told.now c.args.game.now c.args.game.now has.3 (grows_none c.args.game.now)
    c.args.goal c.requires.goal))

pub may_leave-requires-clause-replies : goal.may_leave-requires-clause-replies
may_leave-requires-clause-replies c =
    let has = c.requires.answers in (
      has.0,
      c.args.goal,
      has.1,
      has.3.of,
      has.3.blocks,
      has.4.each c.args.goal c.index-answers-goal.result
          (slice_get-get_or c.args.answers.now c.args.goal c.index-answers-goal.result
          (omega (arith, c.requires.goal, has.3.diagrams.count, has.3.goals, has.4.count))
          ∙ ap (λ (r : Replies). Some r) (sym c.index-answers-goal.is)),
    )

pub loop-passed-init : goal.loop-passed-init
loop-passed-init c = record {
  grows = c.may_leave.ensures.grows;
  known =
      let has = c.requires.answers in
      let here = ranked_here has.0 has.1 has.2 c.args.game.now c.args.told.now has.3 c.args.goal c.requires.goal in
      (first has.0 has.1 has.2 here.0 has.3 has.4 here.1).known;
  last = first;
  sets = λ d bs cs is are.
      subst (λ (ids : List NodeId). AreFirstLeaving d bs cs c.may_leave.new.game c.args.goal c.rank_count-count.result
      (0 + 1) ids)
      (sym (c.in_ok-push.ensures.items ∙ ap (λ (ids : List NodeId). ids ++ c.in_ok-leaving.leaving ∷ [])
      c.new-sets.ensures.items))
      (leaving_more d bs cs c.args.game.now c.may_leave.new.game c.args.goal c.rank_count-count.result 0 []
      c.in_ok-leaving.leaving c.may_leave.ensures.grows
      (leaving_none d bs cs c.args.game.now c.args.goal c.rank_count-count.result)
      (λ ranked this. first d bs cs ranked is are this));
}
  where
    first : (d : DesignTree) (bs : List BlockTree) (cs : DriverSets) (ranked : List RankedSet) →
        IsTold d bs cs c.args.game.now c.args.told.now → AreAnswers d bs c.args.game.now c.args.answers.now →
        AreRanked cs c.args.goal ranked →
        IsStates d c.may_leave.new.game.order c.may_leave.new.game.diagrams.table
        (MayLeave d (Answers bs) (within_rank ranked (c.rank_count-count.result - 0)) c.args.goal)
        c.in_ok-leaving.leaving
    first d bs cs ranked is are this =
        let replies = c.index-answers-goal.result in
        let there = slice_get-get_or c.args.answers.now c.args.goal replies
        (omega (arith, c.requires.goal, is.diagrams.count, is.goals, are.count))
        ∙ ap (λ (r : Replies). Some r) (sym c.index-answers-goal.is) in
        all_left d bs cs c.args.game.now c.may_leave.new.game c.args.told.now is c.args.goal c.rank_count-count.result
        (c.rank_count-count.result - 0) ranked this c.rank_count-count.ensures (omega arith)
        c.all_ranked-ranked.result c.in_ok-leaving.leaving c.all_ranked-ranked.ensures c.may_leave.ensures.grows
        (λ test set_of.
        c.in_ok-leaving.ensures.leaving d bs c.args.goal test
        (plays_of d bs cs c.args.game.now c.args.told.now is c.args.answers.now are c.args.goal replies there) set_of)

pub one_rank_less-requires-clause-answers : goal.one_rank_less-requires-clause-answers
one_rank_less-requires-clause-answers c =
    let has = c.requires.answers in (
      has.0,
      has.1,
      has.2,
      told_kept has.0 c.args.game.now c.loop-passed.game c.loop-passed.invariant.grows has.1 has.2 c.args.told.now
          has.3,
      answers_kept has.0 c.args.game.now c.loop-passed.game c.loop-passed.invariant.grows has.1 c.args.answers.now
          has.4,
    )

pub returns-in_err-leaving-2-clause-grows : goal.returns-in_err-leaving-2-clause-grows
returns-in_err-leaving-2-clause-grows c =
    grows_then c.args.game.now c.loop-passed.game c.one_rank_less.new.game c.loop-passed.invariant.grows
    c.one_rank_less.ensures.grows

pub returns-in_err-push-2-clause-grows : goal.returns-in_err-push-2-clause-grows
returns-in_err-push-2-clause-grows c =
    grows_then c.args.game.now c.loop-passed.game c.one_rank_less.new.game c.loop-passed.invariant.grows
    c.one_rank_less.ensures.grows

pub loop-passed-preserved : goal.loop-passed-preserved
loop-passed-preserved c = record {
  grows = grows_then c.args.game.now c.loop-passed.game c.one_rank_less.new.game c.loop-passed.invariant.grows
      c.one_rank_less.ensures.grows;
  known = c.in_ok-leaving-2.ensures.known;
  last = next;
  sets = λ d bs cs is are.
      subst (λ (ids : List NodeId). AreFirstLeaving d bs cs c.one_rank_less.new.game c.args.goal
      c.rank_count-count.result (c.loop-passed.passed + 1 + 1) ids) (sym c.in_ok-push-2.ensures.items)
      (leaving_more d bs cs c.loop-passed.game c.one_rank_less.new.game c.args.goal c.rank_count-count.result
      (c.loop-passed.passed + 1) c.loop-passed.sets.items c.in_ok-leaving-2.leaving c.one_rank_less.ensures.grows
      (c.loop-passed.invariant.sets d bs cs is are) (λ ranked this. next d bs cs ranked is are this));
}
  where
    next : (d : DesignTree) (bs : List BlockTree) (cs : DriverSets) (ranked : List RankedSet) →
        IsTold d bs cs c.args.game.now c.args.told.now → AreAnswers d bs c.args.game.now c.args.answers.now →
        AreRanked cs c.args.goal ranked →
        IsStates d c.one_rank_less.new.game.order c.one_rank_less.new.game.diagrams.table
        (MayLeave d (Answers bs) (within_rank ranked (c.rank_count-count.result - (c.loop-passed.passed + 1)))
        c.args.goal) c.in_ok-leaving-2.leaving
    next d bs cs ranked is are this =
        let inside = c.loop-passed-test.true in
        let more : c.rank_count-count.result - c.loop-passed.passed
        ≡ 1 + (c.rank_count-count.result - 1 - c.loop-passed.passed) = omega (arith, inside) in
        let less : c.rank_count-count.result - 1 - c.loop-passed.passed
        ≡ c.rank_count-count.result - (c.loop-passed.passed + 1) = omega (arith, inside) in
        let told = told_kept d c.args.game.now c.loop-passed.game c.loop-passed.invariant.grows bs cs c.args.told.now is
        in
        let answers = answers_kept d c.args.game.now c.loop-passed.game c.loop-passed.invariant.grows bs
        c.args.answers.now are in
        let before = subst (λ (n : ℕ). IsStates d c.loop-passed.game.order c.loop-passed.game.diagrams.table
        (MayLeave d (Answers bs) (within_rank ranked n) c.args.goal) c.loop-passed.leaving) more
        (c.loop-passed.invariant.last d bs cs ranked is are this) in
        subst (λ (n : ℕ). IsStates d c.one_rank_less.new.game.order c.one_rank_less.new.game.diagrams.table
        (MayLeave d (Answers bs) (within_rank ranked n) c.args.goal) c.in_ok-leaving-2.leaving) less
        (subst (λ (o : List ℕ). IsStates d o c.one_rank_less.new.game.diagrams.table
        (MayLeave d (Answers bs) (within_rank ranked (c.rank_count-count.result - 1 - c.loop-passed.passed))
        c.args.goal) c.in_ok-leaving-2.leaving) (sym c.one_rank_less.ensures.grows.order)
        (c.in_ok-leaving-2.ensures.leaving d bs cs ranked told answers this before))

pub returns-clause-leaving : goal.returns-clause-leaving
returns-clause-leaving c = λ d bs cs is are.
    let all : c.loop-passed.passed ≡ c.rank_count-count.result =
    omega (arith, c.loop-passed-test.false, c.loop-passed.auto.passed-end) in
    leaving_all d bs cs c.loop-passed.game c.args.goal c.rank_count-count.result c.loop-passed.sets.items
    (record { sets = c.reverse.new.self }) c.reverse.ensures.items
    (λ ranked this.
    omega (arith, (is.diagrams.each c.args.goal ranked this).count, c.rank_count-count.ensures))
    (subst (λ (n : ℕ). AreFirstLeaving d bs cs c.loop-passed.game c.args.goal c.rank_count-count.result (n + 1)
    c.loop-passed.sets.items) all (c.loop-passed.invariant.sets d bs cs is are))
