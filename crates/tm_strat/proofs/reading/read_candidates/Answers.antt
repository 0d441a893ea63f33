use Rattle.std.proofs.Common.{ℕ, List, length, ap, subst, arith}
use Rattle.std.proofs.lemmas.List.{length-map, length_push}
use Rattle.tm_cir.specs.Tree.{BlockTree, idle}
use Rattle.tm_cir.specs.View.{block_trees}
use Rattle.tm_strat.proofs.Giving.{given_among, given_more, given_none}
use Rattle.tm_strat.specs.Served.{AreGivenFor, candidate_trees}
use Rattle.tm_strat.specs.Trees.{candidate_tree}
use Rattle.tm_strat.proofs.reading.read_candidates.Goals as goal
use Rattle.tm_syntax.specs.Design.View.{design_tree}

pub replies_of-requires-clause-fits : goal.replies_of-requires-clause-fits
replies_of-requires-clause-fits c = c.in_ok-list.ensures.fits

pub loop-index-init : goal.loop-index-init
loop-index-init c =
    given_none (design_tree c.args.design.now) c.replies_of.new.game c.args.shapes.now
    (candidate_trees (design_tree c.args.design.now) c.args.counts c.args.shapes.now c.args.candidates.now)
    c.new-all.result.items c.new-all.ensures.items

pub given_at-requires : goal.given_at-requires
given_at-requires c =
    let d = design_tree c.args.design.now in
    let trees = candidate_trees d c.args.counts c.args.shapes.now c.args.candidates.now in
    let all = ap (λ (l : List BlockTree). length l) c.in_ok-list.ensures.trees in
    let count = c.in_ok-replies.ensures.replies.count in
    let more = length_push trees idle in
    let long = length-map c.args.candidates.now (candidate_tree d c.args.counts c.args.shapes.now) in
    let below = c.loop-index-test.true in
    omega (arith, all, count, more, long, below)

pub loop-index-preserved : goal.loop-index-preserved
loop-index-preserved c =
    given_more (design_tree c.args.design.now) c.replies_of.new.game c.args.shapes.now
    (candidate_trees (design_tree c.args.design.now) c.args.counts c.args.shapes.now c.args.candidates.now)
    c.loop-index.all.items c.push.new.self.items c.loop-index.index c.in_ok-given.given c.loop-index.invariant
    (λ b there.
    c.in_ok-given.ensures (design_tree c.args.design.now) c.replies_of.new.game (block_trees c.in_ok-list.list.items) b
    c.in_ok-replies.ensures.replies
    (given_among (design_tree c.args.design.now) c.replies_of.new.game c.args.counts c.args.shapes.now
    c.args.candidates.now (block_trees c.in_ok-list.list.items) c.loop-index.index b c.in_ok-list.ensures.trees there))
    c.in_ok-push.ensures.items

pub returns-clause-given : goal.returns-clause-given
returns-clause-given c =
    let ends = c.loop-index.auto.index-end in
    let last = c.loop-index-test.false in
    subst (λ (n : ℕ). AreGivenFor (design_tree c.args.design.now) c.replies_of.new.game c.args.shapes.now
    (candidate_trees (design_tree c.args.design.now) c.args.counts c.args.shapes.now c.args.candidates.now)
    c.loop-index.all.items n) (omega (arith, ends, last)) c.loop-index.invariant
