use Rattle.std.proofs.Common.{◌≡◌, ◌<◌, ℕ, get_or, length, subst, arith}
use Rattle.std.proofs.lemmas.Option.{slice_get-get_or}
use Rattle.tm_numbering.specs.Parts.{ArePairs}
use Rattle.tm_numbering.proofs.Pairs.{pairs_more, pairs_none, pairs_weaker}
use Rattle.tm_reorder.specs.Inner.Told.{IsTold}
use Rattle.tm_reorder.proofs.Branches.{joined_told, keeps_all, keeps_then, part_at, part_kept, told_kept}
use Rattle.tm_reorder.proofs.raising.all_joined.Goals as goal

pub loop-id-init : goal.loop-id-init
loop-id-init c =
    let start = c.args.graph.now.entries.keys in
    record {
      branches = c.requires.branches;
      keeps = keeps_all start;
      told = λ old k are.
          pairs_none (IsTold (λ v. v) old start) c.args.ids.now c.new-joined.result.items c.new-joined.ensures.items;
    }

pub branch-graph-requires-clause-lo : goal.branch-graph-requires-clause-lo
branch-graph-requires-clause-lo c =
    let given = c.requires.parts in
    let part = part_at given.0 c.args.graph.now.entries.keys c.args.level given.1 c.args.parts.now given.2
    (get_or c.args.ids.now c.loop-id.id-index 0) (c.requires.ids c.loop-id.id-index 0 c.loop-id-test.true) in
    omega (arith, part.off_within, c.loop-id.invariant.keeps.rises)

pub branch-graph-requires-clause-hi : goal.branch-graph-requires-clause-hi
branch-graph-requires-clause-hi c =
    let given = c.requires.parts in
    let part = part_at given.0 c.args.graph.now.entries.keys c.args.level given.1 c.args.parts.now given.2
    (get_or c.args.ids.now c.loop-id.id-index 0) (c.requires.ids c.loop-id.id-index 0 c.loop-id-test.true) in
    omega (arith, part.on_within, c.loop-id.invariant.keeps.rises)

pub loop-id-preserved : goal.loop-id-preserved
loop-id-preserved c =
    let start = c.args.graph.now.entries.keys in
    let one = c.loop-id.graph.entries.keys in
    let two = c.branch-graph.new.self.entries.keys in
    let ids = c.args.ids.now in
    let parts = c.args.parts.now in
    let index = c.loop-id.id-index in
    let id = get_or ids index 0 in
    let below : id < length parts = c.requires.ids index 0 c.loop-id-test.true in
    record {
      branches = c.branch-graph.ensures.branches;
      keeps = keeps_then start one two c.loop-id.invariant.keeps c.branch-graph.ensures.keeps;
      told = λ old k are.
          pairs_more (IsTold (λ v. v) old two) ids c.loop-id.joined.items c.push.new.self.items index id
          c.in_ok-whole.whole c.in_ok-push.ensures.items (slice_get-get_or ids index 0 c.loop-id-test.true)
          (joined_told old one two c.args.level id c.in_ok-whole.whole (get_or parts id (0, 0))
          (part_kept old start one c.args.level id (get_or parts id (0, 0)) c.loop-id.invariant.keeps
          (part_at old start c.args.level k parts are id below))
          c.in_ok-whole.ensures.answer)
          (pairs_weaker (IsTold (λ v. v) old one) (IsTold (λ v. v) old two) ids c.loop-id.joined.items index
          (λ x y. told_kept old one two x y c.branch-graph.ensures.keeps) (c.loop-id.invariant.told old k are));
    }

pub returns-clause-told : goal.returns-clause-told
returns-clause-told c = λ old k are.
    let all : c.loop-id.id-index ≡ length c.args.ids.now = omega arith in
    subst
    (λ (done : ℕ).
    ArePairs (IsTold (λ v. v) old c.loop-id.graph.entries.keys) c.args.ids.now c.loop-id.joined.items done)
    all (c.loop-id.invariant.told old k are)
