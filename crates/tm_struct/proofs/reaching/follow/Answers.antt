use Rattle.std.proofs.Common.{refl, arith}
use Rattle.std.proofs.lemmas.List.{length-map}
use Rattle.tm_cir.specs.View.{block_tree, block_trees}
use Rattle.tm_cir.proofs.Following.{block_at}
use Rattle.tm_struct.proofs.Followed.{both_within, followed_test, followed_other}
use Rattle.tm_struct.proofs.reaching.follow.Goals as goal

pub returns-in-Some : goal.returns-in-Some
returns-in-Some c =
    followed_test (block_trees c.args.blocks.now) c.requires.leads _ c.args.at
    (omega (arith, c.requires.within, length-map c.args.blocks.now block_tree)) c.requires.before _
    (block_at c.args.blocks.now _ c.args.at c.index-blocks-at.result c.index-blocks-at.result refl c.requires.within
    c.index-blocks-at.is refl)
    c.in-Some.first c.in-Some.second _ c.in-Some.ensures.are c.in-Some.ensures.small.0 c.in-Some.ensures.small.1
    c.mark_both.ensures

pub returns-in-None : goal.returns-in-None
returns-in-None c =
    followed_other (block_trees c.args.blocks.now) c.requires.leads _ c.args.at
    (omega (arith, c.requires.within, length-map c.args.blocks.now block_tree)) c.requires.before _
    (block_at c.args.blocks.now _ c.args.at c.index-blocks-at.result c.index-blocks-at.result refl c.requires.within
    c.index-blocks-at.is refl) c.in-None.ensures.are

pub mark_both-requires-clause-one : goal.mark_both-requires-clause-one
mark_both-requires-clause-one c =
    (both_within (block_trees c.args.blocks.now) c.requires.leads _ c.args.at
    (omega (arith, c.requires.within, length-map c.args.blocks.now block_tree)) c.requires.before _
    (block_at c.args.blocks.now _ c.args.at c.index-blocks-at.result c.index-blocks-at.result refl c.requires.within
    c.index-blocks-at.is refl) c.in-Some.first c.in-Some.second c.in-Some.ensures.are).0

pub mark_both-requires-clause-other : goal.mark_both-requires-clause-other
mark_both-requires-clause-other c =
    (both_within (block_trees c.args.blocks.now) c.requires.leads _ c.args.at
    (omega (arith, c.requires.within, length-map c.args.blocks.now block_tree)) c.requires.before _
    (block_at c.args.blocks.now _ c.args.at c.index-blocks-at.result c.index-blocks-at.result refl c.requires.within
    c.index-blocks-at.is refl) c.in-Some.first c.in-Some.second c.in-Some.ensures.are).1
