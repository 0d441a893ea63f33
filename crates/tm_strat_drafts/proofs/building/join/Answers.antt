use Rattle.std.proofs.Common.{ℕ, sym, subst}
use Rattle.tm_strat_drafts.specs.Drafts.{Makes}
use Rattle.tm_strat_drafts.specs.Moves.{passes}
use Rattle.tm_strat_drafts.specs.Sets.{chosen}
use Rattle.tm_strat_drafts.proofs.Following.{is_at}
use Rattle.tm_strat_drafts.proofs.Making.{block_more, goods, known_there, test_made}
use Rattle.tm_strat_drafts.proofs.building.join.Goals as goal

pub choose-requires-clause-a_known : goal.choose-requires-clause-a_known
choose-requires-clause-a_known g c =
    c.test.ensures.follows.extends.known _ (known_there c.args.first c.good_of-one.result c.requires.drafts
    c.requires.first
    (goods c.args.first c.as_slice.ensures.value c.good_of-one.ensures))

pub choose-requires-clause-b_known : goal.choose-requires-clause-b_known
choose-requires-clause-b_known g c =
    c.test.ensures.follows.extends.known _ (known_there c.args.second c.good_of-other.result c.requires.drafts
    c.requires.second
    (goods c.args.second c.as_slice-2.ensures.value c.good_of-other.ensures))

pub returns-clause-makes : goal.returns-clause-makes
returns-clause-makes g c = λ a b made_one made_other.
    subst (λ (at : ℕ). Makes (g.M.Moves.setting c.args.moves.now).game (g.M.Moves.setting c.choose.new.self).ids
    c.args.drafts.now.items c.put.new.drafts.items at
    (chosen (passes (g.M.Moves.setting c.args.moves.now).game c.args.test) a b))
    (sym c.in_ok-at.ensures.at)
    (test_made c.args.drafts.now.items c.put.new.drafts.items c.args.test c.args.first c.args.second c.in_ok-holds.holds
    c.good_of-one.result c.good_of-other.result c.in_ok-good.good c.requires.drafts c.test.ensures.follows.extends
    c.choose.ensures.follows.extends c.in_ok-at.ensures.few c.requires.test
    (goods c.args.first c.as_slice.ensures.value c.good_of-one.ensures)
    (goods c.args.second c.as_slice-2.ensures.value c.good_of-other.ensures) c.in_ok-holds.ensures.value
    (is_at c.test.ensures.follows.game c.in_ok-good.ensures.value) c.in_ok-at.ensures.items a b made_one made_other)

pub returns-clause-blocks : goal.returns-clause-blocks
returns-clause-blocks g c = block_more c.args.drafts.now.items c.put.new.drafts.items _ c.in_ok-at.ensures.items
