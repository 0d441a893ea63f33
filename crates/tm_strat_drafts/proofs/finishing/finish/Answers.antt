use Rattle.std.proofs.Common.{◌≡◌, ℕ, ◌+◌, ◌-◌, ◌∷◌, ◌++◌, [], sym, ap, ◌∙◌, subst, arith}
use Rattle.tm_strat_drafts.specs.Drafts.{AreTurned, FitsBelow, turned_block}
use Rattle.tm_strat_drafts.specs.declared.drafts.DraftBlock.{DraftBlock}
use Rattle.tm_strat_drafts.proofs.Items.{get_some}
use Rattle.tm_strat_drafts.proofs.Turning.{below_root, good_turned, later_turned, none_turned, turned_more}
use Rattle.tm_strat_drafts.proofs.finishing.finish.Goals as goal

pub loop-passed-init : goal.loop-passed-init
loop-passed-init c = none_turned c.args.drafts.now c.args.root c.new-blocks.result.items c.new-blocks.ensures.items

pub turned-requires : goal.turned-requires
turned-requires c =
    let there = get_some c.args.drafts.now (c.args.root - c.loop-passed.passed)
    (omega (arith, c.requires.root, c.loop-passed-test.true, c.loop-passed.auto.passed-end)) in
    subst (λ (b : DraftBlock). FitsBelow c.args.root b) (c.block_at-block.ensures there.0 there.1)
    (below_root c.requires.earlier.0 c.args.root (c.args.root - c.loop-passed.passed) there.0.block (omega arith)
    (c.requires.earlier.1.each (c.args.root - c.loop-passed.passed) there.0 there.1))

pub loop-passed-preserved : goal.loop-passed-preserved
loop-passed-preserved c =
    let there = get_some c.args.drafts.now (c.args.root - c.loop-passed.passed)
    (omega (arith, c.requires.root, c.loop-passed-test.true, c.loop-passed.auto.passed-end)) in
    turned_more c.args.drafts.now c.args.root c.loop-passed.blocks.items c.push.new.self.items c.loop-passed.passed
    there.0 c.loop-passed.invariant there.1
    (c.in_ok-push.ensures.items
    ∙ ap (λ (b : DraftBlock). c.loop-passed.blocks.items ++ b ∷ [])
    (c.turned.ensures ∙ ap (turned_block c.args.root) (sym (c.block_at-block.ensures there.0 there.1))))

all_turned : (c : goal.After-loop-passed) →
    AreTurned c.args.drafts.now c.args.root c.loop-passed.blocks.items (c.args.root + 1)
all_turned c =
    let last : c.loop-passed.passed ≡ c.args.root + 1 = omega
    (arith, c.loop-passed-test.false, c.loop-passed.auto.passed-end) in
    subst (λ (n : ℕ). AreTurned c.args.drafts.now c.args.root c.loop-passed.blocks.items n) last c.loop-passed.invariant

pub returns-clause-good : goal.returns-clause-good
returns-clause-good c = λ g set good.
    good_turned c.requires.earlier.0 g c.args.drafts.now c.args.root c.loop-passed.blocks.items set c.requires.earlier.1
    (all_turned c) good

pub returns-clause-later : goal.returns-clause-later
returns-clause-later c = λ tests earlier.
    later_turned tests c.args.drafts.now c.args.root c.loop-passed.blocks.items c.requires.root earlier (all_turned c)
