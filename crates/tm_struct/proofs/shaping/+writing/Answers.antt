use Rattle.std.proofs.Common.{ℕ, List, map, refl, ap, sym, subst, ◌∙◌, arith}
use Rattle.std.proofs.lemmas.Result.{IfOk-weaker}
use Rattle.tm_cir.specs.Tree.{NumTree}
use Rattle.tm_cir.specs.View.{num_tree, truth_tree, block_trees}
use Rattle.tm_cir.proofs.Following.{block_at}
use Rattle.tm_struct.specs.Tree.{call}
use Rattle.tm_struct.specs.View.{action_tree}
use Rattle.tm_struct.specs.Shape.{IsWritten, calls, leaves, idles, by_name, in_place}
use Rattle.tm_struct.proofs.Shaped.{no_function, targets_later, test_written}
use Rattle.tm_struct.proofs.shaping.+writing.Goals as goal

pub branch-returns-in-Some : goal.branch-returns-in-Some
branch-returns-in-Some t c = λ order numbers. by_name (numbers.to c.args.at c.in-Some.number c.in-Some.is)

pub branch-returns-in-None : goal.branch-returns-in-None
branch-returns-in-None t c =
    IfOk-weaker c.tree.result _ _
    (λ tree written.
    λ order numbers.
    in_place (no_function order c.args.numbers.now c.args.at numbers c.in-None.is) (written order numbers))
    c.tree.ensures

pub tree-branch-given-requires : goal.tree-branch-given-requires
tree-branch-given-requires t c =
    let later = targets_later c.args.blocks.now c.args.at c.in-Test.first c.in-Test.second (truth_tree c.in-Test.truth)
    c.requires.leads
    (block_at c.args.blocks.now _ c.args.at c.index-blocks-at.result _ refl c.requires.within
    c.index-blocks-at.is c.in-Test.is) in
    (omega (arith, c.decreases, later.0, later.1), (c.requires.leads, (c.requires.long, later.1)))

pub tree-branch-second-requires : goal.tree-branch-second-requires
tree-branch-second-requires t c =
    let later = targets_later c.args.blocks.now c.args.at c.in-Test.first c.in-Test.second (truth_tree c.in-Test.truth)
    c.requires.leads
    (block_at c.args.blocks.now _ c.args.at c.index-blocks-at.result _ refl c.requires.within
    c.index-blocks-at.is c.in-Test.is) in
    (omega (arith, c.decreases, later.2, later.3), (c.requires.leads, (c.requires.long, later.3)))

pub tree-returns-in_Ok-second-in-Test : goal.tree-returns-in_Ok-second-in-Test
tree-returns-in_Ok-second-in-Test t c =
    IfOk-weaker c.test.result _ _
    (λ tree made.
    λ order numbers.
    test_written (block_trees c.args.blocks.now) order c.args.at c.in-Test.first c.in-Test.second
    (truth_tree c.in-Test.truth) _ _ _ _
    (block_at c.args.blocks.now _ c.args.at c.index-blocks-at.result _ refl c.requires.within
    c.index-blocks-at.is c.in-Test.is)
    c.in-Ok.ensures made (c.in_Ok-given-in-Test.ensures order numbers)
    (c.in_Ok-second-in-Test.ensures order numbers)) c.test.ensures

pub tree-returns-in_ok-copied_nums-in-Call : goal.tree-returns-in_ok-copied_nums-in-Call
tree-returns-in_ok-copied_nums-in-Call t c = λ order numbers.
    subst (λ (l : List NumTree). IsWritten (block_trees c.args.blocks.now) order c.args.at (call c.in-Call.task l))
    (sym (c.in_ok-copied_nums-in-Call.ensures ∙ ap (map num_tree) c.deref.ensures.value))
    (calls
    (block_at c.args.blocks.now _ c.args.at c.index-blocks-at.result _ refl c.requires.within
    c.index-blocks-at.is c.in-Call.is))

pub tree-returns-in-Leave : goal.tree-returns-in-Leave
tree-returns-in-Leave t c = λ order numbers.
    leaves
    (block_at c.args.blocks.now _ c.args.at c.index-blocks-at.result _ refl c.requires.within
    c.index-blocks-at.is c.in-Leave.is)

pub tree-returns-in-Idle : goal.tree-returns-in-Idle
tree-returns-in-Idle t c = λ order numbers.
    idles
    (block_at c.args.blocks.now _ c.args.at c.index-blocks-at.result _ refl c.requires.within
    c.index-blocks-at.is c.in-Idle.is)
