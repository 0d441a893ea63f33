use Rattle.std.proofs.Common.{None, Some, ◌∷◌, refl, sym, ap, ◌∙◌}
use Rattle.tm_syntax.specs.Tree as trees
use Rattle.tm_syntax.specs.Tree.{alternatives_of, row_of}
use Rattle.tm_syntax.specs.Tree.View.{stmt_trees}
use Rattle.tm_locations.proofs.TableCallees.{item-read}
use Rattle.tm_plain_bodies.specs.declared.halt.Halt.TheVariants.{Blocked}
use Rattle.tm_plain_bodies.specs.Inner.Owed.{level_of, one, owed, row}
use Rattle.tm_plain_bodies.specs.Runs.{behind}
use Rattle.tm_plain_bodies.proofs.Fits.{block_there, no_block_there}
use Rattle.tm_plain_bodies.proofs.Performing.{choice_blocks, choice_wants}
use Rattle.tm_plain_bodies.proofs.Shapes.{block_rows}
use Rattle.tm_plain_bodies.proofs.Stepping.{halts_there, left_steps, takes_block}
use Rattle.tm_plain_bodies.proofs.runner.Runner.choose.Goals as goal

pub returns-in_default : goal.returns-in_default
returns-in_default c = λ at.
    let from = c.args.course.now in
    let bs = alternatives_of (block_rows c.args.blocks.now) in
    halts_there c.args.self.now c.args.frame.now c.requires.1.tables (trees.choose at bs) (owed c.args.todo.now.items)
    from from Blocked (λ calls. choice_wants c.args.frame.now.reader (behind calls from) (behind calls from) at bs
    c.in_default.ensures.none)

pub returns-in-Some-get : goal.returns-in-Some-get
returns-in-Some-get c = λ at.
    let d = c.args.self.now in
    let f = c.args.frame.now in
    let ts = owed c.args.todo.now.items in
    let from = c.args.course.now in
    let bs = block_rows c.args.blocks.now in
    let ss = stmt_trees c.as_slice.result.now in
    let there = block_there c.args.blocks.now c.in-Some.choice c.in-Some-get.block.now
    (item-read c.args.blocks.now c.args.blocks.now c.in-Some.choice (Some c.in-Some-get.block) refl
    c.in-Some-get.ensures.lookup) ∙ ap (λ xs. Some (row_of (stmt_trees xs))) (sym c.as_slice.ensures.value) in
    left_steps d (one (level_of f) (trees.choose at (alternatives_of bs)) ∷ ts) _ (row (level_of f) ss ∷ ts) from _
    c.take_row.result c.take_row.ensures.left c.take_row.ensures.memory
    (takes_block d f c.requires.1.tables at bs c.in-Some.choice ss ts from c.next.new.self c.in-Some.ensures.next there
    c.requires.0 c.requires.1)

pub returns-in-None : goal.returns-in-None
returns-in-None c = λ at.
    let from = c.args.course.now in
    let bs = block_rows c.args.blocks.now in
    halts_there c.args.self.now c.args.frame.now c.requires.1.tables (trees.choose at (alternatives_of bs))
    (owed c.args.todo.now.items) from from Blocked
    (λ calls. choice_blocks c.args.frame.now.reader (behind calls from) (behind calls from) at bs c.in-Some.choice
    c.next.new.self c.in-Some.ensures.next
    (no_block_there c.args.blocks.now c.in-Some.choice
    (item-read c.args.blocks.now c.args.blocks.now c.in-Some.choice None refl c.in-None.ensures.lookup)))
