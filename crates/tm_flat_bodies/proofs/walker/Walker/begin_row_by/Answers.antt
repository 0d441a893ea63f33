use Rattle.std.proofs.Common.{sym, ◌∙◌, subst}
use Rattle.std.specs.Prelude.{IfOk}
use Rattle.tm_flat_bodies.specs.Inner.Places.{row_tree, stack}
use Rattle.tm_flat_bodies.specs.Inner.Waiting.{RowGoal, StepsTo}
use Rattle.tm_flat_bodies.specs.Inner.Weights.{row_most}
use Rattle.tm_flat_bodies.specs.Tables.{known_by}
use Rattle.tm_flat_bodies.specs.Walks.{RowWalks}
use Rattle.tm_flat_bodies.proofs.walker.Walker.begin_row_by.Goals as goal

pub begin_row_in-requires : goal.begin_row_in-requires
begin_row_in-requires c =
    let same = c.requires.found c.args.start.now ∙ sym c.stand_or-stand.ensures in
    subst (λ f. RowWalks (known_by c.args.self.now) f (row_tree c.args.row) c.args.course.now c.args.flow) same
    c.requires.walks.walks

pub returns : goal.returns
returns c =
    let w = known_by c.args.self.now in
    let start = c.args.start.now in
    let same = c.requires.found start ∙ sym c.stand_or-stand.ensures in
    subst (λ f. IfOk c.begin_row_in.result (StepsTo w start
    (RowGoal w f (row_tree c.args.row) c.args.course.now c.args.flow) (λ d. row_most d f c.args.row)
    (stack c.args.waiting.now) (stack c.begin_row_in.new.waiting) c.begin_row_in.new.course)) (sym same)
    (c.begin_row_in.ensures start (record { there = c.requires.walks.there; is = same }))
