use Rattle.std.proofs.Common.{sym, ap, ◌∙◌, subst}
use Rattle.std.proofs.lemmas.Result.{IfErr-weaker, IfOk-weaker}
use Rattle.tm_syntax.specs.Tree.View.{body_tree}
use Rattle.tm_syntax.specs.Scopes.Names.{type_of}
use Rattle.tm_scope.specs.Cells.{IsCellNumber}
use Rattle.tm_design.specs.Typed.{HasTypeAt}
use Rattle.tm_plain_bodies.specs.Arguments.{HaltsAtAnswer, IsAnswered}
use Rattle.tm_plain_bodies.specs.Tables.{body_of}
use Rattle.tm_plain_bodies.proofs.Entering.{answer_steps}
use Rattle.tm_plain_bodies.proofs.runner.Runner.step_answer.Goals as goal

pub frame_here-requires : goal.frame_here-requires
frame_here-requires c = c.requires.inside

pub frame_here-outer-requires : goal.frame_here-outer-requires
frame_here-outer-requires c = c.requires.outside

pub answer-requires : goal.answer-requires
answer-requires c =
    let inner = ap (λ f. f.reader) c.frame_here.ensures in
    let outer = ap (λ f. f.reader) c.frame_here-outer.ensures in
    record {
      tables = ap (λ s. s.tables) inner ∙ ap (λ s. s.tables) (sym outer);
      there = subst (λ s. IsCellNumber s.tables s.at c.args.next.cell) (sym outer) c.requires.cell_there;
      result = (c.requires.ty, c.requires.kind);
      typed = λ ty e kind is. subst (λ s. HasTypeAt s (type_of ty) e) (sym inner) (c.requires.typed ty e kind is);
    }

pub returns : goal.returns
returns c = λ ts.
    let d = c.args.self.now in
    let next = c.args.next in
    let inner = ap (λ f. f.reader) c.frame_here.ensures in
    let outer = ap (λ f. f.reader) c.frame_here-outer.ensures in
    let returned = (body_tree next.task.now.body).answer in
    answer_steps d next.level next.outer next.task.now next.cell c.requires c.args.course.now c.answer.new.course
    c.answer.result
    (IfOk-weaker c.answer.result _ _
    (λ _ so ty kind.
    subst (λ s. IsAnswered s (body_of d next.level.at) (type_of ty) returned next.cell c.args.course.now
    c.answer.new.course) outer
    (subst (λ s. IsAnswered c.frame_here-outer.result.reader s (type_of ty) returned next.cell c.args.course.now
    c.answer.new.course) inner (so ty kind))) c.answer.ensures.answered)
    (IfErr-weaker c.answer.result _ _
    (λ h so. subst (λ s. HaltsAtAnswer s returned c.args.course.now h) inner so) c.answer.ensures.halts) ts
