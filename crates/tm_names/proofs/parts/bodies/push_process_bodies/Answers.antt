use Rattle.std.proofs.Common.{◌≡◌, ◌+◌, [], ◌∷◌, ◌++◌, length, get_or, drop, ap, ◌∙◌, arith}
use Rattle.tm_syntax.specs.Scopes.Parts.{BodyAt}
use Rattle.tm_syntax.specs.Tree.View.{spec_tree, template_tree}
use Rattle.tm_names.specs.Bodies.{all_bodies, body_at}
use Rattle.tm_names.specs.Inner.BodyLists.{process_bodies}
use Rattle.tm_names.proofs.AskedArgs.{pushed_one}
use Rattle.tm_names.proofs.ListedBodies.{process_bodies-more}
use Rattle.tm_names.proofs.StmtRows.{grown_more}
use Rattle.tm_names.proofs.parts.bodies.push_process_bodies.Goals as goal

pub loop-index-preserved : goal.loop-index-preserved
loop-index-preserved c =
    let spec = spec_tree c.args.names.now in
    let t = template_tree c.args.template.now in
    let items = c.args.template.now.processes.items in
    let same : c.as_slice-process-items.result.now ≡ items = c.as_slice-process-items.ensures.value in
    let i = c.loop-index.index in
    let old = c.loop-index.bodies.items in
    grown_more _ (all_bodies old) (all_bodies c.push.new.self.items) _
    (process_bodies spec t i (drop i items)) (process_bodies spec t (i + 1) (drop (i + 1) items))
    (pushed_one body_at old c.push.new.self.items c.body_part.result c.in_ok-push.ensures.items
    ∙ ap (λ (b : BodyAt). all_bodies old ++ b ∷ []) c.body_part.ensures)
    (process_bodies-more spec t items i c.process-item.result (omega (arith, ap length same))
    (c.process-item.is ∙ ap (λ ps. get_or ps i c.process-item.result) same))
    c.loop-index.invariant
