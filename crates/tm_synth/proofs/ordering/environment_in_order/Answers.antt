use Rattle.std.proofs.Common.{sym, subst}
use Rattle.std.proofs.lemmas.Result.{IfOk-weaker}
use Rattle.tm_reorder.specs.Fields.{AreFields}
use Rattle.tm_syntax.specs.Design.View.{design_tree}
use Rattle.tm_synth.proofs.ordering.environment_in_order.Goals as goal

pub clamp_environment-moved-requires-clause-fields : goal.clamp_environment-moved-requires-clause-fields
clamp_environment-moved-requires-clause-fields c = (
  design_tree c.args.design.now,
  subst (AreFields (design_tree c.args.design.now)) (sym c.as_slice.ensures.value) c.in-Ok.ensures.fields,
  c.requires.bits,
)

pub returns-in-Ok-clause-sets : goal.returns-in-Ok-clause-sets
returns-in-Ok-clause-sets c =
    let d = design_tree c.args.design.now in
    IfOk-weaker c.clamp_environment-moved.result _ _
    (λ moved sets. sets d (subst (AreFields d) (sym c.as_slice.ensures.value) c.in-Ok.ensures.fields))
    c.clamp_environment-moved.ensures.sets
