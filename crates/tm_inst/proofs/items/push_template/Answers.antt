use Rattle.std.proofs.lemmas.Result.{on_ok_weaker}
use Rattle.tm_inst.proofs.ItemSteps.{all_sorts_joined}
use Rattle.tm_inst.proofs.items.push_template.Goals as goal

pub returns : goal.returns
returns c =
    on_ok_weaker c.push_named-2.result
    (λ fairs. all_sorts_joined c.args.number c.args.base.now c.args.template.now _ _ _ _ _ _
    c.as_slice.ensures.value c.as_slice-2.ensures.value c.as_slice-3.ensures.value c.as_slice-4.ensures.value
    c.in_ok-push_processes.ensures c.in_ok-push_tasks.ensures c.in_ok-push_named.ensures fairs)
    c.push_named-2.ensures
