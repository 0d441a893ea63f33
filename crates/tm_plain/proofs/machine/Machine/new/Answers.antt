use Rattle.std.proofs.Common.{sym, subst, length}
use Rattle.tm_syntax.specs.declared.design.Design.{Design}
use Rattle.tm_plain.specs.Machine.{AreLocated}
use Rattle.tm_plain.proofs.Locating.{tasks_of_text}
use Rattle.tm_plain.proofs.machine.Machine.new.Goals as goal

pub new-requires : goal.new-requires
new-requires c =
    let t = c.tables.inside in
    let are = c.tables.invariant in
    let tasks = tasks_of_text t.design.now t.scopes t.order.items t.pausing are c.as_slice-order.result.now
    c.as_slice-order.ensures.value in
    record {
      text = are.text;
      pausing = are.may_pause;
      ordered = tasks.0;
      covers = tasks.1;
      short = tasks.2;
      sound = are.runnable.sound;
      read = are.runnable.read;
    }

pub invariant_of-result : goal.invariant_of-result
invariant_of-result c = (
  c.in-Ok-new.ensures,
  c.tables.invariant.runnable,
  subst (λ (d : Design). AreLocated d (length d.processes.items) c.in-Ok.locations.items)
      (sym c.tables.view_is) c.in-Ok.ensures,
  c.tables.invariant.text,
)
