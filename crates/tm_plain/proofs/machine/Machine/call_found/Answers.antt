use Rattle.std.proofs.Common.{Option, subst}
use Rattle.tm_plain.specs.declared.machine.tasks.DriverTask.{DriverTask}
use Rattle.tm_plain.specs.Tasks.{IsFoundTask}
use Rattle.tm_plain.proofs.machine.Machine.call_found.Goals as goal

pub call-requires : goal.call-requires
call-requires c = (
  c.requires.0,
  subst (λ (o : Option DriverTask). IsFoundTask c.args.self.now c.requires.0 o) c.in-Some.is c.requires.1,
)

pub unreachable-requires : goal.unreachable-requires
unreachable-requires c =
    subst (λ (o : Option DriverTask). IsFoundTask c.args.self.now c.requires.0 o) c.in-None.is c.requires.1

pub returns : goal.returns
returns c = λ number permitted of.
    c.call.ensures number permitted
    (subst (λ (o : Option DriverTask). IsFoundTask c.args.self.now number o) c.in-Some.is of)
