use Rattle.std.proofs.Common.{◌≡◌, subst}
use Rattle.std.specs.Prelude.{IfOk}
use Rattle.tm_types.proofs.check.fault_by_names.Goals as goal

pub type_fault-requires-clause-names : goal.type_fault-requires-clause-names
type_fault-requires-clause-names c =
    subst (λ r. IfOk r (λ names. names ≡ c.args.spec.now)) c.in-Ok.is c.requires.names
