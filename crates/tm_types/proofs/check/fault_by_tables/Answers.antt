use Rattle.std.proofs.Common.{◌≡◌, subst}
use Rattle.std.specs.Prelude.{IfOk}
use Rattle.tm_types.proofs.check.fault_by_tables.Goals as goal

pub fault_by_names-found-requires-clause-tables : goal.fault_by_names-found-requires-clause-tables
fault_by_names-found-requires-clause-tables c =
    subst (λ r. IfOk r (λ tables. tables ≡ c.args.spec.now)) c.in-Ok.is c.requires.tables
