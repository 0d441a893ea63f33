use Rattle.std.proofs.Common.{subst}
use Rattle.tm_ddops.specs.Inner.Plans.{IsPlan}
use Rattle.tm_ddops.proofs.tables.Tables.substitution.Goals as goal

pub returns-clause-tables : goal.returns-clause-tables
returns-clause-tables c =
    let are = c.plan.ensures.tables in
    let lists = c.plan.new.self.changes.keys in
    record {
      choices = are.choices;
      visits = are.visits;
      quantifiers = are.quantifiers;
      substitutions = c.keep_parts.ensures.plans c.args.store.now lists
          (subst (λ l. IsPlan c.args.store.now lists l c.in_ok-plan.plan) c.in_ok-changes.ensures
          c.in_ok-plan.ensures.plan) are.substitutions;
    }
