use Rattle.std.proofs.Common.{ℕ, ◌↔◌, Contains, IfOk, sym, subst}
use Rattle.std.proofs.lemmas.Result.{IfOk-weaker}
use Rattle.tm_abs.proofs.Depending.{reads_only}
use Rattle.tm_abs.specs.Inner.Reading.{AreRead}
use Rattle.tm_dd.specs.Table.{Knows}
use Rattle.tm_ddops.specs.Manager.{Diagrams}
use Rattle.tm_ddops.specs.Support.{DependsOn}
use Rattle.tm_abs.proofs.reading.levels_read.Goals as goal

pub returns : goal.returns
returns c =
    let same = c.manager-manager.ensures in
    let s = c.manager-manager.result.now.table in
    let known = subst (λ (m : Diagrams). Knows m.table c.args.id) (sym same) c.requires in
    subst (λ (m : Diagrams). IfOk c.support.result (λ levels. AreRead m.table c.args.id levels.items)) same
    (IfOk-weaker c.support.result (λ levels. (k : ℕ) → Contains levels.items k ↔ DependsOn s c.args.id k)
    (λ levels. AreRead s c.args.id levels.items)
    (λ levels exact. record {
      exact = exact;
      only = reads_only s c.store-store.ensures.manager.reduced c.args.id known levels.items exact;
    }) c.support.ensures.exact)
