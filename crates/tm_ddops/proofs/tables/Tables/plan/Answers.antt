use Rattle.tm_ddops.proofs.TableLemmas.{AreTrue-numbered}
use Rattle.tm_ddops.proofs.tables.Tables.plan.Goals as goal

pub returns-in_err-number-clause-tables : goal.returns-in_err-number-clause-tables
returns-in_err-number-clause-tables c =
    AreTrue-numbered c.args.store.now c.args.self.now c.number.new.self c.number.ensures.grows c.number.ensures.kept
    c.number.ensures.walks c.number.ensures.quantifiers c.number.ensures.substitutions c.requires.tables

pub returns-clause-tables : goal.returns-clause-tables
returns-clause-tables c =
    AreTrue-numbered c.args.store.now c.args.self.now c.number.new.self c.number.ensures.grows c.number.ensures.kept
    c.number.ensures.walks c.number.ensures.quantifiers c.number.ensures.substitutions c.requires.tables
