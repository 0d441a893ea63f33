use Rattle.std.proofs.Common.{◌+◌, length, ap, ◌∙◌}
use Rattle.tm_states.proofs.TableEnds.{table_end}
use Rattle.tm_states.proofs.ends.end_number.Goals as goal

pub returns-clause-end : goal.returns-clause-end
returns-clause-end c = λ d p are.
    ap (λ rows. length rows + 1) c.rows.ensures ∙ table_end c.args.locations.now d p are
