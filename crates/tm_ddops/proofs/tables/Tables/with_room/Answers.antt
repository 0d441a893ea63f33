use Rattle.std.proofs.Common.{sym, ◌∙◌}
use Rattle.tm_ddops.proofs.tables.Tables.with_room.Goals as goal

pub returns : goal.returns
returns c = λ s.
    let empty = c.new-tables.ensures s in
    record {
      choices = λ choice id noted. empty.choices choice id (sym (c.reserve.ensures.entries.2 choice) ∙ noted);
      visits = λ n f id found. empty.visits n f id
          (sym (c.reserve-2.ensures.entries.2 (record { changes = n; function = f })) ∙ found);
      quantifiers = empty.quantifiers;
      substitutions = empty.substitutions;
    }
