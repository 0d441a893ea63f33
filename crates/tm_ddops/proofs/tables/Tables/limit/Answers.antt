use Rattle.tm_ddops.proofs.tables.Tables.limit.Goals as goal

pub returns-then-entries-gt-MOST_ENTRIES : goal.returns-then-entries-gt-MOST_ENTRIES
returns-then-entries-gt-MOST_ENTRIES c s _ = c.new.ensures s

pub returns-else-entries-gt-MOST_ENTRIES : goal.returns-else-entries-gt-MOST_ENTRIES
returns-else-entries-gt-MOST_ENTRIES c s are = record {
  choices = c.limit_choices.ensures s are.choices;
  visits = are.visits;
  quantifiers = are.quantifiers;
  substitutions = are.substitutions;
}
