use Rattle.std.proofs.Common.{ap, ◌∙◌}
use Rattle.tm_syntax.specs.Faults.Marks.{first_mark}
use Rattle.tm_syntax.specs.Faults.Names.{unknown_of}
use Rattle.tm_types.proofs.unknown.exprs.unknown_path.Goals as goal

pub returns : goal.returns
returns c = c.unknown_of.ensures ∙ ap (λ m. first_mark (unknown_of m)) c.meaning.ensures
