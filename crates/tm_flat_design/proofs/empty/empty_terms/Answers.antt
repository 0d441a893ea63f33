use Rattle.std.proofs.Common.{sym, subst, ◌∙◌}
use Rattle.std.specs.Prelude.{All}
use Rattle.tm_base.specs.Arithmetic.{IsWidth}
use Rattle.tm_flat_design.proofs.empty.empty_terms.Goals as goal

pub new-requires : goal.new-requires
new-requires c = subst (All IsWidth) (sym c.deref.ensures.value) c.in_ok-widths.ensures.in_range

pub returns-clause-inputs : goal.returns-clause-inputs
returns-clause-inputs c = c.in_ok-terms.ensures.inputs ∙ c.deref.ensures.value ∙ c.in_ok-widths.ensures.widths
