use Rattle.std.proofs.Common.{sym, ap, ◌∙◌, subst}
use Rattle.tm_base.specs.Arithmetic.{IsWidth}
use Rattle.tm_term.specs.Table.{width_of, IsSound}
use Rattle.tm_term.proofs.Growth.{IsWidth-width_of}
use Rattle.tm_term.proofs.Kept.{width_in-values}
use Rattle.tm_term.proofs.terms.Terms.width.Goals as goal

pub returns-clause-in_range : goal.returns-clause-in_range
returns-clause-in_range c =
    let value = sym (width_in-values c.self.inside.kept.entries c.args.id.0 c.index.result.now c.index.ensures)
    ∙ ap (λ t. width_of t c.args.id) c.self.view_is in
    let sound = subst IsSound c.self.view_is c.self.invariant in
    subst IsWidth (sym value) (IsWidth-width_of c.args.self.now c.args.id sound c.requires)
