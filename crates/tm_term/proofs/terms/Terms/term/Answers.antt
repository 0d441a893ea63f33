use Rattle.std.proofs.Common.{◌≡◌, sym, ap, ◌∙◌, subst, Some}
use Rattle.tm_term.specs.Table.{term_in, term_of, IsSound}
use Rattle.tm_term.proofs.Valued.{value_of-term}
use Rattle.tm_term.proofs.terms.Terms.term.Goals as goal

pub returns-clause-value : goal.returns-clause-value
returns-clause-value c values =
    let t = c.args.self.now in
    let entry = rw c.unwrap.ensures at c.get_index.ensures.entry in
    let is : term_of t c.args.id ≡ Some c.unwrap.result.0.now =
    sym (ap (λ u. term_of u c.args.id) c.self.view_is) ∙ ap term_in (sym entry) in
    value_of-term t values (subst IsSound c.self.view_is c.self.invariant) c.args.id c.unwrap.result.0.now is
