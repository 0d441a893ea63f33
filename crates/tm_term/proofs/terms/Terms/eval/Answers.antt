use Rattle.std.proofs.Common.{◌<◌, ◌^◌, sym, rules, subst}
use Rattle.tm_term.specs.Table.{width_of, IsSound}
use Rattle.tm_term.proofs.Valued.{value_of-below}
use Rattle.tm_term.proofs.terms.Terms.eval.Goals as goal

pub returns-then-place-len-clause-in_range : goal.returns-then-place-len-clause-in_range
returns-then-place-len-clause-in_range c =
    let sound = subst IsSound c.self.view_is c.self.invariant in
    let below = value_of-below c.args.self.now c.args.values.now sound c.requires.inputs c.args.id c.requires.known in
    subst (λ n. n < 2 ^ width_of c.args.self.now c.args.id) (sym (c.eval_into.ensures c.args.id (search rules))) below

pub returns-clause-in_range : goal.returns-clause-in_range
returns-clause-in_range c =
    let sound = subst IsSound c.self.view_is c.self.invariant in
    rw c.eval_parts.ensures (value_of-below c.args.self.now c.args.values.now sound c.requires.inputs c.args.id
    c.requires.known)
