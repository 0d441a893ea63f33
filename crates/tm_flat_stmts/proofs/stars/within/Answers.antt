use Rattle.std.proofs.Common.{ℕ, ◌^◌, Option, sym, subst, pow_mono}
use Rattle.std.specs.Prelude.{nat_lt, unwrap_or}
use Rattle.tm_term.specs.Value.{value_of}
use Rattle.tm_flat_stmts.specs.Flows.{Narrows}
use Rattle.tm_flat_stmts.proofs.Choosing.{all_within}
use Rattle.tm_flat_stmts.proofs.stars.within.Goals as goal

pub returns-in_ok-goes-in-Some : goal.returns-in_ok-goes-in-Some
returns-in_ok-goes-in-Some c =
    subst (λ (o : Option ℕ). Narrows c.args.terms.now c.below_count.new.terms c.args.flow c.in_ok-goes-in-Some.goes
    (λ u v. nat_lt (value_of u v c.args.number) (unwrap_or o (2 ^ 64)))) (sym c.in-Some.is)
    c.in_ok-goes-in-Some.ensures

pub returns-in-None : goal.returns-in-None
returns-in-None c =
    subst (λ (o : Option ℕ). Narrows c.args.terms.now c.args.terms.now c.args.flow c.args.flow
    (λ u v. nat_lt (value_of u v c.args.number) (unwrap_or o (2 ^ 64)))) (sym c.in-None.is)
    (all_within c.args.terms.now c.args.flow c.args.number c.args.width (2 ^ 64) c.requires.sound c.requires.guard
    c.requires.term (pow_mono c.requires.width.1))
