use Rattle.std.proofs.Common.{sym, ap, subst}
use Rattle.std.specs.Prelude.{◌&&◌, ◌==◌, not}
use Rattle.tm_syntax.specs.declared.tree.BinaryOperator.{BinaryOperator}
use Rattle.tm_term.specs.Value.{value_of}
use Rattle.tm_flat_exprs.specs.Made.{MakesTruth, truth_at}
use Rattle.tm_design.specs.Sorts.{sort_of}
use Rattle.tm_flat_exprs.specs.Operators.{joined_overrun}
use Rattle.tm_flat_exprs.proofs.Joining.{otherwise_overruns}
use Rattle.tm_flat_exprs.proofs.Later.{or_made}
use Rattle.tm_flat_exprs.proofs.operators.joined_overrun.Goals as goal

pub where_true-requires-clause-test : goal.where_true-requires-clause-test
where_true-requires-clause-test c = c.requires.conjunction (ap sort_of c.in-AndAlso.is)

pub where_false-requires-clause-test : goal.where_false-requires-clause-test
where_false-requires-clause-test c = c.requires.disjunction (ap sort_of c.in-OrElse.is)

pub returns-in_ok-id-in-AndAlso : goal.returns-in_ok-id-in-AndAlso
returns-in_ok-id-in-AndAlso c =
    let first = c.args.first in
    subst (λ (op : BinaryOperator). MakesTruth c.args.terms.now c.either.new.terms c.in_ok-id-in-AndAlso.id
    (λ u v. joined_overrun op (value_of u v first.value) (truth_at u v first.overrun) (truth_at u v c.args.second)))
    (sym c.in-AndAlso.is)
    (or_made c.args.terms.now c.where_true.new.terms c.either.new.terms first.overrun c.in_ok-other-in-AndAlso.other
    c.in_ok-id-in-AndAlso.id (λ u v. not (value_of u v first.value == 0) && truth_at u v c.args.second)
    c.in_ok-other-in-AndAlso.ensures c.in_ok-id-in-AndAlso.ensures)

pub returns-in_ok-id-in-OrElse : goal.returns-in_ok-id-in-OrElse
returns-in_ok-id-in-OrElse c =
    let first = c.args.first in
    subst (λ (op : BinaryOperator). MakesTruth c.args.terms.now c.either-in-OrElse.new.terms c.in_ok-id-in-OrElse.id
    (λ u v. joined_overrun op (value_of u v first.value) (truth_at u v first.overrun) (truth_at u v c.args.second)))
    (sym c.in-OrElse.is)
    (or_made c.args.terms.now c.where_false.new.terms c.either-in-OrElse.new.terms first.overrun
    c.in_ok-other-in-OrElse.other c.in_ok-id-in-OrElse.id
    (λ u v. not (not (value_of u v first.value == 0)) && truth_at u v c.args.second)
    c.in_ok-other-in-OrElse.ensures c.in_ok-id-in-OrElse.ensures)

pub returns-in_ok-id-in_default : goal.returns-in_ok-id-in_default
returns-in_ok-id-in_default c =
    otherwise_overruns c.args.terms.now c.either-in_default.new.terms c.args.op c.args.first c.args.second
    c.in_ok-id-in_default.id
    c.in_default.not-AndAlso c.in_default.not-OrElse c.in_ok-id-in_default.ensures
