use Rattle.std.proofs.Common.{ℕ, sym, subst, arith}
use Rattle.std.proofs.lemmas.Nat.{one_shl}
use Rattle.tm_check.specs.Arguments.{IsFitting}
use Rattle.tm_dd.specs.declared.node.TheConstants.{TRUE}
use Rattle.tm_check.proofs.Valued.{fits_always, fitting_is}
use Rattle.tm_check.proofs.Worth.{const_worth, less_worth, value_worth, worth_kept}
use Rattle.tm_check.proofs.arguments.fitting.Goals as goal
use Rattle.tm_term.specs.Value.{value_of}
use Rattle.tm_game.proofs.Growing.{grows_then, of_kept}

pub returns-then-width-eq-WIDTH-clause-fitting : goal.returns-then-width-eq-WIDTH-clause-fitting
returns-then-width-eq-WIDTH-clause-fitting c = λ d of sized.
    subst (λ (w : ℕ). IsFitting d c.args.game.now.order c.args.game.now.terms c.args.game.now.diagrams.table
    c.args.num w TRUE)
    (sym c.if-width-eq-WIDTH.true)
    (fits_always d c.args.game.now.order c.args.game.now.terms c.args.game.now.diagrams.table c.args.num)

pub index-requires : goal.index-requires
index-requires c =
    let later = grows_then c.args.game.now c.mk.new.self c.mk-2.new.self c.mk.ensures.grows c.mk-2.ensures.grows in
    let are = c.in_ok-bits.ensures.bits c.requires.of.0
    (of_kept c.args.game.now c.mk-2.new.self later c.requires.of.0 c.requires.of.1) in
    omega (arith, are.width, c.in_ok-test.ensures.width, c.in_ok-bits.bits.ok.0)

pub returns-clause-fitting : goal.returns-clause-fitting
returns-clause-fitting c = λ d of sized.
    let later = grows_then c.args.game.now c.mk.new.self c.mk-2.new.self c.mk.ensures.grows c.mk-2.ensures.grows in
    fitting_is d c.args.game.now c.mk-2.new.self of sized later c.bits.new.self.diagrams.table c.args.num c.args.width _
    c.in_ok-test.test c.in_ok-bits.bits.items c.index.result.now
    (one_shl c.args.width 64 (omega (arith, c.requires.width, c.if-width-eq-WIDTH.false)))
    (less_worth c.mk.new.self.terms c.mk-2.new.self.terms c.in_ok-test.test c.args.num c.in_ok-limit.limit
    (λ values. value_of c.args.game.now.terms values c.args.num) (λ values. _)
    (worth_kept c.args.game.now.terms c.mk.new.self.terms c.mk.ensures.grows.terms 64
    (λ values. value_of c.args.game.now.terms values c.args.num) c.args.num
    (value_worth c.args.game.now.terms 64 c.args.num c.requires.num))
    (const_worth c.args.game.now.terms c.mk.new.self.terms c.in_ok-limit.limit _ (record {
      extends = c.mk.ensures.grows.terms;
      known = c.in_ok-limit.ensures.known;
      width = c.in_ok-limit.ensures.width;
      value = c.in_ok-limit.ensures.value;
    })) (record {
      extends = c.mk-2.ensures.grows.terms;
      known = c.in_ok-test.ensures.known;
      width = c.in_ok-test.ensures.width;
      value = c.in_ok-test.ensures.value;
    })) (c.in_ok-bits.ensures.bits d (of_kept c.args.game.now c.mk-2.new.self later d of)) c.index.ensures

pub returns-in_err-test-clause-grows : goal.returns-in_err-test-clause-grows
returns-in_err-test-clause-grows c =
    grows_then c.args.game.now c.mk.new.self c.mk-2.new.self c.mk.ensures.grows c.mk-2.ensures.grows

pub returns-in_err-bits-clause-grows : goal.returns-in_err-bits-clause-grows
returns-in_err-bits-clause-grows c =
    grows_then c.args.game.now c.mk-2.new.self c.bits.new.self
    (grows_then c.args.game.now c.mk.new.self c.mk-2.new.self c.mk.ensures.grows c.mk-2.ensures.grows)
    c.bits.ensures.grows

pub returns-clause-grows : goal.returns-clause-grows
returns-clause-grows c =
    grows_then c.args.game.now c.mk-2.new.self c.bits.new.self
    (grows_then c.args.game.now c.mk.new.self c.mk-2.new.self c.mk.ensures.grows c.mk-2.ensures.grows)
    c.bits.ensures.grows
