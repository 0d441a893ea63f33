use Rattle.std.proofs.Common.{IfOk, sym, subst}
use Rattle.std.proofs.lemmas.Result.{IfOk-weaker}
use Rattle.tm_check.specs.Worth.{AreCompared}
use Rattle.tm_check.proofs.Worth.{IsMade, equal_is, greater_is, less_is, made_ok}
use Rattle.tm_check.proofs.operators.compared.Goals as goal
use Rattle.tm_cir.specs.declared.block.Comparison.{Comparison}
use Rattle.tm_cir.specs.declared.block.Comparison.TheVariants.{Equal, Greater, Less}
use Rattle.tm_term.specs.declared.term.Term.TheVariants as terms

pub returns-in-Equal-clause-worth : goal.returns-in-Equal-clause-worth
returns-in-Equal-clause-worth c =
    subst (λ (op : Comparison).
    IfOk c.mk.result (AreCompared c.args.game.now.terms c.mk.new.self.terms op c.args.a c.args.b)) (sym c.in-Equal.is)
    (IfOk-weaker c.mk.result (IsMade c.args.game.now.terms c.mk.new.self.terms (terms.Eq c.args.a c.args.b))
    (AreCompared c.args.game.now.terms c.mk.new.self.terms Equal c.args.a c.args.b)
    (λ id made. equal_is c.args.game.now.terms c.mk.new.self.terms c.args.a c.args.b id made)
    (made_ok c.args.game.now.terms c.mk.new.self.terms (terms.Eq c.args.a c.args.b) c.mk.result
    c.mk.ensures.grows.terms c.mk.ensures.known c.mk.ensures.width c.mk.ensures.value))

pub returns-in-Less-clause-worth : goal.returns-in-Less-clause-worth
returns-in-Less-clause-worth c =
    subst (λ (op : Comparison).
    IfOk c.mk-in-Less.result (AreCompared c.args.game.now.terms c.mk-in-Less.new.self.terms op c.args.a c.args.b))
    (sym c.in-Less.is)
    (IfOk-weaker c.mk-in-Less.result (IsMade c.args.game.now.terms c.mk-in-Less.new.self.terms (terms.Less c.args.a
    c.args.b))
    (AreCompared c.args.game.now.terms c.mk-in-Less.new.self.terms Less c.args.a c.args.b)
    (λ id made. less_is c.args.game.now.terms c.mk-in-Less.new.self.terms c.args.a c.args.b id made)
    (made_ok c.args.game.now.terms c.mk-in-Less.new.self.terms (terms.Less c.args.a c.args.b) c.mk-in-Less.result
    c.mk-in-Less.ensures.grows.terms c.mk-in-Less.ensures.known c.mk-in-Less.ensures.width c.mk-in-Less.ensures.value))

pub returns-in-Greater-clause-worth : goal.returns-in-Greater-clause-worth
returns-in-Greater-clause-worth c =
    subst (λ (op : Comparison).
    IfOk c.mk-in-Greater.result (AreCompared c.args.game.now.terms c.mk-in-Greater.new.self.terms op c.args.a
    c.args.b)) (sym c.in-Greater.is)
    (IfOk-weaker c.mk-in-Greater.result (IsMade c.args.game.now.terms c.mk-in-Greater.new.self.terms (terms.Less
    c.args.b c.args.a))
    (AreCompared c.args.game.now.terms c.mk-in-Greater.new.self.terms Greater c.args.a c.args.b)
    (λ id made. greater_is c.args.game.now.terms c.mk-in-Greater.new.self.terms c.args.a c.args.b id made)
    (made_ok c.args.game.now.terms c.mk-in-Greater.new.self.terms (terms.Less c.args.b c.args.a) c.mk-in-Greater.result
    c.mk-in-Greater.ensures.grows.terms c.mk-in-Greater.ensures.known c.mk-in-Greater.ensures.width
    c.mk-in-Greater.ensures.value))
