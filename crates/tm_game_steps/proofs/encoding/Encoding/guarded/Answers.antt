use Rattle.tm_dd.proofs.CallerLaws.{Extends-trans}
use Rattle.tm_game_bits.proofs.Extended.{Knows-Extends}
use Rattle.tm_game_steps.proofs.Ready.{guarded_is, ready_kept}
use Rattle.tm_game_steps.specs.Setting.{setting_of}
use Rattle.tm_game_steps.proofs.encoding.Encoding.guarded.Goals as goal

pub and-requires-clause-f : goal.and-requires-clause-f
and-requires-clause-f c = Knows-Extends _ _ c.truth-2.ensures.earlier _ c.in_ok-holds.ensures.truth.known

pub returns-in_err-node-clause-earlier : goal.returns-in_err-node-clause-earlier
returns-in_err-node-clause-earlier c = Extends-trans _ _ _ c.truth.ensures.earlier c.truth-2.ensures.earlier

pub returns-in_err-both-clause-earlier : goal.returns-in_err-both-clause-earlier
returns-in_err-both-clause-earlier c =
    Extends-trans _ _ _ (Extends-trans _ _ _ c.truth.ensures.earlier c.truth-2.ensures.earlier)
    c.and.ensures.grows.extends

pub returns-in_err-both-clause-ready : goal.returns-in_err-both-clause-ready
returns-in_err-both-clause-ready c = ready_kept _ _ _ _ c.and.ensures.grows.extends c.truth-2.ensures.ready

pub returns-clause-earlier : goal.returns-clause-earlier
returns-clause-earlier c =
    Extends-trans _ _ _ (Extends-trans _ _ _ c.truth.ensures.earlier c.truth-2.ensures.earlier)
    c.and.ensures.grows.extends

pub returns-clause-ready : goal.returns-clause-ready
returns-clause-ready c = ready_kept _ _ _ _ c.and.ensures.grows.extends c.truth-2.ensures.ready

pub returns-clause-guarded : goal.returns-clause-guarded
returns-clause-guarded c = λ test tests.
    guarded_is (setting_of c.args.self.now) c.truth.new.dd.table c.truth-2.new.dd.table c.and.new.self.table
    c.args.guard c.args.id c.in_ok-holds.holds c.in_ok-node.node c.in_ok-both.both test c.truth-2.ensures.earlier
    c.and.ensures.grows.extends c.in_ok-holds.ensures.truth c.in_ok-node.ensures.truth c.in_ok-both.ensures.answer
    tests
