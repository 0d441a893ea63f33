use Rattle.tm_dd.proofs.CallerLaws.{Extends-trans}
use Rattle.tm_game_bits.proofs.Extended.{Knows-Extends}
use Rattle.tm_game_steps.specs.Setting.{setting_of}
use Rattle.tm_game_steps.proofs.Ready.{ready_kept}
use Rattle.tm_game_steps.proofs.SetsOf.{set_is}
use Rattle.tm_game_steps.proofs.encoding.Encoding.set.Goals as goal

pub and-requires-clause-f : goal.and-requires-clause-f
and-requires-clause-f c = Knows-Extends _ _ c.truth.ensures.earlier _ c.requires.valid

pub returns-in_err-both-clause-earlier : goal.returns-in_err-both-clause-earlier
returns-in_err-both-clause-earlier c = Extends-trans _ _ _ c.truth.ensures.earlier c.and.ensures.grows.extends

pub returns-in_err-both-clause-ready : goal.returns-in_err-both-clause-ready
returns-in_err-both-clause-ready c = ready_kept _ _ _ _ c.and.ensures.grows.extends c.truth.ensures.ready

pub returns-clause-earlier : goal.returns-clause-earlier
returns-clause-earlier c = Extends-trans _ _ _ c.truth.ensures.earlier c.and.ensures.grows.extends

pub returns-clause-ready : goal.returns-clause-ready
returns-clause-ready c = ready_kept _ _ _ _ c.and.ensures.grows.extends c.truth.ensures.ready

pub returns-clause-set : goal.returns-clause-set
returns-clause-set c =
    set_is (setting_of c.args.self.now) c.args.dd.now.table c.truth.new.dd.table c.and.new.self.table c.args.id
    c.args.valid c.in_ok-node.node c.in_ok-both.both c.requires.valid c.truth.ensures.earlier
    c.and.ensures.grows.extends c.in_ok-node.ensures.truth c.in_ok-both.ensures.answer
