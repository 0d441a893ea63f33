use Rattle.std.proofs.Common.{◌∙◌}
use Rattle.tm_dd.proofs.CallerLaws.{Extends-trans}
use Rattle.tm_game_bits.proofs.Extended.{Knows-Extends}
use Rattle.tm_game_steps.specs.Setting.{setting_of}
use Rattle.tm_game_steps.proofs.Ready.{ready_kept}
use Rattle.tm_game_steps.proofs.SetsOf.{always_is}
use Rattle.tm_game_steps.proofs.encoding.Encoding.always.Goals as goal

pub choices-requires : goal.choices-requires
choices-requires c = c.requires.ready.words

pub and-requires-clause-f : goal.and-requires-clause-f
and-requires-clause-f c =
    Knows-Extends _ _ (Extends-trans _ _ _ c.truth.ensures.earlier c.forall.ensures.grows.extends) _ c.requires.valid

pub returns-in_err-always-clause-earlier : goal.returns-in_err-always-clause-earlier
returns-in_err-always-clause-earlier c = Extends-trans _ _ _ c.truth.ensures.earlier c.forall.ensures.grows.extends

pub returns-in_err-always-clause-ready : goal.returns-in_err-always-clause-ready
returns-in_err-always-clause-ready c = ready_kept _ _ _ _ c.forall.ensures.grows.extends c.truth.ensures.ready

pub returns-in_err-both-clause-earlier : goal.returns-in_err-both-clause-earlier
returns-in_err-both-clause-earlier c =
    Extends-trans _ _ _ (Extends-trans _ _ _ c.truth.ensures.earlier c.forall.ensures.grows.extends)
    c.and.ensures.grows.extends

pub returns-in_err-both-clause-ready : goal.returns-in_err-both-clause-ready
returns-in_err-both-clause-ready c =
    ready_kept _ _ _ _ (Extends-trans _ _ _ c.forall.ensures.grows.extends c.and.ensures.grows.extends)
    c.truth.ensures.ready

pub returns-clause-earlier : goal.returns-clause-earlier
returns-clause-earlier c =
    Extends-trans _ _ _ (Extends-trans _ _ _ c.truth.ensures.earlier c.forall.ensures.grows.extends)
    c.and.ensures.grows.extends

pub returns-clause-ready : goal.returns-clause-ready
returns-clause-ready c =
    ready_kept _ _ _ _ (Extends-trans _ _ _ c.forall.ensures.grows.extends c.and.ensures.grows.extends)
    c.truth.ensures.ready

pub returns-clause-set : goal.returns-clause-set
returns-clause-set c =
    always_is (setting_of c.args.self.now) c.args.dd.now.table c.truth.new.dd.table c.forall.new.self.table
    c.and.new.self.table c.args.id c.deref.result.now c.args.valid c.in_ok-node.node c.in_ok-always.always
    c.in_ok-both.both c.requires.valid c.truth.ensures.earlier c.forall.ensures.grows.extends
    c.and.ensures.grows.extends c.in_ok-node.ensures.truth (c.deref.ensures.value ∙ c.in_ok-choices.ensures)
    c.in_ok-always.ensures.answer c.in_ok-both.ensures.answer
