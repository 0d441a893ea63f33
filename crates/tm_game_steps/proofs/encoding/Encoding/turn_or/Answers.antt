use Rattle.tm_dd.proofs.CallerLaws.{Extends-trans}
use Rattle.tm_game_bits.proofs.Extended.{Knows-Extends}
use Rattle.tm_game_steps.proofs.Ready.{ready_kept}
use Rattle.tm_game_steps.proofs.encoding.Encoding.turn_or.Goals as goal

pub truth-requires-clause-term : goal.truth-requires-clause-term
truth-requires-clause-term c = (c.requires.place.known, c.requires.place.width)

pub or-requires-clause-f : goal.or-requires-clause-f
or-requires-clause-f c = Knows-Extends _ _ c.truth.ensures.earlier _ c.requires.other

pub returns-in_err-either-clause-earlier : goal.returns-in_err-either-clause-earlier
returns-in_err-either-clause-earlier c = Extends-trans _ _ _ c.truth.ensures.earlier c.or.ensures.grows.extends

pub returns-in_err-either-clause-ready : goal.returns-in_err-either-clause-ready
returns-in_err-either-clause-ready c = ready_kept _ _ _ _ c.or.ensures.grows.extends c.truth.ensures.ready

pub returns-clause-earlier : goal.returns-clause-earlier
returns-clause-earlier c = Extends-trans _ _ _ c.truth.ensures.earlier c.or.ensures.grows.extends

pub returns-clause-ready : goal.returns-clause-ready
returns-clause-ready c = ready_kept _ _ _ _ c.or.ensures.grows.extends c.truth.ensures.ready
