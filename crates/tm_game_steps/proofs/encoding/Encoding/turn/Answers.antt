use Rattle.tm_dd.proofs.CallerLaws.{Extends-refl, Extends-trans}
use Rattle.tm_game_steps.specs.Setting.{setting_of}
use Rattle.tm_game_steps.proofs.Turning.{turn_none}
use Rattle.tm_game_steps.proofs.encoding.Encoding.turn.Goals as goal

pub loop-place-init : goal.loop-place-init
loop-place-init c = record {
  extends = Extends-refl c.args.dd.now.table;
  ready = c.requires.ready;
  set = turn_none (setting_of c.args.self.now) c.args.dd.now.table c.args.places.now;
}

pub turn_or-requires-clause-place : goal.turn_or-requires-clause-place
turn_or-requires-clause-place c = c.requires.places c.loop-place.place-index _ c.loop-place-test.true

pub turn_or-requires-clause-other : goal.turn_or-requires-clause-other
turn_or-requires-clause-other c = c.loop-place.invariant.set.known

pub returns-in_err-turn-clause-earlier : goal.returns-in_err-turn-clause-earlier
returns-in_err-turn-clause-earlier c =
    Extends-trans _ _ _ c.loop-place.invariant.extends c.turn_or.ensures.earlier
