use Rattle.std.proofs.Common.{arith}
use Rattle.tm_term.proofs.Valued.{Extends-trans}
use Rattle.tm_game_steps.proofs.PlaceTerms.{places_all}
use Rattle.tm_game_steps.proofs.places.place_terms.Goals as goal

pub returns-in_err-push_places-clause-earlier : goal.returns-in_err-push_places-clause-earlier
returns-in_err-push_places-clause-earlier c =
    Extends-trans _ _ _ c.loop-process.invariant.extends c.push_places.ensures.earlier

pub loop-process-preserved : goal.loop-process-preserved
loop-process-preserved c = record {
  extends = Extends-trans _ _ _ c.loop-process.invariant.extends c.push_places.ensures.earlier;
  below = c.in_ok-push_places.ensures.below;
}

pub returns-clause-places : goal.returns-clause-places
returns-clause-places c =
    places_all c.loop-process.terms c.args.magic.now c.args.first c.loop-process.process c.loop-process.places.items
    (omega arith) c.loop-process.invariant.below
