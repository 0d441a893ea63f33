use Rattle.std.proofs.Common.{false, refl, Some, sym, ap, ◌∙◌, subst, ◌+◌, ◌<◌, ◌^◌, ℕ, List, get_or, arith}
use Rattle.tm_term.proofs.Valued.{Extends-trans}
use Rattle.tm_game_steps.proofs.PlaceTerms.{flag_there, places_more, places_row}
use Rattle.tm_game_steps.proofs.places.push_places.Goals as goal

pub stands-requires-clause-value : goal.stands-requires-clause-value
stands-requires-clause-value c =
    let there = flag_there c.args.magic.now c.args.process c.loop-location.location c.index-magic-process.result false
    c.requires.process c.index-magic-process.is (omega (arith, c.index-magic-process.result.ok.0)) in
    subst (λ (inputs : List ℕ). c.loop-location.location < 2 ^ get_or inputs (c.args.first + c.args.process) 0)
    (sym c.loop-location.invariant.extends.inputs)
    (c.requires.locations c.args.process c.loop-location.location _ there)

pub returns-in_err-push-clause-earlier : goal.returns-in_err-push-clause-earlier
returns-in_err-push-clause-earlier c =
    Extends-trans _ _ _ c.loop-location.invariant.extends c.stands.ensures.earlier

pub loop-location-preserved : goal.loop-location-preserved
loop-location-preserved c =
    let there = flag_there c.args.magic.now c.args.process c.loop-location.location c.index-magic-process.result
    c.index.result.now c.requires.process c.index-magic-process.is
    (omega (arith, c.index-magic-process.result.ok.0)) in
    record {
      extends = Extends-trans _ _ _ c.loop-location.invariant.extends c.stands.ensures.earlier;
      below = places_more c.loop-location.terms c.stands.new.terms _ c.args.first c.args.process
          c.loop-location.location c.loop-location.places.items c.push.new.self.items (record {
            process = c.args.process;
            location = c.loop-location.location;
            magic = c.index.result.now;
            stands = c.in_ok-stands.stands;
          }) c.stands.ensures.earlier c.loop-location.invariant.below c.in_ok-stands.ensures.test
          (there ∙ ap Some (sym c.index.ensures)) refl refl c.in_ok-push.ensures.items;
    }

pub returns-clause-below : goal.returns-clause-below
returns-clause-below c =
    places_row c.loop-location.terms c.args.magic.now c.args.first c.args.process c.loop-location.location
    c.index-magic-process.result c.loop-location.places.items c.requires.process c.index-magic-process.is
    (omega (arith, c.index-magic-process.result.ok.0)) c.loop-location.invariant.below
