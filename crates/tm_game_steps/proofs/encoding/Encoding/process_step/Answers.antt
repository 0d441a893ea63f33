use Rattle.std.proofs.Common.{ℕ, ◌+◌, List, subst}
use Rattle.tm_flat.specs.Flat.{flat_terms, step_terms}
use Rattle.tm_game_steps.specs.Inner.Pushed.{IsTelling}
use Rattle.tm_game_steps.specs.Setting.{has_value, setting_of}
use Rattle.tm_game_steps.specs.Telling.{AreStepTerms}
use Rattle.tm_game_steps.proofs.Telling.{from_place, step_same}
use Rattle.tm_game_steps.proofs.encoding.Encoding.process_step.Goals as goal

pub guarded-requires-clause-guard : goal.guarded-requires-clause-guard
guarded-requires-clause-guard c = (c.requires.place.stands.known, c.requires.place.stands.width)

pub step-requires-clause-terms : goal.step-requires-clause-terms
step-requires-clause-terms c =
    let has = c.requires.terms.processes c.args.place.process c.args.place.location c.args.place.magic
    c.requires.place.there in
    let same = step_same c.args.flat.now.processes.items c.args.place.process c.args.place.location has.terms has.there
    c.index-steps.result.now c.index-steps.ensures c.index-step.result.now c.index-step.ensures in
    subst (AreStepTerms (setting_of c.args.self.now)) same has.are

pub returns-clause-step : goal.returns-clause-step
returns-clause-step c =
    let has = c.requires.terms.processes c.args.place.process c.args.place.location c.args.place.magic
    c.requires.place.there in
    let same = step_same c.args.flat.now.processes.items c.args.place.process c.args.place.location has.terms has.there
    c.index-steps.result.now c.index-steps.ensures c.index-step.result.now c.index-step.ensures in
    let guarded = c.in_ok-legal.ensures.guarded
    (has_value (c.args.self.now.first + c.args.place.process) c.args.place.location) c.requires.place.stands.is in
    from_place (setting_of c.args.self.now) (flat_terms c.args.flat.now) c.step.new.dd.table c.args.place
    (step_terms c.index-step.result.now) c.in_ok-moves.moves has c.requires.place same
    (subst (λ (given : List ℕ).
    IsTelling (setting_of c.args.self.now) c.step.new.dd.table
    (has_value (c.args.self.now.first + c.args.place.process) c.args.place.location) given
    (step_terms c.index-step.result.now) c.in_ok-moves.moves) c.new-arguments.ensures.items
    (c.in_ok-moves.ensures.step
    (has_value (c.args.self.now.first + c.args.place.process) c.args.place.location) guarded))
