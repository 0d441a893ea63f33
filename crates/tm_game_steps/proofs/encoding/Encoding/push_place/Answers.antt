use Rattle.std.proofs.Common.{get_or, false}
use Rattle.std.proofs.lemmas.List.{get_or_default}
use Rattle.tm_flat.specs.Flat.{flat_terms}
use Rattle.tm_game_steps.specs.declared.places.Place.{Place}
use Rattle.tm_game_steps.specs.Setting.{setting_of}
use Rattle.tm_game_steps.proofs.Pushing.{processes_more, same_from_test}
use Rattle.tm_game_steps.proofs.encoding.Encoding.push_place.Goals as goal

-- what code reads past the end of the places
abbrev no_place : Place
no_place = record { process = 0; location = 0; magic = false; stands = record { 0 = 0 } }

pub returns-clause-steps : goal.returns-clause-steps
returns-clause-steps c = λ old below.
    let found = c.in_ok-push_process.ensures.step in
    processes_more (setting_of c.args.self.now) (flat_terms c.args.flat.now) c.args.magic c.args.places.now c.args.index
    (get_or c.args.places.now c.args.index no_place) c.requires.index
    (get_or_default c.args.places.now c.args.index no_place (get_or c.args.places.now c.args.index no_place)
    c.requires.index)
    c.args.dd.now.table old c.args.list.now.items c.args.movers.now.items below c.push_process.new.dd.table found.0
    c.push_process.ensures.earlier
    (same_from_test (get_or c.args.places.now c.args.index no_place).magic c.args.magic c.if-place-magic.false)
    found.2 c.push_process.new.list.items c.push_process.new.movers.items found.1 c.in_ok-push_process.ensures.mover
