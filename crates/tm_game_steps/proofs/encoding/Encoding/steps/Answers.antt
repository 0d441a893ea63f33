use Rattle.std.proofs.Common.{List, false, refl, subst}
use Rattle.tm_flat.specs.Flat.{flat_terms}
use Rattle.tm_game_bits.specs.declared.step.StepDiagrams.{StepDiagrams}
use Rattle.tm_game_steps.specs.Inner.Pushed.{AreProcesses}
use Rattle.tm_game_steps.specs.Setting.{setting_of}
use Rattle.tm_game_steps.proofs.Driving.{game_is}
use Rattle.tm_game_steps.proofs.encoding.Encoding.steps.Goals as goal

pub returns-clause-game : goal.returns-clause-game
returns-clause-game c =
    let steps = subst (λ (old : List StepDiagrams).
    AreProcesses (setting_of c.args.self.now) (flat_terms c.args.flat.now) false c.push_processes.new.dd.table old
    c.push_processes.new.list.items c.in_ok-_others._others.items) c.new-environment.ensures.items
    c.in_ok-_others.ensures.steps in
    let both = game_is (setting_of c.args.self.now) (flat_terms c.args.flat.now) c.turns.new.dd.table
    c.truth.new.dd.table c.push_processes.new.dd.table c.driver_steps.new.dd.table c.args.places.now
    c.in_ok-turns.turns c.in_ok-valid.valid c.push_processes.new.list.items c.in_ok-driver.driver.list.items
    c.in_ok-_others._others.items c.in_ok-driver.driver.movers.items (record {
      valid = c.in_ok-valid.valid;
      turn = c.in_ok-turns.turns.turn;
      stutter = c.in_ok-turns.turns.stutter;
      environment = c.push_processes.new.list;
      driver = c.in_ok-driver.driver.list;
    }) c.truth.ensures.earlier c.push_processes.ensures.earlier c.driver_steps.ensures.earlier c.requires.places
    c.in_ok-turns.ensures.turns c.in_ok-valid.ensures.truth steps c.in_ok-driver.ensures.steps refl refl refl refl
    refl in
    record { known = both.0; tells = both.1 }
