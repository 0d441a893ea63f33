use Rattle.std.proofs.Common.{◌≡◌, ◌&&◌, ◌||◌, not}
use Rattle.tm_solve.specs.Sets.{StateSet}
use Rattle.test_game.specs.Example.{example_ids}
use Rattle.test_game.proofs.ExampleFacts.{picked}
use Rattle.test_game.proofs.solving.example.ExamplePre.meet.Goals as goal

pub returns-clause-value : goal.returns-clause-value
returns-clause-value c =
    let set : StateSet = λ s. (example_ids c.args.self.now.store).means c.args.a s &&
    (example_ids c.args.self.now.store).means c.args.b s in
    picked (example_ids c.write.new.self.store) c.write.result _ _ _ _ set (cc) (cc) (cc) (cc) c.write.ensures.value
