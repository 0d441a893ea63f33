use Rattle.std.proofs.Common.{◌≡◌}
use Rattle.tm_solve.specs.Sets.{StateSet}
use Rattle.tm_solve.specs.Operator.{part_of}
use Rattle.test_game.specs.Example.{example_ids, four}
use Rattle.test_game.proofs.ExampleFacts.{picked}
use Rattle.test_game.proofs.solving.example.ExamplePre.part.Goals as goal

pub returns-clause-value : goal.returns-clause-value
returns-clause-value c =
    let means = (example_ids c.args.self.now.store).means in
    let set : StateSet = part_of four (means c.args.z) (means c.args.y) (means c.args.x) c.args.goal c.args.fair in
    picked (example_ids c.write.new.self.store) c.write.result _ _ _ _ set (cc) (cc) (cc) (cc) c.write.ensures.value
