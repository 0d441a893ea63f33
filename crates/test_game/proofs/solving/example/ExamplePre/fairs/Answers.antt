use Rattle.test_game.proofs.ExampleFacts.{exact_of}
use Rattle.test_game.proofs.solving.example.ExamplePre.fairs.Goals as goal

pub returns-clause-exact : goal.returns-clause-exact
returns-clause-exact c = exact_of c.args.self.now.store c.levels-levels.ensures.reduced c.args.self.now.two
