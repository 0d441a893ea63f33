use Rattle.tm_flat_states.proofs.Choosing.{truth_never, truth_there}
use Rattle.tm_flat_states.proofs.truths.truth.Goals as goal

pub returns-in-Some : goal.returns-in-Some
returns-in-Some c =
    truth_there c.args.terms.now c.in-Some.id c.args.id c.in-Some.is c.requires.sound c.requires.truth

pub returns-in_ok-never-in-None : goal.returns-in_ok-never-in-None
returns-in_ok-never-in-None c =
    truth_never c.args.terms.now c.make.new.terms c.in_ok-never-in-None.never c.args.id c.in-None.is
    c.in_ok-never-in-None.ensures
