use Rattle.tm_plain_bodies.proofs.frame.Frame.level.Goals as goal

pub returns : goal.returns
returns c = λ i. record { at = c.at.ensures i; depth = c.args.self.now.depth }
