use Rattle.tm_play.proofs.play.turns.first_position.Goals as goal

pub returns-in-Err-BadChoices : goal.returns-in-Err-BadChoices
returns-in-Err-BadChoices c = c.in-Err-BadChoices.ensures.bad (cc)
