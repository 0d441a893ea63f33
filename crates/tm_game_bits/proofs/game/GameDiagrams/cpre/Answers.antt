use Rattle.tm_game_bits.specs.Diagrams.{game_of}
use Rattle.tm_game_bits.proofs.Extended.{AreAnswers-Extends, Knows-Extends}
use Rattle.tm_game_bits.proofs.GameSets.{stays_again}
use Rattle.tm_game_bits.proofs.game.GameDiagrams.cpre.Goals as goal

pub returns-in_err-kept-clause-recent : goal.returns-in_err-kept-clause-recent
returns-in_err-kept-clause-recent c =
    AreAnswers-Extends c.args.dd.now.table c.recalled.new.dd.table c.recalled.ensures.extends c.args.self.now
    c.args.recent.now c.requires.game c.requires.recent

pub returns-clause-recent : goal.returns-clause-recent
returns-clause-recent c =
    let s = c.args.dd.now.table in
    let t = c.recalled.new.dd.table in
    let g = c.args.self.now in
    c.note.ensures t (game_of t g)
    (AreAnswers-Extends s t c.recalled.ensures.extends g c.args.recent.now c.requires.game c.requires.recent)
    (Knows-Extends s t c.recalled.ensures.extends c.args.set c.requires.set)
    (stays_again s t c.recalled.ensures.extends g c.requires.game c.args.set c.in_ok-kept.kept c.requires.set
    c.in_ok-kept.ensures.answer)
