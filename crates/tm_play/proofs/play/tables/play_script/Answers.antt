use Rattle.std.proofs.Common.{[], sym}
use Rattle.tm_play.specs.Played.{nothing}
use Rattle.tm_play.proofs.Putting.{cut_nothing}
use Rattle.tm_play.proofs.play.tables.play_script.Goals as goal

pub returns-in-Err-clause-cut : goal.returns-in-Err-clause-cut
returns-in-Err-clause-cut g c = ([], nothing, λ told. cut_nothing (g.O.Sink.written c.args.out.now))

pub new-requires : goal.new-requires
new-requires g c = record { sound = c.requires.playable.sound; read = c.requires.playable.of_text }

pub returns-clause-halted : goal.returns-clause-halted
returns-clause-halted g c = rw (sym c.in-Ok.ensures) c.play_by_tables-halted.ensures.halted

pub returns-clause-cut : goal.returns-clause-cut
returns-clause-cut g c = rw (sym c.in-Ok.ensures) c.play_by_tables-halted.ensures.cut
