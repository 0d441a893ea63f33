use Rattle.std.proofs.Common.{[]}
use Rattle.tm_play.specs.Played.{nothing}
use Rattle.tm_play.proofs.Putting.{cut_nothing}
use Rattle.tm_play.proofs.play.tables.play_by_tables.Goals as goal

pub returns-in_default-clause-cut : goal.returns-in_default-clause-cut
returns-in_default-clause-cut g c = ([], nothing, λ told. cut_nothing (g.O.Sink.written c.args.out.now))
