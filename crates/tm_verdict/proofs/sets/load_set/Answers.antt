use Rattle.std.proofs.lemmas.Option.{slice_get-get_or}
use Rattle.tm_game_bits.proofs.Coded.{is_coding}
use Rattle.tm_verdict.proofs.States.{loaded_set}
use Rattle.tm_verdict.proofs.sets.load_set.Goals as goal

pub and-requires-clause-f : goal.and-requires-clause-f
and-requires-clause-f c = (c.valid-valid.ensures.states c.requires.of.0 c.requires.of.1).known

pub returns-clause-states : goal.returns-clause-states
returns-clause-states c = λ d nodes of order nodes_are loaded.
    loaded_set d c.args.game.now.order (is_coding d c.args.game.now.order of.small order) nodes nodes_are
    c.args.game.now.diagrams.table c.and.new.self.diagrams.table c.valid-valid.result _ c.in_ok-id.id c.args.ids.now
    c.args.set c.and.ensures.grows.diagrams (c.valid-valid.ensures.states d of) loaded
    (slice_get-get_or c.args.ids.now c.args.set _ c.requires.set) c.in_ok-id.ensures.answer
