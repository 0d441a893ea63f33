use Rattle.std.proofs.Common.{arith}
use Rattle.tm_check.proofs.Valued.{can_read_in, holds_is}
use Rattle.tm_check.proofs.replies.test.Goals as goal
use Rattle.tm_cir.specs.View.{truth_tree}
use Rattle.tm_game.proofs.Growing.{grows_then, of_kept}

pub truth-requires-clause-inputs : goal.truth-requires-clause-inputs
truth-requires-clause-inputs c = can_read_in c.requires.reads.0 c.args.game.now c.args.reading c.requires.reads.1

pub bits-requires : goal.bits-requires
bits-requires c = c.in_ok-term.ensures.worth.term.0

pub index-requires : goal.index-requires
index-requires c =
    let later = of_kept c.args.game.now c.truth.new.game c.truth.ensures.grows c.requires.reads.0
    c.requires.reads.1.of in
    let are = c.in_ok-bits.ensures.bits c.requires.reads.0 later in
    omega (arith, are.width, c.in_ok-term.ensures.worth.term.1, c.in_ok-bits.bits.ok.0)

pub returns-in_err-bits-clause-grows : goal.returns-in_err-bits-clause-grows
returns-in_err-bits-clause-grows c =
    grows_then c.args.game.now c.truth.new.game c.bits.new.self c.truth.ensures.grows c.bits.ensures.grows

pub returns-clause-grows : goal.returns-clause-grows
returns-clause-grows c =
    grows_then c.args.game.now c.truth.new.game c.bits.new.self c.truth.ensures.grows c.bits.ensures.grows

pub returns-clause-holds : goal.returns-clause-holds
returns-clause-holds c = λ d is.
    holds_is d c.args.game.now c.truth.new.game c.args.reading is c.truth.ensures.grows c.bits.new.self.diagrams.table
    (truth_tree c.args.truth.now) c.in_ok-term.term c.in_ok-bits.bits.items c.index.result.now
    c.in_ok-term.ensures.worth
    (c.in_ok-bits.ensures.bits d (of_kept c.args.game.now c.truth.new.game c.truth.ensures.grows d is.of))
    c.index.ensures
