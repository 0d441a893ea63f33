use Rattle.std.proofs.Common.{ℕ, List, map, sym, subst}
use Rattle.std.specs.Prelude.{Contains}
use Rattle.tm_check.specs.declared.replies.Reply.{Reply}
use Rattle.tm_check.specs.Good.{FitsReply, IsGoodReply}
use Rattle.tm_check.proofs.Growth.{move_before, test_before}
use Rattle.tm_check.proofs.good.good_from.Goals as goal
use Rattle.tm_dd.specs.declared.node.NodeId.{NodeId}
use Rattle.tm_game.proofs.Growing.{grows_then}

pub compose-requires-clause-parts : goal.compose-requires-clause-parts
compose-requires-clause-parts c =
    let fits = subst (λ (r : Reply).
    FitsReply c.args.game.now.diagrams.table c.args.moves.now c.args.from_last.now c.args.count r) c.in-Move.is
    c.requires.reply in
    λ f inside.
    fits.3 f
    (subst (λ (parts : List (ℕ × NodeId)). Contains (map (λ p. p.1) parts) f) c.deref.ensures.value inside)

pub returns-in_ok-good-in-Test-clause-good : goal.returns-in_ok-good-in-Test-clause-good
returns-in_ok-good-in-Test-clause-good c =
    let fits = subst (λ (r : Reply).
    FitsReply c.args.game.now.diagrams.table c.args.moves.now c.args.from_last.now c.args.count r) c.in-Test.is
    c.requires.reply in
    subst (λ (r : Reply). IsGoodReply c.args.game.now.diagrams.table c.ite.new.self.diagrams.table c.args.moves.now
    c.args.from_last.now c.args.count r c.in_ok-good-in-Test.good) (sym c.in-Test.is)
    (λ one other one_is other_is.
    test_before c.args.game.now.diagrams.table c.ite.new.self.diagrams.table c.ite.ensures.grows.diagrams
    c.args.from_last.now _ _ _ _ c.in-Test.holds c.in_ok-good-in-Test.good one other fits.0 fits.1 fits.3 fits.5 one_is
    other_is c.in_ok-good-in-Test.ensures.answer)

pub returns-in_ok-good-in-Move-clause-good : goal.returns-in_ok-good-in-Move-clause-good
returns-in_ok-good-in-Move-clause-good c =
    let fits = subst (λ (r : Reply).
    FitsReply c.args.game.now.diagrams.table c.args.moves.now c.args.from_last.now c.args.count r) c.in-Move.is
    c.requires.reply in
    subst (λ (r : Reply). IsGoodReply c.args.game.now.diagrams.table c.and.new.self.diagrams.table c.args.moves.now
    c.args.from_last.now c.args.count r c.in_ok-good-in-Move.good) (sym c.in-Move.is)
    (λ move move_is.
    move_before c.args.game.now.diagrams.table c.compose.new.self.diagrams.table c.and.new.self.diagrams.table
    c.compose.ensures.grows.diagrams c.and.ensures.grows.diagrams c.args.moves.now c.in-Move.shape _ move c.in-Move.fits
    c.in_ok-given-in-Move.given c.in_ok-good-in-Move.good c.deref.result.now c.in-Move.arguments.items
    c.deref.ensures.value fits.1 fits.2 fits.0 fits.3 move_is c.in_ok-given-in-Move.ensures.answer
    c.in_ok-good-in-Move.ensures.answer)

pub returns-in_err-good-in-Move-clause-grows : goal.returns-in_err-good-in-Move-clause-grows
returns-in_err-good-in-Move-clause-grows c = grows_then _ _ _ c.compose.ensures.grows c.and.ensures.grows

pub returns-in_ok-good-in-Move-clause-grows : goal.returns-in_ok-good-in-Move-clause-grows
returns-in_ok-good-in-Move-clause-grows c = grows_then _ _ _ c.compose.ensures.grows c.and.ensures.grows
