use Rattle.std.proofs.lemmas.List.Elements.{All-set}
use Rattle.tm_dd.specs.declared.node.TheConstants.{FALSE}
use Rattle.tm_game_bits.specs.Recent.{IsAnswer}
use Rattle.tm_game_bits.proofs.Remembered.{All-read, empty_is}
use Rattle.tm_game_bits.proofs.recent.Recent.note.Goals as goal

pub loop-place-preserved : goal.loop-place-preserved
loop-place-preserved c = λ s g are is.
    let answers = c.loop-place.self.answers in
    let place = c.loop-place.place in
    let so_far = c.loop-place.invariant s g are is in (
      All-set (IsAnswer s g) answers place c.loop-place.carried so_far.1 so_far.0,
      All-read (IsAnswer s g) answers place (record { set = FALSE; stays = FALSE }) so_far.0 (empty_is s g),
    )

pub returns-then-eq : goal.returns-then-eq
returns-then-eq c = λ s g are known is.
    let so_far = c.loop-place.invariant s g are (record { set = known; stays = is }) in
    All-set (IsAnswer s g) c.loop-place.self.answers c.loop-place.place c.loop-place.carried so_far.1 so_far.0

pub returns : goal.returns
returns c = λ s g are known is. (c.loop-place.invariant s g are (record { set = known; stays = is })).0
