use Rattle.std.proofs.Common.{◌≡◌, List, [], Some, sym, ap, ◌∙◌, subst, arith}
use Rattle.std.specs.Prelude.{slice_get}
use Rattle.std.proofs.lemmas.List.{append-nil}
use Rattle.std.proofs.lemmas.Option.{slice_get-get_or}
use Rattle.tm_check.proofs.replies.shape_number.Goals as goal
use Rattle.tm_game.specs.declared.moves.MoveShape.{MoveShape}

pub returns-then-are_same : goal.returns-then-are_same
returns-then-are_same c = record {
  more = [];
  behind = sym (append-nil c.args.shapes.now.items);
  only = λ k x below. absurd (omega arith);
  here = subst (λ (shapes : List MoveShape). slice_get shapes c.loop-index.index ≡ Some c.args.shape)
      c.deref-known-items.ensures.value
      (slice_get-get_or c.deref-known-items.result.now c.loop-index.index _ c.loop-index-test.true
      ∙ ap (λ (m : MoveShape). Some m) (c.are_same.ensures.0 c.if-are_same.true));
}
