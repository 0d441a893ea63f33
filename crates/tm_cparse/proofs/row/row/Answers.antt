use Rattle.std.proofs.Common.{rules, arith}
use Rattle.std.proofs.Math.ListN.{drop_of_length-le}
use Rattle.tm_cparse.specs.declared.row.Slot.TheVariants.{Given}
use Rattle.tm_cparse.specs.declared.token.Token.TheVariants as tokens
use Rattle.tm_cparse.specs.declared.token.Word.TheVariants.{Void}
use Rattle.tm_cparse.specs.View.{tokens_of}
use Rattle.tm_cparse.proofs.Moves.{moves_then}
use Rattle.tm_cparse.proofs.Readings.{refused_behind}
use Rattle.tm_cparse.proofs.Rows.{moves_next, no_next, row_read, next_of}
use Rattle.tm_cparse.proofs.row.row.Goals as goal

pub returns-in_err-rest-clause-refused : goal.returns-in_err-rest-clause-refused
returns-in_err-rest-clause-refused c =
    let h = refused_behind c.loop-slot.invariant.0 _
    (no_next c.args.slots.now c.loop-slot.slot-index _ c.loop-slot.numbers.items c.loop-slot.rest.now _
    (next_of c.args.slots.now c.loop-slot.slot-index (Given (tokens.Word Void)) (omega arith))
    c.in_err-rest.ensures.refused) in
    search rules

pub loop-slot-preserved : goal.loop-slot-preserved
loop-slot-preserved c = (
  moves_then c.loop-slot.invariant.0
      (moves_next c.args.slots.now c.loop-slot.slot-index _ c.loop-slot.numbers.items c.token_of.new.numbers.items
      (tokens_of c.loop-slot.rest.now) (tokens_of c.in_ok-rest.rest.now)
      (next_of c.args.slots.now c.loop-slot.slot-index (Given (tokens.Word Void)) (omega arith))
      c.in_ok-rest.ensures.taken),
  omega (arith, c.in_ok-rest.ensures.shorter),
)

pub returns-clause-taken : goal.returns-clause-taken
returns-clause-taken c =
    row_read c.args.slots.now c.loop-slot.slot-index c.loop-slot.numbers.items (tokens_of c.args.spots.now)
    (tokens_of c.loop-slot.rest.now) (drop_of_length-le c.args.slots.now (omega arith)) c.loop-slot.invariant.0
