-- What was read so far is what the reader lost, and it was counted.
use Rattle.std.proofs.Common.{◌≤◌, [], vec_len}
use Rattle.tm_base.specs.Transfer.{TakesPiece}
use Rattle.tm_base.proofs.transfer.read_whole.Given as goal

abbrev pub invariant-loop : goal.invariant-loop
invariant-loop g l =
    let left = g.R.Read.remaining l.initial.from in
    let rest = g.R.Read.remaining l.from in
    record {
      taken : TakesPiece left rest [] l.bytes.items l.initial.taken l.taken;
      within : vec_len l.bytes ≤ l.limit;
      no_fewer : l.initial.taken ≤ l.taken;
    }
