-- The first bytes were appended.
use Rattle.std.proofs.Common.{◌≤◌, length, take}
use Rattle.std.specs.Io.KnownBytes.{Appends}
use Rattle.tm_base.proofs.transfer.write_whole.Given as goal

abbrev pub invariant-loop : goal.invariant-loop
invariant-loop g l =
    let old = g.W.Write.contents l.initial.to in
    let new = g.W.Write.contents l.to in
    record {
      within : l.done ≤ length l.bytes;
      appended : Appends old new (take l.done l.bytes);
    }
