use Rattle.std.proofs.Common.{◌≡◌, take}
use Rattle.tm_dd.specs.Reduced.{IsReduced}
use Rattle.tm_ddops.specs.Copied.{AllReached, AreCopies, MeanTheSame}
use Rattle.tm_ddops.proofs.copy.copies.Given as goal

abbrev pub invariant-loop-root : goal.invariant-loop-root
invariant-loop-root l = record {
  reduced : IsReduced l.to;
  levels : l.to.levels ≡ l.fn.to.levels;
  ranks : l.to.ranks ≡ l.fn.to.ranks;
  found : AreCopies l.from l.to l.found;
  same : MeanTheSame l.from (take l.root-index l.roots) l.to l.ids.items;
  reached : AllReached l.to l.ids.items;
}
