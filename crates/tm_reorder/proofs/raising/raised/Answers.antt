use Rattle.std.proofs.Common.{ℕ, List, length, sym, subst}
use Rattle.tm_reorder.specs.Inner.Raised.{AreParts}
use Rattle.tm_reorder.proofs.raising.raised.Goals as goal

pub returns : goal.returns
returns c = λ given. record {
  branches = c.all_joined.ensures.branches;
  told = c.in_ok-ids.ensures.told c.args.entries.now (length c.args.entries.now)
      (subst
      (λ (parts : List (ℕ × ℕ)). AreParts c.args.entries.now c.all_parted.new.graph.entries.keys c.args.level
      (length c.args.entries.now) parts)
      (sym c.deref.ensures.value) c.in_ok-parts.ensures.parts);
}
