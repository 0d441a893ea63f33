use Rattle.std.proofs.Common.{ap, sym, ◌∙◌, rules}
use Rattle.std.specs.Hash.{le_bytes}
use Rattle.std.proofs.lemmas.Nat.{from_le_bytes-to_le_bytes_8}
use Rattle.tm_dd.specs.Hasher.{taken}
use Rattle.tm_dd.proofs.hasher.NumberHasherHasher.write_u64.Goals as goal

pub returns : goal.returns
unfolding le_bytes
returns c =
    c.taking.ensures ∙ ap (taken c.args.self.now) (sym (from_le_bytes-to_le_bytes_8 c.args.number (search rules)))
