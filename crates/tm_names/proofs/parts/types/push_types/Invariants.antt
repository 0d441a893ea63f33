use Rattle.std.proofs.Common.{◌≡◌, ◌++◌, map, drop}
use Rattle.tm_names.specs.Parts.{listed_types}
use Rattle.tm_names.proofs.parts.types.push_types.Given as goal

abbrev pub invariant-loop-part : goal.invariant-loop-part
invariant-loop-part g l =
    listed_types l.types.items ++ map g.T.HasType.ty (drop l.part-index l.parts)
    ≡ listed_types l.initial.types.items ++ map g.T.HasType.ty l.parts
