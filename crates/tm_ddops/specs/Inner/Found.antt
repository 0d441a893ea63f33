-- What a walk over the nodes of a diagram has found: an id for each id that it has met.
use Rattle.std.specs.Prelude.{◌==◌, Bool, Option}
use Rattle.std.specs.declared.hash.FoldHasher.{FoldHasher}
use Rattle.std.specs.declared.hash.BuildHasherDefault.{BuildHasherDefault}
use Rattle.std.specs.HashMap.{get, HashMap}
use Rattle.tm_dd.specs.declared.node.NodeId.{NodeId}
use Rattle.tm_dd.specs.NodeId.{number_of}

-- the ids that were met, with what was found for them
abbrev pub Found : Type 0
Found = HashMap NodeId NodeId (BuildHasherDefault FoldHasher)

-- whether two ids are one
abbrev pub id_eq : NodeId → NodeId → Bool
id_eq f g = number_of f == number_of g

-- what was found for an id
abbrev pub found_at : Found → NodeId → Option NodeId
found_at m f = get id_eq m f
