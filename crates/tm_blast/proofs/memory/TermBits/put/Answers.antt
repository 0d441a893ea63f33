use Rattle.std.proofs.Common.{Option, Some, List, Vec, ap, ◌∙◌}
use Rattle.std.specs.Prelude.{slice_set}
use Rattle.std.specs.Option.{option_map}
use Rattle.std.specs.declared.alloc.Global.{Global}
use Rattle.std.proofs.lemmas.List.{map-set}
use Rattle.tm_dd.specs.declared.node.NodeId.{NodeId}
use Rattle.tm_blast.proofs.memory.TermBits.put.Goals as goal

pub returns : goal.returns
returns c =
    let f : Option (Vec NodeId Global) → Option (List NodeId) = option_map (λ bits. bits.items) in
    map-set f c.self.inside.entries.items c.args.id.0 (Some c.args.bits)
    ∙ ap (λ made. slice_set made c.args.id.0 (Some c.args.bits.items)) c.self.view_is
