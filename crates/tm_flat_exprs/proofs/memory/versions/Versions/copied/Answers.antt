use Rattle.std.proofs.Common.{◌∙◌}
use Rattle.tm_flat_exprs.proofs.Shared.{copied_holds, copied_versions}
use Rattle.tm_flat_exprs.proofs.memory.versions.Versions.copied.Goals as goal

pub invariant_of-result : goal.invariant_of-result
invariant_of-result c =
    copied_holds c.self.inside.full.items c.deref.result.now c.in_ok-from_clones.field-0.items c.self.inside.last.items
    c.deref-2.result.now c.in_ok-from_slice.field-0.items c.deref.ensures.value c.in_ok-from_clones.ensures.items
    c.deref-2.ensures.value c.in_ok-from_slice.ensures.items c.self.inside.count c.self.invariant

pub returns : goal.returns
returns c =
    copied_versions c.self.inside.full.items c.deref.result.now c.in_ok-from_clones.field-0.items
    c.self.inside.last.items c.deref-2.result.now c.in_ok-from_slice.field-0.items c.deref.ensures.value
    c.in_ok-from_clones.ensures.items c.deref-2.ensures.value c.in_ok-from_slice.ensures.items
    ∙ c.self.view_is
