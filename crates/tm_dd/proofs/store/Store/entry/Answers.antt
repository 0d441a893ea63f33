use Rattle.std.proofs.Common.{get_or, ap, ◌∙◌, arith}
use Rattle.std.proofs.lemmas.List.{get_or_default}
use Rattle.tm_dd.specs.declared.node.Node.{Node}
use Rattle.tm_dd.specs.Table.{entry_at, entries, constant_entry}
use Rattle.tm_dd.proofs.store.Store.entry.Goals as goal

pub returns-clause-value : goal.returns-clause-value
unfolding entry_at
returns-clause-value c =
    let d : Node = record { level = 0; lo = record { 0 = 0 }; hi = record { 0 = 0 } } in
    let s = c.args.self.now in
    let held = c.as_slice.ensures.keys ∙ c.self.invariant.layout ∙ ap entries c.self.view_is in
    ap (λ es. get_or es c.args.position d) held
    ∙ get_or_default (entries s) c.args.position d (constant_entry s.levels) (omega (arith, c.requires))
