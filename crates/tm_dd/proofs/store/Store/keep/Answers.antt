use Rattle.std.proofs.Common.{◌≡◌, ◌∙◌, Result, Ok, Err, OnErr, if◌then◌else◌, slice_get, List, ◌++◌, ◌∷◌, [], sym, ap, subst}
use Rattle.std.specs.List.{list_any}
use Rattle.tm_dd.specs.declared.node.Node.{Node}
use Rattle.tm_dd.specs.Table.{Table, entries}
use Rattle.tm_dd.specs.Unique.{IsKept, IsUniqueTable}
use Rattle.tm_dd.proofs.Kept.{node_eq, absent, inserted, IsUniqueTable-inserted, IsKept-inserted, entries-inserted, table-inserted}
use Rattle.tm_dd.proofs.store.Store.keep.Goals as goal

OnErr_always : {T E P : Type 0} (r : Result T E) → P → OnErr r P
OnErr_always (Ok x) p = tt
OnErr_always (Err e) p = p

-- the keys after the insert are the entries of the table with the node
keys : (levels : _) (s : Table) (ks after : List Node) (n : Node) → levels ≡ s.levels → ks ≡ entries s →
    after ≡ (if list_any (node_eq n) ks then ks else ks ++ n ∷ [])
    → after ≡ entries (inserted s n)
keys levels s ks after n same held e =
    e ∙ ap (λ l. if list_any (node_eq n) l then l else l ++ n ∷ []) held ∙ sym (entries-inserted s n)

pub returns-in_err-position-clause-absent : goal.returns-in_err-position-clause-absent
returns-in_err-position-clause-absent c =
    let s = c.args.self.now in
    let held = c.self.invariant.layout ∙ ap entries c.self.view_is in
    OnErr_always c.from_residual.result
    (absent s c.args.node (ap (λ l. list_any (node_eq c.args.node) l) (sym held) ∙ c.in_err-position.ensures.absent))

pub invariant_of-self-2 : goal.invariant_of-self-2
invariant_of-self-2 c =
    let s = c.args.self.now in
    let n = c.args.node in
    let levels = ap (λ (t : Table). t.levels) c.self.view_is in
    let ranks = ap (λ (t : Table). t.ranks) c.self.view_is in
    let after = keys c.self.inside.levels s c.self.inside.entries.keys c.insert_full.new.self.keys n levels
    (c.self.invariant.layout ∙ ap entries c.self.view_is) c.in_ok-position.ensures.keys in
    let table = table-inserted s n c.self.inside.levels c.self.inside.ranks.items c.insert_full.new.self.keys levels
    ranks after in
    record {
      layout = after ∙ sym (ap entries table);
      unique = subst IsUniqueTable (sym table)
          (IsUniqueTable-inserted s n (subst IsUniqueTable c.self.view_is c.self.invariant.unique) c.requires);
    }

pub returns-clause-kept : goal.returns-clause-kept
returns-clause-kept c =
    let s = c.args.self.now in
    let n = c.args.node in
    let levels = ap (λ (t : Table). t.levels) c.self.view_is in
    let ranks = ap (λ (t : Table). t.ranks) c.self.view_is in
    let after = keys c.self.inside.levels s c.self.inside.entries.keys c.insert_full.new.self.keys n levels
    (c.self.invariant.layout ∙ ap entries c.self.view_is) c.in_ok-position.ensures.keys in
    let table = table-inserted s n c.self.inside.levels c.self.inside.ranks.items c.insert_full.new.self.keys levels
    ranks after in
    let stored = c.in_ok-position.ensures.stored in
    subst (λ t. IsKept s t n c.in_ok-position.position) (sym table)
    (IsKept-inserted s n c.in_ok-position.position stored.0
    (ap (λ l. slice_get l c.in_ok-position.position) (sym after) ∙ stored.1) stored.2)

pub returns-clause-unique : goal.returns-clause-unique
returns-clause-unique c = (invariant_of-self-2 c).unique
