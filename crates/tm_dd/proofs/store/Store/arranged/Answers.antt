use Rattle.std.proofs.Common.{◌≡◌, List, [], ◌∷◌, ◌++◌, ◌∙◌, ap, drop, length, if◌then◌else◌}
use Rattle.std.specs.List.{list_any}
use Rattle.tm_dd.specs.declared.node.Node.{Node}
use Rattle.tm_dd.specs.Table.{constant_entry}
use Rattle.tm_dd.proofs.Extended.{IsUniqueTable-empty}
use Rattle.tm_dd.proofs.Kept.{node_eq}
use Rattle.tm_dd.proofs.Nodes.{reduced}
use Rattle.tm_dd.proofs.store.Store.arranged.Goals as goal

-- past the first entry there is none
after_first : (ks after : List Node) (n : Node) → ks ≡ [] →
    after ≡ (if list_any (node_eq n) ks then ks else ks ++ n ∷ []) → length (drop 1 after) ≡ 0
after_first ks after n empty e =
    ap (λ l. length (drop 1 l)) (e ∙ ap (λ l. if list_any (node_eq n) l then l else l ++ n ∷ []) empty)

pub returns-clause-reduced : goal.returns-clause-reduced
returns-clause-reduced c =
    reduced _ (IsUniqueTable-empty _ c.requires
    (after_first c.with_hasher-entries.result.keys c.insert.new.self.keys (constant_entry c.args.levels)
    c.with_hasher-entries.ensures.empty c.in_ok-insert.ensures.keys))
