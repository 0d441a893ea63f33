use Rattle.std.proofs.Common.{◌∷◌, ◌++◌, [], ◌∙◌, ap, if◌then◌else◌}
use Rattle.tm_numbering.proofs.Found.{absent_any}
use Rattle.tm_numbering.proofs.numbering.put.Goals as goal

pub returns-clause-ids : goal.returns-clause-ids
returns-clause-ids c =
    let ids = c.args.kept.now.keys in
    c.in_ok-insert.ensures.keys
    ∙ ap (λ b. if b then ids else ids ++ c.args.id ∷ []) (absent_any c.args.id ids c.requires)
