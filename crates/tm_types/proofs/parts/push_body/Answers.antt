use Rattle.std.proofs.Common.{[], ◌∷◌, refl}
use Rattle.tm_syntax.specs.Scopes.Parts.{body_exprs}
use Rattle.tm_scope.specs.Context.{context_of}
use Rattle.tm_names.specs.Bodies.{body_at}
use Rattle.tm_types.specs.Inner.TextParts.{exprs_of_body}
use Rattle.tm_types.proofs.TextParts.{exprs_at, part_pushed}
use Rattle.tm_types.proofs.parts.push_body.Goals as goal

pub returns : goal.returns
returns c =
    let part = c.args.part in
    part_pushed c.args.parts.now.items c.push.new.self.items _ (body_at part ∷ []) (exprs_of_body (body_at part))
    c.in_ok-push.ensures.items refl
    (exprs_at part.site (context_of part.site) c.in-Ok.given.items (body_exprs (body_at part)) refl
    c.in-Ok.ensures)
