-- What the code's bodies are as plain data.
use Rattle.std.specs.Prelude.{List, map}
use Rattle.tm_syntax.specs.Tree.View.{body_tree}
use Rattle.tm_syntax.specs.Scopes.Parts.{BodyAt}
use Rattle.tm_scope.specs.Context.{context_of}
use Rattle.tm_names.specs.declared.parts.bodies.BodyPart.{BodyPart}

-- a body where it stands
abbrev pub body_at : BodyPart → BodyAt
body_at p = record { context = context_of p.site; body = body_tree p.body.now }

-- several bodies
abbrev pub all_bodies : List BodyPart → List BodyAt
all_bodies ps = map body_at ps
