use Rattle.std.proofs.Common.{List, [], ◌∷◌, map, sym, ap, ◌∙◌, subst, arith}
use Rattle.std.proofs.lemmas.List.{map-append}
use Rattle.tm_cparse.specs.View.{tokens_of}
use Rattle.tm_cparse.specs.Inner.Reading.{Moves}
use Rattle.tm_cparse.proofs.Moves.{stays, moves_then}
use Rattle.tm_struct_parse.specs.declared.draft.NamedDraft.{NamedDraft}
use Rattle.tm_struct_parse.specs.View.{named_tree}
use Rattle.tm_struct_parse.specs.Inner.Forms.{IsProgram}
use Rattle.tm_struct_parse.proofs.Forms.{refused_behind}
use Rattle.tm_struct_parse.proofs.Programs.{function_moved, function_refused}
use Rattle.tm_struct_parse.proofs.program.functions.Goals as goal

pub loop-behind-init : goal.loop-behind-init
loop-behind-init c = (
  subst
      (λ (l : List NamedDraft).
      Moves (IsProgram []) (IsProgram (map named_tree l)) (tokens_of c.args.spots.now) (tokens_of c.args.spots.now))
      (sym c.new-functions.ensures.items) (stays (IsProgram []) (tokens_of c.args.spots.now)),
  omega arith,
)

pub returns-in-Err-clause-refused : goal.returns-in-Err-clause-refused
returns-in-Err-clause-refused c =
    refused_behind c.loop-behind.invariant.0 _
    (function_refused (map named_tree c.loop-behind.functions.items) (tokens_of c.loop-behind.rest.now)
    (tokens_of c.in-Some.behind.now) _ c.in-Some.ensures.whole c.in-Err.ensures.refused)

pub loop-behind-preserved : goal.loop-behind-preserved
loop-behind-preserved c = (
  moves_then c.loop-behind.invariant.0
      (subst
      (λ (l : List _).
      Moves (IsProgram (map named_tree c.loop-behind.functions.items)) (IsProgram l)
      (tokens_of c.loop-behind.rest.now) (tokens_of c.in-Ok.read.1.now))
      (sym
      (ap (map named_tree) c.in_ok-push.ensures.items
      ∙ map-append named_tree c.loop-behind.functions.items (c.in-Ok.read.0 ∷ [])))
      (function_moved (map named_tree c.loop-behind.functions.items) (named_tree c.in-Ok.read.0)
      (tokens_of c.loop-behind.rest.now) (tokens_of c.in-Some.behind.now) (tokens_of c.in-Ok.read.1.now)
      c.in-Some.ensures.whole c.in-Ok.ensures.taken)),
  omega (arith, c.in-Some.ensures.shorter, c.in-Ok.ensures.shorter, c.loop-behind.invariant.1),
)

pub returns-clause-taken : goal.returns-clause-taken
returns-clause-taken c =
    record { moves = c.loop-behind.invariant.0; ends = c.in_default.ensures.whole }
