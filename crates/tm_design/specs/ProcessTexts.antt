-- Where the processes of a design stand in its text.
use Rattle.tm_syntax.specs.Design.{DesignTree}
use Rattle.tm_syntax.specs.Design.Locations.{Thread}
use Rattle.tm_syntax.specs.Design.Scope.{Site}
use Rattle.tm_syntax.specs.Scopes.Parts.{BodyAt}

-- the body of a process of an instance, where it stands in the text
abbrev pub process_text : DesignTree → Site → Thread → BodyAt
process_text d s t = record {
  context = record { spec = d.spec; template = s.template; body = t.scope.body };
  body = t.process.body;
}
