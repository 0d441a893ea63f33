use Rattle.std.proofs.Common.{◌≡◌, sym, ap, ◌∙◌}
use Rattle.std.specs.Option.{option_map}
use Rattle.tm_syntax.specs.Scopes.Declared as text
use Rattle.tm_syntax.specs.Places.{earlier}
use Rattle.tm_names.specs.Sorts.{declared_of, first_declared}
use Rattle.tm_names.specs.ScopeNames.{found, later_mark}
use Rattle.tm_names.proofs.Repeats.{first_later, noted_within}
use Rattle.tm_names.proofs.scopes.scope.note.Goals as goal

pub returns : goal.returns
returns c = λ ds within.
    let d : text.Declared = declared_of c.args.declared in
    let spelled : c.as_bytes-name.result.now ≡ d.name.text = c.as_bytes-name.ensures in
    let before : option_map declared_of c.find_within-other.result ≡ first_declared ds d.name.text =
    c.find_within-other.ensures
    ∙ within c.as_bytes-name.result.now
    ∙ ap (first_declared ds) spelled in (
      noted_within (found c.put.new.self.first.entries) (found c.args.inner.now.first.entries)
          (found c.args.outer.now.first.entries) d (declared_of c.earlier_declared.result) c.as_bytes-name.result.now ds
          spelled c.in_ok-put.ensures
          (c.earlier_declared.ensures ∙ ap (earlier (λ (x : text.Declared). x.name.place) d) before) within,
      c.repeat_of.ensures ∙ ap (option_map (later_mark d)) before ∙ sym (first_later d ds),
    )
