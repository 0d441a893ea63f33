use Rattle.std.proofs.Common.{◌≡◌, None, Some, length, position, find, slice_get, refl, sym, ap, ◌∙◌}
use Rattle.std.proofs.lemmas.Option.{slice_get_read}
use Rattle.std.specs.Option.{option_and_then, option_copied}
use Rattle.tm_scope.proofs.ConstantValues.{has}
use Rattle.tm_scope.proofs.Positions.{find-position, position-below}
use Rattle.tm_scope.proofs.scopes.constants.Constants.enum_of.Goals as goal

pub returns-in_err-number : goal.returns-in_err-number
returns-in_err-number c =
    let is : position (has c.args.name.now) c.self.inside.spec.now.enums.items ≡ None =
    sym (c.find.ensures ∙ c.self.invariant.enum_of c.args.name.now) ∙ c.in_err-number.was in
    ap option_copied c.from_residual.ensures
    ∙ sym (find-position (has c.args.name.now) c.self.inside.spec.now.enums.items
    ∙ ap (option_and_then (slice_get c.self.inside.spec.now.enums.items)) is)
    ∙ ap (λ s. find (has c.args.name.now) s.enums.items) c.self.view_is

pub returns : goal.returns
returns c =
    let is : position (has c.args.name.now) c.self.inside.spec.now.enums.items ≡ Some c.in_ok-number.number =
    sym (c.find.ensures ∙ c.self.invariant.enum_of c.args.name.now) ∙ c.in_ok-number.was in
    sym (find-position (has c.args.name.now) c.self.inside.spec.now.enums.items
    ∙ ap (option_and_then (slice_get c.self.inside.spec.now.enums.items)) is
    ∙ slice_get_read c.self.inside.spec.now.enums.items (length c.self.inside.spec.now.enums.items)
    c.in_ok-number.number c.index.result.now refl
    (position-below (has c.args.name.now) c.self.inside.spec.now.enums.items c.in_ok-number.number is) c.index.ensures)
    ∙ ap (λ s. find (has c.args.name.now) s.enums.items) c.self.view_is
