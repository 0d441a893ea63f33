use Rattle.std.proofs.Common.{◌≡◌, ◌<◌, None, Some, length, position, slice_index_or, refl, sym, ap, ◌∙◌, subst, arith}
use Rattle.std.proofs.lemmas.Option.{slice_get_read}
use Rattle.tm_syntax.specs.Scopes.Names.{constant_value}
use Rattle.tm_syntax.specs.Tree.View.{spec_tree}
use Rattle.tm_scope.proofs.ConstantValues.{has, value_absent, value_found}
use Rattle.tm_scope.proofs.Positions.{position-below}
use Rattle.tm_scope.proofs.scopes.constants.Constants.value.Goals as goal

pub returns-in_err-number : goal.returns-in_err-number
returns-in_err-number c =
    let is : position (has c.args.name.now) c.self.inside.spec.now.enums.items ≡ None =
    sym (c.find.ensures ∙ c.self.invariant.enum_of c.args.name.now) ∙ c.in_err-number.was in
    c.from_residual.ensures
    ∙ sym (value_absent c.args.name.now c.self.inside.spec.now is)
    ∙ ap (λ s. constant_value (spec_tree s) c.args.name.now) c.self.view_is

pub index-requires : goal.index-requires
index-requires c =
    let is : position (has c.args.name.now) c.self.inside.spec.now.enums.items ≡ Some c.in_ok-number.number =
    sym (c.find.ensures ∙ c.self.invariant.enum_of c.args.name.now) ∙ c.in_ok-number.was in
    let kept : c.in_ok-number.number < length c.self.inside.values.items =
    subst (λ es. c.in_ok-number.number < length es) (sym c.self.invariant.each_enum)
    (position-below (has c.args.name.now) c.self.inside.spec.now.enums.items c.in_ok-number.number is) in
    omega arith

pub returns : goal.returns
returns c =
    let is : position (has c.args.name.now) c.self.inside.spec.now.enums.items ≡ Some c.in_ok-number.number =
    sym (c.find.ensures ∙ c.self.invariant.enum_of c.args.name.now) ∙ c.in_ok-number.was in
    c.value.ensures
    ∙ sym (value_found c.args.name.now c.self.inside.spec.now c.in_ok-number.number c.index.result.now is
    (slice_get_read c.self.inside.spec.now.enums.items (length c.self.inside.spec.now.enums.items)
    c.in_ok-number.number c.index.result.now refl
    (position-below (has c.args.name.now) c.self.inside.spec.now.enums.items c.in_ok-number.number is)
    (c.index.ensures ∙ ap (λ es. slice_index_or es c.in_ok-number.number c.index.result.now)
    c.self.invariant.each_enum)))
    ∙ ap (λ s. constant_value (spec_tree s) c.args.name.now) c.self.view_is
