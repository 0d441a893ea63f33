use Rattle.std.proofs.Common.{Some, find, sym, ap, ◌∙◌, arith}
use Rattle.std.specs.List.{list_any}
use Rattle.std.specs.Option.{option_copied, option_map}
use Rattle.tm_syntax.specs.declared.design.Ty.TheVariants as types
use Rattle.tm_syntax.specs.declared.tree.EnumDef.{EnumDef}
use Rattle.tm_syntax.specs.Scopes.Names.{is_spelled}
use Rattle.tm_syntax.specs.Scopes.Types.{constant_type}
use Rattle.tm_syntax.specs.Tree.View.{spec_tree}
use Rattle.tm_scope.specs.Types.{ty_of}
use Rattle.tm_scope.proofs.OwnTypes.{constant_type-found}
use Rattle.tm_scope.proofs.PathSteps.{one_name}
use Rattle.tm_scope.proofs.scopes.body_scope.BodyScope.constant_type.Goals as goal

pub returns-in_err-def : goal.returns-in_err-def
returns-in_err-def c =
    let s = c.self.inside.scopes.now in
    ap (option_map ty_of) c.from_residual.ensures
    ∙ sym (ap (constant_type (spec_tree s))
    (one_name c.args.path.now c.name-item.result (omega arith) (omega arith) c.name-item.is)
    ∙ constant_type-found s c.name-item.result
    ∙ ap (option_map (λ (e : EnumDef). types.Enum e.name.text))
    (ap (λ n. find (λ (e : EnumDef). list_any (is_spelled n) e.constants.items) s.enums.items) (sym c.as_bytes.ensures)
    ∙ sym c.enum_of.ensures ∙ ap option_copied c.in_err-def.was))
    ∙ ap (λ at. constant_type (spec_tree at.spec) c.args.path.now) c.self.view_is

pub returns : goal.returns
returns c =
    let s = c.self.inside.scopes.now in
    ap (λ n. Some (types.Enum n)) c.as_bytes-2.ensures
    ∙ sym (ap (constant_type (spec_tree s))
    (one_name c.args.path.now c.name-item.result (omega arith) (omega arith) c.name-item.is)
    ∙ constant_type-found s c.name-item.result
    ∙ ap (option_map (λ (e : EnumDef). types.Enum e.name.text))
    (ap (λ n. find (λ (e : EnumDef). list_any (is_spelled n) e.constants.items) s.enums.items) (sym c.as_bytes.ensures)
    ∙ sym c.enum_of.ensures ∙ ap option_copied c.in_ok-def.was))
    ∙ ap (λ at. constant_type (spec_tree at.spec) c.args.path.now) c.self.view_is
