use Rattle.std.proofs.Common.{◌≡◌, ◌<◌, length, get_or, rules, sym, ◌∙◌, subst}
use Rattle.std.specs.Prelude.{IfSome}
use Rattle.tm_syntax.specs.declared.tree.Spec.{Spec}
use Rattle.tm_syntax.specs.Tree.{EnumTree}
use Rattle.tm_syntax.specs.Scopes.Names.{is_spelled}
use Rattle.tm_design.proofs.EnumCounts.{counted, none_counted}
use Rattle.tm_design.proofs.sizes.count_of_constants.Goals as goal

pub returns-in-Some : goal.returns-in-Some
returns-in-Some c =
    let count : c.len.result ≡ length c.index.result.now.constants.items = search rules in
    count
    ∙ sym (counted (λ (e : EnumTree). is_spelled c.args.name.now e.name) c.args.scopes.now.enums.items c.in-Some.number
    c.index.result.now (sym c.enum_number.ensures.number ∙ c.in-Some.is)
    (subst (λ o. IfSome o (λ k. k < length c.args.scopes.now.enums.items)) c.in-Some.is c.enum_number.ensures.within)
    (subst (λ (s : Spec). c.index.result.now ≡ get_or s.enums.items c.in-Some.number c.index.result.now) c.spec.ensures
    c.index.ensures))

pub returns-in-None : goal.returns-in-None
returns-in-None c =
    sym (none_counted (λ (e : EnumTree). is_spelled c.args.name.now e.name) c.args.scopes.now.enums.items
    (sym c.enum_number.ensures.number ∙ c.in-None.is))
