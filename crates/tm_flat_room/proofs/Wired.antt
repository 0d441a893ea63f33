-- The instances of a sound text are declared with arguments that fit.
use Rattle.std.proofs.Common.{◌≡◌, suc, true, List, [], ◌∷◌, codes, length, refl, subst, arith, nat_eq}
use Rattle.std.proofs.lemmas.Bool.Decides.{nat_tests}
use Rattle.std.specs.List.{AllZip, AllByRecursion}
use Rattle.tm_syntax.specs.declared.tree.Ident.{Ident}
use Rattle.tm_syntax.specs.declared.tree.Port.{Port}
use Rattle.tm_syntax.specs.Tree.{InstanceTree, TemplateTree, SpecTree}
use Rattle.tm_syntax.specs.Scopes.Names.{is_spelled}
use Rattle.tm_flat.specs.Wiring.{AreWired, IsWired}
use Rattle.tm_typing.proofs.Listed.{all_hold, of_find, one_thing}
use Rattle.tm_locations.proofs.TextArguments.{AreArguments, HasArguments, IsJoined, Suits, has-arguments, main-portless}

-- as many arguments as ports, each for the port at its place
zipped : (spec : SpecTree) (t : TemplateTree) (ports : List Port) (args : List Ident) →
    nat_eq (length ports) (length args) ≡ true → AreArguments spec t ports args →
    AllZip (λ (a : Ident) (p : Port). Suits spec t p a) args ports
zipped spec t [] [] count each = tt
zipped spec t [] (a ∷ args) count each = absurd (grind (arith, nat_tests))
zipped spec t (p ∷ ports) [] count each = absurd (grind (arith, nat_tests))
zipped spec t (p ∷ ports) (a ∷ args) count each =
    let first = each 0 p refl in (
      subst (Suits spec t p) (one_thing first.1 refl) first.2,
      zipped spec t ports args (grind (arith, nat_tests)) (λ k q at. each (suc k) q at),
    )

pub are_wired : (spec : SpecTree) → IsJoined spec → AreWired spec
are_wired spec f = record {
  main = λ t named.
      let there = of_find (λ (t : TemplateTree). is_spelled (codes "main") t.name) spec.templates named in
      main-portless spec f t there.0 there.1;
  instances = all_hold (λ (t : TemplateTree). AllByRecursion (IsWired spec t) t.instances) spec.templates
      (λ t i. all_hold (IsWired spec t) t.instances (λ n j. wired t n (has-arguments spec f t i n j)));
}
  where
    wired : (t : TemplateTree) (n : InstanceTree) → HasArguments spec t n → IsWired spec t n
    wired t n has u named =
        let same : has.of ≡ u = one_thing has.is named in
        subst (λ (v : TemplateTree). AllZip (λ (a : Ident) (p : Port). Suits spec t p a) n.args v.ports) same
        (zipped spec t has.of.ports n.args has.count has.args)
