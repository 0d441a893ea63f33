-- The enums of a text have constants: by the grammar, each form at a time.
use Rattle.std.proofs.Common.{ℕ, ◌<◌, List, [], ◌∷◌, ◌++◌, length, arith}
use Rattle.std.specs.Prelude.{IfSome}
use Rattle.std.specs.List.{AllByRecursion}
use Rattle.std.proofs.lemmas.List.{length-append}
use Rattle.tm_syntax.specs.declared.token.Token.{Token}
use Rattle.tm_syntax.specs.declared.token.Sign.{Sign}
use Rattle.tm_syntax.specs.Tree.{EnumTree, SpecTree}
use Rattle.tm_syntax.specs.Grammar.Parts.{AreEach, each_none, each_more, AreParted, parted_one, parted_more}
use Rattle.tm_syntax.specs.Grammar.Specification.{enum, ItemTree, enum_of, IsItem, item_enum, item_template, IsSpec, spec}
use Rattle.tm_syntax.specs.Grammar.Faults.{IsWithin}
use Rattle.tm_syntax.specs.Faults.{IsOfText}
use Rattle.tm_typing.proofs.Listed.{all_join, holds_in, filter_map_holds}

-- an enum has a constant
abbrev pub IsFilled : EnumTree → Type 0
IsFilled e = 0 < length e.constants

-- so has an item, if it is one
abbrev ItemIsFilled : ItemTree → Type 0
ItemIsFilled i = IfSome (enum_of i) IsFilled

-- of forms with a sign between there is one or more
some_parted : {X : Type 0} {by : Sign} {Is : X → List Token → List Token → Type 0} (xs : List X) (a b : List Token) →
    AreParted by Is xs a b → 0 < length xs
some_parted _ a b (parted_one _) = omega arith
some_parted _ a b (parted_more {xs = xs} {x = x} more _ _) =
    let both = length-append xs (x ∷ []) in omega (arith, both)

module _ (text : List ℕ) (May : List Token → ℕ → Type 0) where
  item_filled : (i : ItemTree) (a b : List Token) → IsItem text May 0 i a b → ItemIsFilled i
  item_filled _ a b (item_enum (enum {constants = cs} {d = p} {e = q} _ _ _ _ xs _ _ _)) = some_parted cs p q xs
  item_filled _ a b (item_template _) = tt

  items_filled : (is : List ItemTree) (a b : List Token) → AreEach (IsItem text May 0) is a b →
      AllByRecursion ItemIsFilled is
  items_filled _ a b each_none = tt
  items_filled _ a b (each_more {xs = is} {x = i} {a = p} {b = q} {c = r} more one) =
      all_join ItemIsFilled is (i ∷ []) (items_filled is p q more) (item_filled i q r one, tt)

  spec_filled : (x : SpecTree) (a b : List Token) → IsSpec text May x a b → AllByRecursion IsFilled x.enums
  spec_filled _ a b (spec {items = is} {last = i} {a = p} {b = q} {c = r} xs x) =
      let all = all_join ItemIsFilled is (i ∷ []) (items_filled is p q xs) (item_filled i q r x, tt) in
      filter_map_holds IsFilled enum_of (is ++ i ∷ []) (λ y j. holds_in ItemIsFilled (is ++ i ∷ []) all j)

pub enums_filled : (x : SpecTree) → IsOfText x → AllByRecursion IsFilled x.enums
enums_filled x of = spec_filled of.text (IsWithin 0) x of.tokens [] of.is_tree
