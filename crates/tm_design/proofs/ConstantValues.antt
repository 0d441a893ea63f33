-- The value of an enum constant is one of its type, and its name is a word where those of all constants are. The values
-- of a type fit its bits.
use Rattle.std.proofs.Common.{◌≡◌, ℕ, zero, suc, ◌+◌, ◌-◌, ◌^◌, ◌<◌, ◌≤◌, Bool, true, false, cond, Option, None, Some, List, [], ◌∷◌, ◌++◌, ◌⊎◌, inl, inr, map, length, append_assoc, refl, sym, ap, ◌∙◌, subst, arith, true≢false}
use Rattle.std.specs.Prelude.{not, slice_get, position, find, is_some, nat_lt, unwrap_or, ◌||◌}
use Rattle.std.specs.Option.{option_map, option_and_then, option_map_or}
use Rattle.std.specs.List.{AllByRecursion, filter_map, flat_map, cons_option, list_any, position_or_len, range_with_len}
use Rattle.std.proofs.lemmas.Bool.{ltb-true}
use Rattle.tm_syntax.specs.declared.tree.Ident.{Ident}
use Rattle.tm_syntax.specs.declared.design.Ty.{Ty}
use Rattle.tm_syntax.specs.declared.design.Ty.TheVariants as types
use Rattle.tm_syntax.specs.Tokens.{IsWordLike}
use Rattle.tm_syntax.specs.Tree.{EnumTree, TemplateTree, SpecTree}
use Rattle.tm_syntax.specs.Scopes.Names.{is_spelled, constant_value}
use Rattle.tm_syntax.specs.Scopes.Types.{constant_type}
use Rattle.tm_syntax.specs.Scopes.Declared.{a_constant, an_enum, a_template, Declared, declared, text_names}
use Rattle.tm_syntax.specs.Design.Sizes.{type_size, bits_of_number, type_bits}
use Rattle.tm_syntax.specs.Faults.Names.{repeats}
use Rattle.tm_scope.proofs.ConstantValues.{is_some-position}
use Rattle.tm_scope.proofs.Positions.{position-below}
use Rattle.tm_typing.proofs.Declaring.{spelled, same_spelling, alike_back}
use Rattle.tm_typing.proofs.Listed.{In, first_of, later_of, is_first_or_later, in_front, in_flat, of_find, found_in, holds_in, one_thing, no_thing}
use Rattle.tm_typing.proofs.Words.{IsWord, EnumWords}
use Rattle.tm_design.proofs.Once.{behind_once, apart}

-- a number of 64 bits that another one reaches is below 2 to the power of that one's bits
reached : (count low v n : ℕ) → v ≤ n → v < 2 ^ (low + count) →
    v < 2 ^ (low + position_or_len (λ c. nat_lt n (2 ^ c)) (range_with_len low count))
reached zero low v n most below = below
reached (suc count) low v n most below = by (nat_lt n (2 ^ low)) refl (reached count (low + 1) v n most shifted)
  where
    shifted : v < 2 ^ (low + 1 + count)
    shifted = let same : low + suc count ≡ low + 1 + count = omega arith in subst (λ k. v < 2 ^ k) same below

    by : (b : Bool) → nat_lt n (2 ^ low) ≡ b →
        v < 2 ^ (low + 1 + position_or_len (λ c. nat_lt n (2 ^ c)) (range_with_len (low + 1) count)) →
        v < 2 ^ (low + cond (not b) (1 + position_or_len (λ c. nat_lt n (2 ^ c)) (range_with_len (low + 1) count)) 0)
    by true e rest =
        let same : low ≡ low + 0 = omega arith in
        let less : n < 2 ^ low = ltb-true n (2 ^ low) e in
        subst (λ k. v < 2 ^ k) same (omega (arith, less, most))
    by false e rest =
        let more = position_or_len (λ c. nat_lt n (2 ^ c)) (range_with_len (low + 1) count) in
        let same : low + 1 + more ≡ low + (1 + more) = omega arith in
        subst (λ k. v < 2 ^ k) same rest

below_bits : (v n : ℕ) → v ≤ n → v < 2 ^ 64 → v < 2 ^ bits_of_number n
below_bits v n most small = reached 63 1 v n most small

-- a value of a type, if it is a number of 64 bits, is below 2 to the power of the type's bits
pub value_below_bits : (spec : SpecTree) (ty : Ty) (v : ℕ) → v < type_size spec ty → v < 2 ^ 64 →
    v < 2 ^ type_bits spec ty
value_below_bits spec types.Bool v less small = less
value_below_bits spec (types.Uint n) v less small = less
value_below_bits spec (types.Enum name) v less small =
    below_bits v (type_size spec (types.Enum name) - 1) (omega (arith, less)) small

-- the value of a constant stands in the first enum that has it
first_value : (name : List ℕ) (es : List EnumTree) →
    slice_get (filter_map (λ e. position (is_spelled name) e.constants) es) 0
    ≡ option_and_then (λ (e : EnumTree). position (is_spelled name) e.constants)
    (find (λ (e : EnumTree). list_any (is_spelled name) e.constants) es)
first_value name [] = refl
first_value name (e ∷ es) =
    by (position (is_spelled name) e.constants) (list_any (is_spelled name) e.constants) refl
    (is_some-position (is_spelled name) e.constants) (first_value name es)
  where
    by : (o : Option ℕ) (b : Bool) → position (is_spelled name) e.constants ≡ o → is_some o ≡ b →
        slice_get (filter_map (λ e. position (is_spelled name) e.constants) es) 0
        ≡ option_and_then (λ (e : EnumTree). position (is_spelled name) e.constants)
        (find (λ (e : EnumTree). list_any (is_spelled name) e.constants) es) →
        slice_get (cons_option o (filter_map (λ e. position (is_spelled name) e.constants) es)) 0
        ≡ option_and_then (λ (e : EnumTree). position (is_spelled name) e.constants)
        (cond b (Some e) (find (λ (e : EnumTree). list_any (is_spelled name) e.constants) es))
    by (Some k) true at is rest = sym at
    by None false at is rest = rest
    by (Some k) false at is rest = absurd (true≢false is)
    by None true at is rest = absurd (true≢false (sym is))

-- an enum and its constants, as the text declares them
abbrev enum_names : EnumTree → List Declared
enum_names e = declared an_enum e.name ∷ map (declared a_constant) e.constants

-- two enums of one name are one
same_enums : (es : List EnumTree) (behind : List Declared) (d e : EnumTree) →
    repeats (flat_map enum_names es ++ behind) ≡ [] → In d es → In e es → is_spelled d.name.text e.name ≡ true → d ≡ e
same_enums [] behind d e once i j same = elim i [ ]
same_enums (x ∷ es) behind d e once i j same =
    by (is_first_or_later es i) (is_first_or_later es j)
    (same_enums es behind d e (behind_once (enum_names x) (flat_map enum_names es ++ behind) whole))
  where
    whole : repeats (enum_names x ++ (flat_map enum_names es ++ behind)) ≡ []
    whole = ap repeats (sym (append_assoc (enum_names x) (flat_map enum_names es) behind)) ∙ once

    of_first : {X : Type 0} (y : EnumTree) → In y es → is_spelled x.name.text y.name ≡ true → X
    of_first y k e =
        apart (declared an_enum x.name) (declared an_enum y.name) (enum_names x) (flat_map enum_names es ++ behind)
        whole first_of (in_front (flat_map enum_names es) behind (in_flat enum_names es k first_of)) e

    by : (x ≡ d) ⊎ In d es → (x ≡ e) ⊎ In e es →
        (In d es → In e es → is_spelled d.name.text e.name ≡ true → d ≡ e) → d ≡ e
    by (inl is) (inl be) deeper = sym is ∙ be
    by (inl is) (inr l) deeper =
        of_first e l (subst (λ (y : EnumTree). is_spelled y.name.text e.name ≡ true) (sym is) same)
    by (inr k) (inl be) deeper =
        of_first d k
        (alike_back d.name x.name (subst (λ (y : EnumTree). is_spelled d.name.text y.name ≡ true) (sym be) same))
    by (inr k) (inr l) deeper = deeper k l same

-- something passes where anything does
one_passes : {X : Type 0} (p : X → Bool) (xs : List X) → list_any p xs ≡ true → (x : X) × In x xs × (p x ≡ true)
one_passes p [] e = absurd (true≢false (sym e))
one_passes {X} p (x ∷ xs) e = by (p x) refl e (one_passes p xs)
  where
    by : (b : Bool) → p x ≡ b → b || list_any p xs ≡ true →
        (list_any p xs ≡ true → (y : X) × In y xs × (p y ≡ true)) → (y : X) × In y (x ∷ xs) × (p y ≡ true)
    by true is some deeper = (x, first_of, is)
    by false is some deeper = let found = deeper some in (found.0, later_of found.1, found.2)

module _ (spec : SpecTree) (name : Ident) (ty : Ty) (is : constant_type spec (name ∷ []) ≡ Some ty) where
  -- the enum that has a constant
  record HasConstant : Type 0 where
    enum : EnumTree
    found : find (λ (e : EnumTree). list_any (is_spelled name.text) e.constants) spec.enums ≡ Some enum
    ty_is : types.Enum enum.name.text ≡ ty

  has_constant : HasConstant
  has_constant = by (find (λ (e : EnumTree). list_any (is_spelled name.text) e.constants) spec.enums) refl is
    where
      by : (o : Option EnumTree) →
          find (λ (e : EnumTree). list_any (is_spelled name.text) e.constants) spec.enums ≡ o →
          option_map (λ (e : EnumTree). types.Enum e.name.text) o ≡ Some ty → HasConstant
      by None at e = no_thing e
      by (Some e) at same = record { enum = e; found = at; ty_is = one_thing refl same }

  -- it is a word where all constants are
  pub constant_word : AllByRecursion EnumWords spec.enums → IsWordLike name.text
  constant_word words =
      let c = has_constant in
      let there = of_find (λ (e : EnumTree). list_any (is_spelled name.text) e.constants) spec.enums c.found in
      let x = one_passes (is_spelled name.text) c.enum.constants there.1 in
      subst IsWordLike (sym (spelled name.text x.0 x.2))
      (holds_in IsWord c.enum.constants (holds_in EnumWords spec.enums words there.0) x.1)

  -- its value is one of its type
  pub constant_in_type : repeats (text_names spec) ≡ [] →
      unwrap_or (constant_value spec name.text) 0 < type_size spec ty
  constant_in_type once = by (position (is_spelled name.text) c.enum.constants) refl
    where
      c : HasConstant
      c = has_constant

      there : In c.enum spec.enums × (list_any (is_spelled name.text) c.enum.constants ≡ true)
      there = of_find (λ (e : EnumTree). list_any (is_spelled name.text) e.constants) spec.enums c.found

      valued : constant_value spec name.text ≡ position (is_spelled name.text) c.enum.constants
      valued =
          first_value name.text spec.enums
          ∙ ap (option_and_then (λ (e : EnumTree). position (is_spelled name.text) e.constants)) c.found

      -- the type has as many values as the enum has constants
      size : type_size spec (types.Enum c.enum.name.text) ≡ length c.enum.constants
      size =
          let first = found_in (λ (e : EnumTree). is_spelled c.enum.name.text e.name) spec.enums there.0
          (same_spelling c.enum.name.text) in
          let passes = of_find (λ (e : EnumTree). is_spelled c.enum.name.text e.name) spec.enums first.1 in
          let one = same_enums spec.enums (map (λ (t : TemplateTree). declared (a_template t) t.name) spec.templates)
          c.enum first.0 once there.0 passes.0 passes.1 in
          ap (λ o. option_map_or (λ (e : EnumTree). length e.constants) o 0) (first.1 ∙ ap Some (sym one))

      by : (o : Option ℕ) → position (is_spelled name.text) c.enum.constants ≡ o →
          unwrap_or (constant_value spec name.text) 0 < type_size spec ty
      by None at =
          absurd (true≢false (sym there.1
          ∙ sym (is_some-position (is_spelled name.text) c.enum.constants) ∙ ap is_some at))
      by (Some k) at =
          let value : unwrap_or (constant_value spec name.text) 0 ≡ k = ap (λ o. unwrap_or o 0) (valued ∙ at) in
          let few : k < length c.enum.constants = position-below (is_spelled name.text) c.enum.constants k at in
          subst (λ n. n < type_size spec ty) (sym value)
          (subst (λ t. k < type_size spec t) c.ty_is (subst (λ n. k < n) (sym size) few))
