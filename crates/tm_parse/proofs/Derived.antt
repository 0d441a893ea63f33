-- What is derived within the limit was read: tokens, names, paths and types.
use Rattle.std.proofs.Common.{◌≡◌, ℕ, ◌+◌, ◌≤◌, Option, Some, List, length, ap, subst, arith}
use Rattle.tm_base.specs.declared.place.Place.{Place}
use Rattle.tm_syntax.specs.declared.token.Token.{Token}
use Rattle.tm_syntax.specs.declared.token.TokenKind.{TokenKind}
use Rattle.tm_syntax.specs.declared.token.TokenKind.TheVariants as token
use Rattle.tm_syntax.specs.declared.token.Sign.{Sign}
use Rattle.tm_syntax.specs.declared.token.Sign.TheVariants as sign
use Rattle.tm_syntax.specs.declared.tree.Ident.{Ident}
use Rattle.tm_syntax.specs.declared.tree.Num.{Num}
use Rattle.tm_syntax.specs.declared.tree.TypeName.{TypeName}
use Rattle.tm_syntax.specs.Grammar.Parts.{Has, IsMark, IsName, IsNumber, IsPath, AreParted, parted_one, parted_more}
use Rattle.tm_syntax.specs.Grammar.Statements.{IsType, type_bool, type_uint, type_name}
use Rattle.tm_parse.specs.Reading.{Reach, all_but, IsBound, first_kind, Takes, Nothing, IsOpening, GoesBy, GoesOn}
use Rattle.tm_parse.proofs.Arguments.{other_kind}
use Rattle.tm_parse.proofs.Lists.{SoFar, so_far_one, so_far_more, so_far_all}
use Rattle.tm_parse.proofs.Names.{name_has, taken_name, taken_number}
use Rattle.tm_parse.proofs.Terminals.{mark_kind, mark_has, has_kind, taken_mark, taken_opening, without_place}
use Rattle.tm_parse.proofs.Types.{taken_bool, taken_uint, taken_type_name, taken_width}

-- the limit reaches each token
abbrev pub near : Reach
near = all_but 0

pub derived_mark : {k : TokenKind} {p : Place} {a b : List Token} → IsMark k p a b → Takes (λ _. IsMark k) Nothing p a b
derived_mark {k} {a} {b} m =
    subst (λ q. Takes (λ _. IsMark k) Nothing q a b) m.here (taken_mark m.first m.whole m.is)

pub derived_has : {k : TokenKind} {a b : List Token} (m : Has k a b) → Takes (λ _. IsMark k) Nothing m.first.place a b
derived_has m = taken_mark m.first m.whole m.is

-- a first token stands within the limit
pub near_low : {k : TokenKind} {a b : List Token} (depth : ℕ) → Has k a b → IsBound near a depth → depth ≤ 128
near_low depth m w = w (let same = ap length m.whole in omega arith)

pub derived_opening : {k : TokenKind} {a b : List Token} (depth : ℕ) (m : Has k a b) → IsBound near a (depth + 1) →
    Takes (IsOpening k depth) Nothing m.first.place a b
derived_opening depth m w = taken_opening depth (derived_has m) (let low = near_low (depth + 1) m w in omega arith)

pub derived_mark_opening : {k : TokenKind} {p : Place} {a b : List Token} (depth : ℕ) → IsMark k p a b →
    IsBound near a (depth + 1) → Takes (IsOpening k depth) Nothing p a b
derived_mark_opening depth m w =
    taken_opening depth (derived_mark m) (let low = near_low (depth + 1) (mark_has m) w in omega arith)

pub derived_name : {text : List ℕ} {n : Ident} {a b : List Token} → IsName text n a b →
    Takes (λ _. IsName text) Nothing n a b
derived_name n = taken_name n.first n.whole n.is n.here n.bytes

pub derived_number : {text : List ℕ} {n : Num} {a b : List Token} → IsNumber text n a b →
    Takes (λ _. IsNumber text) Nothing n a b
derived_number n = taken_number n.first n.whole n.is n.here n.value

-- forms with a sign between two
pub derived_parted : {X : Type 0} {by : Sign} {Is : Reach → X → List Token → List Token → Type 0}
    {Goes : Option TokenKind → Type 0} {xs : List X} {a b : List Token} → ¬ Goes (Some (token.Sign by)) →
    ((x : X) (c d : List Token) → Is near x c d → ¬ Goes (first_kind d) → Takes Is Goes x c d) →
    ¬ Goes (first_kind b) → AreParted by (Is near) xs a b → SoFar by Is Goes xs a b
derived_parted parts each stop (parted_one is) = so_far_one parts (each _ _ _ is stop)
derived_parted {Goes} parts each stop (parted_more front m last) =
    so_far_more parts (derived_parted parts each (λ goes. parts (subst Goes (has_kind m) goes)) front)
    (without_place (derived_has m)) (each _ _ _ last stop)

pub derived_names : {text : List ℕ} {by : Sign} {names : List Ident} {a b : List Token} → ¬ GoesBy by (first_kind b) →
    AreParted by (IsName text) names a b → Takes (λ _. AreParted by (IsName text)) (GoesOn by Nothing) names a b
derived_names {text} ended are =
    so_far_all ended (derived_parted {Is = λ _. IsName text} {Goes = Nothing} (λ none. none)
    (λ x c d is stop. derived_name is) (λ none. none) are)

pub derived_path : {text : List ℕ} {names : List Ident} {a b : List Token} →
    ¬ (first_kind b ≡ Some (token.Sign sign.Dot)) → IsPath text names a b →
    Takes (λ _. IsPath text) (GoesOn sign.Dot Nothing) names a b
derived_path ended p = derived_names ended p

pub derived_type : {text : List ℕ} {ty : TypeName} {a b : List Token} → IsType text ty a b →
    Takes (λ _. IsType text) Nothing ty a b
derived_type (type_bool m) = taken_bool (mark_kind m) (derived_mark m)
derived_type (type_uint m l n g) =
    taken_uint (mark_kind m) (derived_mark m) (taken_width (derived_has l) (derived_number n) (derived_has g))
derived_type {a} (type_name n) =
    taken_type_name a (λ kind. let kinds = other_kind (has_kind (name_has n)) kind in cc)
    (λ kind. let kinds = other_kind (has_kind (name_has n)) kind in cc) (derived_name n)
