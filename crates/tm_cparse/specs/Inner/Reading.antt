-- What a reader has shown of the tokens that it read. A form is a relation between a tree, the tokens that begin with
-- it, and those left behind it.
use Rattle.std.specs.Prelude.{◌≡◌, ◌≢◌, ℕ, ◌<◌, Option, Some, None, List, [], ◌∷◌, ◌++◌}
use Rattle.tm_cir.specs.Text.Token.{Token, label, constant}
use Rattle.tm_cparse.specs.declared.spot.Spot.{Spot}
use Rattle.tm_cparse.specs.declared.spot.Stop.{Stop}
use Rattle.tm_cparse.specs.declared.spot.Stop.TheVariants.{Unexpected, Memory}
use Rattle.tm_cparse.specs.View.{tokens_of}

-- the first token
abbrev pub first_of : List Token → Option Token
first_of [] = None
first_of (t ∷ ts) = Some t

-- the form is refused at the first token of `here`: what was taken before it can be completed to the form, and no form
-- goes on with that token
pub record IsBlocked {X : Type 0} (Is : X → List Token → List Token → Type 0) (tokens here : List Token) : Type 0 where
  pub front : List Token
  pub whole : tokens ≡ front ++ here
  pub more : List Token
  pub completes : (behind : List Token) → (x : X) × Is x (front ++ (more ++ behind)) behind
  pub stuck : (x : X) (other rest : List Token) → first_of other ≡ first_of here → ¬ Is x (front ++ other) rest

-- why a reader of the form stopped
abbrev pub IsRefused : {X : Type 0} → (X → List Token → List Token → Type 0) → List Token → Stop → Type 0
IsRefused Is tokens (Unexpected here) = IsBlocked Is tokens (tokens_of here.now)
IsRefused Is tokens Memory = Unit {0}

-- some tokens were taken, and `Or` is what is left of the form: where it follows them the whole is the form, and each
-- form that goes on with the next token is so
pub record Moves {X : Type 0} (Is Or : X → List Token → List Token → Type 0) (tokens rest : List Token) : Type 0 where
  pub front : List Token
  pub whole : tokens ≡ front ++ rest
  pub to : (x : X) (other after : List Token) → first_of other ≡ first_of rest → Is x (front ++ other) after →
      Or x other after
  pub from : (x : X) (other after : List Token) → Or x other after → Is x (front ++ other) after

-- nothing was taken, since this token does not stand in front
abbrev pub IsMissing : Token → List Spot → Stop → Type 0
IsMissing t spots (Unexpected here) = (here.now ≡ spots) × (first_of (tokens_of spots) ≢ Some t)
IsMissing t spots Memory = Unit {0}

-- the number of a label, and the value of a constant
abbrev pub label_number : Token → Option ℕ
label_number (label k) = Some k
label_number _ = None

-- the value of a constant
abbrev pub constant_value : Token → Option ℕ
constant_value (constant n) = Some n
constant_value _ = None

-- nothing was taken, since no label stands in front
abbrev pub IsNoLabel : List Spot → Stop → Type 0
IsNoLabel spots (Unexpected here) = (here.now ≡ spots) × ((k : ℕ) → first_of (tokens_of spots) ≢ Some (label k))
IsNoLabel spots Memory = Unit {0}

-- nothing was taken, since no constant stands in front
abbrev pub IsNoConstant : List Spot → Stop → Type 0
IsNoConstant spots (Unexpected here) = (here.now ≡ spots) × ((n : ℕ) → first_of (tokens_of spots) ≢ Some (constant n))
IsNoConstant spots Memory = Unit {0}

-- nothing was taken, since no constant below 64 stands in front
abbrev pub IsNoAmount : List Spot → Stop → Type 0
IsNoAmount spots (Unexpected here) =
    (here.now ≡ spots) × ((n : ℕ) → n < 64 → first_of (tokens_of spots) ≢ Some (constant n))
IsNoAmount spots Memory = Unit {0}
