-- Rows of tokens that are given but for the numbers of labels and constants.
use Rattle.std.specs.Prelude.{◌≡◌, ℕ, List, [], ◌∷◌, ◌++◌}
use Rattle.tm_cir.specs.Text.Token.{Token, label, constant}
use Rattle.tm_cparse.specs.declared.row.Slot.{Slot}
use Rattle.tm_cparse.specs.declared.row.Slot.TheVariants as slots
use Rattle.tm_cparse.specs.declared.spot.Spot.{Spot}
use Rattle.tm_cparse.specs.declared.spot.Stop.{Stop}
use Rattle.tm_cparse.specs.View.{token_tree}
use Rattle.tm_cparse.specs.Inner.Reading.{IsMissing, IsNoLabel, IsNoConstant}

-- a row with these numbers, and what follows it
abbrev pub IsRow : List Slot → List ℕ → List Token → List Token → Type 0
IsRow [] ns tokens rest = (ns ≡ []) × (tokens ≡ rest)
IsRow (slots.Given t ∷ ss) ns tokens rest = (more : List Token) × (tokens ≡ token_tree t ∷ more) × IsRow ss ns more rest
IsRow (slots.Label ∷ ss) ns tokens rest =
    (n : ℕ) × (ms : List ℕ) × (more : List Token) × (ns ≡ n ∷ ms) × (tokens ≡ label n ∷ more) × IsRow ss ms more rest
IsRow (slots.Constant ∷ ss) ns tokens rest =
    (n : ℕ) × (ms : List ℕ) × (more : List Token) × (ns ≡ n ∷ ms) × (tokens ≡ constant n ∷ more)
    × IsRow ss ms more rest

-- a token of a row, whose number, if it has one, is put behind the others
abbrev pub IsSlot : Slot → List ℕ → List ℕ → List Token → List Token → Type 0
IsSlot (slots.Given t) old new tokens rest = (new ≡ old) × (tokens ≡ token_tree t ∷ rest)
IsSlot slots.Label old new tokens rest = (n : ℕ) × (new ≡ old ++ n ∷ []) × (tokens ≡ label n ∷ rest)
IsSlot slots.Constant old new tokens rest = (n : ℕ) × (new ≡ old ++ n ∷ []) × (tokens ≡ constant n ∷ rest)

-- nothing was taken, since no such token stands in front
abbrev pub IsNoSlot : Slot → List Spot → Stop → Type 0
IsNoSlot (slots.Given t) spots stop = IsMissing (token_tree t) spots stop
IsNoSlot slots.Label spots stop = IsNoLabel spots stop
IsNoSlot slots.Constant spots stop = IsNoConstant spots stop

-- what is left of a row whose first numbers were read
pub record IsRowLeft (ss : List Slot) (ns : List ℕ) (all : List ℕ) (tokens rest : List Token) : Type 0 where
  pub others : List ℕ
  pub whole : all ≡ ns ++ others
  pub is : IsRow ss others tokens rest
