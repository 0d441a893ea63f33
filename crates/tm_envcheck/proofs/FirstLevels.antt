-- Levels that are loaded one behind the other.
use Rattle.std.proofs.Common.{◌≡◌, ◌⊎◌, inl, inr, ℕ, zero, suc, ◌+◌, ◌<◌, ◌≤◌, List, [], ◌∷◌, ◌++◌, Some, length, refl, sym, ap, ◌∙◌, subst, arith}
use Rattle.std.specs.Prelude.{slice_get}
use Rattle.std.specs.Option.{option_map_or}
use Rattle.std.proofs.lemmas.List.{get_or_append_left, get_or_at, length_push}
use Rattle.std.proofs.lemmas.Option.{slice_get-get_or, slice_get_within}
use Rattle.tm_cert.specs.Cert.{LevelData}
use Rattle.tm_dd.specs.declared.node.NodeId.{NodeId}
use Rattle.tm_dd.specs.declared.node.TheConstants.{FALSE}
use Rattle.tm_envcheck.specs.declared.levels.LevelDiagrams.{LevelDiagrams}
use Rattle.tm_envcheck.specs.Inner.Loaded.{AreLoadedLevels, IsLoadedLevel, before_at}
use Rattle.tm_envcheck.specs.Inner.Over.{AreLevelsOver, IsLevelOver}
use Rattle.tm_game.specs.Game.{GameData}

-- an item of a list with one more is one of before, or the new one
pushed : {A : Type 0} (xs : List A) (y : A) (k : ℕ) (z : A) → slice_get (xs ++ y ∷ []) k ≡ Some z →
    (slice_get xs k ≡ Some z) ⊎ ((k ≡ length xs) × (y ≡ z))
pushed [] y zero z is = let same : y ≡ z = cc in inr (refl, same)
pushed [] y (suc k) z is = absurd (cc)
pushed (x ∷ xs) y zero z is = inl is
pushed (x ∷ xs) y (suc k) z is = up (pushed xs y k z is)
  where
    up : (slice_get xs k ≡ Some z) ⊎ ((k ≡ length xs) × (y ≡ z)) →
        (slice_get xs k ≡ Some z) ⊎ ((suc k ≡ suc (length xs)) × (y ≡ z))
    up (inl h) = inl h
    up (inr h) = inr (ap suc h.0, h.1)

-- the set of the level before one stays where a level is put behind it
before_push : (told : List LevelDiagrams) (next : LevelDiagrams) (k : ℕ) → k ≤ length told →
    before_at (told ++ next ∷ []) k ≡ before_at told k
before_push told next zero low = refl
before_push told next (suc k) low =
    let below : k < length told = omega (arith, low) in
    ap (λ o. option_map_or (λ (l : LevelDiagrams). l.set) o FALSE)
    (slice_get-get_or (told ++ next ∷ []) k next (omega (arith, below, length_push told next))
    ∙ ap Some (get_or_append_left told (next ∷ []) next k below)
    ∙ sym (slice_get-get_or told k next below))

-- the last of some levels
pub last_pushed : (told : List LevelDiagrams) (next : LevelDiagrams) →
    before_at (told ++ next ∷ []) (length (told ++ next ∷ [])) ≡ next.set
last_pushed told next = at (length (told ++ next ∷ [])) (length_push told next)
  where
    at : (n : ℕ) → n ≡ length told + 1 → before_at (told ++ next ∷ []) n ≡ next.set
    at zero none = absurd (omega (arith, none))
    at (suc k) some =
        let here : k ≡ length told = omega (arith, some) in
        ap (λ o. option_map_or (λ (l : LevelDiagrams). l.set) o FALSE)
        (slice_get-get_or (told ++ next ∷ []) k next (omega (arith, here, length_push told next))
        ∙ ap Some (get_or_at told next [] next k (sym here)))

pub no_levels : (ids : List NodeId) → AreLoadedLevels ids [] []
no_levels ids = record {
  count = refl;
  each = λ k level l is there. absurd (cc);
  before = λ k l there. absurd (cc);
}

pub none_over : (g : GameData) → AreLevelsOver g []
none_over g k l there = absurd (cc)

module _ (told : List LevelDiagrams) (next : LevelDiagrams) where
  pub over_push : (g : GameData) → AreLevelsOver g told → IsLevelOver g next → AreLevelsOver g (told ++ next ∷ [])
  over_push g are is k l there = by (pushed told next k l there)
    where
      by : (slice_get told k ≡ Some l) ⊎ ((k ≡ length told) × (next ≡ l)) → IsLevelOver g l
      by (inl earlier) = are k l earlier
      by (inr last) = subst (IsLevelOver g) last.1 is

  -- one level more
  pub loaded_push : (ids : List NodeId) (levels : List LevelData) (level : LevelData) →
      AreLoadedLevels ids levels told → IsLoadedLevel ids level next → next.before ≡ before_at told (length told) →
      AreLoadedLevels ids (levels ++ level ∷ []) (told ++ next ∷ [])
  loaded_push ids levels level are is lower = record {
    count = omega (arith, length_push told next, length_push levels level, are.count);
    each = λ k other l of there. one k other l (pushed levels level k other of) (pushed told next k l there);
    before = λ k l there. lower_of k l (pushed told next k l there);
  }
    where
      one : (k : ℕ) (other : LevelData) (l : LevelDiagrams) →
          (slice_get levels k ≡ Some other) ⊎ ((k ≡ length levels) × (level ≡ other)) →
          (slice_get told k ≡ Some l) ⊎ ((k ≡ length told) × (next ≡ l)) → IsLoadedLevel ids other l
      one k other l (inl of) (inl there) = are.each k other l of there
      one k other l (inr of) (inr there) =
          subst (λ (one : LevelData). IsLoadedLevel ids one l) of.1
          (subst (λ (m : LevelDiagrams). IsLoadedLevel ids level m) there.1 is)
      one k other l (inl of) (inr there) =
          absurd (let within = slice_get_within levels k other of in omega (arith, within, are.count, there.0))
      one k other l (inr of) (inl there) =
          absurd (let within = slice_get_within told k l there in omega (arith, within, are.count, of.0))

      lower_of : (k : ℕ) (l : LevelDiagrams) →
          (slice_get told k ≡ Some l) ⊎ ((k ≡ length told) × (next ≡ l)) →
          l.before ≡ before_at (told ++ next ∷ []) k
      lower_of k l (inl there) =
          are.before k l there
          ∙ sym (before_push told next k (let within = slice_get_within told k l there in omega (arith, within)))
      lower_of k l (inr there) =
          ap (λ (m : LevelDiagrams). m.before) (sym there.1)
          ∙ lower
          ∙ ap (before_at told) (sym there.0)
          ∙ sym (before_push told next k (omega (arith, there.0)))
