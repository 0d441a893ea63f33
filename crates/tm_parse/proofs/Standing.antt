-- A token stands as deep as a scan of the tokens before it knows.
use Rattle.std.proofs.Common.{◌≡◌, ℕ, suc, ◌<◌, ◌≤◌, ◌⊎◌, inl, inr, Option, Some, None, List, [], ◌∷◌, ◌++◌, length, refl, sym, ap, ◌∙◌, subst, arith, append_assoc, le_refl, lt_of_not-le}
use Rattle.tm_syntax.specs.declared.token.Token.{Token}
use Rattle.tm_syntax.specs.Tree.{SpecTree}
use Rattle.tm_syntax.specs.Grammar.Specification.{IsSpec}
use Rattle.tm_syntax.specs.Grammar.Faults.{Anywhere, IsTooDeep}
use Rattle.tm_parse.specs.Standing.{StandsNowhere, Stands, StandsAt}
use Rattle.tm_parse.proofs.Loosen.{loosen_spec}
use Rattle.tm_parse.proofs.Scanned.{was_asked, was_known, depth_behind}
use Rattle.tm_parse.proofs.ScannedDecls.{scan_spec}

-- the depth that a scan knows of a token is asked of it
asked : {text : List ℕ} {May : List Token → ℕ → Type 0} {tree : SpecTree} (front behind : List Token) (t : Token) →
    IsSpec text May tree (front ++ t ∷ behind) [] → (n : ℕ) → depth_behind front t ≡ Some n → May (t ∷ behind) n
asked front behind t is n deep = was_asked front behind t refl (omega arith) (scan_spec is).1.here n deep

-- what holds of the depth that a scan knows of a token holds of each that is asked of it
answers : {text : List ℕ} {May : List Token → ℕ → Type 0} {tree : SpecTree} (front behind : List Token) (t : Token)
    (P : ℕ → Type 0) → IsSpec text May tree (front ++ t ∷ behind) [] →
    ((n : ℕ) → depth_behind front t ≡ Some n → P n) →
    IsSpec text (λ a n. length a ≡ suc (length behind) → P n) tree (front ++ t ∷ behind) []
answers front behind t P is holds =
    (loosen_spec (λ a n le k left. holds n (was_known front behind t refl left k))
    (le_refl (length (front ++ t ∷ behind))) (scan_spec is).0).0

-- a token that stands at a depth stands at the one that a scan knows
stands_known : {text : List ℕ} {tree : SpecTree} (front behind : List Token) (t : Token) {depth : ℕ} →
    Stands text tree front t behind depth → depth_behind front t ≡ Some depth
stands_known front behind t {depth} s = go (depth_behind front t) refl
  where
    go : (d : Option ℕ) → depth_behind front t ≡ d → depth_behind front t ≡ Some depth
    go None none =
        absurd (s.somewhere (answers front behind t (λ n. ⊥) s.only
        (λ n deep. let never : None ≡ Some n = sym none ∙ deep in cc)))
    go (Some n) deep = deep ∙ ap Some (asked front behind t s.only n deep refl)

known_stands : {text : List ℕ} {May : List Token → ℕ → Type 0} {tree : SpecTree} (front behind : List Token)
    (t : Token) {depth : ℕ} → IsSpec text May tree (front ++ t ∷ behind) [] → depth_behind front t ≡ Some depth →
    Stands text tree front t behind depth
known_stands front behind t {depth} is known = record {
  only = answers front behind t (λ n. n ≡ depth) is
      (λ n deep. let depths : Some n ≡ Some depth = sym deep ∙ known in cc);
  somewhere = λ free. asked front behind t free depth known refl;
}

-- texts that agree up to and with a token have it at one depth
pub one_depth : {text other : List ℕ} {tree also : SpecTree} (front behind after : List Token) (t : Token)
    {depth deep : ℕ} → Stands text tree front t behind depth → Stands other also front t after deep → depth ≡ deep
one_depth front behind after t {depth} {deep} s r =
    let depths : Some depth ≡ Some deep = sym (stands_known front behind t s) ∙ stands_known front after t r in
    cc

-- a token stands at a depth or at none
pub stands_or_not : {text : List ℕ} {tree : SpecTree} (front behind : List Token) (t : Token) →
    IsSpec text Anywhere tree (front ++ t ∷ behind) [] →
    StandsNowhere text tree front t behind ⊎ ((depth : ℕ) × Stands text tree front t behind depth)
stands_or_not {text} {tree} front behind t is = go (depth_behind front t) refl
  where
    go : (d : Option ℕ) → depth_behind front t ≡ d →
        StandsNowhere text tree front t behind ⊎ ((depth : ℕ) × Stands text tree front t behind depth)
    go None none =
        inl (answers front behind t (λ n. ⊥) is (λ n deep. let never : None ≡ Some n = sym none ∙ deep in cc))
    go (Some n) deep = inr (n, known_stands front behind t is deep)

-- what holds of a token in one text holds in the other
pub none_stand : {text other : List ℕ} {tree also : SpecTree} (front behind after : List Token) (t : Token) →
    StandsNowhere text tree front t behind → IsSpec other Anywhere also (front ++ t ∷ after) [] →
    StandsNowhere other also front t after
none_stand front behind after t free is =
    answers front after t (λ n. ⊥) is (λ n deep. asked front behind t free n deep refl)

pub both_stand : {text other : List ℕ} {tree also : SpecTree} (front behind after : List Token) (t : Token)
    {depth : ℕ} → Stands text tree front t behind depth → IsSpec other Anywhere also (front ++ t ∷ after) [] →
    Stands other also front t after depth
both_stand front behind after t s is = known_stands front after t is (stands_known front behind t s)

-- a token is too deep exactly where it stands deeper than the limit
anywhere : {text : List ℕ} {May : List Token → ℕ → Type 0} {tree : SpecTree} {a : List Token} →
    IsSpec text May tree a [] → IsSpec text Anywhere tree a []
anywhere {a} is = (loosen_spec (λ b n le may. tt) (le_refl (length a)) is).0

pub deep_fault : {text : List ℕ} {front : List Token} {t : Token} {depth : ℕ} → StandsAt text front t depth →
    128 < depth → IsTooDeep text front t
deep_fault {text} {front} {t} {depth} s above = record {
  continues = record {
    behind = s.0;
    tree = s.1;
    spec = subst (λ l. IsSpec text Anywhere s.1 l []) (sym (append_assoc front (t ∷ []) s.0)) (anywhere s.2.only);
  };
  refused = λ behind tree is.
      let low : depth ≤ 128 = asked front behind t is depth (stands_known front s.0 t s.2) refl in
      omega arith;
}

pub fault_deep : {text : List ℕ} {front : List Token} {t : Token} → IsTooDeep text front t →
    (depth : ℕ) × StandsAt text front t depth × (128 < depth)
fault_deep {text} {front} {t} fault = go (depth_behind front t) refl
  where
    on : List Token
    on = fault.continues.behind

    is : IsSpec text Anywhere fault.continues.tree (front ++ t ∷ on) []
    is = subst (λ l. IsSpec text Anywhere fault.continues.tree l []) (append_assoc front (t ∷ []) on)
        fault.continues.spec

    go : (d : Option ℕ) → depth_behind front t ≡ d → (depth : ℕ) × StandsAt text front t depth × (128 < depth)
    go None none =
        absurd (fault.refused on fault.continues.tree (answers front on t (λ n. n ≤ 128) is
        (λ n deep. let never : None ≡ Some n = sym none ∙ deep in absurd (cc))))
    go (Some n) deep = (
      n,
      (on, fault.continues.tree, known_stands front on t is deep),
      lt_of_not-le (λ low. fault.refused on fault.continues.tree (answers front on t (λ m. m ≤ 128) is
          (λ m found.
          let depths : Some n ≡ Some m = sym deep ∙ found in
          let one : n ≡ m = cc in
          omega arith))),
    )
