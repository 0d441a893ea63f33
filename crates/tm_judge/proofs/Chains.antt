-- The longest chain of a certificate.
use Rattle.std.proofs.Common.{◌≡◌, ℕ, ◌+◌, ◌<◌, Bool, List, [], ◌∷◌, drop, get_or, length, map, max, refl}
use Rattle.std.proofs.Common.{sym, ap, arith}
use Rattle.std.proofs.lemmas.List.{drop_more, length-map}
use Rattle.tm_cert.specs.Cert.{EnvData, LevelData}
use Rattle.tm_sem.specs.Certificates.{longest_chain, longest_of}
use Rattle.tm_sem.specs.State.{StateData}
use Rattle.tm_verdict.specs.Sets.{level_sets, levels_of, set_of}
use Rattle.tm_syntax.specs.Design.{DesignTree}
use Rattle.tm_judge.specs.Chains.{greatest, longest_in}

module _ {A : Type 0} (size : A → ℕ) (xs : List A) where
  -- one more is counted
  pub greatest_more : (i m n : ℕ) (x : A) → i < length xs → x ≡ get_or xs i x → n ≡ size x →
      max m (greatest size (drop i xs)) ≡ greatest size xs →
      max (max m n) (greatest size (drop (i + 1) xs)) ≡ greatest size xs
  greatest_more i m n x below here is so_far =
      let rest : greatest size (drop i xs) ≡ max (size (get_or xs i x)) (greatest size (drop (i + 1) xs)) =
      ap (greatest size) (drop_more xs i x below) in
      omega (arith, rest, ap size here, is, so_far)

-- the greatest size of things as they are seen, taken over the things themselves
pub greatest_seen : {A B : Type 0} (see : A → B) (size : B → ℕ) (xs : List A) →
    greatest size (map see xs) ≡ greatest (λ x. size (see x)) xs
greatest_seen see size [] = refl
greatest_seen see size (x ∷ xs) = ap (max (size (see x))) (greatest_seen see size xs)

-- chains have as many sets as ids
longest_same : (f : ℕ → StateData → Bool) (chains : List (List ℕ)) →
    greatest length chains ≡ longest_of (map (map f) chains)
longest_same f [] = refl
longest_same f (chain ∷ chains) = λ i. max (sym (length-map chain f) i) (longest_same f chains i)

-- so the longest chain of a certificate is that of its levels
pub longest_told : (d : DesignTree) (c : EnvData) → greatest longest_in c.levels ≡ longest_chain (levels_of d c)
longest_told d c = by c.levels
  where
    by : (levels : List LevelData) →
        greatest longest_in levels ≡ longest_chain (map (level_sets d c.order c.nodes) levels)
    by [] = refl
    by (l ∷ ls) = λ i. max (longest_same (set_of d c.order c.nodes) l.chains i) (by ls i)

-- lists that are seen otherwise have as many things
pub lengths_seen : {A B : Type 0} (size : A → ℕ) (see : A → List B) → ((x : A) → size x ≡ length (see x)) →
    (xs : List A) → map size xs ≡ map length (map see xs)
lengths_seen size see same [] = refl
lengths_seen size see same (x ∷ xs) = λ i. same x i ∷ lengths_seen size see same xs i
