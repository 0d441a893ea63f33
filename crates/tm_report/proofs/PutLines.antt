-- The lines of an outcome, put one after another.
use Rattle.std.proofs.Common.{◌≡◌, ℕ, zero, suc, ◌<◌, Result, Ok, Err, List, [], ◌∷◌, ◌++◌, length, take, drop, get_or}
use Rattle.std.proofs.Common.{min, sym, ap, subst, ◌∙◌, arith, append_assoc}
use Rattle.std.specs.Prelude.{OnOk, OnErr}
use Rattle.std.specs.List.{flat_map}
use Rattle.std.proofs.lemmas.List.{take_min, take-append-le}
use Rattle.tm_base.specs.Sink.{AppendsPrefix}
use Rattle.tm_play.proofs.Putting.{cut_more}

-- a line that was put is the same line
pub ok_as : {T E : Type 0} (r : Result T E) (P : Type 0) (line text before now : List ℕ) → line ≡ text →
    OnOk r (P → now ≡ before ++ line) → OnOk r (P → now ≡ before ++ text)
ok_as (Ok x) P line text before now is put = λ p. put p ∙ ap (λ t. before ++ t) is
ok_as (Err e) P line text before now is put = tt

-- what was put of one line before an error was put of the same line
pub err_as : {T E : Type 0} (r : Result T E) (P : Type 0) (line text before now : List ℕ) → line ≡ text →
    OnErr r (P → AppendsPrefix line before now) → OnErr r (P → AppendsPrefix text before now)
err_as r P line text before now is cut =
    subst (λ (t : List ℕ). OnErr r (P → AppendsPrefix t before now)) is cut

-- some first part of a text is one of a longer text
pub cut_longer : (before now text rest : List ℕ) → AppendsPrefix text before now →
    AppendsPrefix (text ++ rest) before now
cut_longer before now text rest part = (
  min part.0 (length text),
  part.1 ∙ ap (λ t. before ++ t)
      (sym (take_min part.0 text) ∙ sym (take-append-le (min part.0 (length text)) text rest (omega arith))),
)

-- the parts of a list, joined, split at one of them
pub split_at : {A : Type 0} (f : A → List ℕ) (xs : List A) (i : ℕ) (d : A) (line : List ℕ) → i < length xs →
    line ≡ f (get_or xs i d) →
    flat_map f xs ≡ (flat_map f (take i xs) ++ line) ++ flat_map f (drop (suc i) xs)
split_at f [] i d line within is = absurd (omega arith)
split_at f (y ∷ ys) zero d line within is = ap (λ z. z ++ flat_map f ys) (sym is)
split_at f (y ∷ ys) (suc i) d line within is =
    ap (λ z. f y ++ z) (split_at f ys i d line (omega arith) is)
    ∙ sym (append_assoc (f y) (flat_map f (take i ys) ++ line) (flat_map f (drop (suc i) ys)))
    ∙ ap (λ z. z ++ flat_map f (drop (suc i) ys)) (sym (append_assoc (f y) (flat_map f (take i ys)) line))

-- several parts were put, and some first part of the next one
pub cut_within : {A : Type 0} (f : A → List ℕ) (xs : List A) (i : ℕ) (d : A) (line before mid now : List ℕ) →
    i < length xs → line ≡ f (get_or xs i d) →
    mid ≡ before ++ flat_map f (take i xs) → AppendsPrefix line mid now → AppendsPrefix (flat_map f xs) before now
cut_within f xs i d line before mid now within is whole cut =
    subst (λ t. AppendsPrefix t before now) (sym (split_at f xs i d line within is))
    (cut_longer before now (flat_map f (take i xs) ++ line) (flat_map f (drop (suc i) xs))
    (cut_more before mid now (flat_map f (take i xs)) line whole cut))
