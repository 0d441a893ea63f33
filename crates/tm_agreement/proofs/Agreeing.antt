-- Sets that agree, and lists of such.
use Rattle.std.proofs.Common.{◌≡◌, ℕ, zero, suc, ◌+◌, Bool, cond, not, ◌||◌, Some, List, [], ◌∷◌, length, slice_get, refl, sym, ap, ◌∙◌, subst}
use Rattle.std.specs.Option.{option_map_or}
use Rattle.std.specs.List.{AllByRecursion, AllZip, list_any, position_or_len}
use Rattle.tm_agreement.specs.Agreement.{Agree}
use Rattle.tm_sem.specs.Certificates.{IsIn}
use Rattle.tm_syntax.specs.Design.{DesignTree}
use Rattle.tm_sem.specs.Forcing.{Forced, by_driver, by_environment, Keeps, Leads, errs, lands}
use Rattle.tm_sem.specs.declared.state.Move.{Move}
use Rattle.tm_sem.specs.declared.state.Outcome.{Outcome}
use Rattle.tm_sem.specs.declared.state.Outcome.TheVariants.{Next}
use Rattle.tm_sem.specs.State.{StateData}
use Rattle.tm_sem.specs.Step.{IsState, LeadsToState, Step}

-- ---- lists of pairs
pub zip_flip : {A B : Type 0} (R : A → B → Type 0) (S : B → A → Type 0) → ((x : A) (y : B) → R x y → S y x) →
    (xs : List A) (ys : List B) → AllZip R xs ys → AllZip S ys xs
zip_flip R S flip [] [] all = tt
zip_flip R S flip [] (y ∷ ys) all = absurd all
zip_flip R S flip (x ∷ xs) [] all = absurd all
zip_flip R S flip (x ∷ xs) (y ∷ ys) all = (flip x y all.0, zip_flip R S flip xs ys all.1)

pub zip_length : {A B : Type 0} (R : A → B → Type 0) (xs : List A) (ys : List B) → AllZip R xs ys →
    length xs ≡ length ys
zip_length R [] [] all = refl
zip_length R [] (y ∷ ys) all = absurd all
zip_length R (x ∷ xs) [] all = absurd all
zip_length R (x ∷ xs) (y ∷ ys) all = ap (λ n. suc n) (zip_length R xs ys all.1)

-- what stands beside an item of the second list
pub zip_at : {A B : Type 0} (R : A → B → Type 0) (xs : List A) (ys : List B) (k : ℕ) (y : B) → AllZip R xs ys →
    slice_get ys k ≡ Some y → (x : A) × (slice_get xs k ≡ Some x) × R x y
zip_at R [] [] k y all is = absurd (cc)
zip_at R [] (z ∷ ys) k y all is = absurd all
zip_at R (x ∷ xs) [] k y all is = absurd all
zip_at {A = A} {B = B} R (x ∷ xs) (z ∷ ys) zero y all is =
    let same : z ≡ y = cc in (x, refl, subst (λ (w : B). R x w) same all.0)
zip_at R (x ∷ xs) (z ∷ ys) (suc k) y all is = zip_at R xs ys k y all.1 is

-- what is told of the items at a place
pub zip_told : {A B C : Type 0} (R : A → B → Type 0) (f : A → C) (g : B → C) (none : C) →
    ((x : A) (y : B) → R x y → f x ≡ g y) → (xs : List A) (ys : List B) (k : ℕ) → AllZip R xs ys →
    option_map_or f (slice_get xs k) none ≡ option_map_or g (slice_get ys k) none
zip_told R f g none same [] [] k all = refl
zip_told R f g none same [] (y ∷ ys) k all = absurd all
zip_told R f g none same (x ∷ xs) [] k all = absurd all
zip_told R f g none same (x ∷ xs) (y ∷ ys) zero all = same x y all.0
zip_told R f g none same (x ∷ xs) (y ∷ ys) (suc k) all = zip_told R f g none same xs ys k all.1

pub zip_position : {A B : Type 0} (R : A → B → Type 0) (p : A → Bool) (q : B → Bool) →
    ((x : A) (y : B) → R x y → p x ≡ q y) → (xs : List A) (ys : List B) → AllZip R xs ys →
    position_or_len p xs ≡ position_or_len q ys
zip_position R p q same [] [] all = refl
zip_position R p q same [] (y ∷ ys) all = absurd all
zip_position R p q same (x ∷ xs) [] all = absurd all
zip_position R p q same (x ∷ xs) (y ∷ ys) all =
    let rest = zip_position R p q same xs ys all.1 in
    λ i. cond (not (same x y all.0 i)) (1 + rest i) 0

pub zip_any : {A B : Type 0} (R : A → B → Type 0) (p : A → Bool) (q : B → Bool) →
    ((x : A) (y : B) → R x y → p x ≡ q y) → (xs : List A) (ys : List B) → AllZip R xs ys →
    list_any p xs ≡ list_any q ys
zip_any R p q same [] [] all = refl
zip_any R p q same [] (y ∷ ys) all = absurd all
zip_any R p q same (x ∷ xs) [] all = absurd all
zip_any R p q same (x ∷ xs) (y ∷ ys) all =
    let rest = zip_any R p q same xs ys all.1 in
    λ i. same x y all.0 i || rest i

pub all_weaker : {A : Type 0} (P Q : A → Type 0) → ((x : A) → P x → Q x) → (xs : List A) → AllByRecursion P xs →
    AllByRecursion Q xs
all_weaker P Q weaker [] all = tt
all_weaker P Q weaker (x ∷ xs) all = (weaker x all.0, all_weaker P Q weaker xs all.1)

module _ (d : DesignTree) where
  -- ---- sets
  pub agree_flip : (a b : StateData → Bool) → Agree d a b → Agree d b a
  agree_flip a b agree = record { same = λ s is. sym (agree.same s is) }

  pub in_other : (a b : StateData → Bool) → Agree d a b → (s : StateData) → IsIn d a s → IsIn d b s
  in_other a b agree s within = (within.0, sym (agree.same s within.0) ∙ within.1)

  -- ---- steps into sets
  pub leads_more : (a b : StateData → Type 0) (s : StateData) (move : Move) →
      ((choices : List ℕ) (t : StateData) → Step d s move choices (Next t) → a t → b t) → Leads d a s move →
      Leads d b s move
  leads_more a b s move more (errs choices step) = errs choices step
  leads_more a b s move more (lands choices t step into) = lands choices t step (more choices t step into)

  pub forced_more : (a b : StateData → Type 0) (s : StateData) → ((t : StateData) → a t → b t) → Forced d a s →
      Forced d b s
  forced_more a b s more (by_environment move other leads) =
      by_environment move other (leads_more a b s move (λ choices t step. more t) leads)
  forced_more a b s more (by_driver turn each) =
      by_driver turn (λ move allowed. leads_more a b s move (λ choices t step. more t) (each move allowed))

  pub keeps_more : (a b : StateData → Type 0) (s : StateData) (move : Move) →
      ((choices : List ℕ) (t : StateData) → Step d s move choices (Next t) → a t → b t) → Keeps d a s move →
      Keeps d b s move
  keeps_more a b s move more keeps = record {
    no_error = keeps.no_error;
    ends_within = λ choices t step. more choices t step (keeps.ends_within choices t step);
  }

  -- each step from a valid state leads to a valid one
  abbrev pub Steady : Type 0
  Steady =
      (s : StateData) (move : Move) (choices : List ℕ) (o : Outcome) → IsState d s → Step d s move choices o →
      LeadsToState d o

  pub ends_valid : Steady → (s t : StateData) (move : Move) (choices : List ℕ) → IsState d s →
      Step d s move choices (Next t) → IsState d t
  ends_valid steady s t move choices is step = steady s move choices (Next t) is step
