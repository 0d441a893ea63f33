-- Binary operations as remembered operations and as choices.
use Rattle.std.proofs.Common.{◌≡◌, ℕ, ◌+◌, ◌*◌, ◌≤◌, inl, inr, Bool, true, false, ◌&&◌, ◌||◌, nat_le, if◌then◌else◌, List, [], ◌∷◌, length, Contains, refl, sym, subst, ◌∙◌, arith}
use Rattle.lru.proofs.Splits.{Contains-cons, Contains-nil}
use Rattle.tm_dd.specs.declared.node.NodeId.{NodeId}
use Rattle.tm_dd.specs.NodeId.{number_of}
use Rattle.tm_dd.specs.Reduced.{IsReduced, Extends}
use Rattle.tm_dd.specs.Table.{Table, Knows, means}
use Rattle.tm_ddops.specs.declared.choice.Choice.{Choice}
use Rattle.tm_ddops.specs.declared.connective.Connective.{Connective}
use Rattle.tm_ddops.specs.declared.connective.Connective.TheVariants.{And, Or, Xor}
use Rattle.tm_ddops.specs.Choice.{IsChoice, IsOpen, choice_value}
use Rattle.tm_ddops.specs.Connective.{connective_choice, connective_operation, connective_value, larger, smaller, xor}
use Rattle.tm_ddops.specs.Manager.{IsFunction, IsResult}
use Rattle.tm_ddops.specs.Inner.Memo.{HasOpen}
use Rattle.tm_ddops.specs.Operation.{operands, operation_value}
use Rattle.tm_ddops.specs.Reached.{IsInnerNodes, RisesByPairs}
use Rattle.tm_ddops.proofs.Facts.{knows-Extends}
use Rattle.tm_ddops.proofs.Pairs.{choice_value-connective, first_inner, second_inner, met_pair, pair_choices, length-pair_choices, Contains-pair_choices}
use Rattle.tm_ddops.proofs.Reach.{has_size, reaches_before}

-- ---- the value in the order that is remembered

and-swap : (a b : Bool) → (a && b) ≡ (b && a)
and-swap true true = refl
and-swap true false = refl
and-swap false true = refl
and-swap false false = refl

or-swap : (a b : Bool) → (a || b) ≡ (b || a)
or-swap true true = refl
or-swap true false = refl
or-swap false true = refl
or-swap false false = refl

xor-swap : (a b : Bool) → xor a b ≡ xor b a
xor-swap true true = refl
xor-swap true false = refl
xor-swap false true = refl
xor-swap false false = refl

-- a function of two ids that does not depend on their order
in_order : {X : Type 0} (h : NodeId → NodeId → X) (f g : NodeId) → h f g ≡ h g f → h (smaller f g) (larger f g) ≡ h f g
in_order h f g swap =
    elim (nat_le (number_of f) (number_of g))
    as (λ b. h (if b then f else g) (if b then g else f) ≡ h f g) [ true ↦ refl | false ↦ sym swap ]

pub operation_value-connective : (s : Table) (c : Connective) (f g : NodeId) (v : ℕ → Bool) →
    operation_value s (connective_operation c f g) v ≡ connective_value c (means s f v) (means s g v)
operation_value-connective s And f g v =
    in_order (λ a b. means s a v && means s b v) f g (and-swap (means s f v) (means s g v))
operation_value-connective s Or f g v =
    in_order (λ a b. means s a v || means s b v) f g (or-swap (means s f v) (means s g v))
operation_value-connective s Xor f g v =
    in_order (λ a b. xor (means s a v) (means s b v)) f g (xor-swap (means s f v) (means s g v))

-- the choice has the value of the operation
pub same_value : (c : Connective) (f g : NodeId) (s : Table) (v : ℕ → Bool) →
    choice_value s (connective_choice c f g) v ≡ operation_value s (connective_operation c f g) v
same_value c f g s v = choice_value-connective s c f g v ∙ sym (operation_value-connective s c f g v)

-- ---- the operands

one_of_two : (P : NodeId → Type 0) (f g h : NodeId) → P f → P g → Contains (f ∷ g ∷ []) h → P h
one_of_two P f g h pf pg c = elim (Contains-cons f (g ∷ []) h c) [
  | inl e ↦ subst P e pf
  | inr rest ↦ elim (Contains-cons g [] h rest) [ inl e ↦ subst P e pg | inr none ↦ absurd (Contains-nil h none) ]
]

ordered_known : (s : Table) (f g : NodeId) → Knows s f → Knows s g → Knows s (smaller f g) × Knows s (larger f g)
ordered_known s f g kf kg =
    elim (nat_le (number_of f) (number_of g))
    as (λ b. Knows s (if b then f else g) × Knows s (if b then g else f)) [ true ↦ (kf, kg) | false ↦ (kg, kf) ]

pub operands_known : (s : Table) (c : Connective) (f g : NodeId) → Knows s f → Knows s g → (h : NodeId) →
    Contains (operands (connective_operation c f g)) h → Knows s h
operands_known s And f g kf kg h c = let k = ordered_known s f g kf kg in
    one_of_two (Knows s) (smaller f g) (larger f g) h k.0 k.1 c
operands_known s Or f g kf kg h c = let k = ordered_known s f g kf kg in
    one_of_two (Knows s) (smaller f g) (larger f g) h k.0 k.1 c
operands_known s Xor f g kf kg h c = let k = ordered_known s f g kf kg in
    one_of_two (Knows s) (smaller f g) (larger f g) h k.0 k.1 c

-- ---- what the result means

pub function_of_result : (s : Table) (c : Connective) (f g id : NodeId) → IsResult s (connective_operation c f g) id →
    IsFunction s id (λ v. connective_value c (means s f v) (means s g v))
function_of_result s c f g id r =
    record { known = r.function.known; meaning = λ v. r.function.meaning v ∙ operation_value-connective s c f g v }

pub function_of_choice : (s : Table) (c : Connective) (f g id : NodeId) → IsChoice s (connective_choice c f g) id →
    IsFunction s id (λ v. connective_value c (means s f v) (means s g v))
function_of_choice s c f g id r =
    record { known = r.known; meaning = λ v. r.meaning v ∙ choice_value-connective s c f g v }

pub result_of_function : (s : Table) (c : Connective) (f g id : NodeId) → Knows s f → Knows s g →
    IsFunction s id (λ v. connective_value c (means s f v) (means s g v)) → IsResult s (connective_operation c f g) id
result_of_function s c f g id kf kg r = record {
  operands_known = operands_known s c f g kf kg;
  function = record { known = r.known; meaning = λ v. r.meaning v ∙ sym (operation_value-connective s c f g v) };
}

-- ---- how many requests

module _ (s t : Table) (reduced : IsReduced s) (reduced-t : IsReduced t) (e : Extends s t) (c : Connective)
    (f g : NodeId) (kf : Knows s f) (kg : Knows s g) where
  has_pairs : (fs gs : List NodeId) → IsInnerNodes s f fs → IsInnerNodes s g gs →
      HasOpen t (connective_choice c f g) (pair_choices c fs gs)
  has_pairs fs gs ff gg m met open_ =
      let pair = met_pair t reduced-t c f g (knows-Extends s t e f kf) (knows-Extends s t e g kg)
      (connective_choice c f g) m refl met in
      let is_open = subst IsOpen pair.4 open_ in
      subst (Contains (pair_choices c fs gs)) (sym pair.4)
      (Contains-pair_choices c fs gs pair.0 pair.1
      (ff.every pair.0 (reaches_before s t reduced e f pair.0 kf pair.2) (first_inner c pair.0 pair.1 is_open))
      (gg.every pair.1 (reaches_before s t reduced e g pair.1 kg pair.3) (second_inner c pair.0 pair.1 is_open)))

  pub rises_by_pairs : (before after : ℕ) →
      ((choices : List Choice) → HasOpen t (connective_choice c f g) choices → after ≤ before + length choices) →
      RisesByPairs s f g before after
  rises_by_pairs before after within =
      let ff = has_size s reduced f kf in
      let gg = has_size s reduced g kg in
      let bound = within (pair_choices c ff.0 gg.0) (has_pairs ff.0 gg.0 ff.1 gg.1) in
      record {
        m = length ff.0;
        n = length gg.0;
        f_size = (ff.0, ff.1, refl);
        g_size = (gg.0, gg.1, refl);
        bound = subst (λ k. after ≤ before + k) (length-pair_choices c ff.0 gg.0) bound;
      }

pub rises_by_none : (s : Table) → IsReduced s → (f g : NodeId) → Knows s f → Knows s g → (n : ℕ) →
    RisesByPairs s f g n n
rises_by_none s reduced f g kf kg n =
    let ff = has_size s reduced f kf in
    let gg = has_size s reduced g kg in
    record {
      m = length ff.0;
      n = length gg.0;
      f_size = (ff.0, ff.1, refl);
      g_size = (gg.0, gg.1, refl);
      bound = add_more n (length ff.0 * length gg.0);
    }
  where
    add_more : (a b : ℕ) → a ≤ a + b
    add_more a b = omega arith

pub one_of_three : (P : NodeId → Type 0) (f g h x : NodeId) → P f → P g → P h → Contains (f ∷ g ∷ h ∷ []) x → P x
one_of_three P f g h x pf pg ph c =
    elim (Contains-cons f (g ∷ h ∷ []) x c) [ inl e ↦ subst P e pf | inr rest ↦ one_of_two P g h x pg ph rest ]
