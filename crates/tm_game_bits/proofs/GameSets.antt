-- What the calls of a game make, from the calls that they make.
use Rattle.std.proofs.Common.{◌≡◌, ◌⊎◌, inl, inr, ℕ, ◌+◌, ◌<◌, ◌≤◌, true, false, ◌&&◌, ◌||◌, not, List, [], ◌∷◌, length, get_or, map, sym, ap, subst, ⊎_elim, ◌∙◌, arith}
use Rattle.std.specs.Prelude.{Any}
use Rattle.std.proofs.lemmas.Bool.{cases_lt}
use Rattle.std.proofs.lemmas.List.{get_or-map, length-map}
use Rattle.std.proofs.lemmas.List.Elements.{All-map, at_read}
use Rattle.tm_dd.specs.declared.node.NodeId.{NodeId}
use Rattle.tm_dd.specs.declared.node.TheConstants.{FALSE}
use Rattle.tm_dd.specs.NodeId.{complement}
use Rattle.tm_dd.specs.Reduced.{Extends}
use Rattle.tm_dd.specs.Table.{Table, Knows, means}
use Rattle.tm_dd.proofs.CallerLaws.{Extends-trans, Knows-complement, means-FALSE, means-complement}
use Rattle.tm_ddops.specs.Manager.{IsFunction}
use Rattle.tm_ddops.specs.Operation.{substituted}
use Rattle.tm_game_bits.specs.declared.step.StepDiagrams.{StepDiagrams}
use Rattle.tm_game_bits.specs.declared.game.GameDiagrams.{GameDiagrams}
use Rattle.tm_game_bits.specs.Functions.{Assignment, Function, GameFunctions, StepFunctions, after}
use Rattle.tm_game_bits.specs.Forcing.{Forced, IsCalm, IsGood, IsGoodForSome, IsLegalMove, Keeps, Stays}
use Rattle.tm_game_bits.specs.Diagrams.{IsSetOf, KnowsGame, KnowsStep, changes_of, game_of, step_of}
use Rattle.tm_game_bits.specs.Inner.Loops.{HasGoodBelow, IsCalmBelow}
use Rattle.tm_game_bits.proofs.Either.{forced_or_stays, not_forced}
use Rattle.tm_game_bits.proofs.Extended.{IsSetOf-Extends, after-changes_of, game_of-Extends, means-Extends, step_of-Extends}
use Rattle.tm_game_bits.proofs.Leading.{true_or_false}
use Rattle.tm_game_bits.proofs.Sets.{IsSetOf-and, IsSetOf-not, IsSetOf-same}
use Rattle.tm_game_bits.proofs.StepSets.{and_is, or_is}

-- ---- the step with its arguments

pub legal_move_is : (s t u : Table) → Extends s t → Extends t u → (g : GameDiagrams) → KnowsGame s g →
    (step : StepDiagrams) (set good id : NodeId) →
    IsSetOf t (IsGood (means s g.turn) (means s set) (step_of s step)) good →
    IsFunction u id (λ v. means u g.valid v && means u good v) →
    IsSetOf u (IsLegalMove (game_of s g) (means s set) (step_of s step)) id
legal_move_is s t u a b g known step set good id in_t is =
    let Good = IsGood (means s g.turn) (means s set) (step_of s step) in
    IsSetOf-same u (λ v. (means s g.valid v ≡ true) × Good v)
    (IsLegalMove (game_of s g) (means s set) (step_of s step)) id (λ v h. record { valid = h.0; good = h.1 })
    (λ v h. (h.valid, h.good)) (and_is s t u a b Good g.valid good id known.valid in_t is)

-- ---- the steps of the environment

-- before the first one
pub rests_is : (s t u : Table) → Extends s t → Extends t u → (g : GameDiagrams) → KnowsGame s g →
    (set stuttered id : NodeId) → Knows s set →
    IsFunction t stuttered (λ v. means t set (substituted t g.stutter.items v)) →
    IsFunction u id (λ v. means u g.valid v && means u stuttered v) →
    IsSetOf u (IsCalmBelow s (game_of s g) (means s set) g.environment.items 0) id
rests_is s t u a b g known set stuttered id set_known in_t is =
    let Rests : Assignment → Type 0 = λ v. means s set (after (changes_of s g.stutter.items) v) ≡ true in
    let moved : (v : Assignment) → after (changes_of s g.stutter.items) v ≡ substituted t g.stutter.items v = λ v.
    ap (λ (f : GameFunctions). after f.stutter v) (sym (game_of-Extends s t a g known))
    ∙ after-changes_of t g.stutter.items v in
    let value : (v : Assignment) → means t stuttered v ≡ means s set (after (changes_of s g.stutter.items) v) = λ v.
    in_t.meaning v ∙ a.same_meaning set set_known (substituted t g.stutter.items v)
    ∙ ap (means s set) (sym (moved v)) in
    let rests : IsSetOf t Rests stuttered = record {
      known = in_t.known;
      only = λ v h. sym (value v) ∙ h;
      all = λ v h. value v ∙ h;
    } in
    IsSetOf-same u (λ v. (means s g.valid v ≡ true) × Rests v)
    (IsCalmBelow s (game_of s g) (means s set) g.environment.items 0) id
    (λ v h. record { valid = h.0; stutter = h.1; each = λ k d below. absurd (omega (arith, below)) })
    (λ v h. (h.valid, h.stutter)) (and_is s t u a b Rests g.valid stuttered id known.valid rests is)

-- a step keeps in a set
abbrev KeptBy : Table → Function → Assignment → StepDiagrams → Type 0
KeptBy s within v step = Keeps (step_of s step) within v

-- one more
pub calm_more : (s t u : Table) → Extends s t → Extends t u → (g : GameFunctions) (steps : List StepDiagrams) (k : ℕ)
    (step : StepDiagrams) → k < length steps → step ≡ get_or steps k step → KnowsStep s step →
    (set calm id : NodeId) → Knows s set → IsSetOf t (IsCalmBelow s g (means s set) steps k) calm →
    IsSetOf u (λ v. (means t calm v ≡ true) × Keeps (step_of t step) (means t set) v) id →
    IsSetOf u (IsCalmBelow s g (means s set) steps (k + 1)) id
calm_more s t u a b g steps k step within here known set calm id set_known so_far is =
    IsSetOf-same u (λ v. (means t calm v ≡ true) × Keeps (step_of t step) (means t set) v)
    (IsCalmBelow s g (means s set) steps (k + 1)) id (λ v h. more v (so_far.only v h.0) (earlier v h.1))
    (λ v h. (
      so_far.all v (fewer v h),
      later v (subst (KeptBy s (means s set) v) (sym here) (h.each k step (omega arith))),
    )) is
  where
    earlier : (v : Assignment) → Keeps (step_of t step) (means t set) v → KeptBy s (means s set) v step
    earlier v h =
        subst (λ (f : Function). Keeps (step_of s step) f v) (means-Extends s t a set set_known)
        (subst (λ (f : StepFunctions). Keeps f (means t set) v) (step_of-Extends s t a step known) h)

    later : (v : Assignment) → KeptBy s (means s set) v step → Keeps (step_of t step) (means t set) v
    later v h =
        subst (λ (f : StepFunctions). Keeps f (means t set) v) (sym (step_of-Extends s t a step known))
        (subst (λ (f : Function). Keeps (step_of s step) f v) (sym (means-Extends s t a set set_known)) h)

    more : (v : Assignment) → IsCalmBelow s g (means s set) steps k v → KeptBy s (means s set) v step →
        IsCalmBelow s g (means s set) steps (k + 1) v
    more v before kept = record {
      valid = before.valid;
      stutter = before.stutter;
      each = λ n d below.
          ⊎_elim (λ (lower : n < k). before.each n d lower)
          (λ (upper : k ≤ n).
          let e : k ≡ n = omega arith in
          subst (λ i. KeptBy s (means s set) v (get_or steps i d)) e
          (at_read steps (KeptBy s (means s set) v) k step within here kept d))
          (cases_lt n k);
    }

    fewer : (v : Assignment) → IsCalmBelow s g (means s set) steps (k + 1) v → IsCalmBelow s g (means s set) steps k v
    fewer v all = record {
      valid = all.valid;
      stutter = all.stutter;
      each = λ n d below. all.each n d (omega (arith, below));
    }

-- all
pub calm_all : (s t : Table) (g : GameDiagrams) (k : ℕ) → k ≡ length g.environment.items → (within : Function)
    (id : NodeId) → IsSetOf t (IsCalmBelow s (game_of s g) within g.environment.items k) id →
    IsSetOf t (IsCalm (game_of s g) within) id
calm_all s t g k end within id is =
    IsSetOf-same t (IsCalmBelow s (game_of s g) within g.environment.items k) (IsCalm (game_of s g) within) id
    (λ v h. record {
      valid = h.valid;
      stutter = h.stutter;
      environment = All-map (λ (step : StepFunctions). Keeps step within v) (step_of s) g.environment.items
          (λ n d below. h.each n d (omega (arith, below, end)));
    })
    (λ v h. record { valid = h.valid; stutter = h.stutter; each = each v h }) is
  where
    each : (v : Assignment) → IsCalm (game_of s g) within v → (n : ℕ) (d : StepDiagrams) → n < k →
        Keeps (step_of s (get_or g.environment.items n d)) within v
    each v calm n d below =
        let there : n < length g.environment.items = omega (arith, below, end) in
        let long = length-map g.environment.items (step_of s) in
        subst (λ (step : StepFunctions). Keeps step within v)
        (get_or-map (step_of s) g.environment.items n d (step_of s d) there)
        (calm.environment n (step_of s d) (omega (arith, there, long)))

-- ---- the steps of the driver

-- before the first one
pub acts_none : (s : Table) (turn within : Function) (steps : List StepDiagrams) →
    IsSetOf s (HasGoodBelow s turn within steps 0) FALSE
acts_none s turn within steps = record {
  known = omega arith;
  only = λ v h. let never = means-FALSE s v in absurd (cc);
  all = λ v h. absurd (omega (arith, h.1));
}

-- a step is good for some arguments
abbrev GoodBy : Table → Function → Function → Assignment → StepDiagrams → Type 0
GoodBy s turn within v step = IsGoodForSome turn within v (step_of s step)

-- one more
pub acts_more : (s t u : Table) → Extends s t → Extends t u → (steps : List StepDiagrams) (k : ℕ)
    (step : StepDiagrams) → k < length steps → step ≡ get_or steps k step → KnowsStep s step →
    (turn set acts id : NodeId) → Knows s turn → Knows s set →
    IsSetOf t (HasGoodBelow s (means s turn) (means s set) steps k) acts →
    IsSetOf u (λ v. (means t acts v ≡ true) ⊎ IsGoodForSome (means t turn) (means t set) v (step_of t step)) id →
    IsSetOf u (HasGoodBelow s (means s turn) (means s set) steps (k + 1)) id
acts_more s t u a b steps k step within here known turn set acts id turn_known set_known so_far is =
    IsSetOf-same u (λ v. (means t acts v ≡ true) ⊎ IsGoodForSome (means t turn) (means t set) v (step_of t step))
    (HasGoodBelow s (means s turn) (means s set) steps (k + 1)) id (λ v h. more v h) (λ v h. back v h) is
  where
    earlier : (v : Assignment) → IsGoodForSome (means t turn) (means t set) v (step_of t step) →
        GoodBy s (means s turn) (means s set) v step
    earlier v h =
        subst (λ (f : Function). IsGoodForSome f (means s set) v (step_of s step)) (means-Extends s t a turn turn_known)
        (subst (λ (f : Function). IsGoodForSome (means t turn) f v (step_of s step)) (means-Extends s t a set set_known)
        (subst (λ (f : StepFunctions). IsGoodForSome (means t turn) (means t set) v f)
        (step_of-Extends s t a step known) h))

    later : (v : Assignment) → GoodBy s (means s turn) (means s set) v step →
        IsGoodForSome (means t turn) (means t set) v (step_of t step)
    later v h =
        subst (λ (f : Function). IsGoodForSome f (means t set) v (step_of t step))
        (sym (means-Extends s t a turn turn_known))
        (subst (λ (f : Function). IsGoodForSome (means s turn) f v (step_of t step))
        (sym (means-Extends s t a set set_known))
        (subst (λ (f : StepFunctions). IsGoodForSome (means s turn) (means s set) v f)
        (sym (step_of-Extends s t a step known)) h))

    more : (v : Assignment) →
        (means t acts v ≡ true) ⊎ IsGoodForSome (means t turn) (means t set) v (step_of t step) →
        HasGoodBelow s (means s turn) (means s set) steps (k + 1) v
    more v (inl h) = let before = so_far.only v h in (before.0, omega (arith, before.1), before.2)
    more v (inr h) =
        (k, omega arith, at_read steps (GoodBy s (means s turn) (means s set) v) k step within here (earlier v h))

    back : (v : Assignment) → HasGoodBelow s (means s turn) (means s set) steps (k + 1) v →
        (means t acts v ≡ true) ⊎ IsGoodForSome (means t turn) (means t set) v (step_of t step)
    back v h =
        ⊎_elim (λ (lower : h.0 < k). inl (so_far.all v (h.0, lower, h.2)))
        (λ (upper : k ≤ h.0).
        let e : h.0 ≡ k = omega (arith, h.1) in
        let there = subst (λ i. GoodBy s (means s turn) (means s set) v (get_or steps i step)) e (h.2 step) in
        inr (later v (subst (GoodBy s (means s turn) (means s set) v) (sym here) there)))
        (cases_lt h.0 k)

-- all
pub acts_all : (s t : Table) (turn within : Function) (steps : List StepDiagrams) (k : ℕ) → k ≡ length steps →
    (id : NodeId) → IsSetOf t (HasGoodBelow s turn within steps k) id →
    IsSetOf t (λ v. Any (IsGoodForSome turn within v) (map (step_of s) steps)) id
acts_all s t turn within steps k end id is =
    IsSetOf-same t (HasGoodBelow s turn within steps k)
    (λ v. Any (IsGoodForSome turn within v) (map (step_of s) steps)) id
    (λ v h. some steps v h.0 (omega (arith, h.1, end)) h.2) (λ v h. back v h) is
  where
    some : (xs : List StepDiagrams) (v : Assignment) (n : ℕ) → n < length xs →
        ((d : StepDiagrams) → IsGoodForSome turn within v (step_of s (get_or xs n d))) →
        Any (IsGoodForSome turn within v) (map (step_of s) xs)
    some [] v n below holds = absurd (omega (arith, below))
    some (x ∷ xs) v n below holds =
        let long = length-map (x ∷ xs) (step_of s) in
        let y = step_of s (get_or (x ∷ xs) n x) in
        (n, y, omega (arith, below, long), get_or-map (step_of s) (x ∷ xs) n x y below, holds x)

    back : (v : Assignment) → Any (IsGoodForSome turn within v) (map (step_of s) steps) →
        HasGoodBelow s turn within steps k v
    back v h =
        let long = length-map steps (step_of s) in
        let below : h.0 < length steps = omega (arith, h.2, long) in (
          h.0,
          omega (arith, below, end),
          λ d. subst (IsGoodForSome turn within v)
              (sym h.3 ∙ get_or-map (step_of s) steps h.0 d h.1 below) h.4,
        )

-- ---- all actors

-- some step of the driver is good for some arguments
abbrev Acts : GameFunctions → Function → Assignment → Type 0
Acts g within v = Any (IsGoodForSome g.turn within v) g.driver

pub stays_is : (s t u w x : Table) → Extends s t → Extends t u → Extends u w → Extends w x → (g : GameDiagrams) →
    KnowsGame s g → (set calm acts settled id : NodeId) → Knows s set →
    IsSetOf t (IsCalm (game_of s g) (means s set)) calm →
    IsSetOf u (λ v. Any (IsGoodForSome (means t g.turn) (means t set) v) (game_of t g).driver) acts →
    IsFunction w settled (λ v. means w (complement g.turn) v || means w acts v) →
    IsFunction x id (λ v. means x calm v && means x settled v) →
    IsSetOf x (Stays (game_of s g) (means s set)) id
stays_is s t u w x a b c e g known set calm acts settled id set_known in_t in_u in_w is =
    let f = game_of s g in
    let to_u = Extends-trans s t u a b in
    let to_w = Extends-trans t u w b c in
    let to_x = Extends-trans t w x to_w e in
    let there : IsSetOf u (Acts f (means s set)) acts =
    subst (λ (h : Function). IsSetOf u (Acts f h) acts) (means-Extends s t a set set_known)
    (subst (λ (h : GameFunctions). IsSetOf u (Acts h (means t set)) acts) (game_of-Extends s t a g known) in_u) in
    let Settled : Assignment → Type 0 = λ v. (means s (complement g.turn) v ≡ true) ⊎ Acts f (means s set) v in
    let either : IsSetOf w Settled settled =
    or_is s u w to_u c (Acts f (means s set)) (complement g.turn) acts settled (Knows-complement s g.turn known.turn)
    there in_w in
    IsSetOf-same x (λ v. IsCalm f (means s set) v × Settled v) (Stays f (means s set)) id
    (λ v h. record { calm = h.0; driver = λ turn. act v turn h.1 }) (λ v h. (h.calm, settle v h.driver))
    (IsSetOf-and x (IsCalm f (means s set)) Settled calm settled id
    (IsSetOf-Extends t x to_x (IsCalm f (means s set)) calm in_t) (IsSetOf-Extends w x e Settled settled either) is)
  where
    act : (v : Assignment) → means s g.turn v ≡ true →
        (means s (complement g.turn) v ≡ true) ⊎ Acts (game_of s g) (means s set) v → Acts (game_of s g) (means s set) v
    act v turn (inl none) =
        let other = means-complement s g.turn v in
        let never : not (means s g.turn v) ≡ false = ap not turn in
        absurd (cc)
    act v turn (inr good) = good

    settle : (v : Assignment) → (means s g.turn v ≡ true → Acts (game_of s g) (means s set) v) →
        (means s (complement g.turn) v ≡ true) ⊎ Acts (game_of s g) (means s set) v
    settle v driver = elim (true_or_false (means s g.turn v)) [
      | inl turn ↦ inr (driver turn)
      | inr none ↦ inl (means-complement s g.turn v ∙ ap not none)
    ]

-- where the driver stays in a set, told by the game as it is after the call
pub stays_again : (s t : Table) → Extends s t → (g : GameDiagrams) → KnowsGame s g → (set id : NodeId) → Knows s set →
    IsSetOf t (Stays (game_of s g) (means s set)) id → IsSetOf t (Stays (game_of t g) (means t set)) id
stays_again s t a g known set id set_known is =
    subst (λ (f : GameFunctions). IsSetOf t (Stays f (means t set)) id) (sym (game_of-Extends s t a g known))
    (subst (λ (f : Function). IsSetOf t (Stays (game_of s g) f) id) (sym (means-Extends s t a set set_known)) is)

-- a forced state is a valid one
pub forced_valid : (g : GameFunctions) (into : Function) (v : Assignment) → Forced g into v → g.valid v ≡ true
forced_valid g into v (Forced.by_stutter valid there) = valid
forced_valid g into v (Forced.by_environment valid some) = valid
forced_valid g into v (Forced.by_driver valid turn all) = valid

pub epre_is : (s t u : Table) → Extends s t → Extends t u → (g : GameDiagrams) → KnowsGame s g →
    (set stays id : NodeId) → IsSetOf t (Stays (game_of s g) (means s (complement set))) stays →
    IsFunction u id (λ v. means u g.valid v && means u (complement stays) v) →
    IsSetOf u (Forced (game_of s g) (means s set)) id
epre_is s t u a b g known set stays id in_t is =
    let f = game_of s g in
    let within = means s (complement set) in
    let into = means s set in
    IsSetOf-same u (λ v. (means s g.valid v ≡ true) × (¬ Stays f within v)) (Forced f into) id
    (λ v h. elim (forced_or_stays within into (means-complement s set) f v h.0) [
      | inl forced ↦ forced
      | inr kept ↦ absurd (h.1 kept)
    ])
    (λ v h. (forced_valid f into v h, λ kept. not_forced within into (means-complement s set) f v kept h))
    (and_is s t u a b (λ v. ¬ Stays f within v) g.valid (complement stays) id known.valid
    (IsSetOf-not t (Stays f within) stays in_t) is)
