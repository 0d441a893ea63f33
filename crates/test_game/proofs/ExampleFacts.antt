-- The game of four states over a store of two levels.
use Rattle.std.proofs.Common.{◌≡◌, inl, inr, ℕ, zero, suc, ◌<◌, Bool, true, false, [], ◌∷◌, Result, Ok, Err, IfOk}
use Rattle.std.proofs.Common.{refl, sym, ◌∙◌, subst, arith}
use Rattle.std.specs.declared.alloc.AllocError.{AllocError}
use Rattle.tm_dd.specs.declared.node.NodeId.{NodeId}
use Rattle.tm_dd.specs.Table.{Table, Knows, means, assignment}
use Rattle.tm_dd.specs.Reduced.{IsReduced}
use Rattle.tm_dd.specs.Reduced as dd
use Rattle.tm_sem.specs.State.{StateData}
use Rattle.tm_solve.specs.Sets.{StateSet, IsAmong, IsSame}
use Rattle.tm_solve.specs.Ids.{Ids, Is, IsExact, Follows}
use Rattle.test_game.specs.Example.{state, four_states, high, low, pick, example_game, example_ids}

agree : (v : ℕ → Bool) (h l : Bool) → v 0 ≡ h → v 1 ≡ l → (k : ℕ) → k < 2 → v k ≡ assignment (h ∷ l ∷ []) k
agree v h l p q zero below = p
agree v h l p q (suc zero) below = q
agree v h l p q (suc (suc k)) below = absurd (omega arith)

-- known ids that mean the same at the four states are one
pub exact_of : (t : Table) → IsReduced t → t.levels ≡ 2 → IsExact four_states (example_ids t)
exact_of t reduced two = record {
  equal = λ f g kf kg same. reduced.canonical f g kf kg (λ v. at f g kf kg same v (v 0) (v 1) refl refl);
}
  where
    near : (f : NodeId) → Knows t f → (v : ℕ → Bool) (h l : Bool) → v 0 ≡ h → v 1 ≡ l →
        means t f v ≡ means t f (assignment (h ∷ l ∷ []))
    near f kf v h l p q = reduced.independent f kf v (assignment (h ∷ l ∷ []))
        (λ k above below. agree v h l p q k (subst (λ (n : ℕ). k < n) two below))

    here : (f g : NodeId) → IsSame four_states ((example_ids t).means f) ((example_ids t).means g) → (h l : Bool) →
        means t f (assignment (h ∷ l ∷ [])) ≡ means t g (assignment (h ∷ l ∷ []))
    here f g same false false = same.same (state 0 0) (inl refl)
    here f g same false true = same.same (state 0 1) (inr (inl refl))
    here f g same true false = same.same (state 1 0) (inr (inr (inl refl)))
    here f g same true true = same.same (state 1 1) (inr (inr (inr (inl refl))))

    at : (f g : NodeId) → Knows t f → Knows t g →
        IsSame four_states ((example_ids t).means f) ((example_ids t).means g) →
        (v : ℕ → Bool) (h l : Bool) → v 0 ≡ h → v 1 ≡ l → means t f v ≡ means t g v
    at f g kf kg same v h l p q = near f kf v h l p q ∙ here f g same h l ∙ sym (near g kg v h l p q)

-- a store that was extended means what it meant
pub follows_of : (s t : Table) → dd.Extends s t → IsReduced t → s.levels ≡ 2 →
    Follows example_game (example_ids s) example_game (example_ids t)
follows_of s t e reduced two = record {
  game = refl;
  extends = record {
    known = λ id known. let r = e.rises in omega (arith, known);
    same = λ id known. λ i. λ u. e.same_meaning id known (assignment (high u ∷ low u ∷ [])) i;
    kept = λ id known.
        let r = e.rises in
        (omega (arith, known), λ i u. e.same_meaning id known (assignment (high u ∷ low u ∷ [])) i);
    of = λ d is. is;
    side = refl;
  };
  exact = exact_of t reduced (e.same_levels ∙ two);
}

-- a set with the values of another one at the four states is that set
same_pick : (a b c e : Bool) (f : StateSet) → a ≡ f (state 0 0) → b ≡ f (state 0 1) → c ≡ f (state 1 0) →
    e ≡ f (state 1 1) →
    IsSame four_states (pick a b c e) f
same_pick a b c e f p q r t = record { same = λ s among. at s among }
  where
    at : (s : StateData) → IsAmong s four_states → pick a b c e s ≡ f s
    at s (inl is) = subst (λ (u : StateData). pick a b c e u ≡ f u) (sym is) p
    at s (inr (inl is)) = subst (λ (u : StateData). pick a b c e u ≡ f u) (sym is) q
    at s (inr (inr (inl is))) = subst (λ (u : StateData). pick a b c e u ≡ f u) (sym is) r
    at s (inr (inr (inr (inl is)))) = subst (λ (u : StateData). pick a b c e u ≡ f u) (sym is) t
    at s (inr (inr (inr (inr is)))) = absurd is

pub picked : (ids : Ids) (r : Result NodeId AllocError) (a b c e : Bool) (f : StateSet) → a ≡ f (state 0 0) →
    b ≡ f (state 0 1) →
    c ≡ f (state 1 0) → e ≡ f (state 1 1) → IfOk r (λ id. Is four_states ids id (pick a b c e)) →
    IfOk r (λ id. Is four_states ids id f)
picked ids (Ok id) a b c e f p q r t is = record {
  known = is.known;
  means = record { same = λ s among. is.means.same s among ∙ (same_pick a b c e f p q r t).same s among };
}
picked ids (Err x) a b c e f p q r t is = is
