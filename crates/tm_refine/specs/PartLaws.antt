-- The parts of a set, and the games of the parts of a step operator.
use Rattle.std.proofs.Common.{◌≡◌, ◌⊎◌, inl, inr, Bool, true, false, not, ◌||◌, ◌&&◌, List, [], ◌∷◌, refl, sym, ◌∙◌, subst}
use Rattle.tm_sem.specs.State.{StateData}
use Rattle.tm_solve.specs.Sets.{StateSet, IsAmong, IsWithin}
use Rattle.tm_solve.specs.Game.{Game, IsMonotone, IsAbsorbing}
use Rattle.tm_solve.specs.Sides.{IsBelow}
use Rattle.tm_refine.specs.Parts.{agree, alike, at_all, at_some, lower_part, upper_part, lower_game, upper_game, IsUnionOf}

and_parts : (a b : Bool) → (a && b) ≡ true → (a ≡ true) × (b ≡ true)
and_parts true b e = (refl, e)
and_parts false b e = absurd (cc)

and_both : (a b : Bool) → a ≡ true → b ≡ true → (a && b) ≡ true
and_both true b p q = q
and_both false b p q = absurd (cc)

or_first : (a b : Bool) → a ≡ true → (a || b) ≡ true
or_first true b e = refl
or_first false b e = absurd (cc)

or_second : (a b : Bool) → b ≡ true → (a || b) ≡ true
or_second true b e = refl
or_second false b e = e

or_either : (a b : Bool) → (a || b) ≡ true → (a ≡ true) ⊎ (b ≡ true)
or_either true b e = inl refl
or_either false b e = inr e

-- an implication of tests
if_so : (a b : Bool) → (not a || b) ≡ true → a ≡ true → b ≡ true
if_so true b e h = e
if_so false b e h = absurd (cc)

so_if : (a b : Bool) → (a ≡ true → b ≡ true) → (not a || b) ≡ true
so_if true b f = f refl
so_if false b f = refl

-- ---- lists
all_of : (n : List StateData) (a : StateSet) → at_all n a ≡ true → (t : StateData) → IsAmong t n → a t ≡ true
all_of [] a e t among = absurd among
all_of (u ∷ us) a e t (inl is) = subst (λ (v : StateData). a v ≡ true) (sym is) (and_parts (a u) (at_all us a) e).0
all_of (u ∷ us) a e t (inr among) = all_of us a (and_parts (a u) (at_all us a) e).1 t among

all_to : (n : List StateData) (a : StateSet) → ((t : StateData) → IsAmong t n → a t ≡ true) → at_all n a ≡ true
all_to [] a f = refl
all_to (u ∷ us) a f =
    and_both (a u) (at_all us a) (f u (inl refl)) (all_to us a (λ t among. f t (inr among)))

some_of : (n : List StateData) (a : StateSet) → at_some n a ≡ true → (t : StateData) × IsAmong t n × (a t ≡ true)
some_of [] a e = absurd (cc)
some_of (u ∷ us) a e =
    elim (or_either (a u) (at_some us a) e) [
      | inl here ↦ (u, inl refl, here)
      | inr rest ↦ let found = some_of us a rest in (found.0, inr found.1, found.2)
    ]

some_to : (n : List StateData) (a : StateSet) (t : StateData) → IsAmong t n → a t ≡ true → at_some n a ≡ true
some_to [] a t among here = absurd among
some_to (u ∷ us) a t (inl is) here =
    or_first (a u) (at_some us a) (subst (λ (v : StateData). a v ≡ true) is here)
some_to (u ∷ us) a t (inr among) here = or_second (a u) (at_some us a) (some_to us a t among here)

-- ---- cells
agree_self : (a : Bool) → agree a a ≡ true
agree_self true = refl
agree_self false = refl

pub agree_is : (a b : Bool) → agree a b ≡ true → a ≡ b
agree_is true b e = sym e
agree_is false true e = absurd (cc)
agree_is false false e = refl

pub is_agree : (a b : Bool) → a ≡ b → agree a b ≡ true
is_agree a b e = subst (λ (c : Bool). agree a c ≡ true) e (agree_self a)

pub alike_self : (ps : List StateSet) (s : StateData) → alike ps s s ≡ true
alike_self [] s = refl
alike_self (p ∷ ps) s = and_both (agree (p s) (p s)) (alike ps s s) (agree_self (p s)) (alike_self ps s)

pub alike_back : (ps : List StateSet) (s t : StateData) → alike ps s t ≡ true → alike ps t s ≡ true
alike_back [] s t e = refl
alike_back (p ∷ ps) s t e =
    let h = and_parts (agree (p s) (p t)) (alike ps s t) e in
    and_both (agree (p t) (p s)) (alike ps t s) (is_agree (p t) (p s) (sym (agree_is (p s) (p t) h.0)))
    (alike_back ps s t h.1)

pub alike_then : (ps : List StateSet) (s t u : StateData) → alike ps s t ≡ true → alike ps t u ≡ true →
    alike ps s u ≡ true
alike_then [] s t u e f = refl
alike_then (p ∷ ps) s t u e f =
    let h = and_parts (agree (p s) (p t)) (alike ps s t) e in
    let k = and_parts (agree (p t) (p u)) (alike ps t u) f in
    and_both (agree (p s) (p u)) (alike ps s u)
    (is_agree (p s) (p u) (agree_is (p s) (p t) h.0 ∙ agree_is (p t) (p u) k.0))
    (alike_then ps s t u h.1 k.1)

-- ---- parts
module _ (n : List StateData) (ps : List StateSet) (a : StateSet) where
  pub lower_holds : (s : StateData) → lower_part n ps a s ≡ true → (t : StateData) → IsAmong t n →
      alike ps s t ≡ true → a t ≡ true
  lower_holds s e t among same =
      if_so (alike ps s t) (a t) (all_of n (λ u. not (alike ps s u) || a u) e t among) same

  pub lower_when : (s : StateData) → ((t : StateData) → IsAmong t n → alike ps s t ≡ true → a t ≡ true) →
      lower_part n ps a s ≡ true
  lower_when s f =
      all_to n (λ u. not (alike ps s u) || a u) (λ t among. so_if (alike ps s t) (a t) (f t among))

  pub upper_meets : (s : StateData) → upper_part n ps a s ≡ true →
      (t : StateData) × IsAmong t n × (alike ps s t ≡ true) × (a t ≡ true)
  upper_meets s e =
      let found = some_of n (λ u. alike ps s u && a u) e in
      let h = and_parts (alike ps s found.0) (a found.0) found.2 in
      (found.0, found.1, h.0, h.1)

  pub upper_when : (s t : StateData) → IsAmong t n → alike ps s t ≡ true → a t ≡ true → upper_part n ps a s ≡ true
  upper_when s t among same here =
      some_to n (λ u. alike ps s u && a u) t among (and_both (alike ps s t) (a t) same here)

  -- a part is a union of cells
  either_way : (x y : Bool) → (x ≡ true → y ≡ true) → (y ≡ true → x ≡ true) → x ≡ y
  either_way true y f h = sym (f refl)
  either_way false true f h = h refl
  either_way false false f h = refl

  pub lower_union : IsUnionOf n ps (lower_part n ps a)
  lower_union = record {
    same = λ s t in_s in_t same. either_way (lower_part n ps a s) (lower_part n ps a t)
        (λ h. lower_when t (λ u in_u like. lower_holds s h u in_u (alike_then ps s t u same like)))
        (λ h. lower_when s (λ u in_u like.
        lower_holds t h u in_u (alike_then ps t s u (alike_back ps s t same) like)));
  }

  pub upper_union : IsUnionOf n ps (upper_part n ps a)
  upper_union = record {
    same = λ s t in_s in_t same. either_way (upper_part n ps a s) (upper_part n ps a t)
        (λ h. let m = upper_meets s h in
        upper_when t m.0 m.1 (alike_then ps t s m.0 (alike_back ps s t same) m.2) m.3)
        (λ h. let m = upper_meets t h in upper_when s m.0 m.1 (alike_then ps s t m.0 same m.2) m.3);
  }

-- parts grow with their sets
pub lower_rises : (n : List StateData) (ps : List StateSet) (a b : StateSet) → IsWithin n a b →
    IsWithin n (lower_part n ps a) (lower_part n ps b)
lower_rises n ps a b w = record {
  within = λ s among h. lower_when n ps b s
      (λ t in_t same. w.within t in_t (lower_holds n ps a s h t in_t same));
}

pub upper_rises : (n : List StateData) (ps : List StateSet) (a b : StateSet) → IsWithin n a b →
    IsWithin n (upper_part n ps a) (upper_part n ps b)
upper_rises n ps a b w = record {
  within = λ s among h. let m = upper_meets n ps a s h in
      upper_when n ps b s m.0 m.1 m.2 (w.within m.0 m.1 m.3);
}

-- ---- games
module _ (ps : List StateSet) (g : Game) where
  pub lower_monotone : IsMonotone g → IsMonotone (lower_game ps g)
  lower_monotone m = record {
    rises = λ z z' y y' x x' j i in_z in_y in_x. lower_rises g.states ps (g.part z y x j i) (g.part z' y' x' j i)
        (m.rises z z' y y' x x' j i in_z in_y in_x);
  }

  pub upper_monotone : IsMonotone g → IsMonotone (upper_game ps g)
  upper_monotone m = record {
    rises = λ z z' y y' x x' j i in_z in_y in_x. upper_rises g.states ps (g.part z y x j i) (g.part z' y' x' j i)
        (m.rises z z' y y' x x' j i in_z in_y in_x);
  }

  pub lower_absorbing : IsAbsorbing g → IsAbsorbing (lower_game ps g)
  lower_absorbing m = record {
    goal = λ z z' y x j j' i in_y. lower_rises g.states ps (g.part z y x j i) (g.part z' y x j' i)
        (m.goal z z' y x j j' i in_y);
    wait = λ z y x x' j i i' in_y. lower_rises g.states ps (g.part z y x j i) (g.part z y x' j i')
        (m.wait z y x x' j i i' in_y);
  }

  pub upper_absorbing : IsAbsorbing g → IsAbsorbing (upper_game ps g)
  upper_absorbing m = record {
    goal = λ z z' y x j j' i in_y. upper_rises g.states ps (g.part z y x j i) (g.part z' y x j' i)
        (m.goal z z' y x j j' i in_y);
    wait = λ z y x x' j i i' in_y. upper_rises g.states ps (g.part z y x j i) (g.part z y x' j i')
        (m.wait z y x x' j i i' in_y);
  }

  pub lower_below : IsBelow g.states (lower_game ps g).part g.part
  lower_below = record {
    below = λ z y x j i s among h. lower_holds g.states ps (g.part z y x j i) s h s among (alike_self ps s);
  }

  pub upper_above : IsBelow g.states g.part (upper_game ps g).part
  upper_above = record {
    below = λ z y x j i s among h. upper_when g.states ps (g.part z y x j i) s s among (alike_self ps s) h;
  }
