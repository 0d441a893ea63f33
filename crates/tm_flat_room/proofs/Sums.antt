-- Sums of choice bits on the paths of a part, from a position on.
use Rattle.std.proofs.Common.{◌≡◌, ◌⊎◌, inl, inr, ℕ, ◌+◌, ◌≤◌, Bool, true, false, Option, None, Some, List, [], ◌∷◌, ◌++◌, map, refl, sym, subst, arith, nat_lt}
use Rattle.std.specs.Prelude.{max}
use Rattle.std.specs.Option.{option_and_then}
use Rattle.std.proofs.lemmas.Bool.Decides.{nat_tests}
use Rattle.tm_syntax.specs.Counts.Choices.{Paths, joined, in_row, either_part}
use Rattle.tm_flat.specs.Inputs.{room}
use Rattle.tm_flat.specs.Positions.{later}
use Rattle.tm_typing.proofs.Listed.{In, in_behind, in_flat, in_front, in_map}

-- sums from a position on stay within the room
abbrev pub Within : ℕ → List ℕ → Type 0
Within k sums = (m : ℕ) → In m sums → k + m ≤ room

-- a number that stands in a list
abbrev pub Some_in : List ℕ → Type 0
Some_in sums = (m : ℕ) × In m sums

-- from the start of a part a path leads on: to its end, or to a location in it
abbrev pub LeadsOn : Paths → Type 0
LeadsOn p = Some_in p.across ⊎ Some_in p.inward

-- the paths from the start of a part stay within the room
pub record Stays (k : ℕ) (p : Paths) : Type 0 where
  pub across : Within k p.across
  pub inward : Within k p.inward

-- a position is that behind one of some paths, or there are none
abbrev pub Comes : ℕ → List ℕ → Option ℕ → Type 0
Comes k sums None = sums ≡ []
Comes k sums (Some j) = (m : ℕ) × In m sums × (j ≡ k + m)

pub in_joined : (xs ys : List ℕ) (m n : ℕ) → In m xs → In n ys → In (m + n) (joined xs ys)
in_joined xs ys m n i j = in_flat (λ a. map (λ b. a + b) ys) xs i (in_map (λ b. m + b) ys j)

none_joined : (xs : List ℕ) → joined xs [] ≡ []
none_joined [] = refl
none_joined (x ∷ xs) = none_joined xs

pub comes_then : (k : ℕ) (xs ys : List ℕ) (o : Option ℕ) (next : ℕ → Option ℕ) → Comes k xs o →
    ((i : ℕ) → Comes i ys (next i)) → Comes k (joined xs ys) (option_and_then next o)
comes_then k xs ys None next here behind = subst (λ zs. joined zs ys ≡ []) (sym here) refl
comes_then k xs ys (Some i) next here behind = by (next i) (behind i)
  where
    by : (o : Option ℕ) → Comes i ys o → Comes k (joined xs ys) o
    by None none = subst (λ zs. joined xs zs ≡ []) (sym none) (none_joined xs)
    by (Some j) found = (
      here.0 + found.0,
      in_joined xs ys here.0 found.0 here.1 found.1,
      omega (arith, here.2, found.2),
    )

greater_is_one : (i j : ℕ) → (max i j ≡ i) ⊎ (max i j ≡ j)
greater_is_one i j = by (nat_lt i j) refl
  where
    by : (b : Bool) → nat_lt i j ≡ b → (max i j ≡ i) ⊎ (max i j ≡ j)
    by true less = let below : max i j ≡ j = grind (arith, nat_tests) in inr below
    by false not_less = let above : max i j ≡ i = grind (arith, nat_tests) in inl above

pub comes_either : (k : ℕ) (xs ys : List ℕ) (a b : Option ℕ) → Comes k xs a → Comes k ys b →
    Comes k (xs ++ ys) (later a b)
comes_either k xs ys None b here there = subst (λ zs. Comes k (zs ++ ys) b) (sym here) there
comes_either k xs ys (Some i) None here there = (here.0, in_front xs ys here.1, here.2)
comes_either k xs ys (Some i) (Some j) here there = by (greater_is_one i j)
  where
    by : (max i j ≡ i) ⊎ (max i j ≡ j) → Comes k (xs ++ ys) (Some (max i j))
    by (inl is) = (here.0, in_front xs ys here.1, omega (arith, is, here.2))
    by (inr is) = (there.0, in_behind xs ys there.1, omega (arith, is, there.2))

-- where some path leads on and all stay within the room, the start is within it
pub starts_within : (k : ℕ) (p : Paths) → Stays k p → LeadsOn p → k ≤ room
starts_within k p stays (inl on) = let far = stays.across on.0 on.1 in omega (arith, far)
starts_within k p stays (inr on) = let far = stays.inward on.0 on.1 in omega (arith, far)

-- where no path leads across, one leads to a location
pub leads_inward : (p : Paths) → p.across ≡ [] → LeadsOn p → Some_in p.inward
leads_inward p none (inl on) = absurd (nowhere (subst (λ l. In on.0 l) none on.1))
  where
    nowhere : {m : ℕ} → In m [] → ⊥
    nowhere i = elim i [ ]
leads_inward p none (inr on) = on

pub leads_first : (p q : Paths) → LeadsOn p → LeadsOn (either_part p q)
leads_first p q (inl on) = inl (on.0, in_front p.across q.across on.1)
leads_first p q (inr on) = inr (on.0, in_front p.inward q.inward on.1)

pub leads_then : (p q : Paths) → LeadsOn p → LeadsOn q → LeadsOn (in_row p q)
leads_then p q (inl on) (inl after) =
    inl (on.0 + after.0, in_joined p.across q.across on.0 after.0 on.1 after.1)
leads_then p q (inl on) (inr after) =
    inr (
      on.0 + after.0,
      in_behind p.inward (joined p.across q.inward) (in_joined p.across q.inward on.0 after.0 on.1 after.1),
    )
leads_then p q (inr on) after = inr (on.0, in_front p.inward (joined p.across q.inward) on.1)

pub stays_first : (k : ℕ) (p q : Paths) → Stays k (either_part p q) → Stays k p
stays_first k p q stays = record {
  across = λ m i. stays.across m (in_front p.across q.across i);
  inward = λ m i. stays.inward m (in_front p.inward q.inward i);
}

pub stays_second : (k : ℕ) (p q : Paths) → Stays k (either_part p q) → Stays k q
stays_second k p q stays = record {
  across = λ m i. stays.across m (in_behind p.across q.across i);
  inward = λ m i. stays.inward m (in_behind p.inward q.inward i);
}

-- the first part of a row stays within the room, where a path leads on behind it
pub stays_before : (k : ℕ) (p q : Paths) → Stays k (in_row p q) → LeadsOn q → Stays k p
stays_before k p q stays on = record {
  across = λ m i. by on m i;
  inward = λ m i. stays.inward m (in_front p.inward (joined p.across q.inward) i);
}
  where
    by : LeadsOn q → (m : ℕ) → In m p.across → k + m ≤ room
    by (inl after) m i =
        let far = stays.across (m + after.0) (in_joined p.across q.across m after.0 i after.1) in
        omega (arith, far)
    by (inr after) m i =
        let far = stays.inward (m + after.0) (in_behind p.inward (joined p.across q.inward)
        (in_joined p.across q.inward m after.0 i after.1)) in
        omega (arith, far)

-- the part behind the first one of a row stays within the room
pub stays_behind : (k j : ℕ) (p q : Paths) → Stays k (in_row p q) → Comes k p.across (Some j) → Stays j q
stays_behind k j p q stays from = record {
  across = λ n i.
      let far = stays.across (from.0 + n) (in_joined p.across q.across from.0 n from.1 i) in
      let at = from.2 in
      omega (arith, far, at);
  inward = λ n i.
      let far = stays.inward (from.0 + n) (in_behind p.inward (joined p.across q.inward)
      (in_joined p.across q.inward from.0 n from.1 i)) in
      let at = from.2 in
      omega (arith, far, at);
}
