-- Lists of changes, and their tables by level.
use Rattle.std.proofs.Common.{◌≡◌, ◌≢◌, ℕ, ◌+◌, ◌<◌, ◌⊎◌, inl, inr, Bool, true, false, not, eqb, cond, if◌then◌else◌, List, [], ◌∷◌, ◌++◌, length, take, drop, map, Contains, Option, Some, None, get_or, refl, sym, ap, subst, ◌∙◌, arith, length-append}
use Rattle.std.proofs.lemmas.Bool.{eqb-true, eqb-false}
use Rattle.std.proofs.lemmas.List.{get_or-take, get_or_append_left, length-take, take_more}
use Rattle.std.specs.Map.{lookup}
use Rattle.std.specs.Option.{option_map_or}
use Rattle.lru.proofs.Splits.{Contains-head, Contains-tail, Contains-cons, Contains-nil}
use Rattle.tm_dd.specs.declared.node.NodeId.{NodeId}
use Rattle.tm_dd.specs.NodeId.{complement}
use Rattle.tm_dd.specs.Reduced.{IsReduced}
use Rattle.tm_dd.specs.Table.{Table, Knows, means}
use Rattle.tm_dd.proofs.CallerLaws.{means-complement, Knows-complement}
use Rattle.tm_ddops.specs.declared.change.Change.{Change}
use Rattle.tm_ddops.specs.declared.change.Change.TheVariants.{Becomes, Quantified}
use Rattle.tm_ddops.specs.declared.operation.Operation.TheVariants.{Compose}
use Rattle.tm_ddops.specs.Changed.{IsChanged, KnowsParts, Reads, change_at, change_of, first_of}
use Rattle.tm_ddops.specs.Manager.{IsResult}
use Rattle.tm_ddops.specs.Operation.{substituted}
use Rattle.tm_ddops.specs.Quantified.{AgreeElsewhere, IsExists, IsForall}

-- ---- one more change

lookup-push : (test : ℕ → Bool) (xs : List (ℕ × Change)) (p : ℕ × Change) →
    lookup test (xs ++ p ∷ []) ≡ (if test p.0 then first_of (lookup test xs) (Some p.1) else lookup test xs)
lookup-push test [] p = refl
lookup-push test (x ∷ xs) p =
    elim (test x.0) as (λ b. cond b (Some x.1) (lookup test (xs ++ p ∷ []))
    ≡ (if test p.0 then first_of (cond b (Some x.1) (lookup test xs)) (Some p.1)
    else cond b (Some x.1) (lookup test xs))) [
      | true ↦ sym (either (test p.0))
      | false ↦ lookup-push test xs p
    ]
  where
    either : (b : Bool) → (if b then Some x.1 else Some x.1) ≡ Some x.1
    either true = refl
    either false = refl

change_of-more : (changes : List (ℕ × Change)) (i : ℕ) (d : ℕ × Change) → i < length changes → (k : ℕ) →
    change_of (take (i + 1) changes) k
    ≡ (if eqb (get_or changes i d).0 k then first_of (change_of (take i changes) k) (Some (get_or changes i d).1)
    else change_of (take i changes) k)
change_of-more changes i d within k =
    ap (lookup (λ l. eqb l k)) (take_more changes i d within)
    ∙ lookup-push (λ l. eqb l k) (take i changes) (get_or changes i d)

pub table_step : (changes : List (ℕ × Change)) (i : ℕ) (d : ℕ × Change) → i < length changes →
    (old new : List (Option Change)) (count : ℕ)
    → ((k : ℕ) → k < count → change_at old k ≡ change_of (take i changes) k)
    → ((k : ℕ) → k < count →
    change_at new k ≡ (if eqb (get_or changes i d).0 k then first_of (change_at old k) (Some (get_or changes i d).1)
    else change_at old k))
    → (k : ℕ) → k < count → change_at new k ≡ change_of (take (i + 1) changes) k
table_step changes i d within old new count were step k below =
    step k below
    ∙ ap (λ o. if eqb (get_or changes i d).0 k then first_of o (Some (get_or changes i d).1) else o) (were k below)
    ∙ sym (change_of-more changes i d within k)

-- a table that a slice was written back to
pub written_back : (new old : List (Option Change)) (n k : ℕ) → length new ≡ length old → n ≡ length old → k < n →
    get_or (take n (new ++ drop (length new) old)) k None ≡ change_at new k
written_back new old n k same is below =
    get_or-take n (new ++ drop (length new) old) k None below
    ∙ get_or_append_left new (drop (length new) old) None k (omega (arith, same, is, below))

pub length-written_back : (new old : List (Option Change)) (n : ℕ) → length new ≡ length old → n ≡ length old →
    length (take n (new ++ drop (length new) old)) ≡ n
length-written_back new old n same is =
    length-take n (new ++ drop (length new) old) ∙ let all = length-append new (drop (length new) old) in
    omega (arith, all, same, is)

-- what no change is at stays so, where the next change is at another level
pub none_more : (changes : List (ℕ × Change)) (i : ℕ) (d : ℕ × Change) → i < length changes → (k : ℕ) →
    change_of (take i changes) k ≡ None → (get_or changes i d).0 ≢ k → change_of (take (i + 1) changes) k ≡ None
none_more changes i d within k none apart =
    change_of-more changes i d within k ∙ by_test (eqb (get_or changes i d).0 k) refl
  where
    by_test : (b : Bool) → eqb (get_or changes i d).0 k ≡ b →
        (if eqb (get_or changes i d).0 k then first_of (change_of (take i changes) k) (Some (get_or changes i d).1)
        else change_of (take i changes) k) ≡ None
    by_test true e = absurd (apart (eqb-true _ _ e))
    by_test false e =
        ap (λ b. if b then first_of (change_of (take i changes) k) (Some (get_or changes i d).1)
        else change_of (take i changes) k) e
        ∙ none

-- ---- levels that are quantified

quantified_cases : (levels : List ℕ) (k : ℕ) →
    (Contains levels k × (change_of (map (λ l. (l, Quantified)) levels) k ≡ Some Quantified))
    ⊎ ((¬ Contains levels k) × (change_of (map (λ l. (l, Quantified)) levels) k ≡ None))
quantified_cases [] k = inr (Contains-nil k, refl)
quantified_cases (l ∷ levels) k = by_test (eqb l k) refl (quantified_cases levels k)
  where
    by_test : (b : Bool) → eqb l k ≡ b →
        (Contains levels k × (change_of (map (λ x. (x, Quantified)) levels) k ≡ Some Quantified))
        ⊎ ((¬ Contains levels k) × (change_of (map (λ x. (x, Quantified)) levels) k ≡ None)) →
        (Contains (l ∷ levels) k × (change_of (map (λ x. (x, Quantified)) (l ∷ levels)) k ≡ Some Quantified))
        ⊎ ((¬ Contains (l ∷ levels) k) × (change_of (map (λ x. (x, Quantified)) (l ∷ levels)) k ≡ None))
    by_test true e rest = inl (
      subst (Contains (l ∷ levels)) (eqb-true l k e) (Contains-head l levels),
      ap (λ t. cond t (Some Quantified) (change_of (map (λ x. (x, Quantified)) levels) k)) e,
    )
    by_test false e rest = elim rest [
      | inl there ↦ inl (
        Contains-tail l levels k there.0,
        ap (λ t. cond t (Some Quantified) (change_of (map (λ x. (x, Quantified)) levels) k)) e ∙ there.1,
      )
      | inr apart ↦ inr (
        (λ h. elim (Contains-cons l levels k h) [
          | inl is ↦ eqb-false l k e is
          | inr more ↦ apart.0 more
        ]),
        ap (λ t. cond t (Some Quantified) (change_of (map (λ x. (x, Quantified)) levels) k)) e ∙ apart.1,
      )
    ]

pub knows_no_part : (s : Table) (levels : List ℕ) → KnowsParts s (change_of (map (λ l. (l, Quantified)) levels))
knows_no_part s levels k below part h = elim (quantified_cases levels k) [
  | inl there ↦ let e = there.1 in cc
  | inr apart ↦ let e = apart.1 in cc
]

pick : Option Change → Bool → Bool → Bool
pick None changed kept = kept
pick (Some c) changed kept = changed

pub exists_of_changed : (s : Table) → IsReduced s → (levels : List ℕ) (f id : NodeId) →
    IsChanged s (change_of (map (λ l. (l, Quantified)) levels)) f id → IsExists s levels f id
unfolding pick
exists_of_changed s reduced levels f id x = record {
  known = x.known;
  some = λ v h.
      let r = x.some v h in
      let w : ℕ → Bool = λ k. pick (change_of (map (λ l. (l, Quantified)) levels) k) (r.0 k) (v k) in (
        w,
        (λ k apart. elsewhere v r.0 k apart (quantified_cases levels k)),
        reduced.independent f x.operand w r.0
            (λ k _ below. within v r.0 k (change_of (map (λ l. (l, Quantified)) levels) k) (r.1 k below))
            ∙ r.2,
      );
  enough = λ v w agree h. x.enough v w (λ k _. may v w agree k (quantified_cases levels k)) h;
}
  where
    elsewhere : (v w : ℕ → Bool) (k : ℕ) → ¬ Contains levels k →
        (Contains levels k × (change_of (map (λ l. (l, Quantified)) levels) k ≡ Some Quantified))
        ⊎ ((¬ Contains levels k) × (change_of (map (λ l. (l, Quantified)) levels) k ≡ None))
        → pick (change_of (map (λ l. (l, Quantified)) levels) k) (w k) (v k) ≡ v k
    elsewhere v w k apart (inl there) = absurd (apart there.0)
    elsewhere v w k apart (inr none) = ap (λ o. pick o (w k) (v k)) none.1

    within : (v w : ℕ → Bool) (k : ℕ) (o : Option Change) → Reads s v k o (w k) → pick o (w k) (v k) ≡ w k
    within v w k None h = sym h
    within v w k (Some c) h = refl

    may : (v w : ℕ → Bool) → AgreeElsewhere levels v w → (k : ℕ) →
        (Contains levels k × (change_of (map (λ l. (l, Quantified)) levels) k ≡ Some Quantified))
        ⊎ ((¬ Contains levels k) × (change_of (map (λ l. (l, Quantified)) levels) k ≡ None))
        → Reads s v k (change_of (map (λ l. (l, Quantified)) levels) k) (w k)
    may v w agree k (inl there) = subst (λ o. Reads s v k o (w k)) (sym there.1) tt
    may v w agree k (inr apart) = subst (λ o. Reads s v k o (w k)) (sym apart.1) (agree k apart.0)

pub forall_of_exists : (s : Table) (levels : List ℕ) (f id : NodeId) → IsExists s levels (complement f) id →
    IsForall s levels f (complement id)
forall_of_exists s levels f id x = record {
  known = Knows-complement s id x.known;
  all = λ v w h agree. decide (means s f w) (λ off.
      let there = x.enough v w agree (means-complement s f w ∙ ap not off) in
      let opposite : means s (complement id) v ≡ false = means-complement s id v ∙ ap not there in cc);
  enough = λ v h. means-complement s id v ∙ ap not (decide_not (means s id v) (λ on.
      let r = x.some v on in
      let there = h r.0 r.1 in
      let opposite : means s (complement f) r.0 ≡ false = means-complement s f r.0 ∙ ap not there in
      let yes : means s (complement f) r.0 ≡ true = r.2 in cc));
}
  where
    decide : (a : Bool) → (a ≡ false → ⊥) → a ≡ true
    decide true never = refl
    decide false never = absurd (never refl)

    decide_not : (a : Bool) → (a ≡ true → ⊥) → a ≡ false
    decide_not false never = refl
    decide_not true never = absurd (never refl)

-- ---- functions in the places of levels

part_of : Option NodeId → Option Change
part_of None = None
part_of (Some part) = Some (Becomes part)

change_of-parts : (parts : List (ℕ × NodeId)) (k : ℕ) →
    change_of (map (λ p. (p.0, Becomes p.1)) parts) k ≡ part_of (lookup (λ l. eqb l k) parts)
unfolding part_of
change_of-parts [] k = refl
change_of-parts (p ∷ parts) k =
    elim (eqb p.0 k) as (λ t. cond t (Some (Becomes p.1)) (change_of (map (λ q. (q.0, Becomes q.1)) parts) k)
    ≡ part_of (cond t (Some p.1) (lookup (λ l. eqb l k) parts))) [
      | true ↦ refl
      | false ↦ change_of-parts parts k
    ]

lookup_known : (s : Table) (parts : List (ℕ × NodeId)) →
    ((g : NodeId) → Contains (map (λ p. p.1) parts) g → Knows s g) → (k : ℕ) (part : NodeId) →
    lookup (λ l. eqb l k) parts ≡ Some part → Knows s part
lookup_known s [] known k part h = cc
lookup_known s (p ∷ parts) known k part h =
    (elim (eqb p.0 k) as (λ t. cond t (Some p.1) (lookup (λ l. eqb l k) parts) ≡ Some part → Knows s part) [
      | true ↦ λ e. let same : p.1 ≡ part = cc in
          subst (Knows s) same (known p.1 (Contains-head p.1 (map (λ q. q.1) parts)))
      | false ↦ λ e. lookup_known s parts (λ g c. known g (Contains-tail p.1 (map (λ q. q.1) parts) g c)) k part e
    ]) h

-- the functions of known parts are known
pub knows_parts : (s : Table) (parts : List (ℕ × NodeId)) →
    ((g : NodeId) → Contains (map (λ p. p.1) parts) g → Knows s g)
    → KnowsParts s (change_of (map (λ p. (p.0, Becomes p.1)) parts))
unfolding part_of
knows_parts s parts known k below part h =
    by_part (lookup (λ l. eqb l k) parts) refl (sym (change_of-parts parts k) ∙ h)
  where
    by_part : (o : Option NodeId) → lookup (λ l. eqb l k) parts ≡ o → part_of (lookup (λ l. eqb l k) parts)
        ≡ Some (Becomes part) → Knows s part
    by_part None e is = let none : part_of (lookup (λ l. eqb l k) parts) ≡ None = ap part_of e in cc
    by_part (Some g) e is =
        let there : part_of (lookup (λ l. eqb l k) parts) ≡ Some (Becomes g) = ap part_of e in
        let same : g ≡ part = cc in
        lookup_known s parts known k part (e ∙ ap (λ x. Some x) same)

both_ways : (a b : Bool) → (a ≡ true → b ≡ true) → (b ≡ true → a ≡ true) → a ≡ b
both_ways true b there back = sym (there refl)
both_ways false true there back = back refl
both_ways false false there back = refl

pub composed_of_changed : (s : Table) → IsReduced s → (parts : List (ℕ × NodeId)) →
    ((g : NodeId) → Contains (map (λ p. p.1) parts) g → Knows s g)
    → (f id : NodeId) → IsChanged s (change_of (map (λ p. (p.0, Becomes p.1)) parts)) f id →
    IsResult s (Compose f parts) id
unfolding part_of
composed_of_changed s reduced parts known f id x = record {
  operands_known = λ g h. elim (Contains-cons f (map (λ p. p.1) parts) g h) [
    | inl is ↦ subst (Knows s) is x.operand
    | inr rest ↦ known g rest
  ];
  function = record {
    known = x.known;
    meaning = λ v. both_ways (means s id v) (means s f (substituted s parts v))
        (λ h. let r = x.some v h in
        reduced.independent f x.operand (substituted s parts v) r.0 (λ k _ below. sym (reads v (r.0 k) k (r.1 k below)))
        ∙ r.2)
        (λ h. x.enough v (substituted s parts v) (λ k _. may v k) h);
  };
}
  where
    reads_part : (v : ℕ → Bool) (k : ℕ) (b : Bool) (o : Option NodeId) → Reads s v k (part_of o) b →
        b ≡ option_map_or (λ part. means s part v) o (v k)
    reads_part v k b None h = h
    reads_part v k b (Some part) h = h

    reads : (v : ℕ → Bool) (b : Bool) (k : ℕ) → Reads s v k (change_of (map (λ p. (p.0, Becomes p.1)) parts) k) b →
        b ≡ substituted s parts v k
    reads v b k h =
        reads_part v k b (lookup (λ l. eqb l k) parts) (subst (λ o. Reads s v k o b) (change_of-parts parts k) h)

    may_part : (v : ℕ → Bool) (k : ℕ) (o : Option NodeId) →
        Reads s v k (part_of o) (option_map_or (λ part. means s part v) o (v k))
    may_part v k None = refl
    may_part v k (Some part) = refl

    may : (v : ℕ → Bool) (k : ℕ) →
        Reads s v k (change_of (map (λ p. (p.0, Becomes p.1)) parts) k) (substituted s parts v k)
    may v k =
        subst (λ o. Reads s v k o (substituted s parts v k)) (sym (change_of-parts parts k))
        (may_part v k (lookup (λ l. eqb l k) parts))
