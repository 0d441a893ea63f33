-- The terms of the conditions of actors, one behind the other.
use Rattle.std.proofs.Common.{◌≡◌, ℕ, ◌+◌, ◌<◌, Bool, true, false, Option, None, Some, List, [], ◌∷◌, ◌++◌, length, map, slice_get, refl, sym, ap, ◌∙◌, subst, arith}
use Rattle.std.specs.Prelude.{not, if◌then◌else◌}
use Rattle.std.specs.List.{AllZip, filter, range_with_len}
use Rattle.std.specs.Option.{option_map, option_map_or}
use Rattle.std.specs.declared.vec.Vec.{Vec}
use Rattle.std.specs.declared.alloc.Global.{Global}
use Rattle.std.proofs.lemmas.List.{append-nil, map-append, map-id}
use Rattle.std.proofs.lemmas.List.Elements.{filter-append}
use Rattle.std.proofs.lemmas.List.FromFn.{length-range_with_len, map-range_with_len_more}
use Rattle.std.proofs.lemmas.Slice.Zip.{AllZip-long}
use Rattle.tm_syntax.specs.Design.{DesignTree}
use Rattle.tm_syntax.specs.Design.Locations.{Thread, thread}
use Rattle.tm_term.specs.declared.term.TermId.{TermId}
use Rattle.tm_term.specs.Table.{Table, IsSound}
use Rattle.tm_term.specs.Value.{Extends}
use Rattle.tm_term.proofs.Valued.{Extends-trans}
use Rattle.tm_sem.specs.Fairness.{Condition, IsMet, conditions, is_owed, of_driver, of_process, of_text, owed}
use Rattle.tm_flat.specs.declared.flat.FlatStep.{FlatStep}
use Rattle.tm_flat.specs.Flat.{step_terms}
use Rattle.tm_flat.specs.IsFlat.{IsFairTerm, location_numbers, process_numbers}
use Rattle.tm_flat.specs.Steps.{IsProcessStep}
use Rattle.tm_flat_exprs.proofs.Later.{Extends-refl}
use Rattle.tm_flat_states.specs.Actors.{HaveSteps, IsConditionTerm, PushesOwed, lazy_of}
use Rattle.tm_flat_states.specs.Marks.{MakesSuch}
use Rattle.tm_flat_states.proofs.Numbered.{numbered, numbered_all, zip_joined, zip_weaker}
use Rattle.tm_flat.proofs.Growth.{process_kept}

-- whether a process is owed its turns
pub owed_by : (d : DesignTree) (p : ℕ) (lazy : Option Bool) → option_map lazy_of (thread d p) ≡ lazy →
    option_map_or not lazy false ≡ is_owed d p
owed_by d p lazy is = ap (λ o. option_map_or not o false) (sym is) ∙ by (thread d p)
  where
    by : (o : Option Thread) →
        option_map_or not (option_map lazy_of o) false ≡ option_map_or (λ (t : Thread). not t.process.lazy) o false
    by None = refl
    by (Some t) = refl

-- ---- one process
one_owed : (d : DesignTree) (p : ℕ) (b : Bool) → is_owed d p ≡ b →
    map of_process (filter (is_owed d) (p ∷ [])) ≡ (if b then of_process p ∷ [] else [])
one_owed d p b is = ap (λ c. map of_process (if c then p ∷ [] else [])) is ∙ by b
  where
    by : (b : Bool) → map of_process (if b then p ∷ [] else []) ≡ (if b then of_process p ∷ [] else [])
    by true = refl
    by false = refl

pub none_pushed : (d : DesignTree) (p : ℕ) (t : Table) (ids : List TermId) → IsSound t → is_owed d p ≡ false →
    PushesOwed d p t t ids ids
none_pushed d p t ids sound lazy = record {
  grown = Extends-refl t;
  sound = sound;
  part = [];
  is = sym (append-nil ids);
  each = λ u more. subst (λ cs. AllZip (IsConditionTerm u d) cs []) (sym (one_owed d p false lazy)) tt;
}

pub one_pushed : (d : DesignTree) (p : ℕ) (t n : Table) (ids after : List TermId) (id : TermId) → is_owed d p ≡ true →
    MakesSuch t n (λ u id. IsConditionTerm u d (of_process p) id) id → after ≡ ids ++ id ∷ [] →
    PushesOwed d p t n ids after
one_pushed d p t n ids after id owed made pushed = record {
  grown = made.grown;
  sound = made.sound;
  part = id ∷ [];
  is = pushed;
  each = λ u more.
      subst (λ cs. AllZip (IsConditionTerm u d) cs (id ∷ [])) (sym (one_owed d p true owed)) (made.is u more, tt);
}

-- ---- the actors so far
abbrev pub actors_of : DesignTree → ℕ → List Condition
actors_of d n = of_driver ∷ map of_process (filter (is_owed d) (range_with_len 0 n))

abbrev pub Actors : DesignTree → Table → Table → ℕ → List TermId → Type 0
Actors d t n count ids = MakesSuch t n (λ u l. AllZip (IsConditionTerm u d) (actors_of d count) l) ids

pub first_actor : (d : DesignTree) (t n : Table) (ids : List TermId) (id : TermId) →
    MakesSuch t n (λ u id. IsConditionTerm u d of_driver id) id → ids ≡ id ∷ [] → Actors d t n 0 ids
first_actor d t n ids id made is = subst (Actors d t n 0) (sym is) (record {
  grown = made.grown;
  sound = made.sound;
  is = λ u more. (made.is u more, tt);
})

actors_more : (d : DesignTree) (n : ℕ) →
    actors_of d n ++ map of_process (filter (is_owed d) (n ∷ [])) ≡ actors_of d (n + 1)
actors_more d n =
    let more : range_with_len 0 (n + 1) ≡ range_with_len 0 n ++ n ∷ [] =
    sym (map-id (range_with_len 0 (n + 1))) ∙ map-range_with_len_more (λ k. k) 0 n n (omega arith)
    ∙ ap (λ ks. ks ++ n ∷ []) (map-id (range_with_len 0 n)) in
    ap (λ l. of_driver ∷ l)
    (sym (map-append of_process (filter (is_owed d) (range_with_len 0 n)) (filter (is_owed d) (n ∷ []))))
    ∙ ap (λ l. of_driver ∷ map of_process l) (sym (filter-append (is_owed d) (range_with_len 0 n) (n ∷ [])))
    ∙ ap (λ l. of_driver ∷ map of_process (filter (is_owed d) l)) (sym more)

pub more_actors : (d : DesignTree) (t m n : Table) (p : ℕ) (ids after : List TermId) → Actors d t m p ids →
    PushesOwed d p m n ids after → Actors d t n (p + 1) after
more_actors d t m n p ids after so_far pushes = subst (Actors d t n (p + 1)) (sym pushes.is) (record {
  grown = Extends-trans t m n so_far.grown pushes.grown;
  sound = pushes.sound;
  is = λ u more.
      subst (λ cs. AllZip (IsConditionTerm u d) cs (ids ++ pushes.part)) (actors_more d p)
      (zip_joined (IsConditionTerm u d) (actors_of d p) ids (map of_process (filter (is_owed d) (p ∷ []))) pushes.part
      (so_far.is u (Extends-trans m n u pushes.grown more)) (pushes.each u more));
})

pub all_actors : (d : DesignTree) (t n : Table) (count : ℕ) (ids : Vec TermId Global) → count ≡ length d.processes →
    Actors d t n count ids.items →
    MakesSuch t n (λ u (l : Vec TermId Global). AllZip (IsConditionTerm u d) (of_driver ∷ map of_process (owed d))
    l.items) ids
all_actors d t n count ids is all = record {
  grown = all.grown;
  sound = all.sound;
  is = λ u more. subst (λ k. AllZip (IsConditionTerm u d) (actors_of d k) ids.items) is (all.is u more);
}

-- ---- the steps of a process, over terms that were added
pub steps_here : (t m : Table) (d : DesignTree) (p : ℕ) (processes : List (Vec FlatStep Global))
    (steps : Vec FlatStep Global)
    (items : List FlatStep) → HaveSteps t d processes → Extends t m → p < length d.processes →
    slice_get processes p ≡ Some steps → items ≡ steps.items →
    AllZip (IsProcessStep m d p) (location_numbers d p) (map step_terms items)
steps_here t m d p processes steps items have grown inside is same =
    let there = numbered (λ q (l : Vec FlatStep Global). AllZip (IsProcessStep t d q) (location_numbers d q)
    (map step_terms l.items)) 0 (length d.processes) processes have p inside in
    let at : 0 + p ≡ p = omega arith in
    let found : there.0 ≡ steps = let one = there.1 in let two = is in cc in
    let own : AllZip (IsProcessStep t d p) (location_numbers d p) (map step_terms steps.items) =
    subst (λ (l : Vec FlatStep Global). AllZip (IsProcessStep t d p) (location_numbers d p) (map step_terms l.items))
    found
    (subst (λ q. AllZip (IsProcessStep t d q) (location_numbers d q) (map step_terms there.0.items)) at there.2) in
    subst (λ (l : List FlatStep). AllZip (IsProcessStep m d p) (location_numbers d p) (map step_terms l)) (sym same)
    (zip_weaker (IsProcessStep t d p) (IsProcessStep m d p) (λ k step is. process_kept t m grown d p k step is)
    (location_numbers d p) (map step_terms steps.items) own)

-- ---- all conditions
pub all_fairs : (t m n : Table) (d : DesignTree) (actors declared ids : Vec TermId Global) (taken : List TermId) →
    MakesSuch t m (λ u (l : Vec TermId Global). AllZip (IsConditionTerm u d) (of_driver ∷ map of_process (owed d))
    l.items)
    actors →
    MakesSuch m n (λ u (l : Vec TermId Global). AllZip (IsConditionTerm u d) (map of_text d.fairs) l.items) declared →
    taken ≡ declared.items → ids.items ≡ actors.items ++ taken →
    MakesSuch t n (λ u (l : Vec TermId Global).
    AllZip (IsFairTerm u d) (range_with_len 0 (length (conditions d))) l.items) ids
all_fairs t m n d actors declared ids taken first second same joined = record {
  grown = Extends-trans t m n first.grown second.grown;
  sound = second.sound;
  is = λ u more.
      subst (AllZip (IsFairTerm u d) (range_with_len 0 (length (conditions d)))) (sym (joined
      ∙ ap (λ l. actors.items ++ l) same))
      (numbered_all (IsConditionTerm u d) (IsFairTerm u d) (conditions d) (actors.items ++ declared.items)
      (λ k c id here is. fair_of u k c id here is)
      (zip_joined (IsConditionTerm u d) (of_driver ∷ map of_process (owed d)) actors.items (map of_text d.fairs)
      declared.items (first.is u (Extends-trans m n u second.grown more)) (second.is u more)));
}
  where
    fair_of : (u : Table) (k : ℕ) (c : Condition) (id : TermId) → slice_get (conditions d) k ≡ Some c →
        IsConditionTerm u d c id → IsFairTerm u d k id
    fair_of u k c id here is = record {
      term = is.term;
      holds = λ s arguments valid bits. (
        λ fair.
            let same : fair.0 ≡ c = let one = fair.1 in let two = here in cc in
            (is.holds s arguments valid bits).0 (subst (λ x. IsMet d s x) same fair.2),
        λ all. (c, here, (is.holds s arguments valid bits).1 all),
      );
    }

-- there are steps for each process
pub processes_many : (t : Table) (d : DesignTree) (processes : List (Vec FlatStep Global)) → HaveSteps t d processes →
    length processes ≡ length d.processes
processes_many t d processes have =
    AllZip-long (λ p (steps : Vec FlatStep Global). AllZip (IsProcessStep t d p) (location_numbers d p)
    (map step_terms steps.items)) (process_numbers d) processes have
    ∙ length-range_with_len 0 (length d.processes)
