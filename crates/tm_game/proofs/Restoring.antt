-- Ids that stand in one list and are put back from another one.
use Rattle.std.proofs.Common.{◌≡◌, ℕ, suc, ◌+◌, ◌<◌, ◌≤◌, ◌≢◌, List, [], ◌∷◌, ◌++◌, Vec, inl, inr, length, get_or, set, take, drop, map, refl, sym, ap, ◌∙◌, subst, arith}
use Rattle.std.specs.Prelude.{All}
use Rattle.std.specs.declared.alloc.Global.{Global}
use Rattle.std.specs.Vec.{with_items}
use Rattle.std.proofs.lemmas.Bool.{cases_lt}
use Rattle.std.proofs.lemmas.List.{append-nil, drop_all, get_or_append_left, get_or-append-add, get_or_default, get_or-map, get_or-set_other, get_or-set_same, length-append, length-map, length-set, take_all, take_more, with_items_is}
use Rattle.std.proofs.lemmas.List.Concat.{flat_map-append, get_or-flat_map}
use Rattle.std.proofs.lemmas.List.Elements.{All-append, All-cons, All-head, All-nil, All-tail, Contains-get_or}
use Rattle.std.proofs.lemmas.List.Folds.{length-flat_map-take}
use Rattle.tm_dd.specs.declared.node.NodeId.{NodeId}
use Rattle.tm_dd.specs.Table.{Table, Knows, means}
use Rattle.tm_ddops.specs.Copied.{MeanTheSame}
use Rattle.tm_ddops.specs.Manager.{IsFunction}
use Rattle.tm_game_bits.specs.declared.game.GameDiagrams.{GameDiagrams}
use Rattle.tm_game_bits.specs.declared.step.StepDiagrams.{StepDiagrams}
use Rattle.tm_game_bits.specs.Diagrams.{KnowsChanges, KnowsGame, KnowsStep, changes_of, step_of}
use Rattle.tm_game_bits.proofs.Extended.{known_changes}
use Rattle.tm_game.specs.declared.opening.Kept.{Kept}
use Rattle.tm_game.specs.Inner.Listed.{change_ids, game_ids, kept_ids, step_ids, steps_ids}
use Rattle.tm_game.specs.Inner.Restored.{SameChanges, SameGame, SameKept, SameStep, SameSteps, StandAt}

-- ---- places in lists
pub stands_whole : (xs : List NodeId) → StandAt xs 0 xs
stands_whole xs = record {
  within = omega arith;
  each = λ k d below. let same : k ≡ 0 + k = omega arith in ap (λ n. get_or xs n d) same;
}

pub stands_tail : (all : List NodeId) (at : ℕ) (x : NodeId) (ids : List NodeId) → StandAt all at (x ∷ ids) →
    StandAt all (at + 1) ids
stands_tail all at x ids is = record {
  within = omega (arith, is.within);
  each = λ k d below.
      let same : at + suc k ≡ at + 1 + k = omega arith in
      is.each (suc k) d (omega arith) ∙ ap (λ n. get_or all n d) same;
}

pub stands_left : (all : List NodeId) (at : ℕ) (xs ys : List NodeId) → StandAt all at (xs ++ ys) → StandAt all at xs
stands_left all at xs ys is = record {
  within = omega (arith, is.within, length-append xs ys);
  each = λ k d below.
      sym (get_or_append_left xs ys d k below) ∙ is.each k d (omega (arith, length-append xs ys));
}

pub stands_right : (all : List NodeId) (at : ℕ) (xs ys : List NodeId) → StandAt all at (xs ++ ys) →
    StandAt all (at + length xs) ys
stands_right all at xs ys is = record {
  within = omega (arith, is.within, length-append xs ys);
  each = λ k d below.
      let same : at + (length xs + k) ≡ at + length xs + k = omega arith in
      sym (get_or-append-add xs ys k d)
      ∙ is.each (length xs + k) d (omega (arith, length-append xs ys))
      ∙ ap (λ n. get_or all n d) same;
}

module _ (s t : Table) (olds news : List NodeId) (same : MeanTheSame s olds t news) where
  -- what stands at a place of the new list means what stood there
  pub restored : (at : ℕ) (ids : List NodeId) → StandAt olds at ids → (k : ℕ) (d : NodeId) → k < length ids →
      IsFunction t (get_or news (at + k) d) (means s (get_or ids k d))
  restored at ids is k d below =
      subst (λ (id : NodeId). IsFunction t (get_or news (at + k) d) (means s id)) (sym (is.each k d below))
      (same.functions (at + k) d (omega (arith, is.within)))

  pub restored_head : (at : ℕ) (x : NodeId) (ids : List NodeId) → StandAt olds at (x ∷ ids) → (d : NodeId) →
      IsFunction t (get_or news at d) (means s x)
  restored_head at x ids is d =
      let place : at + 0 ≡ at = omega arith in
      subst (λ (k : ℕ). IsFunction t (get_or news k d) (means s x)) place
      (restored at (x ∷ ids) is 0 d (omega arith))

-- ---- changes
-- what was written over all of a list is what the list is then
pub written_back : {X : Type 0} → (xs ys : List X) (n : ℕ) → length xs ≡ length ys → n ≡ length ys →
    take n (xs ++ drop (length xs) ys) ≡ xs
written_back xs ys n long count =
    ap (λ zs. take n (xs ++ zs)) (drop_all (length xs) ys (omega arith))
    ∙ ap (take n) (append-nil xs)
    ∙ take_all n xs (omega arith)

-- a level becomes what it became
pub record SameChange (s : Table) (old : ℕ × NodeId) (t : Table) (new : ℕ × NodeId) : Type 0 where
  pub level : new.0 ≡ old.0
  pub function : IsFunction t new.1 (means s old.1)

module _ (s t : Table) where
  functions_same : (xs ys : List (ℕ × NodeId)) → length ys ≡ length xs →
      ((k : ℕ) (d : ℕ × NodeId) → k < length xs → SameChange s (get_or xs k d) t (get_or ys k d)) →
      changes_of t ys ≡ changes_of s xs
  functions_same [] [] long each = refl
  functions_same [] (y ∷ ys) long each = absurd (omega arith)
  functions_same (x ∷ xs) [] long each = absurd (omega arith)
  functions_same (x ∷ xs) (y ∷ ys) long each =
      let first = each 0 x (omega arith) in
      let others = functions_same xs ys (omega arith) (λ k d below. each (suc k) d (omega arith)) in
      λ i. (first.level i, λ v. first.function.meaning v i) ∷ others i

  pub changes_same : (xs ys : List (ℕ × NodeId)) → length ys ≡ length xs →
      ((k : ℕ) (d : ℕ × NodeId) → k < length xs → SameChange s (get_or xs k d) t (get_or ys k d)) →
      SameChanges s xs t ys
  changes_same xs ys long each = record {
    known = known_changes t ys (λ k d below. (each k d (omega (arith, long))).function.known);
    functions = functions_same xs ys long each;
  }

  -- the ids of changes that stand in a list are put back from another one
  pub changes_put : (olds news : List NodeId) → MeanTheSame s olds t news → (at : ℕ) (xs ys : List (ℕ × NodeId)) →
      StandAt olds at (change_ids xs) → length ys ≡ length xs →
      ((k : ℕ) (d : ℕ × NodeId) → k < length xs → (get_or ys k d).0 ≡ (get_or xs k d).0) →
      ((k : ℕ) (d : ℕ × NodeId) → k < length xs → (get_or ys k d).1 ≡ get_or news (at + k) d.1) → SameChanges s xs t ys
  changes_put olds news same at xs ys stand long levels ids =
      let second : ℕ × NodeId → NodeId = λ p. p.1 in
      changes_same xs ys long
      (λ k d below. record {
        level = levels k d below;
        function = subst (λ (id : NodeId). IsFunction t id (means s (get_or xs k d).1)) (sym (ids k d below))
            (subst (λ (id : NodeId). IsFunction t (get_or news (at + k) d.1) (means s id))
            (get_or-map second xs k d d.1 below)
            (restored s t olds news same at (change_ids xs) stand k d.1 (omega (arith, length-map xs second))));
      })

  -- ---- steps
  pub step_same : (old : StepDiagrams) (legal error : NodeId) (next : Vec (ℕ × NodeId) Global) →
      IsFunction t legal (means s old.legal) → IsFunction t error (means s old.error) →
      SameChanges s old.next.items t next.items →
      SameStep s old t (record old { legal = legal; error = error; next = next })
  step_same old legal error next first second changes = record {
    known = record { legal = first.known; error = second.known; next = changes.known };
    functions = λ i. record {
      legal = λ v. first.meaning v i;
      error = λ v. second.meaning v i;
      next = changes.functions i;
      choices = old.choices.items;
      arguments = old.arguments.items;
    };
  }

  steps_mapped : (xs ys : List StepDiagrams) → length ys ≡ length xs →
      ((k : ℕ) (d : StepDiagrams) → k < length xs → SameStep s (get_or xs k d) t (get_or ys k d)) →
      map (step_of t) ys ≡ map (step_of s) xs
  steps_mapped [] [] long each = refl
  steps_mapped [] (y ∷ ys) long each = absurd (omega arith)
  steps_mapped (x ∷ xs) [] long each = absurd (omega arith)
  steps_mapped (x ∷ xs) (y ∷ ys) long each =
      let first = each 0 x (omega arith) in
      let others = steps_mapped xs ys (omega arith) (λ k d below. each (suc k) d (omega arith)) in
      λ i. first.functions i ∷ others i

  pub steps_same : (xs ys : List StepDiagrams) → length ys ≡ length xs →
      ((k : ℕ) (d : StepDiagrams) → k < length xs → SameStep s (get_or xs k d) t (get_or ys k d)) →
      SameSteps s xs t ys
  steps_same xs ys long each = record {
    known = λ k d below. (each k d (omega (arith, long))).known;
    functions = steps_mapped xs ys long each;
  }

  -- ---- a game
  pub game_same : (old : GameDiagrams) (valid turn : NodeId) (stutter : Vec (ℕ × NodeId) Global)
      (environment driver : Vec StepDiagrams Global) → IsFunction t valid (means s old.valid) →
      IsFunction t turn (means s old.turn) → SameChanges s old.stutter.items t stutter.items →
      SameSteps s old.environment.items t environment.items → SameSteps s old.driver.items t driver.items →
      SameGame s old t (record {
        valid = valid;
        turn = turn;
        stutter = stutter;
        environment = environment;
        driver = driver;
      })
  game_same old valid turn stutter environment driver first second changes others own = record {
    known = record {
      valid = first.known;
      turn = second.known;
      stutter = changes.known;
      environment = others.known;
      driver = own.known;
    };
    functions = λ i. record {
      valid = λ v. first.meaning v i;
      turn = λ v. second.meaning v i;
      stutter = changes.functions i;
      environment = others.functions i;
      driver = own.functions i;
    };
  }

-- a step of a list of steps stands behind the ids of those before it
pub stands_step : (all : List NodeId) (at : ℕ) (steps : List StepDiagrams) → StandAt all at (steps_ids steps) →
    (k : ℕ) (d : StepDiagrams) → k < length steps →
    StandAt all (at + length (steps_ids (take k steps))) (step_ids (get_or steps k d))
stands_step all at steps is k d below =
    let within = length-flat_map-take step_ids steps k d below in
    record {
      within = omega (arith, is.within, within);
      each = λ j e small.
          let same : at + (length (steps_ids (take k steps)) + j) ≡ at + length (steps_ids (take k steps)) + j =
          omega arith in
          sym (get_or-flat_map step_ids steps k j d e below small)
          ∙ is.each (length (steps_ids (take k steps)) + j) e (omega (arith, within))
          ∙ ap (λ n. get_or all n e) same;
    }

-- ---- steps that are put back one by one
pub record AreStepsPut (ids : List NodeId) (at : ℕ) (old items : List StepDiagrams) (i behind : ℕ) : Type 0 where
  pub long : length items ≡ length old
  pub behind_is : behind ≡ at + length (steps_ids (take i old))
  pub same : (s t : Table) (olds : List NodeId) → MeanTheSame s olds t ids → StandAt olds at (steps_ids old) →
      (k : ℕ) (d : StepDiagrams) → k < i → SameStep s (get_or old k d) t (get_or items k d)
  pub left : (k : ℕ) (d : StepDiagrams) → i ≤ k → get_or items k d ≡ get_or old k d

pub put_first : (ids : List NodeId) (at : ℕ) (old items : List StepDiagrams) → items ≡ old →
    AreStepsPut ids at old items 0 at
put_first ids at old items is = record {
  long = ap length is;
  behind_is = omega arith;
  same = λ s t olds means_same stand k d below. absurd (omega arith);
  left = λ k d past. ap (λ (xs : List StepDiagrams). get_or xs k d) is;
}

module _ (ids : List NodeId) (at : ℕ) (old items : List StepDiagrams) (i behind : ℕ) (item : StepDiagrams)
    (below : i < length items) (is : item ≡ get_or items i item) (so_far : AreStepsPut ids at old items i behind) where
  inside : i < length old
  inside = omega (arith, so_far.long)

  item_is : item ≡ get_or old i item
  item_is = is ∙ so_far.left i item (omega arith)

  pub put_within : at + length (steps_ids old) ≤ length ids → behind + length (step_ids item) ≤ length ids
  put_within within =
      let all = length-flat_map-take step_ids old i item inside in
      let count : length (step_ids item) ≡ length (step_ids (get_or old i item)) =
      ap (λ (x : StepDiagrams). length (step_ids x)) item_is in
      omega (arith, all, count, so_far.behind_is)

  next : length (steps_ids (take (i + 1) old)) ≡ length (steps_ids (take i old)) + length (step_ids item)
  next =
      ap (λ (xs : List StepDiagrams). length (steps_ids xs)) (take_more old i item inside)
      ∙ ap length (flat_map-append step_ids (take i old) (get_or old i item ∷ []))
      ∙ length-append (steps_ids (take i old)) (step_ids (get_or old i item) ++ [])
      ∙ ap (λ (ns : List NodeId). length (steps_ids (take i old)) + length ns)
      (append-nil (step_ids (get_or old i item)))
      ∙ ap (λ (x : StepDiagrams). length (steps_ids (take i old)) + length (step_ids x)) (sym item_is)

  pub put_more : (new : StepDiagrams) (end : ℕ) → end ≡ behind + length (step_ids item) →
      ((s t : Table) (olds : List NodeId) → MeanTheSame s olds t ids → StandAt olds behind (step_ids item) →
      SameStep s item t new) → AreStepsPut ids at old (set items i new) (i + 1) end
  put_more new end end_is put = record {
    long = length-set items i new ∙ so_far.long;
    behind_is = omega (arith, so_far.behind_is, end_is, next);
    same = λ s t olds means_same stand k d small.
        elim (cases_lt k i) as (λ _. SameStep s (get_or old k d) t (get_or (set items i new) k d)) [
          | inl before ↦
              let other : k ≢ i = omega arith in
              subst (λ (x : StepDiagrams). SameStep s (get_or old k d) t x)
              (sym (get_or-set_other items i k new d other)) (so_far.same s t olds means_same stand k d before)
          | inr past ↦
              let this : i ≡ k = omega arith in
              let stood = stands_step olds at old stand i item inside in
              let here : StandAt olds behind (step_ids item) =
              subst (λ (x : StepDiagrams). StandAt olds behind (step_ids x)) (sym item_is)
              (subst (λ (n : ℕ). StandAt olds n (step_ids (get_or old i item))) (sym so_far.behind_is) stood) in
              let made = put s t olds means_same here in
              subst (λ (n : ℕ). SameStep s (get_or old n d) t (get_or (set items i new) n d)) this
              (subst (λ (x : StepDiagrams). SameStep s x t (get_or (set items i new) i d))
              (item_is ∙ get_or_default old i item d inside)
              (subst (λ (x : StepDiagrams). SameStep s item t x) (sym (get_or-set_same items i new d below)) made))
        ];
    left = λ k d past.
        let other : k ≢ i = omega arith in
        get_or-set_other items i k new d other ∙ so_far.left k d (omega arith);
  }

pub put_all : (ids : List NodeId) (at : ℕ) (old items : List StepDiagrams) (i behind : ℕ) → length items ≤ i →
    AreStepsPut ids at old items i behind → (s t : Table) (olds : List NodeId) → MeanTheSame s olds t ids →
    StandAt olds at (steps_ids old) → SameSteps s old t items
put_all ids at old items i behind end so_far s t olds means_same stand =
    steps_same s t old items so_far.long
    (λ k d below. so_far.same s t olds means_same stand k d (omega (arith, so_far.long)))

-- ---- the ids that a game keeps
pub kept_put : (s t : Table) (olds news : List NodeId) → MeanTheSame s olds t news → (at : ℕ) (kept : Kept) →
    StandAt olds at (kept_ids kept) → (d : NodeId) (goals fairs : List NodeId) →
    MeanTheSame s kept.goals.items t goals → MeanTheSame s kept.fairs.items t fairs →
    SameKept s kept t (record {
      goals = with_items kept.goals goals;
      fairs = with_items kept.fairs fairs;
      initial = get_or news at d;
      turn = get_or news (at + 1) d;
    })
kept_put s t olds news same at kept stand d goals fairs first second = record {
  initial = restored_head s t olds news same at kept.initial (kept.turn ∷ (kept.goals.items ++ kept.fairs.items)) stand
      d;
  turn = restored_head s t olds news same (at + 1) kept.turn (kept.goals.items ++ kept.fairs.items)
      (stands_tail olds at kept.initial (kept.turn ∷ (kept.goals.items ++ kept.fairs.items)) stand) d;
  goals = subst (MeanTheSame s kept.goals.items t)
      (sym (with_items_is kept.goals goals (omega (arith, first.as_many, kept.goals.ok.0)))) first;
  fairs = subst (MeanTheSame s kept.fairs.items t)
      (sym (with_items_is kept.fairs fairs (omega (arith, second.as_many, kept.fairs.ok.0)))) second;
}

-- behind the first two of some ids
pub stands_third : (all : List NodeId) (at : ℕ) (x y : NodeId) (ids : List NodeId) → StandAt all at (x ∷ (y ∷ ids)) →
    StandAt all (at + 2) ids
stands_third all at x y ids stand =
    let same : at + 1 + 1 ≡ at + 2 = omega arith in
    subst (λ (n : ℕ). StandAt all n ids) same
    (stands_tail all (at + 1) y ids (stands_tail all at x (y ∷ ids) stand))

-- ---- known ids
module _ (s : Table) where
  changes_known : (changes : List (ℕ × NodeId)) → KnowsChanges s changes → All (Knows s) (change_ids changes)
  changes_known changes known i d below =
      known (get_or (change_ids changes) i d) (Contains-get_or (change_ids changes) i d below)

  step_known : (step : StepDiagrams) → KnowsStep s step → All (Knows s) (step_ids step)
  step_known step known =
      All-cons (Knows s) step.legal (step.error ∷ change_ids step.next.items) known.legal
      (All-cons (Knows s) step.error (change_ids step.next.items) known.error
      (changes_known step.next.items known.next))

  steps_known : (steps : List StepDiagrams) → All (KnowsStep s) steps → All (Knows s) (steps_ids steps)
  steps_known [] known = All-nil (Knows s)
  steps_known (x ∷ xs) known =
      All-append (Knows s) (step_ids x) (steps_ids xs) (step_known x (All-head (KnowsStep s) x xs known))
      (steps_known xs (All-tail (KnowsStep s) x xs known))

  pub game_known : (g : GameDiagrams) → KnowsGame s g → All (Knows s) (game_ids g)
  game_known g known =
      All-cons (Knows s) g.valid
      (g.turn ∷ (change_ids g.stutter.items ++ (steps_ids g.environment.items ++ steps_ids g.driver.items))) known.valid
      (All-cons (Knows s) g.turn
      (change_ids g.stutter.items ++ (steps_ids g.environment.items ++ steps_ids g.driver.items)) known.turn
      (All-append (Knows s) (change_ids g.stutter.items) (steps_ids g.environment.items ++ steps_ids g.driver.items)
      (changes_known g.stutter.items known.stutter)
      (All-append (Knows s) (steps_ids g.environment.items) (steps_ids g.driver.items)
      (steps_known g.environment.items known.environment) (steps_known g.driver.items known.driver))))
