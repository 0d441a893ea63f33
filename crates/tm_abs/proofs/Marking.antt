-- Levels that are marked and listed.
use Rattle.std.proofs.Common.{◌≡◌, ◌⊎◌, inl, inr, ℕ, ◌<◌, Bool, true, false, not, ◌&&◌, nat_lt, List, [], ◌∷◌, ◌++◌, length, set, replicate, refl, sym, ap, ◌∙◌, subst, arith, true≢false}
use Rattle.std.specs.Prelude.{Contains}
use Rattle.std.proofs.lemmas.Bool.{and_parts, cases_eq, cases_lt, lt-ltb, ltb-true}
use Rattle.std.proofs.lemmas.List.{get_or_past, get_or-replicate, get_or-set_other, get_or-set_same, length-replicate, length-set}
use Rattle.std.proofs.lemmas.List.Elements.{Contains-append_cases, Contains-append_left, Contains-append_right, Contains-push_cases}
use Rattle.tm_abs.specs.Inner.Marks.{AreListed, AreMarked}
use Rattle.tm_ddops.specs.Quantified.{is_marked_level}
use Rattle.tm_game_bits.proofs.Deciding.{Contains-cases, Contains-head}
use Rattle.tm_game_bits.proofs.Leading.{true_or_false}

-- the one level of a list
pub one_level : (level k : ℕ) → Contains (level ∷ []) k → level ≡ k
one_level level k h =
    elim (Contains-cases level [] k h) [
      | inl e ↦ e
      | inr there ↦ absurd (omega (arith, there.1))
    ]

pub no_level : (k : ℕ) → ¬ Contains [] k
no_level k h = omega (arith, h.1)

-- no level has a mark where all marks are false
pub none_marked : (n k : ℕ) → ¬ (is_marked_level (replicate n false) k ≡ true)
none_marked n k h =
    elim (cases_lt k n) [
      | inl below ↦ true≢false (sym h ∙ get_or-replicate n k false false below)
      | inr above ↦
          true≢false (sym h ∙ get_or_past (replicate n false) k false (omega (arith, length-replicate n false, above)))
    ]

-- a mark stands within the list
pub marked_within : (marks : List Bool) (k : ℕ) → is_marked_level marks k ≡ true → k < length marks
marked_within marks k h =
    elim (cases_lt k (length marks)) [
      | inl below ↦ below
      | inr above ↦ absurd (true≢false (sym h ∙ get_or_past marks k false above))
    ]

module _ (allowed : List Bool) where
  pub marked_none : (marks : List Bool) (listed : List ℕ) → AreMarked allowed [] marks listed marks listed
  marked_none marks listed = record {
    count = refl;
    marks_are = λ k. (
      λ h. inl h,
      λ h. elim h [ inl there ↦ there | inr other ↦ absurd (no_level k other.0) ],
    );
    listed_are = λ k. (
      λ h. inl h,
      λ h. elim h [ inl there ↦ there | inr other ↦ absurd (no_level k other.0) ],
    );
  }

  module _ (xs ys : List ℕ) (marks between after : List Bool) (listed middle longer : List ℕ)
      (one : AreMarked allowed xs marks listed between middle)
      (two : AreMarked allowed ys between middle after longer) where
    marks_then : (k : ℕ) → is_marked_level after k ≡ true →
        (is_marked_level marks k ≡ true) ⊎ (Contains (xs ++ ys) k × (is_marked_level allowed k ≡ true))
    marks_then k h =
        elim ((two.marks_are k).0 h) [
          | inl there ↦ elim ((one.marks_are k).0 there) [
            | inl before ↦ inl before
            | inr first ↦ inr (Contains-append_left xs ys k first.0, first.1)
          ]
          | inr second ↦ inr (Contains-append_right xs ys k second.0, second.1)
        ]

    then_marks : (k : ℕ) →
        (is_marked_level marks k ≡ true) ⊎ (Contains (xs ++ ys) k × (is_marked_level allowed k ≡ true)) →
        is_marked_level after k ≡ true
    then_marks k (inl before) = (two.marks_are k).1 (inl ((one.marks_are k).1 (inl before)))
    then_marks k (inr h) =
        elim (Contains-append_cases xs ys k h.0) [
          | inl first ↦ (two.marks_are k).1 (inl ((one.marks_are k).1 (inr (first, h.1))))
          | inr second ↦ (two.marks_are k).1 (inr (second, h.1))
        ]

    listed_then : (k : ℕ) → Contains longer k → Contains listed k ⊎
        (Contains (xs ++ ys) k × (is_marked_level allowed k ≡ true) × ¬ (is_marked_level marks k ≡ true))
    listed_then k h =
        elim ((two.listed_are k).0 h) [
          | inl there ↦ elim ((one.listed_are k).0 there) [
            | inl before ↦ inl before
            | inr first ↦ inr (Contains-append_left xs ys k first.0, first.1, first.2)
          ]
          | inr second ↦ inr (
            Contains-append_right xs ys k second.0,
            second.1,
            λ m. second.2 ((one.marks_are k).1 (inl m)),
          )
        ]

    then_listed : (k : ℕ) → Contains listed k ⊎
        (Contains (xs ++ ys) k × (is_marked_level allowed k ≡ true) × ¬ (is_marked_level marks k ≡ true)) →
        Contains longer k
    then_listed k (inl before) = (two.listed_are k).1 (inl ((one.listed_are k).1 (inl before)))
    then_listed k (inr h) =
        elim (Contains-append_cases xs ys k h.0) [
          | inl first ↦ (two.listed_are k).1 (inl ((one.listed_are k).1 (inr (first, h.1, h.2))))
          | inr second ↦ elim (true_or_false (is_marked_level between k)) [
            | inl there ↦ elim ((one.marks_are k).0 there) [
              | inl before ↦ absurd (h.2 before)
              | inr first ↦ (two.listed_are k).1 (inl ((one.listed_are k).1 (inr (first.0, first.1, h.2))))
            ]
            | inr not_so ↦
                (two.listed_are k).1 (inr (second, h.1, λ m. true≢false (sym m ∙ not_so)))
          ]
        ]

    pub marked_then : AreMarked allowed (xs ++ ys) marks listed after longer
    marked_then = record {
      count = two.count ∙ one.count;
      marks_are = λ k. (marks_then k, then_marks k);
      listed_are = λ k. (listed_then k, then_listed k);
    }

  -- one level that is not new
  pub marked_same : (level : ℕ) (marks : List Bool) (listed : List ℕ) → length marks ≡ length allowed →
      (nat_lt level (length marks) && (is_marked_level allowed level && not (is_marked_level marks level))) ≡ false →
      AreMarked allowed (level ∷ []) marks listed marks listed
  marked_same level marks listed long not_so = record {
    count = refl;
    marks_are = λ k. (
      λ h. inl h,
      λ h. elim h [
        | inl there ↦ there
        | inr other ↦ subst (λ (n : ℕ). is_marked_level marks n ≡ true) (one_level level k other.0)
            (there_already
            (subst (λ (n : ℕ). is_marked_level allowed n ≡ true) (sym (one_level level k other.0)) other.1))
      ],
    );
    listed_are = λ k. (
      λ h. inl h,
      λ h. elim h [
        | inl there ↦ there
        | inr other ↦ absurd (other.2 (subst (λ (n : ℕ). is_marked_level marks n ≡ true) (one_level level k other.0)
            (there_already
            (subst (λ (n : ℕ). is_marked_level allowed n ≡ true) (sym (one_level level k other.0)) other.1))))
      ],
    );
  }
    where
      there_already : is_marked_level allowed level ≡ true → is_marked_level marks level ≡ true
      there_already may =
          let within = marked_within allowed level may in
          by (nat_lt level (length marks)) (is_marked_level allowed level) (is_marked_level marks level)
          (lt-ltb level (length marks) (omega (arith, within, long))) may not_so
        where
          by : (a b c : Bool) → a ≡ true → b ≡ true → (a && (b && not c)) ≡ false → c ≡ true
          by true true true p q e = refl
          by true true false p q e = absurd (cc)
          by true false c p q e = absurd (cc)
          by false b c p q e = absurd (cc)

  -- one that is new
  pub marked_one : (level : ℕ) (marks : List Bool) (listed : List ℕ) →
      (nat_lt level (length marks) && (is_marked_level allowed level && not (is_marked_level marks level))) ≡ true →
      AreMarked allowed (level ∷ []) marks listed (set marks level true) (listed ++ level ∷ [])
  marked_one level marks listed is = record {
    count = length-set marks level true;
    marks_are = λ k. (marks_now k, now_marks k);
    listed_are = λ k. (
      λ h. elim (Contains-push_cases listed level k h) [
        | inl there ↦ inl there
        | inr e ↦ inr (
          subst (Contains (level ∷ [])) e (Contains-head level []),
          subst (λ (n : ℕ). is_marked_level allowed n ≡ true) e may,
          subst (λ (n : ℕ). ¬ (is_marked_level marks n ≡ true)) e not_yet,
        )
      ],
      λ h. elim h [
        | inl there ↦ Contains-append_left listed (level ∷ []) k there
        | inr other ↦ Contains-append_right listed (level ∷ []) k other.0
      ],
    );
  }
    where
      parts : (nat_lt level (length marks) ≡ true) ×
          ((is_marked_level allowed level && not (is_marked_level marks level)) ≡ true)
      parts = and_parts (nat_lt level (length marks))
          (is_marked_level allowed level && not (is_marked_level marks level)) is

      within : level < length marks
      within = ltb-true level (length marks) parts.0

      may : is_marked_level allowed level ≡ true
      may = (and_parts (is_marked_level allowed level) (not (is_marked_level marks level)) parts.1).0

      not_yet : ¬ (is_marked_level marks level ≡ true)
      not_yet m =
          true≢false (sym ((and_parts (is_marked_level allowed level) (not (is_marked_level marks level)) parts.1).1)
          ∙ ap not m)

      marks_now : (k : ℕ) → is_marked_level (set marks level true) k ≡ true →
          (is_marked_level marks k ≡ true) ⊎ (Contains (level ∷ []) k × (is_marked_level allowed k ≡ true))
      marks_now k h =
          elim (cases_eq k level) [
            | inl e ↦ inr (
              subst (Contains (level ∷ [])) (sym e) (Contains-head level []),
              subst (λ (n : ℕ). is_marked_level allowed n ≡ true) (sym e) may,
            )
            | inr other ↦ inl (sym (get_or-set_other marks level k true false other) ∙ h)
          ]

      now_marks : (k : ℕ) →
          (is_marked_level marks k ≡ true) ⊎ (Contains (level ∷ []) k × (is_marked_level allowed k ≡ true)) →
          is_marked_level (set marks level true) k ≡ true
      now_marks k (inr h) =
          subst (λ (n : ℕ). is_marked_level (set marks level true) n ≡ true) (one_level level k h.0)
          (get_or-set_same marks level true false within)
      now_marks k (inl there) =
          elim (cases_eq k level) [
            | inl e ↦
                subst (λ (n : ℕ). is_marked_level (set marks level true) n ≡ true) (sym e)
                (get_or-set_same marks level true false within)
            | inr other ↦ get_or-set_other marks level k true false other ∙ there
          ]

-- a list has the marked levels still
pub listed_more : (allowed : List Bool) (levels : List ℕ) (marks : List Bool) (listed : List ℕ) (after : List Bool)
    (longer : List ℕ) → AreListed marks listed → AreMarked allowed levels marks listed after longer →
    AreListed after longer
listed_more allowed levels marks listed after longer are more k = (
  λ h. elim ((more.listed_are k).0 h) [
    | inl there ↦ (more.marks_are k).1 (inl ((are k).0 there))
    | inr other ↦ (more.marks_are k).1 (inr (other.0, other.1))
  ],
  λ h. elim (true_or_false (is_marked_level marks k)) [
    | inl there ↦ (more.listed_are k).1 (inl ((are k).1 there))
    | inr not_so ↦ elim ((more.marks_are k).0 h) [
      | inl there ↦ (more.listed_are k).1 (inl ((are k).1 there))
      | inr other ↦ (more.listed_are k).1 (inr (other.0, other.1, λ m. true≢false (sym m ∙ not_so)))
    ]
  ],
)
