-- The turns of atoms, in order.
use Rattle.std.proofs.Common.{◌≡◌, inl, inr, ℕ, ◌+◌, ◌<◌, Bool, true, List, [], ◌∷◌, ◌++◌, length, refl, sym, ap, ◌∙◌, subst, arith, true≢false}
use Rattle.std.specs.Prelude.{Contains, slice_index_or}
use Rattle.std.proofs.lemmas.Bool.{cases_eq}
use Rattle.std.proofs.lemmas.List.{get_or_append_left, get_or_default, get_or_push, length_push}
use Rattle.std.proofs.lemmas.List.Elements.{Contains-append_left, Contains-push}
use Rattle.tm_abs.proofs.Marking.{no_level}
use Rattle.tm_abs.specs.declared.atoms.Atom.{Atom}
use Rattle.tm_abs.specs.declared.turns.Turn.{Turn}
use Rattle.tm_abs.specs.Inner.Marks.{AreListed, AreMarked}
use Rattle.tm_abs.specs.Inner.Turns.{AreTurnsBelow, AreTurnsOf, IsEnded, IsReadBelow, IsTurnAt}
use Rattle.tm_ddops.specs.Quantified.{is_marked_level}
use Rattle.tm_game_bits.proofs.Leading.{true_or_false}

module _ (gone : List Bool) (atoms : List Atom) where
  -- before any atom
  pub no_turns : (marks : List Bool) → ((k : ℕ) → ¬ (is_marked_level marks k ≡ true)) →
      AreTurnsBelow gone atoms 0 marks []
  no_turns marks none = record {
    count = refl;
    each = λ i t a below. absurd (omega (arith, below));
    marked = λ k. (λ h. absurd (none k h), λ h. absurd (omega (arith, h.1.2)));
    ended = λ k h. absurd (none k h);
  }

  module _ (n : ℕ) (marks : List Bool) (turns : List Turn) (so_far : AreTurnsBelow gone atoms n marks turns)
      (atom : Atom) (within : n < length atoms) (here : slice_index_or atoms n atom ≡ atom) (turn : Turn)
      (level : turn.level ≡ atom.level) (holds : turn.holds ≡ atom.holds) (after : List Bool)
      (are : AreMarked gone atom.reads.items marks [] after turn.ends.items) where
    ends_new : (k : ℕ) → Contains turn.ends.items k →
        Contains atom.reads.items k × (is_marked_level gone k ≡ true) × ¬ (is_marked_level marks k ≡ true)
    ends_new k h =
        elim ((are.listed_are k).0 h) [
          | inl there ↦ absurd (no_level k there)
          | inr other ↦ other
        ]

    this_turn : (b : Atom) → IsTurnAt gone atoms n turn (slice_index_or atoms n b)
    this_turn b =
        let is : atom ≡ slice_index_or atoms n b = sym here ∙ get_or_default atoms n atom b within in
        record {
          level = level ∙ ap (λ (a : Atom). a.level) is;
          holds = holds ∙ ap (λ (a : Atom). a.holds) is;
          ends = λ k h. (ends_new k h).1;
          later = λ k j c before h read.
              let inside : j < length atoms = omega (arith, before, within) in
              (ends_new k h).2 ((so_far.marked k).1 (
                (ends_new k h).1,
                (
                  j,
                  slice_index_or atoms j c,
                  before,
                  get_or_default atoms j (slice_index_or atoms j c) c inside,
                  read,
                ),
              ));
        }

    each_turn : (i : ℕ) (t : Turn) (a : Atom) → i < n + 1 →
        IsTurnAt gone atoms i (slice_index_or (turns ++ turn ∷ []) i t) (slice_index_or atoms i a)
    each_turn i t a below =
        elim (cases_eq i n) [
          | inl e ↦
              let last = get_or_push turns turn t i (so_far.count ∙ sym e) in
              subst (λ (x : Turn). IsTurnAt gone atoms i x (slice_index_or atoms i a)) (sym last)
              (subst (λ (m : ℕ). IsTurnAt gone atoms m turn (slice_index_or atoms m a)) (sym e) (this_turn a))
          | inr other ↦
              let count = so_far.count in
              let inside : i < n = omega (arith, below, other) in
              let early = get_or_append_left turns (turn ∷ []) t i (omega (arith, inside, count)) in
              subst (λ (x : Turn). IsTurnAt gone atoms i x (slice_index_or atoms i a)) (sym early)
              (so_far.each i t a inside)
        ]

    marked_now : (k : ℕ) → is_marked_level after k ≡ true →
        (is_marked_level gone k ≡ true) × IsReadBelow atoms (n + 1) k
    marked_now k h =
        elim ((are.marks_are k).0 h) [
          | inl there ↦
              let old = (so_far.marked k).0 there in
              let early = old.1.2 in
              (old.0, (old.1.0, old.1.1, omega (arith, early), old.1.3, old.1.4))
          | inr other ↦ (other.1, (n, atom, omega arith, here, other.0))
        ]

    now_marked : (k : ℕ) → (is_marked_level gone k ≡ true) × IsReadBelow atoms (n + 1) k →
        is_marked_level after k ≡ true
    now_marked k h =
        elim (cases_eq h.1.0 n) [
          | inl e ↦
              let is : h.1.1 ≡ atom = sym h.1.3 ∙ ap (λ (m : ℕ). slice_index_or atoms m h.1.1) e
              ∙ get_or_default atoms n h.1.1 atom within ∙ here in
              (are.marks_are k).1 (inr (subst (λ (a : Atom). Contains a.reads.items k) is h.1.4, h.0))
          | inr other ↦
              let below = h.1.2 in
              let inside : h.1.0 < n = omega (arith, below, other) in
              (are.marks_are k).1 (inl ((so_far.marked k).1 (
                h.0,
                (h.1.0, h.1.1, inside, h.1.3, h.1.4),
              )))
        ]

    ended_now : (k : ℕ) → is_marked_level after k ≡ true → IsEnded (turns ++ turn ∷ []) k
    ended_now k h =
        elim (true_or_false (is_marked_level marks k)) [
          | inl there ↦
              let old = so_far.ended k there in
              (old.0, Contains-append_left turns (turn ∷ []) old.0 old.1, old.2)
          | inr not_so ↦ elim ((are.marks_are k).0 h) [
            | inl there ↦ absurd (true≢false (sym there ∙ not_so))
            | inr other ↦ (
              turn,
              Contains-push turns turn,
              (are.listed_are k).1 (inr (other.0, other.1, λ m. true≢false (sym m ∙ not_so))),
            )
          ]
        ]

    pub turn_more : AreTurnsBelow gone atoms (n + 1) after (turns ++ turn ∷ [])
    turn_more = record {
      count = length_push turns turn ∙ ap (λ (m : ℕ). m + 1) so_far.count;
      each = each_turn;
      marked = λ k. (marked_now k, now_marked k);
      ended = ended_now;
    }

  -- after all of them
  pub turns_done : (marks : List Bool) (turns : List Turn) (levels : List ℕ) (after : List Bool) (unread : List ℕ) →
      AreListed gone levels → AreTurnsBelow gone atoms (length atoms) marks turns →
      AreMarked gone levels marks [] after unread → AreTurnsOf gone atoms unread turns
  turns_done marks turns levels after unread listed all are = record {
    count = all.count;
    each = all.each;
    unread_gone = λ k h. (left k h).1;
    unread_by = λ k a h there read.
        (left k h).2 ((all.marked k).1 ((left k h).1, (there.0, a, there.1, there.2, read)));
    all = λ k h. elim (true_or_false (is_marked_level marks k)) [
      | inl there ↦ inr (all.ended k there)
      | inr not_so ↦ inl ((are.listed_are k).1 (inr ((listed k).1 h, h, λ m. true≢false (sym m ∙ not_so))))
    ];
  }
    where
      left : (k : ℕ) → Contains unread k →
          Contains levels k × (is_marked_level gone k ≡ true) × ¬ (is_marked_level marks k ≡ true)
      left k h =
          elim ((are.listed_are k).0 h) [
            | inl there ↦ absurd (no_level k there)
            | inr other ↦ other
          ]
