-- Where a block ends well, from where those behind it do.
use Rattle.std.proofs.Common.{◌≡◌, ℕ, ◌+◌, ◌-◌, ◌<◌, ◌⊎◌, inl, inr, Bool, true, false, List, [], ◌∷◌, ◌++◌, Some}
use Rattle.std.proofs.Common.{length, get_or, cond, refl, sym, ap, ◌∙◌, subst, arith}
use Rattle.std.specs.Prelude.{◌&&◌, All, slice_get, if◌then◌else◌}
use Rattle.std.proofs.lemmas.Option.{slice_get-get_or, slice_get_within}
use Rattle.tm_check.specs.declared.replies.Reply.{Reply}
use Rattle.tm_check.specs.declared.replies.Reply.TheVariants as replies
use Rattle.tm_check.specs.Good.{AreMovesFor, FitsReply, IsGoodFrom, IsGoodReply}
use Rattle.tm_check.specs.Replies.{IsMove, IsReply, move_of, shape_of}
use Rattle.tm_check.proofs.Pushed.{pushed_at}
use Rattle.tm_game_bits.specs.AssignedStates.{state_of}
use Rattle.tm_cir.specs.Answer.{AnswersFrom, calls, goes_first, goes_second, idles, leaves}
use Rattle.tm_cir.specs.Fit.{FitsBlock}
use Rattle.tm_cir.specs.Meaning.{holds}
use Rattle.tm_cir.specs.Tree.{BlockTree, TruthTree, call, idle, leave, test}
use Rattle.tm_cir.proofs.Following.{IsReadAs, read}
use Rattle.tm_dd.specs.declared.node.NodeId.{NodeId}
use Rattle.tm_dd.specs.Reduced.{Extends}
use Rattle.tm_dd.specs.Table.{Knows, Table, means}
use Rattle.tm_ddops.specs.Manager.{IsFunction}
use Rattle.tm_ddops.specs.Operation.{substituted}
use Rattle.tm_game_bits.proofs.Extended.{IsSetOf-Extends}
use Rattle.tm_game_bits.proofs.Sets.{both_true}
use Rattle.tm_game.specs.declared.moves.MoveShape.{MoveShape}
use Rattle.tm_game.specs.Game.{IsStates}
use Rattle.tm_game.specs.Moves.{AreMoves, IsGoodMove, move_at}
use Rattle.tm_sem.specs.declared.state.Move.{Move}
use Rattle.tm_sem.specs.State.{StateData}
use Rattle.tm_sem.specs.Step.{IsState}
use Rattle.tm_syntax.specs.Design.{DesignTree}

module _ (d : DesignTree) (order : List ℕ) (bs : List BlockTree) (goal : ℕ) (within : StateData → Type 0) where
  -- ---- a test
  module _ (s u : Table) (at first second : ℕ) (truth : TruthTree) (test_id one other id : NodeId)
      (here : slice_get bs at ≡ Some (test truth first second))
      (tests : IsFunction s test_id (λ v. holds (state_of d order v) goal truth))
      (one_is : IsStates d order s (IsGoodFrom d bs goal within first) one)
      (other_is : IsStates d order s (IsGoodFrom d bs goal within second) other)
      (is : IsFunction u id (λ v. if means s test_id v then means s one v else means s other v)) where
    reads : (st : StateData) (m : Move) → AnswersFrom bs st goal at m →
        (holds st goal truth ≡ true → AnswersFrom bs st goal first m)
        × (holds st goal truth ≡ false → AnswersFrom bs st goal second m)
    reads st m answers = subst (IsReadAs bs st goal m) here (read bs st goal answers)

    told : (v : ℕ → Bool) (b : Bool) → means s test_id v ≡ b →
        cond b (means s one v) (means s other v) ≡ true →
        IsState d (state_of d order v) × IsGoodFrom d bs goal within at (state_of d order v)
    told v true so h =
        let found = one_is.only v h in (
          found.0,
          λ m answers. found.1 m ((reads (state_of d order v) m answers).0 (sym (tests.meaning v) ∙ so)),
        )
    told v false so h =
        let found = other_is.only v h in (
          found.0,
          λ m answers. found.1 m ((reads (state_of d order v) m answers).1 (sym (tests.meaning v) ∙ so)),
        )

    back : (v : ℕ → Bool) (b : Bool) → means s test_id v ≡ b → IsState d (state_of d order v) →
        IsGoodFrom d bs goal within at (state_of d order v) →
        cond b (means s one v) (means s other v) ≡ true
    back v true so valid good =
        one_is.all v (valid, λ m answers. good m (goes_first here (sym (tests.meaning v) ∙ so) answers))
    back v false so valid good =
        other_is.all v (valid, λ m answers. good m (goes_second here (sym (tests.meaning v) ∙ so) answers))

    pub test_good : IsStates d order u (IsGoodFrom d bs goal within at) id
    test_good = record {
      known = is.known;
      only = λ v h. told v (means s test_id v) refl (sym (is.meaning v) ∙ h);
      all = λ v h. is.meaning v ∙ back v (means s test_id v) refl h.0 h.1;
    }

  -- ---- a move
  module _ (s u : Table) (at : ℕ) (move : StateData → Move) (shape : MoveShape) (fits moves id : NodeId)
      (parts : List (ℕ × NodeId)) (is_move : IsMove d order s move shape fits parts)
      (moves_are : AreMoves d order s shape within moves)
      (only : (st : StateData) (m : Move) → AnswersFrom bs st goal at m → m ≡ move st)
      (made : (st : StateData) → AnswersFrom bs st goal at (move st))
      (is : IsFunction u id (λ v. means s moves (substituted s parts v) && means s fits v)) where
    is_good : (v : ℕ → Bool) → means s fits v ≡ true →
        IsGoodMove d within (state_of d order (substituted s parts v)) (move_at d order shape (substituted s parts v)) →
        IsGoodMove d within (state_of d order v) (move (state_of d order v))
    is_good v fit good =
        subst (λ (st : StateData). IsGoodMove d within st (move (state_of d order v))) (is_move.one_state v)
        (subst (IsGoodMove d within (state_of d order (substituted s parts v))) (is_move.told v fit) good)

    was_good : (v : ℕ → Bool) → means s fits v ≡ true →
        IsGoodMove d within (state_of d order v) (move (state_of d order v)) →
        IsGoodMove d within (state_of d order (substituted s parts v)) (move_at d order shape (substituted s parts v))
    was_good v fit good =
        subst (IsGoodMove d within (state_of d order (substituted s parts v))) (sym (is_move.told v fit))
        (subst (λ (st : StateData). IsGoodMove d within st (move (state_of d order v))) (sym (is_move.one_state v))
        good)

    both : (v : ℕ → Bool) (b : Bool) → means s fits v ≡ b →
        IsGoodMove d within (state_of d order v) (move (state_of d order v)) →
        (means s moves (substituted s parts v) && b) ≡ true
    both v true fit good =
        let there = moves_are.all (substituted s parts v) (was_good v fit good) in
        λ i. there i && true
    both v false fit good = absurd (is_move.forbidden v fit good.allowed)

    pub move_good : IsStates d order u (IsGoodFrom d bs goal within at) id
    move_good = record {
      known = is.known;
      only = λ v h.
          let parts_are = both_true (means s moves (substituted s parts v)) (means s fits v)
          (sym (is.meaning v) ∙ h) in
          let good = is_good v parts_are.1 (moves_are.only (substituted s parts v) parts_are.0) in (
            good.state,
            λ m answers.
                subst (IsGoodMove d within (state_of d order v)) (sym (only (state_of d order v) m answers)) good,
          );
      all = λ v h.
          is.meaning v
          ∙ both v (means s fits v) refl (h.1 (move (state_of d order v)) (made (state_of d order v)));
    }

-- ---- from the last block on
-- the blocks behind one end well where these hold, from the last one on
pub record AreBehind (d : DesignTree) (order : List ℕ) (s : Table) (bs : List BlockTree) (goal : ℕ)
    (within : StateData → Type 0) (count : ℕ) (from_last : List NodeId) : Type 0 where
  pub each : (k : ℕ) (id : NodeId) → slice_get from_last k ≡ Some id →
      IsStates d order s (IsGoodFrom d bs goal within (count - 1 - k)) id

pub behind_none : (d : DesignTree) (order : List ℕ) (s : Table) (bs : List BlockTree) (goal : ℕ)
    (within : StateData → Type 0) (count : ℕ) → AreBehind d order s bs goal within count []
behind_none d order s bs goal within count = record { each = λ k id there. absurd (cc) }

pub behind_more : (d : DesignTree) (order : List ℕ) (s t : Table) (bs : List BlockTree) (goal : ℕ)
    (within : StateData → Type 0) (count : ℕ) (from_last : List NodeId) (id : NodeId) → Extends s t →
    AreBehind d order s bs goal within count from_last →
    IsStates d order t (IsGoodFrom d bs goal within (count - 1 - length from_last)) id →
    AreBehind d order t bs goal within count (from_last ++ id ∷ [])
behind_more d order s t bs goal within count from_last id e are good = record { each = each }
  where
    each : (k : ℕ) (x : NodeId) → slice_get (from_last ++ id ∷ []) k ≡ Some x →
        IsStates d order t (IsGoodFrom d bs goal within (count - 1 - k)) x
    each k x there = by (pushed_at from_last id k x there)
      where
        by : (slice_get from_last k ≡ Some x) ⊎ ((k ≡ length from_last) × (id ≡ x)) →
            IsStates d order t (IsGoodFrom d bs goal within (count - 1 - k)) x
        by (inl before) =
            IsSetOf-Extends s t e
            (λ v. IsState d (state_of d order v)
            × IsGoodFrom d bs goal within (count - 1 - k) (state_of d order v)) x (are.each k x before)
        by (inr (last, same)) =
            subst (λ (y : NodeId). IsStates d order t (IsGoodFrom d bs goal within (count - 1 - k)) y) same
            (subst (λ (n : ℕ). IsStates d order t (IsGoodFrom d bs goal within (count - 1 - n)) id) (sym last) good)

-- ---- a reply
module _ (d : DesignTree) (order : List ℕ) (s : Table) (bs : List BlockTree) (goal count at : ℕ)
    (known : List MoveShape) (moves from_last : List NodeId) where
  -- a reply leads to blocks that are known, and moves by a shape that is there
  pub reply_fits : (b : BlockTree) (r : Reply) → FitsBlock d count at b → IsReply d order s goal known b r →
      length from_last + at + 1 ≡ count → All (Knows s) from_last → length moves ≡ length known →
      All (Knows s) moves → FitsReply s moves from_last count r
  reply_fits (test t first second) (replies.Test h one other) fits is long below same there = (
    is.0.known,
    below,
    omega (arith, is.1, fits.1),
    omega (arith, is.1, fits.1),
    omega (arith, is.2, fits.2),
    omega (arith, is.2, fits.2),
  )
  reply_fits (test t first second) (replies.Move number fits_id parts) fits is long below same there = absurd is
  reply_fits (call task args) (replies.Test h one other) fits is long below same there = absurd is
  reply_fits (call task args) (replies.Move number fits_id parts) fits is long below same there = (
    is.move.fits_known,
    there,
    omega (arith, slice_get_within known number _ is.shape),
    is.move.parts_known,
  )
  reply_fits (leave p) (replies.Test h one other) fits is long below same there = absurd is
  reply_fits (leave p) (replies.Move number fits_id parts) fits is long below same there = (
    is.move.fits_known,
    there,
    omega (arith, slice_get_within known number _ is.shape),
    is.move.parts_known,
  )
  reply_fits idle (replies.Test h one other) fits is long below same there = absurd is
  reply_fits idle (replies.Move number fits_id parts) fits is long below same there = (
    is.move.fits_known,
    there,
    omega (arith, slice_get_within known number _ is.shape),
    is.move.parts_known,
  )

  module _ (u : Table) (within : StateData → Type 0) (id : NodeId) (are : AreMovesFor d order s within known moves)
      (behind : AreBehind d order s bs goal within count from_last) (long : length from_last + at + 1 ≡ count) where
    -- where a later block ends well
    later : (target : ℕ) → at < target → target < count →
        (x : NodeId) × (slice_get from_last (count - 1 - target) ≡ Some x)
        × IsStates d order s (IsGoodFrom d bs goal within target) x
    later target after before =
        let there = slice_get-get_or from_last (count - 1 - target) id (omega arith) in
        let place : count - 1 - (count - 1 - target) ≡ target = omega arith in (
          get_or from_last (count - 1 - target) id,
          there,
          subst (λ (n : ℕ).
              IsStates d order s (IsGoodFrom d bs goal within n) (get_or from_last (count - 1 - target) id)) place
              (behind.each (count - 1 - target) (get_or from_last (count - 1 - target) id) there),
        )

    -- a move by a shape of the list
    moved : (b : BlockTree) (number : ℕ) (fits : NodeId) (parts : List (ℕ × NodeId)) →
        slice_get known number ≡ Some (shape_of b) → IsMove d order s (move_of goal b) (shape_of b) fits parts →
        ((st : StateData) (m : Move) → AnswersFrom bs st goal at m → m ≡ move_of goal b st) →
        ((st : StateData) → AnswersFrom bs st goal at (move_of goal b st)) →
        ((move : NodeId) → slice_get moves number ≡ Some move →
        IsFunction u id (λ v. means s move (substituted s parts v) && means s fits v)) →
        IsStates d order u (IsGoodFrom d bs goal within at) id
    moved b number fits parts shape is only made good =
        let there = slice_get-get_or moves number id
        (omega (arith, slice_get_within known number (shape_of b) shape, are.count)) in
        move_good d order bs goal within s u at (move_of goal b) (shape_of b) fits (get_or moves number id) id parts is
        (are.each number (shape_of b) (get_or moves number id) shape there) only made
        (good (get_or moves number id) there)

    pub reply_good : (b : BlockTree) (r : Reply) → slice_get bs at ≡ Some b → FitsBlock d count at b →
        IsReply d order s goal known b r → IsGoodReply s u moves from_last count r id →
        IsStates d order u (IsGoodFrom d bs goal within at) id
    reply_good (test t first second) (replies.Test h one other) here fits is good =
        let first_is = later first fits.1.0 fits.1.1 in
        let second_is = later second fits.2.0 fits.2.1 in
        test_good d order bs goal within s u at first second t h first_is.0 second_is.0 id here is.0 first_is.2
        second_is.2
        (good first_is.0 second_is.0 (ap (λ n. slice_get from_last (count - 1 - n)) is.1 ∙ first_is.1)
        (ap (λ n. slice_get from_last (count - 1 - n)) is.2 ∙ second_is.1))
    reply_good (test t first second) (replies.Move number fits_id parts) here fits is good = absurd is
    reply_good (call task args) (replies.Test h one other) here fits is good = absurd is
    reply_good (call task args) (replies.Move number fits_id parts) here fits is good =
        moved (call task args) number fits_id parts.items is.shape is.move
        (λ st m answers. subst (IsReadAs bs st goal m) here (read bs st goal answers)) (λ st. calls here) good
    reply_good (leave p) (replies.Test h one other) here fits is good = absurd is
    reply_good (leave p) (replies.Move number fits_id parts) here fits is good =
        moved (leave p) number fits_id parts.items is.shape is.move
        (λ st m answers. subst (IsReadAs bs st goal m) here (read bs st goal answers)) (λ st. leaves here) good
    reply_good idle (replies.Test h one other) here fits is good = absurd is
    reply_good idle (replies.Move number fits_id parts) here fits is good =
        moved idle number fits_id parts.items is.shape is.move
        (λ st m answers. subst (IsReadAs bs st goal m) here (read bs st goal answers)) (λ st. idles here) good
