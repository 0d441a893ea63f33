-- Whatever a run comes to with some choices, a run that reads bits comes to with some bits, whatever bits are given
-- past the room.
use Rattle.std.proofs.Common.{◌≡◌, ◌≢◌, ℕ, zero, suc, ◌≤◌, Bool, Option, None, Some, List, [], ◌∷◌, ◌++◌, refl, sym, ◌∙◌, subst, append-nil, arith, MatchOption}
use Rattle.std.specs.Option.{option_and_then}
use Rattle.std.specs.List.{list_any}
use Rattle.tm_base.specs.declared.place.Place.{Place}
use Rattle.tm_syntax.specs.Tree.{row_of}
use Rattle.tm_syntax.specs.Scopes.Pauses.{call_depth}
use Rattle.tm_syntax.specs.Design.{DesignTree}
use Rattle.tm_syntax.specs.Design.Cells.{Called}
use Rattle.tm_syntax.specs.Design.Work.{WorkItem, perform, deliver, body_items}
use Rattle.tm_syntax.specs.Scopes.Parts.{body_stmts}
use Rattle.tm_sem.specs.Value.{Memory, overruns}
use Rattle.tm_sem.specs.Run.{Ending, finished, blocked, goes_on, acts, progress, Run, none_left, valued}
use Rattle.tm_flat.specs.Positions.{stmt_after, body_after, item_after}
use Rattle.tm_flat.specs.BitRun.{behind, stmt_ending, body_ending, reader, item_ending, items_ending}
use Rattle.tm_flat.specs.Fitting.{BodyFits, ItemFits, ItemsFit}
use Rattle.tm_flat.proofs.Finding.{Found, ended, fallen, Finds, open_run, at_end_all, unless_found, stmt_found, row_stop, body_found, delivers_found, passes, then_found}
use Rattle.tm_flat_moves.specs.Items.{items_after}

module _ (d : DesignTree) (room : ℕ) where
  -- bodies, where calls nest at most so deep
  body_stop : (depth : ℕ) (callee : Called) (k i : ℕ) → BodyFits room depth d callee k →
      body_after depth d callee k ≡ Some i → i ≤ room
  body_stop zero callee k i fits is = absurd fits
  body_stop (suc depth) callee k i fits is =
      row_stop d room (body_after depth d) (BodyFits room depth d) callee.scope (row_of (body_stmts callee.body)) k i
      fits is

  bodies_found : (depth : ℕ) (callee : Called) (trail : List Place) (k : ℕ) (m : Memory) →
      BodyFits room depth d callee k →
      Finds d room k (goes_on (body_items callee.scope trail callee.body) m)
      (λ b. body_ending depth d b callee trail k m) (body_after depth d callee k)
  bodies_found zero callee trail k m fits = absurd fits
  bodies_found (suc depth) callee trail k m fits =
      body_found d room (body_after depth d) (body_ending depth d) (BodyFits room depth d) (body_stop depth)
      (bodies_found depth) callee trail k m fits

  item_found : (item : WorkItem) (k : ℕ) (m : Memory) → ItemFits room d item k →
      Finds d room k (λ cs. progress d m cs item) (λ b. item_ending d b item k m) (item_after d item k)
  item_found (perform scope trail s) k m fits =
      unless_found d room (list_any (overruns d scope m) (valued s)) k (λ cs. acts d scope trail m cs s)
      (λ b. stmt_ending (reader d b) scope trail s k m) (stmt_after (body_after (call_depth d.spec) d) d scope s k)
      (stmt_found d room (body_after (call_depth d.spec) d) (body_ending (call_depth d.spec) d)
      (BodyFits room (call_depth d.spec) d) (body_stop (call_depth d.spec)) (bodies_found (call_depth d.spec)) scope
      trail s k m fits)
  item_found (deliver target scope e) k m fits = delivers_found d room target scope e k m

  pub items_start : (items : List WorkItem) (k : ℕ) → ItemsFit room d items k → k ≤ room
  items_start [] k fits = fits
  items_start (first ∷ others) k fits = fits.0

  items_found : (items : List WorkItem) (k : ℕ) (m : Memory) → ItemsFit room d items k →
      Finds d room k (goes_on items m) (λ b. items_ending d b items k m) (items_after d items k)
  items_found [] k m fits = passes d room k m
  items_found (first ∷ others) k m fits = λ rest e there cs run.
      then_found d room k (λ b. item_ending d b first k m) (item_after d first k) (items_after d (first ∷ others) k)
      (λ b. behind (item_after d first k) (λ i. items_ending d b others i)) others rest e
      (item_found first k m fits.1 (others ++ rest) e there cs (open_run run))
      (λ i n ds is left.
      let more : ItemsFit room d others i =
      subst (λ (o : Option ℕ). MatchOption o (Unit {0}) (λ j. ItemsFit room d others j)) is fits.2 in (
        items_start others i more,
        subst
            (λ (o : Option ℕ). Found d room i (λ b. behind o (λ j. items_ending d b others j) n)
            (option_and_then (λ j. items_after d others j) o) rest e)
            (sym is) (items_found others i n more rest e there ds left),
      ))

  items_stop : (items : List WorkItem) (k i : ℕ) → ItemsFit room d items k → items_after d items k ≡ Some i → i ≤ room
  items_stop [] k i fits is = let same : k ≡ i = cc in subst (λ (x : ℕ). x ≤ room) same fits
  items_stop (first ∷ others) k i fits is =
      of (item_after d first k) (λ j. items_stop others j i) fits.2 is
    where
      of : (o : Option ℕ) →
          ((j : ℕ) → ItemsFit room d others j → items_after d others j ≡ Some i → i ≤ room) →
          MatchOption o (Unit {0}) (λ j. ItemsFit room d others j) →
          option_and_then (λ j. items_after d others j) o ≡ Some i → i ≤ room
      of None f left is = absurd (cc)
      of (Some j) f left is = f j left is

-- bits as these are given past the room
pub given_bits : (d : DesignTree) (room k : ℕ) (items : List WorkItem) → ItemsFit room d items k → (m : Memory)
    (cs : List ℕ) (e : Ending) → Run d items m cs e → e ≢ blocked → (given : ℕ → Bool) →
    (bits : ℕ → Bool) × ((p : ℕ) → room ≤ p → bits p ≡ given p) × (items_ending d bits items k m ≡ e)
given_bits d room k items fits m cs e run there given =
    of (items_found d room items k m fits [] e there cs
    (subst (λ (l : List WorkItem). Run d l m cs e) (sym (append-nil items)) run))
  where
    -- nothing is left of a run at its end
    at_the_end : (n : Memory) (ds : List ℕ) → Run d [] n ds e → finished n ≡ e
    at_the_end n ds (none_left is) = at_end_all ds (finished n) e there (sym is)

    of : Found d room k (λ b. items_ending d b items k m) (items_after d items k) [] e →
        (bits : ℕ → Bool) × ((p : ℕ) → room ≤ p → bits p ≡ given p) × (items_ending d bits items k m ≡ e)
    of (ended is give) = (
      (give given).bits,
      (give given).kept,
      (give given).leads (give given).bits (λ p h. refl),
    )
    of (fallen n ds i is rises left give) =
        let within : i ≤ room = items_stop d room items k i fits is in (
          (give given).bits,
          λ p h. (give given).kept p (omega arith),
          (give given).leads (give given).bits (λ p h. refl) ∙ at_the_end n ds left,
        )
