-- The ranked regions of goals, and what blocks do while goals are pending, one after the other.
use Rattle.std.proofs.Common.{◌≡◌, ◌⊎◌, inl, inr, ℕ, ◌+◌, ◌<◌, List, [], ◌∷◌, ◌++◌, Vec, Some, length, refl, sym, ap}
use Rattle.std.proofs.Common.{◌∙◌, subst, arith, get_or, map, true}
use Rattle.std.specs.Prelude.{slice_get}
use Rattle.std.specs.declared.alloc.Global.{Global}
use Rattle.std.specs.Option.{option_map, option_map_or}
use Rattle.std.proofs.lemmas.List.{length_push}
use Rattle.std.proofs.lemmas.Option.{slice_get-get_or, slice_get-map, slice_get_within}
use Rattle.tm_check.specs.declared.replies.Replies.{Replies}
use Rattle.tm_check.specs.Replies.{AreReplies}
use Rattle.tm_check.proofs.KeepingReplies.{replies_kept}
use Rattle.tm_check.proofs.Pushed.{pushed_at}
use Rattle.tm_cert.specs.declared.cert.Rank.{Rank}
use Rattle.tm_check.specs.declared.loaded.DriverDiagrams.{DriverDiagrams}
use Rattle.tm_check.specs.declared.loaded.RankedDiagrams.{RankedDiagrams}
use Rattle.tm_check.specs.Leaving.{AreAnswers}
use Rattle.tm_check.specs.Loaded.{AreDiagrams, AreRankedDiagrams, row_at}
use Rattle.tm_check.proofs.Keeping.{row_kept}
use Rattle.tm_cir.specs.Tree.{BlockTree}
use Rattle.tm_game.specs.Game.{GameData, Grows, IsStates}
use Rattle.tm_sem.specs.Certificates.{DriverSets, RankedSet}
use Rattle.tm_syntax.specs.Design.{DesignTree}
use Rattle.tm_term.proofs.Growth.{element_at}

-- ---- ranked regions
pub record AreFirstRows (d : DesignTree) (g : GameData) (goals : List (List RankedSet)) (count : ℕ)
    (rows : List (Vec RankedDiagrams Global)) : Type 0 where
  pub long : length rows ≡ count
  pub each : (j : ℕ) (ranked : List RankedSet) (row : Vec RankedDiagrams Global) → slice_get goals j ≡ Some ranked →
      slice_get rows j ≡ Some row → AreRankedDiagrams d g.order g.diagrams.table ranked row.items

pub rows_none : (d : DesignTree) (g : GameData) (goals : List (List RankedSet)) → AreFirstRows d g goals 0 []
rows_none d g goals = record { long = refl; each = λ j ranked row this there. absurd (cc) }

pub rows_more : (d : DesignTree) (g h : GameData) (goals : List (List RankedSet)) (count : ℕ)
    (rows : List (Vec RankedDiagrams Global)) (ranked : List RankedSet) (row : Vec RankedDiagrams Global) → Grows g h →
    AreFirstRows d g goals count rows → slice_get goals count ≡ Some ranked →
    AreRankedDiagrams d h.order h.diagrams.table ranked row.items →
    AreFirstRows d h goals (count + 1) (rows ++ row ∷ [])
rows_more d g h goals count rows ranked row grows so_far here is = record {
  long = omega (arith, length_push rows row, so_far.long);
  each = each;
}
  where
    each : (j : ℕ) (other : List RankedSet) (x : Vec RankedDiagrams Global) → slice_get goals j ≡ Some other →
        slice_get (rows ++ row ∷ []) j ≡ Some x → AreRankedDiagrams d h.order h.diagrams.table other x.items
    each j other x this there = by (pushed_at rows row j x there)
      where
        by : (slice_get rows j ≡ Some x) ⊎ ((j ≡ length rows) × (row ≡ x)) →
            AreRankedDiagrams d h.order h.diagrams.table other x.items
        by (inl before) = row_kept d g h grows other x.items (so_far.each j other x this before)
        by (inr (end, same)) =
            let place : j ≡ count = end ∙ so_far.long in
            let one : Some other ≡ Some ranked = sym this ∙ ap (slice_get goals) place ∙ here in
            let own : ranked ≡ other = cc in
            subst (λ (y : Vec RankedDiagrams Global). AreRankedDiagrams d h.order h.diagrams.table other y.items) same
            (subst (λ (z : List RankedSet). AreRankedDiagrams d h.order h.diagrams.table z row.items) own is)

-- ---- answers
pub record AreFirstAnswers (d : DesignTree) (bs : List BlockTree) (g : GameData) (count : ℕ) (answers : List Replies) :
    Type 0 where
  pub long : length answers ≡ count
  pub each : (goal : ℕ) (r : Replies) → slice_get answers goal ≡ Some r → AreReplies d g goal bs r

pub answers_none : (d : DesignTree) (bs : List BlockTree) (g : GameData) → AreFirstAnswers d bs g 0 []
answers_none d bs g = record { long = refl; each = λ goal r there. absurd (cc) }

pub answers_more : (d : DesignTree) (bs : List BlockTree) (g h : GameData) (count : ℕ) (answers : List Replies)
    (r : Replies) → Grows g h → AreFirstAnswers d bs g count answers → AreReplies d h count bs r →
    AreFirstAnswers d bs h (count + 1) (answers ++ r ∷ [])
answers_more d bs g h count answers r grows so_far is = record {
  long = omega (arith, length_push answers r, so_far.long);
  each = each;
}
  where
    each : (goal : ℕ) (x : Replies) → slice_get (answers ++ r ∷ []) goal ≡ Some x → AreReplies d h goal bs x
    each goal x there = by (pushed_at answers r goal x there)
      where
        by : (slice_get answers goal ≡ Some x) ⊎ ((goal ≡ length answers) × (r ≡ x)) → AreReplies d h goal bs x
        by (inl before) = replies_kept d g h grows goal bs x (so_far.each goal x before)
        by (inr (end, same)) =
            subst (AreReplies d h goal bs) same
            (subst (λ (n : ℕ). AreReplies d h n bs r) (sym (end ∙ so_far.long)) is)

pub answers_all : (d : DesignTree) (bs : List BlockTree) (g : GameData) (count : ℕ) (answers : List Replies) →
    count ≡ length d.goals → AreFirstAnswers d bs g count answers → AreAnswers d bs g answers
answers_all d bs g count answers all are = record { count = are.long ∙ all; each = are.each }

-- ---- the rows of a certificate
pub row_here : (rows : List (Vec Rank Global)) (goals : List (List Rank)) (k : ℕ) (row : Vec Rank Global) →
    map (λ (r : Vec Rank Global). r.items) rows ≡ goals → k < length rows → row ≡ get_or rows k row →
    slice_get goals k ≡ Some row.items
row_here rows goals k row same below is =
    ap (λ (gs : List (List Rank)). slice_get gs k) (sym same)
    ∙ slice_get-map (λ (r : Vec Rank Global). r.items) rows k
    ∙ ap (option_map (λ (r : Vec Rank Global). r.items))
    (slice_get-get_or rows k row below ∙ ap (λ (r : Vec Rank Global). Some r) (sym is))

-- all rows are read
pub rows_all : (d : DesignTree) (g h : GameData) → Grows g h → (c : DriverSets) (told : DriverDiagrams) (count : ℕ) →
    length c.goals ≡ count → IsStates d h.order h.diagrams.table (λ t. c.region t ≡ true) told.region →
    AreFirstRows d h c.goals count told.goals.items → AreDiagrams d g.order h.diagrams.table c told
rows_all d g h grows c told count all region are = record {
  region = subst (λ (o : List ℕ). IsStates d o h.diagrams.table (λ t. c.region t ≡ true) told.region) grows.order
      region;
  count = are.long ∙ sym all;
  each = λ j ranked this.
      let row = element_at told.goals.items j (omega (arith, are.long, all, slice_get_within c.goals j ranked this)) in
      subst (λ (o : List ℕ). AreRankedDiagrams d o h.diagrams.table ranked (row_at told j)) grows.order
      (subst (AreRankedDiagrams d h.order h.diagrams.table ranked)
      (sym (ap (λ o. option_map_or (λ (r : Vec RankedDiagrams Global). r.items) o []) row.1))
      (are.each j ranked row.0 this row.1));
}
