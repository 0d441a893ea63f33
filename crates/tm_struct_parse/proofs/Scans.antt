-- A structured text is cut token by token.
use Rattle.std.proofs.Common.{◌≡◌, ℕ, ◌+◌, ◌≤◌, Bool, true, ◌==◌, List, [], ◌∷◌, ◌++◌, length, take, drop, refl, sym}
use Rattle.std.proofs.Common.{ap, ◌∙◌, subst, append_assoc, length-append, arith}
use Rattle.std.specs.Prelude.{count_by}
use Rattle.std.specs.List.{list_all}
use Rattle.std.proofs.lemmas.Bool.{and_parts}
use Rattle.std.proofs.lemmas.List.{append-nil, take-append-drop}
use Rattle.std.proofs.lemmas.List.Sums.{list_all-from_AllPass}
use Rattle.tm_syntax.specs.Tokens.{is_blank, is_line_feed}
use Rattle.tm_syntax.specs.Design.{DesignTree}
use Rattle.tm_cparse.specs.declared.spot.Spot.{Spot}
use Rattle.tm_cparse.specs.View.{token_tree}
use Rattle.tm_cparse.specs.Cut.{Standing, open_behind, line_behind, BeginsNoBlank}
use Rattle.tm_cparse.specs.Inner.Scanning.{IsBehindBlanks}
use Rattle.tm_cparse.proofs.Scans.{standing, count_step, line_low, empty_so}
use Rattle.tm_struct_parse.specs.Cut.{IsCut, no_more, blank, spot}
use Rattle.tm_struct_parse.specs.Inner.Scanning.{IsNoSpot, IsNextSpot, IsScan}

-- blanks in front
cut_blanks : (d : DesignTree) (open_count line : ℕ) (blanks rest : List ℕ) {spots : List Spot} {left : List ℕ}
    {end : Standing} → list_all is_blank blanks ≡ true →
    IsCut d (standing open_count (line + count_by is_line_feed blanks)) rest spots left end →
    IsCut d (standing open_count line) (blanks ++ rest) spots left end
cut_blanks d open_count line [] rest {spots = spots} {left = left} {end = end} are cut =
    let same : line + 0 ≡ line = omega arith in
    subst (λ (n : ℕ). IsCut d (standing open_count n) rest spots left end) same cut
cut_blanks d open_count line (b ∷ bs) rest {spots = spots} {left = left} {end = end} are cut =
    let parts = and_parts (is_blank b) (list_all is_blank bs) are in
    blank parts.0
    (cut_blanks d open_count (line_behind line b) bs rest parts.1
    (subst (λ (n : ℕ). IsCut d (standing open_count n) rest spots left end) (count_step line b bs) cut))

pub behind_blanks : (d : DesignTree) (open_count line last : ℕ) (text rest : List ℕ) {spots : List Spot}
    {left : List ℕ} {end : Standing} → IsBehindBlanks text line rest last →
    IsCut d (standing open_count last) rest spots left end → IsCut d (standing open_count line) text spots left end
behind_blanks d open_count line last text rest {spots = spots} {left = left} {end = end} is cut =
    subst (λ (l : List ℕ). IsCut d (standing open_count line) l spots left end) (sym is.whole)
    (cut_blanks d open_count line is.blanks rest (list_all-from_AllPass is_blank is.blanks is.are)
    (subst (λ (n : ℕ). IsCut d (standing open_count n) rest spots left end) is.line_is cut))

-- what the loop keeps
pub record IsSoFar (d : DesignTree) (line : ℕ) (text : List ℕ) (spots : List Spot) (open_count last : ℕ)
    (rest : List ℕ) : Type 0 where
  pub reads : (others : List Spot) (left : List ℕ) (end : Standing) →
      IsCut d (standing open_count last) rest others left end →
      IsCut d (standing 0 line) text (spots ++ others) left end
  pub no_blank : BeginsNoBlank rest
  pub low : last + length rest ≤ line + length text

pub so_far_begins : (d : DesignTree) (line last : ℕ) (text rest : List ℕ) (spots : List Spot) → spots ≡ [] →
    IsBehindBlanks text line rest last → IsSoFar d line text spots 0 last rest
so_far_begins d line last text rest spots none is = record {
  reads = λ others left end cut.
      subst (λ (l : List Spot). IsCut d (standing 0 line) text (l ++ others) left end) (sym none)
      (behind_blanks d 0 line last text rest is cut);
  no_blank = is.no_blank;
  low = line_low line last text rest is;
}

pub so_far_more : (d : DesignTree) (line : ℕ) (text : List ℕ) (spots new : List Spot) (open_count last : ℕ)
    (rest : List ℕ) (s : Spot) (len next behind_line : ℕ) (cut_rest behind : List ℕ) →
    IsSoFar d line text spots open_count last rest → IsNextSpot d open_count last rest s len → new ≡ spots ++ s ∷ [] →
    next ≡ open_behind open_count (token_tree s.token) → cut_rest ≡ drop len rest →
    IsBehindBlanks cut_rest last behind behind_line → IsSoFar d line text new next behind_line behind
so_far_more d line text spots new open_count last rest s len next behind_line cut_rest behind so_far is put open_is
    rest_is blanks = record {
      reads = λ others left end cut.
          let from_blanks : IsCut d (standing next last) (drop len rest) others left end =
          subst (λ (l : List ℕ). IsCut d (standing next last) l others left end) rest_is
          (behind_blanks d next last behind_line cut_rest behind blanks cut) in
          let from_spot : IsCut d (standing open_count last) rest (s ∷ others) left end =
          spot is.begins
          (subst (λ (n : ℕ). IsCut d (standing n last) (drop len rest) others left end) open_is from_blanks) in
          subst (λ (l : List Spot). IsCut d (standing 0 line) text l left end)
          (sym (ap (λ (l : List Spot). l ++ others) put ∙ append_assoc spots (s ∷ []) others))
          (so_far.reads (s ∷ others) left end from_spot);
      no_blank = blanks.no_blank;
      low = omega (
        arith,
        so_far.low,
        line_low last behind_line cut_rest behind blanks,
        ap length rest_is,
        ap length (take-append-drop len rest),
        length-append (take len rest) (drop len rest),
      );
    }

pub so_far_ends : (d : DesignTree) (line : ℕ) (text : List ℕ) (spots : List Spot) (open_count last : ℕ)
    (rest : List ℕ) (is_whole : Bool) → IsSoFar d line text spots open_count last rest →
    IsNoSpot open_count last rest → is_whole ≡ (length rest == 0) → IsScan d line text spots last is_whole
so_far_ends d line text spots open_count last rest is_whole so_far stuck empty = record {
  rest = rest;
  end = standing open_count last;
  cut = subst (λ (l : List Spot). IsCut d (standing 0 line) text l rest (standing open_count last)) (append-nil spots)
      (so_far.reads [] rest (standing open_count last) no_more);
  stuck = stuck;
  last_line = refl;
  whole = empty_so rest is_whole empty;
}
