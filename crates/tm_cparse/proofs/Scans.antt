-- A text is cut token by token.
use Rattle.std.proofs.Common.{◌≡◌, ◌↔◌, ℕ, suc, ◌+◌, ◌<◌, ◌≤◌, Bool, true, false, cond, IsTrue, Option, Some, None, ◌==◌, List, [], ◌∷◌, ◌++◌, length, get_or, take, drop, refl, sym, ap, ap₂, ◌∙◌, subst, append_assoc, length-append, arith}
use Rattle.std.specs.Prelude.{MatchOption, count_by}
use Rattle.std.specs.List.{AllPass, list_all, prefix_len}
use Rattle.std.proofs.lemmas.Bool.{and_parts, and_from, cond-true, cond-false}
use Rattle.std.proofs.lemmas.Bool.Decides.{Decides-eqb}
use Rattle.std.proofs.lemmas.List.{append-nil, take-append-drop}
use Rattle.std.proofs.lemmas.List.Sums.{AllPass-from_list_all, list_all-from_AllPass, count_by-le-length, sum_by-cons, count_by_more_yes, count_by_more_no}
use Rattle.std.proofs.Math.Numerals.{one-add}
use Rattle.tm_syntax.specs.Tokens.{is_blank, is_line_feed}
use Rattle.tm_syntax.specs.Design.{DesignTree}
use Rattle.tm_cparse.specs.declared.spot.Spot.{Spot}
use Rattle.tm_cparse.specs.declared.shape.Found.{Found}
use Rattle.tm_cparse.specs.View.{token_tree}
use Rattle.tm_cparse.specs.Cut.{Standing, open_behind, MayStand, line_behind, IsCut, no_more, blank, spot, BeginsNoBlank}
use Rattle.tm_cparse.specs.Inner.Scanning.{BeginsNoToken, IsFirstToken, IsNoSpot, IsNextSpot, IsBehindBlanks, IsScan}
use Rattle.tm_cparse.proofs.Cuts.{one_token}

-- what a call answers that a caller hands on
pub some_map : {X : Type 0} {Q R : X → Type 0} (P : Type 0) → ((x : X) → Q x → R x) → (r : Option X) →
    MatchOption r P Q → MatchOption r P R
some_map P f None h = h
some_map P f (Some x) h = f x h

-- where a text goes on
abbrev pub standing : ℕ → ℕ → Standing
standing open_count line = record { open_count = open_count; line = line }

-- the lines of blanks
line_step : (line b n : ℕ) (v : Bool) → is_line_feed b ≡ v → line + (cond v 1 0 + n) ≡ cond v (line + 1) line + n
line_step line b n true is = omega arith
line_step line b n false is = omega arith

pub count_step : (line b : ℕ) (bs : List ℕ) →
    line + count_by is_line_feed (b ∷ bs) ≡ line_behind line b + count_by is_line_feed bs
count_step line b bs =
    ap (λ (n : ℕ). line + n) (sum_by-cons (λ (x : ℕ). cond (is_line_feed x) 1 0) b bs)
    ∙ line_step line b (count_by is_line_feed bs) (is_line_feed b) refl

-- blanks in front
cut_blanks : (d : DesignTree) (open_count line : ℕ) (blanks rest : List ℕ) {spots : List Spot} {left : List ℕ}
    {end : Standing} → list_all is_blank blanks ≡ true →
    IsCut d (standing open_count (line + count_by is_line_feed blanks)) rest spots left end →
    IsCut d (standing open_count line) (blanks ++ rest) spots left end
cut_blanks d open_count line [] rest {spots = spots} {left = left} {end = end} are cut =
    let same : line + 0 ≡ line = omega arith in
    subst (λ (n : ℕ). IsCut d (standing open_count n) rest spots left end) same cut
cut_blanks d open_count line (b ∷ bs) rest {spots = spots} {left = left} {end = end} are cut =
    let parts = and_parts (is_blank b) (list_all is_blank bs) are in
    blank parts.0
    (cut_blanks d open_count (line_behind line b) bs rest parts.1
    (subst (λ (n : ℕ). IsCut d (standing open_count n) rest spots left end) (count_step line b bs) cut))

pub behind_blanks : (d : DesignTree) (open_count line last : ℕ) (text rest : List ℕ) {spots : List Spot}
    {left : List ℕ} {end : Standing} → IsBehindBlanks text line rest last →
    IsCut d (standing open_count last) rest spots left end → IsCut d (standing open_count line) text spots left end
behind_blanks d open_count line last text rest {spots = spots} {left = left} {end = end} is cut =
    subst (λ (l : List ℕ). IsCut d (standing open_count line) l spots left end) (sym is.whole)
    (cut_blanks d open_count line is.blanks rest (list_all-from_AllPass is_blank is.blanks is.are)
    (subst (λ (n : ℕ). IsCut d (standing open_count n) rest spots left end) is.line_is cut))

pub line_low : (line last : ℕ) (text rest : List ℕ) → IsBehindBlanks text line rest last →
    last + length rest ≤ line + length text
line_low line last text rest is =
    omega (
      arith,
      is.line_is,
      ap length is.whole,
      length-append is.blanks rest,
      count_by-le-length is_line_feed is.blanks,
    )

-- the blanks in front
no_blank_behind : (text : List ℕ) → BeginsNoBlank (drop (prefix_len is_blank text) text)
no_blank_behind [] = tt
no_blank_behind (b ∷ bs) = of (is_blank b) refl (no_blank_behind bs)
  where
    of : (v : Bool) → is_blank b ≡ v → BeginsNoBlank (drop (prefix_len is_blank bs) bs) →
        BeginsNoBlank (drop (prefix_len is_blank (b ∷ bs)) (b ∷ bs))
    of true is behind =
        let more : prefix_len is_blank (b ∷ bs) ≡ suc (prefix_len is_blank bs) =
        cond-true (is_blank b) (1 + prefix_len is_blank bs) 0 is ∙ one-add _ in
        subst (λ (n : ℕ). BeginsNoBlank (drop n (b ∷ bs))) (sym more) behind
    of false is behind =
        let none : prefix_len is_blank (b ∷ bs) ≡ 0 =
        cond-false (is_blank b) (1 + prefix_len is_blank bs) 0 is in
        subst (λ (n : ℕ). BeginsNoBlank (drop n (b ∷ bs))) (sym none) is

front_passes : (text : List ℕ) → list_all is_blank (take (prefix_len is_blank text) text) ≡ true
front_passes [] = refl
front_passes (b ∷ bs) = of (is_blank b) refl (front_passes bs)
  where
    of : (v : Bool) → is_blank b ≡ v → list_all is_blank (take (prefix_len is_blank bs) bs) ≡ true →
        list_all is_blank (take (prefix_len is_blank (b ∷ bs)) (b ∷ bs)) ≡ true
    of true is behind =
        let more : prefix_len is_blank (b ∷ bs) ≡ suc (prefix_len is_blank bs) =
        cond-true (is_blank b) (1 + prefix_len is_blank bs) 0 is ∙ one-add _ in
        ap (λ (n : ℕ). list_all is_blank (take n (b ∷ bs))) more
        ∙ and_from (is_blank b) (list_all is_blank (take (prefix_len is_blank bs) bs)) is behind
    of false is behind =
        let none : prefix_len is_blank (b ∷ bs) ≡ 0 =
        cond-false (is_blank b) (1 + prefix_len is_blank bs) 0 is in
        ap (λ (n : ℕ). list_all is_blank (take n (b ∷ bs))) none

pub blanks_cut : (text front rest : List ℕ) (n line last : ℕ) → n ≡ prefix_len is_blank text → front ≡ take n text →
    rest ≡ drop n text → last ≡ line + count_by is_line_feed front → IsBehindBlanks text line rest last
blanks_cut text front rest n line last is cut behind line_is = record {
  blanks = front;
  are = subst (AllPass is_blank) (sym (cut ∙ ap (λ (m : ℕ). take m text) is))
      (AllPass-from_list_all is_blank (take (prefix_len is_blank text) text) (front_passes text));
  whole = sym (take-append-drop n text) ∙ ap₂ (λ (a b : List ℕ). a ++ b) (sym cut) (sym behind);
  no_blank = subst BeginsNoBlank (sym (behind ∙ ap (λ (m : ℕ). drop m text) is)) (no_blank_behind text);
  line_is = line_is;
}

-- line feeds, byte by byte
pub line_more : (line last next : ℕ) (bytes : List ℕ) (i : ℕ) → i < length bytes →
    last ≡ line + count_by is_line_feed (take i bytes) → next ≡ line_behind last (get_or bytes i 0) →
    next ≡ line + count_by is_line_feed (take (i + 1) bytes)
line_more line last next bytes i within is so = of (is_line_feed (get_or bytes i 0)) refl
  where
    of : (v : Bool) → is_line_feed (get_or bytes i 0) ≡ v → next ≡ line + count_by is_line_feed (take (i + 1) bytes)
    of true feed =
        let there = cond-true (is_line_feed (get_or bytes i 0)) (last + 1) last feed in
        omega (arith, count_by_more_yes is_line_feed bytes i 0 within feed)
    of false feed =
        let there = cond-false (is_line_feed (get_or bytes i 0)) (last + 1) last feed in
        omega (arith, count_by_more_no is_line_feed bytes i 0 within feed)

-- the next token
pub no_token_there : (open_count line : ℕ) (text : List ℕ) → BeginsNoBlank text → BeginsNoToken text →
    IsNoSpot open_count line text
no_token_there open_count line text no_blank none = record {
  no_blank = no_blank;
  no_token = λ t bytes rest begins. absurd (none t bytes rest begins);
}

pub too_many_open : (d : DesignTree) (open_count line len : ℕ) (text : List ℕ) (found : Found) → BeginsNoBlank text →
    IsFirstToken d text found len → ¬ MayStand open_count (token_tree found.token) → IsNoSpot open_count line text
too_many_open d open_count line len text found no_blank first over = record {
  no_blank = no_blank;
  no_token = λ t bytes rest begins may.
      let same = one_token t (token_tree found.token) text bytes (take len text) rest (drop len text) begins
      first.token in
      over (subst (MayStand open_count) same.0 may);
}

pub next_there : (d : DesignTree) (open_count line len : ℕ) (text : List ℕ) (found : Found) →
    IsFirstToken d text found len → MayStand open_count (token_tree found.token) →
    IsNextSpot d open_count line text (record { token = found.token; known = found.known; line = line }) len
next_there d open_count line len text found first may = record {
  some = first.some;
  fits = first.fits;
  begins = record {
    bytes = take len text;
    token = first.token;
    known = first.known;
    line = refl;
    within = may;
  };
}

-- what the loop keeps
pub record IsSoFar (d : DesignTree) (line : ℕ) (text : List ℕ) (spots : List Spot) (open_count last : ℕ)
    (rest : List ℕ) : Type 0 where
  pub reads : (others : List Spot) (left : List ℕ) (end : Standing) →
      IsCut d (standing open_count last) rest others left end →
      IsCut d (standing 0 line) text (spots ++ others) left end
  pub no_blank : BeginsNoBlank rest
  pub low : last + length rest ≤ line + length text

pub so_far_begins : (d : DesignTree) (line last : ℕ) (text rest : List ℕ) (spots : List Spot) → spots ≡ [] →
    IsBehindBlanks text line rest last → IsSoFar d line text spots 0 last rest
so_far_begins d line last text rest spots none is = record {
  reads = λ others left end cut.
      subst (λ (l : List Spot). IsCut d (standing 0 line) text (l ++ others) left end) (sym none)
      (behind_blanks d 0 line last text rest is cut);
  no_blank = is.no_blank;
  low = line_low line last text rest is;
}

pub so_far_more : (d : DesignTree) (line : ℕ) (text : List ℕ) (spots new : List Spot) (open_count last : ℕ)
    (rest : List ℕ) (s : Spot) (len next behind_line : ℕ) (cut_rest behind : List ℕ) →
    IsSoFar d line text spots open_count last rest → IsNextSpot d open_count last rest s len → new ≡ spots ++ s ∷ [] →
    next ≡ open_behind open_count (token_tree s.token) → cut_rest ≡ drop len rest →
    IsBehindBlanks cut_rest last behind behind_line → IsSoFar d line text new next behind_line behind
so_far_more d line text spots new open_count last rest s len next behind_line cut_rest behind so_far is put open_is
    rest_is blanks = record {
      reads = λ others left end cut.
          let from_blanks : IsCut d (standing next last) (drop len rest) others left end =
          subst (λ (l : List ℕ). IsCut d (standing next last) l others left end) rest_is
          (behind_blanks d next last behind_line cut_rest behind blanks cut) in
          let from_spot : IsCut d (standing open_count last) rest (s ∷ others) left end =
          spot is.begins
          (subst (λ (n : ℕ). IsCut d (standing n last) (drop len rest) others left end) open_is from_blanks) in
          subst (λ (l : List Spot). IsCut d (standing 0 line) text l left end)
          (sym (ap (λ (l : List Spot). l ++ others) put ∙ append_assoc spots (s ∷ []) others))
          (so_far.reads (s ∷ others) left end from_spot);
      no_blank = blanks.no_blank;
      low = omega (
        arith,
        so_far.low,
        line_low last behind_line cut_rest behind blanks,
        ap length rest_is,
        ap length (take-append-drop len rest),
        length-append (take len rest) (drop len rest),
      );
    }

pub empty_so : (rest : List ℕ) (r : Bool) → r ≡ (length rest == 0) → IsTrue r ↔ (rest ≡ [])
empty_so [] r is = (λ yes. refl, λ e. is)
empty_so (b ∷ bs) r is = (
  λ yes.
      let zero : length (b ∷ bs) ≡ 0 = (Decides-eqb (length (b ∷ bs)) 0).0 (sym is ∙ yes) in absurd (omega arith),
  λ e. absurd (cc),
)

pub so_far_ends : (d : DesignTree) (line : ℕ) (text : List ℕ) (spots : List Spot) (open_count last : ℕ)
    (rest : List ℕ) (is_whole : Bool) → IsSoFar d line text spots open_count last rest →
    IsNoSpot open_count last rest → is_whole ≡ (length rest == 0) → IsScan d line text spots last is_whole
so_far_ends d line text spots open_count last rest is_whole so_far stuck empty = record {
  rest = rest;
  end = standing open_count last;
  cut = subst (λ (l : List Spot). IsCut d (standing 0 line) text l rest (standing open_count last)) (append-nil spots)
      (so_far.reads [] rest (standing open_count last) no_more);
  stuck = stuck;
  last_line = refl;
  whole = empty_so rest is_whole empty;
}
