-- The token in front of a structured text: one of both sorts of texts, or one that this text alone has.
use Rattle.std.proofs.Common.{◌≡◌, ◌↔◌, ℕ, Bool, true, false, IsTrue, Option, None, Some, List, [], ◌∷◌, length, take}
use Rattle.std.proofs.Common.{drop, codes, refl, sym, ap, ◌∙◌, subst, true≢false, arith}
use Rattle.std.specs.Prelude.{MatchOption}
use Rattle.std.specs.Fmt.{decimal}
use Rattle.std.specs.List.{prefix_len}
use Rattle.std.proofs.lemmas.List.{take_at, take-append-drop, length-take}
use Rattle.std.proofs.lemmas.List.Sums.{prefix_len-le-length}
use Rattle.tm_syntax.specs.Tokens.{continues_name}
use Rattle.tm_syntax.specs.Design.{DesignTree}
use Rattle.tm_cir.specs.Text.Token.{Token, word, label, goto}
use Rattle.tm_cir.specs.Text.Spelling.{BeginsNoWord}
use Rattle.tm_cir.proofs.Text.Expressions.{same_inside}
use Rattle.tm_cparse.specs.declared.spot.Spot.{Spot}
use Rattle.tm_cparse.specs.View.{token_tree}
use Rattle.tm_cparse.specs.Cut.{IsNumber, item_number, MayStand, BeginsNoBlank}
use Rattle.tm_cparse.specs.Inner.Scanning as c
use Rattle.tm_cparse.proofs.Cuts.{no_word_behind, ends_word, one_token}
use Rattle.tm_struct_parse.specs.Cut.{IsFunctionName, IsSpelled, BeginsToken}
use Rattle.tm_struct_parse.specs.Inner.Scanning.{is_common, IsOwnToken, IsNoOwnToken, BeginsNoOwnToken, IsNextSpot}
use Rattle.tm_struct_parse.specs.Inner.Scanning.{IsNoSpot}
use Rattle.tm_struct_parse.proofs.Spelled.{Sort, a_static, a_function, common, sort_of, is_common_token, spelled_some}
use Rattle.tm_struct_parse.proofs.Spelled.{from_common, to_common, own_apart, own_cut}

-- a token of both sorts of texts
pub common_next : (d : DesignTree) (open_count line : ℕ) (text : List ℕ) (s : Spot) (len : ℕ) →
    c.IsNextSpot d open_count line text s len → is_common (token_tree s.token) ≡ true →
    IsNextSpot d open_count line text s len
common_next d open_count line text s len next is =
    let both = is_common_token (token_tree s.token) is in
    record {
      some = next.some;
      fits = next.fits;
      begins = record {
        bytes = next.begins.bytes;
        token = from_common both next.begins.token;
        known = (
          λ known. both.same d ∙ next.begins.known.0 known,
          λ named. next.begins.known.1 (sym (both.same d) ∙ named),
        );
        line = next.begins.line;
        within = next.begins.within;
      };
    }

-- a token that the C text with jumps alone has
pub jump_next : (d : DesignTree) (open_count line : ℕ) (text : List ℕ) (s : Spot) (len : ℕ) → BeginsNoBlank text →
    c.IsNextSpot d open_count line text s len → is_common (token_tree s.token) ≡ false →
    IsNoSpot open_count line text
jump_next d open_count line text s len no_blank next not = record {
  no_blank = no_blank;
  no_token = λ t bytes rest begins may. apart t bytes rest begins (is_common t) refl;
}
  where
    apart : (t : Token) (bytes rest : List ℕ) → BeginsToken text t bytes rest → (v : Bool) → is_common t ≡ v → ⊥
    apart t bytes rest begins false own =
        own_apart t (token_tree s.token) text bytes next.begins.bytes rest (drop len text) own begins next.begins.token
    apart t bytes rest begins true is =
        let same = one_token t (token_tree s.token) text bytes next.begins.bytes rest (drop len text)
        (to_common (is_common_token t is) begins) next.begins.token in
        true≢false (sym is ∙ ap is_common same.0 ∙ not)

-- a token that structured text alone has
own_ends : (t : Token) → is_common t ≡ false → c.IsRunToken t
own_ends t own = of (sort_of t) own
  where
    of : {u : Token} → Sort u → is_common u ≡ false → c.IsRunToken u
    of a_static own = tt
    of (a_function k) own = tt
    of (common both) own = absurd (true≢false (sym both.is ∙ own))

own_within : (open_count : ℕ) (t : Token) → is_common t ≡ false → MayStand open_count t
own_within open_count t own = of (sort_of t) own
  where
    of : {u : Token} → Sort u → is_common u ≡ false → MayStand open_count u
    of a_static own = tt
    of (a_function k) own = tt
    of (common both) own = absurd (true≢false (sym both.is ∙ own))

pub own_next : (d : DesignTree) (open_count line : ℕ) (text run : List ℕ) (s : Spot) (len : ℕ) →
    len ≡ prefix_len continues_name text → run ≡ take len text → s.line ≡ line →
    IsOwnToken run (token_tree s.token) s.known → IsNextSpot d open_count line text s len
own_next d open_count line text run s len is run_is line_is own = record {
  some = omega (
    arith,
    spelled_some (token_tree s.token) run own.spelled,
    ap length run_is,
    length-take len text,
  );
  fits = omega (arith, is, prefix_len-le-length continues_name text);
  begins = record {
    bytes = take len text;
    token = record {
      spelled = subst (IsSpelled (token_tree s.token)) run_is own.spelled;
      ends = ends_word (token_tree s.token) (drop len text) (own_ends (token_tree s.token) own.own)
          (subst (λ (n : ℕ). BeginsNoWord (drop n text)) (sym is) (no_word_behind text));
      whole = sym (take-append-drop len text);
    };
    known = (
      λ known. (own.known_so d).0 known ∙ ap Some run_is,
      λ named. (own.known_so d).1 (named ∙ ap Some (sym run_is)),
    );
    line = line_is;
    within = own_within open_count (token_tree s.token) own.own;
  };
}

-- no such token
pub no_own : (text run : List ℕ) (len : ℕ) → len ≡ prefix_len continues_name text → run ≡ take len text →
    IsNoOwnToken run → BeginsNoOwnToken text
no_own text run len is run_is none t bytes rest own begins =
    let bytes_are : bytes ≡ run =
    sym (take_at bytes rest len (sym (is ∙ own_cut t text bytes rest own begins)))
    ∙ ap (take len) (sym begins.whole) ∙ sym run_is in
    none t own (subst (IsSpelled t) bytes_are begins.spelled)

pub none_next : (open_count line : ℕ) (text : List ℕ) → c.IsNoSpot open_count line text → BeginsNoOwnToken text →
    IsNoSpot open_count line text
none_next open_count line text none no_own_token = record {
  no_blank = none.no_blank;
  no_token = λ t bytes rest begins may. stuck t bytes rest begins may (is_common t) refl;
}
  where
    stuck : (t : Token) (bytes rest : List ℕ) → BeginsToken text t bytes rest → MayStand open_count t → (v : Bool) →
        is_common t ≡ v → ⊥
    stuck t bytes rest begins may true is =
        none.no_token t bytes rest (to_common (is_common_token t is) begins) may
    stuck t bytes rest begins may false own = no_own_token t bytes rest own begins

-- the answer of a search for a token that structured text alone has
pub own_answer : (d : DesignTree) (open_count line : ℕ) (text : List ℕ) (r : Option (Spot × ℕ)) →
    c.IsNoSpot open_count line text →
    MatchOption r (BeginsNoOwnToken text)
    (λ found. (e : DesignTree) (n : ℕ) → IsNextSpot e n line text found.0 found.1) →
    MatchOption r (IsNoSpot open_count line text) (λ found. IsNextSpot d open_count line text found.0 found.1)
own_answer d open_count line text None none found = none_next open_count line text none found
own_answer d open_count line text (Some spot) none found = found d open_count

-- `static`
pub static_is : (run : List ℕ) → run ≡ codes "static" → IsOwnToken run (word goto) true
static_is run is = record {
  own = refl;
  spelled = is;
  known_so = λ d. ((λ known. ap Some (sym is)), (λ named. refl));
}

-- neither it nor the name of a function
pub no_own_token : (run : List ℕ) → ¬ (run ≡ codes "static") → ((k : ℕ) → ¬ IsFunctionName k run) → IsNoOwnToken run
no_own_token run not none t own spelled = of (sort_of t) own spelled
  where
    of : {u : Token} → Sort u → is_common u ≡ false → IsSpelled u run → ⊥
    of a_static own spelled = not spelled
    of (a_function k) own spelled = none k spelled
    of (common both) own spelled = true≢false (sym both.is ∙ own)

-- the name of a function
pub function_is : (digits : List ℕ) (number : ℕ) (exact : Bool) → IsNumber digits → number ≡ item_number digits →
    (IsTrue exact ↔ (decimal number ≡ digits)) → IsOwnToken (98 ∷ digits) (label number) exact
function_is digits number exact is value so = record {
  own = refl;
  spelled = record { digits = digits; number = is; value = value; are = refl };
  known_so = λ d. (
    (λ known. ap (λ (l : List ℕ). Some (98 ∷ l)) (so.0 known)),
    (λ named. so.1 (tail (same_inside named))),
  );
}
  where
    tail : {xs ys : List ℕ} → 98 ∷ xs ≡ 98 ∷ ys → xs ≡ ys
    tail e = cc

-- no function is named so
pub no_name : (run digits : List ℕ) (first : ℕ) → run ≡ first ∷ digits → ¬ ((first ≡ 98) × IsNumber digits) → (k : ℕ) →
    IsFunctionName k run → ⊥
no_name run digits first is none k name =
    let both : first ∷ digits ≡ 98 ∷ name.digits = sym is ∙ name.are in
    let letter : first ≡ 98 = cc in
    let rest : name.digits ≡ digits = cc in
    none (letter, subst IsNumber rest name.number)

pub empty_name : (run : List ℕ) → run ≡ [] → (k : ℕ) → IsFunctionName k run → ⊥
empty_name run none k name = let wrong : [] ≡ 98 ∷ name.digits = sym none ∙ name.are in cc
