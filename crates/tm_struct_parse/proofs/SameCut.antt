-- A structured text is cut into tokens in one way.
use Rattle.std.proofs.Common.{◌≡◌, ℕ, ◌≤◌, true, Some, List, ◌∷◌, ◌++◌, length, refl, sym, ap, ap₂, ◌∙◌, subst}
use Rattle.std.proofs.Common.{true≢false, length-append, arith}
use Rattle.tm_syntax.specs.Tokens.{is_blank}
use Rattle.tm_syntax.specs.Design.{DesignTree}
use Rattle.tm_cir.specs.Text.Token.{Token}
use Rattle.tm_cparse.specs.declared.spot.Spot.{Spot}
use Rattle.tm_cparse.specs.View.{token_tree}
use Rattle.tm_cparse.specs.Cut.{Standing, open_behind}
use Rattle.tm_cparse.specs.Faults.{line_after}
use Rattle.tm_cparse.proofs.Tokens.{token_injective}
use Rattle.tm_cparse.proofs.SameCut.{IsSameCut, same_known, same_parts, same_body, same_line}
use Rattle.tm_struct.specs.Text.Spelling.{spelling}
use Rattle.tm_struct_parse.specs.Cut.{BeginsToken, BeginsSpot, IsCut, no_more, blank, spot, IsStuck}
use Rattle.tm_struct_parse.specs.Faults.{IsScanned}
use Rattle.tm_struct_parse.proofs.Spelled.{one_token, spelled_first, spelled_some}

-- no token begins with a blank
no_blank_token : (b : ℕ) (text : List ℕ) (t : Token) (bytes rest : List ℕ) → is_blank b ≡ true →
    BeginsToken (b ∷ text) t bytes rest → ⊥
no_blank_token b text t bytes rest is begins =
    let first = spelled_first t bytes begins.spelled in
    let whole : b ∷ text ≡ first.0 ∷ (first.1 ++ rest) =
    begins.whole ∙ ap (λ (l : List ℕ). l ++ rest) first.2 in
    let same : b ≡ first.0 = cc in
    true≢false (sym is ∙ ap is_blank same ∙ first.3)

record IsSameSpot (s r : Spot) (rest behind : List ℕ) : Type 0 where
  spots : s ≡ r
  rests : rest ≡ behind

same_spot : (d : DesignTree) (at : Standing) (text : List ℕ) (s r : Spot) (rest behind : List ℕ) →
    BeginsSpot d at text s rest → BeginsSpot d at text r behind → IsSameSpot s r rest behind
same_spot d at text s r rest behind one other =
    let same = one_token (token_tree s.token) (token_tree r.token) text one.bytes other.bytes rest behind one.token
    other.token in
    let token : s.token ≡ r.token = token_injective s.token r.token same.0 in
    record {
      spots = same_parts s r token
          (same_known s.known r.known (spelling d (token_tree s.token) ≡ Some one.bytes)
          (spelling d (token_tree r.token) ≡ Some other.bytes) one.known other.known
          (λ is. sym (ap (spelling d) same.0) ∙ is ∙ ap (λ (l : List ℕ). Some l) same.1)
          (λ is. ap (spelling d) same.0 ∙ is ∙ ap (λ (l : List ℕ). Some l) (sym same.1)))
          (one.line ∙ sym other.line);
      rests = same.2;
    }

blank_stuck : (at : Standing) (b : ℕ) (text : List ℕ) → is_blank b ≡ true → IsStuck at (b ∷ text) → ⊥
blank_stuck at b text is stuck = true≢false (sym is ∙ stuck.no_blank)

spot_stuck : (d : DesignTree) (at : Standing) (text : List ℕ) (s : Spot) (rest : List ℕ) →
    BeginsSpot d at text s rest → IsStuck at text → ⊥
spot_stuck d at text s rest begins stuck =
    stuck.no_token (token_tree s.token) begins.bytes rest begins.token begins.within

pub same_cut : (d : DesignTree) {at end last : Standing} {text rest behind : List ℕ} {spots others : List Spot} →
    IsCut d at text spots rest end → IsStuck end rest → IsCut d at text others behind last → IsStuck last behind →
    IsSameCut spots others rest behind end last
same_cut d no_more one no_more other = record { lists = refl; rests = refl; ends = refl }
same_cut d {at = at} no_more one (blank {b = b} {text = text} is cut) other = absurd (blank_stuck at b text is one)
same_cut d {at = at} {text = text} no_more one (spot {behind = after} {s = s} begins cut) other =
    absurd (spot_stuck d at text s after begins one)
same_cut d {at = at} (blank {b = b} {text = text} is cut) one no_more other = absurd (blank_stuck at b text is other)
same_cut d (blank is cut) one (blank _ again) other = same_cut d cut one again other
same_cut d (blank {b = b} {text = text} is cut) one (spot {behind = after} {s = s} begins again) other =
    absurd (no_blank_token b text (token_tree s.token) begins.bytes after is begins.token)
same_cut d {at = at} {text = text} (spot {behind = after} {s = s} begins cut) one no_more other =
    absurd (spot_stuck d at text s after begins other)
same_cut d (spot {behind = after} {s = s} begins cut) one (blank {b = b} {text = text} is again) other =
    absurd (no_blank_token b text (token_tree s.token) begins.bytes after is begins.token)
same_cut d {at = at} {end = end} {last = last} {text = text} {rest = rest} {behind = behind}
    (spot {behind = after} {s = s} {spots = spots} begins cut) one
    (spot {behind = next} {s = r} {spots = others} starts again) other =
    let same = same_spot d at text s r after next begins starts in
    let again' : IsCut d (record { open_count = open_behind at.open_count (token_tree s.token); line = at.line }) after
    others behind last =
    subst (λ (l : List ℕ).
    IsCut d (record { open_count = open_behind at.open_count (token_tree s.token); line = at.line }) l others behind
    last)
    (sym same.rests)
    (subst (λ (x : Spot).
    IsCut d (record { open_count = open_behind at.open_count (token_tree x.token); line = at.line }) next others behind
    last) (sym same.spots) again) in
    let behind_it = same_cut d cut one again' other in
    record {
      lists = ap₂ (λ (x : Spot) (l : List Spot). x ∷ l) same.spots behind_it.lists;
      rests = behind_it.rests;
      ends = behind_it.ends;
    }

-- each token takes a byte
pub cut_short : (d : DesignTree) {at end : Standing} {text rest : List ℕ} {spots : List Spot} →
    IsCut d at text spots rest end → length spots ≤ length text
cut_short d no_more = omega arith
cut_short d (blank {text = text} {spots = spots} is cut) = omega (arith, cut_short d cut)
cut_short d (spot {text = text} {behind = after} {s = s} {spots = spots} begins cut) =
    omega (
      arith,
      cut_short d cut,
      ap length begins.token.whole,
      length-append begins.bytes after,
      spelled_some (token_tree s.token) begins.bytes begins.token.spelled,
    )

-- the tokens of a text are one list
pub same_scan : (d : DesignTree) (text : List ℕ) (spots others : List Spot) (rest behind : List ℕ)
    (end last : Standing) → IsScanned d text spots rest end → IsScanned d text others behind last →
    IsSameCut spots others rest behind end last
same_scan d text spots others rest behind end last one other =
    let body : other.body ≡ one.body = same_body text other.body one.body other.include one.include in
    let line : line_after other.front ≡ line_after one.front =
    same_line text other.front one.front one.body
    (other.whole ∙ ap (λ (l : List ℕ). other.front ++ l) body) one.whole in
    let cut : IsCut d (record { open_count = 0; line = line_after one.front }) one.body others behind last =
    subst (λ (n : ℕ). IsCut d (record { open_count = 0; line = n }) one.body others behind last) line
    (subst (λ (l : List ℕ). IsCut d (record { open_count = 0; line = line_after other.front }) l others behind last)
    body
    other.cut) in
    same_cut d one.cut one.stuck cut other.stuck
