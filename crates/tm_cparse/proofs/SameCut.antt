-- A text is cut into tokens in one way.
use Rattle.std.proofs.Common.{◌≡◌, ◌↔◌, ℕ, ◌≤◌, Bool, true, false, cond, ◌==◌, Some, List, [], ◌∷◌, ◌++◌, length, drop, IsTrue, refl, sym, ap, ap₂, ◌∙◌, subst, true≢false, length-append, arith}
use Rattle.std.specs.Prelude.{count_by}
use Rattle.std.proofs.lemmas.List.{append_cancel_left}
use Rattle.tm_syntax.specs.Tokens.{is_blank, is_line_feed}
use Rattle.tm_syntax.specs.Design.{DesignTree}
use Rattle.tm_cir.specs.Text.Token.{Token}
use Rattle.tm_cir.specs.Text.Spelling.{token_text, EndsLine, space, tab, carriage_return, line_feed, HasInclude}
use Rattle.tm_cparse.specs.declared.token.Token as code
use Rattle.tm_cparse.specs.declared.spot.Spot.{Spot}
use Rattle.tm_cparse.specs.View.{token_tree}
use Rattle.tm_cparse.specs.Cut.{Standing, BeginsToken, BeginsSpot, IsCut, no_more, blank, spot, IsStuck, open_behind}
use Rattle.tm_cparse.specs.Faults.{line_after, IsScanned}
use Rattle.tm_cparse.proofs.Tokens.{token_injective}
use Rattle.tm_cparse.proofs.Cuts.{one_token}
use Rattle.tm_cparse.proofs.Spelled.{spelled_first, spelled_some}
use Rattle.tm_cparse.proofs.Fronts.{include_text, skipped, feeds_behind}

-- no token begins with a blank
no_blank_token : (b : ℕ) (text : List ℕ) (t : Token) (bytes rest : List ℕ) → is_blank b ≡ true →
    BeginsToken (b ∷ text) t bytes rest → ⊥
no_blank_token b text t bytes rest is begins =
    let first = spelled_first t bytes begins.spelled in
    let whole : b ∷ text ≡ first.0 ∷ (first.1 ++ rest) =
    begins.whole ∙ ap (λ (l : List ℕ). l ++ rest) first.2 in
    let same : b ≡ first.0 = cc in
    true≢false (sym is ∙ ap is_blank same ∙ first.3)

pub same_known : (p q : Bool) (X Y : Type 0) → (IsTrue p ↔ X) → (IsTrue q ↔ Y) → (X → Y) → (Y → X) → p ≡ q
same_known true true X Y one other to from = refl
same_known false false X Y one other to from = refl
same_known true false X Y one other to from = sym (other.1 (to (one.0 refl)))
same_known false true X Y one other to from = one.1 (from (other.0 refl))

pub same_parts : (s r : Spot) → s.token ≡ r.token → s.known ≡ r.known → s.line ≡ r.line → s ≡ r
same_parts s r token known line =
    ap (λ (t : code.Token). record { token = t; known = s.known; line = s.line }) token
    ∙ ap (λ (k : Bool). record { token = r.token; known = k; line = s.line }) known
    ∙ ap (λ (l : ℕ). record { token = r.token; known = r.known; line = l }) line

record IsSameSpot (s r : Spot) (rest behind : List ℕ) : Type 0 where
  spots : s ≡ r
  rests : rest ≡ behind

same_spot : (d : DesignTree) (at : Standing) (text : List ℕ) (s r : Spot) (rest behind : List ℕ) →
    BeginsSpot d at text s rest → BeginsSpot d at text r behind → IsSameSpot s r rest behind
same_spot d at text s r rest behind one other =
    let same = one_token (token_tree s.token) (token_tree r.token) text one.bytes other.bytes rest behind one.token
    other.token in
    let token : s.token ≡ r.token = token_injective s.token r.token same.0 in
    record {
      spots = same_parts s r token
          (same_known s.known r.known (token_text d (token_tree s.token) ≡ Some one.bytes)
          (token_text d (token_tree r.token) ≡ Some other.bytes) one.known other.known
          (λ is. sym (ap (token_text d) same.0) ∙ is ∙ ap (λ (l : List ℕ). Some l) same.1)
          (λ is. ap (token_text d) same.0 ∙ is ∙ ap (λ (l : List ℕ). Some l) (sym same.1)))
          (one.line ∙ sym other.line);
      rests = same.2;
    }

pub record IsSameCut (spots others : List Spot) (rest behind : List ℕ) (end last : Standing) : Type 0 where
  pub lists : spots ≡ others
  pub rests : rest ≡ behind
  pub ends : end ≡ last

blank_stuck : (at : Standing) (b : ℕ) (text : List ℕ) → is_blank b ≡ true → IsStuck at (b ∷ text) → ⊥
blank_stuck at b text is stuck = true≢false (sym is ∙ stuck.no_blank)

spot_stuck : (d : DesignTree) (at : Standing) (text : List ℕ) (s : Spot) (rest : List ℕ) →
    BeginsSpot d at text s rest → IsStuck at text → ⊥
spot_stuck d at text s rest begins stuck =
    stuck.no_token (token_tree s.token) begins.bytes rest begins.token begins.within

pub same_cut : (d : DesignTree) {at end last : Standing} {text rest behind : List ℕ} {spots others : List Spot} →
    IsCut d at text spots rest end → IsStuck end rest → IsCut d at text others behind last → IsStuck last behind →
    IsSameCut spots others rest behind end last
same_cut d no_more one no_more other = record { lists = refl; rests = refl; ends = refl }
same_cut d {at = at} no_more one (blank {b = b} {text = text} is cut) other = absurd (blank_stuck at b text is one)
same_cut d {at = at} {text = text} no_more one (spot {behind = after} {s = s} begins cut) other =
    absurd (spot_stuck d at text s after begins one)
same_cut d {at = at} (blank {b = b} {text = text} is cut) one no_more other = absurd (blank_stuck at b text is other)
same_cut d (blank is cut) one (blank _ again) other = same_cut d cut one again other
same_cut d (blank {b = b} {text = text} is cut) one (spot {behind = after} {s = s} begins again) other =
    absurd (no_blank_token b text (token_tree s.token) begins.bytes after is begins.token)
same_cut d {at = at} {text = text} (spot {behind = after} {s = s} begins cut) one no_more other =
    absurd (spot_stuck d at text s after begins other)
same_cut d (spot {behind = after} {s = s} begins cut) one (blank {b = b} {text = text} is again) other =
    absurd (no_blank_token b text (token_tree s.token) begins.bytes after is begins.token)
same_cut d {at = at} {end = end} {last = last} {text = text} {rest = rest} {behind = behind}
    (spot {behind = after} {s = s} {spots = spots} begins cut) one
    (spot {behind = next} {s = r} {spots = others} starts again) other =
    let same = same_spot d at text s r after next begins starts in
    let again' : IsCut d (record { open_count = open_behind at.open_count (token_tree s.token); line = at.line }) after
    others behind last =
    subst (λ (l : List ℕ).
    IsCut d (record { open_count = open_behind at.open_count (token_tree s.token); line = at.line }) l others behind
    last)
    (sym same.rests)
    (subst (λ (x : Spot).
    IsCut d (record { open_count = open_behind at.open_count (token_tree x.token); line = at.line }) next others behind
    last) (sym same.spots) again) in
    let behind_it = same_cut d cut one again' other in
    record {
      lists = ap₂ (λ (x : Spot) (l : List Spot). x ∷ l) same.spots behind_it.lists;
      rests = behind_it.rests;
      ends = behind_it.ends;
    }

-- each token takes a byte
pub cut_short : (d : DesignTree) {at end : Standing} {text rest : List ℕ} {spots : List Spot} →
    IsCut d at text spots rest end → length spots ≤ length text
cut_short d no_more = omega arith
cut_short d (blank {text = text} {spots = spots} is cut) = omega (arith, cut_short d cut)
cut_short d (spot {text = text} {behind = after} {s = s} {spots = spots} begins cut) =
    omega (
      arith,
      cut_short d cut,
      ap length begins.token.whole,
      length-append begins.bytes after,
      spelled_some (token_tree s.token) begins.bytes begins.token.spelled,
    )

-- what stands behind the line of the include
abbrev past_line : List ℕ → List ℕ
past_line [] = []
past_line (b ∷ bs) = cond (b == 10) bs (cond (b == 13) (drop 1 bs) (past_line bs))

line_read : {text rest : List ℕ} → EndsLine text rest → past_line text ≡ rest
line_read (space ends) = line_read ends
line_read (tab ends) = line_read ends
line_read carriage_return = refl
line_read line_feed = refl

pub same_body : (text one other : List ℕ) → HasInclude text one → HasInclude text other → one ≡ other
same_body text one other first second =
    let lines : first.line ≡ second.line =
    append_cancel_left include_text first.line second.line
    (sym (skipped first.include refl) ∙ skipped second.include refl) in
    sym (line_read first.ends) ∙ ap past_line lines ∙ line_read second.ends

pub same_line : (text front start body : List ℕ) → text ≡ front ++ body → text ≡ start ++ body →
    line_after front ≡ line_after start
same_line text front start body one other =
    omega (arith, feeds_behind front body, feeds_behind start body, ap (count_by is_line_feed) (sym one ∙ other))

-- the tokens of a text are one list
pub same_scan : (d : DesignTree) (text : List ℕ) (spots others : List Spot) (rest behind : List ℕ)
    (end last : Standing) → IsScanned d text spots rest end → IsScanned d text others behind last →
    IsSameCut spots others rest behind end last
same_scan d text spots others rest behind end last one other =
    let body : other.body ≡ one.body = same_body text other.body one.body other.include one.include in
    let line : line_after other.front ≡ line_after one.front =
    same_line text other.front one.front one.body
    (other.whole ∙ ap (λ (l : List ℕ). other.front ++ l) body) one.whole in
    let cut : IsCut d (record { open_count = 0; line = line_after one.front }) one.body others behind last =
    subst (λ (n : ℕ). IsCut d (record { open_count = 0; line = n }) one.body others behind last) line
    (subst (λ (l : List ℕ). IsCut d (record { open_count = 0; line = line_after other.front }) l others behind last)
    body
    other.cut) in
    same_cut d one.cut one.stuck cut other.stuck
