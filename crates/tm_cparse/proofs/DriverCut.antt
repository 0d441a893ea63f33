-- The tokens of a driver's text are its cut, with known names.
use Rattle.std.proofs.Common.{◌≡◌, ℕ, ◌+◌, ◌<◌, ◌≤◌, true, List, [], ◌∷◌, length, refl, sym, ap, ap₂, ◌∙◌, subst, length-append, arith}
use Rattle.tm_syntax.specs.Design.{DesignTree}
use Rattle.tm_cir.specs.Text.Token.{Token, Word, void, driver_turn, if_word, else_word, goto, return_word, termite_leave, termite_goal, termite_last, Sign, open_parenthesis, close_parenthesis, open_brace, close_brace, colon, semicolon, comma, question, tilde, bang, arithmetic, shifting, comparing, joining, word, label, variable, location, task, constant, sign}
use Rattle.tm_cir.specs.Text.Spelling.{token_text, AreTokens}
use Rattle.tm_cir.specs.Text.Spelling as spelling
use Rattle.tm_cparse.specs.declared.names.Before.{Before}
use Rattle.tm_cparse.specs.declared.names.Before.TheVariants.{Goto, Leave, Process, Other}
use Rattle.tm_cparse.specs.declared.names.TokenPlace.{TokenPlace}
use Rattle.tm_cparse.specs.declared.spot.Spot.{Spot}
use Rattle.tm_cparse.specs.View.{word_tree, sign_tree, token_tree, tokens_of}
use Rattle.tm_cparse.specs.Cut.{Standing, BeginsToken, BeginsSpot, MayStand, MayAllStand, IsCut, open_behind, line_behind}
use Rattle.tm_cparse.specs.Cut as cuts
use Rattle.tm_cparse.specs.Faults.{HasNames}
use Rattle.tm_cparse.specs.Inner.Names.{labels_behind, labels_of_label, place_behind, place_after, IsRight, AreRight, AreKnown}
use Rattle.tm_cparse.proofs.Tokens.{word_back, sign_back, token_back}
use Rattle.tm_cparse.proofs.Fitting.{AreGood}
use Rattle.tm_cparse.proofs.Spelled.{IsLow, spelled, named, number_small, good, text_some}

-- labels only grow in number
label_grows : (n : ℕ) (b : Before) → n ≤ labels_of_label n b
label_grows n Goto = omega arith
label_grows n Leave = omega arith
label_grows n Process = omega arith
label_grows n Other = omega arith

label_few : (n : ℕ) (b : Before) → labels_of_label n b ≤ n + 1
label_few n Goto = omega arith
label_few n Leave = omega arith
label_few n Process = omega arith
label_few n Other = omega arith

labels_grow : (n : ℕ) (b : Before) (t : Token) → n ≤ labels_behind n b t
labels_grow n b (word w) = omega arith
labels_grow n b (label k) = label_grows n b
labels_grow n b (variable k) = omega arith
labels_grow n b (location k) = omega arith
labels_grow n b (task k) = omega arith
labels_grow n b (constant k) = omega arith
labels_grow n b (sign s) = omega arith

pub labels_few : (n : ℕ) (b : Before) (t : Token) → labels_behind n b t ≤ n + 1
labels_few n b (word w) = omega arith
labels_few n b (label k) = label_few n b
labels_few n b (variable k) = omega arith
labels_few n b (location k) = omega arith
labels_few n b (task k) = omega arith
labels_few n b (constant k) = omega arith
labels_few n b (sign s) = omega arith

pub places_grow : (at : TokenPlace) (ts : List Token) → at.labels ≤ (place_after at ts).labels
places_grow at [] = omega arith
places_grow at (t ∷ ts) =
    omega (arith, labels_grow at.labels at.before t, places_grow (place_behind at t) ts)

pub places_few : (at : TokenPlace) (ts : List Token) → (place_after at ts).labels ≤ at.labels + length ts
places_few at [] = omega arith
places_few at (t ∷ ts) =
    omega (arith, labels_few at.labels at.before t, places_few (place_behind at t) ts)

abbrev pub AreLow : List Token → Type 0
AreLow [] = Unit {0}
AreLow (t ∷ ts) = IsLow t × AreLow ts

low_label : (count n k : ℕ) (b : Before) (d : DesignTree) (others : List Token) →
    IsRight d count (record { labels = n; before = b }) (label k) others → labels_of_label n b ≤ count →
    count < 4294967295 → k < 4294967295
low_label count n k Goto d others right grow few = omega (arith, right.1, few)
low_label count n k Leave d others right grow few = omega (arith, right, grow, few)
low_label count n k Process d others right grow few = omega (arith, right, grow, few)
low_label count n k Other d others right grow few = omega (arith, right, grow, few)

low_token : (d : DesignTree) (count : ℕ) (at : TokenPlace) (t : Token) (others : List Token) →
    IsRight d count at t others → labels_behind at.labels at.before t ≤ count → count < 4294967295 → IsLow t
low_token d count at (word w) others right grow few = tt
low_token d count at (label k) others right grow few =
    low_label count at.labels k at.before d others right grow few
low_token d count at (variable k) others right grow few = tt
low_token d count at (location k) others right grow few = tt
low_token d count at (task k) others right grow few = tt
low_token d count at (constant k) others right grow few = tt
low_token d count at (sign s) others right grow few = tt

-- right labels have 32 bits
pub right_low : (d : DesignTree) (count : ℕ) (at : TokenPlace) (ts : List Token) → AreRight d count at ts →
    (place_after at ts).labels ≤ count → count < 4294967295 → AreLow ts
right_low d count at [] right grow few = tt
right_low d count at (t ∷ ts) right grow few = (
  low_token d count at t ts right.0 (omega (arith, places_grow (place_behind at t) ts, grow)) few,
  right_low d count (place_behind at t) ts right.1 grow few,
)

word_tree_back : (w : Word) → word_tree (word_back w) ≡ w
word_tree_back void = refl
word_tree_back driver_turn = refl
word_tree_back if_word = refl
word_tree_back else_word = refl
word_tree_back goto = refl
word_tree_back return_word = refl
word_tree_back termite_leave = refl
word_tree_back termite_goal = refl
word_tree_back termite_last = refl

sign_tree_back : (s : Sign) → sign_tree (sign_back s) ≡ s
sign_tree_back open_parenthesis = refl
sign_tree_back close_parenthesis = refl
sign_tree_back open_brace = refl
sign_tree_back close_brace = refl
sign_tree_back colon = refl
sign_tree_back semicolon = refl
sign_tree_back comma = refl
sign_tree_back question = refl
sign_tree_back tilde = refl
sign_tree_back bang = refl
sign_tree_back (arithmetic op) = refl
sign_tree_back (shifting op) = refl
sign_tree_back (comparing op) = refl
sign_tree_back (joining op) = refl

pub tree_back : (t : Token) → token_tree (token_back t) ≡ t
tree_back (word w) = ap word (word_tree_back w)
tree_back (label k) = refl
tree_back (variable k) = refl
tree_back (location k) = refl
tree_back (task k) = refl
tree_back (constant n) = refl
tree_back (sign s) = ap sign (sign_tree_back s)

-- a cut of a text in which each token is known
abbrev pub AreAllKnown : List Spot → Type 0
AreAllKnown [] = Unit {0}
AreAllKnown (s ∷ ss) = (s.known ≡ true) × AreAllKnown ss

pub record IsKnownCut (d : DesignTree) (at : Standing) (text : List ℕ) (ts : List Token) : Type 0 where
  pub spots : List Spot
  pub end : Standing
  pub cut : IsCut d at text spots [] end
  pub tokens : tokens_of spots ≡ ts
  pub known : AreAllKnown spots

-- the tokens of a text are its cut
pub cut_of : (d : DesignTree) → HasNames d → (at : Standing) {text : List ℕ} {ts : List Token} → AreTokens d text ts →
    AreLow ts → MayAllStand at.open_count ts → IsKnownCut d at text ts
cut_of d names at spelling.no_more low may = record {
  spots = [];
  end = at;
  cut = cuts.no_more;
  tokens = refl;
  known = tt;
}
cut_of d names at (spelling.blank {b = b} is are) low may =
    let behind = cut_of d names (record { open_count = at.open_count; line = line_behind at.line b }) are low may in
    record {
      spots = behind.spots;
      end = behind.end;
      cut = cuts.blank is behind.cut;
      tokens = behind.tokens;
      known = behind.known;
    }
cut_of d names at (spelling.token {t = t} {text = text} {rest = rest} {ts = ts} begins are) low may =
    let behind = cut_of d names (record { open_count = open_behind at.open_count t; line = at.line }) are low.1 may.1 in
    let s : Spot = record { token = token_back t; known = true; line = at.line } in
    let tree : token_tree (token_back t) ≡ t = tree_back t in
    let first : BeginsToken text t begins.bytes rest = record {
      spelled = spelled d t begins.bytes names low.0 begins.small begins.spelled;
      ends = begins.ends;
      whole = begins.whole;
    } in
    record {
      spots = s ∷ behind.spots;
      end = behind.end;
      cut = cuts.spot
          (record {
            bytes = begins.bytes;
            token = subst (λ (u : Token). BeginsToken text u begins.bytes rest) (sym tree) first;
            known = (λ is. ap (token_text d) tree ∙ begins.spelled, λ is. refl);
            line = refl;
            within = subst (MayStand at.open_count) (sym tree) may.0;
          })
          (subst (λ (u : Token).
          IsCut d (record { open_count = open_behind at.open_count u; line = at.line }) rest behind.spots [] behind.end)
          (sym tree) behind.cut);
      tokens = ap₂ (λ (u : Token) (l : List Token). u ∷ l) tree behind.tokens;
      known = (refl, behind.known);
    }

pub tokens_short : (d : DesignTree) {text : List ℕ} {ts : List Token} → AreTokens d text ts → length ts ≤ length text
tokens_short d spelling.no_more = omega arith
tokens_short d (spelling.blank is are) = omega (arith, tokens_short d are)
tokens_short d (spelling.token {t = t} {rest = rest} begins are) =
    omega (
      arith,
      tokens_short d are,
      ap length begins.whole,
      length-append begins.bytes rest,
      text_some d t begins.bytes begins.spelled,
    )

-- a cut whose names are known is the tokens of the text
pub cut_tokens : (d : DesignTree) {at end : Standing} {text rest : List ℕ} {spots : List Spot} →
    IsCut d at text spots rest end → rest ≡ [] → AreKnown spots → AreLow (tokens_of spots) →
    AreTokens d text (tokens_of spots)
cut_tokens d cuts.no_more ends known low = subst (λ (l : List ℕ). AreTokens d l []) (sym ends) spelling.no_more
cut_tokens d (cuts.blank is cut) ends known low = spelling.blank is (cut_tokens d cut ends known low)
cut_tokens d (cuts.spot {s = s} begins cut) ends known low =
    spelling.token
    (record {
      bytes = begins.bytes;
      small = number_small (token_tree s.token) begins.bytes begins.token.spelled;
      spelled = named d (token_tree s.token) begins.bytes begins.token.spelled low.0
          (λ item. begins.known.0 (known.0 item));
      ends = begins.token.ends;
      whole = begins.token.whole;
    }) (cut_tokens d cut ends known.1 low.1)

pub cut_good : (d : DesignTree) {at end : Standing} {text rest : List ℕ} {spots : List Spot} →
    IsCut d at text spots rest end → AreKnown spots → AreLow (tokens_of spots) → AreGood d (tokens_of spots)
cut_good d cuts.no_more known low = tt
cut_good d (cuts.blank is cut) known low = cut_good d cut known low
cut_good d (cuts.spot {s = s} begins cut) known low = (
  good d (token_tree s.token) begins.bytes begins.token.spelled
      (named d (token_tree s.token) begins.bytes begins.token.spelled low.0 (λ item. begins.known.0 (known.0 item))),
  cut_good d cut known.1 low.1,
)

pub cut_shallow : (d : DesignTree) {at end : Standing} {text rest : List ℕ} {spots : List Spot} →
    IsCut d at text spots rest end → MayAllStand at.open_count (tokens_of spots)
cut_shallow d cuts.no_more = tt
cut_shallow d (cuts.blank is cut) = cut_shallow d cut
cut_shallow d (cuts.spot begins cut) = (begins.within, cut_shallow d cut)
