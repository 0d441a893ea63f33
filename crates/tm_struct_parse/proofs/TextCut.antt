-- The tokens of a structured text are its cut, with known names.
use Rattle.std.proofs.Common.{◌≡◌, ℕ, ◌<◌, ◌≤◌, true, List, [], ◌∷◌, length, refl, sym, ap, ap₂, ◌∙◌, subst}
use Rattle.std.proofs.Common.{length-append, arith}
use Rattle.tm_syntax.specs.Design.{DesignTree}
use Rattle.tm_cir.specs.Text.Token.{Token, word, label, variable, location, task, constant, sign}
use Rattle.tm_cparse.specs.declared.spot.Spot.{Spot}
use Rattle.tm_cparse.specs.View.{token_tree, tokens_of}
use Rattle.tm_cparse.specs.Cut.{Standing, MayStand, MayAllStand, open_behind, line_behind}
use Rattle.tm_cparse.specs.Faults.{HasNames}
use Rattle.tm_cparse.specs.Inner.Names.{AreKnown}
use Rattle.tm_cparse.proofs.DriverCut.{AreLow, AreAllKnown, tree_back}
use Rattle.tm_cparse.proofs.Fitting.{AreGood}
use Rattle.tm_cparse.proofs.Spelled.{IsLow}
use Rattle.tm_cparse.proofs.Tokens.{token_back}
use Rattle.tm_struct.specs.Text.Spelling.{spelling, AreTokens}
use Rattle.tm_struct.specs.Text.Spelling as spellings
use Rattle.tm_struct_parse.specs.declared.names.Before.{Before}
use Rattle.tm_struct_parse.specs.declared.names.Before.TheVariants.{Void, Leave, Process, Other}
use Rattle.tm_struct_parse.specs.declared.names.TokenPlace.{TokenPlace}
use Rattle.tm_struct_parse.specs.Cut.{BeginsToken, IsCut}
use Rattle.tm_struct_parse.specs.Cut as cuts
use Rattle.tm_struct_parse.specs.Inner.Names.{place_behind, place_after, IsRightName, IsRight, AreRight}
use Rattle.tm_struct_parse.proofs.NameSteps.{places_grow, callable_few}
use Rattle.tm_struct_parse.proofs.Spelled.{spelled, named, number_small, good, text_some}

-- a right name has a number of 32 bits, where no more functions have begun
low_name : (at : TokenPlace) (b : Before) (k count : ℕ) → IsRightName at b k → at.functions ≤ count →
    count < 4294967295 → k < 4294967295
low_name at Void k count right grow few = omega (arith, right, grow, few)
low_name at Leave k count right grow few = omega (arith, right, callable_few at, grow, few)
low_name at Process k count right grow few = omega (arith, right, callable_few at, grow, few)
low_name at Other k count right grow few = omega (arith, right, callable_few at, grow, few)

low_token : (d : DesignTree) (at : TokenPlace) (t : Token) (others : List Token) (count : ℕ) → IsRight d at t others →
    at.functions ≤ count → count < 4294967295 → IsLow t
low_token d at (word w) others count right grow few = tt
low_token d at (label k) others count right grow few = low_name at at.before k count right grow few
low_token d at (variable k) others count right grow few = tt
low_token d at (location k) others count right grow few = tt
low_token d at (task k) others count right grow few = tt
low_token d at (constant k) others count right grow few = tt
low_token d at (sign s) others count right grow few = tt

pub right_low : (d : DesignTree) (at : TokenPlace) (ts : List Token) (count : ℕ) → AreRight d at ts →
    (place_after at ts).functions ≤ count → count < 4294967295 → AreLow ts
right_low d at [] count right grow few = tt
right_low d at (t ∷ ts) count right grow few = (
  low_token d at t ts count right.0 (omega (arith, places_grow at (t ∷ ts), grow)) few,
  right_low d (place_behind at t) ts count right.1 grow few,
)

-- a cut of a text in which each token is known
pub record IsKnownCut (d : DesignTree) (at : Standing) (text : List ℕ) (ts : List Token) : Type 0 where
  pub spots : List Spot
  pub end : Standing
  pub cut : IsCut d at text spots [] end
  pub tokens : tokens_of spots ≡ ts
  pub known : AreAllKnown spots

-- the tokens of a text are its cut
pub cut_of : (d : DesignTree) → HasNames d → (at : Standing) {text : List ℕ} {ts : List Token} → AreTokens d text ts →
    AreLow ts → MayAllStand at.open_count ts → IsKnownCut d at text ts
cut_of d names at spellings.no_more low may = record {
  spots = [];
  end = at;
  cut = cuts.no_more;
  tokens = refl;
  known = tt;
}
cut_of d names at (spellings.blank {b = b} is are) low may =
    let behind = cut_of d names (record { open_count = at.open_count; line = line_behind at.line b }) are low may in
    record {
      spots = behind.spots;
      end = behind.end;
      cut = cuts.blank is behind.cut;
      tokens = behind.tokens;
      known = behind.known;
    }
cut_of d names at (spellings.token {t = t} {text = text} {rest = rest} {ts = ts} begins are) low may =
    let behind = cut_of d names (record { open_count = open_behind at.open_count t; line = at.line }) are low.1 may.1 in
    let s : Spot = record { token = token_back t; known = true; line = at.line } in
    let tree : token_tree (token_back t) ≡ t = tree_back t in
    let first : BeginsToken text t begins.bytes rest = record {
      spelled = spelled d t begins.bytes names low.0 begins.small begins.spelled;
      ends = begins.ends;
      whole = begins.whole;
    } in
    record {
      spots = s ∷ behind.spots;
      end = behind.end;
      cut = cuts.spot
          (record {
            bytes = begins.bytes;
            token = subst (λ (u : Token). BeginsToken text u begins.bytes rest) (sym tree) first;
            known = (λ is. ap (spelling d) tree ∙ begins.spelled, λ is. refl);
            line = refl;
            within = subst (MayStand at.open_count) (sym tree) may.0;
          })
          (subst (λ (u : Token).
          IsCut d (record { open_count = open_behind at.open_count u; line = at.line }) rest behind.spots [] behind.end)
          (sym tree) behind.cut);
      tokens = ap₂ (λ (u : Token) (l : List Token). u ∷ l) tree behind.tokens;
      known = (refl, behind.known);
    }

pub tokens_short : (d : DesignTree) {text : List ℕ} {ts : List Token} → AreTokens d text ts → length ts ≤ length text
tokens_short d spellings.no_more = omega arith
tokens_short d (spellings.blank is are) = omega (arith, tokens_short d are)
tokens_short d (spellings.token {t = t} {rest = rest} begins are) =
    omega (
      arith,
      tokens_short d are,
      ap length begins.whole,
      length-append begins.bytes rest,
      text_some d t begins.bytes begins.spelled,
    )

-- a cut whose names are known is the tokens of the text
pub cut_tokens : (d : DesignTree) {at end : Standing} {text rest : List ℕ} {spots : List Spot} →
    IsCut d at text spots rest end → rest ≡ [] → AreKnown spots → AreLow (tokens_of spots) →
    AreTokens d text (tokens_of spots)
cut_tokens d cuts.no_more ends known low = subst (λ (l : List ℕ). AreTokens d l []) (sym ends) spellings.no_more
cut_tokens d (cuts.blank is cut) ends known low = spellings.blank is (cut_tokens d cut ends known low)
cut_tokens d (cuts.spot {s = s} begins cut) ends known low =
    spellings.token
    (record {
      bytes = begins.bytes;
      small = number_small (token_tree s.token) begins.bytes begins.token.spelled;
      spelled = named d (token_tree s.token) begins.bytes begins.token.spelled low.0
          (λ item. begins.known.0 (known.0 item));
      ends = begins.token.ends;
      whole = begins.token.whole;
    }) (cut_tokens d cut ends known.1 low.1)

pub cut_good : (d : DesignTree) {at end : Standing} {text rest : List ℕ} {spots : List Spot} →
    IsCut d at text spots rest end → AreKnown spots → AreLow (tokens_of spots) → AreGood d (tokens_of spots)
cut_good d cuts.no_more known low = tt
cut_good d (cuts.blank is cut) known low = cut_good d cut known low
cut_good d (cuts.spot {s = s} begins cut) known low = (
  good d (token_tree s.token) begins.bytes begins.token.spelled
      (named d (token_tree s.token) begins.bytes begins.token.spelled low.0 (λ item. begins.known.0 (known.0 item))),
  cut_good d cut known.1 low.1,
)

pub cut_shallow : (d : DesignTree) {at end : Standing} {text rest : List ℕ} {spots : List Spot} →
    IsCut d at text spots rest end → MayAllStand at.open_count (tokens_of spots)
cut_shallow d cuts.no_more = tt
cut_shallow d (cuts.blank is cut) = cut_shallow d cut
cut_shallow d (cuts.spot begins cut) = (begins.within, cut_shallow d cut)
