-- The faults of a text by those of what stands behind its include.
use Rattle.std.proofs.Common.{◌≡◌, inl, inr, ℕ, zero, suc, ◌≤◌, Bool, true, false, ltb, ltb-true, get_or, IsTrue, Some, List, [], ◌∷◌, ◌++◌, length, take, drop, slice_get, refl, sym, ap, ◌∙◌, subst, append_assoc, length-append, ◌^◌, arith}
use Rattle.std.proofs.lemmas.List.{length-map, append-nil, take_all, drop_all}
use Rattle.std.proofs.lemmas.List.Sums.{count_by-le-length}
use Rattle.std.proofs.lemmas.Option.{slice_get_read}
use Rattle.tm_syntax.specs.Tokens.{is_line_feed}
use Rattle.tm_syntax.specs.Design.{DesignTree}
use Rattle.tm_cir.specs.Text.Token.{Token}
use Rattle.tm_cparse.specs.declared.bad.BadDriver.{BadDriver}
use Rattle.tm_cparse.specs.declared.bad.BadDriver.TheVariants.{TooLong, Text, UnknownName, BackwardGoto}
use Rattle.tm_cparse.specs.declared.bad.ReadDriverError.{ReadDriverError}
use Rattle.tm_cparse.specs.declared.bad.ReadDriverError.TheVariants.{Bad, Memory}
use Rattle.tm_cparse.specs.declared.names.TokenPlace.{TokenPlace}
use Rattle.tm_syntax.specs.Limits.{file_limit}
use Rattle.tm_cparse.specs.declared.spot.Spot.{Spot}
use Rattle.tm_cparse.specs.View.{token_tree, tokens_of}
use Rattle.tm_cparse.specs.Written.{WrittenBlock, AreWritten, Begins}
use Rattle.tm_cparse.specs.Cut.{IsCut}
use Rattle.tm_cparse.specs.Faults.{IsScanned, HasTextFault, no_include, unexpected, stopped, label_count, IsNameFault, HasNameFault, HasFault}
use Rattle.tm_cparse.specs.Inner.Blocks.{IsStuckAt}
use Rattle.tm_cparse.specs.Inner.Reading.{first_of}
use Rattle.tm_cparse.specs.Inner.Fronts.{IsBehindInclude, IsNoInclude}
use Rattle.tm_cparse.specs.Inner.Scanning.{IsScan}
use Rattle.tm_cparse.specs.Inner.Names.{place_after, first_place, IsFaultAt, unknown, no_process, backward, beyond, out_of_order, wrong_count, IsFirstFault}
use Rattle.tm_cparse.specs.Inner.Bodies.{IsBodyFault, IsTextLine, at_token, at_end, IsTextFault}
use Rattle.tm_cparse.proofs.Positions.{labels_count}
use Rattle.tm_cparse.proofs.NameFaults.{IsSplit, split, fault_before, fault_at}
use Rattle.tm_cparse.proofs.NameSteps.{not_low}
use Rattle.tm_cparse.proofs.Files.{begins_all}

-- the scan of what stands behind the include is that of the text
scanned : (d : DesignTree) (line : ℕ) (text body : List ℕ) (spots : List Spot) (last : ℕ) (whole : Bool) →
    (scan : IsScan d line body spots last whole) → IsBehindInclude text body line →
    IsScanned d text spots scan.rest scan.end
scanned d line text body spots last whole scan behind = record {
  front = behind.front;
  body = body;
  whole = behind.whole;
  include = behind.include;
  cut = subst (λ (n : ℕ). IsCut d (record { open_count = 0; line = n }) body spots scan.rest scan.end) behind.behind
      scan.cut;
  stuck = scan.stuck;
}

line_fault : (d : DesignTree) (line : ℕ) (text body : List ℕ) (spots : List Spot) (last : ℕ) (whole : Bool) (at : ℕ) →
    IsScan d line body spots last whole → IsBehindInclude text body line → IsTextLine spots last whole at →
    HasTextFault d text at
line_fault d line text body spots last whole at scan behind (at_token front others s is begins stuck) =
    unexpected front others s
    (subst (λ (l : List Spot). IsScanned d text l scan.rest scan.end) is
    (scanned d line text body spots last whole scan behind)) begins stuck
line_fault d line text body spots last whole at scan behind (at_end begins ends) =
    subst (HasTextFault d text) (sym scan.last_line)
    (stopped (scanned d line text body spots last whole scan behind) begins
    (λ none bs. ends (scan.whole.1 none) bs))

-- the grammar's fault
pub text_fault : (d : DesignTree) (line : ℕ) (body : List ℕ) (spots : List Spot) (last : ℕ) (whole : Bool)
    (e : ReadDriverError) → IsScan d line body spots last whole → IsTextFault spots last whole e →
    IsBodyFault d line body e
text_fault d line body spots last whole (Bad (Text at)) scan fault text behind short =
    (short, inl (line_fault d line text body spots last whole at scan behind fault))
text_fault d line body spots last whole (Bad TooLong) scan fault text behind short = absurd fault
text_fault d line body spots last whole (Bad (UnknownName at)) scan fault text behind short = absurd fault
text_fault d line body spots last whole (Bad (BackwardGoto at)) scan fault text behind short = absurd fault
text_fault d line body spots last whole Memory scan fault text behind short = tt

-- the fault of a name
name_fault : (d : DesignTree) (line : ℕ) (text body : List ℕ) (spots : List Spot) (last : ℕ) (whole : Bool)
    (ws : List WrittenBlock) (bad : BadDriver) → IsScan d line body spots last whole → IsTrue whole →
    AreWritten (tokens_of spots) ws → IsBehindInclude text body line →
    IsSplit d ((place_after first_place (tokens_of spots)).labels) first_place spots bad → HasNameFault d text bad
name_fault d line text body spots last whole ws bad scan is written behind at =
    let all : List Spot = at.front ++ at.spot ∷ at.others in
    let count : (place_after first_place (tokens_of spots)).labels ≡ label_count (tokens_of all) =
    labels_count (tokens_of spots) ∙ ap (λ (l : List Spot). label_count (tokens_of l)) at.whole in
    record {
      front = at.front;
      spot = at.spot;
      others = at.others;
      end = scan.end;
      blocks = ws;
      scanned = subst (λ (l : List Spot). IsScanned d text l [] scan.end) at.whole
          (subst (λ (r : List ℕ). IsScanned d text spots r scan.end) (scan.whole.0 is)
          (scanned d line text body spots last whole scan behind));
      written = subst (λ (l : List Spot). AreWritten (tokens_of l) ws) at.whole written;
      is = subst (λ (n : ℕ). IsNameFault d n at.front at.spot at.others bad) count
          (fault_before d ((place_after first_place (tokens_of spots)).labels) at.front at.spot at.others bad at.is);
      first = λ before rest s other same low fault.
          at.first before rest s other (at.whole ∙ same) low
          (fault_at d ((place_after first_place (tokens_of spots)).labels) before s rest other
          (subst (λ (n : ℕ). IsNameFault d n before s rest other) (sym count) fault));
    }

never_long : (d : DesignTree) {count line : ℕ} {at : TokenPlace} {t : Token} {known : Bool} {others : List Token} →
    IsFaultAt d count at t known line others TooLong → ⊥
never_long d fault = of refl fault
  where
    of : {count line : ℕ} {at : TokenPlace} {t : Token} {known : Bool} {others : List Token} {bad : BadDriver} →
        bad ≡ TooLong → IsFaultAt d count at t known line others bad → ⊥
    of is (unknown item off) = cc
    of is (no_process before here none) = cc
    of is (backward before here low) = cc
    of is (beyond before here high) = cc
    of is (out_of_order before here other) = cc
    of is (wrong_count args rest here known behind wrong) = cc

fault_named : (d : DesignTree) (line : ℕ) (body : List ℕ) (spots : List Spot) (last : ℕ) (whole : Bool)
    (ws : List WrittenBlock) (bad : BadDriver) → IsScan d line body spots last whole → IsTrue whole →
    AreWritten (tokens_of spots) ws →
    IsFirstFault d ((place_after first_place (tokens_of spots)).labels) first_place spots bad →
    IsBodyFault d line body (Bad bad)
fault_named d line body spots last whole ws TooLong scan is written fault text behind short =
    absurd (never_long d (split d ((place_after first_place (tokens_of spots)).labels) fault).is)
fault_named d line body spots last whole ws (Text at) scan is written fault text behind short = (
  short,
  inr (name_fault d line text body spots last whole ws (Text at) scan is written behind
      (split d ((place_after first_place (tokens_of spots)).labels) fault)),
)
fault_named d line body spots last whole ws (UnknownName at) scan is written fault text behind short = (
  short,
  name_fault d line text body spots last whole ws (UnknownName at) scan is written behind
      (split d ((place_after first_place (tokens_of spots)).labels) fault),
)
fault_named d line body spots last whole ws (BackwardGoto at) scan is written fault text behind short = (
  short,
  name_fault d line text body spots last whole ws (BackwardGoto at) scan is written behind
      (split d ((place_after first_place (tokens_of spots)).labels) fault),
)

-- the first fault in the names of spots that are handed on is the fault of the body
pub named_fault : (d : DesignTree) (line : ℕ) (body : List ℕ) (spots found : List Spot) (last : ℕ) (whole : Bool)
    (ws : List WrittenBlock) (bad : BadDriver) → found ≡ spots → IsScan d line body spots last whole → IsTrue whole →
    AreWritten (tokens_of spots) ws →
    IsFirstFault d ((place_after first_place (tokens_of found)).labels) first_place found bad →
    IsBodyFault d line body (Bad bad)
named_fault d line body spots found last whole ws bad same scan is written fault =
    fault_named d line body spots last whole ws bad scan is written
    (subst (λ (l : List Spot). IsFirstFault d ((place_after first_place (tokens_of l)).labels) first_place l bad) same
    fault)

-- no include
pub include_fault : (d : DesignTree) (text : List ℕ) (line : ℕ) → length text ≤ file_limit → IsNoInclude text line →
    HasFault d text (Text line)
include_fault d text line short none = (
  short,
  inl (subst (HasTextFault d text) (sym none.blanks.behind)
      (no_include none.blanks.blanks none.rest none.blanks.are none.blanks.whole none.no_blank none.none)),
)

-- the token at a place, and the tokens around it
pub record IsAround (spots : List Spot) (place : ℕ) (s : Spot) : Type 0 where
  pub front : List Spot
  pub others : List Spot
  pub whole : spots ≡ front ++ s ∷ others
  pub before : take place (tokens_of spots) ≡ tokens_of front
  pub behind : drop place (tokens_of spots) ≡ token_tree s.token ∷ tokens_of others

pub around : (spots : List Spot) (place : ℕ) (s : Spot) → slice_get spots place ≡ Some s → IsAround spots place s
around [] place s there = absurd (cc)
around (x ∷ spots) zero s there =
    let same : x ≡ s = cc in
    record {
      front = [];
      others = spots;
      whole = ap (λ (y : Spot). y ∷ spots) same;
      before = refl;
      behind = ap (λ (y : Spot). token_tree y.token ∷ tokens_of spots) same;
    }
around (x ∷ spots) (suc place) s there =
    let rest = around spots place s there in
    record {
      front = x ∷ rest.front;
      others = rest.others;
      whole = ap (λ (l : List Spot). x ∷ l) rest.whole;
      before = ap (λ (l : List Token). token_tree x.token ∷ l) rest.before;
      behind = rest.behind;
    }

pub stuck_token : (spots : List Spot) (last : ℕ) (whole : Bool) (place : ℕ) (s : Spot) →
    IsStuckAt (tokens_of spots) place → slice_get spots place ≡ Some s → IsTextLine spots last whole s.line
stuck_token spots last whole place s stuck there =
    let at = around spots place s there in
    at_token at.front at.others s at.whole (subst Begins at.before stuck.begins)
    (λ begins.
    stuck.stuck begins.blocks (token_tree s.token ∷ begins.behind) (sym (ap first_of at.behind))
    (subst (λ (l : List Token). AreWritten (l ++ token_tree s.token ∷ begins.behind) begins.blocks) (sym at.before)
    (subst (λ (l : List Token). AreWritten l begins.blocks)
    (append_assoc (tokens_of at.front) (token_tree s.token ∷ []) begins.behind) begins.written)))

pub stuck_end : (spots : List Spot) (last : ℕ) (whole : Bool) (place : ℕ) → IsStuckAt (tokens_of spots) place →
    length spots ≤ place → IsTextLine spots last whole last
stuck_end spots last whole place stuck past =
    let high : length (tokens_of spots) ≤ place =
    omega (arith, length-map spots (λ (s : Spot). token_tree s.token), past) in
    let all : take place (tokens_of spots) ≡ tokens_of spots = take_all place (tokens_of spots) high in
    at_end (subst Begins all stuck.begins)
    (λ is bs written.
    stuck.stuck bs [] (sym (ap first_of (drop_all place (tokens_of spots) high)))
    (subst (λ (l : List Token). AreWritten (l ++ []) bs) (sym all)
    (subst (λ (l : List Token). AreWritten l bs) (sym (append-nil (tokens_of spots))) written)))

pub not_whole : (spots found : List Spot) (last : ℕ) (whole : Bool) (ws : List WrittenBlock) → found ≡ spots →
    AreWritten (tokens_of found) ws → ¬ IsTrue whole → IsTextLine spots last whole last
not_whole spots found last whole ws same written other =
    at_end (subst (λ (l : List Spot). Begins (tokens_of l)) same (begins_all (tokens_of found) ws written))
    (λ is. absurd (other is))

-- where no driver goes on with a token that a look-up tells, the text is at fault in the line of that token
pub token_there : (spots found : List Spot) (last : ℕ) (whole : Bool) (place : ℕ) (s : Spot) →
    IsStuckAt (tokens_of spots) place → found ≡ spots → ltb place (length found) ≡ true → s ≡ get_or found place s →
    IsTextLine spots last whole s.line
token_there spots found last whole place s stuck same within is =
    stuck_token spots last whole place s stuck
    (subst (λ (l : List Spot). slice_get l place ≡ Some s) same
    (slice_get_read found (length found) place s refl (ltb-true place (length found) within) is))

pub none_there : (spots found : List Spot) (last : ℕ) (whole : Bool) (place : ℕ) → IsStuckAt (tokens_of spots) place →
    found ≡ spots → ltb place (length found) ≡ false → IsTextLine spots last whole last
none_there spots found last whole place stuck same past =
    stuck_end spots last whole place stuck
    (omega (arith, not_low place (length found) past, ap length same))

pub memory_fault : (d : DesignTree) (line : ℕ) (body : List ℕ) (e : ReadDriverError) → e ≡ Memory →
    IsBodyFault d line body e
memory_fault d line body e is = subst (IsBodyFault d line body) (sym is) (λ text behind short. tt)

-- what stands behind the include is no longer than the text, and begins on a low line
pub behind_short : (text body : List ℕ) (line : ℕ) → IsBehindInclude text body line → length text ≤ file_limit →
    length body ≤ file_limit
behind_short text body line behind short =
    omega (arith, ap length behind.whole, length-append behind.front body, short)

pub behind_low : (text body : List ℕ) (line : ℕ) → IsBehindInclude text body line → length text ≤ file_limit →
    line ≤ 2 ^ 31
behind_low text body line behind short =
    omega (
      arith,
      ap length behind.whole,
      length-append behind.front body,
      short,
      behind.behind,
      count_by-le-length is_line_feed behind.front,
    )
