-- The faults of a structured text by those of what stands behind its include.
use Rattle.std.proofs.Common.{◌≡◌, inl, inr, ℕ, ◌≤◌, Bool, true, false, ltb, ltb-true, get_or, IsTrue, Some, List, []}
use Rattle.std.proofs.Common.{◌∷◌, ◌++◌, length, take, slice_get, refl, sym, ap, ◌∙◌, subst, append_assoc, arith}
use Rattle.std.proofs.lemmas.List.{length-map, append-nil, take_all, drop_all}
use Rattle.std.proofs.lemmas.Option.{slice_get_read}
use Rattle.tm_syntax.specs.Limits.{file_limit}
use Rattle.tm_syntax.specs.Design.{DesignTree}
use Rattle.tm_cir.specs.Text.Token.{Token}
use Rattle.tm_cparse.specs.declared.spot.Spot.{Spot}
use Rattle.tm_cparse.specs.View.{token_tree, tokens_of}
use Rattle.tm_cparse.specs.Inner.Fronts.{IsBehindInclude, IsNoInclude}
use Rattle.tm_cparse.specs.Inner.Reading.{first_of}
use Rattle.tm_cparse.proofs.BodyFaults.{around}
use Rattle.tm_cparse.proofs.NameSteps.{not_low}
use Rattle.tm_struct_parse.specs.declared.bad.BadStructured.{BadStructured}
use Rattle.tm_struct_parse.specs.declared.bad.BadStructured.TheVariants.{TooLong, Text, UnknownName, ForwardCall}
use Rattle.tm_struct_parse.specs.declared.bad.ReadStructuredError.{ReadStructuredError}
use Rattle.tm_struct_parse.specs.declared.bad.ReadStructuredError.TheVariants.{Bad, Memory}
use Rattle.tm_struct_parse.specs.declared.names.TokenPlace.{TokenPlace}
use Rattle.tm_struct_parse.specs.Written.{WrittenProgram, AreWritten, Begins}
use Rattle.tm_struct_parse.specs.Cut.{IsCut}
use Rattle.tm_struct_parse.specs.Faults.{IsScanned, HasTextFault, no_include, unexpected, stopped, function_count}
use Rattle.tm_struct_parse.specs.Faults.{IsNameFault, HasNameFault, HasFault}
use Rattle.tm_struct_parse.specs.Inner.Bodies.{IsFileFault, IsTextLine, at_token, at_end, IsTextFault}
use Rattle.tm_struct_parse.specs.Inner.Forms.{IsStuckAt}
use Rattle.tm_struct_parse.specs.Inner.Names.{place_after, first_place, IsFaultAt, unknown, no_process, out_of_order}
use Rattle.tm_struct_parse.specs.Inner.Names.{beyond, forward, wrong_count, IsFirstFault}
use Rattle.tm_struct_parse.specs.Inner.Scanning.{IsScan}
use Rattle.tm_struct_parse.proofs.Files.{begins_all}
use Rattle.tm_struct_parse.proofs.NameFaults.{IsSplit, split, fault_before, fault_at}
use Rattle.tm_struct_parse.proofs.Positions.{functions_count}

-- the scan of what stands behind the include is that of the text
scanned : (d : DesignTree) (line : ℕ) (text body : List ℕ) (spots : List Spot) (last : ℕ) (whole : Bool) →
    (scan : IsScan d line body spots last whole) → IsBehindInclude text body line →
    IsScanned d text spots scan.rest scan.end
scanned d line text body spots last whole scan behind = record {
  front = behind.front;
  body = body;
  whole = behind.whole;
  include = behind.include;
  cut = subst (λ (n : ℕ). IsCut d (record { open_count = 0; line = n }) body spots scan.rest scan.end) behind.behind
      scan.cut;
  stuck = scan.stuck;
}

line_fault : (d : DesignTree) (line : ℕ) (text body : List ℕ) (spots : List Spot) (last : ℕ) (whole : Bool) (at : ℕ) →
    IsScan d line body spots last whole → IsBehindInclude text body line → IsTextLine spots last whole at →
    HasTextFault d text at
line_fault d line text body spots last whole at scan behind (at_token front others s is begins stuck) =
    unexpected front others s
    (subst (λ (l : List Spot). IsScanned d text l scan.rest scan.end) is
    (scanned d line text body spots last whole scan behind)) begins stuck
line_fault d line text body spots last whole at scan behind (at_end begins ends) =
    subst (HasTextFault d text) (sym scan.last_line)
    (stopped (scanned d line text body spots last whole scan behind) begins
    (λ none bs. ends (scan.whole.1 none) bs))

-- the grammar's fault
pub text_fault : (d : DesignTree) (line : ℕ) (body : List ℕ) (spots : List Spot) (last : ℕ) (whole : Bool)
    (e : ReadStructuredError) → IsScan d line body spots last whole → IsTextFault spots last whole e →
    IsFileFault d line body e
text_fault d line body spots last whole (Bad (Text at)) scan fault text behind short =
    (short, inl (line_fault d line text body spots last whole at scan behind fault))
text_fault d line body spots last whole (Bad TooLong) scan fault text behind short = absurd fault
text_fault d line body spots last whole (Bad (UnknownName at)) scan fault text behind short = absurd fault
text_fault d line body spots last whole (Bad (ForwardCall at)) scan fault text behind short = absurd fault
text_fault d line body spots last whole Memory scan fault text behind short = tt

-- the fault of a name
name_fault : (d : DesignTree) (line : ℕ) (text body : List ℕ) (spots : List Spot) (last : ℕ) (whole : Bool)
    (p : WrittenProgram) (bad : BadStructured) → IsScan d line body spots last whole → IsTrue whole →
    AreWritten (tokens_of spots) p → IsBehindInclude text body line →
    IsSplit d ((place_after first_place (tokens_of spots)).functions) first_place spots bad → HasNameFault d text bad
name_fault d line text body spots last whole p bad scan is written behind at =
    let all : List Spot = at.front ++ at.spot ∷ at.others in
    let count : (place_after first_place (tokens_of spots)).functions ≡ function_count (tokens_of all) =
    functions_count (tokens_of spots) ∙ ap (λ (l : List Spot). function_count (tokens_of l)) at.whole in
    record {
      front = at.front;
      spot = at.spot;
      others = at.others;
      end = scan.end;
      program = p;
      scanned = subst (λ (l : List Spot). IsScanned d text l [] scan.end) at.whole
          (subst (λ (r : List ℕ). IsScanned d text spots r scan.end) (scan.whole.0 is)
          (scanned d line text body spots last whole scan behind));
      written = subst (λ (l : List Spot). AreWritten (tokens_of l) p) at.whole written;
      is = subst (λ (n : ℕ). IsNameFault d n at.front at.spot at.others bad) count
          (fault_before d ((place_after first_place (tokens_of spots)).functions) at.front at.spot at.others bad at.is);
      first = λ before rest s other same low fault.
          at.first before rest s other (at.whole ∙ same) low
          (fault_at d ((place_after first_place (tokens_of spots)).functions) before s rest other
          (subst (λ (n : ℕ). IsNameFault d n before s rest other) (sym count) fault));
    }

never_long : (d : DesignTree) {count line : ℕ} {at : TokenPlace} {t : Token} {known : Bool} {others : List Token} →
    IsFaultAt d count at t known line others TooLong → ⊥
never_long d fault = of refl fault
  where
    of : {count line : ℕ} {at : TokenPlace} {t : Token} {known : Bool} {others : List Token} {bad : BadStructured} →
        bad ≡ TooLong → IsFaultAt d count at t known line others bad → ⊥
    of is (unknown item off) = cc
    of is (no_process before here none) = cc
    of is (out_of_order before here other) = cc
    of is (beyond before here high) = cc
    of is (forward before here low high) = cc
    of is (wrong_count args rest here known behind wrong) = cc

fault_named : (d : DesignTree) (line : ℕ) (body : List ℕ) (spots : List Spot) (last : ℕ) (whole : Bool)
    (p : WrittenProgram) (bad : BadStructured) → IsScan d line body spots last whole → IsTrue whole →
    AreWritten (tokens_of spots) p →
    IsFirstFault d ((place_after first_place (tokens_of spots)).functions) first_place spots bad →
    IsFileFault d line body (Bad bad)
fault_named d line body spots last whole p TooLong scan is written fault text behind short =
    absurd (never_long d (split d ((place_after first_place (tokens_of spots)).functions) (omega arith) fault).is)
fault_named d line body spots last whole p (Text at) scan is written fault text behind short = (
  short,
  inr (name_fault d line text body spots last whole p (Text at) scan is written behind
      (split d ((place_after first_place (tokens_of spots)).functions) (omega arith) fault)),
)
fault_named d line body spots last whole p (UnknownName at) scan is written fault text behind short = (
  short,
  name_fault d line text body spots last whole p (UnknownName at) scan is written behind
      (split d ((place_after first_place (tokens_of spots)).functions) (omega arith) fault),
)
fault_named d line body spots last whole p (ForwardCall at) scan is written fault text behind short = (
  short,
  name_fault d line text body spots last whole p (ForwardCall at) scan is written behind
      (split d ((place_after first_place (tokens_of spots)).functions) (omega arith) fault),
)

-- the first fault in the names of spots that are handed on is the fault of the file
pub named_fault : (d : DesignTree) (line : ℕ) (body : List ℕ) (spots found : List Spot) (last : ℕ) (whole : Bool)
    (p : WrittenProgram) (bad : BadStructured) → found ≡ spots → IsScan d line body spots last whole → IsTrue whole →
    AreWritten (tokens_of spots) p →
    IsFirstFault d ((place_after first_place (tokens_of found)).functions) first_place found bad →
    IsFileFault d line body (Bad bad)
named_fault d line body spots found last whole p bad same scan is written fault =
    fault_named d line body spots last whole p bad scan is written
    (subst (λ (l : List Spot). IsFirstFault d ((place_after first_place (tokens_of l)).functions) first_place l bad)
    same
    fault)

-- no include
pub include_fault : (d : DesignTree) (text : List ℕ) (line : ℕ) → length text ≤ file_limit → IsNoInclude text line →
    HasFault d text (Text line)
include_fault d text line short none = (
  short,
  inl (subst (HasTextFault d text) (sym none.blanks.behind)
      (no_include none.blanks.blanks none.rest none.blanks.are none.blanks.whole none.no_blank none.none)),
)

-- the token at a place where the tokens are stuck
pub stuck_token : (spots : List Spot) (last : ℕ) (whole : Bool) (place : ℕ) (s : Spot) →
    IsStuckAt (tokens_of spots) place → slice_get spots place ≡ Some s → IsTextLine spots last whole s.line
stuck_token spots last whole place s stuck there =
    let at = around spots place s there in
    at_token at.front at.others s at.whole (subst Begins at.before stuck.begins)
    (λ begins.
    stuck.stuck begins.program (token_tree s.token ∷ begins.behind) (sym (ap first_of at.behind))
    (subst (λ (l : List Token). AreWritten (l ++ token_tree s.token ∷ begins.behind) begins.program) (sym at.before)
    (subst (λ (l : List Token). AreWritten l begins.program)
    (append_assoc (tokens_of at.front) (token_tree s.token ∷ []) begins.behind) begins.written)))

pub stuck_end : (spots : List Spot) (last : ℕ) (whole : Bool) (place : ℕ) → IsStuckAt (tokens_of spots) place →
    length spots ≤ place → IsTextLine spots last whole last
stuck_end spots last whole place stuck past =
    let high : length (tokens_of spots) ≤ place =
    omega (arith, length-map spots (λ (s : Spot). token_tree s.token), past) in
    let all : take place (tokens_of spots) ≡ tokens_of spots = take_all place (tokens_of spots) high in
    at_end (subst Begins all stuck.begins)
    (λ is bs written.
    stuck.stuck bs [] (sym (ap first_of (drop_all place (tokens_of spots) high)))
    (subst (λ (l : List Token). AreWritten (l ++ []) bs) (sym all)
    (subst (λ (l : List Token). AreWritten l bs) (sym (append-nil (tokens_of spots))) written)))

pub not_whole : (spots found : List Spot) (last : ℕ) (whole : Bool) (p : WrittenProgram) → found ≡ spots →
    AreWritten (tokens_of found) p → ¬ IsTrue whole → IsTextLine spots last whole last
not_whole spots found last whole p same written other =
    at_end (subst (λ (l : List Spot). Begins (tokens_of l)) same (begins_all (tokens_of found) p written))
    (λ is. absurd (other is))

-- where no driver goes on with a token that a look-up tells, the text is at fault in the line of that token
pub token_there : (spots found : List Spot) (last : ℕ) (whole : Bool) (place : ℕ) (s : Spot) →
    IsStuckAt (tokens_of spots) place → found ≡ spots → ltb place (length found) ≡ true → s ≡ get_or found place s →
    IsTextLine spots last whole s.line
token_there spots found last whole place s stuck same within is =
    stuck_token spots last whole place s stuck
    (subst (λ (l : List Spot). slice_get l place ≡ Some s) same
    (slice_get_read found (length found) place s refl (ltb-true place (length found) within) is))

pub none_there : (spots found : List Spot) (last : ℕ) (whole : Bool) (place : ℕ) → IsStuckAt (tokens_of spots) place →
    found ≡ spots → ltb place (length found) ≡ false → IsTextLine spots last whole last
none_there spots found last whole place stuck same past =
    stuck_end spots last whole place stuck
    (omega (arith, not_low place (length found) past, ap length same))

pub memory_fault : (d : DesignTree) (line : ℕ) (body : List ℕ) (e : ReadStructuredError) → e ≡ Memory →
    IsFileFault d line body e
memory_fault d line body e is = subst (IsFileFault d line body) (sym is) (λ text behind short. tt)
