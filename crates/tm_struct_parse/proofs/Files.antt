-- The text of a structured driver has no fault.
use Rattle.std.proofs.Common.{◌≡◌, ⊎_elim, ℕ, ◌≤◌, List, [], ◌∷◌, ◌++◌, length, sym, ap, ◌∙◌, subst, append_assoc}
use Rattle.std.proofs.Common.{length-append, arith}
use Rattle.std.proofs.lemmas.List.{append-nil}
use Rattle.tm_syntax.specs.Design.{DesignTree}
use Rattle.tm_cir.specs.Text.Token.{Token}
use Rattle.tm_cparse.specs.declared.spot.Spot.{Spot}
use Rattle.tm_cparse.specs.View.{token_tree, tokens_of}
use Rattle.tm_cparse.specs.Cut.{Standing}
use Rattle.tm_cparse.specs.Faults.{HasNames, line_after}
use Rattle.tm_cparse.specs.Inner.Names.{AreKnown}
use Rattle.tm_cparse.proofs.DriverCut.{AreLow, AreAllKnown}
use Rattle.tm_cparse.proofs.Files.{tokens_around, all_known}
use Rattle.tm_cparse.proofs.Fronts.{include_front}
use Rattle.tm_cparse.proofs.NameFaults.{known_at}
use Rattle.tm_struct.specs.Tree.{ProgramTree}
use Rattle.tm_struct.specs.Text.Grammar.{program_tokens}
use Rattle.tm_struct_parse.specs.declared.bad.BadStructured.{BadStructured}
use Rattle.tm_struct_parse.specs.declared.bad.BadStructured.TheVariants.{TooLong, Text, UnknownName, ForwardCall}
use Rattle.tm_struct_parse.specs.Written.{WrittenProgram, AreWritten, Begins}
use Rattle.tm_struct_parse.specs.Cut.{IsStuck}
use Rattle.tm_struct_parse.specs.Faults.{IsStructuredFile, IsScanned, HasTextFault, no_include, unexpected, stopped}
use Rattle.tm_struct_parse.specs.Faults.{function_count, HasNameFault, HasFault}
use Rattle.tm_struct_parse.specs.Inner.Names.{callable_at, place_after, first_place, AreRight}
use Rattle.tm_struct_parse.proofs.Fitting.{fitting_right, fitting_written}
use Rattle.tm_struct_parse.proofs.NameFaults.{fault_at, right_no_fault, right_at}
use Rattle.tm_struct_parse.proofs.NameSteps.{places_few, places_grow, callable_few}
use Rattle.tm_struct_parse.proofs.Placed.{right_program, written_of, written_program}
use Rattle.tm_struct_parse.proofs.Positions.{after_both, functions_count}
use Rattle.tm_struct_parse.proofs.SameCut.{same_scan}
use Rattle.tm_struct_parse.proofs.Spelled.{spelled_some}
use Rattle.tm_struct_parse.proofs.TextCut.{right_low, cut_of, tokens_short}

-- a driver's text, scanned
pub record IsFileScan (d : DesignTree) (text : List ℕ) (p : ProgramTree) : Type 0 where
  pub spots : List Spot
  pub end : Standing
  pub scanned : IsScanned d text spots [] end
  pub tokens : tokens_of spots ≡ program_tokens p
  pub known : AreAllKnown spots

module _ (d : DesignTree) (text : List ℕ) (p : ProgramTree) (names : HasNames d) (file : IsStructuredFile d text p)
  where
    -- the tokens of the driver are right
    file_right : AreRight d first_place (program_tokens p)
    file_right =
        subst (AreRight d first_place) (written_program p)
        (right_program d (written_of p) (fitting_right d p names file.is.fits))

    file_written : AreWritten (program_tokens p) (written_of p)
    file_written =
        subst (λ (l : List Token). AreWritten l (written_of p)) (written_program p) (fitting_written d p file.is.fits)

    empty_stuck : (at : Standing) → IsStuck at []
    empty_stuck at = record {
      no_blank = tt;
      no_token = λ t bytes rest begins may.
          omega (arith, ap length begins.whole, length-append bytes rest, spelled_some t bytes begins.spelled);
    }

    file_scan : IsFileScan d text p
    file_scan =
        let front = include_front text file.is.body file.is.include in
        let few : (place_after first_place (program_tokens p)).functions ≤ 16777216 =
        omega (
          arith,
          places_few first_place (program_tokens p),
          tokens_short d file.is.functions,
          file.short,
          ap length front.1,
          length-append front.0 file.is.body,
        ) in
        let low : AreLow (program_tokens p) =
        right_low d first_place (program_tokens p) 16777216 file_right few (omega arith) in
        let cut = cut_of d names (record { open_count = 0; line = line_after front.0 }) file.is.functions low
        file.shallow in
        record {
          spots = cut.spots;
          end = cut.end;
          scanned = record {
            front = front.0;
            body = file.is.body;
            whole = front.1;
            include = file.is.include;
            cut = cut.cut;
            stuck = empty_stuck cut.end;
          };
          tokens = cut.tokens;
          known = cut.known;
        }

-- what begins a driver
begins_less : (xs ys : List Token) → Begins (xs ++ ys) → Begins xs
begins_less xs ys begins = record {
  behind = ys ++ begins.behind;
  program = begins.program;
  written = subst (λ (l : List Token). AreWritten l begins.program) (append_assoc xs ys begins.behind) begins.written;
}

pub begins_all : (ts : List Token) (p : WrittenProgram) → AreWritten ts p → Begins ts
begins_all ts p written = record {
  behind = [];
  program = p;
  written = subst (λ (l : List Token). AreWritten l p) (sym (append-nil ts)) written;
}

pub begins_at : (front : List Spot) (s : Spot) (others : List Spot) → Begins (tokens_of (front ++ s ∷ others)) →
    Begins (tokens_of front ++ token_tree s.token ∷ [])
begins_at front s others begins =
    begins_less (tokens_of front ++ token_tree s.token ∷ []) (tokens_of others)
    (subst Begins (tokens_around front s others) begins)

no_text_fault : (d : DesignTree) (text : List ℕ) (p : ProgramTree) (line : ℕ) → HasNames d →
    IsStructuredFile d text p → HasTextFault d text line → ⊥
no_text_fault d text p line names file (no_include blanks rest all is begins none) =
    none file.is.body file.is.include
no_text_fault d text p line names file (unexpected front others s {rest = rest} {end = end} scanned begins stuck) =
    let scan = file_scan d text p names file in
    let same = same_scan d text (front ++ s ∷ others) scan.spots rest [] end scan.end scanned scan.scanned in
    stuck
    (begins_at front s others
    (subst Begins (sym (ap tokens_of same.lists ∙ scan.tokens))
    (begins_all (program_tokens p) (written_of p) (file_written d text p names file))))
no_text_fault d text p line names file (stopped {spots = spots} {rest = rest} {end = end} scanned begins ends) =
    let scan = file_scan d text p names file in
    let same = same_scan d text spots scan.spots rest [] end scan.end scanned scan.scanned in
    ends same.rests (written_of p)
    (subst (λ (l : List Token). AreWritten l (written_of p)) (sym (ap tokens_of same.lists ∙ scan.tokens))
    (file_written d text p names file))

-- no more functions may be named at a place than there are
callable_within : (front : List Spot) (s : Spot) (others : List Spot) →
    callable_at (place_after first_place (tokens_of front)) ≤ function_count (tokens_of (front ++ s ∷ others))
callable_within front s others =
    let one : List Token = token_tree s.token ∷ [] in
    let all : tokens_of (front ++ s ∷ others) ≡ tokens_of front ++ (one ++ tokens_of others) =
    tokens_around front s others ∙ append_assoc (tokens_of front) one (tokens_of others) in
    omega (
      arith,
      callable_few (place_after first_place (tokens_of front)),
      places_grow (place_after first_place (tokens_of front)) (one ++ tokens_of others),
      ap (λ p. p.functions) (after_both first_place (tokens_of front) (one ++ tokens_of others)),
      functions_count (tokens_of front ++ (one ++ tokens_of others)),
      ap function_count all,
    )

no_name_fault : (d : DesignTree) (text : List ℕ) (p : ProgramTree) (bad : BadStructured) → HasNames d →
    IsStructuredFile d text p → HasNameFault d text bad → ⊥
no_name_fault d text p bad names file fault =
    let scan = file_scan d text p names file in
    let spots : List Spot = fault.front ++ fault.spot ∷ fault.others in
    let count : ℕ = function_count (tokens_of spots) in
    let same = same_scan d text spots scan.spots [] [] fault.end scan.end fault.scanned scan.scanned in
    let tokens : tokens_of spots ≡ program_tokens p = ap tokens_of same.lists ∙ scan.tokens in
    let known : AreKnown spots = subst AreKnown (sym same.lists) (all_known scan.spots scan.known) in
    let right : AreRight d first_place (tokens_of spots) =
    subst (AreRight d first_place) (sym tokens) (file_right d text p names file) in
    right_no_fault d count (place_after first_place (tokens_of fault.front)) (token_tree fault.spot.token)
    fault.spot.known fault.spot.line (tokens_of fault.others) bad
    (callable_within fault.front fault.spot fault.others) (known_at fault.front fault.spot fault.others known)
    (right_at d first_place fault.front fault.spot fault.others right)
    (fault_at d count fault.front fault.spot fault.others bad fault.is)

-- the text of a driver has no fault
pub file_no_fault : (d : DesignTree) (text : List ℕ) (p : ProgramTree) (bad : BadStructured) → HasNames d →
    IsStructuredFile d text p → HasFault d text bad → ⊥
file_no_fault d text p TooLong names file fault = omega (arith, file.short, fault)
file_no_fault d text p (Text line) names file fault =
    ⊎_elim (no_text_fault d text p line names file) (no_name_fault d text p (Text line) names file) fault.1
file_no_fault d text p (UnknownName line) names file fault =
    no_name_fault d text p (UnknownName line) names file fault.1
file_no_fault d text p (ForwardCall line) names file fault =
    no_name_fault d text p (ForwardCall line) names file fault.1
