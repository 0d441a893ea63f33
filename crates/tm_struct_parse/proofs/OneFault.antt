-- A text that is no structured driver has one fault.
use Rattle.std.proofs.Common.{◌≡◌, ◌⊎◌, ⊎_elim, inl, inr, ℕ, ◌<◌, ◌≤◌, List, [], ◌∷◌, ◌++◌, length, Result, Ok, Err}
use Rattle.std.proofs.Common.{refl, sym, ap, ◌∙◌, subst, length-append, arith}
use Rattle.std.specs.Prelude.{IfOk, IfErr, MatchResult}
use Rattle.tm_syntax.specs.Limits.{file_limit}
use Rattle.tm_syntax.specs.Design.{DesignTree}
use Rattle.tm_cparse.specs.declared.spot.Spot.{Spot}
use Rattle.tm_cparse.specs.View.{token_tree, tokens_of}
use Rattle.tm_cparse.specs.Cut.{Standing}
use Rattle.tm_cparse.specs.Faults.{HasNames}
use Rattle.tm_cparse.proofs.Fronts.{same_blanks}
use Rattle.tm_cparse.proofs.OneFault.{AreOrdered, same_place, first_before, second_before, ordered}
use Rattle.tm_struct.specs.declared.program.Structured.{Structured}
use Rattle.tm_struct.specs.Tree.{ProgramTree}
use Rattle.tm_struct.specs.View.{program_tree}
use Rattle.tm_struct.proofs.Whole.{one_program}
use Rattle.tm_struct_parse.specs.declared.bad.BadStructured.{BadStructured}
use Rattle.tm_struct_parse.specs.declared.bad.BadStructured.TheVariants.{TooLong, Text, UnknownName, ForwardCall}
use Rattle.tm_struct_parse.specs.declared.bad.ReadStructuredError.{ReadStructuredError}
use Rattle.tm_struct_parse.specs.declared.bad.ReadStructuredError.TheVariants.{Bad, Memory}
use Rattle.tm_struct_parse.specs.Written.{AreWritten, Begins}
use Rattle.tm_struct_parse.specs.Faults.{IsStructuredFile, HasTextFault, no_include, unexpected, stopped}
use Rattle.tm_struct_parse.specs.Faults.{function_count, IsNameFault, HasNameFault, HasFault}
use Rattle.tm_struct_parse.specs.Answer.{IsFaultOf, IsMemoryOr}
use Rattle.tm_struct_parse.specs.Inner.Names.{place_after, first_place}
use Rattle.tm_struct_parse.proofs.SameCut.{same_scan}
use Rattle.tm_struct_parse.proofs.NameFaults.{fault_at, fault_is, bad_of}
use Rattle.tm_struct_parse.proofs.Files.{begins_all, begins_at, file_no_fault}

-- tokens up to a place begin what those up to a later one begin
begins_before : (front : List Spot) (s : Spot) (middle later : List Spot) → later ≡ front ++ s ∷ middle →
    Begins (tokens_of later) → Begins (tokens_of front ++ token_tree s.token ∷ [])
begins_before front s middle later is begins =
    begins_at front s middle (subst (λ (l : List Spot). Begins (tokens_of l)) is begins)

-- where the grammar stops in the tokens of a text
same_text_fault : (d : DesignTree) (text : List ℕ) (line other : ℕ) → HasTextFault d text line →
    HasTextFault d text other → line ≡ other
same_text_fault d text line other (no_include blanks rest all is begins none)
    (no_include spaces behind every are starts never) =
    same_blanks text blanks spaces rest behind all is begins every are starts
same_text_fault d text line other (no_include blanks rest all is begins none)
    (unexpected front others s scanned begun stuck) = absurd (none scanned.body scanned.include)
same_text_fault d text line other (no_include blanks rest all is begins none) (stopped scanned begun ends) =
    absurd (none scanned.body scanned.include)
same_text_fault d text line other (unexpected front others s scanned begun stuck)
    (no_include blanks rest all is begins none) = absurd (none scanned.body scanned.include)
same_text_fault d text line other
    (unexpected front others s {rest = rest} {end = end} scanned begun stuck)
    (unexpected start behind t {rest = after} {end = last} cut starts blocked) =
    of (ordered front s others start t behind
    (same_scan d text (front ++ s ∷ others) (start ++ t ∷ behind) rest after end last scanned cut).lists)
  where
    of : AreOrdered front s others start t behind → s.line ≡ t.line
    of (same_place fronts same rests) = ap (λ (x : Spot). x.line) same
    of (first_before middle is) = absurd (stuck (begins_before front s middle start is starts))
    of (second_before middle is) = absurd (blocked (begins_before start t middle front is begun))
same_text_fault d text line other
    (unexpected front others s {rest = rest} {end = end} scanned begun stuck)
    (stopped {spots = spots} {rest = after} {end = last} cut starts ends) =
    absurd
    (stuck
    (begins_before front s others spots
    (sym (same_scan d text (front ++ s ∷ others) spots rest after end last scanned cut).lists) starts))
same_text_fault d text line other (stopped scanned begun ends) (no_include blanks rest all is begins none) =
    absurd (none scanned.body scanned.include)
same_text_fault d text line other
    (stopped {spots = spots} {rest = after} {end = last} cut starts ends)
    (unexpected front others s {rest = rest} {end = end} scanned begun stuck) =
    absurd
    (stuck
    (begins_before front s others spots
    ((same_scan d text spots (front ++ s ∷ others) after rest last end cut scanned).lists) starts))
same_text_fault d text line other
    (stopped {spots = spots} {rest = rest} {end = end} scanned begun ends)
    (stopped {spots = others} {rest = after} {end = last} cut starts stops) =
    ap (λ (a : Standing). a.line) (same_scan d text spots others rest after end last scanned cut).ends

-- a text whose tokens are a driver with any names has no fault of the grammar
no_text_and_name : (d : DesignTree) (text : List ℕ) (line : ℕ) (bad : BadStructured) → HasTextFault d text line →
    HasNameFault d text bad → ⊥
no_text_and_name d text line bad (no_include blanks rest all is begins none) fault =
    none fault.scanned.body fault.scanned.include
no_text_and_name d text line bad (unexpected front others s {rest = rest} {end = end} scanned begun stuck) fault =
    let spots : List Spot = fault.front ++ fault.spot ∷ fault.others in
    stuck
    (begins_before front s others spots
    (sym (same_scan d text (front ++ s ∷ others) spots rest [] end fault.end scanned fault.scanned).lists)
    (begins_all (tokens_of spots) fault.program fault.written))
no_text_and_name d text line bad (stopped {spots = others} {rest = rest} {end = end} scanned begun ends) fault =
    let spots : List Spot = fault.front ++ fault.spot ∷ fault.others in
    let same = same_scan d text others spots rest [] end fault.end scanned fault.scanned in
    ends same.rests fault.program
    (subst (λ (l : List Spot). AreWritten (tokens_of l) fault.program) (sym same.lists) fault.written)

same_name_fault : (d : DesignTree) (text : List ℕ) (bad other : BadStructured) → HasNameFault d text bad →
    HasNameFault d text other → bad ≡ other
same_name_fault d text bad other one two =
    let spots : List Spot = one.front ++ one.spot ∷ one.others in
    let places : List Spot = two.front ++ two.spot ∷ two.others in
    let same : spots ≡ places = (same_scan d text spots places [] [] one.end two.end one.scanned two.scanned).lists in
    of same (ordered one.front one.spot one.others two.front two.spot two.others same)
  where
    of : one.front ++ one.spot ∷ one.others ≡ two.front ++ two.spot ∷ two.others →
        AreOrdered one.front one.spot one.others two.front two.spot two.others → bad ≡ other
    of same (same_place fronts spot rests) =
        let first = fault_at d (function_count (tokens_of (one.front ++ one.spot ∷ one.others))) one.front one.spot
        one.others bad one.is in
        let second = fault_at d (function_count (tokens_of (two.front ++ two.spot ∷ two.others))) two.front two.spot
        two.others other two.is in
        let counts : function_count (tokens_of (one.front ++ one.spot ∷ one.others))
        ≡ function_count (tokens_of (two.front ++ two.spot ∷ two.others)) =
        ap (λ (l : List Spot). function_count (tokens_of l)) same in
        fault_is d _ (place_after first_place (tokens_of one.front)) (token_tree one.spot.token) one.spot.known
        one.spot.line (tokens_of one.others) bad first
        ∙ ap (λ (n : ℕ).
        bad_of n (place_after first_place (tokens_of one.front)) (token_tree one.spot.token) one.spot.known
        one.spot.line) counts
        ∙ ap (λ (l : List Spot).
        bad_of (function_count (tokens_of (two.front ++ two.spot ∷ two.others))) (place_after first_place (tokens_of l))
        (token_tree one.spot.token) one.spot.known one.spot.line) fronts
        ∙ ap (λ (s : Spot).
        bad_of (function_count (tokens_of (two.front ++ two.spot ∷ two.others)))
        (place_after first_place (tokens_of two.front)) (token_tree s.token) s.known s.line) spot
        ∙ sym
        (fault_is d _ (place_after first_place (tokens_of two.front)) (token_tree two.spot.token) two.spot.known
        two.spot.line (tokens_of two.others) other second)
    of same (first_before middle is) =
        absurd
        (two.first one.front one.others one.spot bad (sym same)
        (omega (arith, ap length is, length-append one.front (one.spot ∷ middle)))
        (subst (λ (l : List Spot). IsNameFault d (function_count (tokens_of l)) one.front one.spot one.others bad) same
        one.is))
    of same (second_before middle is) =
        absurd
        (one.first two.front two.others two.spot other same
        (omega (arith, ap length is, length-append two.front (two.spot ∷ middle)))
        (subst (λ (l : List Spot). IsNameFault d (function_count (tokens_of l)) two.front two.spot two.others other)
        (sym same) two.is))

-- a fault of the grammar with its line, or of a name
abbrev OneOf : DesignTree → List ℕ → BadStructured → Type 0
OneOf d text bad = ((line : ℕ) × (bad ≡ Text line) × HasTextFault d text line) ⊎ HasNameFault d text bad

one_of : (d : DesignTree) (text : List ℕ) (bad : BadStructured) → HasFault d text bad →
    ((bad ≡ TooLong) × (file_limit < length text)) ⊎ ((length text ≤ file_limit) × OneOf d text bad)
one_of d text TooLong fault = inl (refl, fault)
one_of d text (Text line) fault =
    inr (
      fault.0,
      ⊎_elim (λ (f : HasTextFault d text line). inl (line, refl, f)) (λ (f : HasNameFault d text (Text
          line)). inr f) fault.1,
    )
one_of d text (UnknownName line) fault = inr (fault.0, inr fault.1)
one_of d text (ForwardCall line) fault = inr (fault.0, inr fault.1)

same_of : (d : DesignTree) (text : List ℕ) (bad other : BadStructured) → OneOf d text bad → OneOf d text other →
    bad ≡ other
same_of d text bad other (inl one) (inl two) =
    one.1 ∙ ap (λ (n : ℕ). Text n) (same_text_fault d text one.0 two.0 one.2 two.2) ∙ sym two.1
same_of d text bad other (inl one) (inr two) = absurd (no_text_and_name d text one.0 other one.2 two)
same_of d text bad other (inr one) (inl two) = absurd (no_text_and_name d text two.0 bad two.2 one)
same_of d text bad other (inr one) (inr two) = same_name_fault d text bad other one two

-- a text has one fault
pub one_fault : (d : DesignTree) (text : List ℕ) (bad other : BadStructured) → HasFault d text bad →
    HasFault d text other → bad ≡ other
one_fault d text bad other one two = of (one_of d text bad one) (one_of d text other two)
  where
    of : ((bad ≡ TooLong) × (file_limit < length text)) ⊎ ((length text ≤ file_limit) × OneOf d text bad) →
        ((other ≡ TooLong) × (file_limit < length text)) ⊎ ((length text ≤ file_limit) × OneOf d text other) →
        bad ≡ other
    of (inl a) (inl b) = a.0 ∙ sym b.0
    of (inl a) (inr b) = absurd (omega (arith, a.1, b.0))
    of (inr a) (inl b) = absurd (omega (arith, a.0, b.1))
    of (inr a) (inr b) = same_of d text bad other a.1 b.1

-- what an answer that is right says of a text with blocks, and of one with a fault
pub answers_program : (d : DesignTree) (text : List ℕ) (p : ProgramTree) (r : Result Structured ReadStructuredError) →
    HasNames d → IsStructuredFile d text p → IfOk r (λ b. IsStructuredFile d text (program_tree b)) →
    IfErr r (IsFaultOf d text) →
    MatchResult r (λ b. program_tree b ≡ p) (λ e. e ≡ Memory)
answers_program d text p (Ok b) names file read faulty = one_program d text (program_tree b) p read.is file.is
answers_program d text p (Err Memory) names file read faulty = refl
answers_program d text p (Err (Bad bad)) names file read faulty =
    absurd (file_no_fault d text p bad names file faulty)

pub answers_fault : (d : DesignTree) (text : List ℕ) (bad : BadStructured) (r : Result Structured ReadStructuredError) →
    HasNames d → HasFault d text bad → IfOk r (λ b. IsStructuredFile d text (program_tree b)) →
    IfErr r (IsFaultOf d text) →
    MatchResult r (λ b. ⊥) (IsMemoryOr bad)
answers_fault d text bad (Ok b) names fault read faulty = file_no_fault d text (program_tree b) bad names read fault
answers_fault d text bad (Err Memory) names fault read faulty = inl refl
answers_fault d text bad (Err (Bad found)) names fault read faulty =
    inr (ap (λ (b : BadStructured). Bad b) (one_fault d text found bad faulty fault))
