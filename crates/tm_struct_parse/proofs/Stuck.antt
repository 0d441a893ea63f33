-- Where tokens are stuck that are no driver.
use Rattle.std.proofs.Common.{◌≡◌, ◌≢◌, ℕ, ◌+◌, ◌-◌, ◌≤◌, Bool, true, false, ◌==◌, None, List, [], ◌∷◌, ◌++◌, All}
use Rattle.std.proofs.Common.{length, refl, sym, ap, ◌∙◌, subst, append_assoc, length-append, arith}
use Rattle.std.proofs.lemmas.Bool.Decides.{Decides-eqb}
use Rattle.std.proofs.lemmas.List.{append-nil, length-map}
use Rattle.tm_cir.specs.Text.Token.{Token, word, void, driver_turn}
use Rattle.tm_cparse.specs.declared.spot.Spot.{Spot}
use Rattle.tm_cparse.specs.View.{token_tree, tokens_of}
use Rattle.tm_cparse.specs.Inner.Reading.{first_of, IsBlocked}
use Rattle.tm_cparse.proofs.Functions.{IsCutAt, cut_at, count_of, some_left}
use Rattle.tm_struct.specs.Tree.{ActionTree}
use Rattle.tm_struct.specs.Text.Spelling.{static_word, function}
use Rattle.tm_struct.specs.Text.Grammar.{body_tokens}
use Rattle.tm_struct.proofs.Grammar.{same_body}
use Rattle.tm_struct_parse.specs.Written.{WrittenFunction, functions_tokens, WrittenProgram, written_tokens}
use Rattle.tm_struct_parse.specs.Written.{FunctionInRange, AreWritten, Begins}
use Rattle.tm_struct_parse.specs.Inner.Forms.{IsProgram, IsStuckAt}
use Rattle.tm_struct_parse.proofs.Programs.{functions_text}

same_tail : {t u : Token} {a b : List Token} → t ∷ a ≡ u ∷ b → a ≡ b
same_tail e = cc

-- `driver_turn`, and what follows it
abbrev turn : ActionTree → List Token → List Token
turn a rest = word void ∷ word driver_turn ∷ (body_tokens a ++ rest)

written_text : (p : WrittenProgram) (rest : List Token) →
    written_tokens p ++ rest ≡ functions_tokens p.functions ++ turn p.main rest
written_text p rest =
    append_assoc (functions_tokens p.functions) (word void ∷ word driver_turn ∷ body_tokens p.main) rest

program_text : (p : WrittenProgram) (tokens rest : List Token) → IsProgram [] p tokens rest →
    tokens ≡ written_tokens p ++ rest
program_text p tokens rest is =
    is.are ∙ ap (λ (fs : List WrittenFunction). functions_tokens fs ++ turn p.main rest) (sym is.whole)
    ∙ sym (written_text p rest)

-- a form with nothing behind it is the whole driver
form_written : (p : WrittenProgram) (tokens whole : List Token) → IsProgram [] p tokens [] → whole ≡ tokens →
    AreWritten whole p
form_written p tokens whole is same = record {
  functions_in_range = subst (All FunctionInRange) (sym is.whole) is.functions_in_range;
  main_in_range = is.main_in_range;
  are = same ∙ program_text p tokens [] is ∙ append-nil (written_tokens p);
}

written_form : (p : WrittenProgram) (tokens : List Token) → AreWritten tokens p → IsProgram [] p tokens []
written_form p tokens written = record {
  others = p.functions;
  whole = refl;
  functions_in_range = written.functions_in_range;
  main_in_range = written.main_in_range;
  are = written.are ∙ sym (append-nil (written_tokens p)) ∙ written_text p [];
}

-- what follows a driver is one list
same_rest : (fs gs : List WrittenFunction) (a b : ActionTree) (rest others : List Token) →
    functions_tokens fs ++ turn a rest ≡ functions_tokens gs ++ turn b others → rest ≡ others
same_rest [] [] a b rest others same = (same_body a b rest others (same_tail (same_tail same))).1
same_rest [] (g ∷ gs) a b rest others same = absurd (cc)
same_rest (f ∷ fs) [] a b rest others same = absurd (cc)
same_rest (f ∷ fs) (g ∷ gs) a b rest others same =
    let whole : static_word ∷ word void ∷ function f.number
    ∷ (body_tokens f.action ++ (functions_tokens fs ++ turn a rest))
    ≡ static_word ∷ word void ∷ function g.number
    ∷ (body_tokens g.action ++ (functions_tokens gs ++ turn b others)) =
    sym (functions_text f fs (turn a rest)) ∙ same ∙ functions_text g gs (turn b others) in
    same_rest fs gs a b rest others
    ((same_body f.action g.action (functions_tokens fs ++ turn a rest) (functions_tokens gs ++ turn b others)
    (same_tail (same_tail (same_tail whole)))).1)

stuck_at : (tokens front here : List Token) (place : ℕ) → IsCutAt tokens front here place → Begins front →
    ((p : WrittenProgram) (other : List Token) → first_of other ≡ first_of here → ¬ AreWritten (front ++ other) p) →
    IsStuckAt tokens place
stuck_at tokens front here place cut begins stuck = record {
  within = cut.within;
  begins = subst Begins (sym cut.front_is) begins;
  stuck = λ p other first are.
      stuck p other (first ∙ ap first_of cut.here_is)
      (subst (λ (l : List Token). AreWritten (l ++ other) p) cut.front_is are);
}

-- the driver is refused
refused_at : (tokens here : List Token) (place : ℕ) → IsBlocked (IsProgram []) tokens here →
    place + length here ≡ length tokens → IsStuckAt tokens place
refused_at tokens here place h count =
    let one = h.completes [] in
    stuck_at tokens h.front here place (cut_at tokens h.front here place h.whole count)
    (record {
      behind = h.more ++ [];
      program = one.0;
      written = form_written one.0 (h.front ++ (h.more ++ [])) (h.front ++ (h.more ++ [])) one.1 refl;
    })
    (λ p other first are. h.stuck p other [] first (written_form p (h.front ++ other) are))

-- tokens stand behind the driver
behind_at : (p : WrittenProgram) (tokens rest : List Token) (place : ℕ) → IsProgram [] p tokens rest → rest ≢ [] →
    place + length rest ≡ length tokens → IsStuckAt tokens place
behind_at p tokens rest place is some count =
    stuck_at tokens (written_tokens p) rest place
    (cut_at tokens (written_tokens p) rest place (program_text p tokens rest is) count)
    (record {
      behind = [];
      program = p;
      written = record {
        functions_in_range = subst (All FunctionInRange) (sym is.whole) is.functions_in_range;
        main_in_range = is.main_in_range;
        are = append-nil (written_tokens p);
      };
    })
    (λ q other first are.
    let none : other ≡ [] =
    same_rest p.functions q.functions p.main q.main other []
    (sym (written_text p other) ∙ are.are ∙ sym (append-nil (written_tokens q)) ∙ written_text q []) in
    some (no_first rest (sym first ∙ ap first_of none)))
  where
    no_first : (l : List Token) → first_of l ≡ None → l ≡ []
    no_first [] e = refl
    no_first (t ∷ ts) e = cc

-- no driver goes on where a reader of the spots of a text was stopped
pub stopped_at : (spots rest : List Spot) → IsBlocked (IsProgram []) (tokens_of spots) (tokens_of rest) →
    IsStuckAt (tokens_of spots) (length spots - length rest)
stopped_at spots rest h =
    refused_at (tokens_of spots) (tokens_of rest) (length spots - length rest) h
    (count_of spots rest
    (omega (
      arith,
      ap length h.whole,
      length-append h.front (tokens_of rest),
      length-map spots (λ (s : Spot). token_tree s.token),
      length-map rest (λ (s : Spot). token_tree s.token),
    )))

pub followed_at : (p : WrittenProgram) (spots rest : List Spot) (r : Bool) →
    IsProgram [] p (tokens_of spots) (tokens_of rest) → length rest ≤ length spots → r ≡ (length rest == 0) →
    r ≡ false → IsStuckAt (tokens_of spots) (length spots - length rest)
followed_at p spots rest r is within empty none =
    behind_at p (tokens_of spots) (tokens_of rest) (length spots - length rest) is
    (some_left rest r empty none) (count_of spots rest within)

-- nothing stands behind the driver
pub whole_there : (p : WrittenProgram) (spots rest : List Spot) (r : Bool) →
    IsProgram [] p (tokens_of spots) (tokens_of rest) → r ≡ (length rest == 0) → r ≡ true →
    AreWritten (tokens_of spots) p
whole_there p spots rest r is empty all =
    form_written p (tokens_of spots) (tokens_of spots)
    (subst (IsProgram [] p (tokens_of spots)) (none rest empty) is) refl
  where
    some_there : (s : Spot) (ss : List Spot) → true ≡ (length (s ∷ ss) == 0) → ⊥
    some_there s ss e =
        let zero : length (s ∷ ss) ≡ 0 = (Decides-eqb (length (s ∷ ss)) 0).0 (sym e) in omega arith

    none : (l : List Spot) → r ≡ (length l == 0) → tokens_of l ≡ []
    none [] e = refl
    none (s ∷ ss) e = absurd (some_there s ss (sym all ∙ e))
