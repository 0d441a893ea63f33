use Rattle.std.proofs.Common.{◌≡◌, ◌+◌, ◌-◌, ◌++◌, take, drop, inr, sym, ap, ◌∙◌, subst, refl, arith, length-take, length-drop}
use Rattle.std.proofs.lemmas.List.{take_rest}
use Rattle.tm_base.specs.declared.place.Place.{Place}
use Rattle.tm_syntax.specs.Tokens.{place_after, BeginsNothing, HasByteFault}
use Rattle.tm_syntax.proofs.Tokens.{tokens_agree, tokens_or_fault, faults_agree}
use Rattle.tm_syntax.proofs.TokenSpans.{tokens_stand}
use Rattle.tm_lex.specs.Answer.{byte_fault, IsByteFaultOf}
use Rattle.tm_lex.specs.Front.{IsFirstPiece}
use Rattle.tm_lex.proofs.Pieces.{lexed_more, lexed_all, lexed_stuck, place_bounds}
use Rattle.tm_lex.proofs.lex.Goals as goal
use Rattle.tm_lex.proofs.lex.Goals.{In_default}

-- nothing begins at what is left
fault_here : (c : In_default) → HasByteFault c.args.text.now c.loop-start.place
fault_here c = lexed_stuck c.loop-start.invariant c.loop-start-test.true
    (subst BeginsNothing (take_rest c.args.text.now c.loop-start.start) c.in_default.ensures)

pub returns-in_default-clause-faulty : goal.returns-in_default-clause-faulty
returns-in_default-clause-faulty c =
    let fault = fault_here (goal.at.returns-in_default-clause-faulty c).In_default in
    subst (IsByteFaultOf c.args.text.now) (sym c.byte_fault.ensures) (refl, fault, refl)

pub returns-in_default-clause-read : goal.returns-in_default-clause-read
returns-in_default-clause-read c = λ tokens are.
    absurd (tokens_or_fault c.args.text.now tokens c.loop-start.place are
    (fault_here (goal.at.returns-in_default-clause-read c).In_default))

pub returns-in_default-clause-refused : goal.returns-in_default-clause-refused
returns-in_default-clause-refused c = λ place fault.
    let same = faults_agree c.args.text.now c.loop-start.place place
    (fault_here (goal.at.returns-in_default-clause-refused c).In_default) fault in
    inr (c.byte_fault.ensures ∙ ap byte_fault same)

pub returns-clause-spans : goal.returns-clause-spans
returns-clause-spans c = tokens_stand c.args.text.now _ (lexed_all c.loop-start.invariant c.loop-start-test.false)

pub returns-clause-read : goal.returns-clause-read
returns-clause-read c = λ tokens are.
    tokens_agree c.args.text.now _ tokens (lexed_all c.loop-start.invariant c.loop-start-test.false) are

pub returns-clause-refused : goal.returns-clause-refused
returns-clause-refused c =
    λ place fault. tokens_or_fault c.args.text.now _ place (lexed_all c.loop-start.invariant c.loop-start-test.false)
    fault

-- no column is further than its byte
pub place_after-place-requires-clause-column : goal.place_after-place-requires-clause-column
place_after-place-requires-clause-column c =
    let text = c.args.text.now in
    let start = c.loop-start.start in
    let end = start + c.in-Some.piece.len in
    let here = ap (λ (p : Place). p.column) c.loop-start.invariant.here in
    omega (
      arith,
      here,
      (place_bounds (take start text)).1,
      length-take start text,
      length-take (end - start) (drop start text),
      length-drop start text,
    )

pub loop-start-preserved : goal.loop-start-preserved
loop-start-preserved c =
    let text = c.args.text.now in
    let start = c.loop-start.start in
    let piece = c.in-Some.piece in
    let len : start + piece.len - start ≡ piece.len = omega arith in
    lexed_more c.loop-start.invariant piece.kind piece.len c.push_token.new.tokens.items c.place_after-place.result
    (subst (λ l. IsFirstPiece l piece.kind piece.len) (take_rest text start) c.in-Some.ensures)
    c.in_ok-push_token.ensures
    (c.place_after-place.ensures (take start text) c.loop-start.invariant.here
    ∙ ap (λ n. place_after (take start text ++ take n (drop start text))) len)
