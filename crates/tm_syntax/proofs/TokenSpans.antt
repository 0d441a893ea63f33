-- Each token of a text stands in it, and there are no more of them than bytes.
use Rattle.std.proofs.Common.{◌≡◌, ℕ, ◌+◌, ◌-◌, ◌≤◌, Option, Some, None, List, [], ◌∷◌, ◌++◌, length, take, drop, slice_range, refl, sym, ap, ◌∙◌, subst, arith, length-append, append_assoc}
use Rattle.std.specs.List.{All}
use Rattle.std.specs.Option.{option_to_list}
use Rattle.std.proofs.lemmas.List.{take_at, drop_at}
use Rattle.std.proofs.lemmas.List.Elements.{All-nil, All-cons, All-append}
use Rattle.tm_syntax.specs.declared.token.Token.{Token}
use Rattle.tm_syntax.specs.declared.token.TokenKind.{TokenKind}
use Rattle.tm_syntax.specs.Tokens.{IsPiece, Piece, bytes_of, ArePieces, place_after, token_behind, tokens_behind, AreTokens, StandsIn}
use Rattle.tm_syntax.proofs.Tokens.{bytes_of-cons, piece_nonempty}

-- the token behind `front`, if its piece is one
at_front : (front bytes after : List ℕ) (kind : Option TokenKind) → IsPiece kind bytes →
    All (StandsIn (front ++ (bytes ++ after)))
    (option_to_list (token_behind front (record { kind = kind; bytes = bytes })))
at_front front bytes after None is = All-nil (StandsIn (front ++ (bytes ++ after)))
at_front front bytes after (Some kind) is =
    let text = front ++ (bytes ++ after) in
    let rest : drop (length front) text ≡ bytes ++ after = drop_at front (bytes ++ after) (length front) refl in
    let size : length bytes ≡ length front + length bytes - length front = omega arith in
    let span : slice_range text (length front) (length front + length bytes) ≡ bytes =
    ap (take (length front + length bytes - length front)) rest ∙ take_at bytes after _ size in
    All-cons (StandsIn text) _ [] (record {
      within = omega (arith, length-append front (bytes ++ after), length-append bytes after);
      is = subst (IsPiece (Some kind)) (sym span) is;
      here = ap place_after (sym (take_at front (bytes ++ after) (length front) refl));
    }) (All-nil (StandsIn text))

all_stand : (front : List ℕ) (ps : List Piece) (rest text : List ℕ) → text ≡ front ++ (bytes_of ps ++ rest) →
    ArePieces ps rest → All (StandsIn text) (tokens_behind front ps)
all_stand front [] rest text whole each = All-nil (StandsIn text)
all_stand front (p ∷ ps) rest text whole each =
    let split : text ≡ front ++ (p.bytes ++ (bytes_of ps ++ rest)) =
    whole ∙ ap (λ l. front ++ l) (bytes_of-cons p ps rest) in
    All-append (StandsIn text) (option_to_list (token_behind front p)) (tokens_behind (front ++ p.bytes) ps)
    (subst (λ l. All (StandsIn l) (option_to_list (token_behind front p))) (sym split)
    (at_front front p.bytes (bytes_of ps ++ rest) p.kind each.0))
    (all_stand (front ++ p.bytes) ps rest text (split ∙ sym (append_assoc front p.bytes (bytes_of ps ++ rest))) each.2)

-- each token of a text stands in it
pub tokens_stand : (text : List ℕ) (tokens : List Token) → AreTokens text tokens → All (StandsIn text) tokens
tokens_stand text tokens h =
    subst (All (StandsIn text)) (sym h.are) (all_stand [] h.pieces [] text h.split.whole h.split.each)

no_more_than_one : (front : List ℕ) (p : Piece) (kind : Option TokenKind) →
    length (option_to_list (token_behind front (record p { kind = kind }))) ≤ 1
no_more_than_one front p None = omega arith
no_more_than_one front p (Some kind) = omega arith

no_more : (front : List ℕ) (ps : List Piece) (rest : List ℕ) → ArePieces ps rest →
    length (tokens_behind front ps) ≤ length (bytes_of ps)
no_more front [] rest each = omega arith
no_more front (p ∷ ps) rest each =
    let one = no_more_than_one front p p.kind in
    let some = piece_nonempty p.kind p.bytes each.0 in
    let more = no_more (front ++ p.bytes) ps rest each.2 in
    omega (
      arith,
      length-append (option_to_list (token_behind front p)) (tokens_behind (front ++ p.bytes) ps),
      length-append p.bytes (bytes_of ps),
    )
