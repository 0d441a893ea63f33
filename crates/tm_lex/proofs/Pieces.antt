-- The front of a text is split into pieces, one more at a time.
use Rattle.std.proofs.Common.{◌≡◌, ℕ, ◌+◌, ◌<◌, ◌≤◌, not, Option, List, [], ◌∷◌, ◌++◌, length, get_or, take, drop, sym, ap, ◌∙◌, subst, arith, append_assoc}
use Rattle.std.specs.Option.{option_map, option_to_list}
use Rattle.std.proofs.lemmas.List.{append-nil, length-take-le, length-drop, drop-drop, drop_all, drop_more, drop-take, take-append-drop, take-take}
use Rattle.std.proofs.lemmas.List.Sums.{count_by-le-length, suffix_len-le-length}
use Rattle.tm_base.specs.declared.place.Place.{Place}
use Rattle.tm_syntax.specs.declared.token.Token.{Token}
use Rattle.tm_syntax.specs.declared.token.TokenKind.{TokenKind}
use Rattle.tm_syntax.specs.Tokens.{IsPiece, IsLongest, Piece, bytes_of, ArePieces, Splits, place_after, token_behind, tokens_behind, AreTokens, BeginsNothing, HasByteFault, is_line_feed}
use Rattle.tm_lex.specs.Front.{IsFirstPiece}

-- one more piece at the end
bytes_of-push : (ps : List Piece) (p : Piece) (rest : List ℕ) →
    bytes_of (ps ++ p ∷ []) ++ rest ≡ bytes_of ps ++ (p.bytes ++ rest)
bytes_of-push [] p rest = ap (λ l. l ++ rest) (append-nil p.bytes)
bytes_of-push (q ∷ ps) p rest =
    append_assoc q.bytes (bytes_of (ps ++ p ∷ [])) rest ∙ ap (λ l. q.bytes ++ l) (bytes_of-push ps p rest)
    ∙ sym (append_assoc q.bytes (bytes_of ps) (p.bytes ++ rest))

ArePieces-push : (ps : List Piece) (p : Piece) (rest : List ℕ) → ArePieces ps (p.bytes ++ rest) →
    IsPiece p.kind p.bytes → IsLongest p.bytes rest → ArePieces (ps ++ p ∷ []) rest
ArePieces-push [] p rest each is longest = (is, longest, tt)
ArePieces-push (q ∷ ps) p rest each is longest = (
  each.0,
  subst (IsLongest q.bytes) (sym (bytes_of-push ps p rest)) each.1,
  ArePieces-push ps p rest each.2 is longest,
)

tokens_behind-push : (front : List ℕ) (ps : List Piece) (p : Piece) →
    tokens_behind front (ps ++ p ∷ [])
    ≡ tokens_behind front ps ++ option_to_list (token_behind (front ++ bytes_of ps) p)
tokens_behind-push front [] p = append-nil _ ∙ ap (λ l. option_to_list (token_behind l p)) (sym (append-nil front))
tokens_behind-push front (q ∷ ps) p =
    ap (λ l. option_to_list (token_behind front q) ++ l) (tokens_behind-push (front ++ q.bytes) ps p)
    ∙ sym (append_assoc (option_to_list (token_behind front q)) (tokens_behind (front ++ q.bytes) ps) _)
    ∙ ap (λ l. tokens_behind front (q ∷ ps) ++ option_to_list (token_behind l p))
    (append_assoc front q.bytes (bytes_of ps))

-- no place is further than its bytes
pub place_bounds : (front : List ℕ) →
    ((place_after front).line ≤ 1 + length front) × ((place_after front).column ≤ 1 + length front)
place_bounds front = (
  omega (arith, count_by-le-length is_line_feed front),
  omega (arith, suffix_len-le-length (λ b. not (is_line_feed b)) front),
)

-- the tokens of the first `start` bytes, and the place behind them
pub record IsLexed (text : List ℕ) (start : ℕ) (tokens : List Token) (place : Place) : Type 0 where
  pub pieces : List Piece
  pub fits : start ≤ length text
  pub whole : bytes_of pieces ≡ take start text
  pub each : ArePieces pieces (drop start text)
  pub are : tokens ≡ tokens_behind [] pieces
  pub here : place ≡ place_after (take start text)

module _ {text : List ℕ} {start : ℕ} {tokens : List Token} {place : Place} (lexed : IsLexed text start tokens place)
  where
    -- the text is the pieces and what is left
    pub lexed_splits : Splits text lexed.pieces (drop start text)
    lexed_splits = record {
      whole = sym (take-append-drop start text) ∙ ap (λ l. l ++ drop start text) (sym lexed.whole);
      each = lexed.each;
    }

    pub lexed_more : (kind : Option TokenKind) (len : ℕ) (more : List Token) (next : Place) →
        IsFirstPiece (drop start text) kind len →
        more ≡ tokens ++ option_to_list
        (option_map (λ (k : TokenKind). record { kind = k; start = start; end = start + len; place = place }) kind) →
        next ≡ place_after (take start text ++ take len (drop start text)) → IsLexed text (start + len) more next
    lexed_more kind len more next first pushed moved =
        let bytes = take len (drop start text) in
        let p : Piece = record { kind = kind; bytes = bytes } in
        let size : length bytes ≡ len = length-take-le len (drop start text) first.fits in
        let back : drop len (drop start text) ≡ drop (start + len) text = drop-drop len start text in
        let left : drop start text ≡ bytes ++ drop (start + len) text =
        sym (take-append-drop len (drop start text)) ∙ ap (λ l. bytes ++ l) back in
        let low : start ≤ start + len = omega arith in
        let front : take start text ++ bytes ≡ take (start + len) text =
        (λ i. sym (take-take start (start + len) text low) i ++ sym (drop-take start len text) i)
        ∙ take-append-drop start (take (start + len) text) in
        let from : length (bytes_of lexed.pieces) ≡ start =
        ap length lexed.whole ∙ length-take-le start text lexed.fits in
        let to : length (bytes_of lexed.pieces) + length bytes ≡ start + len = omega arith in
        let at : place_after (bytes_of lexed.pieces) ≡ place = ap place_after lexed.whole ∙ sym lexed.here in
        let token : token_behind (bytes_of lexed.pieces) p
        ≡ option_map (λ (k : TokenKind). record { kind = k; start = start; end = start + len; place = place }) kind =
        λ i. option_map (λ (k : TokenKind). record { kind = k; start = from i; end = to i; place = at i }) kind in
        record {
          pieces = lexed.pieces ++ p ∷ [];
          fits = omega (arith, first.fits, length-drop start text, lexed.fits);
          whole = sym (append-nil (bytes_of (lexed.pieces ++ p ∷ []))) ∙ bytes_of-push lexed.pieces p []
              ∙ (λ i. lexed.whole i ++ append-nil bytes i) ∙ front;
          each = ArePieces-push lexed.pieces p (drop (start + len) text)
              (subst (ArePieces lexed.pieces) left lexed.each)
              first.is (subst (IsLongest bytes) back first.longest);
          are = pushed ∙ (λ i. lexed.are i ++ option_to_list (sym token i))
              ∙ sym (tokens_behind-push [] lexed.pieces p);
          here = moved ∙ ap place_after front;
        }

    pub lexed_all : length text ≤ start → AreTokens text tokens
    lexed_all ends = record {
      pieces = lexed.pieces;
      split = subst (Splits text lexed.pieces) (drop_all start text ends) lexed_splits;
      are = lexed.are;
    }

    pub lexed_stuck : start < length text → BeginsNothing (drop start text) → HasByteFault text place
    lexed_stuck more nothing =
        let next = drop_more text start 0 more in
        record {
          pieces = lexed.pieces;
          byte = get_or text start 0;
          rest = drop (start + 1) text;
          split = subst (Splits text lexed.pieces) next lexed_splits;
          begins_nothing = subst BeginsNothing next nothing;
          here = lexed.here ∙ ap place_after (sym lexed.whole);
        }
