-- The function around the blocks, and where its reader stops.
use Rattle.std.proofs.Common.{◌≡◌, ◌≢◌, ℕ, ◌+◌, ◌-◌, ◌<◌, ◌≤◌, Bool, false, ◌==◌, true≢false, None, List, [], ◌∷◌, ◌++◌, length, take, drop, refl, sym, ap, ap₂, ◌∙◌, subst, append_assoc, length-append, arith}
use Rattle.std.proofs.lemmas.List.{append-nil, take_at, drop_at, length-map}
use Rattle.std.proofs.lemmas.List.Elements.{All-nil, All-cons, All-head, All-tail}
use Rattle.std.specs.List.{All}
use Rattle.tm_cir.specs.Tree.{idle}
use Rattle.tm_cir.specs.Text.Token.{Token, word, label, sign, void, driver_turn, return_word, open_parenthesis, close_parenthesis, open_brace, close_brace, colon, semicolon}
use Rattle.tm_cir.specs.Text.Grammar.{statement_tokens}
use Rattle.tm_cparse.specs.declared.spot.Spot.{Spot}
use Rattle.tm_cparse.specs.declared.spot.Stop.{Stop}
use Rattle.tm_cparse.specs.declared.spot.Stop.TheVariants.{Unexpected, Memory}
use Rattle.tm_cparse.specs.declared.statement.TheConstants.{HEAD}
use Rattle.tm_cparse.specs.View.{token_tree, tokens_of}
use Rattle.tm_cparse.specs.Written.{WrittenBlock, written_tokens, function_tokens, BlockInRange, AreWritten, Begins}
use Rattle.tm_cparse.specs.Inner.Reading.{first_of, IsBlocked, IsRefused, Moves}
use Rattle.tm_cparse.specs.Inner.Rows.{IsRow}
use Rattle.tm_cparse.specs.Inner.Blocks.{AreBlocksLeft, IsFunction, IsStuckAt}
use Rattle.tm_cparse.proofs.Readings.{refused_behind}
use Rattle.tm_cparse.proofs.Rows.{row_spelled}
use Rattle.tm_cparse.proofs.Blocks.{same_block}

abbrev brace : Token
brace = sign close_brace

abbrev InRange : WrittenBlock → Type 0
InRange b = BlockInRange b.block

same_tail : {t u : Token} {a b : List Token} → t ∷ a ≡ u ∷ b → a ≡ b
same_tail e = cc

-- what begins the function
abbrev head_tokens : List Token → List Token
head_tokens rest =
    word void ∷ word driver_turn ∷ sign open_parenthesis ∷ word void ∷ sign close_parenthesis ∷ sign open_brace ∷ rest

head_tail : {a b : List Token} → head_tokens a ≡ head_tokens b → a ≡ b
head_tail same = same_tail (same_tail (same_tail (same_tail (same_tail (same_tail same)))))

function_is : (bs : List WrittenBlock) (rest : List Token) →
    function_tokens bs ++ rest ≡ head_tokens (written_tokens bs ++ brace ∷ rest)
function_is bs rest = ap (λ (l : List Token). head_tokens l) (append_assoc (written_tokens bs) (brace ∷ []) rest)

first_is : (b : WrittenBlock) (bs : List WrittenBlock) (rest : List Token) →
    written_tokens (b ∷ bs) ++ brace ∷ rest
    ≡ label b.label ∷ sign colon ∷ (statement_tokens b.block ++ (written_tokens bs ++ brace ∷ rest))
first_is b bs rest =
    ap (λ (l : List Token). label b.label ∷ sign colon ∷ l)
    (append_assoc (statement_tokens b.block) (written_tokens bs) (brace ∷ rest))

-- tokens are the blocks of one function
same_written : (bs cs : List WrittenBlock) (rest others : List Token) →
    written_tokens bs ++ brace ∷ rest ≡ written_tokens cs ++ brace ∷ others → (bs ≡ cs) × (rest ≡ others)
same_written [] [] rest others same = (refl, same_tail same)
same_written [] (c ∷ cs) rest others same = absurd (cc)
same_written (b ∷ bs) [] rest others same = absurd (cc)
same_written (b ∷ bs) (c ∷ cs) rest others same =
    let first = same_block b c (written_tokens bs ++ brace ∷ rest) (written_tokens cs ++ brace ∷ others)
    (sym (first_is b bs rest) ∙ same ∙ first_is c cs others) in
    let behind = same_written bs cs rest others first.1 in
    (ap₂ (λ (x : WrittenBlock) (l : List WrittenBlock). x ∷ l) first.0 behind.0, behind.1)

pub same_function : (bs cs : List WrittenBlock) (rest others : List Token) →
    function_tokens bs ++ rest ≡ function_tokens cs ++ others → (bs ≡ cs) × (rest ≡ others)
same_function bs cs rest others same =
    same_written bs cs rest others (head_tail (sym (function_is bs rest) ∙ same ∙ function_is cs others))

-- the tokens of a driver are those of one list of blocks
pub one_written : (tokens : List Token) (bs cs : List WrittenBlock) → AreWritten tokens bs → AreWritten tokens cs →
    bs ≡ cs
one_written tokens bs cs one other =
    (same_function bs cs [] []
    (append-nil (function_tokens bs) ∙ sym one.are ∙ other.are ∙ sym (append-nil (function_tokens cs)))).0

-- what begins the function was read
head_row : (ts rest : List Token) → ts ≡ head_tokens rest → IsRow HEAD [] ts rest
head_row ts rest is = (_, is, (_, refl, (_, refl, (_, refl, (_, refl, (_, refl, (refl, refl)))))))

left_is : (bs : List WrittenBlock) (other after : List Token) → 0 < length bs → All InRange bs →
    other ≡ written_tokens bs ++ brace ∷ after → AreBlocksLeft [] bs other after
left_is [] other after some range are = absurd (omega arith)
left_is (b ∷ bs) other after some range are = record {
  first = b;
  others = bs;
  whole = refl;
  first_in_range = All-head InRange b bs range;
  in_range = All-tail InRange b bs range;
  are = are ∙ first_is b bs after;
}

pub head_moved : (ns : List ℕ) (ts middle : List Token) → IsRow HEAD ns ts middle →
    Moves IsFunction (AreBlocksLeft []) ts middle
head_moved ns ts middle row = record {
  front = head_tokens [];
  whole = row_spelled HEAD ns ts middle row;
  to = λ bs other after first is.
      left_is bs other after is.some is.in_range (head_tail (is.are ∙ function_is bs after));
  from = λ bs other after left.
      subst (λ (l : List WrittenBlock). IsFunction l (head_tokens other) after) (sym left.whole)
      (record {
        some = omega arith;
        in_range = All-cons InRange left.first left.others left.first_in_range left.in_range;
        are = ap (λ (l : List Token). head_tokens l) (left.are ∙ sym (first_is left.first left.others after))
            ∙ sym (function_is (left.first ∷ left.others) after);
      });
}

pub function_read : (ns : List ℕ) (bs : List WrittenBlock) (ts middle rest : List Token) → IsRow HEAD ns ts middle →
    AreBlocksLeft [] bs middle rest → IsFunction bs ts rest
function_read ns bs ts middle rest row left =
    let m = head_moved ns ts middle row in
    subst (λ (l : List Token). IsFunction bs l rest) (sym m.whole) (m.from bs middle rest left)

-- an idle block and the brace that closes
abbrev idle_block : WrittenBlock
idle_block = record { label = 0; block = idle }

abbrev idle_end : List Token
idle_end = label 0 ∷ sign colon ∷ word return_word ∷ sign semicolon ∷ brace ∷ []

idle_left : (behind : List Token) → AreBlocksLeft [] (idle_block ∷ []) (idle_end ++ behind) behind
idle_left behind = record {
  first = idle_block;
  others = [];
  whole = refl;
  first_in_range = tt;
  in_range = All-nil InRange;
  are = refl;
}

pub head_refused : (ts : List Token) (e : Stop) → IsRefused (IsRow HEAD) ts e → IsRefused IsFunction ts e
head_refused ts (Unexpected here) h = record {
  front = h.front;
  whole = h.whole;
  more = h.more ++ idle_end;
  completes = λ behind.
      let one = h.completes (idle_end ++ behind) in (
        idle_block ∷ [],
        subst (λ (l : List Token). IsFunction (idle_block ∷ []) (h.front ++ l) behind)
            (sym (append_assoc h.more idle_end behind))
            (function_read one.0 (idle_block ∷ []) _ (idle_end ++ behind) behind one.1 (idle_left behind)),
      );
  stuck = λ bs other rest first is.
      h.stuck [] other (written_tokens bs ++ brace ∷ rest) first
      (head_row (h.front ++ other) _ (is.are ∙ function_is bs rest));
}
head_refused ts Memory h = tt

pub blocks_refused : (ns : List ℕ) (ts middle : List Token) (e : Stop) → IsRow HEAD ns ts middle →
    IsRefused (AreBlocksLeft []) middle e → IsRefused IsFunction ts e
blocks_refused ns ts middle e row h = refused_behind (head_moved ns ts middle row) e h

-- all tokens are the function
pub all_written : (bs : List WrittenBlock) (tokens rest : List Token) → IsFunction bs tokens rest → rest ≡ [] →
    AreWritten tokens bs
all_written bs tokens rest is none = record {
  some = is.some;
  in_range = is.in_range;
  are = is.are ∙ ap (λ (l : List Token). function_tokens bs ++ l) none ∙ append-nil (function_tokens bs);
}

-- where tokens are cut
pub record IsCutAt (tokens front here : List Token) (place : ℕ) : Type 0 where
  pub within : place ≤ length tokens
  pub front_is : take place tokens ≡ front
  pub here_is : drop place tokens ≡ here

pub cut_at : (tokens front here : List Token) (place : ℕ) → tokens ≡ front ++ here →
    place + length here ≡ length tokens → IsCutAt tokens front here place
cut_at tokens front here place whole count =
    let len : length front ≡ place = omega (arith, ap length whole, length-append front here) in
    record {
      within = omega arith;
      front_is = ap (take place) whole ∙ take_at front here place len;
      here_is = ap (drop place) whole ∙ drop_at front here place len;
    }

stuck_at : (tokens front here : List Token) (place : ℕ) → IsCutAt tokens front here place → Begins front →
    ((bs : List WrittenBlock) (other : List Token) → first_of other ≡ first_of here →
    ¬ AreWritten (front ++ other) bs) →
    IsStuckAt tokens place
stuck_at tokens front here place cut begins stuck = record {
  within = cut.within;
  begins = subst Begins (sym cut.front_is) begins;
  stuck = λ bs other first are.
      stuck bs other (first ∙ ap first_of cut.here_is)
      (subst (λ (l : List Token). AreWritten (l ++ other) bs) cut.front_is are);
}

-- the function is refused
refused_at : (tokens here : List Token) (place : ℕ) → IsBlocked IsFunction tokens here →
    place + length here ≡ length tokens → IsStuckAt tokens place
refused_at tokens here place h count =
    let one = h.completes [] in
    stuck_at tokens h.front here place (cut_at tokens h.front here place h.whole count)
    (record {
      behind = h.more ++ [];
      blocks = one.0;
      written = all_written one.0 (h.front ++ (h.more ++ [])) [] one.1 refl;
    })
    (λ bs other first are.
    h.stuck bs other [] first
    (record { some = are.some; in_range = are.in_range; are = are.are ∙ sym (append-nil (function_tokens bs)) }))

-- tokens stand behind the function
behind_at : (bs : List WrittenBlock) (tokens rest : List Token) (place : ℕ) → IsFunction bs tokens rest →
    rest ≢ [] → place + length rest ≡ length tokens → IsStuckAt tokens place
behind_at bs tokens rest place is some count =
    stuck_at tokens (function_tokens bs) rest place (cut_at tokens (function_tokens bs) rest place is.are count)
    (record {
      behind = [];
      blocks = bs;
      written = record { some = is.some; in_range = is.in_range; are = append-nil (function_tokens bs) };
    })
    (λ cs other first are.
    let none : other ≡ [] = (same_function bs cs other [] (are.are ∙ sym (append-nil (function_tokens cs)))).1 in
    some (no_first rest (sym first ∙ ap first_of none)))
  where
    no_first : (l : List Token) → first_of l ≡ None → l ≡ []
    no_first [] e = refl
    no_first (t ∷ ts) e = cc

-- the spots before what is left of a slice, with the tokens of what is left, are as many as all tokens
pub count_of : (spots rest : List Spot) → length rest ≤ length spots →
    length spots - length rest + length (tokens_of rest) ≡ length (tokens_of spots)
count_of spots rest within =
    omega (
      arith,
      length-map spots (λ (s : Spot). token_tree s.token),
      length-map rest (λ (s : Spot). token_tree s.token),
    )

pub stopped_at : (spots rest : List Spot) → IsBlocked IsFunction (tokens_of spots) (tokens_of rest) →
    IsStuckAt (tokens_of spots) (length spots - length rest)
stopped_at spots rest h =
    refused_at (tokens_of spots) (tokens_of rest) (length spots - length rest) h
    (count_of spots rest
    (omega (
      arith,
      ap length h.whole,
      length-append h.front (tokens_of rest),
      length-map spots (λ (s : Spot). token_tree s.token),
      length-map rest (λ (s : Spot). token_tree s.token),
    )))

pub some_left : (spots : List Spot) (r : Bool) → r ≡ (length spots == 0) → r ≡ false → tokens_of spots ≢ []
some_left [] r is none e = true≢false (sym is ∙ none)
some_left (s ∷ ss) r is none e = cc

pub followed_at : (bs : List WrittenBlock) (spots rest : List Spot) (r : Bool) →
    IsFunction bs (tokens_of spots) (tokens_of rest) → length rest ≤ length spots → r ≡ (length rest == 0) →
    r ≡ false → IsStuckAt (tokens_of spots) (length spots - length rest)
followed_at bs spots rest r is within empty none =
    behind_at bs (tokens_of spots) (tokens_of rest) (length spots - length rest) is
    (some_left rest r empty none) (count_of spots rest within)
