-- What a scan knows of a text is what its derivation asks: before each token it knows the open levels and the operand
-- on the left.
use Rattle.std.proofs.Common.{◌≡◌, ℕ, suc, ◌<◌, ◌≤◌, Option, Some, None, List, [], ◌∷◌, ◌++◌, length, refl, sym, ap, ◌∙◌, subst, arith, append_assoc, length-append, ⊎_elim, eq-or-lt_of_le}
use Rattle.tm_syntax.specs.declared.token.Token.{Token}
use Rattle.tm_syntax.specs.declared.token.TokenKind.{TokenKind}
use Rattle.tm_syntax.specs.Grammar.Parts.{Has}
use Rattle.tm_parse.proofs.Scan.{Waiting, State, state, settled, bare, step, depth_of}

-- the scan has come to these tokens, and each depth that it knew was asked
pub data Here (May : List Token → ℕ → Type 0) (tokens : List Token) : State → List Token → Type 0 where
  at_first : Here May tokens (state [] 0) tokens
  behind_plain : {kind : TokenKind} {s r : State} {a b : List Token} → Here May tokens s a → Has kind a b →
      depth_of kind s ≡ None → step kind s ≡ r → Here May tokens r b
  behind_asked : {kind : TokenKind} {s r : State} {n : ℕ} {a b : List Token} → Here May tokens s a → Has kind a b →
      depth_of kind s ≡ Some n → May a n → step kind s ≡ r → Here May tokens r b

-- the scan knows that the first of these tokens stands so deep
pub record Known (May : List Token → ℕ → Type 0) (tokens a : List Token) (n : ℕ) : Type 0 where
  pub kind : TokenKind
  pub now : State
  pub rest : List Token
  pub here : Here May tokens now a
  pub has : Has kind a rest
  pub deep : depth_of kind now ≡ Some n

pub known : {May : List Token → ℕ → Type 0} {tokens : List Token} {kind : TokenKind} {s : State} {n : ℕ}
    {a b : List Token} → Here May tokens s a → Has kind a b → depth_of kind s ≡ Some n → Known May tokens a n
known {kind} {s} {b} h m deep = record { kind = kind; now = s; rest = b; here = h; has = m; deep = deep }

-- the scan has come to these tokens, and this waits
pub record Rest (May : List Token → ℕ → Type 0) (tokens : List Token) (w : List Waiting) (a : List Token) :
    Type 0 where
  pub height : ℕ
  pub here : Here May tokens (state w height) a

-- the scan has come to these tokens, and this waits, where an expression may still wait for what goes on with it
pub record Ends (May : List Token → ℕ → Type 0) (tokens : List Token) (w : List Waiting) (a : List Token) :
    Type 0 where
  pub last : State
  pub height : ℕ
  pub here : Here May tokens last a
  pub ends : settled 0 last ≡ state w height

-- the scan has come to these tokens, and this waits, where an `else if` may still wait
pub record Calm (May : List Token → ℕ → Type 0) (tokens : List Token) (w : List Waiting) (a : List Token) :
    Type 0 where
  pub waiting : List Waiting
  pub height : ℕ
  pub here : Here May tokens (state waiting height) a
  pub calm : bare waiting ≡ w

-- what a scan knows behind these tokens
abbrev pub scan : List Token → State → State
scan [] s = s
scan (t ∷ ts) s = scan ts (step t.kind s)

scan_more : (front : List Token) (t : Token) (s : State) → scan (front ++ t ∷ []) s ≡ step t.kind (scan front s)
scan_more [] t s = refl
scan_more (u ∷ front) t s = scan_more front t (step u.kind s)

-- what was scanned, and what a scan of it knows
pub record Scanned (tokens : List Token) (s : State) (a : List Token) : Type 0 where
  pub front : List Token
  pub whole : tokens ≡ front ++ a
  pub now : scan front (state [] 0) ≡ s

scanned_more : {tokens : List Token} {kind : TokenKind} {s r : State} {a b : List Token} → Scanned tokens s a →
    Has kind a b → step kind s ≡ r → Scanned tokens r b
scanned_more {kind} {s} {b} h m next = record {
  front = h.front ++ m.first ∷ [];
  whole = h.whole ∙ ap (λ l. h.front ++ l) m.whole ∙ sym (append_assoc h.front (m.first ∷ []) b);
  now = scan_more h.front m.first (state [] 0) ∙ ap (step m.first.kind) h.now ∙ ap (λ k. step k s) m.is ∙ next;
}

pub scanned : {May : List Token → ℕ → Type 0} {tokens : List Token} {s : State} {a : List Token} →
    Here May tokens s a → Scanned tokens s a
scanned {tokens} at_first = record { front = []; whole = refl; now = refl }
scanned (behind_plain h m none next) = scanned_more (scanned h) m next
scanned (behind_asked h m deep may next) = scanned_more (scanned h) m next

-- how deep the token behind these stands, if at a depth
abbrev pub depth_behind : List Token → Token → Option ℕ
depth_behind front t = depth_of t.kind (scan front (state [] 0))

-- two ends of one list with as many tokens are one
cut : (f g a b : List Token) → f ++ a ≡ g ++ b → length a ≡ length b → (f ≡ g) × (a ≡ b)
cut [] [] a b e same = (refl, e)
cut [] (u ∷ g) a b e same =
    let longer = ap length e ∙ length-append (u ∷ g) b in
    absurd (omega (arith, longer))
cut (t ∷ f) [] a b e same =
    let longer = sym (length-append (t ∷ f) a) ∙ ap length e in
    absurd (omega (arith, longer))
cut (t ∷ f) (u ∷ g) a b e same =
    let whole : t ∷ (f ++ a) ≡ u ∷ (g ++ b) = e in
    let one : t ≡ u = cc in
    let rest = cut f g a b (cc) same in
    (λ i. one i ∷ rest.0 i, rest.1)

-- where as many tokens are left, the scan has come to this token
met : {tokens : List Token} {s : State} {kind : TokenKind} {n : Option ℕ} {a b : List Token} → Scanned tokens s a →
    Has kind a b → depth_of kind s ≡ n → (front behind : List Token) (t : Token) → tokens ≡ front ++ t ∷ behind →
    length b ≡ length behind → (depth_behind front t ≡ n) × (a ≡ t ∷ behind)
met {s} {kind} {b} h m deep front behind t whole same =
    let ends = cut h.front front (m.first ∷ b) (t ∷ behind)
    (sym (h.whole ∙ ap (λ l. h.front ++ l) m.whole) ∙ whole) (ap suc same) in
    let ends_so : m.first ∷ b ≡ t ∷ behind = ends.1 in
    let first : t ≡ m.first = cc in (
      ap (λ (u : Token). depth_of u.kind (scan front (state [] 0))) first
          ∙ ap (λ l. depth_of m.first.kind (scan l (state [] 0))) (sym ends.0)
          ∙ ap (depth_of m.first.kind) h.now ∙ ap (λ k. depth_of k s) m.is ∙ deep,
      m.whole ∙ ends.1,
    )

-- each depth that the scan knew was asked
pub was_asked : {May : List Token → ℕ → Type 0} {tokens : List Token} {s : State} {a : List Token}
    (front behind : List Token) (t : Token) → tokens ≡ front ++ t ∷ behind → length a ≤ length behind →
    Here May tokens s a → (n : ℕ) → depth_behind front t ≡ Some n → May (t ∷ behind) n
was_asked front behind t whole le at_first n deep =
    let longer = ap length whole ∙ length-append front (t ∷ behind) in
    absurd (omega (arith, longer))
was_asked front behind t whole le (behind_plain {b} h m none next) n deep =
    ⊎_elim
    (λ (same : length b ≡ length behind).
    let never : None ≡ Some n = sym (met (scanned h) m none front behind t whole same).0 ∙ deep in
    absurd (cc))
    (λ (less : length b < length behind).
    was_asked front behind t whole (let longer = ap length m.whole in omega arith) h n deep)
    (eq-or-lt_of_le le)
was_asked {May} front behind t whole le (behind_asked {n = asked} {a} {b} h m known may next) n deep =
    ⊎_elim
    (λ (same : length b ≡ length behind).
    let there = met (scanned h) m known front behind t whole same in
    let depths : Some asked ≡ Some n = sym there.0 ∙ deep in
    let one : asked ≡ n = cc in
    subst (May (t ∷ behind)) one (subst (λ l. May l asked) there.1 may))
    (λ (less : length b < length behind).
    was_asked front behind t whole (let longer = ap length m.whole in omega arith) h n deep)
    (eq-or-lt_of_le le)

-- what is known of a token is how deep it stands
pub was_known : {May : List Token → ℕ → Type 0} {tokens a : List Token} {n : ℕ} (front behind : List Token)
    (t : Token) → tokens ≡ front ++ t ∷ behind → length a ≡ suc (length behind) → Known May tokens a n →
    depth_behind front t ≡ Some n
was_known {a} front behind t whole left k =
    let same : length k.rest ≡ length behind = let longer = ap length k.has.whole in omega arith in
    (met (scanned k.here) k.has k.deep front behind t whole same).0
