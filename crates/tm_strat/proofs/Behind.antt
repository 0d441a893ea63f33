-- Shapes of moves, one behind the other.
use Rattle.std.proofs.Common.{◌≡◌, ℕ, ◌+◌, ◌<◌, ◌≤◌, List, [], ◌∷◌, ◌++◌, length, sym, ap, ◌∙◌, append_assoc}
use Rattle.std.proofs.Common.{arith}
use Rattle.std.proofs.lemmas.List.{append-nil, length-append, length_push}
use Rattle.std.proofs.lemmas.List.FromFn.{length-map-range_with_len, map-range_with_len_more}
use Rattle.tm_game.specs.declared.moves.MoveShape.{MoveShape}
use Rattle.tm_game.specs.declared.moves.MoveShape.TheVariants.{Call, Idle, Leave}
use Rattle.tm_strat.specs.Shapes.{AreBehind, all_shapes, calls_of, leaves_of}

pub behind_pushed : (olds news : List MoveShape) (x : MoveShape) → length olds < 4294967295 →
    news ≡ olds ++ x ∷ [] → AreBehind olds (x ∷ []) news
behind_pushed olds news x below items = record {
  few = let long = length_push olds x in
      let same = ap (λ (l : List MoveShape). length l) items in omega (arith, long, same, below);
  behind = λ fits. items;
}

pub behind_full : (olds : List MoveShape) (x : MoveShape) → 4294967295 ≤ length olds → length olds ≤ 4294967295 →
    AreBehind olds (x ∷ []) olds
behind_full olds x full few = record { few = few; behind = λ fits. absurd (omega (arith, fits, full)) }

pub behind_none : (olds : List MoveShape) → length olds ≤ 4294967295 → AreBehind olds [] olds
behind_none olds few = record { few = few; behind = λ fits. sym (append-nil olds) }

behind_then : (olds a mid b news : List MoveShape) → AreBehind olds a mid → AreBehind mid b news →
    AreBehind olds (a ++ b) news
behind_then olds a mid b news one two = record { few = two.few; behind = all }
  where
    all : length olds + length (a ++ b) ≤ 4294967295 → news ≡ olds ++ (a ++ b)
    all fits =
        let long = length-append a b in
        let here = one.behind (omega (arith, fits, long)) in
        let count = ap (λ (l : List MoveShape). length l) here in
        let both = length-append olds a in
        two.behind (omega (arith, fits, long, count, both))
        ∙ ap (λ (l : List MoveShape). l ++ b) here
        ∙ append_assoc olds a b

pub leaves_more : (olds mid news : List MoveShape) (k : ℕ) → AreBehind olds (leaves_of k) mid →
    AreBehind mid (Leave k ∷ []) news → AreBehind olds (leaves_of (k + 1)) news
leaves_more olds mid news k before last =
    let here : 0 + k ≡ k = omega arith in
    Rattle.std.proofs.Common.subst (λ (l : List MoveShape). AreBehind olds l news)
    (sym (map-range_with_len_more (λ p. Leave p) 0 k k here))
    (behind_then olds (leaves_of k) mid (Leave k ∷ []) news before last)

pub calls_more : (olds mid news : List MoveShape) (k : ℕ) → AreBehind olds (calls_of k) mid →
    AreBehind mid (Call k ∷ []) news → AreBehind olds (calls_of (k + 1)) news
calls_more olds mid news k before last =
    let here : 0 + k ≡ k = omega arith in
    Rattle.std.proofs.Common.subst (λ (l : List MoveShape). AreBehind olds l news)
    (sym (map-range_with_len_more (λ p. Call p) 0 k k here))
    (behind_then olds (calls_of k) mid (Call k ∷ []) news before last)

-- all of them, where 32 bits number them
pub shapes_all : (first mid all : List MoveShape) (processes tasks : ℕ) → first ≡ Idle ∷ [] →
    AreBehind first (leaves_of processes) mid → AreBehind mid (calls_of tasks) all →
    1 + processes + tasks ≤ 4294967295 → all ≡ all_shapes processes tasks
shapes_all first mid all processes tasks is one two fits =
    (behind_then first (leaves_of processes) mid (calls_of tasks) all one two).behind (omega (
      arith,
      fits,
      ap (λ (l : List MoveShape). length l) is,
      length-append (leaves_of processes) (calls_of tasks),
      length-map-range_with_len (λ p. Leave p) 0 processes,
      length-map-range_with_len (λ p. Call p) 0 tasks,
    ))
    ∙ ap (λ (l : List MoveShape). l ++ (leaves_of processes ++ calls_of tasks)) is
