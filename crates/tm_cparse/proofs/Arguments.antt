-- The arguments of a call, one by one.
use Rattle.std.proofs.Common.{◌≡◌, ◌≢◌, Some, List, [], ◌∷◌, ◌++◌, refl, sym, ap, ◌∙◌, subst, append_assoc, map}
use Rattle.std.proofs.lemmas.List.{append-nil, map-append}
use Rattle.std.proofs.lemmas.List.Elements.{All-nil, All-cons, All-head, All-tail}
use Rattle.std.specs.List.{All}
use Rattle.tm_cir.specs.Tree.{NumTree, TruthTree, num}
use Rattle.tm_cir.specs.Text.Token.{Token, sign, close_parenthesis, comma}
use Rattle.tm_cir.specs.Text.Grammar.{num_tokens, truth_tokens, argument_tokens}
use Rattle.tm_cir.proofs.Text.Expressions.{same_truth}
use Rattle.tm_cparse.specs.declared.part.Sort.TheVariants.{Number}
use Rattle.tm_cparse.specs.declared.spot.Spot.{Spot}
use Rattle.tm_cparse.specs.declared.spot.Stop.{Stop}
use Rattle.tm_cparse.specs.declared.spot.Stop.TheVariants.{Unexpected, Memory}
use Rattle.tm_cparse.specs.View.{tokens_of}
use Rattle.tm_cparse.specs.Written.{NumInRange, TruthInRange}
use Rattle.tm_cparse.specs.Inner.Reading.{first_of, IsBlocked, IsRefused, Moves, IsMissing}
use Rattle.tm_cparse.specs.Inner.Parts.{IsExpression}
use Rattle.tm_cparse.specs.Inner.Statements.{AreArguments, more_tokens, AreArgumentsLeft, AreArgumentsBehind}
use Rattle.tm_cparse.proofs.Expressions.{as_number}
use Rattle.tm_cparse.proofs.Moves.{moves_one, blocked_here}
use Rattle.tm_cparse.proofs.Readings.{refused_behind}

abbrev close : Token
close = sign close_parenthesis

same_tail : {t u : Token} {a b : List Token} → t ∷ a ≡ u ∷ b → a ≡ b
same_tail e = cc

-- an argument was read
pub moves_argument : (read : List NumTree) (a : NumTree) (ts rest : List Token) → IsExpression Number (num a) ts rest →
    Moves (AreArgumentsLeft read) (AreArgumentsBehind (read ++ a ∷ [])) ts rest
moves_argument read a ts rest is = record {
  front = num_tokens a;
  whole = is.are;
  to = λ args other after first left.
      let parts = same_truth (num a) (num left.first) other (more_tokens left.others ++ close ∷ after) left.are in
      let same : a ≡ left.first = same_number parts.0 in
      record {
        others = left.others;
        whole = left.whole ∙ ap (λ (b : NumTree). read ++ b ∷ left.others) (sym same)
            ∙ sym (append_assoc read (a ∷ []) left.others);
        in_range = left.in_range;
        are = parts.1;
      };
  from = λ args other after behind.
      record {
        first = a;
        others = behind.others;
        whole = behind.whole ∙ append_assoc read (a ∷ []) behind.others;
        first_in_range = is.fits.1;
        in_range = behind.in_range;
        are = ap (λ (l : List Token). num_tokens a ++ l) behind.are;
      };
}
  where
    same_number : {b c : NumTree} → num b ≡ num c → b ≡ c
    same_number e = cc

-- a comma
comma_is : (others : List NumTree) (ts rest : List Token) → sign comma ∷ ts ≡ more_tokens others ++ close ∷ rest →
    (first : NumTree) × (more : List NumTree) × (others ≡ first ∷ more)
    × (ts ≡ num_tokens first ++ (more_tokens more ++ close ∷ rest))
comma_is [] ts rest same = absurd (cc)
comma_is (x ∷ xs) ts rest same =
    (x, xs, refl, same_tail same ∙ append_assoc (num_tokens x) (more_tokens xs) (close ∷ rest))

pub moves_comma : (read : List NumTree) (rest : List Token) →
    Moves (AreArgumentsBehind read) (AreArgumentsLeft read) (sign comma ∷ rest) rest
moves_comma read rest =
    moves_one (sign comma) rest
    (λ args other after first behind.
    let next = comma_is behind.others other after behind.are in
    let range : All NumInRange (next.0 ∷ next.1) = subst (All NumInRange) next.2 behind.in_range in
    record {
      first = next.0;
      others = next.1;
      whole = behind.whole ∙ ap (λ (l : List NumTree). read ++ l) next.2;
      first_in_range = All-head NumInRange next.0 next.1 range;
      in_range = All-tail NumInRange next.0 next.1 range;
      are = next.3;
    })
    (λ args other after left.
    record {
      others = left.first ∷ left.others;
      whole = left.whole;
      in_range = All-cons NumInRange left.first left.others left.first_in_range left.in_range;
      are = ap (λ (l : List Token). sign comma ∷ l) left.are
          ∙ sym
          (ap (λ (l : List Token). sign comma ∷ l)
          (append_assoc (num_tokens left.first) (more_tokens left.others) (close ∷ after)));
    })

-- the parenthesis that closes
pub closes_arguments : {X : List NumTree → List Token → List Token → Type 0} (read : List NumTree)
    (ts middle rest : List Token) → Moves X (AreArgumentsBehind read) ts middle → middle ≡ close ∷ rest → X read ts rest
closes_arguments {X = X} read ts middle rest m is =
    subst (λ (l : List Token). X read l rest) (sym (m.whole ∙ ap (λ (l : List Token). m.front ++ l) is))
    (m.from read (close ∷ rest) rest
    (record { others = []; whole = sym (append-nil read); in_range = All-nil NumInRange; are = refl }))

behind_is : (others : List NumTree) (ts rest : List Token) → ts ≡ more_tokens others ++ close ∷ rest →
    first_of ts ≢ Some (sign comma) → first_of ts ≡ Some close
behind_is [] ts rest is none = ap first_of is
behind_is (x ∷ xs) ts rest is none = absurd (none (ap first_of is))

pub no_argument_end : (read : List NumTree) (spots : List Spot) (e : Stop) →
    first_of (tokens_of spots) ≢ Some (sign comma) → IsMissing close spots e →
    IsRefused (AreArgumentsBehind read) (tokens_of spots) e
no_argument_end read spots (Unexpected here) no_comma missing =
    subst (λ (l : List Spot). IsBlocked (AreArgumentsBehind read) (tokens_of spots) (tokens_of l)) (sym missing.0)
    (blocked_here (close ∷ [])
    (λ behind. (read, record { others = []; whole = sym (append-nil read); in_range = All-nil NumInRange; are = refl }))
    (λ args other rest first is.
    missing.1 (sym first ∙ behind_is is.others other rest is.are (λ e. no_comma (sym first ∙ e)))))
no_argument_end read spots Memory no_comma missing = tt

-- an argument is refused
pub no_argument : (read : List NumTree) (ts : List Token) (e : Stop) → IsRefused (IsExpression Number) ts e →
    IsRefused (AreArgumentsLeft read) ts e
no_argument read ts (Unexpected here) h = record {
  front = h.front;
  whole = h.whole;
  more = h.more ++ close ∷ [];
  completes = λ behind.
      let one = h.completes (close ∷ behind) in
      let n = as_number one.0 one.1.fits.0 in (
        read ++ n.0 ∷ [],
        record {
          first = n.0;
          others = [];
          whole = refl;
          first_in_range = subst TruthInRange n.1 one.1.fits.1;
          in_range = All-nil NumInRange;
          are = ap (λ (l : List Token). h.front ++ l) (append_assoc h.more (close ∷ []) behind)
              ∙ one.1.are ∙ ap (λ (t : TruthTree). truth_tokens t ++ close ∷ behind) n.1;
        },
      );
  stuck = λ args other rest first is.
      h.stuck (num is.first) other (more_tokens is.others ++ close ∷ rest) first
      (record { fits = (tt, is.first_in_range); are = is.are });
}
no_argument read ts Memory h = tt

-- arguments of which none was read are all of them
left_is : (args : List NumTree) (other after : List Token) → AreArgumentsLeft [] args other after →
    AreArguments args other after
left_is args other after left =
    subst (λ (l : List NumTree). AreArguments l other after) (sym left.whole)
    (record {
      in_range = All-cons NumInRange left.first left.others left.first_in_range left.in_range;
      are = left.are ∙ sym (append_assoc (num_tokens left.first) (more_tokens left.others) (close ∷ after));
    })

-- arguments, of which none was read
pub arguments_begin : (ts : List Token) → first_of ts ≢ Some close → Moves AreArguments (AreArgumentsLeft []) ts ts
arguments_begin ts none = record {
  front = [];
  whole = refl;
  to = λ args other after first is. of args other after is.in_range is.are (λ e. none (sym first ∙ e));
  from = λ args other after left. left_is args other after left;
}
  where
    of : (args : List NumTree) (other after : List Token) → All NumInRange args →
        other ≡ argument_tokens args ++ close ∷ after → first_of other ≢ Some close →
        AreArgumentsLeft [] args other after
    of [] other after range is no_close = absurd (no_close (ap first_of is))
    of (x ∷ xs) other after range is no_close = record {
      first = x;
      others = xs;
      whole = refl;
      first_in_range = All-head NumInRange x xs range;
      in_range = All-tail NumInRange x xs range;
      are = is ∙ append_assoc (num_tokens x) (more_tokens xs) (close ∷ after);
    }

pub no_arguments : (ts rest : List Token) → ts ≡ close ∷ rest → AreArguments [] ts rest
no_arguments ts rest is = record { in_range = All-nil NumInRange; are = is }

pub arguments_read : (args : List NumTree) (ts rest : List Token) → AreArgumentsLeft [] args ts rest →
    AreArguments args ts rest
arguments_read args ts rest left = left_is args ts rest left

pub arguments_refused : (ts : List Token) (e : Stop) → first_of ts ≢ Some close →
    IsRefused (AreArgumentsLeft []) ts e → IsRefused AreArguments ts e
arguments_refused ts e none h = refused_behind (arguments_begin ts none) e h

-- an argument put behind the others
put_behind : {Z : Type 0} (old new : List Z) (view : Z → NumTree) (arg : Z) → new ≡ old ++ arg ∷ [] →
    map view new ≡ map view old ++ view arg ∷ []
put_behind old new view arg put = ap (map view) put ∙ map-append view old (arg ∷ [])

pub argument_moved : {Z : Type 0} (old new : List Z) (view : Z → NumTree) (arg : Z) (ts rest : List Token) →
    new ≡ old ++ arg ∷ [] → IsExpression Number (num (view arg)) ts rest →
    Moves (AreArgumentsLeft (map view old)) (AreArgumentsBehind (map view new)) ts rest
argument_moved old new view arg ts rest put is =
    subst (λ (l : List NumTree). Moves (AreArgumentsLeft (map view old)) (AreArgumentsBehind l) ts rest)
    (sym (put_behind old new view arg put)) (moves_argument (map view old) (view arg) ts rest is)

pub comma_moved : (read : List NumTree) (ts rest : List Token) → ts ≡ sign comma ∷ rest →
    Moves (AreArgumentsBehind read) (AreArgumentsLeft read) ts rest
comma_moved read ts rest is =
    subst (λ (l : List Token). Moves (AreArgumentsBehind read) (AreArgumentsLeft read) l rest) (sym is)
    (moves_comma read rest)
