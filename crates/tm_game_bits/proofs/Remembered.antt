-- Answers that are remembered.
use Rattle.std.proofs.Common.{ℕ, zero, suc, List, [], ◌∷◌, get_or, arith}
use Rattle.std.specs.Prelude.{All}
use Rattle.std.proofs.lemmas.List.Elements.{All-head, All-tail}
use Rattle.tm_dd.specs.declared.node.TheConstants.{FALSE}
use Rattle.tm_dd.specs.Table.{Table}
use Rattle.tm_dd.proofs.CallerLaws.{means-FALSE}
use Rattle.tm_game_bits.specs.Functions.{GameFunctions, after}
use Rattle.tm_game_bits.specs.Recent.{IsAnswer}

-- the driver cannot stay in the empty set, since a stutter leaves it
pub empty_is : (s : Table) (g : GameFunctions) → IsAnswer s g (record { set = FALSE; stays = FALSE })
empty_is s g = record {
  set = omega arith;
  stays = record {
    known = omega arith;
    only = λ v h. let never = means-FALSE s v in absurd (cc);
    all = λ v h. let never = means-FALSE s (after g.stutter v) in let inside = h.calm.stutter in absurd (cc);
  };
}

-- what holds of each item of a list and of a default holds of the item at a place, or of the default past the end
pub All-read : {A : Type 0} (P : A → Type 0) (xs : List A) (i : ℕ) (d : A) → All P xs → P d → P (get_or xs i d)
All-read P [] i d all p = p
All-read P (x ∷ xs) zero d all p = All-head P x xs all
All-read P (x ∷ xs) (suc i) d all p = All-read P xs i d (All-tail P x xs all) p
