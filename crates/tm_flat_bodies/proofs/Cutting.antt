-- A piece whose end no run comes to.
use Rattle.std.proofs.Common.{◌≡◌, ℕ, false, Option, None, List, refl, ap, ◌∙◌, sym, true≢false}
use Rattle.tm_base.specs.declared.place.Place.{Place}
use Rattle.tm_scope.specs.Cells.{CellTables}
use Rattle.tm_term.specs.Table.{Table}
use Rattle.tm_sem.specs.Value.{Memory}
use Rattle.tm_sem.specs.Run.{Ending, stopped, finished, failed, blocked}
use Rattle.tm_flat.specs.BitRun.{followed_by}
use Rattle.tm_flat_stmts.specs.Flows.{Continues, EndTerms, FlowTerms, Leads, TellsEnd, has_finished}

never_on : (e : Ending) → false ≡ has_finished (followed_by e (λ _. blocked))
never_on (finished m) = refl
never_on (stopped at trail m) = refl
never_on failed = refl
never_on blocked = refl

module _ (x : CellTables) (u : Table) (v : List ℕ) (number : Place → List Place → Option ℕ) where
  cut_end : (e : Ending) (after : EndTerms) → TellsEnd x u v number e after →
      TellsEnd x u v number (followed_by e (λ _. blocked)) after
  cut_end (finished m) after tells = record {
    stops = tells.stops;
    memory = λ n at trail o is at_n. absurd (cc);
    fails = tells.fails;
  }
  cut_end (stopped at trail m) after tells = tells
  cut_end failed after tells = tells
  cut_end blocked after tells = tells

  -- where nothing is reached behind a piece, the flow behind it is dropped
  leads_cut : (piece : Memory → Ending) (f g : Option FlowTerms) (before after : EndTerms) →
      Leads x u v number piece f before g after →
      Leads x u v number (λ m. followed_by (piece m) (λ _. blocked)) f before None after
  leads_cut piece f g before after one = record {
    goes = λ m on keeps. never_on (piece m);
    memory = λ m n on keeps is. absurd (true≢false (sym (never_on (piece m) ∙ ap has_finished is)));
    ends = λ m on keeps quiet. cut_end (piece m) after (one.ends m on keeps quiet);
    stays = λ off. refl;
    same = one.same;
  }

pub continues_cut : (x : CellTables) (number : Place → List Place → Option ℕ) (piece : List ℕ → Memory → Ending)
    (to : Option ℕ) (t n : Table) (f g : Option FlowTerms) (before after : EndTerms) →
    Continues x number piece to t n f before g after →
    Continues x number (λ v m. followed_by (piece v m) (λ _. blocked)) None t n f before None after
continues_cut x number piece to t n f g before after one = record {
  grown = one.grown;
  sound = one.sound;
  flow = tt;
  ends = one.ends;
  count = one.count;
  position = refl;
  leads = λ u more v inputs. leads_cut x u v number (piece v) f g before after (one.leads u more v inputs);
}
