-- Activities keep their laws where the parts keep notes.
use Rattle.std.proofs.Common.{ℕ, Bool, List, Option, sym, ap, ◌∙◌, subst}
use Rattle.be_hall.specs.Machine.{Machine}
use Rattle.be_turns.specs.Turning.{Turning, is_some}
use Rattle.be_serial.specs.Known.{Stirs}
use Rattle.be_serial.specs.Running.{NeverStuck}
use Rattle.be_noting.specs.Noting.{meanings, closed_of, legal_of, noting}
use Rattle.be_noting.proofs.KeepLaws.{means_after}

module _ {M N E : Type 0} (x : Machine M E) (told : List M → E → List N) (legal : List M → ℕ → Option E) where
  pub turning_noted : (stops : E → Bool) (many : ℕ) → Turning x legal stops many → Turning (noting x told) (legal_of legal) stops many
  turning_noted stops many t = record {
    permits = λ all who e sound is. t.permits (meanings all) who e sound is;
    closes = λ all who e last sound is. t.closes (meanings all) who e last sound is;
    none_follows = λ all s e sound may stop more. t.none_follows (meanings all) s e sound may stop (subst (λ l. x.permits l e) (means_after x told all s) more);
  }

  pub never_stuck_noted : (stops : E → Bool) (many : ℕ) (closed : List M → Bool) → NeverStuck x legal stops many closed → NeverStuck (noting x told) (legal_of legal) stops many (closed_of closed)
  never_stuck_noted stops many closed n = record {
    stuck = λ all sound none. n.stuck (meanings all) sound none;
    closing = λ all e sound may is. n.closing (meanings all) e sound may (ap closed (sym (means_after x told all e)) ∙ is);
  }

  pub stirs_noted : (many : ℕ) (e : E) (old new : List Bool) → Stirs x legal many e old new → Stirs (noting x told) (legal_of legal) many e old new
  stirs_noted many e old new stirs a few fresh =
      let s = stirs a few fresh in
      (s.0, λ all sound may. ap (λ l. is_some (legal l a)) (means_after x told all e) ∙ s.1 (meanings all) sound may)
