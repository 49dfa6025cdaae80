-- A line that is read kind by kind, to its end.
use Rattle.std.proofs.Common.{◌≡◌, refl, List, [], ◌∷◌, Option, Some, None, Result, Ok, Err, ap, ◌∙◌, sym, subst}
use Rattle.std.specs.Result.{result_err, result_map_both}
use Rattle.be_command.specs.declared.fault.Reason.{Reason}
use Rattle.be_line.specs.Kinds.{said_as}
use Rattle.be_line.specs.declared.statement.Statement.{Statement}
use Rattle.be_said.specs.SeenDeeds.{seen_deed}
use Rattle.be_said.specs.Due.{IsDue}
use Rattle.be_said.specs.Deeds.{Deed}
use Rattle.be_reader.specs.Forms.{form_of}
use Rattle.be_reader.specs.GivenDeeds.{IsDeed, unless_faulty}
use Rattle.be_reader.specs.Kinds.{At, Kind, Said, SaidAll, after, both, ended, said, said_all}
use Rattle.be_reader.specs.LineDeeds.{deed_said}
use Rattle.be_reader.specs.Progress.{Progress, Takes, first_reason}
use Rattle.be_said.specs.SoFar.{SoFar}
use Rattle.be_said.specs.declared.deeds.Deed as code
use Rattle.be_said.specs.declared.fault.LineFault.{LineFault}
use Rattle.be_reader.proofs.TakesLemmas.{err-both, first_reason-assoc, ok-both}

-- from here on these kinds were read, to the end: the reason of the whole line, and what they say
pub record Reads (before : SoFar) (kinds : List Kind) (p : Progress) (x : SaidAll kinds) (reason : Option Reason) : Type 0 where
  pub reason_is : reason ≡ first_reason p.reason (result_err (said_all before kinds p.at))
  pub value_is : (y : SaidAll kinds) → said_all before kinds p.at ≡ Ok y → x ≡ y

-- the end
pub reads_end : (before : SoFar) (p : Progress) → Reads before [] p tt (first_reason p.reason (result_err (ended p.at.words)))
reads_end before p = record { reason_is = refl; value_is = λ y e. refl }

-- something of a kind, and what stands behind it
pub reads_kind : (before : SoFar) (kind : Kind) (kinds : List Kind) (p q : Progress) (v : Said kind) (vs : SaidAll kinds) (reason : Option Reason) →
    Takes (said before kind p.at) (after before kind p.at) p q v → Reads before kinds q vs reason → Reads before (kind ∷ kinds) p (v, vs) reason
reads_kind before kind kinds p q v vs reason first rest = record {
  reason_is =
      rest.reason_is
      ∙ ap (λ (f : Option Reason). first_reason f (result_err (said_all before kinds q.at))) first.reason
      ∙ first_reason-assoc p.reason (result_err (said before kind p.at)) (result_err (said_all before kinds q.at))
      ∙ ap (λ (g : At). first_reason p.reason (first_reason (result_err (said before kind p.at)) (result_err (said_all before kinds g)))) first.at
      ∙ ap (first_reason p.reason) (sym (err-both (said before kind p.at) (said_all before kinds (after before kind p.at))));
  value_is = λ (y : Said kind × SaidAll kinds) (e : both (said before kind p.at) (said_all before kinds (after before kind p.at)) ≡ Ok y).
      let parts = ok-both (said before kind p.at) (said_all before kinds (after before kind p.at)) y e in
      let rest_is : vs ≡ y.1 = rest.value_is y.1 (ap (said_all before kinds) first.at ∙ parts.1) in
      let first_is : v ≡ y.0 = first.value_is y.0 parts.0 in
      ap (λ (w : Said kind). (w, vs)) first_is ∙ ap (λ (ws : SaidAll kinds). (y.0, ws)) rest_is;
}

-- a part whose value was copied
pub takes_copy : {A : Type 0} (p q : Progress) (s : Result A Reason) (l : At) (a b : A) → b ≡ a → Takes s l p q a → Takes s l p q b
takes_copy {A} p q s l a b same part = subst (λ (v : A). Takes s l p q v) (sym same) part

-- what was said, or the reason that was found
due_by : {A B : Type 0} (makes : A → B) (r : Result A Reason) (x : A) (reason : Option Reason) → reason ≡ result_err r → ((y : A) → r ≡ Ok y → x ≡ y) →
    IsDue (said_as makes r) (unless_faulty reason (makes x))
due_by makes (Ok y) x None e value = ap (λ z. Ok (makes z)) (sym (value y refl))
due_by makes (Ok y) x (Some reason) e value = (cc)
due_by makes (Err other) x None e value = (cc)
due_by makes (Err other) x (Some reason) e value = (cc)

-- a line whose kinds were read to their end
pub is_deed : (before : SoFar) (statement : Statement) (p : Progress) (x : SaidAll (form_of statement).kinds) (reason : Option Reason) (given : Result code.Deed LineFault) →
    p.reason ≡ None → Reads before (form_of statement).kinds p x reason →
    result_map_both seen_deed (λ fault. fault) given ≡ unless_faulty reason ((form_of statement).makes x) → IsDeed before statement p.at given
unfolding deed_said
is_deed before statement p x reason given fresh read given_is =
    let all = said_all before (form_of statement).kinds p.at in
    let due : IsDue (said_as (form_of statement).makes all) (unless_faulty reason ((form_of statement).makes x)) =
    due_by (form_of statement).makes all x reason (read.reason_is ∙ ap (λ (f : Option Reason). first_reason f (result_err all)) fresh) read.value_is in
    subst (λ (r : Result Deed LineFault). IsDue (said_as (form_of statement).makes all) r) (sym given_is) due

-- a line is read from behind its first word on
pub deed_here : (before : SoFar) (statement is : Statement) (p : Progress) (at : At) (given : Result code.Deed LineFault) →
    statement ≡ is → p ≡ record { at = at; reason = None } → IsDeed before is p.at given → IsDeed before statement at given
deed_here before statement is p at given is_so starts deed =
    subst (λ (s : Statement). IsDeed before s at given) (sym is_so) (subst (λ (q : Progress). IsDeed before is q.at given) starts deed)

pub deed_so : (before : SoFar) (statement is : Statement) (at : At) (given : Result code.Deed LineFault) → statement ≡ is → IsDeed before is at given → IsDeed before statement at given
deed_so before statement is at given is_so deed = subst (λ (s : Statement). IsDeed before s at given) (sym is_so) deed
