-- The rule of a filter, of one word or two.
use Rattle.std.proofs.Common.{◌≡◌, ℕ, Bool, true, false, cond, List, Option, Some, refl, ap, sym, ◌∙◌, codes}
use Rattle.std.specs.Prelude.{slice_get}
use Rattle.std.specs.Str.{bytes_eq}
use Rattle.std.specs.Result.{result_err}
use Rattle.be_command.specs.Places.{judged}
use Rattle.be_handler.specs.declared.Rule.TheVariants.{Redirect}
use Rattle.be_message.specs.declared.target.Target.{Target}
use Rattle.be_line.specs.Kinds.{said_as}
use Rattle.be_reader.specs.Kinds.{a_rule, after, behind, handler_named, rule_by, word_said}
use Rattle.be_reader.specs.Progress.{Progress, Takes, first_reason}
use Rattle.be_said.specs.SoFar.{SoFar}
use Rattle.be_reader.proofs.TakesLemmas.{behind_two, said_second, takes_as, takes_same}

third : {A : Type 0} (a b c : Bool) (w x y z : A) → a ≡ false → b ≡ false → c ≡ true → cond a w (cond b x (cond c y z)) ≡ y
third true b c w x y z e f g = (cc)
third false true c w x y z e f g = (cc)
third false false true w x y z e f g = refl
third false false false w x y z e f g = (cc)

-- a handler behind the word `redirect`
pub redirected : (said : SoFar) (p q r : Progress) (word : List ℕ) (target : Target) →
    slice_get p.at.words 0 ≡ Some word → bytes_eq word (codes "skip") ≡ false → bytes_eq word (codes "pass") ≡ false → bytes_eq word (codes "redirect") ≡ true →
    q ≡ record { at = behind 1 p.at; reason = p.reason } →
    Takes (word_said (handler_named said q.at.window) 0 q.at) (behind 1 q.at) q r target →
    Takes (word_said (rule_by said p.at) 0 p.at) (after said a_rule p.at) p r (Redirect target)
redirected said p q r word target first skip pass redirect there part =
    let read = handler_named said p.at.window in
    let s : word_said read 0 q.at ≡ word_said read 1 p.at = ap (λ (q : Progress). word_said read 0 q.at) there ∙ said_second read p.at in
    let window : q.at.window ≡ p.at.window = ap (λ (q : Progress). q.at.window) there in
    let reads : word_said (handler_named said q.at.window) 0 q.at ≡ word_said read 1 p.at = ap (λ (w : Option ℕ). word_said (handler_named said w) 0 q.at) window ∙ s in
    let left : behind 1 q.at ≡ behind 2 p.at = ap (λ (q : Progress). behind 1 q.at) there ∙ behind_two p.at in
    let rule : rule_by said p.at word ≡ said_as Redirect (word_said read 1 p.at) = third _ _ _ _ _ _ _ skip pass redirect in
    let whole : said_as Redirect (word_said read 1 p.at) ≡ word_said (rule_by said p.at) 0 p.at = sym (ap (judged (rule_by said p.at)) first ∙ rule) in
    let long : behind 2 p.at ≡ after said a_rule p.at = sym (rw (first, redirect) refl) in
    let same : Takes (word_said read 1 p.at) (behind 2 p.at) q r target = takes_same q r _ _ _ _ target reads left part in
    let from : Takes (word_said read 1 p.at) (behind 2 p.at) p r target = record { at = same.at; reason = same.reason ∙ ap (λ (q : Progress). first_reason q.reason (result_err (word_said read 1 p.at))) there; value_is = same.value_is } in
    takes_same p r _ _ _ _ (Redirect target) whole long (takes_as p r Redirect (word_said read 1 p.at) (behind 2 p.at) target from)
