-- Parts of a line that are read one behind the other.
use Rattle.std.proofs.Common.{◌≡◌, refl, List, [], ◌∷◌, Option, Some, None, Result, Ok, ap, ◌∙◌, sym, subst}
use Rattle.std.specs.Result.{result_err}
use Rattle.be_command.specs.declared.fault.Fault.{Fault}
use Rattle.be_command.specs.declared.first_word.FirstWord.{FirstWord}
use Rattle.be_command.specs.Faults.{first_fault, both, said_as}
use Rattle.be_command.specs.Names.{Known}
use Rattle.be_command.specs.Places.{At}
use Rattle.be_command.specs.Kinds.{Kind, Said, said, after, SaidAll, said_all, after_all}
use Rattle.be_command.specs.Forms.{Form, form_of}
use Rattle.be_command.specs.Progress.{Progress, Takes}
use Rattle.be_command.proofs.FaultLemmas.{first_fault-assoc, err-both, err-said_as, ok-both, ok-said_as}

-- no fault adds nothing
pub none_later : (f : Option Fault) → f ≡ first_fault f None
none_later None = refl
none_later (Some f) = refl

-- two parts
pub takes_both : {A B : Type 0} (p q r : Progress) (s : Result A Fault) (l : At) (t : At → Result B Fault) (m : At → At) (a : A) (b : B) →
    Takes s l p q a → Takes (t q.at) (m q.at) q r b → Takes (both s (t l)) (m l) p r (a, b)
takes_both {A} {B} p q r s l t m a b first second = record {
  at = second.at ∙ ap m first.at;
  fault =
      second.fault
      ∙ ap (λ (f : Option Fault). first_fault f (result_err (t q.at))) first.fault
      ∙ first_fault-assoc p.fault (result_err s) (result_err (t q.at))
      ∙ ap (λ (g : At). first_fault p.fault (first_fault (result_err s) (result_err (t g)))) first.at
      ∙ ap (first_fault p.fault) (sym (err-both s (t l)));
  value_is = λ (x : A × B) (e : both s (t l) ≡ Ok x).
      let parts = ok-both s (t l) x e in
      let b_is : b ≡ x.1 = second.value_is x.1 (ap t first.at ∙ parts.1) in
      let a_is : a ≡ x.0 = first.value_is x.0 parts.0 in
      ap (λ (y : A). (y, b)) a_is ∙ ap (λ (y : B). (x.0, y)) b_is;
}

-- a part as something else
pub takes_as : {A B : Type 0} (p q : Progress) (f : A → B) (s : Result A Fault) (l : At) (a : A) → Takes s l p q a → Takes (said_as f s) l p q (f a)
takes_as {A} {B} p q f s l a part = record {
  at = part.at;
  fault = part.fault ∙ ap (first_fault p.fault) (sym (err-said_as f s));
  value_is = λ (y : B) (e : said_as f s ≡ Ok y). let x = ok-said_as f s y e in ap f (part.value_is x.0 x.1.0) ∙ x.1.1;
}

-- nothing
pub takes_nothing : (known : Known) (p : Progress) → Takes (said_all known [] p.at) (after_all [] p.at) p p tt
takes_nothing known p = record { at = refl; fault = none_later p.fault; value_is = λ x e. refl }

-- something of a kind, and what stands behind it
pub takes_kind : (known : Known) (kind : Kind) (kinds : List Kind) (p q r : Progress) (v : Said kind) (vs : SaidAll kinds) →
    Takes (said known kind p.at) (after kind p.at) p q v → Takes (said_all known kinds q.at) (after_all kinds q.at) q r vs →
    Takes (said_all known (kind ∷ kinds) p.at) (after_all (kind ∷ kinds) p.at) p r (v, vs)
takes_kind known kind kinds p q r v vs first second =
    takes_both p q r (said known kind p.at) (after kind p.at) (said_all known kinds) (after_all kinds) v vs first second

-- a whole form, as a command
pub takes_form : (known : Known) (form : Form) (p q : Progress) (x : SaidAll form.kinds) →
    Takes (said_all known form.kinds p.at) (after_all form.kinds p.at) p q x →
    Takes (said_as form.makes (said_all known form.kinds p.at)) (after_all form.kinds p.at) p q (form.makes x)
takes_form known form p q x part = takes_as p q form.makes (said_all known form.kinds p.at) (after_all form.kinds p.at) x part

-- the form of a first word, as a command
pub takes_word : (known : Known) (word is : FirstWord) (p q : Progress) (x : SaidAll (form_of is).kinds) → word ≡ is →
    Takes (said_all known (form_of is).kinds p.at) (after_all (form_of is).kinds p.at) p q x →
    Takes (said_as (form_of word).makes (said_all known (form_of word).kinds p.at)) (after_all (form_of word).kinds p.at) p q ((form_of is).makes x)
takes_word known word is p q x e part =
    subst (λ (w : FirstWord). Takes (said_as (form_of w).makes (said_all known (form_of w).kinds p.at)) (after_all (form_of w).kinds p.at) p q ((form_of is).makes x)) (sym e)
    (takes_form known (form_of is) p q x part)
