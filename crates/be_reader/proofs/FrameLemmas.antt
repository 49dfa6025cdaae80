-- The frame of a window, which is judged once it is read.
use Rattle.std.proofs.Common.{◌≡◌, ℕ, ℤ, Bool, true, false, cond, List, Option, Some, None, Result, Ok, Err, refl, ap, sym, ◌∙◌}
use Rattle.std.specs.Result.{result_err}
use Rattle.be_command.specs.declared.fault.Reason.{Reason}
use Rattle.be_command.specs.declared.fault.Reason.TheVariants.{Shape, Range}
use Rattle.be_command.specs.Kinds.{coordinate}
use Rattle.be_command.specs.Places.{judged}
use Rattle.be_geom.specs.declared.rect.Rect.{Rect}
use Rattle.be_line.specs.Kinds.{first_of, said_as}
use Rattle.be_reader.specs.Kinds.{At, behind, both, frame_said, window_frame, word_said}
use Rattle.be_script.specs.Limits.{is_frame}
use Rattle.be_reader.specs.Progress.{Progress, Takes, first_reason}
use Rattle.be_reader.proofs.TakesLemmas.{first_reason-assoc, none_later, takes_same}

-- ---- no reason against a frame is looked for behind its range

abbrev IsEarly : {A : Type 0} → Result A Reason → Type 0
IsEarly (Ok a) = Unit {0}
IsEarly (Err g) = first_of g Range ≡ g

early_number : (b c : Bool) (z : ℤ) → IsEarly (cond b (cond c (Ok z) (Err Range)) (Err Shape))
early_number true true z = tt
early_number true false z = refl
early_number false c z = refl

early_word : (word : Option (List ℕ)) → IsEarly (judged coordinate word)
early_word None = refl
early_word (Some word) = early_number _ _ _

early_first : (t : Bool) (f g : Reason) → first_of f Range ≡ f → first_of g Range ≡ g → first_of (cond t g f) Range ≡ cond t g f
early_first true f g one other = other
early_first false f g one other = one

early_both : {A B : Type 0} (a : Result A Reason) (b : Result B Reason) → IsEarly a → IsEarly b → IsEarly (both a b)
early_both (Ok a) (Ok b) one other = tt
early_both (Ok a) (Err g) one other = other
early_both (Err f) (Ok b) one other = one
early_both (Err f) (Err g) one other = early_first _ f g one other

early_as : {A B : Type 0} (f : A → B) (a : Result A Reason) → IsEarly a → IsEarly (said_as f a)
early_as f (Ok a) early = tt
early_as f (Err g) early = early

early_frame : (at : At) → IsEarly (frame_said at)
early_frame at =
    early_as _ _
    (early_both _ _
    (early_both (word_said coordinate 0 at) (word_said coordinate 1 at) (early_word _) (early_word _))
    (early_both (word_said coordinate 0 (behind 2 at)) (word_said coordinate 1 (behind 2 at)) (early_word _) (early_word _)))

-- ---- a frame that is judged

framed : (p q : Progress) (s : Result Rect Reason) (l : At) (frame : Rect) → Takes s l p q frame → is_frame frame ≡ true → Takes (window_frame s) l p q frame
framed p q (Ok r) l frame part is =
    let same : frame ≡ r = part.value_is r refl in
    let good : is_frame r ≡ true = ap is_frame (sym same) ∙ is in
    takes_same p q (Ok r) (window_frame (Ok r)) l l frame (sym (ap (λ (b : Bool). cond b (Ok r) (Err Range)) good)) refl part
framed p q (Err g) l frame part is = part

unframed : (p q r : Progress) (s : Result Rect Reason) (l : At) (frame : Rect) → IsEarly s → Takes s l p q frame → is_frame frame ≡ false →
    r ≡ record { at = q.at; reason = first_reason q.reason (Some Range) } → Takes (window_frame s) l p r frame
unframed p q r (Ok rect) l frame early part is then =
    let same : frame ≡ rect = part.value_is rect refl in
    let bad : is_frame rect ≡ false = ap is_frame (sym same) ∙ is in
    let judged_is : window_frame (Ok rect) ≡ Err Range = ap (λ (b : Bool). cond b (Ok rect) (Err Range)) bad in
    record {
      at = ap (λ (p : Progress). p.at) then ∙ part.at;
      reason =
          ap (λ (p : Progress). p.reason) then
          ∙ ap (λ (f : Option Reason). first_reason f (Some Range)) (part.reason ∙ sym (none_later p.reason))
          ∙ ap (λ (w : Result Rect Reason). first_reason p.reason (result_err w)) (sym judged_is);
      value_is = λ (x : Rect) (e : window_frame (Ok rect) ≡ Ok x). let h : Err Range ≡ Ok x = sym judged_is ∙ e in (cc);
    }
unframed p q r (Err g) l frame early part is then = record {
  at = ap (λ (p : Progress). p.at) then ∙ part.at;
  reason =
      ap (λ (p : Progress). p.reason) then
      ∙ ap (λ (f : Option Reason). first_reason f (Some Range)) part.reason
      ∙ first_reason-assoc p.reason (Some g) (Some Range)
      ∙ ap (λ (f : Reason). first_reason p.reason (Some f)) early;
  value_is = λ (x : Rect) (e : Err g ≡ Ok x). (cc);
}

pub takes_frame : (p q : Progress) (frame : Rect) → Takes (frame_said p.at) (behind 4 p.at) p q frame → is_frame frame ≡ true → Takes (window_frame (frame_said p.at)) (behind 4 p.at) p q frame
takes_frame p q frame part is = framed p q (frame_said p.at) (behind 4 p.at) frame part is

pub takes_no_frame : (p q r : Progress) (frame : Rect) → Takes (frame_said p.at) (behind 4 p.at) p q frame → is_frame frame ≡ false →
    r ≡ record { at = q.at; reason = first_reason q.reason (Some Range) } → Takes (window_frame (frame_said p.at)) (behind 4 p.at) p r frame
takes_no_frame p q r frame part is then = unframed p q r (frame_said p.at) (behind 4 p.at) frame (early_frame p.at) part is then
