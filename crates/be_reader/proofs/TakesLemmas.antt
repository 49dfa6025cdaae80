-- Parts of a line that are read one behind the other.
use Rattle.std.proofs.Common.{◌≡◌, ℕ, refl, drop, Bool, true, false, nat_lt, cond, arith, List, [], ◌∷◌, Option, Some, None, Result, Ok, Err, ap, ◌∙◌, sym}
use Rattle.std.proofs.lemmas.Bool.{ltb-true, ltb-false}
use Rattle.std.specs.Prelude.{slice_get}
use Rattle.std.specs.Result.{result_err, result_map_both}
use Rattle.be_command.specs.declared.fault.Reason.{Reason}
use Rattle.be_command.specs.Faults.{rank_of}
use Rattle.be_command.specs.Places.{judged}
use Rattle.be_line.specs.Kinds.{first_of, said_as}
use Rattle.be_reader.specs.Kinds.{At, behind, both, word_said}
use Rattle.be_reader.specs.Progress.{Progress, Takes, first_reason}

-- ---- which reason of several counts

three : (f g h : Reason) (t u v : Bool) → nat_lt (rank_of g) (rank_of f) ≡ t → nat_lt (rank_of h) (rank_of g) ≡ u → nat_lt (rank_of h) (rank_of f) ≡ v →
    first_of (cond t g f) h ≡ first_of f (cond u h g)
three f g h true true true t u v = ap (λ b. cond b h g) u ∙ sym (ap (λ b. cond b h f) v)
three f g h true true false t u v = absurd (omega (arith, ltb-true _ _ t, ltb-true _ _ u, ltb-false _ _ v))
three f g h true false v' t u v = ap (λ b. cond b h g) u ∙ sym (ap (λ b. cond b g f) t)
three f g h false true v' t u v = refl
three f g h false false true t u v = absurd (omega (arith, ltb-false _ _ t, ltb-false _ _ u, ltb-true _ _ v))
three f g h false false false t u v = ap (λ b. cond b h f) v ∙ sym (ap (λ b. cond b g f) t)

-- in whatever order parts are joined, the same reason counts
pub first_reason-assoc : (f g h : Option Reason) → first_reason (first_reason f g) h ≡ first_reason f (first_reason g h)
first_reason-assoc None g h = refl
first_reason-assoc (Some f) None h = refl
first_reason-assoc (Some f) (Some g) None = refl
first_reason-assoc (Some f) (Some g) (Some h) = ap Some (three f g h _ _ _ refl refl refl)

-- the reason of two parts is the one of theirs that counts
pub err-both : {A B : Type 0} (a : Result A Reason) (b : Result B Reason) → result_err (both a b) ≡ first_reason (result_err a) (result_err b)
err-both (Ok a) (Ok b) = refl
err-both (Ok a) (Err g) = refl
err-both (Err f) (Ok b) = refl
err-both (Err f) (Err g) = refl

pub err-said_as : {A B : Type 0} (f : A → B) (a : Result A Reason) → result_err (said_as f a) ≡ result_err a
err-said_as f (Ok a) = refl
err-said_as f (Err g) = refl

-- what two parts say together each of them says
pub ok-both : {A B : Type 0} (a : Result A Reason) (b : Result B Reason) (x : A × B) → both a b ≡ Ok x → (a ≡ Ok x.0) × (b ≡ Ok x.1)
ok-both {A} {B} (Ok a) (Ok b) x e = let h : (a, b) ≡ x = (cc) in (ap (λ (y : A × B). Ok y.0) h, ap (λ (y : A × B). Ok y.1) h)
ok-both (Ok a) (Err g) x e = (cc)
ok-both (Err f) (Ok b) x e = (cc)
ok-both (Err f) (Err g) x e = (cc)

pub ok-said_as : {A B : Type 0} (f : A → B) (a : Result A Reason) (y : B) → said_as f a ≡ Ok y → (x : A) × ((a ≡ Ok x) × (f x ≡ y))
ok-said_as f (Ok a) y e = (a, (refl, (cc)))
ok-said_as f (Err g) y e = (cc)

-- no reason adds nothing
pub none_later : (f : Option Reason) → f ≡ first_reason f None
none_later None = refl
none_later (Some f) = refl

-- ---- parts

-- two parts
pub takes_both : {A B : Type 0} (p q r : Progress) (s : Result A Reason) (l : At) (t : At → Result B Reason) (m : At → At) (a : A) (b : B) →
    Takes s l p q a → Takes (t q.at) (m q.at) q r b → Takes (both s (t l)) (m l) p r (a, b)
takes_both {A} {B} p q r s l t m a b first second = record {
  at = second.at ∙ ap m first.at;
  reason =
      second.reason
      ∙ ap (λ (f : Option Reason). first_reason f (result_err (t q.at))) first.reason
      ∙ first_reason-assoc p.reason (result_err s) (result_err (t q.at))
      ∙ ap (λ (g : At). first_reason p.reason (first_reason (result_err s) (result_err (t g)))) first.at
      ∙ ap (first_reason p.reason) (sym (err-both s (t l)));
  value_is = λ (x : A × B) (e : both s (t l) ≡ Ok x).
      let parts = ok-both s (t l) x e in
      let b_is : b ≡ x.1 = second.value_is x.1 (ap t first.at ∙ parts.1) in
      let a_is : a ≡ x.0 = first.value_is x.0 parts.0 in
      ap (λ (y : A). (y, b)) a_is ∙ ap (λ (y : B). (x.0, y)) b_is;
}

-- a part as something else
pub takes_as : {A B : Type 0} (p q : Progress) (f : A → B) (s : Result A Reason) (l : At) (a : A) → Takes s l p q a → Takes (said_as f s) l p q (f a)
takes_as {A} {B} p q f s l a part = record {
  at = part.at;
  reason = part.reason ∙ ap (first_reason p.reason) (sym (err-said_as f s));
  value_is = λ (y : B) (e : said_as f s ≡ Ok y). let x = ok-said_as f s y e in ap f (part.value_is x.0 x.1.0) ∙ x.1.1;
}

-- a part as it is seen
err-seen : {A B : Type 0} (f : A → B) (a : Result A Reason) → result_err (result_map_both f (λ reason. reason) a) ≡ result_err a
err-seen f (Ok a) = refl
err-seen f (Err g) = refl

ok-seen : {A B : Type 0} (f : A → B) (a : Result A Reason) (y : B) → result_map_both f (λ reason. reason) a ≡ Ok y → (x : A) × ((a ≡ Ok x) × (f x ≡ y))
ok-seen f (Ok a) y e = (a, (refl, (cc)))
ok-seen f (Err g) y e = (cc)

pub takes_seen : {A B : Type 0} (p q : Progress) (f : A → B) (s : Result A Reason) (l : At) (a : A) → Takes s l p q a → Takes (result_map_both f (λ reason. reason) s) l p q (f a)
takes_seen {A} {B} p q f s l a part = record {
  at = part.at;
  reason = part.reason ∙ ap (first_reason p.reason) (sym (err-seen f s));
  value_is = λ (y : B) (e : result_map_both f (λ reason. reason) s ≡ Ok y). let x = ok-seen f s y e in ap f (part.value_is x.0 x.1.0) ∙ x.1.1;
}

-- ---- words that stand one behind the other

-- the same part, said otherwise
pub takes_same : {A : Type 0} (p q : Progress) (s t : Result A Reason) (l m : At) (a : A) → s ≡ t → l ≡ m → Takes s l p q a → Takes t m p q a
takes_same {A} p q s t l m a said left part = record {
  at = part.at ∙ left;
  reason = part.reason ∙ ap (λ (r : Result A Reason). first_reason p.reason (result_err r)) said;
  value_is = λ (x : A) (e : t ≡ Ok x). part.value_is x (said ∙ e);
}

second_word : (words : List (List ℕ)) → slice_get (drop 1 words) 0 ≡ slice_get words 1
second_word [] = refl
second_word (word ∷ words) = refl

drop_two : (words : List (List ℕ)) → drop 1 (drop 1 words) ≡ drop 2 words
drop_two [] = refl
drop_two (word ∷ words) = refl

drop_four : (words : List (List ℕ)) → drop 2 (drop 2 words) ≡ drop 4 words
drop_four [] = refl
drop_four (a ∷ []) = refl
drop_four (a ∷ b ∷ words) = refl

-- the word behind the next one
pub said_second : {A : Type 0} (read : List ℕ → Result A Reason) (at : At) → word_said read 0 (behind 1 at) ≡ word_said read 1 at
said_second read at = ap (judged read) (second_word at.words)

pub behind_two : (at : At) → behind 1 (behind 1 at) ≡ behind 2 at
behind_two at = ap (λ (ws : List (List ℕ)). record at { words = ws }) (drop_two at.words)

pub behind_four : (at : At) → behind 2 (behind 2 at) ≡ behind 4 at
behind_four at = ap (λ (ws : List (List ℕ)). record at { words = ws }) (drop_four at.words)

-- two words
pub takes_two : {A B : Type 0} (p q r : Progress) (one : List ℕ → Result A Reason) (other : List ℕ → Result B Reason) (a : A) (b : B) →
    Takes (word_said one 0 p.at) (behind 1 p.at) p q a → Takes (word_said other 0 q.at) (behind 1 q.at) q r b →
    Takes (both (word_said one 0 p.at) (word_said other 1 p.at)) (behind 2 p.at) p r (a, b)
takes_two p q r one other a b first second =
    takes_same p r _ _ _ _ (a, b) (ap (both (word_said one 0 p.at)) (said_second other p.at)) (behind_two p.at)
    (takes_both p q r (word_said one 0 p.at) (behind 1 p.at) (word_said other 0) (behind 1) a b first second)
