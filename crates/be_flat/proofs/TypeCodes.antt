-- The letters of a type's code: what is read is spelt so, and what is spelt so is read again.
use Rattle.std.proofs.Common.{◌≡◌, ℕ, zero, suc, ◌+◌, Bool, true, false, List, [], ◌∷◌, ◌++◌, length, take, Ok, refl, sym, ap, subst, ◌∙◌, inl, inr, arith, append_assoc}
use Rattle.std.proofs.lemmas.List.{append-nil}
use Rattle.std.specs.Prelude.{nat_eq}
use Rattle.std.specs.List.{list_any, starts_with}
use Rattle.std.proofs.lemmas.Bool.{and_from}
use Rattle.be_facts.proofs.Bytes.{bytes_eq_tells}
use Rattle.be_facts.proofs.Truths.{and_first, and_second, or_either}
use Rattle.be_message.specs.declared.kind.Kind.{Kind}
use Rattle.be_message.specs.declared.kind.Kind.TheVariants as kind
use Rattle.be_flat.specs.Codes.{code_of, plain_kinds, begin_code, kind_spelt}
use Rattle.be_flat.specs.Reading.{Rest, byte_at, byte_that, bytes_that, kind_at}
use Rattle.be_flat.proofs.Taken.{IsBytes, bind_ok, Takes, bytes_take, pass_all, Reads}
use Rattle.be_flat.proofs.Readers.{that_passes}
use Rattle.be_flat.proofs.Truths.{ok_is}

-- a field can have the type
abbrev pub MayHave : Bool → Kind → Type 0
MayHave nested kind.Message = nested ≡ true
MayHave nested k = Unit {0}

-- the four letters are the code of a type that a field can have
pub record IsCode (nested : Bool) (letters : List ℕ) : Type 0 where
  pub spelt : code_of (kind_spelt letters) ≡ letters
  pub may : MayHave nested (kind_spelt letters)

four_letters : (k : Kind) → take 4 (code_of k) ≡ code_of k
four_letters kind.Bool = refl
four_letters kind.Int = refl
four_letters kind.Text = refl
four_letters kind.Point = refl
four_letters kind.Rect = refl
four_letters kind.Message = refl

is_code : (k : Kind) (letters : List ℕ) → length letters ≡ 4 → starts_with nat_eq (code_of k) letters ≡ true → letters ≡ code_of k
is_code k letters four h = bytes_eq_tells letters (take (length letters) (code_of k)) h ∙ ap (λ (n : ℕ). take n (code_of k)) four ∙ four_letters k

spelt_again : (k : Kind) → kind_spelt (code_of k) ≡ k
unfolding kind_spelt
spelt_again kind.Bool = refl
spelt_again kind.Int = refl
spelt_again kind.Text = refl
spelt_again kind.Point = refl
spelt_again kind.Rect = refl
spelt_again kind.Message = refl

code_of_kind : (nested : Bool) (k : Kind) → MayHave nested k → IsCode nested (code_of k)
code_of_kind nested k may = record { spelt = ap code_of (spelt_again k); may = subst (λ (q : Kind). MayHave nested q) (sym (spelt_again k)) may }

from_letters : (nested : Bool) (k : Kind) (letters : List ℕ) → MayHave nested k → length letters ≡ 4 → starts_with nat_eq (code_of k) letters ≡ true → IsCode nested letters
from_letters nested k letters may four h = subst (λ (t : List ℕ). IsCode nested t) (sym (is_code k letters four h)) (code_of_kind nested k may)

plain_code : (nested : Bool) (letters : List ℕ) → length letters ≡ 4 → list_any (λ k. starts_with nat_eq (code_of k) letters) plain_kinds ≡ true → IsCode nested letters
plain_code nested letters four h =
    elim (or_either (starts_with nat_eq (code_of kind.Bool) letters) _ h) [
      | inl p ↦ from_letters nested kind.Bool letters tt four p
      | inr h1 ↦ elim (or_either (starts_with nat_eq (code_of kind.Int) letters) _ h1) [
        | inl p ↦ from_letters nested kind.Int letters tt four p
        | inr h2 ↦ elim (or_either (starts_with nat_eq (code_of kind.Text) letters) _ h2) [
          | inl p ↦ from_letters nested kind.Text letters tt four p
          | inr h3 ↦ elim (or_either (starts_with nat_eq (code_of kind.Point) letters) _ h3) [
            | inl p ↦ from_letters nested kind.Point letters tt four p
            | inr h4 ↦ elim (or_either (starts_with nat_eq (code_of kind.Rect) letters) false h4) [
              | inl p ↦ from_letters nested kind.Rect letters tt four p
              | inr h5 ↦ absurd (cc h5)
            ]
          ]
        ]
      ]
    ]

whole_code : (nested : Bool) (letters : List ℕ) → length letters ≡ 4 → begin_code nested letters ≡ true → IsCode nested letters
unfolding begin_code
whole_code true letters four h =
    elim (or_either (starts_with nat_eq (code_of kind.Message) letters) _ h) [
      | inl p ↦ from_letters true kind.Message letters refl four p
      | inr plain ↦ plain_code true letters four plain
    ]
whole_code false letters four h = plain_code false letters four h

-- the last of four letters makes a whole code
last_letter : (nested : Bool) (letters : List ℕ) → length letters ≡ 4 → pass_all (λ read b. begin_code nested (read ++ b ∷ [])) [] letters ≡ true → begin_code nested letters ≡ true
last_letter nested [] four h = absurd (omega (arith, four))
last_letter nested (a ∷ []) four h = absurd (omega (arith, four))
last_letter nested (a ∷ b ∷ []) four h = absurd (omega (arith, four))
last_letter nested (a ∷ b ∷ c ∷ []) four h = absurd (omega (arith, four))
last_letter nested (a ∷ b ∷ c ∷ d ∷ []) four h =
    and_first _ true (and_second (begin_code nested (a ∷ b ∷ c ∷ [])) _ (and_second (begin_code nested (a ∷ b ∷ [])) _ (and_second (begin_code nested (a ∷ [])) _ h)))
last_letter nested (a ∷ b ∷ c ∷ d ∷ e ∷ more) four h = absurd (omega (arith, four))

-- bytes that were read pass, and are as many as were wanted
record ArePassing (p : List ℕ → ℕ → Bool) (n : ℕ) (read got : List ℕ) : Type 0 where
  text : List ℕ
  got_is : got ≡ read ++ text
  count : length text ≡ n
  pass : pass_all p read text ≡ true

passing : (p : List ℕ → ℕ → Bool) (n : ℕ) (read : List ℕ) (s : Rest) (x : List ℕ × Rest) → bytes_that p n read s ≡ Ok x → ArePassing p n read x.0
unfolding bytes_that
passing p zero read s x e =
    subst (λ (y : List ℕ × Rest). ArePassing p 0 read y.0) (ok_is (read, s) x e) (record { text = []; got_is = sym (append-nil read); count = refl; pass = refl })
passing p (suc n) read s x e =
    let a = bind_ok (byte_that (p read) s) (λ y. bytes_that p n (read ++ y.0 ∷ []) y.1) x e in
    let more = passing p n (read ++ a.0.0 ∷ []) a.0.1 x a.2 in
    record {
      text = a.0.0 ∷ more.text;
      got_is = more.got_is ∙ append_assoc read (a.0.0 ∷ []) more.text;
      count = ap suc more.count;
      pass = and_from _ _ (that_passes (p read) s a.0 a.1) more.pass;
    }

-- a field can have the type that was read
pub kind_may : (nested : Bool) (s : Rest) (x : Kind × Rest) → kind_at nested s ≡ Ok x → MayHave nested x.0
unfolding kind_at
kind_may nested s x e =
    let p : List ℕ → ℕ → Bool = λ read b. begin_code nested (read ++ b ∷ []) in
    let l = bind_ok (bytes_that p 4 [] s) (λ letters. Ok (kind_spelt letters.0, letters.1)) x e in
    let t = passing p 4 [] s l.0 l.1 in
    let letters : IsCode nested t.text = whole_code nested t.text t.count (last_letter nested t.text t.count t.pass) in
    let code : IsCode nested l.0.0 = subst (λ (q : List ℕ). IsCode nested q) (sym t.got_is) letters in
    subst (λ (y : Kind × Rest). MayHave nested y.0) (ok_is (kind_spelt l.0.0, l.0.1) x l.2) code.may

pub code_takes : (nested : Bool) (s : Rest) (x : Kind × Rest) → IsBytes s.bytes → kind_at nested s ≡ Ok x → Takes s.bytes (code_of x.0) x.1.bytes × MayHave nested x.0
unfolding kind_at
code_takes nested s x h e =
    let p : List ℕ → ℕ → Bool = λ read b. begin_code nested (read ++ b ∷ []) in
    let l = bind_ok (bytes_that p 4 [] s) (λ letters. Ok (kind_spelt letters.0, letters.1)) x e in
    let t = bytes_take p 4 [] s l.0 h l.1 in
    let letters : IsCode nested t.text = whole_code nested t.text t.count (last_letter nested t.text t.count t.pass) in
    let code : IsCode nested l.0.0 = subst (λ (q : List ℕ). IsCode nested q) (sym t.got_is) letters in
    let took : Takes s.bytes l.0.0 l.0.1.bytes = subst (λ (q : List ℕ). Takes s.bytes q l.0.1.bytes) (sym t.got_is) t.took in
    subst (λ (y : Kind × Rest). Takes s.bytes (code_of y.0) y.1.bytes × MayHave nested y.0) (ok_is (kind_spelt l.0.0, l.0.1) x l.2)
    (subst (λ (q : List ℕ). Takes s.bytes q l.0.1.bytes) (sym code.spelt) took, code.may)

pub code_again : (nested : Bool) (k : Kind) (left : List ℕ) (at : ℕ) → MayHave nested k → Reads (kind_at nested (record { bytes = code_of k ++ left; at = at })) k left
unfolding kind_at bytes_that byte_that byte_at begin_code kind_spelt
code_again true kind.Bool left at may = (at + 1 + 1 + 1 + 1, refl)
code_again true kind.Int left at may = (at + 1 + 1 + 1 + 1, refl)
code_again true kind.Text left at may = (at + 1 + 1 + 1 + 1, refl)
code_again true kind.Point left at may = (at + 1 + 1 + 1 + 1, refl)
code_again true kind.Rect left at may = (at + 1 + 1 + 1 + 1, refl)
code_again true kind.Message left at may = (at + 1 + 1 + 1 + 1, refl)
code_again false kind.Bool left at may = (at + 1 + 1 + 1 + 1, refl)
code_again false kind.Int left at may = (at + 1 + 1 + 1 + 1, refl)
code_again false kind.Text left at may = (at + 1 + 1 + 1 + 1, refl)
code_again false kind.Point left at may = (at + 1 + 1 + 1 + 1, refl)
code_again false kind.Rect left at may = (at + 1 + 1 + 1 + 1, refl)
code_again false kind.Message left at may = absurd (cc may)
