-- What reading takes from the front of the bytes, and what it reads of bytes that pass.
use Rattle.std.proofs.Common.{◌≡◌, ℕ, zero, suc, ◌+◌, ◌<◌, Bool, true, ◌&&◌, cond, List, [], ◌∷◌, ◌++◌, length, get_or, Result, Ok, Err, refl, sym, ap, subst, ◌∙◌, append_assoc}
use Rattle.std.proofs.lemmas.List.{append-nil}
use Rattle.std.proofs.lemmas.Bool.{and_from}
use Rattle.be_facts.proofs.Truths.{and_first, and_second}
use Rattle.be_flat.specs.declared.fault.FlatError.{FlatError}
use Rattle.be_flat.specs.declared.fault.FlatError.TheVariants.{BadByte}
use Rattle.be_flat.specs.Reading.{Rest, Read, ◌>>=◌, byte_of, byte_at, byte_that, bytes_that}
use Rattle.be_flat.proofs.Truths.{guard_ok, ok_is}

abbrev pub IsBytes : List ℕ → Type 0
IsBytes bytes = (i : ℕ) → get_or bytes i 0 < 256

pub first_fits : (b : ℕ) (bytes : List ℕ) → IsBytes (b ∷ bytes) → b < 256
first_fits b bytes h = h 0

pub rest_fits : (b : ℕ) (bytes : List ℕ) → IsBytes (b ∷ bytes) → IsBytes bytes
rest_fits b bytes h i = h (suc i)

-- the value of a step that did not fail
pub bind_ok : {A B : Type 0} (r : Result A FlatError) (f : A → Result B FlatError) (y : B) → (r >>= f) ≡ Ok y → (x : A) × (r ≡ Ok x) × (f x ≡ Ok y)
bind_ok (Ok x) f y e = (x, refl, e)
bind_ok (Err d) f y e = absurd cc

-- the text stands in front, and what is left are bytes too
pub record Takes (bytes text left : List ℕ) : Type 0 where
  pub parts : bytes ≡ text ++ left
  pub fits : IsBytes left

pub Takes-then : (a x b y c : List ℕ) → Takes a x b → Takes b y c → Takes a (x ++ y) c
Takes-then a x b y c p q = record { parts = p.parts ∙ ap (λ (t : List ℕ). x ++ t) q.parts ∙ sym (append_assoc x y c); fits = q.fits }

pub takes_nothing : (bytes : List ℕ) → IsBytes bytes → Takes bytes [] bytes
takes_nothing bytes h = record { parts = refl; fits = h }

-- ---- bytes

byte_is : (bytes : List ℕ) (at : ℕ) (x : ℕ × Rest) → IsBytes bytes → byte_of bytes at ≡ Ok x → Takes bytes (x.0 ∷ []) x.1.bytes × (x.0 < 256)
byte_is [] at x h e = absurd cc
byte_is (b ∷ bytes) at x h e =
    let same = ok_is (b, record { bytes = bytes; at = at + 1 }) x e in
    subst (λ (y : ℕ × Rest). Takes (b ∷ bytes) (y.0 ∷ []) y.1.bytes × (y.0 < 256)) same (record { parts = refl; fits = rest_fits b bytes h }, first_fits b bytes h)

pub byte_takes : (s : Rest) (x : ℕ × Rest) → IsBytes s.bytes → byte_at s ≡ Ok x → Takes s.bytes (x.0 ∷ []) x.1.bytes × (x.0 < 256)
unfolding byte_at
byte_takes s x h e = byte_is s.bytes s.at x h e

pub that_takes : (p : ℕ → Bool) (s : Rest) (x : ℕ × Rest) → IsBytes s.bytes → byte_that p s ≡ Ok x → Takes s.bytes (x.0 ∷ []) x.1.bytes × (x.0 < 256) × (p x.0 ≡ true)
unfolding byte_that
that_takes p s x h e =
    let b = bind_ok (byte_at s) (λ y. cond (p y.0) (Ok y) (Err (BadByte s.at))) x e in
    let g = guard_ok (p b.0.0) (BadByte s.at) b.0 x b.2 in
    let t = byte_takes s b.0 h b.1 in
    subst (λ (y : ℕ × Rest). Takes s.bytes (y.0 ∷ []) y.1.bytes × (y.0 < 256) × (p y.0 ≡ true)) g.1 (t.0, t.1, g.0)

-- each byte passes behind those before it
abbrev pub pass_all : (List ℕ → ℕ → Bool) → List ℕ → List ℕ → Bool
pass_all p read [] = true
pass_all p read (b ∷ bytes) = p read b && pass_all p (read ++ b ∷ []) bytes

-- so many bytes that pass were taken
pub record TakesPassing (p : List ℕ → ℕ → Bool) (n : ℕ) (read bytes got left : List ℕ) : Type 0 where
  pub text : List ℕ
  pub got_is : got ≡ read ++ text
  pub count : length text ≡ n
  pub pass : pass_all p read text ≡ true
  pub took : Takes bytes text left

pub bytes_take : (p : List ℕ → ℕ → Bool) (n : ℕ) (read : List ℕ) (s : Rest) (x : List ℕ × Rest) → IsBytes s.bytes → bytes_that p n read s ≡ Ok x → TakesPassing p n read s.bytes x.0 x.1.bytes
unfolding bytes_that
bytes_take p zero read s x h e =
    subst (λ (y : List ℕ × Rest). TakesPassing p 0 read s.bytes y.0 y.1.bytes) (ok_is (read, s) x e)
    (record { text = []; got_is = sym (append-nil read); count = refl; pass = refl; took = takes_nothing s.bytes h })
bytes_take p (suc n) read s x h e =
    let a = bind_ok (byte_that (p read) s) (λ y. bytes_that p n (read ++ y.0 ∷ []) y.1) x e in
    let t = that_takes (p read) s a.0 h a.1 in
    let more = bytes_take p n (read ++ a.0.0 ∷ []) a.0.1 x t.0.fits a.2 in
    record {
      text = a.0.0 ∷ more.text;
      got_is = more.got_is ∙ append_assoc read (a.0.0 ∷ []) more.text;
      count = ap suc more.count;
      pass = and_from _ _ t.2 more.pass;
      took = Takes-then s.bytes (a.0.0 ∷ []) a.0.1.bytes more.text x.1.bytes t.0 more.took;
    }

-- ---- what is read again

-- this part is read, and these bytes are left
abbrev pub Reads : {X : Type 0} → Read X → X → List ℕ → Type 0
Reads r x left = (at : ℕ) × (r ≡ Ok (x, record { bytes = left; at = at }))

pub byte_again : (b : ℕ) (left : List ℕ) (at : ℕ) → byte_at (record { bytes = b ∷ left; at = at }) ≡ Ok (b, record { bytes = left; at = at + 1 })
unfolding byte_at
byte_again b left at = refl

pub that_again : (p : ℕ → Bool) (b : ℕ) (left : List ℕ) (at : ℕ) → p b ≡ true → byte_that p (record { bytes = b ∷ left; at = at }) ≡ Ok (b, record { bytes = left; at = at + 1 })
unfolding byte_that byte_at
that_again p b left at h = rw h refl

pub bytes_again : (p : List ℕ → ℕ → Bool) (read text left : List ℕ) (at : ℕ) → pass_all p read text ≡ true → Reads (bytes_that p (length text) read (record { bytes = text ++ left; at = at })) (read ++ text) left
unfolding bytes_that
bytes_again p read [] left at h = (at, ap (λ (t : List ℕ). Ok (t, record { bytes = left; at = at })) (sym (append-nil read)))
bytes_again p read (b ∷ text) left at h =
    let one = that_again (p read) b (text ++ left) at (and_first _ _ h) in
    let more = bytes_again p (read ++ b ∷ []) text left (at + 1) (and_second (p read b) _ h) in
    (more.0, rw one (more.1 ∙ ap (λ (t : List ℕ). Ok (t, record { bytes = left; at = more.0 })) (append_assoc read (b ∷ []) text)))
