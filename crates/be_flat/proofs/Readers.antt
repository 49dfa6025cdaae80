-- What reads a part of bytes, and what comes of it where the bytes are cut short, go on otherwise, or have a bad byte.
use Rattle.std.proofs.Common.{◌≡◌, ℕ, zero, suc, ◌+◌, Bool, true, List, [], ◌∷◌, ◌++◌, length, cond, Result, Ok, Err, refl, sym, ap, subst, ◌∙◌, ◌⊎◌, inl, inr, arith, append_assoc}
use Rattle.std.proofs.lemmas.List.{length-append}
use Rattle.be_flat.specs.declared.fault.FlatError.{FlatError}
use Rattle.be_flat.specs.declared.fault.FlatError.TheVariants.{Truncated, BadByte}
use Rattle.be_flat.specs.Reading.{Rest, Read, ◌>>=◌, byte_at, byte_that, bytes_that}
use Rattle.be_flat.proofs.Taken.{bind_ok}
use Rattle.be_flat.proofs.Truths.{guard_ok, ok_is, same_place, guard_bad}

abbrev pub rest_of : List ℕ → ℕ → Rest
rest_of bytes at = record { bytes = bytes; at = at }

-- ---- bytes that are cut short

-- the front alone has the part too
pub record HasPart {X : Type 0} (r : Rest → Read X) (front back : List ℕ) (at : ℕ) (x : X) (after : Rest) : Type 0 where
  pub left : List ℕ
  pub more : after.bytes ≡ left ++ back
  pub same : r (rest_of front at) ≡ Ok (x, rest_of left after.at)
  pub place : after.at + length left ≡ at + length front

-- whatever reads a part of the whole reads it of a front, or the front ends inside the part
abbrev pub IsCut : {X : Type 0} → (Rest → Read X) → Type 0
IsCut {X = X} r =
    (front back : List ℕ) (at : ℕ) (x : X) (after : Rest) → r (rest_of (front ++ back) at) ≡ Ok (x, after)
    → HasPart r front back at x after ⊎ (r (rest_of front at) ≡ Err (Truncated (at + length front)))

-- ---- bytes that go on otherwise

-- the bytes that a part took give it whatever follows them
pub record HasTaken {X : Type 0} (r : Rest → Read X) (bytes : List ℕ) (at : ℕ) (x : X) (after : Rest) : Type 0 where
  pub took : List ℕ
  pub parts : bytes ≡ took ++ after.bytes
  pub place : after.at ≡ at + length took
  pub again : (more : List ℕ) → r (rest_of (took ++ more) at) ≡ Ok (x, rest_of more after.at)

abbrev pub Takes : {X : Type 0} → (Rest → Read X) → Type 0
Takes {X = X} r = (bytes : List ℕ) (at : ℕ) (x : X) (after : Rest) → r (rest_of bytes at) ≡ Ok (x, after) → HasTaken r bytes at x after

-- ---- a bad byte

-- bytes that are cut before the bad byte end too early, and whatever follows it, it is bad
pub record HasBad {X : Type 0} (r : Rest → Read X) (bytes : List ℕ) (at place : ℕ) : Type 0 where
  pub front : List ℕ
  pub byte : ℕ
  pub back : List ℕ
  pub parts : bytes ≡ front ++ byte ∷ back
  pub is : place ≡ at + length front
  pub cut : r (rest_of front at) ≡ Err (Truncated (at + length front))
  pub always : (more : List ℕ) → r (rest_of (front ++ byte ∷ more) at) ≡ Err (BadByte place)

abbrev pub Fails : {X : Type 0} → (Rest → Read X) → Type 0
Fails r = (bytes : List ℕ) (at place : ℕ) → r (rest_of bytes at) ≡ Err (BadByte place) → HasBad r bytes at place

-- all three hold of whatever reads
pub record IsReader {X : Type 0} (r : Rest → Read X) : Type 0 where
  pub cut : IsCut r
  pub takes : Takes r
  pub fails : Fails r

-- ---- nothing

pub ok_cut : {X : Type 0} (g : X) → IsCut (λ s. Ok (g, s))
ok_cut {X = X} g front back at x after e =
    let same = ok_is (g, rest_of (front ++ back) at) (x, after) e in
    inl (subst (λ (y : X × Rest). HasPart (λ s. Ok (g, s)) front back at y.0 y.1) same (record { left = front; more = refl; same = refl; place = refl }))

pub ok_takes : {X : Type 0} (g : X) → Takes (λ s. Ok (g, s))
ok_takes {X = X} g bytes at x after e =
    let same = ok_is (g, rest_of bytes at) (x, after) e in
    subst (λ (y : X × Rest). HasTaken (λ s. Ok (g, s)) bytes at y.0 y.1) same (record { took = []; parts = refl; place = omega arith; again = λ more. refl })

pub reader_ok : {X : Type 0} (g : X) → IsReader (λ s. Ok (g, s))
reader_ok g = record { cut = ok_cut g; takes = ok_takes g; fails = λ bytes at place e. absurd (cc e) }

-- ---- a part and then another one

then_cut : {X Y : Type 0} (r : Rest → Read X) (f : X → Rest → Read Y) (front back : List ℕ) (at : ℕ) (y : Y) (after : Rest) (x : X) (s : Rest) → IsCut (f x) → (p : HasPart r front back at x s) → f x s ≡ Ok (y, after)
    → HasPart (λ s. r s >>= λ x. f x.0 x.1) front back at y after ⊎ ((r (rest_of front at) >>= λ x. f x.0 x.1) ≡ Err (Truncated (at + length front)))
then_cut r f front back at y after x s cuts p e =
    let e' : f x (rest_of (p.left ++ back) s.at) ≡ Ok (y, after) = ap (λ (q : List ℕ). f x (rest_of q s.at)) (sym p.more) ∙ e in
    elim (cuts p.left back s.at y after e') [
      | inl q ↦ inl (record { left = q.left; more = q.more; same = rw p.same q.same; place = omega (arith, q.place, p.place) })
      | inr t ↦ inr (rw p.same (t ∙ ap (λ (n : ℕ). Err (Truncated n)) p.place))
    ]

-- the second part is read where the first one fits
abbrev pub Fits : {X : Type 0} → (Rest → Read X) → (X → Type 0) → Type 0
Fits {X = X} r P = (s : Rest) (x : X × Rest) → r s ≡ Ok x → P x.0

bind_cut : {X Y : Type 0} (r : Rest → Read X) (f : X → Rest → Read Y) (P : X → Type 0) → IsCut r → Fits r P → ((x : X) → P x → IsCut (f x)) → IsCut (λ s. r s >>= λ x. f x.0 x.1)
bind_cut r f P cut fits cuts front back at y after e =
    let b = bind_ok (r (rest_of (front ++ back) at)) (λ x. f x.0 x.1) (y, after) e in
    elim (cut front back at b.0.0 b.0.1 b.1) [
      | inl p ↦ then_cut r f front back at y after b.0.0 b.0.1 (cuts b.0.0 (fits _ b.0 b.1)) p b.2
      | inr t ↦ inr (rw t refl)
    ]

bind_takes : {X Y : Type 0} (r : Rest → Read X) (f : X → Rest → Read Y) (P : X → Type 0) → Takes r → Fits r P → ((x : X) → P x → Takes (f x)) → Takes (λ s. r s >>= λ x. f x.0 x.1)
bind_takes r f P takes fits more bytes at y after e =
    let b = bind_ok (r (rest_of bytes at)) (λ x. f x.0 x.1) (y, after) e in
    let t = takes bytes at b.0.0 b.0.1 b.1 in
    let u = more b.0.0 (fits _ b.0 b.1) b.0.1.bytes b.0.1.at y after b.2 in
    record {
      took = t.took ++ u.took;
      parts = t.parts ∙ ap (λ (l : List ℕ). t.took ++ l) u.parts ∙ sym (append_assoc t.took u.took after.bytes);
      place = omega (arith, t.place, u.place, length-append t.took u.took);
      again = λ rest. rw (append_assoc t.took u.took rest, t.again (u.took ++ rest)) (u.again rest);
    }

-- a step that fails does so in its first part or in its second
pub bind_bad : {A B : Type 0} (r : Result A FlatError) (f : A → Result B FlatError) (d : FlatError) → (r >>= f) ≡ Err d → (r ≡ Err d) ⊎ ((x : A) × (r ≡ Ok x) × (f x ≡ Err d))
bind_bad (Ok x) f d e = inr (x, refl, e)
bind_bad (Err c) f d e = inl (cc e)

then_bad : {X Y : Type 0} (r : Rest → Read X) (f : X → Rest → Read Y) (bytes : List ℕ) (at place : ℕ) (x : X) (s : Rest) → HasTaken r bytes at x s → HasBad (f x) s.bytes s.at place → HasBad (λ s. r s >>= λ x. f x.0 x.1) bytes at place
then_bad r f bytes at place x s t h = record {
  front = t.took ++ h.front;
  byte = h.byte;
  back = h.back;
  parts = t.parts ∙ ap (λ (l : List ℕ). t.took ++ l) h.parts ∙ sym (append_assoc t.took h.front (h.byte ∷ h.back));
  is = omega (arith, h.is, t.place, length-append t.took h.front);
  cut = rw (t.again h.front) (h.cut ∙ ap (λ (n : ℕ). Err (Truncated n)) (omega (arith, t.place, length-append t.took h.front)));
  always = λ more. rw (append_assoc t.took h.front (h.byte ∷ more), t.again (h.front ++ h.byte ∷ more)) (h.always more);
}

first_bad : {X Y : Type 0} (r : Rest → Read X) (f : X → Rest → Read Y) (bytes : List ℕ) (at place : ℕ) → HasBad r bytes at place → HasBad (λ s. r s >>= λ x. f x.0 x.1) bytes at place
first_bad r f bytes at place h =
    record { front = h.front; byte = h.byte; back = h.back; parts = h.parts; is = h.is; cut = rw h.cut refl; always = λ more. rw (h.always more) refl }

bind_fails : {X Y : Type 0} (r : Rest → Read X) (f : X → Rest → Read Y) (P : X → Type 0) → IsReader r → Fits r P → ((x : X) → P x → Fails (f x)) → Fails (λ s. r s >>= λ x. f x.0 x.1)
bind_fails r f P one fits more bytes at place e =
    elim (bind_bad (r (rest_of bytes at)) (λ x. f x.0 x.1) (BadByte place) e) [
      | inl bad ↦ first_bad r f bytes at place (one.fails bytes at place bad)
      | inr b ↦
          then_bad r f bytes at place b.0.0 b.0.1 (one.takes bytes at b.0.0 b.0.1 b.1) (more b.0.0 (fits _ b.0 b.1) b.0.1.bytes b.0.1.at place b.2)
    ]

pub reader_where : {X Y : Type 0} (r : Rest → Read X) (f : X → Rest → Read Y) (P : X → Type 0) → IsReader r → Fits r P → ((x : X) → P x → IsReader (f x)) → IsReader (λ s. r s >>= λ x. f x.0 x.1)
reader_where r f P one fits more = record {
  cut = bind_cut r f P one.cut fits (λ x p. (more x p).cut);
  takes = bind_takes r f P one.takes fits (λ x p. (more x p).takes);
  fails = bind_fails r f P one fits (λ x p. (more x p).fails);
}

pub reader_bind : {X Y : Type 0} (r : Rest → Read X) (f : X → Rest → Read Y) → IsReader r → ((x : X) → IsReader (f x)) → IsReader (λ s. r s >>= λ x. f x.0 x.1)
reader_bind r f one more = reader_where r f (λ _. Unit {0}) one (λ s x e. tt) (λ x _. more x)

-- a second part that is bad only as its own rule says
pub reader_then : {X Y : Type 0} (r : Rest → Read X) (f : X → Rest → Read Y) → IsReader r → ((x : X) → IsCut (f x)) → ((x : X) → Takes (f x)) → ((bytes : List ℕ) (at place : ℕ) (x : X) (s : Rest) → r (rest_of bytes at) ≡ Ok (x, s) → f x s ≡ Err (BadByte place) → HasBad (λ s. r s >>= λ x. f x.0 x.1) bytes at place) → IsReader (λ s. r s >>= λ x. f x.0 x.1)
reader_then r f one cuts takes fails = record {
  cut = bind_cut r f (λ _. Unit {0}) one.cut (λ s x e. tt) (λ x _. cuts x);
  takes = bind_takes r f (λ _. Unit {0}) one.takes (λ s x e. tt) (λ x _. takes x);
  fails = λ bytes at place e. elim (bind_bad (r (rest_of bytes at)) (λ x. f x.0 x.1) (BadByte place) e) [
    | inl bad ↦ first_bad r f bytes at place (one.fails bytes at place bad)
    | inr b ↦ fails bytes at place b.0.0 b.0.1 b.1 b.2
  ];
}

-- ---- bytes

byte_cut : IsCut byte_at
unfolding byte_at
byte_cut [] back at x after e = inr (ap (λ (n : ℕ). Err (Truncated n)) (omega arith))
byte_cut (b ∷ front) back at x after e =
    let same = ok_is (b, rest_of (front ++ back) (at + 1)) (x, after) e in
    inl (subst (λ (y : ℕ × Rest). HasPart byte_at (b ∷ front) back at y.0 y.1) same (record { left = front; more = refl; same = refl; place = omega arith }))

byte_takes : Takes byte_at
unfolding byte_at
byte_takes [] at x after e = absurd (cc e)
byte_takes (b ∷ bytes) at x after e =
    let same = ok_is (b, rest_of bytes (at + 1)) (x, after) e in
    subst (λ (y : ℕ × Rest). HasTaken byte_at (b ∷ bytes) at y.0 y.1) same (record { took = b ∷ []; parts = refl; place = omega arith; again = λ more. refl })

byte_fails : Fails byte_at
unfolding byte_at
byte_fails [] at place e = absurd (cc e)
byte_fails (b ∷ bytes) at place e = absurd (cc e)

pub reader_byte : IsReader byte_at
reader_byte = record { cut = byte_cut; takes = byte_takes; fails = byte_fails }

that_cut : (passes : ℕ → Bool) → IsCut (byte_that passes)
unfolding byte_that byte_at
that_cut passes [] back at x after e = inr (ap (λ (n : ℕ). Err (Truncated n)) (omega arith))
that_cut passes (b ∷ front) back at x after e =
    let g = guard_ok (passes b) (BadByte at) (b, rest_of (front ++ back) (at + 1)) (x, after) e in
    inl (subst (λ (y : ℕ × Rest). HasPart (byte_that passes) (b ∷ front) back at y.0 y.1) g.1 (record { left = front; more = refl; same = rw g.0 refl; place = omega arith }))

that_takes : (passes : ℕ → Bool) → Takes (byte_that passes)
unfolding byte_that byte_at
that_takes passes [] at x after e = absurd (cc e)
that_takes passes (b ∷ bytes) at x after e =
    let g = guard_ok (passes b) (BadByte at) (b, rest_of bytes (at + 1)) (x, after) e in
    subst (λ (y : ℕ × Rest). HasTaken (byte_that passes) (b ∷ bytes) at y.0 y.1) g.1 (record { took = b ∷ []; parts = refl; place = omega arith; again = λ more. rw g.0 refl })

that_fails : (passes : ℕ → Bool) → Fails (byte_that passes)
unfolding byte_that byte_at
that_fails passes [] at place e = absurd (cc e)
that_fails passes (b ∷ bytes) at place e =
    let g = guard_bad (passes b) (BadByte at) (BadByte place) (b, rest_of bytes (at + 1)) e in
    let here : at ≡ place = same_place at place g.1 in
    record { front = []; byte = b; back = bytes; parts = refl; is = omega (arith, here); cut = ap (λ (n : ℕ). Err (Truncated n)) (omega arith); always = λ more. rw g.0 (ap (λ (n : ℕ). Err (BadByte n)) here) }

pub reader_that : (passes : ℕ → Bool) → IsReader (byte_that passes)
reader_that passes = record { cut = that_cut passes; takes = that_takes passes; fails = that_fails passes }

-- a byte that was read passes
pub that_passes : (passes : ℕ → Bool) → Fits (byte_that passes) (λ b. passes b ≡ true)
unfolding byte_that
that_passes passes s x e =
    let b = bind_ok (byte_at s) (λ y. cond (passes y.0) (Ok y) (Err (BadByte s.at))) x e in
    let g = guard_ok (passes b.0.0) (BadByte s.at) b.0 x b.2 in
    subst (λ (y : ℕ × Rest). passes y.0 ≡ true) g.1 g.0

pub reader_bytes : (passes : List ℕ → ℕ → Bool) (n : ℕ) (read : List ℕ) → IsReader (bytes_that passes n read)
unfolding bytes_that
reader_bytes passes zero read = reader_ok read
reader_bytes passes (suc n) read = reader_bind (byte_that (passes read)) (λ b. bytes_that passes n (read ++ b ∷ [])) (reader_that (passes read)) (λ b. reader_bytes passes n (read ++ b ∷ []))
