-- Numbers, texts, points and rectangles: what is read is spelt so, and what is spelt so is read again.
use Rattle.std.proofs.Common.{◌≡◌, ℕ, zero, suc, ◌+◌, ◌*◌, ◌<◌, ◌≤◌, ◌^◌, ◌%◌, ◌/◌, ℤ, Bool, true, false, ◌&&◌, cond, List, [], ◌∷◌, ◌++◌, length, Ok, refl, sym, ap, subst, ◌∙◌, append_assoc, arith}
use Rattle.std.specs.Prelude.{nat_le, ◌==◌}
use Rattle.std.specs.Int.{w16, w32, to_le_bytes, from_le_bytes, cast_unsigned, cast_signed}
use Rattle.std.specs.List.{list_all}
use Rattle.std.proofs.Math.Facts.{Fits-of_lt, Fits-lt-pow, sfits_to_z, Fits-of_z, to_z-of_z, of_z-to_z}
use Rattle.std.proofs.lemmas.Nat.{le_bytes_2, le_bytes_4, from_le_bytes-to_le_bytes_2, from_le_bytes-to_le_bytes_4}
use Rattle.std.proofs.lemmas.Bool.{leb-true, le-leb}
use Rattle.be_facts.proofs.Truths.{and_first, and_second}
use Rattle.be_geom.specs.declared.rect.Rect.{Rect}
use Rattle.be_message.specs.declared.kind.Kind.{Kind}
use Rattle.be_message.specs.declared.kind.Kind.TheVariants as kind
use Rattle.be_message.specs.Messages.{Datum, bool, int, text, point, rect}
use Rattle.be_message.specs.Depths.{datum_depth}
use Rattle.be_message.specs.Names.{is_text_byte, is_text}
use Rattle.be_message.specs.Sound.{kind_of}
use Rattle.be_flat.specs.Grammar.{SpellsCoordinate, SpellsInt, SpellsPoint, SpellsText, SpellsDatum}
use Rattle.be_flat.specs.Reading.{Rest, ◌>>=◌, byte_at, byte_that, bytes_that, u16_at, u32_at, coordinate_at, int_at, point_at, rect_at, text_length_at, text_at, bool_at}
use Rattle.be_flat.proofs.Taken.{IsBytes, bind_ok, Takes, Takes-then, byte_takes, that_takes, bytes_take, pass_all, Reads, bytes_again}
use Rattle.be_flat.proofs.Truths.{ok_is}

-- two and four bytes
IsBytes-2 : (a b : ℕ) → a < 256 → b < 256 → IsBytes (a ∷ b ∷ [])
IsBytes-2 a b p q zero = p
IsBytes-2 a b p q (suc zero) = q
IsBytes-2 a b p q (suc (suc i)) = omega arith

IsBytes-4 : (a b c d : ℕ) → a < 256 → b < 256 → c < 256 → d < 256 → IsBytes (a ∷ b ∷ c ∷ d ∷ [])
IsBytes-4 a b c d p q r s zero = p
IsBytes-4 a b c d p q r s (suc zero) = q
IsBytes-4 a b c d p q r s (suc (suc zero)) = r
IsBytes-4 a b c d p q r s (suc (suc (suc zero))) = s
IsBytes-4 a b c d p q r s (suc (suc (suc (suc i)))) = omega arith

pub u16_takes : (s : Rest) (x : ℕ × Rest) → IsBytes s.bytes → u16_at s ≡ Ok x → Takes s.bytes (to_le_bytes w16 x.0) x.1.bytes × (x.0 < 2 ^ 16)
unfolding u16_at
u16_takes s x h e =
    let a = bind_ok (byte_at s) (λ a. byte_at a.1 >>= λ b. Ok (from_le_bytes w16 (a.0 ∷ b.0 ∷ []), b.1)) x e in
    let b = bind_ok (byte_at a.0.1) (λ b. Ok (from_le_bytes w16 (a.0.0 ∷ b.0 ∷ []), b.1)) x a.2 in
    let ta = byte_takes s a.0 h a.1 in
    let tb = byte_takes a.0.1 b.0 ta.0.fits b.1 in
    let bytes : List ℕ = a.0.0 ∷ b.0.0 ∷ [] in
    let small = IsBytes-2 a.0.0 b.0.0 ta.1 tb.1 in
    let both = Takes-then s.bytes (a.0.0 ∷ []) a.0.1.bytes (b.0.0 ∷ []) b.0.1.bytes ta.0 tb.0 in
    let spelt : to_le_bytes w16 (from_le_bytes w16 bytes) ≡ bytes = le_bytes_2 bytes _ refl small refl in
    subst (λ (y : ℕ × Rest). Takes s.bytes (to_le_bytes w16 y.0) y.1.bytes × (y.0 < 2 ^ 16)) (ok_is (from_le_bytes w16 bytes, b.0.1) x b.2)
    (subst (λ (t : List ℕ). Takes s.bytes t b.0.1.bytes) (sym spelt) both, omega (arith, ta.1, tb.1))

pub u32_takes : (s : Rest) (x : ℕ × Rest) → IsBytes s.bytes → u32_at s ≡ Ok x → Takes s.bytes (to_le_bytes w32 x.0) x.1.bytes × (x.0 < 2 ^ 32)
unfolding u32_at
u32_takes s x h e =
    let a = bind_ok (byte_at s) (λ a. byte_at a.1 >>= λ b. byte_at b.1 >>= λ c. byte_at c.1 >>= λ d. Ok (from_le_bytes w32 (a.0 ∷ b.0 ∷ c.0 ∷ d.0 ∷ []), d.1)) x e in
    let b = bind_ok (byte_at a.0.1) (λ b. byte_at b.1 >>= λ c. byte_at c.1 >>= λ d. Ok (from_le_bytes w32 (a.0.0 ∷ b.0 ∷ c.0 ∷ d.0 ∷ []), d.1)) x a.2 in
    let c = bind_ok (byte_at b.0.1) (λ c. byte_at c.1 >>= λ d. Ok (from_le_bytes w32 (a.0.0 ∷ b.0.0 ∷ c.0 ∷ d.0 ∷ []), d.1)) x b.2 in
    let d = bind_ok (byte_at c.0.1) (λ d. Ok (from_le_bytes w32 (a.0.0 ∷ b.0.0 ∷ c.0.0 ∷ d.0 ∷ []), d.1)) x c.2 in
    let ta = byte_takes s a.0 h a.1 in
    let tb = byte_takes a.0.1 b.0 ta.0.fits b.1 in
    let tc = byte_takes b.0.1 c.0 tb.0.fits c.1 in
    let td = byte_takes c.0.1 d.0 tc.0.fits d.1 in
    let bytes : List ℕ = a.0.0 ∷ b.0.0 ∷ c.0.0 ∷ d.0.0 ∷ [] in
    let small = IsBytes-4 a.0.0 b.0.0 c.0.0 d.0.0 ta.1 tb.1 tc.1 td.1 in
    let cd = Takes-then b.0.1.bytes (c.0.0 ∷ []) c.0.1.bytes (d.0.0 ∷ []) d.0.1.bytes tc.0 td.0 in
    let bcd = Takes-then a.0.1.bytes (b.0.0 ∷ []) b.0.1.bytes (c.0.0 ∷ d.0.0 ∷ []) d.0.1.bytes tb.0 cd in
    let all = Takes-then s.bytes (a.0.0 ∷ []) a.0.1.bytes (b.0.0 ∷ c.0.0 ∷ d.0.0 ∷ []) d.0.1.bytes ta.0 bcd in
    let spelt : to_le_bytes w32 (from_le_bytes w32 bytes) ≡ bytes = le_bytes_4 bytes _ refl small refl in
    subst (λ (y : ℕ × Rest). Takes s.bytes (to_le_bytes w32 y.0) y.1.bytes × (y.0 < 2 ^ 32)) (ok_is (from_le_bytes w32 bytes, d.0.1) x d.2)
    (subst (λ (t : List ℕ). Takes s.bytes t d.0.1.bytes) (sym spelt) all, omega (arith, ta.1, tb.1, tc.1, td.1))

pub u16_again : (n : ℕ) (left : List ℕ) (at : ℕ) → n < 2 ^ 16 → Reads (u16_at (record { bytes = to_le_bytes w16 n ++ left; at = at })) n left
unfolding u16_at byte_at
u16_again n left at lt = (at + 1 + 1, ap (λ (k : ℕ). Ok (k, record { bytes = left; at = at + 1 + 1 })) (from_le_bytes-to_le_bytes_2 n lt))

pub u32_again : (n : ℕ) (left : List ℕ) (at : ℕ) → n < 2 ^ 32 → Reads (u32_at (record { bytes = to_le_bytes w32 n ++ left; at = at })) n left
unfolding u32_at byte_at
u32_again n left at lt = (at + 1 + 1 + 1 + 1, ap (λ (k : ℕ). Ok (k, record { bytes = left; at = at + 1 + 1 + 1 + 1 })) (from_le_bytes-to_le_bytes_4 n lt))

-- ---- signed numbers

-- what was taken is spelt as the part
pub record TakesPart (bytes left : List ℕ) (P : List ℕ → Type 0) : Type 0 where
  pub text : List ℕ
  pub spelt : P text
  pub took : Takes bytes text left

pub coordinate_takes : (s : Rest) (x : ℤ × Rest) → IsBytes s.bytes → coordinate_at s ≡ Ok x → TakesPart s.bytes x.1.bytes (λ t. SpellsCoordinate t x.0)
unfolding coordinate_at
coordinate_takes s x h e =
    let n = bind_ok (u16_at s) (λ n. Ok (cast_signed w16 n.0, n.1)) x e in
    let t = u16_takes s n.0 h n.1 in
    subst (λ (y : ℤ × Rest). TakesPart s.bytes y.1.bytes (λ t. SpellsCoordinate t y.0)) (ok_is (cast_signed w16 n.0.0, n.0.1) x n.2)
    (record { text = to_le_bytes w16 n.0.0; spelt = (sfits_to_z {w = w16} (Fits-of_lt {w = w16} t.1), ap (to_le_bytes w16) (sym (of_z-to_z {w = w16} (Fits-of_lt {w = w16} t.1)))); took = t.0 })

pub coordinate_again : (bytes : List ℕ) (z : ℤ) (left : List ℕ) (at : ℕ) → SpellsCoordinate bytes z → Reads (coordinate_at (record { bytes = bytes ++ left; at = at })) z left
unfolding coordinate_at
coordinate_again bytes z left at h =
    let n = u16_again (cast_unsigned w16 z) left at (Fits-lt-pow {w = w16} (Fits-of_z h.0)) in
    (n.0, rw (h.1, n.1, to_z-of_z h.0) refl)

-- a value of this type in which no message lies, and the bytes that spell it
pub record TakesValue (k : Kind) (bytes : List ℕ) (d : Datum) (left : List ℕ) : Type 0 where
  pub kind : kind_of d ≡ k
  pub flat : datum_depth d ≡ 0
  pub part : TakesPart bytes left (λ t. SpellsDatum t d)

pub int_takes : (s : Rest) (x : Datum × Rest) → IsBytes s.bytes → int_at s ≡ Ok x → TakesValue kind.Int s.bytes x.0 x.1.bytes
unfolding int_at
int_takes s x h e =
    let n = bind_ok (u32_at s) (λ n. Ok (int (cast_signed w32 n.0), n.1)) x e in
    let t = u32_takes s n.0 h n.1 in
    subst (λ (y : Datum × Rest). TakesValue kind.Int s.bytes y.0 y.1.bytes) (ok_is (int (cast_signed w32 n.0.0), n.0.1) x n.2)
    (record { kind = refl; flat = refl; part = record { text = to_le_bytes w32 n.0.0; spelt = (sfits_to_z {w = w32} (Fits-of_lt {w = w32} t.1), ap (to_le_bytes w32) (sym (of_z-to_z {w = w32} (Fits-of_lt {w = w32} t.1)))); took = t.0 } })

pub int_again : (bytes : List ℕ) (z : ℤ) (left : List ℕ) (at : ℕ) → SpellsInt bytes z → Reads (int_at (record { bytes = bytes ++ left; at = at })) (int z) left
unfolding int_at
int_again bytes z left at h =
    let n = u32_again (cast_unsigned w32 z) left at (Fits-lt-pow {w = w32} (Fits-of_z h.0)) in
    (n.0, rw (h.1, n.1, to_z-of_z h.0) refl)

-- ---- truth values

one_or_none : (b : ℕ) → nat_le b 1 ≡ true → b ≡ cond (b == 1) 1 0
one_or_none zero h = refl
one_or_none (suc zero) h = refl
one_or_none (suc (suc b)) h = absurd (omega (arith, leb-true _ _ h))

pub bool_takes : (s : Rest) (x : Datum × Rest) → IsBytes s.bytes → bool_at s ≡ Ok x → TakesValue kind.Bool s.bytes x.0 x.1.bytes
unfolding bool_at
bool_takes s x h e =
    let b = bind_ok (byte_that (λ b. nat_le b 1) s) (λ b. Ok (bool (b.0 == 1), b.1)) x e in
    let t = that_takes (λ b. nat_le b 1) s b.0 h b.1 in
    subst (λ (y : Datum × Rest). TakesValue kind.Bool s.bytes y.0 y.1.bytes) (ok_is (bool (b.0.0 == 1), b.0.1) x b.2)
    (record { kind = refl; flat = refl; part = record { text = b.0.0 ∷ []; spelt = ap (λ (k : ℕ). k ∷ []) (one_or_none b.0.0 t.2); took = t.0 } })

pub bool_again : (bytes : List ℕ) (b : Bool) (left : List ℕ) (at : ℕ) → bytes ≡ cond b 1 0 ∷ [] → Reads (bool_at (record { bytes = bytes ++ left; at = at })) (bool b) left
unfolding bool_at byte_that byte_at
bool_again bytes true left at h = (at + 1, rw h refl)
bool_again bytes false left at h = (at + 1, rw h refl)

-- ---- points and rectangles

pub point_takes : (s : Rest) (x : Datum × Rest) → IsBytes s.bytes → point_at s ≡ Ok x → TakesValue kind.Point s.bytes x.0 x.1.bytes
unfolding point_at
point_takes s p h e =
    let x = bind_ok (coordinate_at s) (λ x. coordinate_at x.1 >>= λ y. Ok (point (record { x = x.0; y = y.0 }), y.1)) p e in
    let y = bind_ok (coordinate_at x.0.1) (λ y. Ok (point (record { x = x.0.0; y = y.0 }), y.1)) p x.2 in
    let tx = coordinate_takes s x.0 h x.1 in
    let ty = coordinate_takes x.0.1 y.0 tx.took.fits y.1 in
    subst (λ (d : Datum × Rest). TakesValue kind.Point s.bytes d.0 d.1.bytes) (ok_is (point (record { x = x.0.0; y = y.0.0 }), y.0.1) p y.2)
    (record { kind = refl; flat = refl; part = record { text = tx.text ++ ty.text; spelt = (tx.text, ty.text, refl, tx.spelt, ty.spelt); took = Takes-then s.bytes tx.text x.0.1.bytes ty.text y.0.1.bytes tx.took ty.took } })

pub point_again : (bytes : List ℕ) (x y : ℤ) (left : List ℕ) (at : ℕ) → SpellsPoint bytes x y → Reads (point_at (record { bytes = bytes ++ left; at = at })) (point (record { x = x; y = y })) left
unfolding point_at
point_again bytes x y left at (a, b, parts, sx, sy) =
    let one = coordinate_again a x (b ++ left) at sx in
    let two = coordinate_again b y left one.0 sy in
    (two.0, rw (parts, append_assoc a b left, one.1, two.1) refl)

pub rect_takes : (s : Rest) (x : Datum × Rest) → IsBytes s.bytes → rect_at s ≡ Ok x → TakesValue kind.Rect s.bytes x.0 x.1.bytes
unfolding rect_at
rect_takes s r h e =
    let a = bind_ok (coordinate_at s) (λ a. coordinate_at a.1 >>= λ b. coordinate_at b.1 >>= λ c. coordinate_at c.1 >>= λ d. Ok (rect (record { left = a.0; top = b.0; right = c.0; bottom = d.0 }), d.1)) r e in
    let b = bind_ok (coordinate_at a.0.1) (λ b. coordinate_at b.1 >>= λ c. coordinate_at c.1 >>= λ d. Ok (rect (record { left = a.0.0; top = b.0; right = c.0; bottom = d.0 }), d.1)) r a.2 in
    let c = bind_ok (coordinate_at b.0.1) (λ c. coordinate_at c.1 >>= λ d. Ok (rect (record { left = a.0.0; top = b.0.0; right = c.0; bottom = d.0 }), d.1)) r b.2 in
    let d = bind_ok (coordinate_at c.0.1) (λ d. Ok (rect (record { left = a.0.0; top = b.0.0; right = c.0.0; bottom = d.0 }), d.1)) r c.2 in
    let ta = coordinate_takes s a.0 h a.1 in
    let tb = coordinate_takes a.0.1 b.0 ta.took.fits b.1 in
    let tc = coordinate_takes b.0.1 c.0 tb.took.fits c.1 in
    let td = coordinate_takes c.0.1 d.0 tc.took.fits d.1 in
    let front = Takes-then s.bytes ta.text a.0.1.bytes tb.text b.0.1.bytes ta.took tb.took in
    let back = Takes-then b.0.1.bytes tc.text c.0.1.bytes td.text d.0.1.bytes tc.took td.took in
    subst (λ (y : Datum × Rest). TakesValue kind.Rect s.bytes y.0 y.1.bytes) (ok_is (rect (record { left = a.0.0; top = b.0.0; right = c.0.0; bottom = d.0.0 }), d.0.1) r d.2)
    (record {
      kind = refl;
      flat = refl;
      part = record {
        text = (ta.text ++ tb.text) ++ (tc.text ++ td.text);
        spelt = (ta.text ++ tb.text, tc.text ++ td.text, refl, (ta.text, tb.text, refl, ta.spelt, tb.spelt), (tc.text, td.text, refl, tc.spelt, td.spelt));
        took = Takes-then s.bytes (ta.text ++ tb.text) b.0.1.bytes (tc.text ++ td.text) d.0.1.bytes front back;
      };
    })

pub rect_again : (bytes : List ℕ) (r : Rect) (left : List ℕ) (at : ℕ) → SpellsDatum bytes (rect r) → Reads (rect_at (record { bytes = bytes ++ left; at = at })) (rect r) left
unfolding rect_at
rect_again bytes r left at (front, back, parts, (a, b, front_is, sa, sb), (c, d, back_is, sc, sd)) =
    let one = coordinate_again a r.left (b ++ (back ++ left)) at sa in
    let two = coordinate_again b r.top (back ++ left) one.0 sb in
    let three = coordinate_again c r.right (d ++ left) two.0 sc in
    let four = coordinate_again d r.bottom left three.0 sd in
    let whole : bytes ++ left ≡ a ++ (b ++ (back ++ left)) =
    ap (λ (t : List ℕ). t ++ left) parts ∙ append_assoc front back left ∙ ap (λ (t : List ℕ). t ++ (back ++ left)) front_is ∙ append_assoc a b (back ++ left) in
    let second : back ++ left ≡ c ++ (d ++ left) = ap (λ (t : List ℕ). t ++ left) back_is ∙ append_assoc c d left in
    let third : coordinate_at (record { bytes = back ++ left; at = two.0 }) ≡ Ok (r.right, record { bytes = d ++ left; at = three.0 }) =
    subst (λ (t : List ℕ). coordinate_at (record { bytes = t; at = two.0 }) ≡ Ok (r.right, record { bytes = d ++ left; at = three.0 })) (sym second) three.1 in
    (four.0, rw (whole, one.1, two.1, third, four.1) refl)

-- ---- texts

pub pass_each : (p : ℕ → Bool) (read bytes : List ℕ) → pass_all (λ read b. p b) read bytes ≡ list_all p bytes
pass_each p read [] = refl
pass_each p read (b ∷ bytes) = ap (λ (q : Bool). p b && q) (pass_each p (read ++ b ∷ []) bytes)

pub length_takes : (s : Rest) (x : ℕ × Rest) → IsBytes s.bytes → text_length_at s ≡ Ok x → Takes s.bytes (to_le_bytes w16 x.0) x.1.bytes × (x.0 ≤ 1024)
unfolding text_length_at
length_takes s x h e =
    let low = bind_ok (byte_at s) (λ low. byte_that (λ high. nat_le (low.0 + 256 * high) 1024) low.1 >>= λ high. Ok (low.0 + 256 * high.0, high.1)) x e in
    let high = bind_ok (byte_that (λ high. nat_le (low.0.0 + 256 * high) 1024) low.0.1) (λ high. Ok (low.0.0 + 256 * high.0, high.1)) x low.2 in
    let tl = byte_takes s low.0 h low.1 in
    let th = that_takes (λ high. nat_le (low.0.0 + 256 * high) 1024) low.0.1 high.0 tl.0.fits high.1 in
    let bytes : List ℕ = low.0.0 ∷ high.0.0 ∷ [] in
    let small = IsBytes-2 low.0.0 high.0.0 tl.1 th.1 in
    let both = Takes-then s.bytes (low.0.0 ∷ []) low.0.1.bytes (high.0.0 ∷ []) high.0.1.bytes tl.0 th.0 in
    let spelt : to_le_bytes w16 (low.0.0 + 256 * high.0.0) ≡ bytes = le_bytes_2 bytes _ refl small (omega arith) in
    subst (λ (y : ℕ × Rest). Takes s.bytes (to_le_bytes w16 y.0) y.1.bytes × (y.0 ≤ 1024)) (ok_is (low.0.0 + 256 * high.0.0, high.0.1) x high.2)
    (subst (λ (t : List ℕ). Takes s.bytes t high.0.1.bytes) (sym spelt) both, leb-true _ _ th.2)

pub text_takes : (s : Rest) (x : Datum × Rest) → IsBytes s.bytes → text_at s ≡ Ok x → TakesValue kind.Text s.bytes x.0 x.1.bytes
unfolding text_at is_text
text_takes s x h e =
    let n = bind_ok (text_length_at s) (λ n. bytes_that (λ read b. is_text_byte b) n.0 [] n.1 >>= λ t. Ok (text t.0, t.1)) x e in
    let t = bind_ok (bytes_that (λ read b. is_text_byte b) n.0.0 [] n.0.1) (λ t. Ok (text t.0, t.1)) x n.2 in
    let tn = length_takes s n.0 h n.1 in
    let tt' = bytes_take (λ read b. is_text_byte b) n.0.0 [] n.0.1 t.0 tn.0.fits t.1 in
    let allowed : is_text t.0.0 ≡ true = rw (tt'.got_is, ← pass_each is_text_byte [] tt'.text, tt'.pass) (le-leb _ _ (omega (arith, tt'.count, tn.1))) in
    let spelt : to_le_bytes w16 n.0.0 ++ tt'.text ≡ to_le_bytes w16 (length t.0.0) ++ t.0.0 = rw (tt'.got_is, tt'.count) refl in
    subst (λ (y : Datum × Rest). TakesValue kind.Text s.bytes y.0 y.1.bytes) (ok_is (text t.0.0, t.0.1) x t.2)
    (record { kind = refl; flat = refl; part = record { text = to_le_bytes w16 n.0.0 ++ tt'.text; spelt = (allowed, spelt); took = Takes-then s.bytes (to_le_bytes w16 n.0.0) n.0.1.bytes tt'.text t.0.1.bytes tn.0 tt'.took } })

length_again : (n : ℕ) (left : List ℕ) (at : ℕ) → n ≤ 1024 → Reads (text_length_at (record { bytes = to_le_bytes w16 n ++ left; at = at })) n left
unfolding text_length_at byte_that byte_at
length_again n left at most =
    let number : n % 256 + 256 * (n / 256 % 256) ≡ n = omega arith in
    (at + 1 + 1, rw (number, le-leb n 1024 most) (ap (λ (k : ℕ). Ok (k, record { bytes = left; at = at + 1 + 1 })) number))

pub text_again : (bytes t left : List ℕ) (at : ℕ) → SpellsText bytes t → Reads (text_at (record { bytes = bytes ++ left; at = at })) (text t) left
unfolding text_at is_text
text_again bytes t left at h =
    let all : list_all is_text_byte t ≡ true = and_first _ _ h.0 in
    let most : length t ≤ 1024 = leb-true _ _ (and_second (list_all is_text_byte t) _ h.0) in
    let one = length_again (length t) (t ++ left) at most in
    let two = bytes_again (λ read b. is_text_byte b) [] t left one.0 (pass_each is_text_byte [] t ∙ all) in
    let whole : bytes ++ left ≡ to_le_bytes w16 (length t) ++ (t ++ left) = ap (λ (r : List ℕ). r ++ left) h.1 ∙ append_assoc (to_le_bytes w16 (length t)) t left in
    (two.0, rw (whole, one.1, two.1) refl)
