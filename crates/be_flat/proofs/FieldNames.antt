-- The name of a field: what is read is spelt so, and what is spelt so is read again.
use Rattle.std.proofs.Common.{◌≡◌, ℕ, zero, suc, ◌+◌, ◌-◌, ◌<◌, ◌≤◌, Bool, true, false, ◌&&◌, cond, List, [], ◌∷◌, ◌++◌, length, Ok, Err, refl, sym, ap, subst, ◌∙◌, append_assoc, arith}
use Rattle.std.specs.Prelude.{nat_le, nat_lt}
use Rattle.std.specs.Char.{is_ascii_lowercase}
use Rattle.std.specs.List.{list_any, list_all}
use Rattle.std.specs.Str.{IsAscii, IsUtf8}
use Rattle.std.proofs.lemmas.Bool.{leb-true, le-leb, and_from}
use Rattle.std.proofs.lemmas.List.{append-nil}
use Rattle.std.proofs.lemmas.Str.{IsUtf8-from_ascii}
use Rattle.be_facts.proofs.Bytes.{letter_is_ascii}
use Rattle.be_facts.proofs.Truths.{and_first, and_second}
use Rattle.be_facts.specs.Names.{is_name_byte}
use Rattle.be_message.specs.Fields.{has_name}
use Rattle.be_message.specs.Messages.{Message}
use Rattle.be_message.specs.Names.{is_name}
use Rattle.be_message.proofs.NameLemmas.{byte_is_ascii}
use Rattle.be_flat.specs.declared.fault.FlatError.TheVariants.{BadByte}
use Rattle.be_flat.specs.Reading.{Rest, ◌>>=◌, byte_at, byte_that, bytes_that, goes_on_name, unless_taken, name_at}
use Rattle.be_flat.proofs.Taken.{IsBytes, bind_ok, Takes, Takes-then, that_takes, bytes_take, pass_all, Reads, that_again, bytes_again}
use Rattle.be_flat.proofs.Truths.{guard_ok, is_free, ok_is}

-- behind its first letter a name goes on with any of its bytes
goes_on : (c : ℕ) (read bytes : List ℕ) → pass_all goes_on_name (c ∷ read) bytes ≡ list_all is_name_byte bytes
goes_on c read [] = refl
goes_on c read (b ∷ bytes) = ap (λ (q : Bool). is_name_byte b && q) (goes_on c (read ++ b ∷ []) bytes)

pass_is : (b : ℕ) (bytes : List ℕ) → pass_all goes_on_name [] (b ∷ bytes) ≡ (is_ascii_lowercase b && list_all is_name_byte bytes)
pass_is b bytes = ap (λ (q : Bool). is_ascii_lowercase b && q) (goes_on b [] bytes)

name_from : (name : List ℕ) → 0 < length name → length name ≤ 32 → pass_all goes_on_name [] name ≡ true → is_name name ≡ true
unfolding is_name
name_from [] some most h = absurd (omega (arith, some))
name_from (b ∷ bytes) some most h =
    and_from _ _ (sym (pass_is b bytes) ∙ h) (le-leb _ _ most)

pub record IsName (name : List ℕ) : Type 0 where
  pub some : 0 < length name
  pub most : length name ≤ 32
  pub pass : pass_all goes_on_name [] name ≡ true

pub name_is : (name : List ℕ) → is_name name ≡ true → IsName name
unfolding is_name
name_is [] h = absurd cc
name_is (b ∷ bytes) h =
    let both = is_ascii_lowercase b && list_all is_name_byte bytes in
    record {
      some = omega arith;
      most = leb-true _ _ (and_second both _ h);
      pass = pass_is b bytes ∙ and_first both (nat_le (length (b ∷ bytes)) 32) h;
    }

-- a name that no field has
pub record TakesName (m : Message) (bytes name left : List ℕ) : Type 0 where
  pub allowed : is_name name ≡ true
  pub free : list_any (has_name name) m.fields ≡ false
  pub took : Takes bytes (length name ∷ name) left

pub name_takes : (m : Message) (s : Rest) (x : List ℕ × Rest) → IsBytes s.bytes → name_at m s ≡ Ok x → TakesName m s.bytes x.0 x.1.bytes
unfolding name_at unless_taken
name_takes m s x h e =
    let ok : ℕ → Bool = λ n. nat_lt 0 n && nat_le n 32 in
    let n = bind_ok (byte_that ok s) (λ n. bytes_that goes_on_name n.0 [] n.1 >>= unless_taken m) x e in
    let t = bind_ok (bytes_that goes_on_name n.0.0 [] n.0.1) (unless_taken m) x n.2 in
    let tn = that_takes ok s n.0 h n.1 in
    let took = bytes_take goes_on_name n.0.0 [] n.0.1 t.0 tn.0.fits t.1 in
    let g = is_free (list_any (has_name t.0.0) m.fields) (BadByte (t.0.1.at - 1)) t.0 x t.2 in
    let count : length t.0.0 ≡ n.0.0 = ap length took.got_is ∙ took.count in
    let pass : pass_all goes_on_name [] t.0.0 ≡ true = ap (pass_all goes_on_name []) took.got_is ∙ took.pass in
    let some : 0 < n.0.0 = leb-true 1 n.0.0 (and_first (nat_lt 0 n.0.0) _ tn.2) in
    let most : n.0.0 ≤ 32 = leb-true _ _ (and_second (nat_lt 0 n.0.0) _ tn.2) in
    let both = Takes-then s.bytes (n.0.0 ∷ []) n.0.1.bytes took.text t.0.1.bytes tn.0 took.took in
    let text : n.0.0 ∷ took.text ≡ length t.0.0 ∷ t.0.0 = rw (count, took.got_is) refl in
    subst (λ (y : List ℕ × Rest). TakesName m s.bytes y.0 y.1.bytes) g.1
    (record {
      allowed = name_from t.0.0 (omega (arith, some, count)) (omega (arith, most, count)) pass;
      free = g.0;
      took = subst (λ (q : List ℕ). Takes s.bytes q t.0.1.bytes) text both;
    })

pub name_again : (m : Message) (name left : List ℕ) (at : ℕ) → is_name name ≡ true → list_any (has_name name) m.fields ≡ false → Reads (name_at m (record { bytes = length name ∷ name ++ left; at = at })) name left
unfolding name_at unless_taken
name_again m name left at allowed free =
    let is = name_is name allowed in
    let fits : (nat_lt 0 (length name) && nat_le (length name) 32) ≡ true = and_from _ _ (le-leb 1 (length name) is.some) (le-leb _ _ is.most) in
    let one = that_again (λ n. nat_lt 0 n && nat_le n 32) (length name) (name ++ left) at fits in
    let two = bytes_again goes_on_name [] name left (at + 1) is.pass in
    (two.0, rw (one, two.1, free) refl)

-- ---- the letters of a name are ASCII

passes_ascii : (read : List ℕ) (b : ℕ) → goes_on_name read b ≡ true → b < 128
passes_ascii [] b h = letter_is_ascii b h
passes_ascii (c ∷ cs) b h = byte_is_ascii b h

letters_ascii : (read bytes : List ℕ) → pass_all goes_on_name read bytes ≡ true → IsAscii bytes
letters_ascii read [] h i = omega arith
letters_ascii read (b ∷ bytes) h zero = passes_ascii read b (and_first (goes_on_name read b) _ h)
letters_ascii read (b ∷ bytes) h (suc i) = letters_ascii (read ++ b ∷ []) bytes (and_second (goes_on_name read b) _ h) i

-- what was read behind what stood there passes, and is so long
pub passing : (p : List ℕ → ℕ → Bool) (n : ℕ) (read : List ℕ) (s : Rest) (x : List ℕ × Rest) → bytes_that p n read s ≡ Ok x → (text : List ℕ) × (x.0 ≡ read ++ text) × (pass_all p read text ≡ true) × (length text ≡ n)
unfolding bytes_that byte_that
passing p zero read s x e = ([], sym (ap (λ (y : List ℕ × Rest). y.0) (ok_is (read, s) x e)) ∙ sym (append-nil read), refl, refl)
passing p (suc n) read s x e =
    let a = bind_ok (byte_that (p read) s) (λ y. bytes_that p n (read ++ y.0 ∷ []) y.1) x e in
    let b = bind_ok (byte_at s) (λ y. cond (p read y.0) (Ok y) (Err (BadByte s.at))) a.0 a.1 in
    let g = guard_ok (p read b.0.0) (BadByte s.at) b.0 a.0 b.2 in
    let passed : p read a.0.0 ≡ true = subst (λ (y : ℕ × Rest). p read y.0 ≡ true) g.1 g.0 in
    let more = passing p n (read ++ a.0.0 ∷ []) a.0.1 x a.2 in
    (a.0.0 ∷ more.0, more.1 ∙ append_assoc read (a.0.0 ∷ []) more.0, and_from _ _ passed more.2, ap suc more.3)

pub name_is_utf8 : (n : ℕ) (s : Rest) (x : List ℕ × Rest) → bytes_that goes_on_name n [] s ≡ Ok x → IsUtf8 x.0
name_is_utf8 n s x e =
    let t = passing goes_on_name n [] s x e in
    IsUtf8-from_ascii x.0 (subst IsAscii (sym t.1) (letters_ascii [] t.0 t.2))

-- a name that was read is allowed, and no field has it
pub name_allowed : (m : Message) (s : Rest) (x : List ℕ × Rest) → name_at m s ≡ Ok x → (is_name x.0 ≡ true) × (list_any (has_name x.0) m.fields ≡ false)
unfolding name_at unless_taken byte_that
name_allowed m s x e =
    let ok : ℕ → Bool = λ n. nat_lt 0 n && nat_le n 32 in
    let n = bind_ok (byte_that ok s) (λ n. bytes_that goes_on_name n.0 [] n.1 >>= unless_taken m) x e in
    let t = bind_ok (bytes_that goes_on_name n.0.0 [] n.0.1) (unless_taken m) x n.2 in
    let b = bind_ok (byte_at s) (λ y. cond (ok y.0) (Ok y) (Err (BadByte s.at))) n.0 n.1 in
    let g = guard_ok (ok b.0.0) (BadByte s.at) b.0 n.0 b.2 in
    let long : ok n.0.0 ≡ true = subst (λ (y : ℕ × Rest). ok y.0 ≡ true) g.1 g.0 in
    let some : 0 < n.0.0 = leb-true 1 n.0.0 (and_first (nat_lt 0 n.0.0) _ long) in
    let most : n.0.0 ≤ 32 = leb-true _ _ (and_second (nat_lt 0 n.0.0) _ long) in
    let took = passing goes_on_name n.0.0 [] n.0.1 t.0 t.1 in
    let free = is_free (list_any (has_name t.0.0) m.fields) (BadByte (t.0.1.at - 1)) t.0 x t.2 in
    let count : length t.0.0 ≡ n.0.0 = ap length took.1 ∙ took.3 in
    let pass : pass_all goes_on_name [] t.0.0 ≡ true = ap (pass_all goes_on_name []) took.1 ∙ took.2 in
    subst (λ (y : List ℕ × Rest). (is_name y.0 ≡ true) × (list_any (has_name y.0) m.fields ≡ false)) free.1
    (name_from t.0.0 (omega (arith, some, count)) (omega (arith, most, count)) pass, free.0)
