-- What readers say of words, step by step.
use Rattle.std.proofs.Common.{◌≡◌, ℕ, Bool, true, false, cond, List, [], ◌∷◌, Option, Some, None, option_map, option_and_then, refl, sym, ap, ◌∙◌}
use Rattle.std.specs.Map.{lookup}
use Rattle.std.specs.Str.{bytes_eq}
use Rattle.std.proofs.lemmas.Option.{same_Some, some_pair_parts}
use Rattle.std.proofs.lemmas.Slice.Eq.{bytes_eq-Decides}
use Rattle.be_machine.specs.declared.Act.{Act}
use Rattle.be_report.specs.Readers.{Reader, ◌>>=◌, gives, next_word, optional}

abbrev pub Words : Type 0
Words = List (List ℕ)

-- ---- a word

pub next_back : {X : Type 0} (said : List ℕ → Option X) (word : List ℕ) (words : Words) (x : X) → said word ≡ Some x → next_word said (word ∷ words) ≡ Some (x, words)
next_back {X} said word words x e = ap (option_map (λ (y : X). (y, words))) e

pub record IsNext {X : Type 0} (said : List ℕ → Option X) (words : Words) (x : X) (rest : Words) : Type 0 where
  pub word : List ℕ
  pub is : words ≡ word ∷ rest
  pub says : said word ≡ Some x

next_said : {X : Type 0} (said : List ℕ → Option X) (word : List ℕ) (words : Words) (o : Option X) (x : X) (rest : Words) → said word ≡ o → option_map {U = X × Words} (λ (y : X). (y, words)) o ≡ Some (x, rest) → IsNext said (word ∷ words) x rest
next_said said word words (Some y) x rest says e =
    let parts = some_pair_parts y x words rest e in
    record { word = word; is = ap (λ (ws : Words). word ∷ ws) parts.1; says = says ∙ ap Some parts.0 }
next_said said word words None x rest says e = (cc)

pub next_alone : {X : Type 0} (said : List ℕ → Option X) (words : Words) (x : X) (rest : Words) → next_word said words ≡ Some (x, rest) → IsNext said words x rest
next_alone said [] x rest e = (cc)
next_alone said (word ∷ words) x rest e = next_said said word words (said word) x rest refl e

-- ---- one reader, and then another

pub bind_back : {X Y : Type 0} (read : Reader X) (f : X → Reader Y) (words mid : Words) (x : X) (r : Option (Y × Words)) → read words ≡ Some (x, mid) → f x mid ≡ r → (read >>= f) words ≡ r
bind_back {X} {Y} read f words mid x r e k = ap (option_and_then (λ (p : X × Words). f p.0 p.1)) e ∙ k

pub record IsBound {X Y : Type 0} (read : Reader X) (f : X → Reader Y) (words : Words) (y : Y) (rest : Words) : Type 0 where
  pub from : X
  pub mid : Words
  pub first : read words ≡ Some (from, mid)
  pub second : f from mid ≡ Some (y, rest)

bound_by : {X Y : Type 0} (read : Reader X) (f : X → Reader Y) (words : Words) (o : Option (X × Words)) (y : Y) (rest : Words) → read words ≡ o
    → option_and_then (λ (p : X × Words). f p.0 p.1) o ≡ Some (y, rest) → IsBound read f words y rest
bound_by read f words (Some p) y rest r e = record { from = p.0; mid = p.1; first = r; second = e }
bound_by read f words None y rest r e = (cc)

pub bind_alone : {X Y : Type 0} (read : Reader X) (f : X → Reader Y) (words : Words) (y : Y) (rest : Words) → (read >>= f) words ≡ Some (y, rest) → IsBound read f words y rest
bind_alone read f words y rest e = bound_by read f words (read words) y rest refl e

-- ---- acts of one part, and of two

pub one_back : {X : Type 0} (read : Reader X) (make : X → Act) (words : Words) (x : X) → read words ≡ Some (x, []) → (read >>= λ y. gives (make y)) words ≡ Some (make x, [])
one_back {X} read make words x e = bind_back read (λ (y : X). gives (make y)) words [] x (Some (make x, [])) e refl

pub record IsOne {X : Type 0} (read : Reader X) (make : X → Act) (words : Words) (a : Act) (rest : Words) : Type 0 where
  pub from : X
  pub first : read words ≡ Some (from, rest)
  pub made : make from ≡ a

pub one_alone : {X : Type 0} (read : Reader X) (make : X → Act) (words : Words) (a : Act) (rest : Words) → (read >>= λ y. gives (make y)) words ≡ Some (a, rest) → IsOne read make words a rest
one_alone {X} read make words a rest e =
    let b = bind_alone read (λ (y : X). gives (make y)) words a rest e in
    let parts = some_pair_parts (make b.from) a b.mid rest b.second in
    record { from = b.from; first = b.first ∙ ap (λ (ws : Words). Some (b.from, ws)) parts.1; made = parts.0 }

pub two_back : {X Y : Type 0} (read : Reader X) (other : Reader Y) (make : X → Y → Act) (words mid : Words) (x : X) (y : Y) → read words ≡ Some (x, mid) → other mid ≡ Some (y, [])
    → (read >>= λ a. other >>= λ b. gives (make a b)) words ≡ Some (make x y, [])
two_back {X} {Y} read other make words mid x y e k =
    bind_back read (λ (a : X). other >>= λ b. gives (make a b)) words mid x (Some (make x y, [])) e (one_back other (make x) mid y k)

pub record IsTwo {X Y : Type 0} (read : Reader X) (other : Reader Y) (make : X → Y → Act) (words : Words) (a : Act) (rest : Words) : Type 0 where
  pub from : X
  pub mid : Words
  pub with : Y
  pub first : read words ≡ Some (from, mid)
  pub second : other mid ≡ Some (with, rest)
  pub made : make from with ≡ a

pub two_alone : {X Y : Type 0} (read : Reader X) (other : Reader Y) (make : X → Y → Act) (words : Words) (a : Act) (rest : Words) → (read >>= λ x. other >>= λ y. gives (make x y)) words ≡ Some (a, rest)
    → IsTwo read other make words a rest
two_alone {X} {Y} read other make words a rest e =
    let b = bind_alone read (λ (x : X). other >>= λ y. gives (make x y)) words a rest e in
    let o = one_alone other (make b.from) b.mid a rest b.second in
    record { from = b.from; mid = b.mid; with = o.from; first = b.first; second = o.first; made = o.made }

-- ---- what may be missing

pub optional_back : {X : Type 0} (read : Reader X) (word : List ℕ) (words : Words) (x : X) (rest : Words) → read (word ∷ words) ≡ Some (x, rest) → optional read (word ∷ words) ≡ Some (Some x, rest)
optional_back {X} read word words x rest e = ap (option_map (λ (p : X × Words). (Some p.0, p.1))) e

-- nothing is left, or all of it was read
abbrev pub IsOptional : {X : Type 0} → Reader X → Words → Option X → Words → Type 0
IsOptional read words None rest = (words ≡ []) × (rest ≡ [])
IsOptional read words (Some x) rest = read words ≡ Some (x, rest)

optional_made : {X : Type 0} (read : Reader X) (words : Words) (o : Option (X × Words)) (x : Option X) (rest : Words) → read words ≡ o → option_map {U = Option X × Words} (λ (p : X × Words). (Some p.0, p.1)) o ≡ Some (x, rest) → IsOptional read words x rest
optional_made {X} read words (Some p) (Some x) rest r e =
    let parts = some_pair_parts (Some p.0) (Some x) p.1 rest e in
    r ∙ ap (λ (ws : Words). Some (p.0, ws)) parts.1 ∙ ap (λ (y : X). Some (y, rest)) (same_Some p.0 x parts.0)
optional_made {X} read words (Some p) None rest r e = let none : Option X = None in let no = (some_pair_parts (Some p.0) none p.1 rest e).0 in (cc)
optional_made read words None x rest r e = (cc)

optional_none : {X : Type 0} (read : Reader X) (none x : Option X) (rest : Words) → none ≡ None → ◌≡◌ {A = Option (Option X × Words)} (Some (none, [])) (Some (x, rest)) → IsOptional read [] x rest
optional_none read none None rest is e = (refl, sym (some_pair_parts none None [] rest e).1)
optional_none read none (Some x) rest is e = let no = (some_pair_parts none (Some x) [] rest e).0 in (cc)

pub optional_alone : {X : Type 0} (read : Reader X) (words : Words) (x : Option X) (rest : Words) → optional read words ≡ Some (x, rest) → IsOptional read words x rest
optional_alone read [] x rest e = optional_none read None x rest refl e
optional_alone read (word ∷ words) x rest e = optional_made read (word ∷ words) (read (word ∷ words)) x rest refl e

-- ---- tables

-- each word of a table is that of its value
abbrev pub AreTheirs : {X : Type 0} → (X → List ℕ) → List (List ℕ × X) → Type 0
AreTheirs text [] = Unit {0}
AreTheirs text (e ∷ es) = (text e.1 ≡ e.0) × AreTheirs text es

looked_up : {X : Type 0} (text : X → List ℕ) (found : Bool) (e : List ℕ × X) (es : List (List ℕ × X)) (word : List ℕ) (x : X) → text e.1 ≡ e.0 → bytes_eq word e.0 ≡ found
    → (lookup (bytes_eq word) es ≡ Some x → word ≡ text x) → cond found (Some e.1) (lookup (bytes_eq word) es) ≡ Some x → word ≡ text x
looked_up text true e es word x theirs same below h = (bytes_eq-Decides word e.0).0 same ∙ sym theirs ∙ ap text (same_Some e.1 x h)
looked_up text false e es word x theirs same below h = below h

-- a word that is looked up is that of what is found
pub lookup_alone : {X : Type 0} (text : X → List ℕ) (table : List (List ℕ × X)) (word : List ℕ) (x : X) → AreTheirs text table → lookup (bytes_eq word) table ≡ Some x → word ≡ text x
lookup_alone text [] word x theirs h = (cc)
lookup_alone text (e ∷ es) word x theirs h = looked_up text (bytes_eq word e.0) e es word x theirs.0 refl (lookup_alone text es word x theirs.1) h
