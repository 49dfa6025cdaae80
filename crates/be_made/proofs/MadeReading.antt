-- Texts that are read in front of any other, and lead from what was said to what is said then.
use Rattle.std.proofs.Common.{◌≡◌, ℕ, zero, suc, ◌+◌, ◌*◌, ◌-◌, ◌<◌, ◌≤◌, true, false}
use Rattle.std.proofs.Common.{eqb, nat_lt, List, [], ◌∷◌, ◌++◌, length, get_or}
use Rattle.std.proofs.Common.{None, Ok, refl, ap, ◌∙◌, subst, arith}
use Rattle.std.proofs.Common.{append_assoc, length-append}
use Rattle.std.proofs.lemmas.Bool.Decides.{nat_tests}
use Rattle.be_lex.specs.Lines.{Line, lines_of, is_printable}
use Rattle.be_lex.specs.Words.{words_of, is_passed_over}
use Rattle.be_lex.proofs.LineLemmas.{lines_of-ended, not_passed}
use Rattle.be_line.specs.FirstWords.{statement_of}
use Rattle.be_reader.specs.Grammar.{read_line, read_known, read_lines}
use Rattle.be_reader.proofs.LineLemmas.{goes_on}
use Rattle.be_said.specs.SoFar.{SoFar}
use Rattle.be_written.specs.Lines.{line_of}
use Rattle.be_made.specs.Drawing.{Drawn, texts_from}
use Rattle.be_made.proofs.PlainWords.{is_plain, are_plain, joined, words-joined, shown-joined}
use Rattle.be_made.proofs.PlainWords.{length-joined, shown-line, shown-end}

-- a text of at most so many bytes
pub record Reads (most : ℕ) (text : List ℕ) (old new : SoFar) : Type 0 where
  pub few : length text ≤ most
  pub goes : (number : ℕ) (rest : List ℕ) →
      (next : ℕ) × (read_lines number old (lines_of (text ++ rest)) ≡ read_lines next new
      (lines_of rest))

pub reads_nothing : (said : SoFar) → Reads 0 [] said said
reads_nothing said = record { few = omega arith; goes = λ number rest. (number, refl) }

pub reads_more : (most other : ℕ) (text : List ℕ) (old new : SoFar) → most ≤ other →
    Reads most text old new → Reads other text old new
reads_more most other text old new h reads = record
    { few = let short = reads.few in omega arith; goes = reads.goes }

pub reads_both : (m n : ℕ) (a b : List ℕ) (old mid new : SoFar) → Reads m a old mid →
    Reads n b mid new → Reads (m + n) (a ++ b) old new
reads_both m n a b old mid new one two = record {
  few =
      let first = one.few in
      let second = two.few in
      let all = length-append a b in
      omega arith;
  goes = λ number rest.
      let first = one.goes number (b ++ rest) in
      let second = two.goes first.0 rest in (
        second.0,
        ap (λ (t : List ℕ). read_lines number old (lines_of t)) (append_assoc a b rest)
            ∙ first.1 ∙ second.1,
      );
}

-- ---- a line

short_line : (n : ℕ) → n ≤ 2048 → nat_lt 2048 n ≡ false
short_line n h = grind (arith, nat_tests)

-- with its words, a line is read as these say
read_plain : (text word : List ℕ) (words : List (List ℕ)) (old : SoFar) →
    nat_lt 2048 (length text) ≡ false → eqb (get_or text (length text - 1) 0) 13 ≡ false →
    is_printable text ≡ true → is_passed_over text ≡ false →
    words_of text ≡ word ∷ words → read_line old (record { bytes = text; ended = true }) ≡
    read_known old (statement_of word) (record { words = words; window = None; text = text })
unfolding read_line
read_plain text word words old short end shown some is = rw (short, end, shown, some, is) refl

-- how long it is at most
line_length : (word : List ℕ) (words : List (List ℕ)) → is_plain word ≡ true →
    are_plain words ≡ true → length words ≤ 8 → length (line_of (word ∷ words)) ≤ 200
unfolding line_of
line_length word words h hs few =
    let long = length-joined word words h hs in
    let all = length-append (joined (word ∷ words)) (10 ∷ []) in
    omega arith

pub reads_line : (word : List ℕ) (words : List (List ℕ)) (old new : SoFar) → is_plain word ≡ true →
    are_plain words ≡ true → length words ≤ 8 → eqb (get_or word 0 0) 35 ≡ false →
    read_known old (statement_of word) (record
    { words = words; window = None; text = joined (word ∷ words) }) ≡ Ok new →
    Reads 200 (line_of (word ∷ words)) old new
unfolding line_of
reads_line word words old new h hs few begins read =
    let text : List ℕ = joined (word ∷ words) in
    let is = words-joined word words h hs in
    let shown = shown-joined word words h hs in
    let long = length-joined word words h hs in
    let read_it = read_plain text word words old (short_line (length text) (omega arith))
    (shown-end text shown) shown (not_passed text word words is begins) is ∙ read in
    record {
      few = line_length word words h hs few;
      goes = λ number rest. (
        number + 1,
        ap (λ (t : List ℕ). read_lines number old (lines_of t)) (append_assoc text (10 ∷ []) rest)
            ∙ ap (λ (ls : List Line). read_lines number old ls)
            (lines_of-ended text rest (shown-line text shown))
            ∙ goes_on number old new (record { bytes = text; ended = true }) (lines_of rest)
            read_it,
      );
    }

-- ---- texts that are made one after the other

module _ (text : ℕ → Drawn (List ℕ)) (most last : ℕ) (S : Type 0) (said : S → SoFar)
    (Is : ℕ → S → Type 0)
    (each : (i x : ℕ) (s : S) → i < last → Is i s →
    (next : S) × Is (i + 1) next × Reads most (text i x).0 (said s) (said next)) where
  pub reads_all : (n i x : ℕ) (s : S) → i + n ≤ last → Is i s →
      (next : S) × Is (i + n) next × Reads (n * most) (texts_from text i n x).0 (said s) (said next)
  unfolding texts_from
  reads_all zero i x s h is =
      let same : i ≡ i + zero = omega arith in (
        s,
        subst (λ (k : ℕ). Is k s) same is,
        reads_more 0 (zero * most) [] (said s) (said s)
            (omega arith) (reads_nothing (said s)),
      )
  reads_all (suc n) i x s h is =
      let one = each i x s (omega arith) is in
      let rest = reads_all n (i + 1) (text i x).1 one.0 (omega arith) one.1 in
      let same : i + 1 + n ≡ i + suc n = omega arith in (
        rest.0,
        subst (λ (k : ℕ). Is k rest.0) same rest.1,
        reads_more (most + n * most) (suc n * most)
            ((text i x).0 ++ (texts_from text (i + 1) n (text i x).1).0) (said s) (said rest.0)
            (omega arith)
            (reads_both most (n * most) (text i x).0 (texts_from text (i + 1) n (text i x).1).0
            (said s)
            (said one.0) (said rest.0) one.2 rest.2),
      )
