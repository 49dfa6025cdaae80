-- The text of a picture is read as that picture.
use Rattle.std.proofs.Common.{◌≡◌, ℕ, suc, ◌+◌, ◌*◌, ◌≤◌, true, false, List, [], ◌∷◌}
use Rattle.std.proofs.Common.{◌++◌, length, None, Ok, refl, sym, ap, ◌∙◌, subst}
use Rattle.std.proofs.Common.{append_assoc, arith}
use Rattle.std.specs.Prelude.{All, nat_lt}
use Rattle.std.proofs.lemmas.Bool.Decides.{nat_tests}
use Rattle.std.proofs.lemmas.List.{append-nil}
use Rattle.be_command.specs.declared.Command.{Command}
use Rattle.be_command.specs.Forms.{form_of}
use Rattle.be_command.specs.Laws.{AreKnown, IsSpoken}
use Rattle.be_command.specs.Names.{Known}
use Rattle.be_command.specs.Reading.{command_of}
use Rattle.be_command.specs.Spelling.{spelling}
use Rattle.be_command.proofs.FirstWords.{word_text}
use Rattle.be_command.proofs.KindsBack.{begins_all, words_of_all}
use Rattle.be_command.proofs.LawLemmas.{command_of-spelling}
use Rattle.be_command.proofs.Spelt.{spelt}
use Rattle.be_lex.specs.Lines.{lines_of}
use Rattle.be_lex.specs.Words.{is_passed_over, words_of}
use Rattle.be_lex.proofs.LineLemmas.{lines_of-ended, lines_of-none, not_passed}
use Rattle.be_lex.proofs.Spelling.{words_of-append}
use Rattle.be_picture.specs.Recording.{IsRecorded, open_pushes, refusal}
use Rattle.be_picture.specs.Text.{picture_of, picture_text, read_line, read_lines, word_fault}
use Rattle.be_picture.proofs.FirstWords.{free_word, is_first, no_word_fault}
use Rattle.be_picture.proofs.LineLemmas.{command_is, goes_on}
use Rattle.be_picture.proofs.Plain.{IsPlain, both, plain_is_line, plain_text, wider}
use Rattle.be_picture.proofs.PlainKinds.{all_plain}

-- ---- the line of a command

pub record IsLineOf (known : Known) (before : List Command) (c : Command) : Type 0 where
  pub plain : IsPlain 2048 (spelling known c)
  pub word : List ℕ
  pub others : List (List ℕ)
  pub words : words_of (spelling known c) ≡ word ∷ others
  pub no_comment : is_passed_over (spelling known c) ≡ false
  pub free : word_fault (open_pushes before) word ≡ None

line_plain : (known : Known) (c : Command) → AreKnown known → (s : IsSpoken known c)
    → IsPlain 2048 (spelling known c)
line_plain known c k s =
    let kinds = (form_of s.word).kinds in
    let first = is_first s.word in
    let whole = both 10 (448 * length kinds) (word_text s.word) (words_of_all known kinds s.said)
    first.plain (all_plain known k kinds s.said s.within) in
    subst (IsPlain 2048) (sym (spelt known s.word s.said) ∙ ap (spelling known) s.made)
    (wider (10 + 448 * length kinds) 2048 _ whole (omega (arith, first.kinds)))

line_words : (known : Known) (c : Command) → (s : IsSpoken known c)
    → words_of (spelling known c)
    ≡ word_text s.word ∷ words_of (words_of_all known (form_of s.word).kinds s.said)
line_words known c s =
    let kinds = (form_of s.word).kinds in
    ap (λ (d : Command). words_of (spelling known d)) (sym s.made)
    ∙ ap words_of (spelt known s.word s.said)
    ∙ words_of-append (word_text s.word) (words_of_all known kinds s.said) (is_first s.word).whole
    (begins_all known kinds s.said s.within)

line_is : (known : Known) (before : List Command) (c : Command) → AreKnown known → IsSpoken known c
    → refusal before c ≡ None → IsLineOf known before c
line_is known before c k s free = record {
  plain = line_plain known c k s;
  word = word_text s.word;
  others = words_of (words_of_all known (form_of s.word).kinds s.said);
  words = line_words known c s;
  no_comment = not_passed (spelling known c) (word_text s.word) _ (line_words known c s)
      (is_first s.word).no_comment;
  free = no_word_fault s.word (open_pushes before)
      (free_word s.word s.said before (ap (refusal before) s.made ∙ free));
}

-- it is read as the command
line_read : (known : Known) (before : List Command) (c : Command) (line : List ℕ)
    → (line ≡ spelling known c) → IsLineOf known before c → command_of known line ≡ Ok c
    → refusal before c ≡ None
    → read_line known before (record { bytes = line; ended = true }) ≡ Ok (before ++ c ∷ [])
unfolding read_line
line_read known before c line is l read free =
    let plain = subst (IsPlain 2048) (sym is) l.plain in
    let short : nat_lt 2048 (length line) ≡ false = grind (arith, nat_tests, plain.short) in
    let spoken = subst (λ (t : List ℕ). is_passed_over t ≡ false) (sym is) l.no_comment in
    rw (
      short,
      plain_text line plain.printable,
      plain.printable,
      spoken,
      ap words_of is ∙ l.words,
      l.free,
      command_is known line c read,
      free,
    ) refl

-- ---- one line behind the other

none_read : (known : Known) (number : ℕ) (before : List Command)
    → read_lines known number before (lines_of []) ≡ Ok (before ++ [])
unfolding read_lines
none_read known number before = rw (lines_of-none [] refl, append-nil before) refl

text_first : (known : Known) (c : Command) (cs : List Command)
    → picture_text known (c ∷ cs) ≡ spelling known c ++ 10 ∷ picture_text known cs
unfolding picture_text
text_first known c cs = append_assoc (spelling known c) (10 ∷ []) (picture_text known cs)

no_text : (known : Known) → picture_text known [] ≡ []
unfolding picture_text
no_text known = refl

all_read : (known : Known) (number : ℕ) (before after : List Command) → AreKnown known
    → IsRecorded (before ++ after) → All (IsSpoken known) after
    → read_lines known number before (lines_of (picture_text known after)) ≡ Ok (before ++ after)
all_read known number before [] k recorded spoken =
    ap (λ (text : List ℕ). read_lines known number before (lines_of text)) (no_text known)
    ∙ none_read known number before
all_read known number before (c ∷ cs) k recorded spoken =
    let s : IsSpoken known c = spoken 0 c (omega arith) in
    let free = recorded before cs c refl in
    let line = line_is known before c k s free in
    let rest = picture_text known cs in
    let taken = line_read known before c (spelling known c) refl line
    (command_of-spelling known c k s) free in
    let cut = append_assoc before (c ∷ []) cs in
    ap (λ (text : List ℕ). read_lines known number before (lines_of text)) (text_first known c cs)
    ∙ ap (read_lines known number before)
    (lines_of-ended (spelling known c) rest (plain_is_line (spelling known c) line.plain.printable))
    ∙ goes_on known number before (before ++ c ∷ []) _ (lines_of rest) taken
    ∙ all_read known (number + 1) (before ++ c ∷ []) cs k (subst IsRecorded (sym cut) recorded)
    (λ i d lt. spoken (suc i) d (omega arith))
    ∙ ap Ok cut

pub text_back : (known : Known) (picture : List Command) → AreKnown known → IsRecorded picture
    → All (IsSpoken known) picture → length (picture_text known picture) ≤ 1048576
    → picture_of known (picture_text known picture) ≡ Ok picture
unfolding picture_of
text_back known picture k recorded spoken few =
    let short : nat_lt 1048576 (length (picture_text known picture)) ≡ false =
    grind (arith, nat_tests) in
    rw short (all_read known 1 [] picture k recorded spoken)
