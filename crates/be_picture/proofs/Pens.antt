-- A picture that was read sets no pen that can't be drawn with.
use Rattle.std.proofs.Common.{◌≡◌, ℕ, suc, ◌+◌, ◌<◌, Bool, true, false, List, [], ◌∷◌, ◌++◌, length}
use Rattle.std.proofs.Common.{Option, Some, None, Result, Ok, Err, zero, get_or, refl, sym}
use Rattle.std.proofs.Common.{◌⊎◌, inl, inr, ⊎_elim, subst, arith, not}
use Rattle.std.specs.Prelude.{All, nat_lt, if◌then◌else◌}
use Rattle.std.proofs.lemmas.List.Elements.{All-append, All-nil, All-weaker}
use Rattle.be_command.specs.declared.Command.{Command}
use Rattle.be_command.specs.declared.fault.Reason.{Reason}
use Rattle.be_command.specs.declared.fault.Reason.TheVariants.{BadByte, LongLine}
use Rattle.be_command.specs.declared.first_word.FirstWord.{FirstWord}
use Rattle.be_command.specs.declared.first_word.FirstWord.TheVariants as first
use Rattle.be_command.specs.Effects.{effect_of}
use Rattle.be_command.specs.Forms.{form_of}
use Rattle.be_command.specs.Kinds.{SaidAll}
use Rattle.be_command.specs.Laws.{AreWithin, IsSpoken}
use Rattle.be_command.specs.Names.{Known}
use Rattle.be_command.specs.Reading.{command_of, command_or_reason}
use Rattle.be_command.proofs.LawLemmas.{spoken-command_of}
use Rattle.be_lex.specs.Lines.{Line, is_printable, lines_of, text_of}
use Rattle.be_lex.specs.Words.{is_passed_over, words_of}
use Rattle.be_twin.specs.Judged.{HasPen}
use Rattle.be_picture.specs.Recording.{Refusal, open_pushes, refusal}
use Rattle.be_picture.specs.Text.{and_then, read_line, read_lines, read_text}
use Rattle.be_picture.specs.Text.{read_words, unless_misplaced, unless_refused, with_command}
use Rattle.be_picture.specs.Text.{word_fault}

same_ok : {E : Type 0} (xs ys : List Command) → ◌≡◌ {A = Result (List Command) E} (Ok xs) (Ok ys)
    → xs ≡ ys
same_ok xs ys h = cc

word_has_pen : (known : Known) (word : FirstWord) (x : SaidAll (form_of word).kinds)
    → AreWithin known (form_of word).kinds x → HasPen (effect_of ((form_of word).makes x))
unfolding form_of
word_has_pen known first.Fill x within = tt
word_has_pen known first.Frame x within = tt
word_has_pen known first.Line x within = tt
word_has_pen known first.Text x within = tt
word_has_pen known first.Bitmap x within = tt
word_has_pen known first.High x within = tt
word_has_pen known first.Low x within = tt
word_has_pen known first.ViewColor x within = tt
word_has_pen known first.Mode x within = tt
word_has_pen known first.PenSize x within = within.1.0
word_has_pen known first.Pen x within = tt
word_has_pen known first.Origin x within = tt
word_has_pen known first.Clip x within = tt
word_has_pen known first.Push x within = tt
word_has_pen known first.Pop x within = tt
word_has_pen known first.CopyBits x within = tt
word_has_pen known first.Invalidate x within = tt
word_has_pen known first.Show x within = tt
word_has_pen known first.Hide x within = tt
word_has_pen known first.MoveTo x within = tt
word_has_pen known first.MoveBy x within = tt
word_has_pen known first.ResizeTo x within = tt
word_has_pen known first.Activate x within = tt
word_has_pen known first.Behind x within = tt
word_has_pen known first.Focus x within = tt
word_has_pen known first.Close x within = tt

pub spoken_has_pen : (known : Known) (c : Command) → IsSpoken known c → HasPen (effect_of c)
spoken_has_pen known c s =
    subst (λ (d : Command). HasPen (effect_of d)) s.made (word_has_pen known s.word s.said s.within)

-- ---- what a line adds

abbrev Adds : Known → List Command → List Command → Type 0
Adds known before next =
    (next ≡ before)
    ⊎ ((c : Command) × (text : List ℕ) × (command_of known text ≡ Ok c) × (next ≡ before ++ c ∷ []))

by_fault : (known : Known) (text : List ℕ) (c : Command) (r : Result Command _)
    → command_of known text ≡ r → command_or_reason known text ≡ Ok c → r ≡ Ok c
unfolding command_or_reason
by_fault known text c (Ok d) is h = let g = rw is at h in (cc)
by_fault known text c (Err fault) is h = let g = rw is at h in absurd ((cc))

by_refusal : (known : Known) (before next : List Command) (text : List ℕ) (c : Command)
    (r : Option Refusal) → command_or_reason known text ≡ Ok c
    → unless_refused before c r ≡ Ok next → Adds known before next
by_refusal known before next text c None read h =
    inr (c, text, by_fault known text c (command_of known text) refl read, sym (same_ok _ _ h))
by_refusal known before next text c (Some why) read h = absurd ((cc))

by_command : (known : Known) (before next : List Command) (text : List ℕ) (r : Result Command Reason)
    → command_or_reason known text ≡ r → with_command before r ≡ Ok next → Adds known before next
by_command known before next text (Ok c) read h =
    by_refusal known before next text c (refusal before c) read h
by_command known before next text (Err reason) read h = absurd ((cc))

by_word : (known : Known) (before next : List Command) (text : List ℕ) (o : Option Reason)
    → unless_misplaced known before text o ≡ Ok next → Adds known before next
by_word known before next text None h =
    by_command known before next text (command_or_reason known text) refl h
by_word known before next text (Some reason) h = absurd ((cc))

by_words : (known : Known) (before next : List Command) (text : List ℕ) (words : List (List ℕ))
    → read_words known before text words ≡ Ok next → Adds known before next
by_words known before next text [] h = inl (sym (same_ok _ _ h))
by_words known before next text (word ∷ words) h =
    by_word known before next text (word_fault (open_pushes before) word) h

by_comment : (b : Bool) (known : Known) (before next : List Command) (text : List ℕ)
    → (if b then Ok before else read_words known before text (words_of text)) ≡ Ok next
    → Adds known before next
by_comment true known before next text h = inl (sym (same_ok _ _ h))
by_comment false known before next text h = by_words known before next text (words_of text) h

by_bytes : (b : Bool) (known : Known) (before next : List Command) (text : List ℕ)
    → (if b then Err BadByte
    else if is_passed_over text then Ok before
    else read_words known before text (words_of text)) ≡ Ok next
    → Adds known before next
by_bytes true known before next text h = absurd ((cc))
by_bytes false known before next text h = by_comment (is_passed_over text) known before next text h

by_length : (b : Bool) (known : Known) (before next : List Command) (text : List ℕ)
    → (if b then Err LongLine else read_text known before text) ≡ Ok next → Adds known before next
by_length true known before next text h = absurd ((cc))
by_length false known before next text h = by_bytes (not (is_printable text)) known before next text h

line_adds : (known : Known) (before next : List Command) (line : Line)
    → read_line known before line ≡ Ok next → Adds known before next
unfolding read_line
line_adds known before next line h =
    by_length (nat_lt 2048 (length line.bytes)) known before next (text_of line) h

-- ---- so that each command that was read is one that a line can be

one_at : {X : Type 0} (P : X → Type 0) (x : X) → P x → (k : ℕ) (d : X) → k < 1
    → P (get_or (x ∷ []) k d)
one_at P x p zero d lt = p
one_at P x p (suc k) d lt = absurd (omega arith)

spoken_line : (known : Known) (before next : List Command) → Adds known before next
    → All (IsSpoken known) before → All (IsSpoken known) next
spoken_line known before next adds spoken =
    ⊎_elim (λ same. subst (All (IsSpoken known)) (sym same) spoken)
    (λ more. subst (All (IsSpoken known)) (sym more.3)
    (All-append (IsSpoken known) before (more.0 ∷ []) spoken
    (one_at (IsSpoken known) more.0 (spoken-command_of known more.1 more.0 more.2)))) adds

spoken_next : (known : Known) (number : ℕ) (before picture : List Command) (line : Line)
    (lines : List Line) (r : Result (List Command) Reason) → read_line known before line ≡ r
    → and_then number r (λ next. read_lines known (number + 1) next lines) ≡ Ok picture
    → ((next : List Command) → read_line known before line ≡ Ok next
    → read_lines known (number + 1) next lines ≡ Ok picture → All (IsSpoken known) picture)
    → All (IsSpoken known) picture
spoken_next known number before picture line lines (Ok next) is h more = more next is h
spoken_next known number before picture line lines (Err reason) is h more = absurd ((cc))

spoken_lines : (known : Known) (number : ℕ) (before picture : List Command) (lines : List Line)
    → All (IsSpoken known) before → read_lines known number before lines ≡ Ok picture
    → All (IsSpoken known) picture
unfolding read_lines
spoken_lines known number before picture [] spoken h =
    subst (All (IsSpoken known)) (same_ok _ _ h) spoken
spoken_lines known number before picture (line ∷ lines) spoken h =
    spoken_next known number before picture line lines (read_line known before line) refl h
    (λ next read rest. spoken_lines known (number + 1) next picture lines
    (spoken_line known before next (line_adds known before next line read) spoken) rest)

pub lines_have_pens : (known : Known) (bytes : List ℕ) (picture : List Command)
    → read_lines known 1 [] (lines_of bytes) ≡ Ok picture → All (λ c. HasPen (effect_of c)) picture
lines_have_pens known bytes picture h =
    All-weaker (IsSpoken known) (λ c. HasPen (effect_of c)) (spoken_has_pen known) picture
    (spoken_lines known 1 [] picture (lines_of bytes) (All-nil (IsSpoken known)) h)
