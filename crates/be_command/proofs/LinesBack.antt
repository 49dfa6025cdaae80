-- The line of each command is read as that command.
use Rattle.std.proofs.Common.{◌≡◌, ℕ, true, refl, List, ◌++◌, Option, Some, Result, Ok, ap, ◌∙◌}
use Rattle.std.specs.Option.{option_and_then}
use Rattle.be_lex.specs.Words.{is_word}
use Rattle.be_lex.proofs.Spelling.{words_of-append, behind_word-append}
use Rattle.be_command.specs.declared.fault.Fault.{Fault}
use Rattle.be_command.specs.declared.first_word.FirstWord.{FirstWord}
use Rattle.be_command.specs.declared.first_word.FirstWord.TheVariants as first
use Rattle.be_command.specs.Names.{Known}
use Rattle.be_command.specs.Faults.{both, said_as}
use Rattle.be_command.specs.Places.{first_word, word_at, behind, after_word, ended, ended_by}
use Rattle.be_command.specs.Kinds.{SaidAll, after_all}
use Rattle.be_command.specs.Forms.{form_of, first_word_of}
use Rattle.be_command.specs.Reading.{read_after, line_start, command_of}
use Rattle.be_command.specs.Laws.{AreKnown, AreWithin}
use Rattle.be_command.proofs.ClipBack.{no_word}
use Rattle.be_command.proofs.FirstWords.{word_text, first_word_back}
use Rattle.be_command.proofs.KindsBack.{words_of_all, IsRow, begins_all, all_back}

is_word-first : (word : FirstWord) → is_word (word_text word) ≡ true
unfolding is_word
is_word-first first.Fill = refl
is_word-first first.Frame = refl
is_word-first first.Line = refl
is_word-first first.Text = refl
is_word-first first.Bitmap = refl
is_word-first first.High = refl
is_word-first first.Low = refl
is_word-first first.ViewColor = refl
is_word-first first.Mode = refl
is_word-first first.PenSize = refl
is_word-first first.Pen = refl
is_word-first first.Origin = refl
is_word-first first.Clip = refl
is_word-first first.Push = refl
is_word-first first.Pop = refl
is_word-first first.CopyBits = refl
is_word-first first.Invalidate = refl
is_word-first first.Show = refl
is_word-first first.Hide = refl
is_word-first first.MoveTo = refl
is_word-first first.MoveBy = refl
is_word-first first.ResizeTo = refl
is_word-first first.Activate = refl
is_word-first first.Behind = refl
is_word-first first.Focus = refl
is_word-first first.Close = refl

is_row : (word : FirstWord) → IsRow (form_of word).kinds
unfolding form_of
is_row first.Fill = (tt, (tt, (tt, tt)))
is_row first.Frame = (tt, (tt, (tt, tt)))
is_row first.Line = (tt, (tt, (tt, (tt, tt))))
is_row first.Text = (tt, (refl, tt))
is_row first.Bitmap = (tt, (tt, (tt, tt)))
is_row first.High = (tt, (tt, tt))
is_row first.Low = (tt, (tt, tt))
is_row first.ViewColor = (tt, (tt, tt))
is_row first.Mode = (tt, (tt, tt))
is_row first.PenSize = (tt, (tt, tt))
is_row first.Pen = (tt, (tt, tt))
is_row first.Origin = (tt, (tt, tt))
is_row first.Clip = (tt, (refl, tt))
is_row first.Push = (tt, tt)
is_row first.Pop = (tt, tt)
is_row first.CopyBits = (tt, (tt, (tt, tt)))
is_row first.Invalidate = (tt, (tt, tt))
is_row first.Show = tt
is_row first.Hide = tt
is_row first.MoveTo = (tt, tt)
is_row first.MoveBy = (tt, tt)
is_row first.ResizeTo = (tt, tt)
is_row first.Activate = tt
is_row first.Behind = (tt, tt)
is_row first.Focus = (tt, tt)
is_row first.Close = tt

-- a first word and what its form says behind it
pub line_back : (known : Known) → AreKnown known → (word : FirstWord) (x : SaidAll (form_of word).kinds) → AreWithin known (form_of word).kinds x →
    command_of known (word_text word ++ words_of_all known (form_of word).kinds x) ≡ Ok ((form_of word).makes x)
unfolding command_of
line_back known k word x fits =
    let kinds = (form_of word).kinds in
    let rest = words_of_all known kinds x in
    let line = word_text word ++ rest in
    let ends = begins_all known kinds x fits in
    let start = line_start line in
    let front : word_at start ≡ Some (word_text word) = ap first_word (words_of-append (word_text word) rest (is_word-first word) ends) in
    let known_word : option_and_then first_word_of (word_at start) ≡ Some word = ap (λ (o : Option (List ℕ)). option_and_then first_word_of o) front ∙ first_word_back word in
    let text : (after_word start).text ≡ rest = ap (λ (o : Option (List ℕ)). (behind start o).text) front ∙ behind_word-append (word_text word) rest (is_word-first word) ends in
    let read = all_back known k kinds x (after_word start) (is_row word) fits text in
    let done : ended (after_all kinds (after_word start)) ≡ Ok tt = ap (λ (o : Option (List ℕ)). ended_by (after_all kinds (after_word start)).place o) (no_word (after_all kinds (after_word start)) read.text_is) in
    ap (λ (o : Option FirstWord). read_after known o (after_word start)) known_word
    ∙ ap (λ (r : Result (SaidAll kinds) Fault). said_as (λ x. (form_of word).makes x.0) (both r (ended (after_all kinds (after_word start))))) read.said_is
    ∙ ap (λ (r : Result (Unit {0}) Fault). said_as (λ x. (form_of word).makes x.0) (both (Ok x) r)) done
