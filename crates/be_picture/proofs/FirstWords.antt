-- The first words of commands, and what may stand behind the commands before them.
use Rattle.std.proofs.Common.{◌≡◌, ℕ, ◌≤◌, ◌==◌, Bool, true, false, cond, eqb, List}
use Rattle.std.proofs.Common.{length, get_or, Option, Some, None, refl, sym, ap, ◌∙◌, arith}
use Rattle.std.specs.Prelude.{is_none}
use Rattle.std.specs.Option.{option_map, option_or}
use Rattle.std.specs.Map.{lookup}
use Rattle.std.specs.Str.{bytes_eq}
use Rattle.std.proofs.lemmas.Option.{none-some, same_Some}
use Rattle.be_command.specs.declared.Command.{Command}
use Rattle.be_command.specs.declared.Command.TheVariants as command
use Rattle.be_command.specs.declared.first_word.FirstWord.{FirstWord}
use Rattle.be_command.specs.declared.first_word.FirstWord.TheVariants as first
use Rattle.be_command.specs.Forms.{form_of}
use Rattle.be_command.specs.Kinds.{SaidAll}
use Rattle.be_command.proofs.FirstWords.{first_word_back, word_text}
use Rattle.be_lex.specs.Words.{is_word}
use Rattle.be_line.specs.FirstWords.{declaration_words, instruction_words, is_of_drawing, statement_of}
use Rattle.be_line.specs.declared.statement.Statement.{Statement}
use Rattle.be_line.specs.declared.statement.Statement.TheVariants as statement
use Rattle.be_picture.specs.declared.sorts.Sort.{Sort}
use Rattle.be_picture.specs.declared.sorts.Sort.TheVariants.{Opens, Closes}
use Rattle.be_picture.specs.Recording.{not_drawing, open_pushes, refusal}
use Rattle.be_picture.specs.Sorts.{sort_of}
use Rattle.be_picture.specs.Text.{is_unbalanced, word_fault}
use Rattle.be_picture.proofs.Plain.{IsPlain}
use Rattle.be_picture.proofs.Recorded.{has_sort, not_drawn, not_full, not_none}

-- ---- each word by itself

-- a short word that begins no comment, with at most four kinds behind it
pub record IsFirst (word : FirstWord) : Type 0 where
  pub plain : IsPlain 10 (word_text word)
  pub kinds : length (form_of word).kinds ≤ 4
  pub whole : is_word (word_text word) ≡ true
  pub no_comment : eqb (get_or (word_text word) 0 0) 35 ≡ false

pub is_first : (word : FirstWord) → IsFirst word
unfolding form_of is_word
is_first first.Fill = record {
  plain = record { printable = refl; short = omega arith };
  kinds = omega arith;
  whole = refl;
  no_comment = refl;
}
is_first first.Frame = record {
  plain = record { printable = refl; short = omega arith };
  kinds = omega arith;
  whole = refl;
  no_comment = refl;
}
is_first first.Line = record {
  plain = record { printable = refl; short = omega arith };
  kinds = omega arith;
  whole = refl;
  no_comment = refl;
}
is_first first.Text = record {
  plain = record { printable = refl; short = omega arith };
  kinds = omega arith;
  whole = refl;
  no_comment = refl;
}
is_first first.Bitmap = record {
  plain = record { printable = refl; short = omega arith };
  kinds = omega arith;
  whole = refl;
  no_comment = refl;
}
is_first first.High = record {
  plain = record { printable = refl; short = omega arith };
  kinds = omega arith;
  whole = refl;
  no_comment = refl;
}
is_first first.Low = record {
  plain = record { printable = refl; short = omega arith };
  kinds = omega arith;
  whole = refl;
  no_comment = refl;
}
is_first first.ViewColor = record {
  plain = record { printable = refl; short = omega arith };
  kinds = omega arith;
  whole = refl;
  no_comment = refl;
}
is_first first.Mode = record {
  plain = record { printable = refl; short = omega arith };
  kinds = omega arith;
  whole = refl;
  no_comment = refl;
}
is_first first.PenSize = record {
  plain = record { printable = refl; short = omega arith };
  kinds = omega arith;
  whole = refl;
  no_comment = refl;
}
is_first first.Pen = record {
  plain = record { printable = refl; short = omega arith };
  kinds = omega arith;
  whole = refl;
  no_comment = refl;
}
is_first first.Origin = record {
  plain = record { printable = refl; short = omega arith };
  kinds = omega arith;
  whole = refl;
  no_comment = refl;
}
is_first first.Clip = record {
  plain = record { printable = refl; short = omega arith };
  kinds = omega arith;
  whole = refl;
  no_comment = refl;
}
is_first first.Push = record {
  plain = record { printable = refl; short = omega arith };
  kinds = omega arith;
  whole = refl;
  no_comment = refl;
}
is_first first.Pop = record {
  plain = record { printable = refl; short = omega arith };
  kinds = omega arith;
  whole = refl;
  no_comment = refl;
}
is_first first.CopyBits = record {
  plain = record { printable = refl; short = omega arith };
  kinds = omega arith;
  whole = refl;
  no_comment = refl;
}
is_first first.Invalidate = record {
  plain = record { printable = refl; short = omega arith };
  kinds = omega arith;
  whole = refl;
  no_comment = refl;
}
is_first first.Show = record {
  plain = record { printable = refl; short = omega arith };
  kinds = omega arith;
  whole = refl;
  no_comment = refl;
}
is_first first.Hide = record {
  plain = record { printable = refl; short = omega arith };
  kinds = omega arith;
  whole = refl;
  no_comment = refl;
}
is_first first.MoveTo = record {
  plain = record { printable = refl; short = omega arith };
  kinds = omega arith;
  whole = refl;
  no_comment = refl;
}
is_first first.MoveBy = record {
  plain = record { printable = refl; short = omega arith };
  kinds = omega arith;
  whole = refl;
  no_comment = refl;
}
is_first first.ResizeTo = record {
  plain = record { printable = refl; short = omega arith };
  kinds = omega arith;
  whole = refl;
  no_comment = refl;
}
is_first first.Activate = record {
  plain = record { printable = refl; short = omega arith };
  kinds = omega arith;
  whole = refl;
  no_comment = refl;
}
is_first first.Behind = record {
  plain = record { printable = refl; short = omega arith };
  kinds = omega arith;
  whole = refl;
  no_comment = refl;
}
is_first first.Focus = record {
  plain = record { printable = refl; short = omega arith };
  kinds = omega arith;
  whole = refl;
  no_comment = refl;
}
is_first first.Close = record {
  plain = record { printable = refl; short = omega arith };
  kinds = omega arith;
  whole = refl;
  no_comment = refl;
}

-- ---- it begins a line of a script

or_some : (o : Option Statement) (s : Statement) → is_none (option_or o (Some s)) ≡ false
or_some None s = refl
or_some (Some t) s = refl

or_either : (o p : Option Statement) → is_none p ≡ false → is_none (option_or o p) ≡ false
or_either None p h = h
or_either (Some t) p h = refl

pub is_statement : (word : FirstWord) → is_none (statement_of (word_text word)) ≡ false
unfolding statement_of
is_statement word =
    or_either (lookup (bytes_eq (word_text word)) declaration_words) _
    (ap (λ o. is_none (option_or (lookup (bytes_eq (word_text word)) instruction_words)
    (option_map statement.Command o))) (first_word_back word)
    ∙ or_some (lookup (bytes_eq (word_text word)) instruction_words) (statement.Command word))

-- ---- a command that isn't refused may stand there

-- what is told of its first word
pub record IsFree (word : FirstWord) (pushes : ℕ) : Type 0 where
  pub drawing : is_of_drawing word ≡ true
  pub balanced : is_unbalanced pushes (word_text word) ≡ false

undrawn : (word : FirstWord) (cs : List Command) (c : Command) → sort_of c ≡ None
    → refusal cs c ≡ None → IsFree word (open_pushes cs)
undrawn word cs c sort free = absurd (none-some not_drawing (sym free ∙ not_drawn cs c sort))

sort_is : (b : Bool) (s t : Sort) → cond b (Some s) None ≡ Some t → s ≡ t
sort_is true s t h = same_Some s t h
sort_is false s t h = absurd (none-some t h)

sort_of_free : (cs : List Command) (c : Command) (v : ℕ) (s : Sort)
    → sort_of c ≡ cond (v == 0) (Some s) None → refusal cs c ≡ None → sort_of c ≡ Some s
sort_of_free cs c v s is free =
    let found = has_sort cs c free in
    found.1 ∙ ap Some (sym (sort_is (v == 0) s found.0 (sym is ∙ found.1)))

pub free_word : (word : FirstWord) (x : SaidAll (form_of word).kinds) (cs : List Command)
    → refusal cs ((form_of word).makes x) ≡ None → IsFree word (open_pushes cs)
unfolding form_of
free_word first.Fill x cs free = record { drawing = refl; balanced = refl }
free_word first.Frame x cs free = record { drawing = refl; balanced = refl }
free_word first.Line x cs free = record { drawing = refl; balanced = refl }
free_word first.Text x cs free = record { drawing = refl; balanced = refl }
free_word first.Bitmap x cs free = record { drawing = refl; balanced = refl }
free_word first.High x cs free = record { drawing = refl; balanced = refl }
free_word first.Low x cs free = record { drawing = refl; balanced = refl }
free_word first.ViewColor x cs free = record { drawing = refl; balanced = refl }
free_word first.Mode x cs free = record { drawing = refl; balanced = refl }
free_word first.PenSize x cs free = record { drawing = refl; balanced = refl }
free_word first.Pen x cs free = record { drawing = refl; balanced = refl }
free_word first.Origin x cs free = record { drawing = refl; balanced = refl }
free_word first.Clip x cs free = record { drawing = refl; balanced = refl }
free_word first.Push x cs free = record {
  drawing = refl;
  balanced = not_full cs (command.Push x.0)
      (sort_of_free cs (command.Push x.0) x.0 Opens refl free) free;
}
free_word first.Pop x cs free = record {
  drawing = refl;
  balanced = not_none cs (command.Pop x.0)
      (sort_of_free cs (command.Pop x.0) x.0 Closes refl free) free;
}
free_word first.CopyBits x cs free = undrawn first.CopyBits cs _ refl free
free_word first.Invalidate x cs free = undrawn first.Invalidate cs _ refl free
free_word first.Show x cs free = undrawn first.Show cs _ refl free
free_word first.Hide x cs free = undrawn first.Hide cs _ refl free
free_word first.MoveTo x cs free = undrawn first.MoveTo cs _ refl free
free_word first.MoveBy x cs free = undrawn first.MoveBy cs _ refl free
free_word first.ResizeTo x cs free = undrawn first.ResizeTo cs _ refl free
free_word first.Activate x cs free = undrawn first.Activate cs _ refl free
free_word first.Behind x cs free = undrawn first.Behind cs _ refl free
free_word first.Focus x cs free = undrawn first.Focus cs _ refl free
free_word first.Close x cs free = undrawn first.Close cs _ refl free

-- ---- so that nothing is wrong with the line by its first word

pub no_word_fault : (word : FirstWord) (pushes : ℕ) → IsFree word pushes
    → word_fault pushes (word_text word) ≡ None
no_word_fault word pushes free =
    rw (is_statement word, first_word_back word, free.drawing, free.balanced) refl
