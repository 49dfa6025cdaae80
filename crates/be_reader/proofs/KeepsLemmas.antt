-- What is said keeps its limits from line to line, and at the end all of a script does.
use Rattle.std.proofs.Common.{◌≡◌, ℕ, ◌+◌, ◌≤◌, Bool, true, false, codes, cond, List, [], ◌∷◌, length, Option, Some, None, option_map, Result, Ok, Err, refl, ap, sym, ◌∙◌, subst, arith}
use Rattle.std.specs.Prelude.{nat_lt}
use Rattle.std.specs.List.{list_all}
use Rattle.std.specs.Map.{lookup}
use Rattle.std.specs.Option.{option_and_then, option_or}
use Rattle.std.specs.Str.{bytes_eq}
use Rattle.std.proofs.lemmas.Bool.{ltb-false}
use Rattle.std.proofs.lemmas.Slice.Eq.{bytes_eq-Decides}
use Rattle.be_facts.proofs.Lists.{all_below}
use Rattle.be_facts.proofs.Truths.{and_second}
use Rattle.be_command.specs.declared.fault.Reason.{Reason}
use Rattle.be_command.specs.declared.fault.Reason.TheVariants.{TooLong, TooMuchWork, Unfinished}
use Rattle.be_command.specs.declared.first_word.FirstWord.{FirstWord}
use Rattle.be_command.specs.declared.first_word.FirstWord.TheVariants as first
use Rattle.be_command.specs.Forms.{first_word_of}
use Rattle.be_command.specs.Places.{word_at}
use Rattle.be_command.specs.Reading.{line_start}
use Rattle.be_lex.specs.Lines.{Line, is_printable, lines_of, text_of}
use Rattle.be_lex.specs.Words.{is_passed_over, words_of}
use Rattle.be_line.specs.declared.site.Site.{Site}
use Rattle.be_line.specs.declared.site.Site.TheVariants as site
use Rattle.be_line.specs.declared.statement.Statement.{Statement}
use Rattle.be_line.specs.declared.statement.Statement.TheVariants as statement
use Rattle.be_line.specs.FirstWords.{as_command, declaration_words, in_body, instruction_words, meant, misplaced, seat_of, statement_of}
use Rattle.be_said.proofs.DeclaredNames.{no-names}
use Rattle.be_said.proofs.DoneLemmas.{keeps_done}
use Rattle.be_reader.proofs.FitsLemmas.{line_fits}
use Rattle.be_reader.proofs.FormedLemmas.{BeginsWith, line_formed}
use Rattle.be_reader.proofs.WordFits.{is_shown_word, words-shown}
use Rattle.be_reader.specs.Forms.{form_of}
use Rattle.be_said.specs.SoFar.{is_closed, SoFar, declared_in, nothing_said, site_of}
use Rattle.be_reader.specs.Grammar.{fault, finished, read_line, read_lines, script_of}
use Rattle.be_reader.specs.LineDeeds.{deed_said}
use Rattle.be_said.specs.Keeps.{AreKept, IsScreen, Keeps, declared_so_far, size_of}
use Rattle.be_reader.specs.Kinds.{At, SaidAll, said_all}
use Rattle.be_script.specs.Limits.{IsWithinLimits, is_window_declared}
use Rattle.be_script.specs.Routable.{IsRoutable}
use Rattle.be_script.specs.Work.{work_of}
use Rattle.be_script.proofs.RoutableLemmas.{routable-from}

-- ---- before the first line

pub opening : Keeps nothing_said
opening = record {
  screen = tt;
  declared = record {
    few_windows = omega arith;
    few_apps = omega arith;
    few_pictures = omega arith;
    few_input = omega arith;
    pictures = refl;
    windows = refl;
    names = no-names;
    views = refl;
    handlers = refl;
    filters = refl;
    bodies = refl;
    draws = refl;
    each_window = λ w there. absurd (omega arith);
    apps = refl;
    app_names = no-names;
    input = refl;
  };
  begun = tt;
}

-- ---- all of a script

with_size : (said : SoFar) (size : ℕ × ℕ) → said.screen ≡ Some size → declared_so_far said ≡ declared_in said size
with_size said size e = ap (λ o. declared_in said (size_of o)) e

pub limits : (said : SoFar) (size : ℕ × ℕ) → Keeps said → said.screen ≡ Some size → is_closed said.begun ≡ true → work_of (declared_in said size) ≤ 262144 → IsWithinLimits (declared_in said size)
limits said size k e closed work =
    let screen = subst IsScreen e k.screen in
    let d : AreKept (declared_in said size) = subst AreKept (with_size said size e) k.declared in
    record {
      counts = record {
        width = screen.0;
        height = screen.1;
        windows = d.few_windows;
        apps = d.few_apps;
        pictures = d.few_pictures;
        input = d.few_input;
        work = work;
      };
      pictures = d.pictures;
      windows = d.windows;
      names = d.names;
      views = d.views;
      handlers = d.handlers;
      filters = d.filters;
      bodies = d.bodies;
      draws = d.draws;
      declared = all_below (is_window_declared (declared_in said size)) (length said.windows) d.each_window;
      apps = d.apps;
      app_names = d.app_names;
      input = d.input;
    }

pub routable : (said : SoFar) (size : ℕ × ℕ) → Keeps said → said.screen ≡ Some size → is_closed said.begun ≡ true → IsRoutable (declared_in said size)
routable said size k e closed =
    let d : AreKept (declared_in said size) = subst AreKept (with_size said size e) k.declared in
    routable-from (declared_in said size) d.few_windows d.views d.handlers d.filters d.bodies d.draws
    (all_below (is_window_declared (declared_in said size)) (length said.windows) d.each_window)

-- ---- the command that a line begins with

-- a statement, and what it is in a body, are of the word that a line begins with
abbrev Begins : List ℕ → Statement → Type 0
Begins word st = (text : List ℕ) (words : List (List ℕ)) → words_of text ≡ word ∷ words → BeginsWith text st × BeginsWith text (as_command st)

abbrev AllBegin : List (List ℕ × Statement) → Type 0
AllBegin [] = Unit {0}
AllBegin (e ∷ es) = Begins e.0 e.1 × AllBegin es

-- a line of words begins with the first of them
first_of_words : (text word : List ℕ) (words : List (List ℕ)) → words_of text ≡ word ∷ words → option_and_then first_word_of (word_at (line_start text)) ≡ first_word_of word
first_of_words text word words e = rw e refl

found_at : (word k : List ℕ) (s st : Statement) (rest : Option Statement) (b : Bool) → bytes_eq word k ≡ b → Begins k s → (rest ≡ Some st → Begins word st) →
    cond b (Some s) rest ≡ Some st → Begins word st
found_at word k s st rest true is here more e =
    let same : s ≡ st = (cc) in
    let name : k ≡ word = sym ((bytes_eq-Decides word k).0 is) in
    subst (λ (x : List ℕ). Begins x st) name (subst (λ (x : Statement). Begins k x) same here)
found_at word k s st rest false is here more e = more e

found_in : (word : List ℕ) (table : List (List ℕ × Statement)) (st : Statement) → AllBegin table → lookup (bytes_eq word) table ≡ Some st → Begins word st
found_in word [] st all e = absurd ((cc))
found_in word (x ∷ xs) st all e = found_at word x.0 x.1 st (lookup (bytes_eq word) xs) (bytes_eq word x.0) refl all.0 (found_in word xs st all.1) e

nothing_of : Unit {0} × Unit {0}
nothing_of = (tt, tt)

a_bitmap : first_word_of (codes "bitmap") ≡ Some first.Bitmap
unfolding first_word_of
a_bitmap = refl

declarations : AllBegin declaration_words
declarations = (
  λ text words e. nothing_of,
  (
    λ text words e. (tt, first_of_words text (codes "bitmap") words e ∙ a_bitmap),
    (
      λ text words e. nothing_of,
      (
        λ text words e. nothing_of,
        (
          λ text words e. nothing_of,
          (
            λ text words e. nothing_of,
            (
              λ text words e. nothing_of,
              (
                λ text words e. nothing_of,
                (
                  λ text words e. nothing_of,
                  (
                    λ text words e. nothing_of,
                    (λ text words e. nothing_of, (λ text words e. nothing_of, (λ text words e. nothing_of, (λ text words e. nothing_of, (λ text words e. nothing_of, tt))))),
                  ),
                ),
              ),
            ),
          ),
        ),
      ),
    ),
  ),
)

instructions : AllBegin instruction_words
instructions = (
  λ text words e. nothing_of,
  (
    λ text words e. nothing_of,
    (
      λ text words e. nothing_of,
      (
        λ text words e. nothing_of,
        (
          λ text words e. nothing_of,
          (λ text words e. nothing_of, (λ text words e. nothing_of, (λ text words e. nothing_of, (λ text words e. nothing_of, (λ text words e. nothing_of, tt))))),
        ),
      ),
    ),
  ),
)

commands : (word : List ℕ) (o : Option FirstWord) (st : Statement) → first_word_of word ≡ o → option_map statement.Command o ≡ Some st → Begins word st
commands word None st f e = absurd ((cc))
commands word (Some w) st f e =
    let same : statement.Command w ≡ st = (cc) in
    subst (Begins word) same (λ text words is. let first = first_of_words text word words is ∙ f in (first, first))

either : (word : List ℕ) (a b : Option Statement) (st : Statement) → (a ≡ Some st → Begins word st) → (b ≡ Some st → Begins word st) → option_or a b ≡ Some st → Begins word st
either word None b st one other e = other e
either word (Some x) b st one other e = one e

statement_begins : (word : List ℕ) (st : Statement) → statement_of word ≡ Some st → Begins word st
unfolding statement_of
statement_begins word st e =
    either word (lookup (bytes_eq word) declaration_words) (in_body word) st (found_in word declaration_words st declarations)
    (either word (lookup (bytes_eq word) instruction_words) (option_map statement.Command (first_word_of word)) st (found_in word instruction_words st instructions)
    (commands word (first_word_of word) st refl))
    e

where_meant : (P : Statement → Type 0) (s : Site) (st : Statement) → P st → P (as_command st) → P (meant s st)
where_meant P site.AtStart st p q = p
where_meant P site.Outside st p q = p
where_meant P site.AmongRows st p q = p
where_meant P site.InHandler st p q = q
where_meant P site.InDraw st p q = q
where_meant P site.InProgram st p q = q
where_meant P site.UnderLock st p q = q

-- ---- a line

module _ (before new : SoFar) (line : Line) (k : Keeps before) (e : read_line before line ≡ Ok new) where
  abbrev at_of : List ℕ → List (List ℕ) → At
  at_of word words = record { words = words; window = None; text = text_of line }

  abbrev meant_here : Statement → Statement
  meant_here st = meant (site_of before) st

  line_done : (word : List ℕ) (words : List (List ℕ)) (st : Statement) → nat_lt 2048 (length line.bytes) ≡ false → is_printable (text_of line) ≡ true → is_passed_over (text_of line) ≡ false →
      words_of (text_of line) ≡ word ∷ words → statement_of word ≡ Some st → misplaced (site_of before) (seat_of (meant_here st)) ≡ None →
      (r : Result (SaidAll (form_of (meant_here st)).kinds) Reason) → said_all before (form_of (meant_here st)).kinds (at_of word words) ≡ r → Keeps new
  unfolding read_line deed_said
  line_done word words st long printable some is known there (Ok x) said =
      let done_is = rw (long, printable, some, is, known, there, said) at e in
      let begins = statement_begins word st known (text_of line) words is in
      let shown : list_all is_shown_word words ≡ true =
      and_second (is_shown_word word) (list_all is_shown_word words)
      (subst (λ (ws : List (List ℕ)). list_all is_shown_word ws ≡ true) is (words-shown (text_of line) printable)) in
      keeps_done before new ((form_of (meant_here st)).makes x) k (line_fits before (meant_here st) (at_of word words) x there said)
      (line_formed before (meant_here st) (at_of word words) x there shown (where_meant (BeginsWith (text_of line)) (site_of before) st begins.0 begins.1) said)
      done_is
  line_done word words st long printable some is known there (Err reason) said =
      let failed = rw (long, printable, some, is, known, there, said) at e in
      absurd ((cc))

  line_placed : (word : List ℕ) (words : List (List ℕ)) (st : Statement) → nat_lt 2048 (length line.bytes) ≡ false → is_printable (text_of line) ≡ true → is_passed_over (text_of line) ≡ false →
      words_of (text_of line) ≡ word ∷ words → statement_of word ≡ Some st → (o : Option Reason) → misplaced (site_of before) (seat_of (meant_here st)) ≡ o → Keeps new
  unfolding read_line
  line_placed word words st long printable some is known None there =
      line_done word words st long printable some is known there (said_all before (form_of (meant_here st)).kinds (at_of word words)) refl
  line_placed word words st long printable some is known (Some reason) there =
      let failed = rw (long, printable, some, is, known, there) at e in
      absurd ((cc))

  line_known : (word : List ℕ) (words : List (List ℕ)) (o : Option Statement) → nat_lt 2048 (length line.bytes) ≡ false → is_printable (text_of line) ≡ true → is_passed_over (text_of line) ≡ false →
      words_of (text_of line) ≡ word ∷ words → statement_of word ≡ o → Keeps new
  unfolding read_line
  line_known word words (Some st) long printable some is known =
      line_placed word words st long printable some is known (misplaced (site_of before) (seat_of (meant_here st))) refl
  line_known word words None long printable some is known =
      let failed = rw (long, printable, some, is, known) at e in
      absurd ((cc))

  line_words : (words : List (List ℕ)) → nat_lt 2048 (length line.bytes) ≡ false → is_printable (text_of line) ≡ true → is_passed_over (text_of line) ≡ false → words_of (text_of line) ≡ words → Keeps new
  unfolding read_line
  line_words (word ∷ words) long printable some is = line_known word words (statement_of word) long printable some is refl
  line_words [] long printable some is =
      let kept = rw (long, printable, some, is) at e in
      let same : before ≡ new = (cc) in
      subst Keeps same k

  line_some : (passed : Bool) → nat_lt 2048 (length line.bytes) ≡ false → is_printable (text_of line) ≡ true → is_passed_over (text_of line) ≡ passed → Keeps new
  unfolding read_line
  line_some false long printable some = line_words (words_of (text_of line)) long printable some refl
  line_some true long printable some =
      let kept = rw (long, printable, some) at e in
      let same : before ≡ new = (cc) in
      subst Keeps same k

  line_printable : (printable : Bool) → nat_lt 2048 (length line.bytes) ≡ false → is_printable (text_of line) ≡ printable → Keeps new
  unfolding read_line
  line_printable true long printable = line_some (is_passed_over (text_of line)) long printable refl
  line_printable false long printable =
      let failed = rw (long, printable) at e in
      absurd ((cc))

  line_long : (long : Bool) → nat_lt 2048 (length line.bytes) ≡ long → Keeps new
  unfolding read_line
  line_long false long = line_printable (is_printable (text_of line)) long refl
  line_long true long =
      let failed = rw long at e in
      absurd ((cc))

pub step : (before new : SoFar) (line : Line) → Keeps before → read_line before line ≡ Ok new → Keeps new
step before new line k e = line_long before new line k e (nat_lt 2048 (length line.bytes)) refl

-- ---- all lines

within_work : (over : Bool) (line : ℕ) (said out : SoFar) (size : ℕ × ℕ) → nat_lt 262144 (work_of (declared_in said size)) ≡ over →
    cond over (fault {A = SoFar} line TooMuchWork) (Ok said) ≡ Ok out → (work_of (declared_in said size) ≤ 262144) × (said ≡ out)
within_work true line said out size h e = absurd ((cc))
within_work false line said out size h e = (ltb-false 262144 (work_of (declared_in said size)) h, (cc))

closed_work : (closed : Bool) (line : ℕ) (said out : SoFar) (size : ℕ × ℕ) → is_closed said.begun ≡ closed →
    cond closed (cond (nat_lt 262144 (work_of (declared_in said size))) (fault {A = SoFar} line TooMuchWork) (Ok said)) (fault {A = SoFar} line Unfinished) ≡ Ok out →
    (is_closed said.begun ≡ true) × (work_of (declared_in said size) ≤ 262144) × (said ≡ out)
closed_work true line said out size h e =
    let w = within_work (nat_lt 262144 (work_of (declared_in said size))) line said out size refl e in
    (h, w.0, w.1)
closed_work false line said out size h e = absurd ((cc))

-- what was said at the end
record IsFinished (out : SoFar) : Type 0 where
  kept : Keeps out
  limits : (size : ℕ × ℕ) → out.screen ≡ Some size → IsWithinLimits (declared_in out size)

finish : (line : ℕ) (said out : SoFar) (screen : Option (ℕ × ℕ)) → said.screen ≡ screen → Keeps said → finished line said screen ≡ Ok out → IsFinished out
unfolding finished
finish line said out None is k e = absurd ((cc))
finish line said out (Some size) is k e =
    let parts = closed_work (is_closed said.begun) line said out size refl e in
    let all : IsFinished said = record {
      kept = k;
      limits = λ other there.
          let sizes : size ≡ other = let both : Some size ≡ Some other = sym is ∙ there in (cc) in
          subst (λ (n : ℕ × ℕ). IsWithinLimits (declared_in said n)) sizes (limits said size k is parts.0 parts.1);
    } in
    subst IsFinished parts.2 all

line_more : (number : ℕ) (said out : SoFar) (line : Line) (lines : List Line) → ((new : SoFar) → Keeps new → read_lines (number + 1) new lines ≡ Ok out → IsFinished out) →
    Keeps said → read_lines number said (line ∷ lines) ≡ Ok out → (r : Result SoFar Reason) → read_line said line ≡ r → IsFinished out
unfolding read_lines
line_more number said out line lines more k e (Ok new) read =
    let rest = rw read at e in
    more new (step said new line k read) rest
line_more number said out line lines more k e (Err reason) read =
    let failed = rw read at e in
    absurd ((cc))

all_lines : (number : ℕ) (said out : SoFar) (lines : List Line) → Keeps said → read_lines number said lines ≡ Ok out → IsFinished out
unfolding read_lines
all_lines number said out [] k e = finish number said out said.screen refl k e
all_lines number said out (line ∷ lines) k e =
    line_more number said out line lines (λ new kept rest. all_lines (number + 1) new out lines kept rest) k e (read_line said line) refl

of_script : (long : Bool) (bytes : List ℕ) (out : SoFar) → cond long (fault {A = SoFar} 0 TooLong) (read_lines 1 nothing_said (lines_of bytes)) ≡ Ok out → IsFinished out
of_script true bytes out e = absurd ((cc))
of_script false bytes out e = all_lines 1 nothing_said out (lines_of bytes) opening e

pub script-keeps : (bytes : List ℕ) (said : SoFar) (size : ℕ × ℕ) → script_of bytes ≡ Ok said → said.screen ≡ Some size → IsWithinLimits (declared_in said size)
unfolding script_of
script-keeps bytes said size e there =
    let all = of_script (nat_lt 1048576 (length bytes)) bytes said e in
    all.limits size there
