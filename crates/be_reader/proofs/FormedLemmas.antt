-- What a line says by itself, as it is read, keeps its limits.
use Rattle.std.proofs.Common.{◌≡◌, ℕ, zero, suc, ◌<◌, ◌≤◌, ◌-ℤ◌, pos, ℤ, drop, Bool, true, false, ◌&&◌, cond, List, [], ◌∷◌, length, Option, Some, None, Result, Ok, Err, refl, ap, sym, ◌∙◌, subst, arith}
use Rattle.std.specs.Prelude.{nat_lt, nat_le, slice_get}
use Rattle.std.specs.List.{list_all}
use Rattle.std.specs.Option.{option_and_then}
use Rattle.std.specs.Result.{result_ok}
use Rattle.std.proofs.lemmas.Bool.{le-leb, lt-ltb, ltb-false, and_from}
use Rattle.std.proofs.lemmas.Int.{ints}
use Rattle.std.proofs.lemmas.List.{length-map}
use Rattle.be_facts.proofs.Truths.{and_second, or_false_second}
use Rattle.be_facts.proofs.Lists.{all_at}
use Rattle.be_actor.specs.declared.Instruction.{Instruction}
use Rattle.be_actor.specs.declared.Instruction.TheVariants as instruction
use Rattle.be_actor.specs.Drafts.{Word}
use Rattle.be_actor.specs.Limits.{is_draft, is_reserved, is_what}
use Rattle.be_command.specs.declared.Command.{Command}
use Rattle.be_command.specs.declared.fault.Reason.{Reason}
use Rattle.be_command.specs.declared.fault.Reason.TheVariants.{NotHere, Range}
use Rattle.be_command.specs.declared.first_word.FirstWord.{FirstWord}
use Rattle.be_command.specs.Forms.{first_word_of}
use Rattle.be_command.specs.Kinds.{numbered}
use Rattle.be_command.specs.Limits.{is_command, is_drawing, names_what_is}
use Rattle.be_command.specs.Names.{Known}
use Rattle.be_command.specs.Places.{judged, word_at}
use Rattle.be_command.specs.Reading.{command_or_reason, line_start}
use Rattle.be_command.proofs.JudgingLemmas.{numbered_within}
use Rattle.be_geom.specs.declared.point.Point.{Point}
use Rattle.be_geom.specs.declared.rect.Rect.{Rect}
use Rattle.be_geom.specs.Points.{between}
use Rattle.be_command.proofs.WithinLemmas.{judged_ok}
use Rattle.be_line.specs.declared.site.Allowed.{Allowed}
use Rattle.be_line.specs.declared.site.Seat.TheVariants as seat
use Rattle.be_line.specs.declared.statement.Statement.{Statement}
use Rattle.be_line.specs.declared.statement.Statement.TheVariants as statement
use Rattle.be_line.specs.Fields.{fields_said}
use Rattle.be_line.specs.FirstWords.{is_of_drawing, misplaced, seat_of}
use Rattle.be_line.specs.Kinds.{filter_what_said, note_said, what_said}
use Rattle.be_line.proofs.PortLemmas.{options-port}
use Rattle.be_message.specs.declared.target.Target.{Target}
use Rattle.be_reader.proofs.CommandFits.{command-draws, command-keeps, command-made, command-names}
use Rattle.be_said.proofs.DoneLemmas.{target-there, window-there}
use Rattle.be_reader.proofs.FieldFits.{draft-keeps}
use Rattle.be_reader.proofs.FitsLemmas.{handler_fits, named_within, number_fits}
use Rattle.be_reader.proofs.TakesLemmas.{ok-both, ok-said_as}
use Rattle.be_reader.proofs.WordFits.{filter_what-keeps, is_shown_word, note-keeps, what-keeps}
use Rattle.be_reader.specs.Forms.{form_of}
use Rattle.be_said.specs.Keeps.{IsFormed, IsUnlocked, declared_so_far, is_step_in, size_of}
use Rattle.be_reader.specs.Kinds.{At, Kind, Said, SaidAll, a_filter_what, a_handler, a_list, a_new_window, a_number, a_place, a_rule, a_what, a_window, a_window_frame, an_app, after, behind, both, frame_said, handler_named, place_said, said, said_all, a_command, a_note, some_fields, some_options, window_frame, word_said}
use Rattle.be_said.specs.SoFar.{SoFar, Begun, nothing, bitmap, handler_body, draw_body, program, app_names, has_message, known_in, nothing_said, site_of, window_names, window_of}
use Rattle.be_script.specs.Limits.{is_frame, is_place}
use Rattle.be_script.specs.Programs.{is_address, is_body_step, is_command_for, is_draw_step, is_free_step, is_handler_of, is_locked_step, is_note, view_count}
use Rattle.be_script.specs.Script.{Declared}
use Rattle.be_script.specs.Windows.{view_lines}

-- ---- where a line stands

first_line : (size : Option (ℕ × ℕ)) (b : Begun) → misplaced (site_of (record nothing_said { screen = size; begun = b })) seat.FirstLine ≡ None → size ≡ None
first_line None b e = refl
first_line (Some size) nothing e = absurd ((cc))
first_line (Some size) (bitmap name width height colors) e = absurd ((cc))
first_line (Some size) (handler_body w t what steps) e = absurd ((cc))
first_line (Some size) (draw_body w v steps) e = absurd ((cc))
first_line (Some size) (program name None steps) e = absurd ((cc))
first_line (Some size) (program name (Some w) steps) e = absurd ((cc))

allowed-is : (b : Bool) → cond b None (Some NotHere) ≡ None → b ≡ true
allowed-is true e = refl
allowed-is false e = absurd ((cc))

-- an instruction fits where it does in each of the bodies and programs that allow it
placed : (d : Declared) (size : Option (ℕ × ℕ)) (b : Begun) (allowed : Allowed) (step : Instruction) →
    misplaced (site_of (record nothing_said { screen = size; begun = b })) (seat.Inside allowed) ≡ None →
    ((w : ℕ) → window_of b ≡ Some w → has_message b ≡ true → allowed.in_handler ≡ true → is_body_step d w step ≡ true) →
    ((w : ℕ) → window_of b ≡ Some w → allowed.in_draw ≡ true → is_draw_step d w step ≡ true) →
    (has_message b ≡ false → allowed.in_program ≡ true → is_free_step d step ≡ true) →
    ((w : ℕ) → window_of b ≡ Some w → has_message b ≡ false → allowed.under_lock ≡ true → is_locked_step d w step ≡ true) →
    is_step_in d b step ≡ true
placed d None b allowed step e handler draw free locked = absurd ((cc))
placed d (Some size) nothing allowed step e handler draw free locked = refl
placed d (Some size) (bitmap name width height colors) allowed step e handler draw free locked = refl
placed d (Some size) (handler_body w t what steps) allowed step e handler draw free locked = handler w refl refl (allowed-is allowed.in_handler e)
placed d (Some size) (draw_body w v steps) allowed step e handler draw free locked = draw w refl (allowed-is allowed.in_draw e)
placed d (Some size) (program name None steps) allowed step e handler draw free locked = free refl (allowed-is allowed.in_program e)
placed d (Some size) (program name (Some w) steps) allowed step e handler draw free locked = locked w refl refl (allowed-is allowed.under_lock e)

unlocked : (size : Option (ℕ × ℕ)) (b : Begun) → misplaced (site_of (record nothing_said { screen = size; begun = b })) (seat_of statement.End) ≡ None → IsUnlocked b
unlocked None b e = absurd ((cc))
unlocked (Some size) nothing e = tt
unlocked (Some size) (bitmap name width height colors) e = tt
unlocked (Some size) (handler_body w t what steps) e = tt
unlocked (Some size) (draw_body w v steps) e = tt
unlocked (Some size) (program name None steps) e = refl
unlocked (Some size) (program name (Some w) steps) e = absurd ((cc))

-- ---- frames and places

frame_is : (b : Bool) (r s : Rect) → is_frame r ≡ b → cond b (Ok r) (Err Range) ≡ Ok s → is_frame s ≡ true
frame_is true r s h e = let same : r ≡ s = (cc) in subst (λ (q : Rect). is_frame q ≡ true) same h
frame_is false r s h e = absurd ((cc))

frame_keeps : (said : Result Rect Reason) (r : Rect) → window_frame said ≡ Ok r → is_frame r ≡ true
frame_keeps (Ok q) r e = frame_is (is_frame q) q r refl e
frame_keeps (Err reason) r e = absurd ((cc))

place_keeps : (d : Declared) (size : Option (ℕ × ℕ)) (at : At) (p : Point) → d.width ≡ (size_of size).0 → d.height ≡ (size_of size).1 → place_said size at ≡ Ok p → is_place d p ≡ true
place_keeps d None at p wide high e = absurd ((cc))
place_keeps d (Some size) at p wide high e =
    let across = word_said (numbered (pos 0) (pos size.0 -ℤ pos 1)) 0 at in
    let down = word_said (numbered (pos 0) (pos size.1 -ℤ pos 1)) 1 at in
    let x = ok-said_as (λ (q : ℤ × ℤ). record { x = q.0; y = q.1 }) (both across down) p e in
    let parts = ok-both across down x.0 x.1.0 in
    let first : between (pos 0) x.0.0 (pos size.0 -ℤ pos 1) ≡ true = numbered_within (pos 0) (pos size.0 -ℤ pos 1) (slice_get at.words 0) x.0.0 parts.0 in
    let other : between (pos 0) x.0.1 (pos size.1 -ℤ pos 1) ≡ true = numbered_within (pos 0) (pos size.1 -ℤ pos 1) (slice_get at.words 1) x.0.1 parts.1 in
    subst (λ (q : Point). is_place d q ≡ true) x.1.1
    (and_from (between (pos 0) x.0.0 (pos d.width -ℤ pos 1)) (between (pos 0) x.0.1 (pos d.height -ℤ pos 1))
    (ap (λ n. between (pos 0) x.0.0 (pos n -ℤ pos 1)) wide ∙ first) (ap (λ n. between (pos 0) x.0.1 (pos n -ℤ pos 1)) high ∙ other))

key_keeps : (n : ℕ) → n ≤ 255 → between (pos 0) (pos n) (pos 255) ≡ true
unfolding between
key_keeps n h = grind (arith, ints)

-- ---- words

-- the parts of a line
head_of : (before : SoFar) (kind : Kind) (kinds : List Kind) (at : At) (x : Said kind × SaidAll kinds) → said_all before (kind ∷ kinds) at ≡ Ok x →
    (said before kind at ≡ Ok x.0) × (said_all before kinds (after before kind at) ≡ Ok x.1)
head_of before kind kinds at x e = ok-both (said before kind at) (said_all before kinds (after before kind at)) x e

-- a word that is read, and is one of the line's
word_of : {A : Type 0} (read : List ℕ → Result A Reason) (words : List (List ℕ)) (k : ℕ) (a : A) (o : Option (List ℕ)) → slice_get words k ≡ o → list_all is_shown_word words ≡ true →
    judged read o ≡ Ok a → (word : List ℕ) × (is_shown_word word ≡ true) × (read word ≡ Ok a)
word_of read words k a None at h e = absurd ((cc))
word_of read words k a (Some word) at h e = (word, all_at is_shown_word words k word h at, e)

drop_shown : (n : ℕ) (words : List (List ℕ)) → list_all is_shown_word words ≡ true → list_all is_shown_word (drop n words) ≡ true
drop_shown zero words h = h
drop_shown (suc n) [] h = h
drop_shown (suc n) (word ∷ words) h = drop_shown n words (and_second (is_shown_word word) (list_all is_shown_word words) h)

what_of : (before : SoFar) (at : At) (what : ℕ) → said before a_what at ≡ Ok what → (is_what what ≡ true) × (is_reserved what ≡ false)
what_of before at what e = let word = judged_ok what_said (slice_get at.words 0) what e in what-keeps word.0 what word.1

note_of : (before : SoFar) (at : At) (note : List ℕ) → list_all is_shown_word at.words ≡ true → word_said note_said 0 at ≡ Ok note → is_note note ≡ true
note_of before at note h e = let word = word_of note_said at.words 0 note (slice_get at.words 0) refl h e in note-keeps word.0 note word.1 word.2

short_draft : (n : ℕ) → nat_lt 255 n ≡ false → nat_le n 255 ≡ true
short_draft n h = le-leb n 255 (ltb-false 255 n h)

address : (before : SoFar) (at : At) (w : ℕ) (t : Target) (kinds : List Kind) (x : SaidAll kinds) → said_all before (a_window ∷ a_handler ∷ kinds) at ≡ Ok (w, (t, x)) →
    (is_address (declared_so_far before) w t ≡ true) × (said_all before kinds (behind 1 (after before a_window at)) ≡ Ok x)
address before at w t kinds x e =
    let window = head_of before a_window (a_handler ∷ kinds) at (w, (t, x)) e in
    let next = after before a_window at in
    let handler = head_of before a_handler kinds next (t, x) window.1 in
    let there = subst (λ (n : ℕ). w < n) (length-map before.windows (λ line. line.name)) (named_within (window_names before) at w window.0) in
    let here : next.window ≡ Some w = ap result_ok window.0 in
    let target = handler_fits before w 0 next t (subst (λ (o : Option ℕ). word_said (handler_named before o) 0 next ≡ Ok t) here handler.0) in
    (and_from (nat_lt w (length before.windows)) (is_handler_of (declared_so_far before) w t) (window-there before w there) (target-there before w t target), handler.1)

-- a draft of these two parts
draft_of : (before : SoFar) (at : At) (has : Bool) (what : ℕ) (words : List Word) → has_message before.begun ≡ has → list_all is_shown_word at.words ≡ true →
    said_all before (a_what ∷ some_fields ∷ []) at ≡ Ok (what, (words, tt)) → nat_lt 255 (length words) ≡ false → is_draft has (record { what = what; words = words }) ≡ true
draft_of before at has what words is h e short =
    let first = head_of before a_what (some_fields ∷ []) at (what, (words, tt)) e in
    let code = what_of before at what first.0 in
    let rest = head_of before some_fields [] (behind 1 at) (words, tt) first.1 in
    draft-keeps has (drop 1 at.words) (record { what = what; words = words }) (drop_shown 1 at.words h) (subst (λ (b : Bool). fields_said b (drop 1 at.words) ≡ Ok words) is rest.0)
    code.0 code.1 (short_draft (length words) short)

-- ---- commands

command_fits : (before : SoFar) (w : ℕ) (text : List ℕ) (word : FirstWord) (c : Command) → window_of before.begun ≡ Some w → option_and_then first_word_of (word_at (line_start text)) ≡ Some word →
    command_or_reason (known_in before (window_of before.begun)) text ≡ Ok c → (is_command_for (declared_so_far before) w c ≡ true) × (is_of_drawing word ≡ true → is_drawing c ≡ true)
command_fits before w text word c there first e =
    let known : Known = known_in before (Some w) in
    let m = command-made known text word c first (subst (λ (o : Option ℕ). command_or_reason (known_in before o) text ≡ Ok c) there e) in
    let d = declared_so_far before in
    let windows : length known.windows ≡ length d.windows = length-map before.windows (λ line. line.name) in
    let count = length-map (view_lines d w) (λ line. line.name) in
    let views : length known.views ≡ view_count d w = omega arith in
    let pictures : length known.bitmaps ≡ length d.pictures = length-map before.bitmaps (λ line. line.name) ∙ sym (length-map before.bitmaps (λ line. line.bitmap)) in
    let keeps : is_command c ≡ true = ap is_command (sym m.made) ∙ command-keeps known word m.parts m.kept in
    let names : names_what_is (length known.windows) (length known.views) (length known.bitmaps) c ≡ true =
    ap (names_what_is (length known.windows) (length known.views) (length known.bitmaps)) (sym m.made) ∙ command-names known word m.parts m.kept in
    let here : names_what_is (length d.windows) (view_count d w) (length d.pictures) c ≡ true =
    subst (λ (n : ℕ). names_what_is (length d.windows) (view_count d w) n c ≡ true) pictures
    (subst (λ (n : ℕ). names_what_is (length d.windows) n (length known.bitmaps) c ≡ true) views
    (subst (λ (n : ℕ). names_what_is n (length known.views) (length known.bitmaps) c ≡ true) windows names)) in (
      and_from (is_command c) (names_what_is (length d.windows) (view_count d w) (length d.pictures) c) keeps here,
      λ drawing. ap is_drawing (sym m.made) ∙ command-draws word m.parts drawing,
    )

-- ---- a line

-- a command is of the word that the line begins with
abbrev pub BeginsWith : List ℕ → Statement → Type 0
BeginsWith text (statement.Command word) = option_and_then first_word_of (word_at (line_start text)) ≡ Some word
BeginsWith text statement.Screen = Unit {0}
BeginsWith text statement.Bitmap = Unit {0}
BeginsWith text statement.Row = Unit {0}
BeginsWith text statement.Window = Unit {0}
BeginsWith text statement.View = Unit {0}
BeginsWith text statement.Handler = Unit {0}
BeginsWith text statement.Filter = Unit {0}
BeginsWith text statement.On = Unit {0}
BeginsWith text statement.Draw = Unit {0}
BeginsWith text statement.App = Unit {0}
BeginsWith text statement.Press = Unit {0}
BeginsWith text statement.Release = Unit {0}
BeginsWith text statement.Point = Unit {0}
BeginsWith text statement.Key = Unit {0}
BeginsWith text statement.After = Unit {0}
BeginsWith text statement.End = Unit {0}
BeginsWith text statement.Note = Unit {0}
BeginsWith text statement.Post = Unit {0}
BeginsWith text statement.Send = Unit {0}
BeginsWith text statement.Reply = Unit {0}
BeginsWith text statement.Forward = Unit {0}
BeginsWith text statement.Lock = Unit {0}
BeginsWith text statement.Unlock = Unit {0}
BeginsWith text statement.Flush = Unit {0}
BeginsWith text statement.Sync = Unit {0}

-- where an instruction may not stand
not_there : {A : Type 0} → false ≡ true → A
not_there e = absurd ((cc))

pub line_formed : (before : SoFar) (st : Statement) (at : At) (x : SaidAll (form_of st).kinds) → misplaced (site_of before) (seat_of st) ≡ None → list_all is_shown_word at.words ≡ true →
    BeginsWith at.text st → said_all before (form_of st).kinds at ≡ Ok x → IsFormed before ((form_of st).makes x)
unfolding form_of
line_formed before statement.Screen at x m h t e =
    let first = head_of before (a_number 1 1024) (a_number 1 768 ∷ []) at x e in
    let rest = head_of before (a_number 1 768) [] (behind 1 at) x.1 first.1 in
    (first_line before.screen before.begun m, (number_fits 1 1024 x.0 at first.0).0, (number_fits 1 768 x.1.0 (behind 1 at) rest.0).0)
line_formed before statement.Bitmap at x m h t e = tt
line_formed before statement.Row at x m h t e = tt
line_formed before statement.Window at x m h t e =
    let first = head_of before a_new_window (a_window_frame ∷ some_options ∷ []) at x e in
    let frame = head_of before a_window_frame (some_options ∷ []) (behind 1 at) x.1 first.1 in
    let last = head_of before some_options [] (behind 4 (behind 1 at)) x.1.1 frame.1 in
    let port = options-port (behind 4 (behind 1 at)).words x.1.1.0 last.0 in
    and_from (is_frame x.1.0 && nat_le 1 x.1.1.0.port) (nat_le x.1.1.0.port 100)
    (and_from (is_frame x.1.0) (nat_le 1 x.1.1.0.port) (frame_keeps (frame_said (behind 1 at)) x.1.0 frame.0) (le-leb 1 x.1.1.0.port port.0))
    (le-leb x.1.1.0.port 100 port.1)
line_formed before statement.View at x m h t e = tt
line_formed before statement.Handler at x m h t e = tt
line_formed before statement.Filter at x m h t e =
    let first = head_of before a_window (a_list ∷ a_filter_what ∷ a_rule ∷ []) at x e in
    let next = after before a_window at in
    let list = head_of before a_list (a_filter_what ∷ a_rule ∷ []) next x.1 first.1 in
    let what = head_of before a_filter_what (a_rule ∷ []) (behind 1 next) x.1.1 list.1 in
    let word = judged_ok filter_what_said (slice_get (behind 1 next).words 0) x.1.1.0 what.0 in
    filter_what-keeps word.0 x.1.1.0 word.1
line_formed before statement.On at x m h t e =
    let first = head_of before a_window (a_handler ∷ a_what ∷ []) at x e in
    let next = after before a_window at in
    let handler = head_of before a_handler (a_what ∷ []) next x.1 first.1 in
    let what = head_of before a_what [] (behind 1 next) x.1.1 handler.1 in
    what_of before (behind 1 next) x.1.1.0 what.0
line_formed before statement.Draw at x m h t e = tt
line_formed before statement.App at x m h t e = tt
line_formed before statement.Press at x m h t e = place_keeps (declared_so_far before) before.screen at x.0 refl refl (head_of before a_place [] at x e).0
line_formed before statement.Release at x m h t e = place_keeps (declared_so_far before) before.screen at x.0 refl refl (head_of before a_place [] at x e).0
line_formed before statement.Point at x m h t e = place_keeps (declared_so_far before) before.screen at x.0 refl refl (head_of before a_place [] at x e).0
line_formed before statement.Key at x m h t e = key_keeps x.0 (number_fits 0 255 x.0 at (head_of before (a_number 0 255) [] at x e).0).1
line_formed before statement.After at x m h t e =
    let app = named_within (app_names before) at x.0 (head_of before an_app [] at x e).0 in
    lt-ltb x.0 (length before.apps) (subst (λ (n : ℕ). x.0 < n) (length-map before.apps (λ line. line.name)) app)
line_formed before statement.End at x m h t e = unlocked before.screen before.begun m
line_formed before statement.Note at x m h t e = λ few.
    let note = note_of before at x.0 h (head_of before a_note [] at x e).0 in
    placed (declared_so_far before) before.screen before.begun _ (instruction.Note x.0) m (λ w there has so. note) (λ w there so. note) (λ has so. note) (λ w there has so. note)
line_formed before statement.Post at x m h t e = λ few.
    let a = address before at x.0 x.1.0 (a_what ∷ some_fields ∷ []) x.1.1 e in
    let next = behind 1 (after before a_window at) in
    let shown : list_all is_shown_word next.words ≡ true = drop_shown 1 (drop 1 at.words) (drop_shown 1 at.words h) in
    let short = or_false_second _ (nat_lt 255 (length x.1.1.1.0)) few in
    let draft = λ (has : Bool) (is : has_message before.begun ≡ has). draft_of before next has x.1.1.0 x.1.1.1.0 is shown a.1 short in
    placed (declared_so_far before) before.screen before.begun _ (instruction.Post x.0 x.1.0 (record { what = x.1.1.0; words = x.1.1.1.0 })) m
    (λ w there has so. and_from _ _ a.0 (draft true has)) (λ w there so. not_there so) (λ has so. and_from _ _ a.0 (draft false has)) (λ w there has so. and_from _ _ a.0 (draft false has))
line_formed before statement.Send at x m h t e = λ few.
    let a = address before at x.0 x.1.0 (a_what ∷ some_fields ∷ []) x.1.1 e in
    let next = behind 1 (after before a_window at) in
    let shown : list_all is_shown_word next.words ≡ true = drop_shown 1 (drop 1 at.words) (drop_shown 1 at.words h) in
    let short = or_false_second _ (nat_lt 255 (length x.1.1.1.0)) few in
    let draft = λ (has : Bool) (is : has_message before.begun ≡ has). draft_of before next has x.1.1.0 x.1.1.1.0 is shown a.1 short in
    placed (declared_so_far before) before.screen before.begun _ (instruction.Send x.0 x.1.0 (record { what = x.1.1.0; words = x.1.1.1.0 })) m
    (λ w there has so. not_there so) (λ w there so. not_there so) (λ has so. and_from _ _ a.0 (draft false has)) (λ w there has so. not_there so)
line_formed before statement.Reply at x m h t e = λ few.
    let short = or_false_second _ (nat_lt 255 (length x.1.0)) few in
    placed (declared_so_far before) before.screen before.begun _ (instruction.Reply (record { what = x.0; words = x.1.0 })) m
    (λ w there has so. draft_of before at true x.0 x.1.0 has h e short) (λ w there so. not_there so) (λ has so. not_there so) (λ w there has so. not_there so)
line_formed before statement.Forward at x m h t e = λ few.
    let a = address before at x.0 x.1.0 [] x.1.1 e in
    placed (declared_so_far before) before.screen before.begun _ (instruction.Forward x.0 x.1.0) m (λ w there has so. a.0) (λ w there so. not_there so) (λ has so. not_there so) (λ w there has so. not_there so)
line_formed before statement.Lock at x m h t e = λ few.
    let first = head_of before a_window [] at x e in
    let there = subst (λ (n : ℕ). x.0 < n) (length-map before.windows (λ line. line.name)) (named_within (window_names before) at x.0 first.0) in
    placed (declared_so_far before) before.screen before.begun _ (instruction.Lock x.0) m (λ w there has so. not_there so) (λ w there so. not_there so)
    (λ has so. window-there before x.0 there) (λ w there has so. not_there so)
line_formed before statement.Unlock at x m h t e = λ few.
    placed (declared_so_far before) before.screen before.begun _ instruction.Unlock m (λ w there has so. not_there so) (λ w there so. not_there so) (λ has so. not_there so) (λ w there has so. refl)
line_formed before statement.Flush at x m h t e = λ few.
    placed (declared_so_far before) before.screen before.begun _ instruction.Flush m (λ w there has so. refl) (λ w there so. refl) (λ has so. not_there so) (λ w there has so. refl)
line_formed before statement.Sync at x m h t e = λ few.
    placed (declared_so_far before) before.screen before.begun _ instruction.Sync m (λ w there has so. refl) (λ w there so. refl) (λ has so. not_there so) (λ w there has so. refl)
line_formed before (statement.Command word) at x m h t e = λ few.
    let c = (head_of before a_command [] at x e).0 in
    placed (declared_so_far before) before.screen before.begun _ (instruction.Draw x.0) m
    (λ w there has so. (command_fits before w at.text word x.0 there t c).0)
    (λ w there so. let r = command_fits before w at.text word x.0 there t c in and_from _ _ r.0 (r.1 so))
    (λ has so. not_there so)
    (λ w there has so. (command_fits before w at.text word x.0 there t c).0)
