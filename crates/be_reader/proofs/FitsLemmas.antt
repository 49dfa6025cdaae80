-- What a line says, as it is read, fits what was said before.
use Rattle.std.proofs.Common.{◌≡◌, ℕ, ◌+◌, ◌<◌, ◌≤◌, ℤ, pos, unsigned_abs, zero, suc, take, drop, Bool, true, false, ◌||◌, codes, cond, arith, List, [], ◌∷◌, length, Option, Some, None, option_map, Result, Ok, Err, refl, ap, sym, subst, ◌∙◌}
use Rattle.std.proofs.lemmas.Int.{ints}
use Rattle.std.proofs.lemmas.List.{length-map}
use Rattle.std.specs.List.{list_any, position_from}
use Rattle.std.specs.Option.{ok_or, option_and_then}
use Rattle.std.specs.Prelude.{slice_get}
use Rattle.std.specs.Result.{result_map_both, result_ok}
use Rattle.std.specs.Str.{bytes_eq}
use Rattle.be_color.specs.declared.colors.Color.{Color}
use Rattle.be_command.specs.declared.fault.Reason.{Reason}
use Rattle.be_command.specs.declared.fault.Reason.TheVariants.{NameTaken, Range, Shape, UnknownName}
use Rattle.be_command.specs.Kinds.{named, numbered, formed}
use Rattle.be_command.specs.Names.{number_in}
use Rattle.be_geom.specs.Points.{between}
use Rattle.be_lex.specs.Colors.{pixel_of}
use Rattle.be_lex.specs.Names.{is_name, is_reserved_name}
use Rattle.be_lex.specs.Numbers.{is_number, number_of}
use Rattle.be_lex.specs.Words.{is_empty}
use Rattle.be_command.proofs.WithinLemmas.{formed_ok, judged_ok}
use Rattle.be_handler.specs.declared.Rule.{Rule}
use Rattle.be_handler.specs.declared.Rule.TheVariants.{Skip, Pass, Redirect}
use Rattle.be_line.specs.declared.site.Allowed.{Allowed}
use Rattle.be_line.specs.declared.site.Seat.TheVariants as seat
use Rattle.be_line.specs.declared.statement.Statement.{Statement}
use Rattle.be_line.specs.declared.statement.Statement.TheVariants as statement
use Rattle.be_line.specs.FirstWords.{misplaced, seat_of}
use Rattle.be_line.specs.Kinds.{pixels_in, said_as}
use Rattle.be_message.specs.declared.target.Target.{Target}
use Rattle.be_message.specs.declared.target.Target.TheVariants as target
use Rattle.be_reader.proofs.TakesLemmas.{ok-both, ok-said_as}
use Rattle.be_said.specs.Fits.{Fits, HasSteps, IsList, IsNew, IsRow, IsRule, IsTarget}
use Rattle.be_said.specs.declared.fault.LineFault.{LineFault}
use Rattle.be_said.specs.Due.{IsDue}
use Rattle.be_said.specs.Deeds.{Deed}
use Rattle.be_reader.specs.Forms.{form_of}
use Rattle.be_reader.specs.LineDeeds.{deed_said}
use Rattle.be_said.specs.Names.{handler_names, new_name}
use Rattle.be_reader.specs.Kinds.{At, Kind, Said, SaidAll, a_down, a_filter_what, a_frame, a_handler, a_last_color, a_list, a_new_app, a_new_bitmap, a_new_handler, a_new_window, a_number, a_rule, a_view, a_what, a_window, a_window_frame, an_across, some_options, some_pixels, after, behind, handler_named, handler_with, list_named, rule_by, said, said_all, view_or, word_said}
use Rattle.be_said.specs.SoFar.{SoFar, Begun, nothing, bitmap, handler_body, draw_body, program, app_names, bitmap_names, nothing_said, plain_names, row_width, site_of, view_names, window_names}

-- ---- where the line stands

pub apart : (size : Option (ℕ × ℕ)) (b : Begun) → misplaced (site_of (record nothing_said { screen = size; begun = b })) seat.Apart ≡ None → b ≡ nothing
apart None b e = (cc)
apart (Some size) nothing e = refl
apart (Some size) (bitmap name width height colors) e = (cc)
apart (Some size) (handler_body w handler what steps) e = (cc)
apart (Some size) (draw_body w v steps) e = (cc)
apart (Some size) (program name None steps) e = (cc)
apart (Some size) (program name (Some w) steps) e = (cc)

pub among_rows : (size : Option (ℕ × ℕ)) (b : Begun) (count : ℕ) → misplaced (site_of (record nothing_said { screen = size; begun = b })) seat.ARow ≡ None → count ≡ row_width b → IsRow b count
among_rows None b count e n = absurd ((cc))
among_rows (Some size) nothing count e n = absurd ((cc))
among_rows (Some size) (bitmap name width height colors) count e n = n
among_rows (Some size) (handler_body w handler what steps) count e n = absurd ((cc))
among_rows (Some size) (draw_body w v steps) count e n = absurd ((cc))
among_rows (Some size) (program name None steps) count e n = absurd ((cc))
among_rows (Some size) (program name (Some w) steps) count e n = absurd ((cc))

pub within : (size : Option (ℕ × ℕ)) (b : Begun) (allowed : Allowed) → misplaced (site_of (record nothing_said { screen = size; begun = b })) (seat.Inside allowed) ≡ None → HasSteps b
within None b allowed e = absurd ((cc))
within (Some size) nothing allowed e = absurd ((cc))
within (Some size) (bitmap name width height colors) allowed e = absurd ((cc))
within (Some size) (handler_body w handler what steps) allowed e = tt
within (Some size) (draw_body w v steps) allowed e = tt
within (Some size) (program name lock steps) allowed e = tt

-- ---- numbers

ranged : (formed small : Bool) (z x : ℤ) → cond formed (cond small (Ok z) (Err Range)) (Err Shape) ≡ Ok x → (small ≡ true) × (z ≡ x)
ranged true true z x e = (refl, (cc))
ranged true false z x e = (cc)
ranged false small z x e = (cc)

unsigned_between : (low high : ℕ) (z : ℤ) → between (pos low) z (pos high) ≡ true → (low ≤ unsigned_abs z) × (unsigned_abs z ≤ high)
unfolding between
unsigned_between low high z e = grind (arith, ints)

pub number_fits : (low high n : ℕ) (at : At) → said_as unsigned_abs (word_said (numbered (pos low) (pos high)) 0 at) ≡ Ok n → (low ≤ n) × (n ≤ high)
number_fits low high n at e =
    let z = ok-said_as unsigned_abs (word_said (numbered (pos low) (pos high)) 0 at) n e in
    let word = judged_ok (numbered (pos low) (pos high)) (slice_get at.words 0) z.0 z.1.0 in
    let ends = ranged (is_number word.0) (between (pos low) (number_of word.0) (pos high)) (number_of word.0) z.0 word.1 in
    subst (λ (k : ℕ). (low ≤ k) × (k ≤ high)) (ap unsigned_abs ends.1 ∙ z.1.1) (unsigned_between low high (number_of word.0) ends.0)

-- ---- rows

one_more : (count : ℕ) (color : Color) (o : Option (List Color)) (colors : List Color) →
    ((rest : List Color) → o ≡ Some rest → length rest ≡ count) → option_map (λ cs. color ∷ cs) o ≡ Some colors → length colors ≡ suc count
one_more count color None colors rest e = (cc)
one_more count color (Some cs) colors rest e = let h : color ∷ cs ≡ colors = (cc) in sym (ap length h) ∙ ap suc (rest cs refl)

none_more : (b : Bool) (colors : List Color) → cond b (Some []) None ≡ Some colors → length colors ≡ 0
none_more true colors e = let h : [] ≡ colors = (cc) in sym (ap length h)
none_more false colors e = (cc)

first_pixel : (count : ℕ) (rest : Option (List Color)) (colors : List Color) (o : Option Color) → ((cs : List Color) → rest ≡ Some cs → length cs ≡ count) →
    option_and_then (λ color. option_map (λ cs. color ∷ cs) rest) o ≡ Some colors → length colors ≡ suc count
first_pixel count rest colors None each e = (cc)
first_pixel count rest colors (Some color) each e = one_more count color rest colors each e

pub pixels_fit : (count : ℕ) (word : List ℕ) (colors : List Color) → pixels_in count word ≡ Some colors → length colors ≡ count
pixels_fit zero word colors e = none_more (is_empty word) colors e
pixels_fit (suc count) word colors e =
    first_pixel count (pixels_in count (drop 6 word)) colors (pixel_of (take 6 word)) (pixels_fit count (drop 6 word)) e

pub row_fits : (count : ℕ) (at : At) (colors : List Color) → word_said (λ word. formed (pixels_in count word)) 0 at ≡ Ok colors → length colors ≡ count
row_fits count at colors e =
    let word = judged_ok (λ word. formed (pixels_in count word)) (slice_get at.words 0) colors e in
    pixels_fit count word.0 colors (formed_ok (pixels_in count word.0) colors word.1)

-- ---- names

-- the number of a name is below how many there are
at_head : (b : Bool) (i n k : ℕ) (o : Option ℕ) → cond b (Some i) o ≡ Some n → (o ≡ Some n → n < (i + 1) + k) → n < i + suc k
at_head true i n k o e rest = let h : i ≡ n = (cc) in omega (arith, h)
at_head false i n k o e rest = omega (arith, rest e)

position_within : {A : Type 0} (test : A → Bool) (i n : ℕ) (xs : List A) → position_from test i xs ≡ Some n → n < i + length xs
position_within test i n [] e = (cc)
position_within test i n (x ∷ xs) e = at_head (test x) i n (length xs) (position_from test (i + 1) xs) e (position_within test (i + 1) n xs)

number_within : (names : List (List ℕ)) (word : List ℕ) (n : ℕ) → number_in names word ≡ Some n → n < length names
number_within names word n e =
    let below = position_within (λ other. bytes_eq other word) 0 n names e in
    omega (arith, below)

numbered_is : (b : Bool) (o : Option ℕ) (n : ℕ) → cond b (ok_or o UnknownName) (Err Shape) ≡ Ok n → o ≡ Some n
numbered_is true (Some v) n e = (cc)
numbered_is true None n e = (cc)
numbered_is false o n e = (cc)

pub named_within : (names : List (List ℕ)) (at : At) (n : ℕ) → word_said (named names) 0 at ≡ Ok n → n < length names
named_within names at n e =
    let word = judged_ok (named names) (slice_get at.words 0) n e in
    number_within names word.0 n (numbered_is (is_name word.0) (number_in names word.0) n word.1)

-- a name that may be declared may be declared
new_is : (formed taken : Bool) (word name : List ℕ) → cond formed (cond taken (Err NameTaken) (Ok word)) (Err Shape) ≡ Ok name → word ≡ name
new_is true true word name e = (cc)
new_is true false word name e = (cc)
new_is false taken word name e = (cc)

pub new_fits : (names : List (List ℕ)) (at : At) (name : List ℕ) → word_said (new_name names) 0 at ≡ Ok name → IsNew names name
new_fits names at name e =
    let word = judged_ok (new_name names) (slice_get at.words 0) name e in
    let same = new_is (is_name word.0) (is_reserved_name word.0 || list_any (λ other. bytes_eq other word.0) names) word.0 name word.1 in
    subst (λ (w : List ℕ). new_name names w ≡ Ok name) same word.1

-- ---- handlers

target_is : (said : SoFar) (w : ℕ) (b : Bool) (v p : Option ℕ) (handler : Target) →
    ((n : ℕ) → v ≡ Some n → n < length (view_names said (Some w))) → ((n : ℕ) → p ≡ Some n → n < length (plain_names said (Some w))) →
    ok_or (cond b (Some target.Window) (view_or v (option_map target.Plain p))) UnknownName ≡ Ok handler → IsTarget said w handler
target_is said w true v p handler view plain e = let h : target.Window ≡ handler = (cc) in subst (IsTarget said w) h tt
target_is said w false (Some n) p handler view plain e = let h : target.View n ≡ handler = (cc) in subst (IsTarget said w) h (view n refl)
target_is said w false None (Some n) handler view plain e = let h : target.Plain n ≡ handler = (cc) in subst (IsTarget said w) h (plain n refl)
target_is said w false None None handler view plain e = (cc)

named_target : (said : SoFar) (w : ℕ) (word : List ℕ) (handler : Target) → handler_named said (Some w) word ≡ Ok handler → IsTarget said w handler
named_target said w word handler e = by_form (is_name word) e
  where
    by_form : (b : Bool) → cond b (ok_or (handler_with said (Some w) word) UnknownName) (Err Shape) ≡ Ok handler → IsTarget said w handler
    by_form true h =
        target_is said w (bytes_eq word (codes "window")) (number_in (view_names said (Some w)) word) (number_in (plain_names said (Some w)) word) handler
        (λ n e. number_within (view_names said (Some w)) word n e) (λ n e. number_within (plain_names said (Some w)) word n e) h
    by_form false h = (cc)

pub handler_fits : (said : SoFar) (w : ℕ) (k : ℕ) (at : At) (handler : Target) → word_said (handler_named said (Some w)) k at ≡ Ok handler → IsTarget said w handler
handler_fits said w k at handler e =
    let word = judged_ok (handler_named said (Some w)) (slice_get at.words k) handler e in
    named_target said w word.0 handler word.1

pub list_fits : (said : SoFar) (w : ℕ) (at : At) (list : Option Target) → word_said (list_named said (Some w)) 0 at ≡ Ok list → IsList said w list
list_fits said w at list e =
    let word = judged_ok (list_named said (Some w)) (slice_get at.words 0) list e in
    by_word word.0 (bytes_eq word.0 (codes "common")) word.1
  where
    by_word : (word : List ℕ) (b : Bool) → cond b (Ok None) (said_as Some (handler_named said (Some w) word)) ≡ Ok list → IsList said w list
    by_word word true h = let same : None ≡ list = (cc) in subst (IsList said w) same tt
    by_word word false h =
        let handler = ok-said_as Some (handler_named said (Some w) word) list h in
        subst (IsList said w) handler.1.1 (named_target said w word handler.0 handler.1.0)

pub rule_fits : (said : SoFar) (w : ℕ) (at : At) (rule : Rule) → at.window ≡ Some w → word_said (rule_by said at) 0 at ≡ Ok rule → IsRule said w rule
rule_fits said w at rule there e =
    let word = judged_ok (rule_by said at) (slice_get at.words 0) rule e in
    by_word (bytes_eq word.0 (codes "skip")) (bytes_eq word.0 (codes "pass")) (bytes_eq word.0 (codes "redirect")) word.1
  where
    by_word : (skip pass redirect : Bool) →
        cond skip (Ok Skip) (cond pass (Ok Pass) (cond redirect (said_as Redirect (word_said (handler_named said at.window) 1 at)) (Err Shape))) ≡ Ok rule →
        IsRule said w rule
    by_word true pass redirect h = let same : Skip ≡ rule = (cc) in subst (IsRule said w) same tt
    by_word false true redirect h = let same : Pass ≡ rule = (cc) in subst (IsRule said w) same tt
    by_word false false true h =
        let handler = ok-said_as Redirect (word_said (handler_named said at.window) 1 at) rule h in
        let named = subst (λ (o : Option ℕ). word_said (handler_named said o) 1 at ≡ Ok handler.0) there handler.1.0 in
        subst (IsRule said w) handler.1.1 (handler_fits said w 1 at handler.0 named)
    by_word false false false h = (cc)

-- ---- a line

head_said : (before : SoFar) (kind : Kind) (kinds : List Kind) (at : At) (x : Said kind × SaidAll kinds) → said_all before (kind ∷ kinds) at ≡ Ok x → said before kind at ≡ Ok x.0
head_said before kind kinds at x e = (ok-both (said before kind at) (said_all before kinds (after before kind at)) x e).0

tail_said : (before : SoFar) (kind : Kind) (kinds : List Kind) (at : At) (x : Said kind × SaidAll kinds) → said_all before (kind ∷ kinds) at ≡ Ok x → said_all before kinds (after before kind at) ≡ Ok x.1
tail_said before kind kinds at x e = (ok-both (said before kind at) (said_all before kinds (after before kind at)) x e).1

window_fits : (before : SoFar) (at : At) (w : ℕ) → said before a_window at ≡ Ok w → w < length before.windows
window_fits before at w e = subst (λ (n : ℕ). w < n) (length-map before.windows (λ line. line.name)) (named_within (window_names before) at w e)

window_is : (before : SoFar) (at : At) (w : ℕ) → said before a_window at ≡ Ok w → (after before a_window at).window ≡ Some w
window_is before at w e = ap result_ok e

new_handler_fits : (before : SoFar) (at : At) (w : ℕ) (name : List ℕ) → at.window ≡ Some w → said before a_new_handler at ≡ Ok name → IsNew (handler_names before (Some w)) name
new_handler_fits before at w name there e =
    subst (λ (o : Option ℕ). IsNew (handler_names before o) name) there (new_fits (handler_names before at.window) at name e)

view_fits : (before : SoFar) (at : At) (w v : ℕ) → at.window ≡ Some w → said before a_view at ≡ Ok v → v < length (view_names before (Some w))
view_fits before at w v there e =
    subst (λ (o : Option ℕ). v < length (view_names before o)) there (named_within (view_names before at.window) at v e)

target_fits : (before : SoFar) (at : At) (w : ℕ) (handler : Target) → at.window ≡ Some w → said before a_handler at ≡ Ok handler → IsTarget before w handler
target_fits before at w handler there e =
    handler_fits before w 0 at handler (subst (λ (o : Option ℕ). word_said (handler_named before o) 0 at ≡ Ok handler) there e)

window_first : (before : SoFar) (kinds : List Kind) (at : At) (x : ℕ × SaidAll kinds) → said_all before (a_window ∷ kinds) at ≡ Ok x →
    (x.0 < length before.windows) × ((after before a_window at).window ≡ Some x.0) × (said_all before kinds (after before a_window at) ≡ Ok x.1)
window_first before kinds at x e =
    let word = head_said before a_window kinds at x e in
    (window_fits before at x.0 word, window_is before at x.0 word, tail_said before a_window kinds at x e)

-- a line that is read where it may stand makes a deed that fits
pub line_fits : (before : SoFar) (st : Statement) (at : At) (x : SaidAll (form_of st).kinds) → misplaced (site_of before) (seat_of st) ≡ None →
    said_all before (form_of st).kinds at ≡ Ok x → Fits before ((form_of st).makes x)
unfolding form_of
line_fits before statement.Screen at x m e =
    let width = number_fits 1 1024 x.0 at (head_said before (a_number 1 1024) (a_number 1 768 ∷ []) at x e) in
    let rest = tail_said before (a_number 1 1024) (a_number 1 768 ∷ []) at x e in
    let height = number_fits 1 768 x.1.0 (behind 1 at) (head_said before (a_number 1 768) [] (behind 1 at) x.1 rest) in
    (width.1, height.1)
line_fits before statement.Bitmap at x m e =
    let name = new_fits (bitmap_names before) at x.0 (head_said before a_new_bitmap (a_number 1 256 ∷ a_number 1 256 ∷ []) at x e) in
    let rest = tail_said before a_new_bitmap (a_number 1 256 ∷ a_number 1 256 ∷ []) at x e in
    let width = number_fits 1 256 x.1.0 (behind 1 at) (head_said before (a_number 1 256) (a_number 1 256 ∷ []) (behind 1 at) x.1 rest) in
    let last = tail_said before (a_number 1 256) (a_number 1 256 ∷ []) (behind 1 at) x.1 rest in
    let height = number_fits 1 256 x.1.1.0 (behind 1 (behind 1 at)) (head_said before (a_number 1 256) [] (behind 1 (behind 1 at)) x.1.1 last) in
    (apart before.screen before.begun m, name, width.0, width.1, height.0, height.1)
line_fits before statement.Row at x m e =
    among_rows before.screen before.begun (length x.0) m (row_fits (row_width before.begun) at x.0 (head_said before some_pixels [] at x e))
line_fits before statement.Window at x m e =
    (apart before.screen before.begun m, new_fits (window_names before) at x.0 (head_said before a_new_window (a_window_frame ∷ some_options ∷ []) at x e))
line_fits before statement.View at x m e =
    let window = window_first before (a_new_handler ∷ a_view ∷ a_frame ∷ an_across ∷ a_down ∷ a_last_color ∷ []) at x e in
    let next = after before a_window at in
    let name = new_handler_fits before next x.0 x.1.0 window.1 (head_said before a_new_handler (a_view ∷ a_frame ∷ an_across ∷ a_down ∷ a_last_color ∷ []) next x.1 window.2) in
    let rest = tail_said before a_new_handler (a_view ∷ a_frame ∷ an_across ∷ a_down ∷ a_last_color ∷ []) next x.1 window.2 in
    let parent = view_fits before (behind 1 next) x.0 x.1.1.0 window.1 (head_said before a_view (a_frame ∷ an_across ∷ a_down ∷ a_last_color ∷ []) (behind 1 next) x.1.1 rest) in
    (apart before.screen before.begun m, window.0, name, parent)
line_fits before statement.Handler at x m e =
    let window = window_first before (a_new_handler ∷ a_handler ∷ []) at x e in
    let next = after before a_window at in
    let name = new_handler_fits before next x.0 x.1.0 window.1 (head_said before a_new_handler (a_handler ∷ []) next x.1 window.2) in
    let rest = tail_said before a_new_handler (a_handler ∷ []) next x.1 window.2 in
    let handler = target_fits before (behind 1 next) x.0 x.1.1.0 window.1 (head_said before a_handler [] (behind 1 next) x.1.1 rest) in
    (apart before.screen before.begun m, window.0, name, handler)
line_fits before statement.Filter at x m e =
    let window = window_first before (a_list ∷ a_filter_what ∷ a_rule ∷ []) at x e in
    let next = after before a_window at in
    let listed = head_said before a_list (a_filter_what ∷ a_rule ∷ []) next x.1 window.2 in
    let named = subst (λ (o : Option ℕ). word_said (list_named before o) 0 next ≡ Ok x.1.0) window.1 listed in
    let rest = tail_said before a_list (a_filter_what ∷ a_rule ∷ []) next x.1 window.2 in
    let last = tail_said before a_filter_what (a_rule ∷ []) (behind 1 next) x.1.1 rest in
    let rule = rule_fits before x.0 (behind 1 (behind 1 next)) x.1.1.1.0 window.1 (head_said before a_rule [] (behind 1 (behind 1 next)) x.1.1.1 last) in
    (apart before.screen before.begun m, window.0, list_fits before x.0 next x.1.0 named, rule)
line_fits before statement.On at x m e =
    let window = window_first before (a_handler ∷ a_what ∷ []) at x e in
    let next = after before a_window at in
    let handler = target_fits before next x.0 x.1.0 window.1 (head_said before a_handler (a_what ∷ []) next x.1 window.2) in
    (apart before.screen before.begun m, window.0, handler)
line_fits before statement.Draw at x m e =
    let window = window_first before (a_view ∷ []) at x e in
    let next = after before a_window at in
    let view = view_fits before next x.0 x.1.0 window.1 (head_said before a_view [] next x.1 window.2) in
    (apart before.screen before.begun m, window.0, view)
line_fits before statement.App at x m e =
    (apart before.screen before.begun m, new_fits (app_names before) at x.0 (head_said before a_new_app [] at x e))
line_fits before statement.Press at x m e = apart before.screen before.begun m
line_fits before statement.Release at x m e = apart before.screen before.begun m
line_fits before statement.Point at x m e = apart before.screen before.begun m
line_fits before statement.Key at x m e = apart before.screen before.begun m
line_fits before statement.After at x m e = apart before.screen before.begun m
line_fits before statement.End at x m e = within before.screen before.begun _ m
line_fits before statement.Note at x m e = (within before.screen before.begun _ m, tt)
line_fits before statement.Post at x m e = (within before.screen before.begun _ m, tt)
line_fits before statement.Send at x m e = (within before.screen before.begun _ m, tt)
line_fits before statement.Reply at x m e = (within before.screen before.begun _ m, tt)
line_fits before statement.Forward at x m e = (within before.screen before.begun _ m, tt)
line_fits before statement.Lock at x m e = (within before.screen before.begun _ m, (window_first before [] at x e).0)
line_fits before statement.Unlock at x m e = (within before.screen before.begun _ m, tt)
line_fits before statement.Flush at x m e = (within before.screen before.begun _ m, tt)
line_fits before statement.Sync at x m e = (within before.screen before.begun _ m, tt)
line_fits before (statement.Command word) at x m e = (within before.screen before.begun _ m, tt)

pub deed_fits : (before : SoFar) (st : Statement) (at : At) (deed : Deed) → misplaced (site_of before) (seat_of st) ≡ None → deed_said before st at ≡ Ok deed → Fits before deed
unfolding deed_said
deed_fits before st at deed m e =
    let x = ok-said_as (form_of st).makes (said_all before (form_of st).kinds at) deed e in
    subst (Fits before) x.1.1 (line_fits before st at x.0 m x.1.0)

-- what was given is what was due
pub due_is : {A B : Type 0} (f : A → B) (due : Result B Reason) (given : Result A LineFault) (a : A) → given ≡ Ok a →
    IsDue due (result_map_both f (λ fault. fault) given) → due ≡ Ok (f a)
due_is f due (Ok b) a e d = let same : b ≡ a = (cc) in d ∙ ap (λ x. Ok (f x)) same
due_is f due (Err fault) a e d = absurd ((cc))
