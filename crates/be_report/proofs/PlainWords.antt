-- The words of an entry are plain, so that its line is cut into them again.
use Rattle.std.proofs.Common.{◌≡◌, ℕ, ◌^◌, ◌<◌, Bool, true, false, not, ◌&&◌, nat_le, List, [], ◌∷◌, ◌++◌, length, map, flat_map, Option, Some, None, decimal, refl, ap, ◌∙◌, arith}
use Rattle.std.specs.Char.{is_ascii_lowercase}
use Rattle.std.specs.List.{list_all}
use Rattle.std.proofs.lemmas.Bool.{and_parts, and_from}
use Rattle.std.proofs.lemmas.Bool.Decides.{nat_tests}
use Rattle.std.proofs.lemmas.List.Folds.{list_all-append}
use Rattle.be_facts.specs.Names.{is_name_byte}
use Rattle.be_lex.proofs.Spelling.{list_all_weaker}
use Rattle.be_port.specs.declared.Posted.{Posted}
use Rattle.be_port.specs.declared.Posted.TheVariants.{Accepted, WouldBlock, BadPort, TooDeep}
use Rattle.be_twin.specs.declared.Outcome.{Outcome}
use Rattle.be_twin.specs.declared.Outcome.TheVariants as outcome
use Rattle.be_script.specs.Limits.{IsWithinLimits}
use Rattle.be_script.specs.Names.{is_reserved_name, is_declared_name, are_different, are_names}
use Rattle.be_script.specs.Programs.{is_note}
use Rattle.be_script.specs.Script.{Declared}
use Rattle.be_script.specs.declared.WindowLine.{WindowLine}
use Rattle.be_machine.specs.Activities.{activities}
use Rattle.be_machine.specs.declared.Act.{Act}
use Rattle.be_machine.specs.declared.Act.TheVariants as act
use Rattle.be_machine.specs.declared.Answered.{Answered}
use Rattle.be_machine.specs.declared.Answered.TheVariants as answered
use Rattle.be_machine.specs.declared.EndAnswer.{EndAnswer}
use Rattle.be_machine.specs.declared.EndAnswer.TheVariants as end
use Rattle.be_machine.specs.declared.Entry.{Entry}
use Rattle.be_machine.specs.declared.Replied.{Replied}
use Rattle.be_machine.specs.declared.Replied.TheVariants as reply
use Rattle.be_report.specs.declared.kind.Kind.{Kind}
use Rattle.be_report.specs.declared.kind.Kind.TheVariants as kind
use Rattle.be_written.specs.EntryText.{posted_words, replied_word, answered_word, outcome_word, begin_word, end_word, delivery_words, act_words}
use Rattle.be_report.specs.Lines.{is_plain}
use Rattle.be_written.specs.Names.{window_names, window_name, app_names, app_actor, window_actors, last_actors, actor_names, actor_name}
use Rattle.be_report.specs.Possible.{IsAnswer, IsPost, AreDeliveries, IsActOf, IsPossible}
use Rattle.be_written.proofs.ActorNames.{names_of}
use Rattle.be_report.proofs.ActorWords.{length-actor_names, length-window_names}
use Rattle.be_report.proofs.ActWords.{kind_for, kind_word, tail, words_are}
use Rattle.be_report.proofs.NameWords.{passes_at, passes_weaker}
use Rattle.be_report.proofs.NumberWords.{plain-decimal}
use Rattle.be_report.proofs.Splits.{plain_byte, are_plain}

-- ---- names

lower_plain : (b : ℕ) → is_ascii_lowercase b ≡ true → plain_byte b ≡ true
lower_plain b h = grind (arith, nat_tests)

name_byte_plain : (b : ℕ) → is_name_byte b ≡ true → plain_byte b ≡ true
name_byte_plain b h = grind (arith, nat_tests)

name_plain : (name : List ℕ) → is_declared_name name ≡ true → is_plain name ≡ true
unfolding is_declared_name
name_plain [] h = (cc)
name_plain (b ∷ bytes) h =
    let whole = and_parts (is_ascii_lowercase b && list_all is_name_byte bytes && nat_le (length (b ∷ bytes)) 16) (not (is_reserved_name (b ∷ bytes))) h in
    let form = and_parts (is_ascii_lowercase b && list_all is_name_byte bytes) (nat_le (length (b ∷ bytes)) 16) whole.0 in
    let letters = and_parts (is_ascii_lowercase b) (list_all is_name_byte bytes) form.0 in
    and_from (plain_byte b) (is_plain bytes) (lower_plain b letters.0) (list_all_weaker is_name_byte plain_byte name_byte_plain bytes letters.1)

names_plain : (names : List (List ℕ)) → are_names names ≡ true → are_plain names ≡ true
unfolding are_names
names_plain names h = passes_weaker is_declared_name is_plain name_plain names (and_parts (list_all is_declared_name names) (are_different names) h).0

window_plain : (d : Declared) (w : ℕ) → IsWithinLimits d → w < length d.windows → is_plain (window_name d w) ≡ true
window_plain d w limits lt =
    let same = length-window_names d in
    let within : w < length (window_names d) = omega arith in
    passes_at is_plain (window_names d) w (names_plain (window_names d) limits.names) within

apps_plain : (names : List (List ℕ)) → are_plain names ≡ true → are_plain (map app_actor names) ≡ true
apps_plain [] h = refl
apps_plain (name ∷ names) h =
    let parts = and_parts (is_plain name) (are_plain names) h in
    and_from (is_plain (app_actor name)) (are_plain (map app_actor names)) parts.0 (apps_plain names parts.1)

windows_plain : (lines : List WindowLine) → are_plain (names_of lines) ≡ true → are_plain (flat_map window_actors lines) ≡ true
windows_plain [] h = refl
windows_plain (line ∷ lines) h =
    let parts = and_parts (is_plain line.name) (are_plain (names_of lines)) h in
    and_from (is_plain line.name) (is_plain line.name && are_plain (flat_map window_actors lines)) parts.0
    (and_from (is_plain line.name) (are_plain (flat_map window_actors lines)) parts.0 (windows_plain lines parts.1))

actors_plain : (d : Declared) → IsWithinLimits d → are_plain (actor_names d) ≡ true
unfolding actor_names
actors_plain d limits =
    let apps = map app_actor (app_names d) in
    let windows = flat_map window_actors d.windows in
    list_all-append is_plain (apps ++ windows) last_actors
    ∙ and_from (are_plain (apps ++ windows)) (are_plain last_actors)
    (list_all-append is_plain apps windows ∙ and_from (are_plain apps) (are_plain windows) (apps_plain (app_names d) (names_plain (app_names d) limits.app_names)) (windows_plain d.windows (names_plain (window_names d) limits.names))) refl

pub actor_plain : (d : Declared) (a : ℕ) → IsWithinLimits d → a < activities d → is_plain (actor_name d a) ≡ true
actor_plain d a limits lt =
    let same = length-actor_names d in
    let within : a < length (actor_names d) = omega arith in
    passes_at is_plain (actor_names d) a (actors_plain d limits) within

-- ---- parts of acts

one_plain : (word : List ℕ) → is_plain word ≡ true → are_plain (word ∷ []) ≡ true
one_plain word h = and_from (is_plain word) true h refl

share_plain : (n : ℕ) → n < 2 ^ 32 → is_plain (decimal n) ≡ true
share_plain n small = plain-decimal n (omega arith)

posted_plain : (p : Posted) → IsAnswer p → are_plain (posted_words p) ≡ true
posted_plain (Accepted n) fits = one_plain (decimal n) (plain-decimal n fits)
posted_plain (WouldBlock n) fits = one_plain (decimal n) (share_plain n fits)
posted_plain BadPort fits = refl
posted_plain TooDeep fits = refl

delivery_plain : (d : Declared) (p : ℕ × Posted) → IsWithinLimits d → IsPost d p → are_plain (delivery_words d (Some p)) ≡ true
delivery_plain d p limits fits = and_from (is_plain (window_name d p.0)) (are_plain (posted_words p.1)) (window_plain d p.0 limits fits.0) (posted_plain p.1 fits.1)

deliveries_plain : (d : Declared) (first second : Option (ℕ × Posted)) → IsWithinLimits d → AreDeliveries d first second → are_plain (delivery_words d first ++ delivery_words d second) ≡ true
deliveries_plain d (Some p) (Some q) limits fits =
    list_all-append is_plain (delivery_words d (Some p)) (delivery_words d (Some q)) ∙ and_from (are_plain (delivery_words d (Some p))) (are_plain (delivery_words d (Some q))) (delivery_plain d p limits fits.0) (delivery_plain d q limits fits.1)
deliveries_plain d (Some p) None limits fits = list_all-append is_plain (delivery_words d (Some p)) [] ∙ and_from (are_plain (delivery_words d (Some p))) true (delivery_plain d p limits fits) refl
deliveries_plain d None None limits fits = refl
deliveries_plain d None (Some q) limits fits = absurd fits

replied_plain : (x : Replied) → is_plain (replied_word x) ≡ true
replied_plain reply.Accepted = refl
replied_plain reply.Duplicate = refl
replied_plain reply.Unwanted = refl

answered_plain : (x : Answered) → is_plain (answered_word x) ≡ true
answered_plain answered.Reply = refl
answered_plain answered.NoReply = refl
answered_plain answered.Unknown = refl

outcome_plain : (x : Outcome) → is_plain (outcome_word x) ≡ true
outcome_plain outcome.Done = refl
outcome_plain outcome.StackFull = refl
outcome_plain outcome.StackEmpty = refl
outcome_plain outcome.NoView = refl
outcome_plain outcome.NoBitmap = refl
outcome_plain outcome.OffRange = refl
outcome_plain outcome.Gone = refl

begin_plain : (x : Bool) → is_plain (begin_word x) ≡ true
begin_plain true = refl
begin_plain false = refl

end_plain : (x : EndAnswer) → is_plain (end_word x) ≡ true
end_plain end.Nothing = refl
end_plain end.NoReply = refl
end_plain end.Unknown = refl

note_plain : (word : List ℕ) → is_note word ≡ true → is_plain word ≡ true
note_plain word h = (and_parts (nat_le 1 (length word) && nat_le (length word) 32) (is_plain word) h).1

-- ---- acts

two_plain : (one other : List ℕ) → is_plain one ≡ true → is_plain other ≡ true → are_plain (one ∷ other ∷ []) ≡ true
two_plain one other h k = and_from (is_plain one) (are_plain (other ∷ [])) h (one_plain other k)

tail_plain : (d : Declared) (a : Act) → IsWithinLimits d → IsActOf d a → are_plain (tail d a) ≡ true
unfolding IsActOf
tail_plain d (act.Post w answer) limits fits = and_from (is_plain (window_name d w)) (are_plain (posted_words answer)) (window_plain d w limits fits.0) (posted_plain answer fits.1)
tail_plain d (act.Take n) limits fits = one_plain (decimal n) (plain-decimal n fits)
tail_plain d (act.Note word) limits fits = one_plain word (note_plain word fits)
tail_plain d (act.Reply answer) limits fits = one_plain (replied_word answer) (replied_plain answer)
tail_plain d (act.Claim answer) limits fits = one_plain (answered_word answer) (answered_plain answer)
tail_plain d (act.Lock w) limits fits = one_plain (window_name d w) (window_plain d w limits fits)
tail_plain d (act.Unlock w) limits fits = one_plain (window_name d w) (window_plain d w limits fits)
tail_plain d (act.Draw w n) limits fits = two_plain (window_name d w) (decimal n) (window_plain d w limits fits.0) (plain-decimal n fits.1)
tail_plain d (act.Flush w n) limits fits = two_plain (window_name d w) (decimal n) (window_plain d w limits fits.0) (share_plain n fits.1)
tail_plain d (act.SyncDone w) limits fits = one_plain (window_name d w) (window_plain d w limits fits)
tail_plain d (act.Exec n outcome) limits fits = two_plain (decimal n) (outcome_word outcome) (plain-decimal n fits) (outcome_plain outcome)
tail_plain d (act.Notify n) limits fits = one_plain (decimal n) (plain-decimal n fits)
tail_plain d (act.Begin opens) limits fits = one_plain (begin_word opens) (begin_plain opens)
tail_plain d (act.Event k first second) limits fits = and_from (is_plain (decimal k)) (are_plain (delivery_words d first ++ delivery_words d second)) (plain-decimal k fits.0) (deliveries_plain d first second limits fits.1)
tail_plain d (act.End answer) limits fits = one_plain (end_word answer) (end_plain answer)
tail_plain d act.Stop limits fits = refl

kind_plain : (k : Kind) → is_plain (kind_word k) ≡ true
kind_plain kind.Post = refl
kind_plain kind.Take = refl
kind_plain kind.Note = refl
kind_plain kind.Reply = refl
kind_plain kind.Claim = refl
kind_plain kind.Lock = refl
kind_plain kind.Unlock = refl
kind_plain kind.Draw = refl
kind_plain kind.Flush = refl
kind_plain kind.SyncDone = refl
kind_plain kind.Exec = refl
kind_plain kind.Notify = refl
kind_plain kind.Begin = refl
kind_plain kind.Event = refl
kind_plain kind.End = refl
kind_plain kind.Stop = refl

act_plain : (d : Declared) (a : Act) → IsWithinLimits d → IsActOf d a → are_plain (act_words d a) ≡ true
act_plain d a limits fits = ap are_plain (words_are d a) ∙ and_from (is_plain (kind_word (kind_for a))) (are_plain (tail d a)) (kind_plain (kind_for a)) (tail_plain d a limits fits)

-- the words of an entry behind its number
pub entry_plain : (d : Declared) (e : Entry) → IsWithinLimits d → IsPossible d e → are_plain (actor_name d e.actor ∷ act_words d e.act) ≡ true
entry_plain d e limits possible = and_from (is_plain (actor_name d e.actor)) (are_plain (act_words d e.act)) (actor_plain d e.actor limits possible.maker) (act_plain d e.act limits possible.act)
