-- The words of an entry say it, and no other words do.
use Rattle.std.proofs.Common.{◌≡◌, ℕ, ◌<◌, Bool, cond, List, [], ◌∷◌, ◌++◌, length, Option, Some, None, option_and_then, decimal, refl, sym, ap, subst, ◌∙◌, arith, append-nil}
use Rattle.std.specs.Str.{bytes_eq}
use Rattle.std.proofs.lemmas.Option.{cond_some, some_pair_parts, same_Some}
use Rattle.std.proofs.lemmas.Slice.Eq.{bytes_eq-Decides}
use Rattle.be_command.specs.Names.{number_in}
use Rattle.be_script.specs.Limits.{IsWithinLimits}
use Rattle.be_script.specs.Script.{Declared}
use Rattle.be_machine.specs.Activities.{activities}
use Rattle.be_machine.specs.declared.Act.{Act}
use Rattle.be_machine.specs.declared.Entry.{Entry}
use Rattle.be_report.specs.Entries.{maker, act_read, numbered, entry_of}
use Rattle.be_written.specs.EntryText.{act_words, entry_words}
use Rattle.be_written.specs.Names.{actor_names, actor_name}
use Rattle.be_report.specs.Possible.{IsPossible}
use Rattle.be_report.specs.Readers.{Reader, ◌>>=◌, gives, exactly, place_in, unless_more}
use Rattle.be_report.proofs.ActorWords.{length-actor_names, different-actor_names}
use Rattle.be_report.proofs.ActWords.{act_read-words, act_read_alone}
use Rattle.be_report.proofs.NameWords.{number_back, number_alone}
use Rattle.be_report.proofs.Readings.{Words, next_back, next_alone, bind_back, bind_alone}

-- ---- the one word that is expected

abbrev pub expects : List ℕ → List ℕ → Option (Unit {0})
expects expected word = cond (bytes_eq word expected) (Some (tt {0})) None

pub exactly_back : (word : List ℕ) (rest : Words) → exactly word (word ∷ rest) ≡ Some (tt {0}, rest)
exactly_back word rest = next_back (expects word) word rest (tt {0}) (ap (λ (b : Bool). cond b (Some (tt {0})) None) ((bytes_eq-Decides word word).1 refl))

pub exactly_alone : (word : List ℕ) (words : Words) (x : Unit {0}) (rest : Words) → exactly word words ≡ Some (x, rest) → words ≡ word ∷ rest
exactly_alone word words x rest e =
    let next = next_alone (expects word) words x rest e in
    let test = cond_some (bytes_eq next.word word) (tt {0}) x next.says in
    next.is ∙ ap (λ (w : List ℕ). w ∷ rest) ((bytes_eq-Decides next.word word).0 test.0)

-- ---- the number and the maker

maker_back : (d : Declared) (k a : ℕ) (rest : Words) → IsWithinLimits d → a < activities d → maker d k (decimal k ∷ actor_name d a ∷ rest) ≡ Some (a, rest)
unfolding maker
maker_back d k a rest limits lt =
    let same = length-actor_names d in
    let within : a < length (actor_names d) = omega arith in
    bind_back (exactly (decimal k)) (λ (_ : Unit {0}). place_in (actor_names d)) (decimal k ∷ actor_name d a ∷ rest) (actor_name d a ∷ rest) (tt {0}) (Some (a, rest)) (exactly_back (decimal k) (actor_name d a ∷ rest))
    (next_back (number_in (actor_names d)) (actor_name d a) rest a (number_back (actor_names d) a (different-actor_names d limits) within))

maker_alone : (d : Declared) (k : ℕ) (words : Words) (a : ℕ) (rest : Words) → maker d k words ≡ Some (a, rest) → (words ≡ decimal k ∷ actor_name d a ∷ rest) × (a < activities d)
unfolding maker
maker_alone d k words a rest e =
    let s = bind_alone (exactly (decimal k)) (λ (_ : Unit {0}). place_in (actor_names d)) words a rest e in
    let front = exactly_alone (decimal k) words s.from s.mid s.first in
    let next = next_alone (number_in (actor_names d)) s.mid a rest s.second in
    let found = number_alone (actor_names d) next.word a next.says in
    let same = length-actor_names d in
    let within = found.0 in
    (front ∙ ap (λ (ws : Words). decimal k ∷ ws) (next.is ∙ ap (λ (w : List ℕ). w ∷ rest) (sym found.1)), omega arith)

-- ---- an entry

numbered_back : (d : Declared) (k : ℕ) (e : Entry) → IsWithinLimits d → IsPossible d e → numbered d k (entry_words d k e) ≡ Some (e, [])
unfolding numbered
numbered_back d k e limits possible =
    bind_back (maker d k) (λ (a : ℕ). act_read d >>= λ done. gives (record { actor = a; act = done })) (entry_words d k e) (act_words d e.act) e.actor (Some (e, [])) (maker_back d k e.actor (act_words d e.act) limits possible.maker)
    (bind_back (act_read d) (λ (done : Act). gives (record { actor = e.actor; act = done })) (act_words d e.act) [] e.act (Some (e, [])) (act_read-words d e.act limits possible.act) refl)

pub words_say_their_entry : (d : Declared) (k : ℕ) (e : Entry) → IsWithinLimits d → IsPossible d e → entry_of d k (entry_words d k e) ≡ Some e
unfolding entry_of
words_say_their_entry d k e limits possible = ap (option_and_then (λ (p : Entry × Words). unless_more p.0 p.1)) (numbered_back d k e limits possible)

-- what all words say leaves none
pub record IsAll {X : Type 0} (read : Reader X) (words : Words) (x : X) : Type 0 where
  pub all : read words ≡ Some (x, [])

none_left : {X : Type 0} (read : Reader X) (words : Words) (y : X) (rest : Words) (x : X) → read words ≡ Some (y, rest) → unless_more y rest ≡ Some x → IsAll read words x
none_left {X} read words y [] x r e = record { all = r ∙ ap (λ (z : X). Some (z, [])) (same_Some y x e) }
none_left read words y (word ∷ rest) x r e = (cc)

all_by : {X : Type 0} (read : Reader X) (words : Words) (o : Option (X × Words)) (x : X) → read words ≡ o → option_and_then (λ (p : X × Words). unless_more p.0 p.1) o ≡ Some x → IsAll read words x
all_by read words (Some p) x r e = none_left read words p.0 p.1 x r e
all_by read words None x r e = (cc)

pub all_alone : {X : Type 0} (read : Reader X) (words : Words) (x : X) → option_and_then (λ (p : X × Words). unless_more p.0 p.1) (read words) ≡ Some x → IsAll read words x
all_alone read words x e = all_by read words (read words) x refl e

numbered_alone : (d : Declared) (k : ℕ) (e : Entry) (words rest : Words) → numbered d k words ≡ Some (e, rest) → (words ≡ entry_words d k e ++ rest) × IsPossible d e
unfolding numbered
numbered_alone d k e words rest h =
    let s = bind_alone (maker d k) (λ (a : ℕ). act_read d >>= λ done. gives (record { actor = a; act = done })) words e rest h in
    let t = bind_alone (act_read d) (λ (done : Act). gives (record { actor = s.from; act = done })) s.mid e rest s.second in
    let entry : Entry = record { actor = s.from; act = t.from } in
    let made = some_pair_parts entry e t.mid rest t.second in
    let who = maker_alone d k words s.from s.mid s.first in
    let done = act_read_alone d s.mid t.from t.mid t.first in
    subst (λ (x : Entry). (words ≡ entry_words d k x ++ rest) × IsPossible d x) made.0
    (who.0 ∙ ap (λ (ws : Words). decimal k ∷ actor_name d s.from ∷ ws) (done.0 ∙ ap (λ (ws : Words). act_words d t.from ++ ws) made.1), record { maker = who.1; act = done.1 })

pub no_other_words : (d : Declared) (k : ℕ) (e : Entry) (words : Words) → entry_of d k words ≡ Some e → (words ≡ entry_words d k e) × IsPossible d e
unfolding entry_of
no_other_words d k e words h =
    let all = all_alone (numbered d k) words e h in
    let r = numbered_alone d k e words [] all.all in
    (r.0 ∙ append-nil (entry_words d k e), r.1)
