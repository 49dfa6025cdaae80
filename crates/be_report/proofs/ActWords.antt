-- The words of acts: what is written of each is read, and no other words are.
use Rattle.std.proofs.Common.{◌≡◌, ℕ, List, [], ◌∷◌, ◌++◌, Option, Some, None, codes, decimal, refl, sym, ap, subst, ◌∙◌, append_assoc, append-nil}
use Rattle.std.proofs.lemmas.Option.{some_pair_parts}
use Rattle.be_port.specs.declared.Posted.{Posted}
use Rattle.be_script.specs.Limits.{IsWithinLimits}
use Rattle.be_script.specs.Script.{Declared}
use Rattle.be_machine.specs.declared.Act.{Act}
use Rattle.be_machine.specs.declared.Act.TheVariants as act
use Rattle.be_report.specs.declared.kind.Kind.{Kind}
use Rattle.be_report.specs.declared.kind.Kind.TheVariants as kind
use Rattle.be_report.specs.Entries.{window, count, share, posted, delivery, replies, answers, outcomes, begins, ends, kinds, kind_of, act_of, act_read}
use Rattle.be_written.specs.EntryText.{posted_words, replied_word, answered_word, outcome_word, begin_word, end_word, delivery_words, act_words}
use Rattle.be_written.specs.Names.{window_name}
use Rattle.be_report.specs.Possible.{AreDeliveries, IsActOf}
use Rattle.be_report.specs.Readers.{Reader, ◌>>=◌, gives, next_word, one_of, optional, note_of}
use Rattle.be_report.proofs.PartWords.{window_back, window_alone, count_back, count_alone, share_back, share_alone, posted_whole, posted_alone, delivery_back, delivery_alone, replied_back, replied_alone, answered_back, answered_alone, outcome_back, outcome_alone, opened_back, opened_alone, end_back, end_alone, note_back, note_alone}
use Rattle.be_report.proofs.Readings.{Words, next_back, next_alone, bind_back, bind_alone, one_back, one_alone, two_back, two_alone, optional_back, IsOptional, optional_alone, lookup_alone}

-- ---- the first word

abbrev pub kind_for : Act → Kind
kind_for (act.Post w answer) = kind.Post
kind_for (act.Take n) = kind.Take
kind_for (act.Note word) = kind.Note
kind_for (act.Reply answer) = kind.Reply
kind_for (act.Claim answer) = kind.Claim
kind_for (act.Lock w) = kind.Lock
kind_for (act.Unlock w) = kind.Unlock
kind_for (act.Draw w n) = kind.Draw
kind_for (act.Flush w n) = kind.Flush
kind_for (act.SyncDone w) = kind.SyncDone
kind_for (act.Exec n outcome) = kind.Exec
kind_for (act.Notify n) = kind.Notify
kind_for (act.Begin opens) = kind.Begin
kind_for (act.Event k first second) = kind.Event
kind_for (act.End answer) = kind.End
kind_for act.Stop = kind.Stop

abbrev pub kind_word : Kind → List ℕ
kind_word kind.Post = codes "post"
kind_word kind.Take = codes "take"
kind_word kind.Note = codes "note"
kind_word kind.Reply = codes "reply"
kind_word kind.Claim = codes "claim"
kind_word kind.Lock = codes "lock"
kind_word kind.Unlock = codes "unlock"
kind_word kind.Draw = codes "draw"
kind_word kind.Flush = codes "flush"
kind_word kind.SyncDone = codes "syncdone"
kind_word kind.Exec = codes "exec"
kind_word kind.Notify = codes "notify"
kind_word kind.Begin = codes "begin"
kind_word kind.Event = codes "event"
kind_word kind.End = codes "end"
kind_word kind.Stop = codes "stop"

kind_back : (k : Kind) → kind_of (kind_word k) ≡ Some k
unfolding kind_of
kind_back kind.Post = refl
kind_back kind.Take = refl
kind_back kind.Note = refl
kind_back kind.Reply = refl
kind_back kind.Claim = refl
kind_back kind.Lock = refl
kind_back kind.Unlock = refl
kind_back kind.Draw = refl
kind_back kind.Flush = refl
kind_back kind.SyncDone = refl
kind_back kind.Exec = refl
kind_back kind.Notify = refl
kind_back kind.Begin = refl
kind_back kind.Event = refl
kind_back kind.End = refl
kind_back kind.Stop = refl

kind_alone : (word : List ℕ) (k : Kind) → kind_of word ≡ Some k → word ≡ kind_word k
unfolding kind_of
kind_alone word k e =
    lookup_alone kind_word kinds word k (refl, (refl, (refl, (refl, (refl, (refl, (refl, (refl, (refl, (refl, (refl, (refl, (refl, (refl, (refl, (refl, tt)))))))))))))))) e

-- the words behind it
abbrev pub tail : Declared → Act → Words
tail d (act.Post w answer) = window_name d w ∷ posted_words answer
tail d (act.Take n) = decimal n ∷ []
tail d (act.Note word) = word ∷ []
tail d (act.Reply answer) = replied_word answer ∷ []
tail d (act.Claim answer) = answered_word answer ∷ []
tail d (act.Lock w) = window_name d w ∷ []
tail d (act.Unlock w) = window_name d w ∷ []
tail d (act.Draw w n) = window_name d w ∷ decimal n ∷ []
tail d (act.Flush w n) = window_name d w ∷ decimal n ∷ []
tail d (act.SyncDone w) = window_name d w ∷ []
tail d (act.Exec n outcome) = decimal n ∷ outcome_word outcome ∷ []
tail d (act.Notify n) = decimal n ∷ []
tail d (act.Begin opens) = begin_word opens ∷ []
tail d (act.Event k first second) = decimal k ∷ (delivery_words d first ++ delivery_words d second)
tail d (act.End answer) = end_word answer ∷ []
tail d act.Stop = []

pub words_are : (d : Declared) (a : Act) → act_words d a ≡ kind_word (kind_for a) ∷ tail d a
unfolding act_words
words_are d (act.Post w answer) = refl
words_are d (act.Take n) = refl
words_are d (act.Note word) = refl
words_are d (act.Reply answer) = refl
words_are d (act.Claim answer) = refl
words_are d (act.Lock w) = refl
words_are d (act.Unlock w) = refl
words_are d (act.Draw w n) = refl
words_are d (act.Flush w n) = refl
words_are d (act.SyncDone w) = refl
words_are d (act.Exec n outcome) = refl
words_are d (act.Notify n) = refl
words_are d (act.Begin opens) = refl
words_are d (act.Event k first second) = refl
words_are d (act.End answer) = refl
words_are d act.Stop = refl

-- ---- deliveries

-- all deliveries of an event
abbrev deliveries : Declared → ℕ → Reader Act
deliveries d k = optional (delivery d) >>= λ first. optional (delivery d) >>= λ second. gives (act.Event k first second)

second_back : (d : Declared) (k : ℕ) (first : Option (ℕ × Posted)) (p : ℕ × Posted) → IsWithinLimits d → AreDeliveries d (Some p) None
    → (optional (delivery d) >>= λ second. gives (act.Event k first second)) (delivery_words d (Some p)) ≡ Some (act.Event k first (Some p), [])
second_back d k first p limits fits =
    let read : delivery d (delivery_words d (Some p)) ≡ Some (p, []) = ap (delivery d) (sym (append-nil (delivery_words d (Some p)))) ∙ delivery_back d p [] limits fits in
    one_back (optional (delivery d)) (act.Event k first) (delivery_words d (Some p)) (Some p) (optional_back (delivery d) (window_name d p.0) (posted_words p.1) p [] read)

deliveries_back : (d : Declared) (k : ℕ) (first second : Option (ℕ × Posted)) → IsWithinLimits d → AreDeliveries d first second → deliveries d k (delivery_words d first ++ delivery_words d second) ≡ Some (act.Event k first second, [])
deliveries_back d k (Some p) (Some q) limits fits =
    let behind = delivery_words d (Some q) in
    bind_back (optional (delivery d)) (λ (first : Option (ℕ × Posted)). optional (delivery d) >>= λ second. gives (act.Event k first second)) (delivery_words d (Some p) ++ behind) behind (Some p) (Some (act.Event k (Some p) (Some q), []))
    (optional_back (delivery d) (window_name d p.0) (posted_words p.1 ++ behind) p behind (delivery_back d p behind limits fits.0)) (second_back d k (Some p) q limits fits.1)
deliveries_back d k (Some p) None limits fits =
    bind_back (optional (delivery d)) (λ (first : Option (ℕ × Posted)). optional (delivery d) >>= λ second. gives (act.Event k first second)) (delivery_words d (Some p) ++ []) [] (Some p) (Some (act.Event k (Some p) None, []))
    (optional_back (delivery d) (window_name d p.0) (posted_words p.1 ++ []) p [] (delivery_back d p [] limits fits)) refl
deliveries_back d k None None limits fits = refl
deliveries_back d k None (Some q) limits fits = absurd fits

-- ---- what is written of an act is read

pub act_of-tail : (d : Declared) (a : Act) → IsWithinLimits d → IsActOf d a → act_of d (kind_for a) (tail d a) ≡ Some (a, [])
unfolding act_of IsActOf
act_of-tail d (act.Post w answer) limits fits = two_back (window d) posted act.Post (tail d (act.Post w answer)) (posted_words answer) w answer (window_back d w (posted_words answer) limits fits.0) (posted_whole answer fits.1)
act_of-tail d (act.Take n) limits fits = one_back count act.Take (decimal n ∷ []) n (count_back n [] fits)
act_of-tail d (act.Note word) limits fits = one_back (next_word note_of) act.Note (word ∷ []) word (note_back word [] fits)
act_of-tail d (act.Reply answer) limits fits = one_back (one_of replies) act.Reply (replied_word answer ∷ []) answer (replied_back answer [])
act_of-tail d (act.Claim answer) limits fits = one_back (one_of answers) act.Claim (answered_word answer ∷ []) answer (answered_back answer [])
act_of-tail d (act.Lock w) limits fits = one_back (window d) act.Lock (window_name d w ∷ []) w (window_back d w [] limits fits)
act_of-tail d (act.Unlock w) limits fits = one_back (window d) act.Unlock (window_name d w ∷ []) w (window_back d w [] limits fits)
act_of-tail d (act.Draw w n) limits fits = two_back (window d) count act.Draw (tail d (act.Draw w n)) (decimal n ∷ []) w n (window_back d w (decimal n ∷ []) limits fits.0) (count_back n [] fits.1)
act_of-tail d (act.Flush w n) limits fits = two_back (window d) share act.Flush (tail d (act.Flush w n)) (decimal n ∷ []) w n (window_back d w (decimal n ∷ []) limits fits.0) (share_back n [] fits.1)
act_of-tail d (act.SyncDone w) limits fits = one_back (window d) act.SyncDone (window_name d w ∷ []) w (window_back d w [] limits fits)
act_of-tail d (act.Exec n outcome) limits fits = two_back count (one_of outcomes) act.Exec (tail d (act.Exec n outcome)) (outcome_word outcome ∷ []) n outcome (count_back n (outcome_word outcome ∷ []) fits) (outcome_back outcome [])
act_of-tail d (act.Notify n) limits fits = one_back count act.Notify (decimal n ∷ []) n (count_back n [] fits)
act_of-tail d (act.Begin opens) limits fits = one_back (one_of begins) act.Begin (begin_word opens ∷ []) opens (opened_back opens [])
act_of-tail d (act.Event k first second) limits fits =
    bind_back count (deliveries d) (tail d (act.Event k first second)) (delivery_words d first ++ delivery_words d second) k (Some (act.Event k first second, []))
    (count_back k (delivery_words d first ++ delivery_words d second) fits.0) (deliveries_back d k first second limits fits.1)
act_of-tail d (act.End answer) limits fits = one_back (one_of ends) act.End (end_word answer ∷ []) answer (end_back answer [])
act_of-tail d act.Stop limits fits = refl

pub act_read-words : (d : Declared) (a : Act) → IsWithinLimits d → IsActOf d a → act_read d (act_words d a) ≡ Some (a, [])
unfolding act_read
act_read-words d a limits fits =
    ap (act_read d) (words_are d a)
    ∙ bind_back (next_word kind_of) (act_of d) (kind_word (kind_for a) ∷ tail d a) (tail d a) (kind_for a) (Some (a, [])) (next_back kind_of (kind_word (kind_for a)) (tail d a) (kind_for a) (kind_back (kind_for a))) (act_of-tail d a limits fits)

-- ---- and no other words are

record IsSpelt (d : Declared) (k : Kind) (words : Words) (a : Act) (rest : Words) : Type 0 where
  same : kind_for a ≡ k
  is : words ≡ tail d a ++ rest
  fits : IsActOf d a

-- an event's deliveries
record AreSpelt (d : Declared) (words : Words) (first second : Option (ℕ × Posted)) (rest : Words) : Type 0 where
  is : words ≡ (delivery_words d first ++ delivery_words d second) ++ rest
  fit : AreDeliveries d first second

spelt_by : (d : Declared) (words mid : Words) (first second : Option (ℕ × Posted)) (rest : Words) → IsOptional (delivery d) words first mid → IsOptional (delivery d) mid second rest → AreSpelt d words first second rest
spelt_by d words mid (Some p) (Some q) rest one two =
    let front = delivery_alone d words p mid one in
    let back = delivery_alone d mid q rest two in
    record {
      is = front.is ∙ ap (λ (ws : Words). delivery_words d (Some p) ++ ws) back.is ∙ sym (append_assoc (delivery_words d (Some p)) (delivery_words d (Some q)) rest);
      fit = (front.fits, back.fits);
    }
spelt_by d words mid (Some p) None rest one two =
    let front = delivery_alone d words p mid one in
    record {
      is = front.is ∙ ap (λ (ws : Words). delivery_words d (Some p) ++ ws) (two.0 ∙ sym two.1) ∙ ap (λ (ws : Words). ws ++ rest) (sym (append-nil (delivery_words d (Some p))));
      fit = front.fits;
    }
spelt_by d words mid None None rest one two = record { is = one.0 ∙ sym two.1; fit = tt }
spelt_by d words mid None (Some q) rest one two =
    let back = delivery_alone d mid q rest two in
    let no : [] ≡ delivery_words d (Some q) ++ rest = sym one.1 ∙ back.is in
    (cc)

event_alone : (d : Declared) (words : Words) (a : Act) (rest : Words) → (count >>= deliveries d) words ≡ Some (a, rest) → IsSpelt d kind.Event words a rest
unfolding IsActOf
event_alone d words a rest e =
    let number = bind_alone count (deliveries d) words a rest e in
    let both = two_alone (optional (delivery d)) (optional (delivery d)) (act.Event number.from) number.mid a rest number.second in
    let k = count_alone words number.from number.mid number.first in
    let first = optional_alone (delivery d) number.mid both.from both.mid both.first in
    let second = optional_alone (delivery d) both.mid both.with rest both.second in
    let spelt = spelt_by d number.mid both.mid both.from both.with rest first second in
    subst (λ (x : Act). IsSpelt d kind.Event words x rest) both.made
    (record { same = refl; is = k.0 ∙ ap (λ (ws : Words). decimal number.from ∷ ws) spelt.is; fits = (k.1, spelt.fit) })

act_of_alone : (d : Declared) (k : Kind) (words : Words) (a : Act) (rest : Words) → act_of d k words ≡ Some (a, rest) → IsSpelt d k words a rest
unfolding act_of IsActOf
act_of_alone d kind.Post words a rest e =
    let s = two_alone (window d) posted act.Post words a rest e in
    let w = window_alone d words s.from s.mid s.first in
    let p = posted_alone s.mid s.with rest s.second in
    subst (λ (x : Act). IsSpelt d kind.Post words x rest) s.made (record { same = refl; is = w.0 ∙ ap (λ (ws : Words). window_name d s.from ∷ ws) p.is; fits = (w.1, p.fits) })
act_of_alone d kind.Take words a rest e =
    let s = one_alone count act.Take words a rest e in
    let n = count_alone words s.from rest s.first in
    subst (λ (x : Act). IsSpelt d kind.Take words x rest) s.made (record { same = refl; is = n.0; fits = n.1 })
act_of_alone d kind.Note words a rest e =
    let s = one_alone (next_word note_of) act.Note words a rest e in
    let n = note_alone words s.from rest s.first in
    subst (λ (x : Act). IsSpelt d kind.Note words x rest) s.made (record { same = refl; is = n.0; fits = n.1 })
act_of_alone d kind.Reply words a rest e =
    let s = one_alone (one_of replies) act.Reply words a rest e in
    subst (λ (x : Act). IsSpelt d kind.Reply words x rest) s.made (record { same = refl; is = replied_alone words s.from rest s.first; fits = tt })
act_of_alone d kind.Claim words a rest e =
    let s = one_alone (one_of answers) act.Claim words a rest e in
    subst (λ (x : Act). IsSpelt d kind.Claim words x rest) s.made (record { same = refl; is = answered_alone words s.from rest s.first; fits = tt })
act_of_alone d kind.Lock words a rest e =
    let s = one_alone (window d) act.Lock words a rest e in
    let w = window_alone d words s.from rest s.first in
    subst (λ (x : Act). IsSpelt d kind.Lock words x rest) s.made (record { same = refl; is = w.0; fits = w.1 })
act_of_alone d kind.Unlock words a rest e =
    let s = one_alone (window d) act.Unlock words a rest e in
    let w = window_alone d words s.from rest s.first in
    subst (λ (x : Act). IsSpelt d kind.Unlock words x rest) s.made (record { same = refl; is = w.0; fits = w.1 })
act_of_alone d kind.Draw words a rest e =
    let s = two_alone (window d) count act.Draw words a rest e in
    let w = window_alone d words s.from s.mid s.first in
    let n = count_alone s.mid s.with rest s.second in
    subst (λ (x : Act). IsSpelt d kind.Draw words x rest) s.made (record { same = refl; is = w.0 ∙ ap (λ (ws : Words). window_name d s.from ∷ ws) n.0; fits = (w.1, n.1) })
act_of_alone d kind.Flush words a rest e =
    let s = two_alone (window d) share act.Flush words a rest e in
    let w = window_alone d words s.from s.mid s.first in
    let n = share_alone s.mid s.with rest s.second in
    subst (λ (x : Act). IsSpelt d kind.Flush words x rest) s.made (record { same = refl; is = w.0 ∙ ap (λ (ws : Words). window_name d s.from ∷ ws) n.0; fits = (w.1, n.1) })
act_of_alone d kind.SyncDone words a rest e =
    let s = one_alone (window d) act.SyncDone words a rest e in
    let w = window_alone d words s.from rest s.first in
    subst (λ (x : Act). IsSpelt d kind.SyncDone words x rest) s.made (record { same = refl; is = w.0; fits = w.1 })
act_of_alone d kind.Exec words a rest e =
    let s = two_alone count (one_of outcomes) act.Exec words a rest e in
    let n = count_alone words s.from s.mid s.first in
    let o = outcome_alone s.mid s.with rest s.second in
    subst (λ (x : Act). IsSpelt d kind.Exec words x rest) s.made (record { same = refl; is = n.0 ∙ ap (λ (ws : Words). decimal s.from ∷ ws) o; fits = n.1 })
act_of_alone d kind.Notify words a rest e =
    let s = one_alone count act.Notify words a rest e in
    let n = count_alone words s.from rest s.first in
    subst (λ (x : Act). IsSpelt d kind.Notify words x rest) s.made (record { same = refl; is = n.0; fits = n.1 })
act_of_alone d kind.Begin words a rest e =
    let s = one_alone (one_of begins) act.Begin words a rest e in
    subst (λ (x : Act). IsSpelt d kind.Begin words x rest) s.made (record { same = refl; is = opened_alone words s.from rest s.first; fits = tt })
act_of_alone d kind.Event words a rest e = event_alone d words a rest e
act_of_alone d kind.End words a rest e =
    let s = one_alone (one_of ends) act.End words a rest e in
    subst (λ (x : Act). IsSpelt d kind.End words x rest) s.made (record { same = refl; is = end_alone words s.from rest s.first; fits = tt })
act_of_alone d kind.Stop words a rest e =
    let made = some_pair_parts act.Stop a words rest e in
    subst (λ (x : Act). IsSpelt d kind.Stop words x rest) made.0 (record { same = refl; is = made.1; fits = tt })

pub act_read_alone : (d : Declared) (words : Words) (a : Act) (rest : Words) → act_read d words ≡ Some (a, rest) → (words ≡ act_words d a ++ rest) × IsActOf d a
unfolding act_read
act_read_alone d words a rest e =
    let s = bind_alone (next_word kind_of) (act_of d) words a rest e in
    let first = next_alone kind_of words s.from s.mid s.first in
    let spelt = act_of_alone d s.from s.mid a rest s.second in
    let word : first.word ≡ kind_word (kind_for a) = kind_alone first.word s.from first.says ∙ ap kind_word (sym spelt.same) in
    (first.is ∙ ap (λ (w : List ℕ). w ∷ s.mid) word ∙ ap (λ (ws : Words). kind_word (kind_for a) ∷ ws) spelt.is ∙ ap (λ (ws : Words). ws ++ rest) (sym (words_are d a)), spelt.fits)
