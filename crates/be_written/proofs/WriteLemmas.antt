-- What is written, piece by piece.
use Rattle.std.proofs.Common.{◌≡◌, ℕ, zero, suc, ◌+◌, ◌*◌, ◌<◌, ◌≤◌, List, [], ◌∷◌, ◌++◌, length, get_or, drop, map, flat_map, Option, Result, OnOk, codes, refl, sym, ap, subst, ◌∙◌, arith, append_assoc, append-nil}
use Rattle.std.specs.List.{join_with_byte}
use Rattle.std.specs.Fmt.{decimal}
use Rattle.std.proofs.lemmas.List.{length-map, drop_all, drop_more, get_or_append_left, get_or-append_right}
use Rattle.be_facts.proofs.Lists.{on_ok_map}
use Rattle.be_machine.specs.declared.Act.{Act}
use Rattle.be_machine.specs.declared.Act.TheVariants.{Event}
use Rattle.be_machine.specs.declared.Entry.{Entry}
use Rattle.be_port.specs.declared.Posted.{Posted}
use Rattle.be_script.specs.Script.{Declared}
use Rattle.be_script.specs.declared.WindowLine.{WindowLine}
use Rattle.be_written.specs.EntryText.{delivery_words, act_words, entry_words, entries_from, history_text}
use Rattle.be_written.specs.Lines.{behind, line_of}
use Rattle.be_written.specs.Names.{app_names, app_actor, looper_actor, twin_actor, window_actors, last_actors, actor_names, window_name, app_name, actor_name}
use Rattle.be_written.proofs.ActorNames.{names_of, length_windows}

-- ---- one piece behind another

pub same_text : {E : Type 0} (r : Result (Unit {0}) E) (old new a b : List ℕ) → OnOk r (new ≡ old ++ a) → a ≡ b → OnOk r (new ≡ old ++ b)
same_text r old new a b is same = subst (λ (text : List ℕ). OnOk r (new ≡ old ++ text)) same is

pub appended : (old mid new a b : List ℕ) → mid ≡ old ++ a → new ≡ mid ++ b → new ≡ old ++ (a ++ b)
appended old mid new a b e k = k ∙ ap (λ (text : List ℕ). text ++ b) e ∙ append_assoc old a b

-- ---- lines

join_behind : (w : List ℕ) (ws : List (List ℕ)) → join_with_byte 32 (w ∷ ws) ≡ w ++ behind ws
join_behind w [] = sym (append-nil w)
join_behind w (v ∷ vs) = ap (λ (b : List ℕ). w ++ (32 ∷ b)) (join_behind v vs)

pub line_behind : (w : List ℕ) (ws : List (List ℕ)) → line_of (w ∷ ws) ≡ (w ++ behind ws) ++ 10 ∷ []
unfolding line_of
line_behind w ws = ap (λ (b : List ℕ). b ++ 10 ∷ []) (join_behind w ws)

behind_append : (xs ys : List (List ℕ)) → behind (xs ++ ys) ≡ behind xs ++ behind ys
behind_append [] ys = refl
behind_append (x ∷ xs) ys = ap (λ (b : List ℕ). (32 ∷ x) ++ b) (behind_append xs ys) ∙ sym (append_assoc (32 ∷ x) (behind xs) (behind ys))

-- ---- activities by their numbers

mapped_at : (names : List (List ℕ)) (n : ℕ) → n < length names → get_or (map app_actor names) n [] ≡ app_actor (get_or names n [])
mapped_at [] n lt = absurd (omega arith)
mapped_at (name ∷ names) zero lt = refl
mapped_at (name ∷ names) (suc n) lt = mapped_at names n (omega arith)

looper_in : (lines : List WindowLine) (others : List (List ℕ)) (w : ℕ) → w < length lines → get_or (flat_map window_actors lines ++ others) (2 * w) [] ≡ looper_actor (get_or (names_of lines) w [])
looper_in [] others w lt = absurd (omega arith)
looper_in (line ∷ lines) others zero lt = refl
looper_in (line ∷ lines) others (suc w) lt =
    let next : 2 * suc w ≡ suc (suc (2 * w)) = omega arith in
    ap (λ (n : ℕ). get_or (flat_map window_actors (line ∷ lines) ++ others) n []) next ∙ looper_in lines others w (omega arith)

twin_in : (lines : List WindowLine) (others : List (List ℕ)) (w : ℕ) → w < length lines → get_or (flat_map window_actors lines ++ others) (2 * w + 1) [] ≡ twin_actor (get_or (names_of lines) w [])
twin_in [] others w lt = absurd (omega arith)
twin_in (line ∷ lines) others zero lt = refl
twin_in (line ∷ lines) others (suc w) lt =
    let next : 2 * suc w + 1 ≡ suc (suc (2 * w + 1)) = omega arith in
    ap (λ (n : ℕ). get_or (flat_map window_actors (line ∷ lines) ++ others) n []) next ∙ twin_in lines others w (omega arith)

length_apps : (d : Declared) → length (map app_actor (app_names d)) ≡ length d.apps
length_apps d = length-map (app_names d) app_actor ∙ length-map d.apps (λ line. line.name)

-- those that stand behind the applications'
behind_apps : (d : Declared) (n k : ℕ) → n ≡ length d.apps + k → actor_name d n ≡ get_or (flat_map window_actors d.windows ++ last_actors) k []
unfolding actor_names
behind_apps d n k e =
    let apps = length_apps d in
    ap (λ (names : List (List ℕ)). get_or names n []) (append_assoc (map app_actor (app_names d)) (flat_map window_actors d.windows) last_actors)
    ∙ get_or-append_right (map app_actor (app_names d)) (flat_map window_actors d.windows ++ last_actors) (length d.apps) n [] apps (omega arith)
    ∙ ap (λ (i : ℕ). get_or (flat_map window_actors d.windows ++ last_actors) i []) (omega arith)

behind_windows : (d : Declared) (n k : ℕ) → n ≡ length d.apps + (2 * length d.windows + k) → actor_name d n ≡ get_or last_actors k []
behind_windows d n k e =
    behind_apps d n (2 * length d.windows + k) e
    ∙ get_or-append_right (flat_map window_actors d.windows) last_actors (2 * length d.windows) (2 * length d.windows + k) [] (length_windows d.windows) (omega arith)
    ∙ ap (λ (i : ℕ). get_or last_actors i []) (omega arith)

pub app_at : (d : Declared) (n : ℕ) → n < length d.apps → actor_name d n ≡ app_actor (app_name d n)
unfolding actor_names
app_at d n lt =
    let apps = length_apps d in
    let names = length-map d.apps (λ line. line.name) in
    ap (λ (all : List (List ℕ)). get_or all n []) (append_assoc (map app_actor (app_names d)) (flat_map window_actors d.windows) last_actors)
    ∙ get_or_append_left (map app_actor (app_names d)) (flat_map window_actors d.windows ++ last_actors) [] n (omega arith)
    ∙ mapped_at (app_names d) n (omega arith)

pub looper_at : (d : Declared) (n w : ℕ) → n ≡ length d.apps + 2 * w → w < length d.windows → actor_name d n ≡ looper_actor (window_name d w)
looper_at d n w e lt = behind_apps d n (2 * w) e ∙ looper_in d.windows last_actors w lt

pub twin_at : (d : Declared) (n w : ℕ) → n ≡ length d.apps + (2 * w + 1) → w < length d.windows → actor_name d n ≡ twin_actor (window_name d w)
twin_at d n w e lt = behind_apps d n (2 * w + 1) e ∙ twin_in d.windows last_actors w lt

pub input_at : (d : Declared) (n : ℕ) → n ≡ length d.apps + (2 * length d.windows + 0) → actor_name d n ≡ codes "input"
input_at d n e = behind_windows d n 0 e

pub stop_at : (d : Declared) (n : ℕ) → n ≡ length d.apps + (2 * length d.windows + 1) → actor_name d n ≡ codes "stop"
stop_at d n e = behind_windows d n 1 e

past_last : (k : ℕ) → 2 ≤ k → get_or last_actors k [] ≡ []
past_last zero le = absurd (omega arith)
past_last (suc zero) le = absurd (omega arith)
past_last (suc (suc k)) le = refl

pub none_at : (d : Declared) (n k : ℕ) → n ≡ length d.apps + (2 * length d.windows + k) → 2 ≤ k → actor_name d n ≡ []
none_at d n k e le = behind_windows d n k e ∙ past_last k le

-- ---- entries

pub line_written : (old one two new word : List ℕ) (words : List (List ℕ)) → one ≡ old ++ word → two ≡ one ++ behind words → new ≡ two ++ 10 ∷ [] → new ≡ old ++ line_of (word ∷ words)
line_written old one two new word words first second third =
    appended old two new (word ++ behind words) (10 ∷ []) (appended old one two word (behind words) first second) third ∙ ap (λ (text : List ℕ). old ++ text) (sym (line_behind word words))

pub entry_written : {E : Type 0} (r : Result (Unit {0}) E) (d : Declared) (k : ℕ) (e : Entry) (old one two three new : List ℕ) → one ≡ old ++ decimal k → two ≡ one ++ 32 ∷ actor_name d e.actor
    → three ≡ two ++ behind (act_words d e.act) → OnOk r (new ≡ three ++ 10 ∷ []) → OnOk r (new ≡ old ++ line_of (entry_words d k e))
entry_written r d k e old one two three new first second third last =
    let actor = actor_name d e.actor in
    let words = appended one two three (32 ∷ actor) (behind (act_words d e.act)) second third in
    on_ok_map r (new ≡ three ++ 10 ∷ []) (new ≡ old ++ line_of (entry_words d k e)) last (λ end. line_written old one three new (decimal k) (actor ∷ act_words d e.act) first words end)

pub event_written : {E : Type 0} (r : Result (Unit {0}) E) (d : Declared) (k : ℕ) (a b : Option (ℕ × Posted)) (act : Act) (old one two new : List ℕ) → act ≡ Event k a b
    → one ≡ old ++ behind (codes "event" ∷ decimal k ∷ []) → two ≡ one ++ behind (delivery_words d a) → OnOk r (new ≡ two ++ behind (delivery_words d b)) → OnOk r (new ≡ old ++ behind (act_words d act))
unfolding act_words
event_written r d k a b act old one two new is first second last =
    let event = codes "event" ∷ decimal k ∷ [] in
    let all = appended old one two (behind event) (behind (delivery_words d a)) first second in
    let words : (behind event ++ behind (delivery_words d a)) ++ behind (delivery_words d b) ≡ behind (event ++ delivery_words d a ++ delivery_words d b) =
    ap (λ (text : List ℕ). text ++ behind (delivery_words d b)) (sym (behind_append event (delivery_words d a))) ∙ sym (behind_append (event ++ delivery_words d a) (delivery_words d b)) in
    on_ok_map r (new ≡ two ++ behind (delivery_words d b)) (new ≡ old ++ behind (act_words d act)) last
    (λ end. appended old two new (behind event ++ behind (delivery_words d a)) (behind (delivery_words d b)) all end ∙ ap (λ (text : List ℕ). old ++ text) words
    ∙ ap (λ (done : Act). old ++ behind (act_words d done)) (sym is))

-- ---- a history

pub heading_written : (d : Declared) (h : List Entry) (n : ℕ) (old one two new : List ℕ) → n ≡ length h → one ≡ old ++ codes "history" → two ≡ one ++ 32 ∷ decimal n → new ≡ two ++ 10 ∷ []
    → new ++ entries_from d 1 h ≡ old ++ history_text d h
unfolding history_text
heading_written d h n old one two new same first second third =
    let words = second ∙ ap (λ (text : List ℕ). one ++ text) (sym (append-nil (32 ∷ decimal n))) in
    let line = line_written old one two new (codes "history") (decimal n ∷ []) first words third in
    ap (λ (text : List ℕ). text ++ entries_from d 1 h) (line ∙ ap (λ (m : ℕ). old ++ line_of (codes "history" ∷ decimal m ∷ [])) same)
    ∙ append_assoc old (line_of (codes "history" ∷ decimal (length h) ∷ [])) (entries_from d 1 h)

pub entries_go_on : (d : Declared) (h : List Entry) (k : ℕ) (e : Entry) (old new : List ℕ) → k < length h → e ≡ get_or h k e → new ≡ old ++ line_of (entry_words d (k + 1) e)
    → new ++ entries_from d (k + 1 + 1) (drop (k + 1) h) ≡ old ++ entries_from d (k + 1) (drop k h)
unfolding entries_from
entries_go_on d h k e old new within is line =
    let rest = entries_from d (k + 1 + 1) (drop (k + 1) h) in
    ap (λ (text : List ℕ). text ++ rest) line ∙ append_assoc old (line_of (entry_words d (k + 1) e)) rest
    ∙ ap (λ (es : List Entry). old ++ entries_from d (k + 1) es) (sym (drop_more h k e within ∙ ap (λ (x : Entry). x ∷ drop (k + 1) h) (sym is)))

pub all_written : (d : Declared) (h : List Entry) (k n : ℕ) (text all : List ℕ) → text ++ entries_from d k (drop n h) ≡ all → length h ≤ n → text ≡ all
unfolding entries_from
all_written d h k n text all is le = sym (append-nil text) ∙ ap (λ (es : List Entry). text ++ entries_from d k es) (sym (drop_all n h le)) ∙ is
