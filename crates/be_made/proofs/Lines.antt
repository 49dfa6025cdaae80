-- Lines, as they are put together piece by piece.
use Rattle.std.proofs.Common.{◌≡◌, ℕ, List, [], ◌∷◌, ◌++◌, codes, append_assoc, refl, sym, ap, ◌∙◌}
use Rattle.be_written.specs.Lines.{line_of}

six : (o a b c d e f : List ℕ)
    → (((((o ++ a) ++ b) ++ c) ++ d) ++ e) ++ f ≡ o ++ (a ++ (b ++ (c ++ (d ++ (e ++ f)))))
six o a b c d e f = simp append_assoc

nine : (o a b c d e f g h k : List ℕ)
    → ((((((((o ++ a) ++ b) ++ c) ++ d) ++ e) ++ f) ++ g) ++ h) ++ k
    ≡ o ++ (a ++ (b ++ (c ++ (d ++ (e ++ (f ++ (g ++ (h ++ k))))))))
nine o a b c d e f g h k = simp append_assoc

behind_five : (a b c d e f : List ℕ)
    → (a ++ (b ++ (c ++ (d ++ e)))) ++ f ≡ a ++ (b ++ (c ++ (d ++ (e ++ f))))
behind_five a b c d e f = simp append_assoc

behind_six : (a b c d e f g : List ℕ)
    → (a ++ (b ++ (c ++ (d ++ (e ++ f))))) ++ g ≡ a ++ (b ++ (c ++ (d ++ (e ++ (f ++ g)))))
behind_six a b c d e f g = simp append_assoc

three_lines : (a b c d e f g h k l : List ℕ)
    → ((a ++ ((b ++ c) ++ d)) ++ (e ++ ((f ++ (g ++ h)) ++ k))) ++ l
    ≡ a ++ (b ++ (c ++ (d ++ (e ++ (f ++ (g ++ (h ++ (k ++ l))))))))
three_lines a b c d e f g h k l = simp append_assoc

window_line : (old i l t r b color : List ℕ) → ((((((((old ++ codes "window ") ++ i) ++ 32 ∷ l) ++
    32 ∷ t) ++ 32 ∷ r) ++ 32 ∷ b) ++ codes " color=") ++ color) ++ 10 ∷ [] ≡ old ++ line_of
    (codes "window" ∷ i ∷ l ∷ t ∷ r ∷ b ∷ (codes "color=" ++ color) ∷ [])
unfolding line_of
window_line old i l t r b color =
    nine old (codes "window ") i (32 ∷ l) (32 ∷ t) (32 ∷ r) (32 ∷ b) (codes " color=") color
    (10 ∷ [])
    ∙ ap (λ (rest : List ℕ). old ++ (codes "window " ++ rest))
    (sym (behind_six i (32 ∷ l) (32 ∷ t) (32 ∷ r) (32 ∷ b) (codes " color=" ++ color) (10 ∷ [])))

pub window_written : (old one two three four five six seven eight new i l t r b color : List ℕ) →
    one ≡ old ++ codes "window " → two ≡ one ++ i → three ≡ two ++ 32 ∷ l → four ≡ three ++ 32 ∷ t →
    five ≡ four ++ 32 ∷ r → six ≡ five ++ 32 ∷ b → seven ≡ six ++ codes " color=" →
    eight ≡ seven ++ color → new ≡ eight ++ 10 ∷ [] → new ≡ old ++ line_of (codes "window" ∷ i ∷ l ∷
    t ∷ r ∷ b ∷ (codes "color=" ++ color) ∷ [])
window_written old one two three four five six seven eight new i l t r b color a e f g h k m n p =
    let line = window_line old i l t r b color in cc

body_line : (old i r b : List ℕ) → (((((old ++ codes "draw ") ++ i) ++ (codes " root" ++ 10 ∷ codes
    "fill root 4 4")) ++ 32 ∷ r) ++ 32 ∷ b) ++ (codes " mixed" ++ 10 ∷ codes "end" ++ 10 ∷ []) ≡ old
    ++ (line_of (codes "draw" ∷ i ∷ codes "root" ∷ []) ++ line_of (codes "fill" ∷ codes "root" ∷
    codes "4" ∷ codes "4" ∷ r ∷ b ∷ codes "mixed" ∷ []) ++ line_of (codes "end" ∷ []))
unfolding line_of
body_line old i r b =
    six old (codes "draw ") i (codes " root" ++ 10 ∷ codes "fill root 4 4") (32 ∷ r) (32 ∷ b)
    (codes " mixed" ++ 10 ∷ codes "end" ++ 10 ∷ [])
    ∙ ap (λ (rest : List ℕ). old ++ rest)
    (sym (three_lines (codes "draw ") i (codes " root") (10 ∷ []) (codes "fill root 4 4 ") r
    (32 ∷ b) (codes " mixed") (10 ∷ []) (codes "end" ++ 10 ∷ [])))

pub body_written : (old one two three four five new i r b : List ℕ) → one ≡ old ++ codes "draw " →
    two ≡ one ++ i → three ≡ two ++ (codes " root" ++ 10 ∷ codes "fill root 4 4") →
    four ≡ three ++ 32 ∷ r → five ≡ four ++ 32 ∷ b →
    new ≡ five ++ (codes " mixed" ++ 10 ∷ codes "end" ++ 10 ∷ []) → new ≡ old ++ (line_of (codes
    "draw" ∷ i ∷ codes "root" ∷ []) ++ line_of (codes "fill" ∷ codes "root" ∷ codes "4" ∷ codes "4"
    ∷ r ∷ b ∷ codes "mixed" ∷ []) ++ line_of (codes "end" ∷ []))
body_written old one two three four five new i r b a e f g h k = let line = body_line old i r b in
    cc

app_line : (old j steps : List ℕ) → ((((old ++ codes "app ") ++ j) ++ 10 ∷ []) ++ steps) ++ (codes
    "end" ++ 10 ∷ []) ≡ old ++ (line_of (codes "app" ∷ j ∷ []) ++ steps ++ line_of (codes "end" ∷
    []))
unfolding line_of
app_line old j steps = simp append_assoc

pub app_written : (old one two three four new j steps : List ℕ) → one ≡ old ++ codes "app " →
    two ≡ one ++ j → three ≡ two ++ 10 ∷ [] → four ≡ three ++ steps →
    new ≡ four ++ (codes "end" ++ 10 ∷ []) → new ≡ old ++ (line_of (codes "app" ∷ j ∷ []) ++ steps
    ++ line_of (codes "end" ∷ []))
app_written old one two three four new j steps a e f g h = let line = app_line old j steps in cc

locked_line : (old w command : List ℕ) → ((((old ++ codes "lock ") ++ w) ++ 10 ∷ []) ++ command) ++
    (codes "unlock" ++ 10 ∷ []) ≡ old ++ (line_of (codes "lock" ∷ w ∷ []) ++ command ++ line_of
    (codes "unlock" ∷ []))
unfolding line_of
locked_line old w command = simp append_assoc

pub locked_written : (old one two three four new w command : List ℕ) → one ≡ old ++ codes "lock " →
    two ≡ one ++ w → three ≡ two ++ 10 ∷ [] → four ≡ three ++ command →
    new ≡ four ++ (codes "unlock" ++ 10 ∷ []) → new ≡ old ++ (line_of (codes "lock" ∷ w ∷ []) ++
    command ++ line_of (codes "unlock" ∷ []))
locked_written old one two three four new w command a e f g h = let line = locked_line old w command
    in cc

move_line : (old dx dy : List ℕ) → (((old ++ codes "moveby") ++ 32 ∷ dx) ++ 32 ∷ dy) ++ 10 ∷ [] ≡
    old ++ line_of (codes "moveby" ∷ dx ∷ dy ∷ [])
unfolding line_of
move_line old dx dy = simp append_assoc

pub move_written : (old one two three new dx dy : List ℕ) → one ≡ old ++ codes "moveby" →
    two ≡ one ++ 32 ∷ dx → three ≡ two ++ 32 ∷ dy → new ≡ three ++ 10 ∷ [] → new ≡ old ++ line_of
    (codes "moveby" ∷ dx ∷ dy ∷ [])
move_written old one two three new dx dy a e f g = let line = move_line old dx dy in cc

fill_line : (old l t r b : List ℕ) → (((((old ++ codes "fill root") ++ 32 ∷ l) ++ 32 ∷ t) ++ 32 ∷ r)
    ++ 32 ∷ b) ++ (codes " high" ++ 10 ∷ []) ≡ old ++ line_of (codes "fill" ∷ codes "root" ∷ l ∷ t ∷
    r ∷ b ∷ codes "high" ∷ [])
unfolding line_of
fill_line old l t r b =
    six old (codes "fill root") (32 ∷ l) (32 ∷ t) (32 ∷ r) (32 ∷ b) (codes " high" ++ 10 ∷ [])
    ∙ ap (λ (rest : List ℕ). old ++ (codes "fill root " ++ rest))
    (sym (behind_five l (32 ∷ t) (32 ∷ r) (32 ∷ b) (codes " high") (10 ∷ [])))

pub fill_written : (old one two three four five new l t r b : List ℕ) →
    one ≡ old ++ codes "fill root" → two ≡ one ++ 32 ∷ l → three ≡ two ++ 32 ∷ t →
    four ≡ three ++ 32 ∷ r → five ≡ four ++ 32 ∷ b → new ≡ five ++ (codes " high" ++ 10 ∷ []) → new
    ≡ old ++ line_of (codes "fill" ∷ codes "root" ∷ l ∷ t ∷ r ∷ b ∷ codes "high" ∷ [])
fill_written old one two three four five new l t r b a e f g h k = let line = fill_line old l t r b
    in cc

high_line : (old color : List ℕ) → ((old ++ codes "high root ") ++ color) ++ 10 ∷ [] ≡ old ++
    line_of (codes "high" ∷ codes "root" ∷ color ∷ [])
unfolding line_of
high_line old color = simp append_assoc

pub high_written : (old one two new color : List ℕ) → one ≡ old ++ codes "high root " →
    two ≡ one ++ color → new ≡ two ++ 10 ∷ [] → new ≡ old ++ line_of (codes "high" ∷ codes "root" ∷
    color ∷ [])
high_written old one two new color a e f = let line = high_line old color in cc

press_line : (old x y : List ℕ) → (((old ++ codes "press") ++ 32 ∷ x) ++ 32 ∷ y) ++ 10 ∷ [] ≡ old ++
    line_of (codes "press" ∷ x ∷ y ∷ [])
unfolding line_of
press_line old x y = simp append_assoc

pub press_written : (old one two three new x y : List ℕ) → one ≡ old ++ codes "press" →
    two ≡ one ++ 32 ∷ x → three ≡ two ++ 32 ∷ y → new ≡ three ++ 10 ∷ [] → new ≡ old ++ line_of
    (codes "press" ∷ x ∷ y ∷ [])
press_written old one two three new x y a e f g = let line = press_line old x y in cc

-- ---- lines without numbers

pub show_line : codes "show" ++ 10 ∷ [] ≡ line_of (codes "show" ∷ [])
unfolding line_of
show_line = refl

pub activate_line : codes "activate" ++ 10 ∷ [] ≡ line_of (codes "activate" ∷ [])
unfolding line_of
activate_line = refl

pub screen_line : codes "screen 640 480" ++ 10 ∷ []
    ≡ line_of (codes "screen" ∷ codes "640" ∷ codes "480" ∷ [])
unfolding line_of
screen_line = refl
