-- The line of a letter that was taken, piece by piece.
use Rattle.std.proofs.Common.{◌≡◌, ℕ, List, [], ◌∷◌, ◌++◌, codes, refl, sym, ap, ◌∙◌, append_assoc, append-nil}
use Rattle.std.specs.Fmt.{decimal}
use Rattle.be_lex.specs.Codes.{code_text}
use Rattle.be_looper.specs.Duties.{Hand}
use Rattle.be_machine.specs.Activities.{Runner}
use Rattle.be_message.specs.Messages.{Message, all_fields}
use Rattle.be_script.specs.Script.{Declared}
use Rattle.be_written.specs.declared.taken.Taken.{Taken}
use Rattle.be_written.specs.Lines.{line_of}
use Rattle.be_written.specs.MessageText.{fields_text}
use Rattle.be_written.specs.Spelt.{IsSaid}
use Rattle.be_written.specs.Takings.{Tells}
use Rattle.be_written.specs.TraceText.{sender_name, handler_name, route_name, taken_words}
use Rattle.be_written.proofs.WriteLemmas.{line_behind}

row_of_words : (old t n s h b c g r f e : List ℕ) → (((((((((old ++ t) ++ n) ++ s) ++ h) ++ b) ++ c) ++ g) ++ r) ++ f) ++ e
    ≡ old ++ ((t ++ (n ++ (s ++ (h ++ ((b ++ c) ++ (g ++ ((r ++ f) ++ []))))))) ++ e)
row_of_words old t n s h b c g r f e = simp (append_assoc, append-nil {A = ℕ})

-- as the code has the words
line_of_parts : (n hop what : ℕ) (sender handler route fields old one two three four five six seven eight nine new : List ℕ)
    → one ≡ old ++ codes "take" → two ≡ one ++ 32 ∷ decimal n → three ≡ two ++ 32 ∷ sender → four ≡ three ++ 32 ∷ decimal hop
    → five ≡ four ++ codes " " → six ≡ five ++ code_text what → seven ≡ six ++ 32 ∷ handler → eight ≡ seven ++ 32 ∷ route
    → nine ≡ eight ++ fields → new ≡ nine ++ 10 ∷ []
    → new ≡ old ++ line_of (codes "take" ∷ decimal n ∷ sender ∷ decimal hop ∷ code_text what ∷ handler ∷ (route ++ fields) ∷ [])
line_of_parts n hop what sender handler route fields old one two three four five six seven eight nine new a b c d e f g h i j =
    let words = decimal n ∷ sender ∷ decimal hop ∷ code_text what ∷ handler ∷ (route ++ fields) ∷ [] in
    let pages : new ≡ (((((((((old ++ codes "take") ++ 32 ∷ decimal n) ++ 32 ∷ sender) ++ 32 ∷ decimal hop) ++ codes " ") ++ code_text what) ++ 32 ∷ handler) ++ 32 ∷ route) ++ fields) ++ 10 ∷ [] =
    rw (j, i, h, g, f, e, d, c, b, a) refl in
    pages
    ∙ row_of_words old (codes "take") (32 ∷ decimal n) (32 ∷ sender) (32 ∷ decimal hop) (codes " ") (code_text what) (32 ∷ handler) (32 ∷ route) fields (10 ∷ [])
    ∙ ap (λ (text : List ℕ). old ++ text) (sym (line_behind (codes "take") words))

pub taken_line : (d : Declared) (who : Runner) (n hop what : ℕ) (handler route : List ℕ) (taken : Taken)
    (old one two three four five six seven eight nine new : List ℕ)
    → hop ≡ taken.hop → ((m : Message) → IsSaid taken.message m → what ≡ m.what) → handler ≡ handler_name d who taken.target → route ≡ route_name d who taken.route
    → one ≡ old ++ codes "take" → two ≡ one ++ 32 ∷ decimal n → three ≡ two ++ 32 ∷ sender_name d taken.sender → four ≡ three ++ 32 ∷ decimal hop
    → five ≡ four ++ codes " " → six ≡ five ++ code_text what → seven ≡ six ++ 32 ∷ handler → eight ≡ seven ++ 32 ∷ route
    → ((m : Message) → IsSaid taken.message m → nine ≡ eight ++ fields_text (all_fields m.fields)) → new ≡ nine ++ 10 ∷ []
    → (hand : Hand Message) → Tells taken hand → new ≡ old ++ line_of (taken_words d who n hand)
taken_line d who n hop what handler route taken old one two three four five six seven eight nine new same_hop same_what same_handler same_route a b c e f g h i written k hand tells =
    let body : Message = hand.letter.body in
    let fields = fields_text (all_fields body.fields) in
    let word : what ≡ body.what = same_what body tells.message in
    let line = line_of_parts n hop what (sender_name d taken.sender) handler route fields old one two three four five six seven eight nine new a b c e f g h i (written body tells.message) k in
    let same : line_of (codes "take" ∷ decimal n ∷ sender_name d taken.sender ∷ decimal hop ∷ code_text what ∷ handler ∷ (route ++ fields) ∷ [])
    ≡ line_of (taken_words d who n hand) =
    rw (same_hop, word, same_handler, same_route, tells.sender, tells.hop, tells.target, tells.route) refl in
    line ∙ ap (λ (text : List ℕ). old ++ text) same
